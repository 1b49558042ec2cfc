-- The names of a list that is read as a set differ.
use Rattle.std.proofs.Common.{◌≡◌, ℕ, List, [], ◌∷◌, true, false, ◌&&◌, not, Ordering, Less, Equal, Greater, refl, sym, ap, ◌∙◌, bytes_eq}
use Rattle.std.specs.List.{list_all}
use Rattle.std.specs.Ordering.{nat_cmp, match_ordering, ordering_reverse, is_eq}
use Rattle.std.specs.Cmp.Lexicographic.{slice_cmp}
use Rattle.std.proofs.lemmas.Cmp.{nat_list_cmp_total}
use Rattle.std.proofs.lemmas.Map.Text.{is_eq-slice_cmp}
use Rattle.schema_defs.specs.Laws.{IsBelowNext, NamesRise}
use Rattle.schema_defs.specs.Read.{with_name, name_set}
use Rattle.convert_defs.specs.Apart.{differ}

abbrev Names : Type 0
Names = List (List ℕ)

-- a name among names that rise
abbrev Inserted : List ℕ → Names → Names → Type 0
Inserted n ms ns = NamesRise ns × ((k : List ℕ) → IsBelowNext k ms → slice_cmp nat_cmp k n ≡ Less → IsBelowNext k ns)

inserted : (n : List ℕ) (ms : Names) → NamesRise ms → Inserted n ms (with_name n ms)
inserted n [] h = ((tt, tt), λ k b l. l)
inserted n (m ∷ ms) h = by (slice_cmp nat_cmp n m) refl (inserted n ms h.1)
  where
    by : (c : Ordering) → slice_cmp nat_cmp n m ≡ c → Inserted n ms (with_name n ms) → Inserted n (m ∷ ms) (match_ordering c (n ∷ m ∷ ms) (m ∷ ms) (m ∷ with_name n ms))
    by Less l i = ((l, h), λ k b g. g)
    by Equal l i = (h, λ k b g. b)
    by Greater l i = ((i.1 m h.0 (nat_list_cmp_total.antisymm m n ∙ ap ordering_reverse l), i.0), λ k b g. b)

set-rises : (ns : Names) → NamesRise (name_set ns)
set-rises [] = tt
set-rises (n ∷ ns) = (inserted n (name_set ns) (set-rises ns)).0

other : (n m : List ℕ) → slice_cmp nat_cmp n m ≡ Less → bytes_eq n m ≡ false
other n m h = sym (is_eq-slice_cmp n m) ∙ ap is_eq h

below-next : (n m : List ℕ) (ms : Names) → slice_cmp nat_cmp n m ≡ Less → IsBelowNext m ms → IsBelowNext n ms
below-next n m [] h g = tt
below-next n m (k ∷ ms) h g = nat_list_cmp_total.trans n m k h g

none-is : (n : List ℕ) (ms : Names) → IsBelowNext n ms → NamesRise ms → list_all (λ m. not (bytes_eq n m)) ms ≡ true
none-is n [] b h = refl
none-is n (m ∷ ms) b h = let e = ap not (other n m b) in let f = none-is n ms (below-next n m ms b h.0) h.1 in λ i. e i && f i

rise-differ : (ns : Names) → NamesRise ns → differ ns ≡ true
rise-differ [] h = refl
rise-differ (n ∷ ns) h = let e = none-is n ns h.0 h.1 in let f = rise-differ ns h.1 in λ i. e i && f i

pub set-differs : (ns : Names) → differ (name_set ns) ≡ true
set-differs ns = rise-differ (name_set ns) (set-rises ns)
