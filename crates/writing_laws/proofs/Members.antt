-- Members whose names pass a test, and members that are put one after another.
use Rattle.std.proofs.Common.{◌≡◌, ℕ, List, [], ◌∷◌, Bool, true, false, ◌&&◌, cond, refl, sym, ap, ◌∙◌, subst}
use Rattle.std.proofs.lemmas.Cmp.{nat_list_cmp_total}
use Rattle.std.specs.Ordering.{nat_cmp, ordering_reverse}
use Rattle.std.specs.Cmp.Lexicographic.{slice_cmp}
use Rattle.std.specs.declared.cmp.Ordering.{Ordering}
use Rattle.std.specs.declared.cmp.Ordering.TheVariants.{Less, Equal, Greater}
use Rattle.json_value.specs.Value.{Value, Members, member, no_members, entries, members, IsBelowFirst}
use Rattle.model_defs.specs.Settled.{placed, put, put_all}
use Rattle.model_defs.specs.Flat.{MembersRise}
use Rattle.model_defs.proofs.Rising.{below_next, agree}

abbrev order : List ℕ → List ℕ → Ordering
order k l = slice_cmp nat_cmp k l

-- ---- the members whose names pass

abbrev pub those : (List ℕ → Bool) → Members → Members
those p no_members = no_members
those p (member k v ms) = cond (p k) (member k v (those p ms)) (those p ms)

pub those_same : (p q : List ℕ → Bool) (ms : Members) → ((n : List ℕ) → p n ≡ q n) → those p ms ≡ those q ms
those_same p q ms h = λ i. those (λ n. h n i) ms

pub those_those : (p q : List ℕ → Bool) (ms : Members) → those p (those q ms) ≡ those (λ n. p n && q n) ms
those_those p q no_members = refl
those_those p q (member k v ms) = by (p k) (q k) refl (those_those p q ms)
  where
    by : (a b : Bool) → p k ≡ a → those p (those q ms) ≡ those (λ n. p n && q n) ms
        → those p (cond b (member k v (those q ms)) (those q ms)) ≡ cond (a && b) (member k v (those (λ n. p n && q n) ms)) (those (λ n. p n && q n) ms)
    by true true e rec = (λ i. cond (e i) (member k v (those p (those q ms))) (those p (those q ms))) ∙ ap (λ z. member k v z) rec
    by true false e rec = rec
    by false true e rec = (λ i. cond (e i) (member k v (those p (those q ms))) (those p (those q ms))) ∙ rec
    by false false e rec = rec

abbrev pub AllPass : (List ℕ → Bool) → Members → Type 0
AllPass p no_members = Unit {0}
AllPass p (member k v ms) = (p k ≡ true) × AllPass p ms

pub those_all : (p : List ℕ → Bool) (ms : Members) → AllPass p ms → those p ms ≡ ms
those_all p no_members h = refl
those_all p (member k v ms) h = ap (λ b. cond b (member k v (those p ms)) (those p ms)) h.0 ∙ ap (λ z. member k v z) (those_all p ms h.1)

pub those_pass : (p : List ℕ → Bool) (ms : Members) → AllPass p (those p ms)
those_pass p no_members = tt
those_pass p (member k v ms) = by (p k) refl (those_pass p ms)
  where
    by : (b : Bool) → p k ≡ b → AllPass p (those p ms) → AllPass p (cond b (member k v (those p ms)) (those p ms))
    by true e rec = (e, rec)
    by false e rec = rec

pub pass_those : (p q : List ℕ → Bool) (ms : Members) → AllPass p ms → AllPass p (those q ms)
pass_those p q no_members h = tt
pass_those p q (member k v ms) h = by (q k) (pass_those p q ms h.1)
  where
    by : (b : Bool) → AllPass p (those q ms) → AllPass p (cond b (member k v (those q ms)) (those q ms))
    by true rec = (h.0, rec)
    by false rec = rec

pub pass_both : (p q : List ℕ → Bool) (ms : Members) → AllPass p ms → AllPass q ms → AllPass (λ n. p n && q n) ms
pass_both p q no_members g h = tt
pass_both p q (member k v ms) g h = ((λ i. g.0 i && h.0 i), pass_both p q ms g.1 h.1)

pub all_pass : (ms : Members) → AllPass (λ n. true) ms
all_pass no_members = tt
all_pass (member k v ms) = (refl, all_pass ms)

below_those : (p : List ℕ → Bool) (k : List ℕ) (ms : Members) → IsBelowFirst k ms → MembersRise ms → IsBelowFirst k (those p ms)
below_those p k no_members b h = tt
below_those p k (member l v ms) b h = by (p l) (below_those p k ms (below_next k l ms b h.0) h.1)
  where
    by : (z : Bool) → IsBelowFirst k (those p ms) → IsBelowFirst k (cond z (member l v (those p ms)) (those p ms))
    by true rec = b
    by false rec = rec

pub those_rise : (p : List ℕ → Bool) (ms : Members) → MembersRise ms → MembersRise (those p ms)
those_rise p no_members h = tt
those_rise p (member k v ms) h = by (p k) (those_rise p ms h.1)
  where
    by : (z : Bool) → MembersRise (those p ms) → MembersRise (cond z (member k v (those p ms)) (those p ms))
    by true rec = (below_those p k ms h.0 h.1, rec)
    by false rec = rec

-- ---- a member put among them

pub put_out : (p : List ℕ → Bool) (n : List ℕ) (v : Value) (ms : Members) → p n ≡ false → those p (put n v ms) ≡ those p ms
put_out p n v no_members e = ap (λ b. cond b (member n v no_members) no_members) e
put_out p n v (member l w ms) e =
    let rec = put_out p n v ms e in
    elim (order n l) as (λ o. order n l ≡ o → those p (placed o (member n v (member l w ms)) (member n v ms) (member l w (put n v ms))) ≡ cond (p l) (member l w (those p ms)) (those p ms)) [
      | Less ↦ λ h. ap (λ b. cond b (member n v (cond (p l) (member l w (those p ms)) (those p ms))) (cond (p l) (member l w (those p ms)) (those p ms))) e
      | Equal ↦ λ h. ap (λ b. cond b (member n v (those p ms)) (those p ms)) e ∙ sym (ap (λ b. cond b (member l w (those p ms)) (those p ms)) (sym (ap p (agree n l h)) ∙ e))
      | Greater ↦ λ h. ap (λ z. cond (p l) (member l w z) z) rec
    ] refl

none_first : (b : Bool) (k : List ℕ) (v : Value) (a c : Members) → cond b (member k v a) c ≡ no_members → (b ≡ false) × (c ≡ no_members)
none_first true k v a c e = cc
none_first false k v a c e = (refl, e)

pub put_in : (p : List ℕ → Bool) (n : List ℕ) (v : Value) (ms : Members) → p n ≡ true → those p ms ≡ no_members → those p (put n v ms) ≡ member n v no_members
put_in p n v no_members e h = ap (λ b. cond b (member n v no_members) no_members) e
put_in p n v (member l w ms) e h =
    let none = none_first (p l) l w (those p ms) (those p ms) h in
    let rec = put_in p n v ms e none.1 in
    elim (order n l) as (λ o. those p (placed o (member n v (member l w ms)) (member n v ms) (member l w (put n v ms))) ≡ member n v no_members) [
      | Less ↦ (λ i. cond (e i) (member n v (h i)) (h i))
      | Equal ↦ (λ i. cond (e i) (member n v (none.1 i)) (none.1 i))
      | Greater ↦ ap (λ b. cond b (member l w (those p (put n v ms))) (those p (put n v ms))) none.0 ∙ rec
    ]

-- ---- members that rise, put one after another

abbrev pub after : Members → Members → Members
after no_members b = b
after (member k v a) b = member k v (after a b)

after_none : (a : Members) → after a no_members ≡ a
after_none no_members = refl
after_none (member k v a) = ap (λ z. member k v z) (after_none a)

after_one : (a : Members) (k : List ℕ) (v : Value) (b : Members) → after (after a (member k v no_members)) b ≡ after a (member k v b)
after_one no_members k v b = refl
after_one (member l w a) k v b = ap (λ z. member l w z) (after_one a k v b)

below_after : (l : List ℕ) (a : Members) (k : List ℕ) (v : Value) (b : Members) → IsBelowFirst l (after a (member k v b)) → MembersRise (after a (member k v b)) → order l k ≡ Less
below_after l no_members k v b h r = h
below_after l (member m w a) k v b h r = nat_list_cmp_total.trans l m k h (below_after m a k v b r.0 r.1)

above : (l k : List ℕ) → order l k ≡ Less → order k l ≡ Greater
above l k e = nat_list_cmp_total.antisymm k l ∙ ap ordering_reverse e

put_last : (a : Members) (k : List ℕ) (v : Value) (b : Members) → MembersRise (after a (member k v b)) → put k v a ≡ after a (member k v no_members)
put_last no_members k v b r = refl
put_last (member l w a) k v b r =
    ap (λ o. placed o (member k v (member l w a)) (member k v a) (member l w (put k v a))) (above l k (below_after l a k v b r.0 r.1))
    ∙ ap (λ z. member l w z) (put_last a k v b r.1)

put_after : (a b : Members) → MembersRise (after a b) → put_all (entries b) a ≡ after a b
put_after a no_members r = sym (after_none a)
put_after a (member k v b) r =
    ap (put_all (entries b)) (put_last a k v b r)
    ∙ put_after (after a (member k v no_members)) b (subst MembersRise (sym (after_one a k v b)) r)
    ∙ after_one a k v b

pub entries_back : (es : List (List ℕ × Value)) → entries (members es) ≡ es
entries_back [] = refl
entries_back (e ∷ es) = ap (λ z. e ∷ z) (entries_back es)

pub put_rising : (es : List (List ℕ × Value)) → MembersRise (members es) → put_all es no_members ≡ members es
put_rising es r = ap (λ z. put_all z no_members) (sym (entries_back es)) ∙ put_after no_members (members es) r
