-- The definitions of a document: they are read exactly where their names differ and each is quiet.
use Rattle.std.proofs.Common.{◌≡◌, ℕ, List, [], ◌∷◌, map, Option, Some, None, option_map, Bool, true, false, ◌&&◌, ◌||◌, bytes_eq, true≢false, refl, sym, ap, subst, ◌∙◌}
use Rattle.std.specs.Prelude.{not, is_some, option_and_then}
use Rattle.std.specs.List.{list_any}
use Rattle.std.specs.declared.cmp.Ordering.{Ordering}
use Rattle.std.specs.declared.cmp.Ordering.TheVariants.{Less, Equal, Greater}
use Rattle.std.specs.Ordering.{nat_cmp, match_ordering, ordering_reverse, is_eq}
use Rattle.std.specs.Cmp.Lexicographic.{slice_cmp}
use Rattle.std.proofs.lemmas.Cmp.{nat_list_cmp_total}
use Rattle.std.proofs.lemmas.Map.Text.{is_eq-slice_cmp}
use Rattle.std.proofs.lemmas.Slice.Eq.{bytes_eq-Decides}
use Rattle.json_value.specs.Value as value
use Rattle.json_value.specs.Value.{Value, Members, null, number, fraction, text, list, member, no_members}
use Rattle.schema_defs.specs.Schema.{Schema, Properties, no_properties, property, Definition}
use Rattle.schema_defs.specs.Read.{◌⊛◌, reading, member_readings, properties_of, with_definition, with_definitions}
use Rattle.schema_defs.specs.Laws.{NamesRise, IsBelowNext}
use Rattle.schema_defs.proofs.Stand.{some_same, none_is_not}
use Rattle.schema_faults.specs.Keywords.{names, names_in, are_distinct}
use Rattle.schema_faults.proofs.Objects.{same_truth}

-- ---- names among names

abbrev pub among : List ℕ → List (List ℕ) → Bool
among n ns = list_any (bytes_eq n) ns

-- some name of the first list is among the second
abbrev pub share : List (List ℕ) → List (List ℕ) → Bool
share ns ms = list_any (λ n. among n ms) ns

bytes_eq_sym : (a b : List ℕ) → bytes_eq a b ≡ bytes_eq b a
bytes_eq_sym a b = same_truth (bytes_eq a b) (bytes_eq b a) (λ h. (bytes_eq-Decides b a).1 (sym ((bytes_eq-Decides a b).0 h))) (λ h. (bytes_eq-Decides a b).1 (sym ((bytes_eq-Decides b a).0 h)))

share_none : (ns : List (List ℕ)) → share ns [] ≡ false
share_none [] = refl
share_none (n ∷ ns) = share_none ns

or_swap : (a b c d : Bool) → ((a || b) || (c || d)) ≡ ((a || c) || (b || d))
or_swap true b c d = refl
or_swap false true true d = refl
or_swap false true false d = refl
or_swap false false true d = refl
or_swap false false false d = refl

share_more : (ns ms : List (List ℕ)) (m : List ℕ) → share ns (m ∷ ms) ≡ (among m ns || share ns ms)
share_more [] ms m = refl
share_more (n ∷ ns) ms m =
    (λ i. (bytes_eq_sym n m i || among n ms) || share_more ns ms m i) ∙ or_swap (bytes_eq m n) (among n ms) (among m ns) (share ns ms)

pub share_sym : (ns ms : List (List ℕ)) → share ns ms ≡ share ms ns
share_sym ns [] = share_none ns
share_sym ns (m ∷ ms) = share_more ns ms m ∙ ap (λ b. among m ns || b) (share_sym ns ms)

-- ---- one definition into those that rise

abbrev pub names_of : List Definition → List (List ℕ)
names_of ds = map (λ e. e.name) ds

differs : (n m : List ℕ) (o : Ordering) → slice_cmp nat_cmp n m ≡ o → bytes_eq n m ≡ is_eq o
differs n m o h = sym (is_eq-slice_cmp n m) ∙ ap is_eq h

above_all : (n : List ℕ) (ms : List (List ℕ)) → IsBelowNext n ms → NamesRise ms → among n ms ≡ false
above_all n [] b h = refl
above_all n (m ∷ ms) b h =
    (λ i. differs n m Less b i || among n ms) ∙ above_all n ms (further ms h.0) h.1
  where
    further : (ms : List (List ℕ)) → IsBelowNext m ms → IsBelowNext n ms
    further [] c = tt
    further (l ∷ ms) c = nat_list_cmp_total.trans n m l b c

inserted_some : (e : Definition) (ds : List Definition) → NamesRise (names_of ds) → is_some (with_definition e ds) ≡ not (among e.name (names_of ds))
inserted_some e [] h = refl
inserted_some e (d ∷ ds) h = by_order (slice_cmp nat_cmp e.name d.name) refl (inserted_some e ds h.1)
  where
    mapped : (o : Option (List Definition)) → is_some (option_map (λ es. d ∷ es) o) ≡ is_some o
    mapped None = refl
    mapped (Some es) = refl

    by_order : (o : Ordering) → slice_cmp nat_cmp e.name d.name ≡ o → is_some (with_definition e ds) ≡ not (among e.name (names_of ds))
        → is_some (match_ordering o (Some (e ∷ d ∷ ds)) None (option_map (λ es. d ∷ es) (with_definition e ds))) ≡ not (among e.name (d.name ∷ names_of ds))
    by_order Less l i = sym (ap not (above_all e.name (d.name ∷ names_of ds) l h))
    by_order Equal l i = sym (ap (λ b. not (b || among e.name (names_of ds))) (differs e.name d.name Equal l))
    by_order Greater l i = mapped (with_definition e ds) ∙ i ∙ sym (ap (λ b. not (b || among e.name (names_of ds))) (differs e.name d.name Greater l))

-- what is inserted stands among the names, and they rise
pub record Inserted (e : Definition) (ds es : List Definition) : Type 0 where
  pub rise : NamesRise (names_of es)
  pub below : (n : List ℕ) → IsBelowNext n (names_of ds) → slice_cmp nat_cmp n e.name ≡ Less → IsBelowNext n (names_of es)
  pub named : (n : List ℕ) → among n (names_of es) ≡ (bytes_eq n e.name || among n (names_of ds))

or_exchange : (a b c : Bool) → (a || (b || c)) ≡ (b || (a || c))
or_exchange true true c = refl
or_exchange true false c = refl
or_exchange false b c = refl

inserted : (e : Definition) (ds es : List Definition) → NamesRise (names_of ds) → with_definition e ds ≡ Some es → Inserted e ds es
inserted e [] es h k = subst (Inserted e []) (some_same (e ∷ []) es k) (record { rise = (tt, tt); below = λ n b l. l; named = λ n. refl })
inserted e (d ∷ ds) es h k = by_order (slice_cmp nat_cmp e.name d.name) refl (with_definition e ds) (λ fs g. inserted e ds fs h.1 g) k
  where
    by_order : (c : Ordering) → slice_cmp nat_cmp e.name d.name ≡ c → (o : Option (List Definition)) → ((fs : List Definition) → o ≡ Some fs → Inserted e ds fs)
        → match_ordering c (Some (e ∷ d ∷ ds)) None (option_map (λ es. d ∷ es) o) ≡ Some es → Inserted e (d ∷ ds) es
    by_order Less l o i k = subst (Inserted e (d ∷ ds)) (some_same (e ∷ d ∷ ds) es k) (record { rise = (l, h); below = λ n b m. m; named = λ n. refl })
    by_order Equal l o i k = absurd (none_is_not es k)
    by_order Greater l None i k = absurd (none_is_not es k)
    by_order Greater l (Some fs) i k =
        let r = i fs refl in
        subst (Inserted e (d ∷ ds)) (some_same (d ∷ fs) es k) (record {
          rise = (r.below d.name h.0 (nat_list_cmp_total.antisymm d.name e.name ∙ ap ordering_reverse l), r.rise);
          below = λ n b m. b;
          named = λ n. ap (λ b. bytes_eq n d.name || b) (r.named n) ∙ or_exchange (bytes_eq n d.name) (bytes_eq n e.name) (among n (names_of ds));
        })

-- ---- several definitions

abbrev pub property_names : Properties → List (List ℕ)
property_names no_properties = []
property_names (property k s ps) = k ∷ property_names ps

-- what is known of definitions that were joined to those that rise
abbrev Joins : Properties → List Definition → Option (List Definition) → Type 0
Joins ps ds None = (are_distinct (property_names ps) && not (share (property_names ps) (names_of ds))) ≡ false
Joins ps ds (Some es) =
    ((are_distinct (property_names ps) && not (share (property_names ps) (names_of ds))) ≡ true) × NamesRise (names_of es) × ((n : List ℕ) → among n (names_of es) ≡ (among n (property_names ps) || among n (names_of ds)))

lost : (d s x y : Bool) → (d && not s) ≡ false → ((not x && d) && not (y || s)) ≡ false
lost true true true y h = refl
lost true true false true h = refl
lost true true false false h = refl
lost true false x y h = absurd (true≢false h)
lost false s true y h = refl
lost false s false y h = refl

added : (d s x y : Bool) → (d && not s) ≡ true → ((not x && d) && not (y || s)) ≡ not (x || y)
added true true x y h = absurd (true≢false (sym h))
added true false true y h = refl
added true false false true h = refl
added true false false false h = refl
added false s x y h = absurd (true≢false (sym h))

or_or : (a b c : Bool) → (a || (b || c)) ≡ ((a || b) || c)
or_or true b c = refl
or_or false b c = refl

by_answer : (k : List ℕ) (s : Schema) (b : Bool) (ps : Properties) (ds es : List Definition) (o : Option (List Definition)) → Joins ps ds (Some es)
    → ((fs : List Definition) → o ≡ Some fs → Inserted (record { name = k; under_defs = b; body = s }) es fs) → is_some o ≡ not (among k (names_of es)) → Joins (property k s ps) ds o
by_answer k s b ps ds es o j i e =
    by_case o i (added (are_distinct (property_names ps)) (share (property_names ps) (names_of ds)) (among k (property_names ps)) (among k (names_of ds)) j.0 ∙ ap not (sym (j.2 k)) ∙ sym e)
  where
    by_case : (o : Option (List Definition)) → ((fs : List Definition) → o ≡ Some fs → Inserted (record { name = k; under_defs = b; body = s }) es fs)
        → (are_distinct (k ∷ property_names ps) && not (share (k ∷ property_names ps) (names_of ds))) ≡ is_some o → Joins (property k s ps) ds o
    by_case None i q = q
    by_case (Some fs) i q =
        let r = i fs refl in (q, r.rise, λ n. r.named n ∙ ap (λ b. bytes_eq n k || b) (j.2 n) ∙ or_or (bytes_eq n k) (among n (property_names ps)) (among n (names_of ds)))

one_added : (b : Bool) (k : List ℕ) (s : Schema) (ps : Properties) (ds : List Definition) (o : Option (List Definition)) → Joins ps ds o
    → Joins (property k s ps) ds (option_and_then (with_definition (record { name = k; under_defs = b; body = s })) o)
one_added b k s ps ds None j = lost (are_distinct (property_names ps)) (share (property_names ps) (names_of ds)) (among k (property_names ps)) (among k (names_of ds)) j
one_added b k s ps ds (Some es) j = by_answer k s b ps ds es (with_definition (record { name = k; under_defs = b; body = s }) es) j (λ fs g. inserted (record { name = k; under_defs = b; body = s }) es fs j.1 g) (inserted_some (record { name = k; under_defs = b; body = s }) es j.1)

join : (b : Bool) (ps : Properties) (ds : List Definition) → NamesRise (names_of ds) → Joins ps ds (with_definitions b ps (Some ds))
join b no_properties ds h = (refl, h, λ n. refl)
join b (property k s ps) ds h = one_added b k s ps ds (with_definitions b ps (Some ds)) (join b ps ds h)

same_share : (ns : List (List ℕ)) (f g : List ℕ → Bool) → ((n : List ℕ) → f n ≡ g n) → list_any f ns ≡ list_any g ns
same_share ns f g h = λ i. list_any (λ n. h n i) ns

or_false : (b : Bool) → (b || false) ≡ b
or_false true = refl
or_false false = refl

both_kinds : (a b s : Bool) → (a ≡ false) → false ≡ (b && (a && not s))
both_kinds a true s h = sym (ap (λ a. a && not s) h)
both_kinds a false s h = refl

-- definitions under both keywords are read exactly where no name stands twice
pub joined_some : (ds es : Properties) → is_some (with_definitions true es (with_definitions false ds (Some []))) ≡ (are_distinct (property_names es) && (are_distinct (property_names ds) && not (share (property_names ds) (property_names es))))
joined_some ds es = first_kind (with_definitions false ds (Some [])) (join false ds [] tt)
  where
    no_share : (are_distinct (property_names ds) && not (share (property_names ds) [])) ≡ are_distinct (property_names ds)
    no_share = ap (λ s. are_distinct (property_names ds) && not s) (share_none (property_names ds)) ∙ and_one (are_distinct (property_names ds))
      where
        and_one : (b : Bool) → (b && true) ≡ b
        and_one true = refl
        and_one false = refl

    none_joined : (es : Properties) → with_definitions true es None ≡ None
    none_joined no_properties = refl
    none_joined (property k s ps) = ap (option_and_then (with_definition (record { name = k; under_defs = true; body = s }))) (none_joined ps)

    second_kind : (fs : List Definition) (o : Option (List Definition)) → Joins es fs o → is_some o ≡ (are_distinct (property_names es) && not (share (property_names es) (names_of fs)))
    second_kind fs None j = sym j
    second_kind fs (Some gs) j = sym j.0

    first_kind : (o : Option (List Definition)) → Joins ds [] o → is_some (with_definitions true es o) ≡ (are_distinct (property_names es) && (are_distinct (property_names ds) && not (share (property_names ds) (property_names es))))
    first_kind None j = ap is_some (none_joined es) ∙ both_kinds (are_distinct (property_names ds)) (are_distinct (property_names es)) (share (property_names ds) (property_names es)) (sym no_share ∙ j)
    first_kind (Some fs) j =
        second_kind fs (with_definitions true es (Some fs)) (join true es fs j.1)
        ∙ ap (λ s. are_distinct (property_names es) && not s)
        (same_share (property_names es) (λ n. among n (names_of fs)) (λ n. among n (property_names ds)) (λ n. j.2 n ∙ or_false (among n (property_names ds))) ∙ share_sym (property_names es) (property_names ds))
        ∙ ap (λ a. are_distinct (property_names es) && (a && not (share (property_names ds) (property_names es)))) (sym (sym no_share ∙ j.0))

-- a name stands among those that were joined exactly where it stands under one of the keywords
pub joined_names : (ds es : Properties) (fs : List Definition) → with_definitions true es (with_definitions false ds (Some [])) ≡ Some fs
    → (n : List ℕ) → among n (names_of fs) ≡ (among n (property_names es) || among n (property_names ds))
joined_names ds es fs k n = first_kind (with_definitions false ds (Some [])) (join false ds [] tt) k
  where
    none_joined : (es : Properties) → with_definitions true es None ≡ None
    none_joined no_properties = refl
    none_joined (property k s ps) = ap (option_and_then (with_definition (record { name = k; under_defs = true; body = s }))) (none_joined ps)

    second_kind : (gs : List Definition) (o : Option (List Definition)) → Joins es gs o → o ≡ Some fs → among n (names_of fs) ≡ (among n (property_names es) || among n (names_of gs))
    second_kind gs None j e = absurd (none_is_not fs e)
    second_kind gs (Some hs) j e = sym (ap (λ hs. among n (names_of hs)) (some_same hs fs e)) ∙ j.2 n

    first_kind : (o : Option (List Definition)) → Joins ds [] o → with_definitions true es o ≡ Some fs → among n (names_of fs) ≡ (among n (property_names es) || among n (property_names ds))
    first_kind None j e = absurd (none_is_not fs (sym (none_joined es) ∙ e))
    first_kind (Some gs) j e =
        second_kind gs (with_definitions true es (Some gs)) (join true es gs j.1) e ∙ ap (λ b. among n (property_names es) || b) (j.2 n ∙ or_false (among n (property_names ds)))

-- ---- the names of what is read by name

one_name : (n : List ℕ) (ns : List (List ℕ)) (x : Option Schema) (y : Option Properties) → ((qs : Properties) → y ≡ Some qs → property_names qs ≡ ns)
    → (ps : Properties) → Some (λ s ps. property n s ps) ⊛ x ⊛ y ≡ Some ps → property_names ps ≡ n ∷ ns
one_name n ns None None h ps k = absurd (none_is_not ps k)
one_name n ns (Some s) None h ps k = absurd (none_is_not ps k)
one_name n ns None (Some qs) h ps k = absurd (none_is_not ps k)
one_name n ns (Some s) (Some qs) h ps k = sym (ap property_names (some_same (property n s qs) ps k)) ∙ ap (λ l. n ∷ l) (h qs refl)

member_names : (ms : Members) (ps : Properties) → properties_of (member_readings ms) ≡ Some ps → property_names ps ≡ names ms
member_names no_members ps k = sym (ap property_names (some_same no_properties ps k))
member_names (member n v ms) ps k = one_name n (names ms) (reading v).as_schema (properties_of (member_readings ms)) (member_names ms) ps k

-- what is read by name has the names of the members
pub named_names : (v : Value) (ps : Properties) → (reading v).as_named ≡ Some ps → property_names ps ≡ names_in (Some v)
named_names null ps k = absurd (none_is_not ps k)
named_names (value.boolean b) ps k = absurd (none_is_not ps k)
named_names (number z) ps k = absurd (none_is_not ps k)
named_names fraction ps k = absurd (none_is_not ps k)
named_names (text s) ps k = absurd (none_is_not ps k)
named_names (list xs) ps k = absurd (none_is_not ps k)
named_names (value.object ms) ps k = member_names ms ps k
