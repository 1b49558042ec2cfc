-- Names with their places: what is found by a place is what a scan finds.
use Rattle.std.proofs.Common.{◌≡◌, ℕ, zero, suc, List, [], ◌∷◌, ◌++◌, map, filter, slice_get, Bool, true, false, not, ◌&&◌, ◌||◌, cond, Option, Some, None, is_some, option_map, bytes_eq, refl, sym, ap, ◌∙◌, nat_eq}
use Rattle.std.specs.List.{list_any}
use Rattle.std.proofs.lemmas.Slice.Eq.{bytes_eq-Decides}
use mathlib.Core.Bool.{false≢true}
use Rattle.model_defs.specs.Model.{FieldModel, VariantModel, ContainerModel, variant_named, container_named}
use Rattle.model_defs.specs.Layer.{MemberPart, belongs, own_members, other_members, unnamed_members}
use Rattle.name_tables.specs.Names.{Names, place_of}
use Rattle.value_models.specs.Names.{at_one_place, field_names, variant_names, container_names, at_place, is_place, own_at, members_at, members_without_place, FieldsAreFound, VariantsAreFound, ContainersAreFound}

-- ---- the same names, each one place later

abbrev later : Names → Names
later [] = []
later (e ∷ es) = (e.0, suc e.1) ∷ later es

later_joined : (es ds : Names) → later (es ++ ds) ≡ later es ++ later ds
later_joined [] ds = refl
later_joined (e ∷ es) ds = ap (λ cs. (e.0, suc e.1) ∷ cs) (later_joined es ds)

later_one : (i : ℕ) (ns : List (List ℕ)) → at_one_place (suc i) ns ≡ later (at_one_place i ns)
later_one i [] = refl
later_one i (n ∷ ns) = ap (λ es. (n, suc i) ∷ es) (later_one i ns)

later_unless : (b : Bool) (i : ℕ) (ns : List (List ℕ)) → cond b [] (at_one_place (suc i) ns) ≡ later (cond b [] (at_one_place i ns))
later_unless true i ns = refl
later_unless false i ns = later_one i ns

later_fields : (i : ℕ) (fs : List FieldModel) → field_names (suc i) fs ≡ later (field_names i fs)
later_fields i [] = refl
later_fields i (f ∷ fs) =
    (λ k. later_unless f.is_rest i f.deserialize_names k ++ later_fields (suc i) fs k)
    ∙ sym (later_joined (cond f.is_rest [] (at_one_place i f.deserialize_names)) (field_names (suc i) fs))

later_variants : (i : ℕ) (ws : List VariantModel) → variant_names (suc i) ws ≡ later (variant_names i ws)
later_variants i [] = refl
later_variants i (w ∷ ws) =
    (λ k. later_one i w.deserialize_names k ++ later_variants (suc i) ws k) ∙ sym (later_joined (at_one_place i w.deserialize_names) (variant_names (suc i) ws))

later_containers : (i : ℕ) (ms : List ContainerModel) → container_names (suc i) ms ≡ later (container_names i ms)
later_containers i [] = refl
later_containers i (m ∷ ms) = ap (λ es. (m.name, suc i) ∷ es) (later_containers (suc i) ms)

mapped_cond : (b : Bool) (i : ℕ) (o : Option ℕ) → cond b (Some (suc i)) (option_map suc o) ≡ option_map suc (cond b (Some i) o)
mapped_cond true i o = refl
mapped_cond false i o = refl

place_later : (n : List ℕ) (es : Names) → place_of n (later es) ≡ option_map suc (place_of n es)
place_later n [] = refl
place_later n (e ∷ es) = ap (λ o. cond (bytes_eq n e.0) (Some (suc e.1)) o) (place_later n es) ∙ mapped_cond (bytes_eq n e.0) e.1 (place_of n es)

-- ---- the first of several names

either_way : (a b : Bool) (i : ℕ) (o : Option ℕ) → cond a (Some i) (cond b (Some i) o) ≡ cond (a || b) (Some i) o
either_way true b i o = refl
either_way false b i o = refl

place_first : (n : List ℕ) (i : ℕ) (ns : List (List ℕ)) (es : Names) → place_of n (at_one_place i ns ++ es) ≡ cond (list_any (bytes_eq n) ns) (Some i) (place_of n es)
place_first n i [] es = refl
place_first n i (m ∷ ns) es =
    ap (λ o. cond (bytes_eq n m) (Some i) o) (place_first n i ns es) ∙ either_way (bytes_eq n m) (list_any (bytes_eq n) ns) i (place_of n es)

stands_next : {A : Type 0} (x : A) (xs : List A) (o : Option ℕ) → at_place (x ∷ xs) (option_map suc o) ≡ at_place xs o
stands_next x xs None = refl
stands_next x xs (Some i) = refl

-- what stands first, or what stands further
chosen : {A : Type 0} (b : Bool) (x : A) (xs : List A) (o : Option ℕ) → cond b (Some x) (at_place xs o) ≡ at_place (x ∷ xs) (cond b (Some 0) (option_map suc o))
chosen true x xs o = refl
chosen false x xs o = sym (stands_next x xs o)

pub variants_are_found : VariantsAreFound
variants_are_found n [] = refl
variants_are_found n (w ∷ ws) =
    ap (λ o. cond (list_any (bytes_eq n) w.deserialize_names) (Some w) o) (variants_are_found n ws)
    ∙ chosen (list_any (bytes_eq n) w.deserialize_names) w ws (place_of n (variant_names 0 ws))
    ∙ ap (λ o. at_place (w ∷ ws) (cond (list_any (bytes_eq n) w.deserialize_names) (Some 0) o)) (sym (ap (place_of n) (later_variants 0 ws) ∙ place_later n (variant_names 0 ws)))
    ∙ ap (at_place (w ∷ ws)) (sym (place_first n 0 w.deserialize_names (variant_names 1 ws)))

pub containers_are_found : ContainersAreFound
containers_are_found n [] = refl
containers_are_found n (m ∷ ms) =
    ap (λ o. cond (bytes_eq n m.name) (Some m) o) (containers_are_found n ms)
    ∙ chosen (bytes_eq n m.name) m ms (place_of n (container_names 0 ms))
    ∙ ap (λ o. at_place (m ∷ ms) (cond (bytes_eq n m.name) (Some 0) o)) (sym (ap (place_of n) (later_containers 0 ms) ∙ place_later n (container_names 0 ms)))

-- ---- members

same_turned : (a b : List ℕ) → bytes_eq a b ≡ bytes_eq b a
same_turned a b = by (bytes_eq a b) (bytes_eq b a) refl refl
  where
    by : (x y : Bool) → bytes_eq a b ≡ x → bytes_eq b a ≡ y → x ≡ y
    by true true h g = refl
    by false false h g = refl
    by true false h g = sym ((bytes_eq-Decides b a).1 (sym ((bytes_eq-Decides a b).0 h))) ∙ g
    by false true h g = sym h ∙ (bytes_eq-Decides a b).1 (sym ((bytes_eq-Decides b a).0 g))

any_turned : (n : List ℕ) (ns : List (List ℕ)) → list_any (λ m. bytes_eq m n) ns ≡ list_any (bytes_eq n) ns
any_turned n [] = refl
any_turned n (m ∷ ns) = λ k. same_turned m n k || any_turned n ns k

module _ {J : Type 0} where
  filtered : (p q : MemberPart J → Bool) → ((m : MemberPart J) → p m ≡ q m) → (ms : List (MemberPart J)) → filter p ms ≡ filter q ms
  filtered p q h [] = refl
  filtered p q h (m ∷ ms) = λ k. cond (h m k) (m ∷ filtered p q h ms k) (filtered p q h ms k)

  none_filtered : (ms : List (MemberPart J)) → filter (λ m. false) ms ≡ []
  none_filtered [] = refl
  none_filtered (m ∷ ms) = none_filtered ms

  all_filtered : (ms : List (MemberPart J)) → ms ≡ filter (λ m. true) ms
  all_filtered [] = refl
  all_filtered (m ∷ ms) = ap (λ ns. m ∷ ns) (all_filtered ms)

  twice_more : (p q : MemberPart J → Bool) (m : MemberPart J) (ms : List (MemberPart J)) → filter p (filter q ms) ≡ filter (λ m. q m && p m) ms
      → (b : Bool) → filter p (cond b (m ∷ filter q ms) (filter q ms)) ≡ cond (b && p m) (m ∷ filter (λ m. q m && p m) ms) (filter (λ m. q m && p m) ms)
  twice_more p q m ms rest true = ap (λ ns. cond (p m) (m ∷ ns) ns) rest
  twice_more p q m ms rest false = rest

  twice : (p q : MemberPart J → Bool) (ms : List (MemberPart J)) → filter p (filter q ms) ≡ filter (λ m. q m && p m) ms
  twice p q [] = refl
  twice p q (m ∷ ms) = twice_more p q m ms (twice p q ms) (q m)

-- the place of a name among the fields: further on, or first
abbrev further : Bool → Bool → Option ℕ → Option ℕ
further is_rest is_first o = cond is_rest (option_map suc o) (cond is_first (Some 0) (option_map suc o))

place_further : (f : FieldModel) (fs : List FieldModel) (n : List ℕ)
    → place_of n (field_names 0 (f ∷ fs)) ≡ further f.is_rest (list_any (λ m. bytes_eq m n) f.deserialize_names) (place_of n (field_names 0 fs))
place_further f fs n = by f.is_rest ∙ ap (λ b. further f.is_rest b (place_of n (field_names 0 fs))) (sym (any_turned n f.deserialize_names))
  where
    rest : place_of n (field_names 1 fs) ≡ option_map suc (place_of n (field_names 0 fs))
    rest = ap (place_of n) (later_fields 0 fs) ∙ place_later n (field_names 0 fs)

    by : (r : Bool) → place_of n (cond r [] (at_one_place 0 f.deserialize_names) ++ field_names 1 fs) ≡ further r (list_any (bytes_eq n) f.deserialize_names) (place_of n (field_names 0 fs))
    by true = rest
    by false = place_first n 0 f.deserialize_names (field_names 1 fs) ∙ ap (cond (list_any (bytes_eq n) f.deserialize_names) (Some 0)) rest

first_place : (r b : Bool) (o : Option ℕ) → cond r false b ≡ is_place 0 (further r b o)
first_place true b None = refl
first_place true b (Some i) = refl
first_place false true o = refl
first_place false false None = refl
first_place false false (Some i) = refl

next_place : (i : ℕ) (r b : Bool) (o : Option ℕ) → cond r (is_place i o) (not b && is_place i o) ≡ is_place (suc i) (further r b o)
next_place i true b None = refl
next_place i true b (Some j) = refl
next_place i false true o = refl
next_place i false false None = refl
next_place i false false (Some j) = refl

no_place : (r b : Bool) (o : Option ℕ) → cond r (not (is_some o)) (not b && not (is_some o)) ≡ not (is_some (further r b o))
no_place true b None = refl
no_place true b (Some j) = refl
no_place false true o = refl
no_place false false None = refl
no_place false false (Some j) = refl

module _ {J : Type 0} where
  -- the members that are left, and of those the ones that pass
  left_over : (f : FieldModel) (p : MemberPart J → Bool) (ms : List (MemberPart J)) (r : Bool)
      → filter p (cond r ms (other_members f ms)) ≡ filter (λ m. cond r (p m) (not (belongs f m) && p m)) ms
  left_over f p ms true = refl
  left_over f p ms false = twice p (λ m. not (belongs f m)) ms

  pub own_are_found : (fs : List FieldModel) (ms : List (MemberPart J)) (i : ℕ) → own_at i fs ms ≡ members_at i (field_names 0 fs) ms
  own_are_found [] ms i = sym (none_filtered ms)
  own_are_found (f ∷ fs) ms zero = by f.is_rest ∙ filtered (λ m. cond f.is_rest false (belongs f m)) (λ m. is_place 0 (place_of m.name (field_names 0 (f ∷ fs)))) (λ m. first_place f.is_rest (belongs f m) (place_of m.name (field_names 0 fs)) ∙ ap (is_place 0) (sym (place_further f fs m.name))) ms
    where
      by : (r : Bool) → cond r [] (own_members f ms) ≡ filter (λ m. cond r false (belongs f m)) ms
      by true = sym (none_filtered ms)
      by false = refl
  own_are_found (f ∷ fs) ms (suc i) =
      own_are_found fs (cond f.is_rest ms (other_members f ms)) i
      ∙ left_over f (λ m. is_place i (place_of m.name (field_names 0 fs))) ms f.is_rest
      ∙ filtered (λ m. cond f.is_rest (is_place i (place_of m.name (field_names 0 fs))) (not (belongs f m) && is_place i (place_of m.name (field_names 0 fs)))) (λ m. is_place (suc i) (place_of m.name (field_names 0 (f ∷ fs)))) (λ m. next_place i f.is_rest (belongs f m) (place_of m.name (field_names 0 fs)) ∙ ap (is_place (suc i)) (sym (place_further f fs m.name))) ms

  unnamed_turn : (f : FieldModel) (fs : List FieldModel) (ms : List (MemberPart J)) (r : Bool) → cond r (unnamed_members fs ms) (unnamed_members fs (other_members f ms)) ≡ unnamed_members fs (cond r ms (other_members f ms))
  unnamed_turn f fs ms true = refl
  unnamed_turn f fs ms false = refl

  pub unnamed_are_found : (fs : List FieldModel) (ms : List (MemberPart J)) → unnamed_members fs ms ≡ members_without_place (field_names 0 fs) ms
  unnamed_are_found [] ms = all_filtered ms
  unnamed_are_found (f ∷ fs) ms =
      unnamed_turn f fs ms f.is_rest
      ∙ unnamed_are_found fs (cond f.is_rest ms (other_members f ms))
      ∙ left_over f (λ m. not (is_some (place_of m.name (field_names 0 fs)))) ms f.is_rest
      ∙ filtered (λ m. cond f.is_rest (not (is_some (place_of m.name (field_names 0 fs)))) (not (belongs f m) && not (is_some (place_of m.name (field_names 0 fs))))) (λ m. not (is_some (place_of m.name (field_names 0 (f ∷ fs))))) (λ m. no_place f.is_rest (belongs f m) (place_of m.name (field_names 0 fs)) ∙ ap (λ o. not (is_some o)) (sym (place_further f fs m.name))) ms

pub fields_are_found : FieldsAreFound
fields_are_found = record {
  judging = λ fs ms. record { own = own_are_found fs ms; unnamed = unnamed_are_found fs ms };
  refusing = λ fs ms. record { own = own_are_found fs ms; unnamed = unnamed_are_found fs ms };
  writing = λ fs ms. record { own = own_are_found fs ms; unnamed = unnamed_are_found fs ms };
}
