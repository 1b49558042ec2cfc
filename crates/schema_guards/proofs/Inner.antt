-- The references of a schema at one value, and the schemas inside it that have them.
use Rattle.std.proofs.Common.{◌≡◌, ℕ, suc, ◌≤◌, length, List, [], ◌∷◌, ◌++◌, sym, ap, subst, inl, inr, arith, refl}
use Rattle.std.specs.Prelude.{Option, Some, None, Contains, ◌⊎◌, ◌||◌, Bool, false, bytes_eq, option_to_list, codes}
use Rattle.std.proofs.lemmas.List.Elements.{Contains-append_left, Contains-append_right, Contains-append_cases}
use Rattle.schema_defs.specs.Location.{Step, Location, place}
use Rattle.schema_defs.specs.Schema.{Schema, boolean, object, Same, no_same, same_value, MaybeSchema, no_schema, the_schema, MaybeSchemas, no_list, the_list, Schemas, no_more, schema}
use Rattle.schema_defs.specs.Children.{Child, reference_of, children_of_maybe, children_from, children_of_list, children_of_same, same_children}
use Rattle.schema_defs.specs.References.{same_references, references_of_same, references_of_list, references_of_maybe, references_of_all}
use Rattle.schema_defs.proofs.Stand.{none_in, first_or_rest, first_in, rest_in, none_is_not, some_same, at_place}

-- ---- the references of a child are its owner's

module _ (q : List ℕ) where
  own_given : (o : Option (List ℕ)) → o ≡ Some q → Contains (option_to_list o) q
  own_given None e = absurd (none_is_not q e)
  own_given (Some p) e = subst (λ p. Contains (p ∷ []) q) (sym (some_same p q e)) (first_in q [])

  pub own_reference : (s : Schema) → reference_of s ≡ Some q → Contains (same_references s) q
  own_reference (boolean b) e = absurd (none_is_not q e)
  own_reference (object p ss ls ns) e = Contains-append_left (option_to_list p.reference) (references_of_same ss) q (own_given p.reference e)

  of_all : (w : Step) (i : ℕ) (ss : Schemas) (c : Child) → Contains (children_from w i ss) c → Contains (same_references c.1) q → Contains (references_of_all ss) q
  of_all w i no_more c k h = absurd (none_in c k)
  of_all w i (schema s ss) c k h =
      elim (first_or_rest (w ∷ place i ∷ [], s) (children_from w (suc i) ss) c k) [
        | inl e ↦ Contains-append_left (same_references s) (references_of_all ss) q (subst (λ c. Contains (same_references c.1) q) (sym e) h)
        | inr g ↦ Contains-append_right (same_references s) (references_of_all ss) q (of_all w (suc i) ss c g h)
      ]

  of_list : (w : Step) (m : MaybeSchemas) (c : Child) → Contains (children_of_list w m) c → Contains (same_references c.1) q → Contains (references_of_list m) q
  of_list w no_list c k h = absurd (none_in c k)
  of_list w (the_list ss) c k h = of_all w 0 ss c k h

  of_maybe : (w : Step) (m : MaybeSchema) (c : Child) → Contains (children_of_maybe w m) c → Contains (same_references c.1) q → Contains (references_of_maybe m) q
  of_maybe w no_schema c k h = absurd (none_in c k)
  of_maybe w (the_schema s) c k h =
      elim (first_or_rest (w ∷ [], s) [] c k) [
        | inl e ↦ subst (λ c. Contains (same_references c.1) q) (sym e) h
        | inr g ↦ absurd (none_in c g)
      ]

  of_same : (ss : Same) (c : Child) → Contains (children_of_same ss) c → Contains (same_references c.1) q → Contains (references_of_same ss) q
  of_same no_same c k h = absurd (none_in c k)
  of_same (same_value all any one none conditional) c k h =
      let a = children_of_list (codes "allOf") all in
      let b = children_of_list (codes "anyOf") any in
      let o = children_of_list (codes "oneOf") one in
      let ra = references_of_list all in
      let rb = references_of_list any in
      let ro = references_of_list one in
      let rn = references_of_maybe none in
      elim (Contains-append_cases (a ++ b ++ o) (children_of_maybe (codes "not") none) c k) [
        | inr g ↦ Contains-append_right (ra ++ rb ++ ro) rn q (of_maybe (codes "not") none c g h)
        | inl k ↦ Contains-append_left (ra ++ rb ++ ro) rn q (elim (Contains-append_cases (a ++ b) o c k) [
          | inr g ↦ Contains-append_right (ra ++ rb) ro q (of_list (codes "oneOf") one c g h)
          | inl k ↦ Contains-append_left (ra ++ rb) ro q (elim (Contains-append_cases a b c k) [
            | inr g ↦ Contains-append_right ra rb q (of_list (codes "anyOf") any c g h)
            | inl g ↦ Contains-append_left ra rb q (of_list (codes "allOf") all c g h)
          ])
        ])
      ]

  pub child_reference : (s : Schema) (c : Child) → Contains (same_children s) c → Contains (same_references c.1) q → Contains (same_references s) q
  child_reference (boolean b) c k h = absurd (none_in c k)
  child_reference (object p ss ls ns) c k h = Contains-append_right (option_to_list p.reference) (references_of_same ss) q (of_same ss c k h)

-- ---- each reference of a schema is its own, or that of a child

-- a child that has the reference
abbrev pub InChild : List ℕ → List Child → Type 0
InChild q cs = (c : Child) × Contains cs c × Contains (same_references c.1) q

in_left : (q : List ℕ) (cs es : List Child) → InChild q cs → InChild q (cs ++ es)
in_left q cs es x = (x.0, Contains-append_left cs es x.0 x.1, x.2)

in_right : (q : List ℕ) (cs es : List Child) → InChild q es → InChild q (cs ++ es)
in_right q cs es x = (x.0, Contains-append_right cs es x.0 x.1, x.2)

module _ (q : List ℕ) where
  from_all : (w : Step) (i : ℕ) (ss : Schemas) → Contains (references_of_all ss) q → InChild q (children_from w i ss)
  from_all w i no_more h = absurd (none_in q h)
  from_all w i (schema s ss) h =
      elim (Contains-append_cases (same_references s) (references_of_all ss) q h) [
        | inl g ↦ ((w ∷ place i ∷ [], s), first_in (w ∷ place i ∷ [], s) (children_from w (suc i) ss), g)
        | inr g ↦ let x = from_all w (suc i) ss g in (x.0, rest_in (w ∷ place i ∷ [], s) (children_from w (suc i) ss) x.0 x.1, x.2)
      ]

  from_list : (w : Step) (m : MaybeSchemas) → Contains (references_of_list m) q → InChild q (children_of_list w m)
  from_list w no_list h = absurd (none_in q h)
  from_list w (the_list ss) h = from_all w 0 ss h

  from_maybe : (w : Step) (m : MaybeSchema) → Contains (references_of_maybe m) q → InChild q (children_of_maybe w m)
  from_maybe w no_schema h = absurd (none_in q h)
  from_maybe w (the_schema s) h = ((w ∷ [], s), first_in (w ∷ [], s) [], h)

  from_same : (ss : Same) → Contains (references_of_same ss) q → InChild q (children_of_same ss)
  from_same no_same h = absurd (none_in q h)
  from_same (same_value all any one none conditional) h =
      let a = children_of_list (codes "allOf") all in
      let b = children_of_list (codes "anyOf") any in
      let o = children_of_list (codes "oneOf") one in
      let n = children_of_maybe (codes "not") none in
      let ra = references_of_list all in
      let rb = references_of_list any in
      let ro = references_of_list one in
      elim (Contains-append_cases (ra ++ rb ++ ro) (references_of_maybe none) q h) [
        | inr g ↦ in_right q (a ++ b ++ o) n (from_maybe (codes "not") none g)
        | inl k ↦ in_left q (a ++ b ++ o) n (elim (Contains-append_cases (ra ++ rb) ro q k) [
          | inr g ↦ in_right q (a ++ b) o (from_list (codes "oneOf") one g)
          | inl k ↦ in_left q (a ++ b) o (elim (Contains-append_cases ra rb q k) [
            | inr g ↦ in_right q a b (from_list (codes "anyOf") any g)
            | inl g ↦ in_left q a b (from_list (codes "allOf") all g)
          ])
        ])
      ]

  given_own : (o : Option (List ℕ)) → Contains (option_to_list o) q → o ≡ Some q
  given_own None h = absurd (none_in q h)
  given_own (Some p) h = elim (first_or_rest p [] q h) [ inl e ↦ ap (λ x. Some x) e | inr g ↦ absurd (none_in q g) ]

  pub own_or_child : (s : Schema) → Contains (same_references s) q → (reference_of s ≡ Some q) ⊎ InChild q (same_children s)
  own_or_child (boolean b) h = absurd (none_in q h)
  own_or_child (object p ss ls ns) h =
      elim (Contains-append_cases (option_to_list p.reference) (references_of_same ss) q h) [
        | inl g ↦ inl (given_own p.reference g)
        | inr g ↦ inr (from_same ss g)
      ]

-- ---- a child stands further on

list_further : (w : Step) (m : MaybeSchemas) (c : Child) → Contains (children_of_list w m) c → 1 ≤ length c.0
list_further w no_list c h = absurd (none_in c h)
list_further w (the_list ss) c h = let r = at_place w 0 ss c h in rw r.2 (omega arith)

maybe_further : (w : Step) (m : MaybeSchema) (c : Child) → Contains (children_of_maybe w m) c → 1 ≤ length c.0
maybe_further w no_schema c h = absurd (none_in c h)
maybe_further w (the_schema s) c h =
    elim (first_or_rest (w ∷ [], s) [] c h) [
      | inl e ↦ subst (λ c. 1 ≤ length c.0) e (omega arith)
      | inr g ↦ absurd (none_in c g)
    ]

same_further : (ss : Same) (c : Child) → Contains (children_of_same ss) c → 1 ≤ length c.0
same_further no_same c h = absurd (none_in c h)
same_further (same_value all any one none conditional) c h =
    let a = children_of_list (codes "allOf") all in
    let b = children_of_list (codes "anyOf") any in
    let o = children_of_list (codes "oneOf") one in
    elim (Contains-append_cases (a ++ b ++ o) (children_of_maybe (codes "not") none) c h) [
      | inr g ↦ maybe_further (codes "not") none c g
      | inl h ↦ elim (Contains-append_cases (a ++ b) o c h) [
        | inr g ↦ list_further (codes "oneOf") one c g
        | inl h ↦ elim (Contains-append_cases a b c h) [
          | inr g ↦ list_further (codes "anyOf") any c g
          | inl g ↦ list_further (codes "allOf") all c g
        ]
      ]
    ]

pub further : (s : Schema) (c : Child) → Contains (same_children s) c → 1 ≤ length c.0
further (boolean b) c h = absurd (none_in c h)
further (object p ss ls ns) c h = same_further ss c h

-- ---- a child's steps begin with no word of definitions

abbrev pub is_word : Step → Bool
is_word k = bytes_eq k (codes "definitions") || bytes_eq k (codes "$defs")

abbrev pub IsApart : Location → Type 0
IsApart [] = Unit {0}
IsApart (k ∷ ks) = is_word k ≡ false

pub apart-append : (l m : Location) → IsApart l → IsApart m → IsApart (l ++ m)
apart-append [] m h k = k
apart-append (x ∷ l) m h k = h

list_apart : (w : Step) → is_word w ≡ false → (m : MaybeSchemas) (c : Child) → Contains (children_of_list w m) c → IsApart c.0
list_apart w e no_list c h = absurd (none_in c h)
list_apart w e (the_list ss) c h = subst IsApart (sym (at_place w 0 ss c h).2) e

maybe_apart : (w : Step) → is_word w ≡ false → (m : MaybeSchema) (c : Child) → Contains (children_of_maybe w m) c → IsApart c.0
maybe_apart w e no_schema c h = absurd (none_in c h)
maybe_apart w e (the_schema s) c h =
    elim (first_or_rest (w ∷ [], s) [] c h) [
      | inl f ↦ subst (λ c. IsApart c.0) f e
      | inr g ↦ absurd (none_in c g)
    ]

same_apart : (ss : Same) (c : Child) → Contains (children_of_same ss) c → IsApart c.0
same_apart no_same c h = absurd (none_in c h)
same_apart (same_value all any one none conditional) c h =
    let a = children_of_list (codes "allOf") all in
    let b = children_of_list (codes "anyOf") any in
    let o = children_of_list (codes "oneOf") one in
    elim (Contains-append_cases (a ++ b ++ o) (children_of_maybe (codes "not") none) c h) [
      | inr g ↦ maybe_apart (codes "not") refl none c g
      | inl h ↦ elim (Contains-append_cases (a ++ b) o c h) [
        | inr g ↦ list_apart (codes "oneOf") refl one c g
        | inl h ↦ elim (Contains-append_cases a b c h) [
          | inr g ↦ list_apart (codes "anyOf") refl any c g
          | inl g ↦ list_apart (codes "allOf") refl all c g
        ]
      ]
    ]

pub child_apart : (s : Schema) (c : Child) → Contains (same_children s) c → IsApart c.0
child_apart (boolean b) c h = absurd (none_in c h)
child_apart (object p ss ls ns) c h = same_apart ss c h
