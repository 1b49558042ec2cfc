-- Items within the forms have fit models.
use Rattle.std.proofs.Common.{◌≡◌, ℕ, List, [], ◌∷◌, ◌++◌, map, Bool, true, false, not, ◌&&◌, ◌||◌, Option, Some, None, option_map, refl, sym, ap, ◌∙◌}
use Rattle.std.specs.List.{list_any, list_all, flat_map, filter_map, cons_option}
use Rattle.token_trees.specs.Token.{Name}
use Rattle.syntax_trees.specs.Item.{ItemD}
use Rattle.attr_parts.specs.declared.derive.Derive.{Derive}
use Rattle.attr_defs.specs.Container.{container_attrs}
use Rattle.attr_defs.specs.Renames.{Meaning}
use Rattle.attr_defs.specs.Texts.{Lexing}
use Rattle.model_defs.specs.Model.{ConversionsD, ContainerModel}
use Rattle.typed_defs.specs.Fit.{are_fields_fit, is_variant_fit, is_body_fit, are_models_fit}
use Rattle.reading_defs.specs.Proper.{is_newtype, are_rules_fit, body_has_shape, have_shapes}
use Rattle.container_defs.specs.Checks.{is_one, marked}
use Rattle.container_defs.specs.Container.{ReadField, ReadVariant, ReadData, read_enum, read_struct, ReadContainer, all_fields}
use Rattle.container_defs.specs.Model.{model_of}
use Rattle.container_defs.specs.Reading.{data_of, container_with}
use Rattle.container_defs.specs.Reader.{variant_model, body_model, reader_model, item_model, item_models}
use Rattle.container_defs.specs.Forms as forms
use Rattle.container_defs.specs.Forms.{has_odd_emptiness, has_odd_some, has_odd_whole, is_odd_rest, names_of, is_outside, leaves_forms, are_inside, rules_of}
use Rattle.form_laws.specs.Laws.{AreFit}
use Rattle.form_laws.proofs.Fields.{first_false, then_false, both_true, NoneOdd, fields_fit}
use Rattle.form_laws.proofs.Rules.{rule_fits}
use Rattle.form_laws.proofs.Shapes.{HasShape, data_shape}

-- ---- tests that nothing passes

abbrev NoneOf : {A : Type 0} → (A → Bool) → List A → Type 0
NoneOf test [] = Unit {0}
NoneOf test (a ∷ xs) = (test a ≡ false) × NoneOf test xs

none_of : {A : Type 0} (test : A → Bool) (xs : List A) → list_any test xs ≡ false → NoneOf test xs
none_of test [] h = tt
none_of test (a ∷ xs) h = (first_false (test a) (list_any test xs) h, none_of test xs (then_false (test a) (list_any test xs) h))

module _ {A : Type 0} (test : A → Bool) where
  front_none : (xs ys : List A) → list_any test (xs ++ ys) ≡ false → list_any test xs ≡ false
  front_none [] ys h = refl
  front_none (x ∷ xs) ys h = ap (λ b. b || list_any test xs) (first_false (test x) (list_any test (xs ++ ys)) h) ∙ front_none xs ys (then_false (test x) (list_any test (xs ++ ys)) h)

  back_none : (xs ys : List A) → list_any test (xs ++ ys) ≡ false → list_any test ys ≡ false
  back_none [] ys h = h
  back_none (x ∷ xs) ys h = back_none xs ys (then_false (test x) (list_any test (xs ++ ys)) h)

-- ---- bodies

first_fields : (v : ReadVariant) (vs : List ReadVariant) → NoneOdd (flat_map (λ w. w.fields) (v ∷ vs)) → NoneOdd v.fields
first_fields v vs n = let rest = flat_map (λ w. w.fields) vs in record {
  emptiness = front_none has_odd_emptiness v.fields rest n.emptiness;
  some = front_none has_odd_some v.fields rest n.some;
  whole = front_none has_odd_whole v.fields rest n.whole;
  rest = front_none is_odd_rest v.fields rest n.rest;
}

later_fields : (v : ReadVariant) (vs : List ReadVariant) → NoneOdd (flat_map (λ w. w.fields) (v ∷ vs)) → NoneOdd (flat_map (λ w. w.fields) vs)
later_fields v vs n = let rest = flat_map (λ w. w.fields) vs in record {
  emptiness = back_none has_odd_emptiness v.fields rest n.emptiness;
  some = back_none has_odd_some v.fields rest n.some;
  whole = back_none has_odd_whole v.fields rest n.whole;
  rest = back_none is_odd_rest v.fields rest n.rest;
}

variants_fit : (vs : List ReadVariant) → NoneOdd (flat_map (λ w. w.fields) vs) → list_all is_variant_fit (map variant_model vs) ≡ true
variants_fit [] n = refl
variants_fit (v ∷ vs) n = both_true (is_variant_fit (variant_model v)) (list_all is_variant_fit (map variant_model vs)) (fields_fit v.fields (first_fields v vs n)) (variants_fit vs (later_fields v vs n))

body_fits : (c : ReadContainer) (d : ReadData) → NoneOdd (all_fields d) → is_body_fit (body_model c.attrs.tag d) ≡ true
body_fits c (read_enum vs) n = variants_fit vs n
body_fits c (read_struct s fs) n = fields_fit fs n

-- ---- containers

module _ (items : List (List ℕ)) (k : ConversionsD) where
  abbrev causes : List (ReadContainer → Bool)
  causes =
      forms.is_generic
      ∷ forms.is_remote
      ∷ forms.has_from
      ∷ forms.has_into
      ∷ forms.has_a_getter
      ∷ forms.has_bound
      ∷ forms.has_container_default
      ∷ forms.is_tagged_struct
      ∷ forms.is_an_identifier
      ∷ forms.has_other
      ∷ forms.has_untagged_variant
      ∷ forms.has_skip
      ∷ forms.has_serialize_with
      ∷ forms.has_other_deserialize_with
      ∷ forms.has_other_condition
      ∷ forms.has_unknown_default items k
      ∷ forms.has_odd_flatten
      ∷ forms.has_odd_rest
      ∷ forms.is_transparent_with_names
      ∷ forms.has_odd_try_from items k
      ∷ forms.has_nameless_extras
      ∷ forms.has_unknown_type items k
      ∷ forms.is_named_twice items k
      ∷ forms.has_some_elsewhere
      ∷ forms.has_whole_with_default
      ∷ forms.has_text_rule_elsewhere items k
      ∷ forms.has_repeated_name
      ∷ forms.has_unread_beside_rest
      ∷ forms.has_half_emptiness
      ∷ forms.has_no_row
      ∷ []

  abbrev from_rest : List (ReadContainer → Bool)
  from_rest =
      forms.has_odd_rest
      ∷ forms.is_transparent_with_names
      ∷ forms.has_odd_try_from items k
      ∷ forms.has_nameless_extras
      ∷ forms.has_unknown_type items k
      ∷ forms.is_named_twice items k
      ∷ forms.has_some_elsewhere
      ∷ forms.has_whole_with_default
      ∷ forms.has_text_rule_elsewhere items k
      ∷ forms.has_repeated_name
      ∷ forms.has_unread_beside_rest
      ∷ forms.has_half_emptiness
      ∷ forms.has_no_row
      ∷ []

  behind_flatten : (c : ReadContainer) → NoneOf (λ is. is c) causes → NoneOf (λ is. is c) from_rest
  behind_flatten c n = n.1.1.1.1.1.1.1.1.1.1.1.1.1.1.1.1.1

  -- of the causes those that fields and rules ask
  record Kept (c : ReadContainer) : Type 0 where
    odd : NoneOdd (all_fields c.body)
    try_from : forms.has_odd_try_from items k c ≡ false

  kept_of : (c : ReadContainer) → NoneOf (λ is. is c) from_rest → Kept c
  kept_of c n = record {
    odd = record {
      emptiness = n.1.1.1.1.1.1.1.1.1.1.1.0;
      some = n.1.1.1.1.1.1.0;
      whole = n.1.1.1.1.1.1.1.0;
      rest = n.0;
    };
    try_from = n.1.1.0;
  }

  kept : (c : ReadContainer) → is_outside items k c ≡ false → Kept c
  kept c h = kept_of c (behind_flatten c (none_of (λ is. is c) causes h))

  container_fits : (c : ReadContainer) → is_outside items k c ≡ false → is_body_fit (reader_model c).body ≡ true
  container_fits c h = body_fits c c.body (kept c h).odd

  container_ruled : (c : ReadContainer) → is_outside items k c ≡ false → (not (reader_model c).try_from || is_newtype (reader_model c).body) ≡ true
  container_ruled c h = rule_fits c.attrs.tag c.body (is_one (rules_of items k c)) c.attrs.type_try_from (kept c h).try_from

-- ---- items

one_by : (a b : Bool) → (not a && b) ≡ true → a ≡ false
one_by true b h = cc
one_by false b h = refl

more_by : (a b : Bool) → (not a && b) ≡ true → b ≡ true
more_by true b h = cc
more_by false b h = h

module _ (lexing : Lexing) (v f : Meaning) (private : Name) (derive : Derive) (k : ConversionsD) (items : List (List ℕ)) where
  abbrev read : ItemD → Option ReadContainer
  read i = model_of lexing v f private i derive

  -- what is asked of a container that is there
  abbrev IsFit : Option ReadContainer → Type 0
  IsFit None = Unit {0}
  IsFit (Some c) = (is_body_fit (reader_model c).body ≡ true) × (body_has_shape (reader_model c).body ≡ true) × ((not (reader_model c).try_from || is_newtype (reader_model c).body) ≡ true)

  fit_by : (i : ItemD) (o : Option ReadData) → HasShape lexing v f private derive i o
      → leaves_forms items k (option_map (marked derive) (option_map (container_with lexing v f private i) o)) ≡ false → IsFit (option_map (marked derive) (option_map (container_with lexing v f private i) o))
  fit_by i None s h = tt
  fit_by i (Some d) s h =
      let c = marked derive (container_with lexing v f private i d) in
      (container_fits items k c h, s, container_ruled items k c h)

  fit_of : (i : ItemD) → leaves_forms items k (read i) ≡ false → IsFit (read i)
  fit_of i h = fit_by i (data_of lexing private (container_attrs lexing i).default i.body) (data_shape lexing v f private derive i i.body) h

  add : (o : Option ReadContainer) (ms : List ContainerModel) → IsFit o → AreFit ms → AreFit (cons_option (option_map reader_model o) ms)
  add None ms p q = q
  add (Some c) ms p q = record {
    fit = both_true (is_body_fit (reader_model c).body) (are_models_fit ms) p.0 q.fit;
    shapes = both_true (body_has_shape (reader_model c).body) (have_shapes ms) p.1 q.shapes;
    rules = both_true (not (reader_model c).try_from || is_newtype (reader_model c).body) (are_rules_fit ms) p.2 q.rules;
  }

  models_fit : (is : List ItemD) → list_all (λ i. not (leaves_forms items k (read i))) is ≡ true → AreFit (filter_map (λ i. option_map reader_model (read i)) is)
  models_fit [] h = record { fit = refl; shapes = refl; rules = refl }
  models_fit (i ∷ is) h =
      let others = list_all (λ j. not (leaves_forms items k (read j))) is in
      add (read i) (filter_map (λ j. option_map reader_model (read j)) is) (fit_of i (one_by (leaves_forms items k (read i)) others h)) (models_fit is (more_by (leaves_forms items k (read i)) others h))

pub items_fit : (lexing : Lexing) (v f : Meaning) (private : Name) (derive : Derive) (k : ConversionsD) (is : List ItemD)
    → are_inside lexing v f private derive k is ≡ true → AreFit (item_models lexing v f private derive is)
items_fit lexing v f private derive k is h = models_fit lexing v f private derive k (names_of is) is h
