-- An object is read as a schema exactly where each of its keywords is.
use Rattle.std.proofs.Common.{◌≡◌, ℕ, List, [], ◌∷◌, ◌++◌, map, Option, Some, None, option_map, Bool, true, false, ◌&&◌, ◌||◌, true≢false, refl, sym, ap, ◌∙◌}
use Rattle.std.specs.Prelude.{not, is_some, option_and_then, codes, if◌then◌else◌, filter}
use Rattle.std.specs.List.{flat_map, list_any, list_all}
use Rattle.json_value.specs.Value as value
use Rattle.json_value.specs.Value.{Value, Items, Members, item, no_items, member, no_members, member_at}
use Rattle.schema_defs.specs.Schema.{Schema, object, Plain, Same, no_same, Lists, no_lists, Named, no_named}
use Rattle.schema_defs.specs.Read.{◌⊛◌, Reading, Lookup, lookup_of, reading, member_readings, optional, keyword, by_value, any_stands, text_of, integer_of, flag_of, size_of, multiple_of, kept, kept_list, names_of, pattern_of, types_of, unless_empty, places_of, number_words, text_words, same_words, condition_words, list_words, member_words, make_numbers, make_texts, make_plain, make_same, make_lists, make_named, numbers_of, texts_of, plain_of, same_of, lists_of, named_of, schema_of}
use Rattle.schema_defs.proofs.Unknown.{keywords_are_members}
use Rattle.schema_faults.specs.declared.keyword.Holds.{Holds}
use Rattle.schema_faults.specs.declared.keyword.Holds.TheVariants.{Text, Anything, TypeNames, Values, Number, Multiple, Size, Flag, Texts, Schema as OneSchema, SomeSchemas, Schemas as ManySchemas, SchemaOrSchemas, NamedSchemas, Defs, Definitions}
use Rattle.schema_faults.specs.Keywords.{Row, keywords, is_known_at, fits}
use Rattle.schema_faults.specs.Schemas.{Node, held, held_members, nodes_in, nodes_at, nodes_of, schema_nodes}
use Rattle.schema_faults.specs.Faults.{is_broken, breaks, if_present, holds_fraction, mark_if}
use Rattle.schema_faults.proofs.Walk.{held_at-member}
use Rattle.schema_faults.proofs.Readings.{is_empty, quiet, quiet-append, quiet-under, faults, star, sound, Good, at_text, at_pattern, at_anything, at_type, at_values, at_number, at_multiple, at_size, at_flag, at_names, at_schema, at_schemas, at_some_schemas, at_named, at_items}

-- ---- tests that hold together

pub and_left : (a b : Bool) → (a && b) ≡ true → a ≡ true
and_left true b h = refl
and_left false b h = h

pub and_right : (a b : Bool) → (a && b) ≡ true → b ≡ true
and_right true b h = h
and_right false b h = absurd (true≢false (sym h))

pub both : (a b : Bool) → a ≡ true → b ≡ true → (a && b) ≡ true
both a b h k = λ i. h i && k i

pub same_truth : (a b : Bool) → (a ≡ true → b ≡ true) → (b ≡ true → a ≡ true) → a ≡ b
same_truth true b h k = sym (h refl)
same_truth false true h k = k refl
same_truth false false h k = refl

abbrev pub conj : Bool → List Bool → Bool
conj a [] = a
conj a (b ∷ bs) = conj (a && b) bs

abbrev pub AllTrue : List Bool → Type 0
AllTrue [] = Unit {0}
AllTrue (b ∷ bs) = (b ≡ true) × AllTrue bs

each_of : (a : Bool) (bs : List Bool) → conj a bs ≡ true → (a ≡ true) × AllTrue bs
each_of a [] h = (h, tt)
each_of a (b ∷ bs) h = let r = each_of (a && b) bs h in (and_left a b r.0, (and_right a b r.0, r.1))

of_each : (a : Bool) (bs : List Bool) → a ≡ true → AllTrue bs → conj a bs ≡ true
of_each a [] e h = e
of_each a (b ∷ bs) e h = of_each (a && b) bs (both a b e h.0) h.1

pub each_row : (p : Row → Bool) (rs : List Row) → list_all p rs ≡ true → AllTrue (map p rs)
each_row p [] h = tt
each_row p (r ∷ rs) h = (and_left (p r) (list_all p rs) h, each_row p rs (and_right (p r) (list_all p rs) h))

pub of_rows : (p : Row → Bool) (rs : List Row) → AllTrue (map p rs) → list_all p rs ≡ true
of_rows p [] h = refl
of_rows p (r ∷ rs) h = both (p r) (list_all p rs) h.0 (of_rows p rs h.1)

stars1 : {A1 B : Type 0} (g : A1 → B) (x1 : Option A1) → is_some (Some g ⊛ x1) ≡ conj true (is_some x1 ∷ [])
stars1 g x1 = star (Some g) x1

stars2 : {A1 A2 B : Type 0} (g : A1 → A2 → B) (x1 : Option A1) (x2 : Option A2) → is_some (Some g ⊛ x1 ⊛ x2) ≡ conj true (is_some x1 ∷ is_some x2 ∷ [])
stars2 g x1 x2 = star (Some g ⊛ x1) x2 ∙ ap (λ b. b && is_some x2) (stars1 g x1)

stars3 : {A1 A2 A3 B : Type 0} (g : A1 → A2 → A3 → B) (x1 : Option A1) (x2 : Option A2) (x3 : Option A3) → is_some (Some g ⊛ x1 ⊛ x2 ⊛ x3) ≡ conj true (is_some x1 ∷ is_some x2 ∷ is_some x3 ∷ [])
stars3 g x1 x2 x3 = star (Some g ⊛ x1 ⊛ x2) x3 ∙ ap (λ b. b && is_some x3) (stars2 g x1 x2)

stars4 : {A1 A2 A3 A4 B : Type 0} (g : A1 → A2 → A3 → A4 → B) (x1 : Option A1) (x2 : Option A2) (x3 : Option A3) (x4 : Option A4) → is_some (Some g ⊛ x1 ⊛ x2 ⊛ x3 ⊛ x4) ≡ conj true (is_some x1 ∷ is_some x2 ∷ is_some x3 ∷ is_some x4 ∷ [])
stars4 g x1 x2 x3 x4 = star (Some g ⊛ x1 ⊛ x2 ⊛ x3) x4 ∙ ap (λ b. b && is_some x4) (stars3 g x1 x2 x3)

stars5 : {A1 A2 A3 A4 A5 B : Type 0} (g : A1 → A2 → A3 → A4 → A5 → B) (x1 : Option A1) (x2 : Option A2) (x3 : Option A3) (x4 : Option A4) (x5 : Option A5) → is_some (Some g ⊛ x1 ⊛ x2 ⊛ x3 ⊛ x4 ⊛ x5) ≡ conj true (is_some x1 ∷ is_some x2 ∷ is_some x3 ∷ is_some x4 ∷ is_some x5 ∷ [])
stars5 g x1 x2 x3 x4 x5 = star (Some g ⊛ x1 ⊛ x2 ⊛ x3 ⊛ x4) x5 ∙ ap (λ b. b && is_some x5) (stars4 g x1 x2 x3 x4)

stars6 : {A1 A2 A3 A4 A5 A6 B : Type 0} (g : A1 → A2 → A3 → A4 → A5 → A6 → B) (x1 : Option A1) (x2 : Option A2) (x3 : Option A3) (x4 : Option A4) (x5 : Option A5) (x6 : Option A6) → is_some (Some g ⊛ x1 ⊛ x2 ⊛ x3 ⊛ x4 ⊛ x5 ⊛ x6) ≡ conj true (is_some x1 ∷ is_some x2 ∷ is_some x3 ∷ is_some x4 ∷ is_some x5 ∷ is_some x6 ∷ [])
stars6 g x1 x2 x3 x4 x5 x6 = star (Some g ⊛ x1 ⊛ x2 ⊛ x3 ⊛ x4 ⊛ x5) x6 ∙ ap (λ b. b && is_some x6) (stars5 g x1 x2 x3 x4 x5)

stars7 : {A1 A2 A3 A4 A5 A6 A7 B : Type 0} (g : A1 → A2 → A3 → A4 → A5 → A6 → A7 → B) (x1 : Option A1) (x2 : Option A2) (x3 : Option A3) (x4 : Option A4) (x5 : Option A5) (x6 : Option A6) (x7 : Option A7) → is_some (Some g ⊛ x1 ⊛ x2 ⊛ x3 ⊛ x4 ⊛ x5 ⊛ x6 ⊛ x7) ≡ conj true (is_some x1 ∷ is_some x2 ∷ is_some x3 ∷ is_some x4 ∷ is_some x5 ∷ is_some x6 ∷ is_some x7 ∷ [])
stars7 g x1 x2 x3 x4 x5 x6 x7 = star (Some g ⊛ x1 ⊛ x2 ⊛ x3 ⊛ x4 ⊛ x5 ⊛ x6) x7 ∙ ap (λ b. b && is_some x7) (stars6 g x1 x2 x3 x4 x5 x6)

stars8 : {A1 A2 A3 A4 A5 A6 A7 A8 B : Type 0} (g : A1 → A2 → A3 → A4 → A5 → A6 → A7 → A8 → B) (x1 : Option A1) (x2 : Option A2) (x3 : Option A3) (x4 : Option A4) (x5 : Option A5) (x6 : Option A6) (x7 : Option A7) (x8 : Option A8) → is_some (Some g ⊛ x1 ⊛ x2 ⊛ x3 ⊛ x4 ⊛ x5 ⊛ x6 ⊛ x7 ⊛ x8) ≡ conj true (is_some x1 ∷ is_some x2 ∷ is_some x3 ∷ is_some x4 ∷ is_some x5 ∷ is_some x6 ∷ is_some x7 ∷ is_some x8 ∷ [])
stars8 g x1 x2 x3 x4 x5 x6 x7 x8 = star (Some g ⊛ x1 ⊛ x2 ⊛ x3 ⊛ x4 ⊛ x5 ⊛ x6 ⊛ x7) x8 ∙ ap (λ b. b && is_some x8) (stars7 g x1 x2 x3 x4 x5 x6 x7)

stars9 : {A1 A2 A3 A4 A5 A6 A7 A8 A9 B : Type 0} (g : A1 → A2 → A3 → A4 → A5 → A6 → A7 → A8 → A9 → B) (x1 : Option A1) (x2 : Option A2) (x3 : Option A3) (x4 : Option A4) (x5 : Option A5) (x6 : Option A6) (x7 : Option A7) (x8 : Option A8) (x9 : Option A9) → is_some (Some g ⊛ x1 ⊛ x2 ⊛ x3 ⊛ x4 ⊛ x5 ⊛ x6 ⊛ x7 ⊛ x8 ⊛ x9) ≡ conj true (is_some x1 ∷ is_some x2 ∷ is_some x3 ∷ is_some x4 ∷ is_some x5 ∷ is_some x6 ∷ is_some x7 ∷ is_some x8 ∷ is_some x9 ∷ [])
stars9 g x1 x2 x3 x4 x5 x6 x7 x8 x9 = star (Some g ⊛ x1 ⊛ x2 ⊛ x3 ⊛ x4 ⊛ x5 ⊛ x6 ⊛ x7 ⊛ x8) x9 ∙ ap (λ b. b && is_some x9) (stars8 g x1 x2 x3 x4 x5 x6 x7 x8)

stars10 : {A1 A2 A3 A4 A5 A6 A7 A8 A9 A10 B : Type 0} (g : A1 → A2 → A3 → A4 → A5 → A6 → A7 → A8 → A9 → A10 → B) (x1 : Option A1) (x2 : Option A2) (x3 : Option A3) (x4 : Option A4) (x5 : Option A5) (x6 : Option A6) (x7 : Option A7) (x8 : Option A8) (x9 : Option A9) (x10 : Option A10) → is_some (Some g ⊛ x1 ⊛ x2 ⊛ x3 ⊛ x4 ⊛ x5 ⊛ x6 ⊛ x7 ⊛ x8 ⊛ x9 ⊛ x10) ≡ conj true (is_some x1 ∷ is_some x2 ∷ is_some x3 ∷ is_some x4 ∷ is_some x5 ∷ is_some x6 ∷ is_some x7 ∷ is_some x8 ∷ is_some x9 ∷ is_some x10 ∷ [])
stars10 g x1 x2 x3 x4 x5 x6 x7 x8 x9 x10 = star (Some g ⊛ x1 ⊛ x2 ⊛ x3 ⊛ x4 ⊛ x5 ⊛ x6 ⊛ x7 ⊛ x8 ⊛ x9) x10 ∙ ap (λ b. b && is_some x10) (stars9 g x1 x2 x3 x4 x5 x6 x7 x8 x9)

-- ---- parts of a schema

no_keyword : {A : Type 0} (g : Reading → Option A) (o : Option Reading) → is_some o ≡ false → is_some (optional g o) ≡ true
no_keyword g None h = refl
no_keyword g (Some r) h = absurd (true≢false h)

abbrev pub AllAbsent : List (List ℕ) → Lookup → Type 0
AllAbsent [] f = Unit {0}
AllAbsent (n ∷ ns) f = (is_some (f n) ≡ false) × AllAbsent ns f

pub or_left : (a b : Bool) → (a || b) ≡ false → a ≡ false
or_left false b h = refl
or_left true b h = h

pub or_right : (a b : Bool) → (a || b) ≡ false → b ≡ false
or_right false b h = h
or_right true b h = absurd (true≢false h)

pub none_stands : (ns : List (List ℕ)) (f : Lookup) → any_stands ns f ≡ false → AllAbsent ns f
none_stands [] f h = tt
none_stands (n ∷ ns) f h = (or_left (is_some (f n)) (any_stands ns f) h, none_stands ns f (or_right (is_some (f n)) (any_stands ns f) h))

part_is : {A : Type 0} (b : Bool) (absent : A) (x : Option A) → (b ≡ false → is_some x ≡ true) → is_some (if b then x else Some absent) ≡ is_some x
part_is true absent x h = refl
part_is false absent x h = sym (h refl)

module _ (f : Lookup) where
  abbrev pub numbers_tests : List Bool
  numbers_tests = is_some (keyword (codes "multipleOf") (by_value multiple_of) f) ∷ is_some (keyword (codes "maximum") (by_value integer_of) f) ∷ is_some (keyword (codes "exclusiveMaximum") (by_value integer_of) f) ∷ is_some (keyword (codes "minimum") (by_value integer_of) f) ∷ is_some (keyword (codes "exclusiveMinimum") (by_value integer_of) f) ∷ []

  numbers_is : is_some (numbers_of f) ≡ conj true numbers_tests
  unfolding numbers_of
  numbers_is =
      part_is (any_stands number_words f) None (Some make_numbers ⊛ (keyword (codes "multipleOf") (by_value multiple_of) f) ⊛ (keyword (codes "maximum") (by_value integer_of) f) ⊛ (keyword (codes "exclusiveMaximum") (by_value integer_of) f) ⊛ (keyword (codes "minimum") (by_value integer_of) f) ⊛ (keyword (codes "exclusiveMinimum") (by_value integer_of) f))
      (λ e. stars5 make_numbers (keyword (codes "multipleOf") (by_value multiple_of) f) (keyword (codes "maximum") (by_value integer_of) f) (keyword (codes "exclusiveMaximum") (by_value integer_of) f) (keyword (codes "minimum") (by_value integer_of) f) (keyword (codes "exclusiveMinimum") (by_value integer_of) f) ∙ of_each true numbers_tests refl (no_keyword (by_value multiple_of) (f (codes "multipleOf")) (none_stands number_words f e).0, (no_keyword (by_value integer_of) (f (codes "maximum")) (none_stands number_words f e).1.0, (no_keyword (by_value integer_of) (f (codes "exclusiveMaximum")) (none_stands number_words f e).1.1.0, (no_keyword (by_value integer_of) (f (codes "minimum")) (none_stands number_words f e).1.1.1.0, (no_keyword (by_value integer_of) (f (codes "exclusiveMinimum")) (none_stands number_words f e).1.1.1.1.0, tt))))))
      ∙ stars5 make_numbers (keyword (codes "multipleOf") (by_value multiple_of) f) (keyword (codes "maximum") (by_value integer_of) f) (keyword (codes "exclusiveMaximum") (by_value integer_of) f) (keyword (codes "minimum") (by_value integer_of) f) (keyword (codes "exclusiveMinimum") (by_value integer_of) f)

  abbrev pub texts_tests : List Bool
  texts_tests = is_some (keyword (codes "maxLength") (by_value size_of) f) ∷ is_some (keyword (codes "minLength") (by_value size_of) f) ∷ is_some (keyword (codes "pattern") (by_value pattern_of) f) ∷ []

  texts_is : is_some (texts_of f) ≡ conj true texts_tests
  unfolding texts_of
  texts_is =
      part_is (any_stands text_words f) None (Some make_texts ⊛ (keyword (codes "maxLength") (by_value size_of) f) ⊛ (keyword (codes "minLength") (by_value size_of) f) ⊛ (keyword (codes "pattern") (by_value pattern_of) f))
      (λ e. stars3 make_texts (keyword (codes "maxLength") (by_value size_of) f) (keyword (codes "minLength") (by_value size_of) f) (keyword (codes "pattern") (by_value pattern_of) f) ∙ of_each true texts_tests refl (no_keyword (by_value size_of) (f (codes "maxLength")) (none_stands text_words f e).0, (no_keyword (by_value size_of) (f (codes "minLength")) (none_stands text_words f e).1.0, (no_keyword (by_value pattern_of) (f (codes "pattern")) (none_stands text_words f e).1.1.0, tt))))
      ∙ stars3 make_texts (keyword (codes "maxLength") (by_value size_of) f) (keyword (codes "minLength") (by_value size_of) f) (keyword (codes "pattern") (by_value pattern_of) f)

  abbrev pub plain_tests : List Bool
  plain_tests = is_some (keyword (codes "title") (by_value text_of) f) ∷ is_some (keyword (codes "description") (by_value text_of) f) ∷ is_some (keyword (codes "default") (by_value kept) f) ∷ is_some (keyword (codes "const") (by_value kept) f) ∷ is_some (keyword (codes "type") (by_value types_of) f) ∷ is_some (keyword (codes "format") (by_value text_of) f) ∷ is_some (keyword (codes "enum") (by_value kept_list) f) ∷ is_some (numbers_of f) ∷ is_some (texts_of f) ∷ is_some (keyword (codes "$ref") (by_value text_of) f) ∷ []

  plain_is : is_some (plain_of f) ≡ conj true plain_tests
  unfolding plain_of
  plain_is = stars10 make_plain (keyword (codes "title") (by_value text_of) f) (keyword (codes "description") (by_value text_of) f) (keyword (codes "default") (by_value kept) f) (keyword (codes "const") (by_value kept) f) (keyword (codes "type") (by_value types_of) f) (keyword (codes "format") (by_value text_of) f) (keyword (codes "enum") (by_value kept_list) f) (numbers_of f) (texts_of f) (keyword (codes "$ref") (by_value text_of) f)

  abbrev pub same_tests : List Bool
  same_tests = is_some (keyword (codes "allOf") (λ r. option_and_then unless_empty r.as_list) f) ∷ is_some (keyword (codes "anyOf") (λ r. r.as_list) f) ∷ is_some (keyword (codes "oneOf") (λ r. r.as_list) f) ∷ is_some (keyword (codes "not") (λ r. r.as_schema) f) ∷ []

  same_is : is_some (same_of f) ≡ conj true same_tests
  unfolding same_of
  same_is =
      part_is (any_stands same_words f) no_same (Some (make_same (any_stands condition_words f)) ⊛ (keyword (codes "allOf") (λ r. option_and_then unless_empty r.as_list) f) ⊛ (keyword (codes "anyOf") (λ r. r.as_list) f) ⊛ (keyword (codes "oneOf") (λ r. r.as_list) f) ⊛ (keyword (codes "not") (λ r. r.as_schema) f))
      (λ e. stars4 (make_same (any_stands condition_words f)) (keyword (codes "allOf") (λ r. option_and_then unless_empty r.as_list) f) (keyword (codes "anyOf") (λ r. r.as_list) f) (keyword (codes "oneOf") (λ r. r.as_list) f) (keyword (codes "not") (λ r. r.as_schema) f) ∙ of_each true same_tests refl (no_keyword (λ r. option_and_then unless_empty r.as_list) (f (codes "allOf")) (none_stands same_words f e).0, (no_keyword (λ r. r.as_list) (f (codes "anyOf")) (none_stands same_words f e).1.0, (no_keyword (λ r. r.as_list) (f (codes "oneOf")) (none_stands same_words f e).1.1.0, (no_keyword (λ r. r.as_schema) (f (codes "not")) (none_stands same_words f e).1.1.1.0, tt)))))
      ∙ stars4 (make_same (any_stands condition_words f)) (keyword (codes "allOf") (λ r. option_and_then unless_empty r.as_list) f) (keyword (codes "anyOf") (λ r. r.as_list) f) (keyword (codes "oneOf") (λ r. r.as_list) f) (keyword (codes "not") (λ r. r.as_schema) f)

  abbrev pub lists_tests : List Bool
  lists_tests = is_some (keyword (codes "items") (places_of) f) ∷ is_some (keyword (codes "additionalItems") (λ r. r.as_schema) f) ∷ is_some (keyword (codes "contains") (λ r. r.as_schema) f) ∷ is_some (keyword (codes "maxItems") (by_value size_of) f) ∷ is_some (keyword (codes "minItems") (by_value size_of) f) ∷ is_some (keyword (codes "uniqueItems") (by_value flag_of) f) ∷ []

  lists_is : is_some (lists_of f) ≡ conj true lists_tests
  unfolding lists_of
  lists_is =
      part_is (any_stands list_words f) no_lists (Some make_lists ⊛ (keyword (codes "items") (places_of) f) ⊛ (keyword (codes "additionalItems") (λ r. r.as_schema) f) ⊛ (keyword (codes "contains") (λ r. r.as_schema) f) ⊛ (keyword (codes "maxItems") (by_value size_of) f) ⊛ (keyword (codes "minItems") (by_value size_of) f) ⊛ (keyword (codes "uniqueItems") (by_value flag_of) f))
      (λ e. stars6 make_lists (keyword (codes "items") (places_of) f) (keyword (codes "additionalItems") (λ r. r.as_schema) f) (keyword (codes "contains") (λ r. r.as_schema) f) (keyword (codes "maxItems") (by_value size_of) f) (keyword (codes "minItems") (by_value size_of) f) (keyword (codes "uniqueItems") (by_value flag_of) f) ∙ of_each true lists_tests refl (no_keyword (places_of) (f (codes "items")) (none_stands list_words f e).0, (no_keyword (λ r. r.as_schema) (f (codes "additionalItems")) (none_stands list_words f e).1.0, (no_keyword (λ r. r.as_schema) (f (codes "contains")) (none_stands list_words f e).1.1.0, (no_keyword (by_value size_of) (f (codes "maxItems")) (none_stands list_words f e).1.1.1.0, (no_keyword (by_value size_of) (f (codes "minItems")) (none_stands list_words f e).1.1.1.1.0, (no_keyword (by_value flag_of) (f (codes "uniqueItems")) (none_stands list_words f e).1.1.1.1.1.0, tt)))))))
      ∙ stars6 make_lists (keyword (codes "items") (places_of) f) (keyword (codes "additionalItems") (λ r. r.as_schema) f) (keyword (codes "contains") (λ r. r.as_schema) f) (keyword (codes "maxItems") (by_value size_of) f) (keyword (codes "minItems") (by_value size_of) f) (keyword (codes "uniqueItems") (by_value flag_of) f)

  abbrev pub named_tests : List Bool
  named_tests = is_some (keyword (codes "properties") (λ r. r.as_named) f) ∷ is_some (keyword (codes "patternProperties") (λ r. r.as_named) f) ∷ is_some (keyword (codes "additionalProperties") (λ r. r.as_schema) f) ∷ is_some (keyword (codes "propertyNames") (λ r. r.as_schema) f) ∷ is_some (keyword (codes "maxProperties") (by_value size_of) f) ∷ is_some (keyword (codes "minProperties") (by_value size_of) f) ∷ is_some (keyword (codes "required") (by_value names_of) f) ∷ []

  named_is : is_some (named_of f) ≡ conj true named_tests
  unfolding named_of
  named_is =
      part_is (any_stands member_words f) no_named (Some make_named ⊛ (keyword (codes "properties") (λ r. r.as_named) f) ⊛ (keyword (codes "patternProperties") (λ r. r.as_named) f) ⊛ (keyword (codes "additionalProperties") (λ r. r.as_schema) f) ⊛ (keyword (codes "propertyNames") (λ r. r.as_schema) f) ⊛ (keyword (codes "maxProperties") (by_value size_of) f) ⊛ (keyword (codes "minProperties") (by_value size_of) f) ⊛ (keyword (codes "required") (by_value names_of) f))
      (λ e. stars7 make_named (keyword (codes "properties") (λ r. r.as_named) f) (keyword (codes "patternProperties") (λ r. r.as_named) f) (keyword (codes "additionalProperties") (λ r. r.as_schema) f) (keyword (codes "propertyNames") (λ r. r.as_schema) f) (keyword (codes "maxProperties") (by_value size_of) f) (keyword (codes "minProperties") (by_value size_of) f) (keyword (codes "required") (by_value names_of) f) ∙ of_each true named_tests refl (no_keyword (λ r. r.as_named) (f (codes "properties")) (none_stands member_words f e).0, (no_keyword (λ r. r.as_named) (f (codes "patternProperties")) (none_stands member_words f e).1.0, (no_keyword (λ r. r.as_schema) (f (codes "additionalProperties")) (none_stands member_words f e).1.1.0, (no_keyword (λ r. r.as_schema) (f (codes "propertyNames")) (none_stands member_words f e).1.1.1.0, (no_keyword (by_value size_of) (f (codes "maxProperties")) (none_stands member_words f e).1.1.1.1.0, (no_keyword (by_value size_of) (f (codes "minProperties")) (none_stands member_words f e).1.1.1.1.1.0, (no_keyword (by_value names_of) (f (codes "required")) (none_stands member_words f e).1.1.1.1.1.1.0, tt))))))))
      ∙ stars7 make_named (keyword (codes "properties") (λ r. r.as_named) f) (keyword (codes "patternProperties") (λ r. r.as_named) f) (keyword (codes "additionalProperties") (λ r. r.as_schema) f) (keyword (codes "propertyNames") (λ r. r.as_schema) f) (keyword (codes "maxProperties") (by_value size_of) f) (keyword (codes "minProperties") (by_value size_of) f) (keyword (codes "required") (by_value names_of) f)

  abbrev schema_tests : List Bool
  schema_tests = is_some (plain_of f) ∷ is_some (same_of f) ∷ is_some (lists_of f) ∷ is_some (named_of f) ∷ []

  abbrev an_object : Plain → Same → Lists → Named → Schema
  an_object p ss ls ns = object p ss ls ns

  schema_is : is_some (schema_of f) ≡ conj true schema_tests
  unfolding schema_of
  schema_is = stars4 an_object (plain_of f) (same_of f) (lists_of f) (named_of f)

  -- the keywords that are read, each
  pub record Reads : Type 0 where
    pub at_ref : is_some (keyword (codes "$ref") (by_value text_of) f) ≡ true
    pub k_additionalItems : is_some (keyword (codes "additionalItems") (λ r. r.as_schema) f) ≡ true
    pub k_additionalProperties : is_some (keyword (codes "additionalProperties") (λ r. r.as_schema) f) ≡ true
    pub k_allOf : is_some (keyword (codes "allOf") (λ r. option_and_then unless_empty r.as_list) f) ≡ true
    pub k_anyOf : is_some (keyword (codes "anyOf") (λ r. r.as_list) f) ≡ true
    pub k_const : is_some (keyword (codes "const") (by_value kept) f) ≡ true
    pub k_contains : is_some (keyword (codes "contains") (λ r. r.as_schema) f) ≡ true
    pub k_default : is_some (keyword (codes "default") (by_value kept) f) ≡ true
    pub k_description : is_some (keyword (codes "description") (by_value text_of) f) ≡ true
    pub k_enum : is_some (keyword (codes "enum") (by_value kept_list) f) ≡ true
    pub k_exclusiveMaximum : is_some (keyword (codes "exclusiveMaximum") (by_value integer_of) f) ≡ true
    pub k_exclusiveMinimum : is_some (keyword (codes "exclusiveMinimum") (by_value integer_of) f) ≡ true
    pub k_format : is_some (keyword (codes "format") (by_value text_of) f) ≡ true
    pub k_items : is_some (keyword (codes "items") (places_of) f) ≡ true
    pub k_maxItems : is_some (keyword (codes "maxItems") (by_value size_of) f) ≡ true
    pub k_maxLength : is_some (keyword (codes "maxLength") (by_value size_of) f) ≡ true
    pub k_maxProperties : is_some (keyword (codes "maxProperties") (by_value size_of) f) ≡ true
    pub k_maximum : is_some (keyword (codes "maximum") (by_value integer_of) f) ≡ true
    pub k_minItems : is_some (keyword (codes "minItems") (by_value size_of) f) ≡ true
    pub k_minLength : is_some (keyword (codes "minLength") (by_value size_of) f) ≡ true
    pub k_minProperties : is_some (keyword (codes "minProperties") (by_value size_of) f) ≡ true
    pub k_minimum : is_some (keyword (codes "minimum") (by_value integer_of) f) ≡ true
    pub k_multipleOf : is_some (keyword (codes "multipleOf") (by_value multiple_of) f) ≡ true
    pub k_not : is_some (keyword (codes "not") (λ r. r.as_schema) f) ≡ true
    pub k_oneOf : is_some (keyword (codes "oneOf") (λ r. r.as_list) f) ≡ true
    pub k_pattern : is_some (keyword (codes "pattern") (by_value pattern_of) f) ≡ true
    pub k_patternProperties : is_some (keyword (codes "patternProperties") (λ r. r.as_named) f) ≡ true
    pub k_properties : is_some (keyword (codes "properties") (λ r. r.as_named) f) ≡ true
    pub k_propertyNames : is_some (keyword (codes "propertyNames") (λ r. r.as_schema) f) ≡ true
    pub k_required : is_some (keyword (codes "required") (by_value names_of) f) ≡ true
    pub k_title : is_some (keyword (codes "title") (by_value text_of) f) ≡ true
    pub k_type : is_some (keyword (codes "type") (by_value types_of) f) ≡ true
    pub k_uniqueItems : is_some (keyword (codes "uniqueItems") (by_value flag_of) f) ≡ true

  pub reads_each : is_some (schema_of f) ≡ true → Reads
  reads_each h =
      let a = (each_of true schema_tests (sym schema_is ∙ h)).1 in
      let p = (each_of true plain_tests (sym plain_is ∙ a.0)).1 in
      let s = (each_of true same_tests (sym same_is ∙ a.1.0)).1 in
      let l = (each_of true lists_tests (sym lists_is ∙ a.1.1.0)).1 in
      let m = (each_of true named_tests (sym named_is ∙ a.1.1.1.0)).1 in
      let n = (each_of true numbers_tests (sym numbers_is ∙ p.1.1.1.1.1.1.1.0)).1 in
      let t = (each_of true texts_tests (sym texts_is ∙ p.1.1.1.1.1.1.1.1.0)).1 in
      record {
        at_ref = p.1.1.1.1.1.1.1.1.1.0;
        k_additionalItems = l.1.0;
        k_additionalProperties = m.1.1.0;
        k_allOf = s.0;
        k_anyOf = s.1.0;
        k_const = p.1.1.1.0;
        k_contains = l.1.1.0;
        k_default = p.1.1.0;
        k_description = p.1.0;
        k_enum = p.1.1.1.1.1.1.0;
        k_exclusiveMaximum = n.1.1.0;
        k_exclusiveMinimum = n.1.1.1.1.0;
        k_format = p.1.1.1.1.1.0;
        k_items = l.0;
        k_maxItems = l.1.1.1.0;
        k_maxLength = t.0;
        k_maxProperties = m.1.1.1.1.0;
        k_maximum = n.1.0;
        k_minItems = l.1.1.1.1.0;
        k_minLength = t.1.0;
        k_minProperties = m.1.1.1.1.1.0;
        k_minimum = n.1.1.1.0;
        k_multipleOf = n.0;
        k_not = s.1.1.1.0;
        k_oneOf = s.1.1.0;
        k_pattern = t.1.1.0;
        k_patternProperties = m.1.0;
        k_properties = m.0;
        k_propertyNames = m.1.1.1.0;
        k_required = m.1.1.1.1.1.1.0;
        k_title = p.0;
        k_type = p.1.1.1.1.0;
        k_uniqueItems = l.1.1.1.1.1.0;
      }

  pub of_reads : Reads → is_some (schema_of f) ≡ true
  of_reads r =
      let h_numbers : is_some (numbers_of f) ≡ true = numbers_is ∙ of_each true numbers_tests refl (r.k_multipleOf, (r.k_maximum, (r.k_exclusiveMaximum, (r.k_minimum, (r.k_exclusiveMinimum, tt))))) in
      let h_texts : is_some (texts_of f) ≡ true = texts_is ∙ of_each true texts_tests refl (r.k_maxLength, (r.k_minLength, (r.k_pattern, tt))) in
      let h_plain : is_some (plain_of f) ≡ true = plain_is ∙ of_each true plain_tests refl (r.k_title, (r.k_description, (r.k_default, (r.k_const, (r.k_type, (r.k_format, (r.k_enum, (h_numbers, (h_texts, (r.at_ref, tt)))))))))) in
      let h_same : is_some (same_of f) ≡ true = same_is ∙ of_each true same_tests refl (r.k_allOf, (r.k_anyOf, (r.k_oneOf, (r.k_not, tt)))) in
      let h_lists : is_some (lists_of f) ≡ true = lists_is ∙ of_each true lists_tests refl (r.k_items, (r.k_additionalItems, (r.k_contains, (r.k_maxItems, (r.k_minItems, (r.k_uniqueItems, tt)))))) in
      let h_named : is_some (named_of f) ≡ true = named_is ∙ of_each true named_tests refl (r.k_properties, (r.k_patternProperties, (r.k_additionalProperties, (r.k_propertyNames, (r.k_maxProperties, (r.k_minProperties, (r.k_required, tt))))))) in
      schema_is ∙ of_each true schema_tests refl (h_plain, (h_same, (h_lists, (h_named, tt))))

-- ---- rows

abbrev pub row_test : Bool → Members → Row → Bool
row_test b ms r = not (is_broken b ms r) && (not (if_present (holds_fraction r.1) (member_at r.0 ms)) && quiet faults (nodes_of b (held_members ms) r))

empty-append : {A : Type 0} (xs ys : List A) → is_empty (xs ++ ys) ≡ (is_empty xs && is_empty ys)
empty-append [] ys = refl
empty-append (x ∷ xs) ys = refl

one_filtered : (b : Bool) (x : List ℕ) (xs : List Row) (r : Row) (a : Bool) → is_empty (map (λ r. r.0) xs) ≡ not a → is_empty (map (λ r. r.0) (if b then r ∷ xs else xs)) ≡ not (b || a)
one_filtered true x xs r a h = refl
one_filtered false x xs r a h = h

pub empty-filter : (p : Row → Bool) (rs : List Row) → is_empty (map (λ r. r.0) (filter p rs)) ≡ not (list_any p rs)
empty-filter p [] = refl
empty-filter p (r ∷ rs) = one_filtered (p r) [] (filter p rs) r (list_any p rs) (empty-filter p rs)

pub empty-mark : (b : Bool) → is_empty (mark_if b) ≡ not b
empty-mark true = refl
empty-mark false = refl

regroup : (p q g a b c : Bool) → ((not (p || a) && not (q || b)) && (g && c)) ≡ ((not p && (not q && g)) && ((not a && not b) && c))
regroup true q g a b c = refl
regroup false true g true b c = refl
regroup false true g false b c = refl
regroup false false false true b c = refl
regroup false false false false true c = refl
regroup false false false false false c = refl
regroup false false true a b c = refl

all_rows : (p q : Row → Bool) (g : Row → List Node) (rs : List Row) → ((not (list_any p rs) && not (list_any q rs)) && quiet faults (flat_map g rs)) ≡ list_all (λ r. not (p r) && (not (q r) && quiet faults (g r))) rs
all_rows p q g [] = refl
all_rows p q g (r ∷ rs) =
    ap (λ b. (not (p r || list_any p rs) && not (q r || list_any q rs)) && b) (quiet-append faults (g r) (flat_map g rs))
    ∙ regroup (p r) (q r) (quiet faults (g r)) (list_any p rs) (list_any q rs) (quiet faults (flat_map g rs))
    ∙ ap (λ b. (not (p r) && (not (q r) && quiet faults (g r))) && b) (all_rows p q g rs)

-- an object is quiet exactly where each row is
pub quiet_object : (b : Bool) (k : List ℕ) (ms : Members) → quiet faults (schema_nodes b k (value.object ms)) ≡ list_all (row_test b ms) keywords
quiet_object b k ms =
    ap (λ x. x && quiet faults (flat_map (nodes_of b (held_members ms)) keywords))
    (empty-append (map (λ r. r.0) (filter (is_broken b ms) keywords)) (mark_if (list_any (λ r. if_present (holds_fraction r.1) (member_at r.0 ms)) keywords))
    ∙ (λ i. empty-filter (is_broken b ms) keywords i && empty-mark (list_any (λ r. if_present (holds_fraction r.1) (member_at r.0 ms)) keywords) i))
    ∙ all_rows (is_broken b ms) (λ r. if_present (holds_fraction r.1) (member_at r.0 ms)) (nodes_of b (held_members ms)) keywords

abbrev pub GoodMaybe : Option Value → Type 0
GoodMaybe None = Unit {0}
GoodMaybe (Some v) = Good v

twice : (b : Bool) → not (not b) ≡ b
twice true = refl
twice false = refl

some_mapped : {A B : Type 0} (g : A → B) (o : Option A) → is_some (option_map g o) ≡ is_some o
some_mapped g None = refl
some_mapped g (Some x) = refl

module _ {A : Type 0} (ms : Members) (k : List ℕ) (h : Holds) (f : Reading → Option A) (same : (v : Value) → fits ms h v ≡ fits no_members h v)
    (read : (v : Value) → Good v → is_some (f (reading v)) ≡ sound h v (quiet faults (nodes_in (k, h) (held v)))) where
  at_member : (o : Option Value) → GoodMaybe o
      → (not (breaks ms h o) && (not (if_present (holds_fraction h) o) && quiet faults (nodes_at (k, h) (option_map held o)))) ≡ is_some (optional f (option_map reading o))
  at_member None g = refl
  at_member (Some v) g =
      (λ i. (twice (fits ms h v) ∙ same v) i && (not (holds_fraction h v) && quiet-under faults k (nodes_in (k, h) (held v)) i))
      ∙ sym (read v g) ∙ sym (some_mapped Some (f (reading v)))

  pub row_reads : (b : Bool) → is_known_at b h ≡ true → GoodMaybe (member_at k ms) → row_test b ms (k, h) ≡ is_some (keyword k f (lookup_of (member_readings ms)))
  row_reads b known g =
      (λ i. not (known i && breaks ms h (member_at k ms)) && (not (if_present (holds_fraction h) (member_at k ms)) && quiet faults (if known i then nodes_at (k, h) (held_at-member k ms i) else [])))
      ∙ at_member (member_at k ms) g
      ∙ sym (ap (λ o. is_some (optional f o)) (keywords_are_members k ms))

no_definitions : (h : Holds) → ((v : Value) → holds_fraction h v ≡ false) → (o : Option Value) → not (if_present (holds_fraction h) o) ≡ true
no_definitions h e None = refl
no_definitions h e (Some v) = ap not (e v)

whole_is : (v : Value) → (reading v).whole ≡ v
whole_is value.null = refl
whole_is (value.boolean b) = refl
whole_is (value.number z) = refl
whole_is value.fraction = refl
whole_is (value.text s) = refl
whole_is (value.list xs) = refl
whole_is (value.object ms) = refl

module _ (ms : Members) (g : (n : List ℕ) → GoodMaybe (member_at n ms)) where
  abbrev pub look : Lookup
  look = lookup_of (member_readings ms)

  r_at_ref : (b : Bool) → row_test b ms (codes "$ref", Text) ≡ is_some (keyword (codes "$ref") (by_value text_of) look)
  r_at_ref b = row_reads ms (codes "$ref") Text (by_value text_of) (λ v. refl) (λ v x. ap (λ u. is_some (text_of u)) (whole_is v) ∙ at_text v) b refl (g (codes "$ref"))

  r_k_additionalItems : (b : Bool) → row_test b ms (codes "additionalItems", OneSchema) ≡ is_some (keyword (codes "additionalItems") (λ r. r.as_schema) look)
  r_k_additionalItems b = row_reads ms (codes "additionalItems") OneSchema (λ r. r.as_schema) (λ v. refl) (at_schema (codes "additionalItems")) b refl (g (codes "additionalItems"))

  r_k_additionalProperties : (b : Bool) → row_test b ms (codes "additionalProperties", OneSchema) ≡ is_some (keyword (codes "additionalProperties") (λ r. r.as_schema) look)
  r_k_additionalProperties b = row_reads ms (codes "additionalProperties") OneSchema (λ r. r.as_schema) (λ v. refl) (at_schema (codes "additionalProperties")) b refl (g (codes "additionalProperties"))

  r_k_allOf : (b : Bool) → row_test b ms (codes "allOf", SomeSchemas) ≡ is_some (keyword (codes "allOf") (λ r. option_and_then unless_empty r.as_list) look)
  r_k_allOf b = row_reads ms (codes "allOf") SomeSchemas (λ r. option_and_then unless_empty r.as_list) (λ v. refl) (at_some_schemas (codes "allOf")) b refl (g (codes "allOf"))

  r_k_anyOf : (b : Bool) → row_test b ms (codes "anyOf", ManySchemas) ≡ is_some (keyword (codes "anyOf") (λ r. r.as_list) look)
  r_k_anyOf b = row_reads ms (codes "anyOf") ManySchemas (λ r. r.as_list) (λ v. refl) (at_schemas (codes "anyOf")) b refl (g (codes "anyOf"))

  r_k_const : (b : Bool) → row_test b ms (codes "const", Anything) ≡ is_some (keyword (codes "const") (by_value kept) look)
  r_k_const b = row_reads ms (codes "const") Anything (by_value kept) (λ v. refl) (λ v x. ap (λ u. is_some (kept u)) (whole_is v) ∙ at_anything v) b refl (g (codes "const"))

  r_k_contains : (b : Bool) → row_test b ms (codes "contains", OneSchema) ≡ is_some (keyword (codes "contains") (λ r. r.as_schema) look)
  r_k_contains b = row_reads ms (codes "contains") OneSchema (λ r. r.as_schema) (λ v. refl) (at_schema (codes "contains")) b refl (g (codes "contains"))

  r_k_default : (b : Bool) → row_test b ms (codes "default", Anything) ≡ is_some (keyword (codes "default") (by_value kept) look)
  r_k_default b = row_reads ms (codes "default") Anything (by_value kept) (λ v. refl) (λ v x. ap (λ u. is_some (kept u)) (whole_is v) ∙ at_anything v) b refl (g (codes "default"))

  r_k_description : (b : Bool) → row_test b ms (codes "description", Text) ≡ is_some (keyword (codes "description") (by_value text_of) look)
  r_k_description b = row_reads ms (codes "description") Text (by_value text_of) (λ v. refl) (λ v x. ap (λ u. is_some (text_of u)) (whole_is v) ∙ at_text v) b refl (g (codes "description"))

  r_k_enum : (b : Bool) → row_test b ms (codes "enum", Values) ≡ is_some (keyword (codes "enum") (by_value kept_list) look)
  r_k_enum b = row_reads ms (codes "enum") Values (by_value kept_list) (λ v. refl) (λ v x. ap (λ u. is_some (kept_list u)) (whole_is v) ∙ at_values v) b refl (g (codes "enum"))

  r_k_exclusiveMaximum : (b : Bool) → row_test b ms (codes "exclusiveMaximum", Number) ≡ is_some (keyword (codes "exclusiveMaximum") (by_value integer_of) look)
  r_k_exclusiveMaximum b = row_reads ms (codes "exclusiveMaximum") Number (by_value integer_of) (λ v. refl) (λ v x. ap (λ u. is_some (integer_of u)) (whole_is v) ∙ at_number v) b refl (g (codes "exclusiveMaximum"))

  r_k_exclusiveMinimum : (b : Bool) → row_test b ms (codes "exclusiveMinimum", Number) ≡ is_some (keyword (codes "exclusiveMinimum") (by_value integer_of) look)
  r_k_exclusiveMinimum b = row_reads ms (codes "exclusiveMinimum") Number (by_value integer_of) (λ v. refl) (λ v x. ap (λ u. is_some (integer_of u)) (whole_is v) ∙ at_number v) b refl (g (codes "exclusiveMinimum"))

  r_k_format : (b : Bool) → row_test b ms (codes "format", Text) ≡ is_some (keyword (codes "format") (by_value text_of) look)
  r_k_format b = row_reads ms (codes "format") Text (by_value text_of) (λ v. refl) (λ v x. ap (λ u. is_some (text_of u)) (whole_is v) ∙ at_text v) b refl (g (codes "format"))

  r_k_items : (b : Bool) → row_test b ms (codes "items", SchemaOrSchemas) ≡ is_some (keyword (codes "items") (places_of) look)
  r_k_items b = row_reads ms (codes "items") SchemaOrSchemas (places_of) (λ v. refl) (at_items (codes "items")) b refl (g (codes "items"))

  r_k_maxItems : (b : Bool) → row_test b ms (codes "maxItems", Size) ≡ is_some (keyword (codes "maxItems") (by_value size_of) look)
  r_k_maxItems b = row_reads ms (codes "maxItems") Size (by_value size_of) (λ v. refl) (λ v x. ap (λ u. is_some (size_of u)) (whole_is v) ∙ at_size v) b refl (g (codes "maxItems"))

  r_k_maxLength : (b : Bool) → row_test b ms (codes "maxLength", Size) ≡ is_some (keyword (codes "maxLength") (by_value size_of) look)
  r_k_maxLength b = row_reads ms (codes "maxLength") Size (by_value size_of) (λ v. refl) (λ v x. ap (λ u. is_some (size_of u)) (whole_is v) ∙ at_size v) b refl (g (codes "maxLength"))

  r_k_maxProperties : (b : Bool) → row_test b ms (codes "maxProperties", Size) ≡ is_some (keyword (codes "maxProperties") (by_value size_of) look)
  r_k_maxProperties b = row_reads ms (codes "maxProperties") Size (by_value size_of) (λ v. refl) (λ v x. ap (λ u. is_some (size_of u)) (whole_is v) ∙ at_size v) b refl (g (codes "maxProperties"))

  r_k_maximum : (b : Bool) → row_test b ms (codes "maximum", Number) ≡ is_some (keyword (codes "maximum") (by_value integer_of) look)
  r_k_maximum b = row_reads ms (codes "maximum") Number (by_value integer_of) (λ v. refl) (λ v x. ap (λ u. is_some (integer_of u)) (whole_is v) ∙ at_number v) b refl (g (codes "maximum"))

  r_k_minItems : (b : Bool) → row_test b ms (codes "minItems", Size) ≡ is_some (keyword (codes "minItems") (by_value size_of) look)
  r_k_minItems b = row_reads ms (codes "minItems") Size (by_value size_of) (λ v. refl) (λ v x. ap (λ u. is_some (size_of u)) (whole_is v) ∙ at_size v) b refl (g (codes "minItems"))

  r_k_minLength : (b : Bool) → row_test b ms (codes "minLength", Size) ≡ is_some (keyword (codes "minLength") (by_value size_of) look)
  r_k_minLength b = row_reads ms (codes "minLength") Size (by_value size_of) (λ v. refl) (λ v x. ap (λ u. is_some (size_of u)) (whole_is v) ∙ at_size v) b refl (g (codes "minLength"))

  r_k_minProperties : (b : Bool) → row_test b ms (codes "minProperties", Size) ≡ is_some (keyword (codes "minProperties") (by_value size_of) look)
  r_k_minProperties b = row_reads ms (codes "minProperties") Size (by_value size_of) (λ v. refl) (λ v x. ap (λ u. is_some (size_of u)) (whole_is v) ∙ at_size v) b refl (g (codes "minProperties"))

  r_k_minimum : (b : Bool) → row_test b ms (codes "minimum", Number) ≡ is_some (keyword (codes "minimum") (by_value integer_of) look)
  r_k_minimum b = row_reads ms (codes "minimum") Number (by_value integer_of) (λ v. refl) (λ v x. ap (λ u. is_some (integer_of u)) (whole_is v) ∙ at_number v) b refl (g (codes "minimum"))

  r_k_multipleOf : (b : Bool) → row_test b ms (codes "multipleOf", Multiple) ≡ is_some (keyword (codes "multipleOf") (by_value multiple_of) look)
  r_k_multipleOf b = row_reads ms (codes "multipleOf") Multiple (by_value multiple_of) (λ v. refl) (λ v x. ap (λ u. is_some (multiple_of u)) (whole_is v) ∙ at_multiple v) b refl (g (codes "multipleOf"))

  r_k_not : (b : Bool) → row_test b ms (codes "not", OneSchema) ≡ is_some (keyword (codes "not") (λ r. r.as_schema) look)
  r_k_not b = row_reads ms (codes "not") OneSchema (λ r. r.as_schema) (λ v. refl) (at_schema (codes "not")) b refl (g (codes "not"))

  r_k_oneOf : (b : Bool) → row_test b ms (codes "oneOf", ManySchemas) ≡ is_some (keyword (codes "oneOf") (λ r. r.as_list) look)
  r_k_oneOf b = row_reads ms (codes "oneOf") ManySchemas (λ r. r.as_list) (λ v. refl) (at_schemas (codes "oneOf")) b refl (g (codes "oneOf"))

  r_k_pattern : (b : Bool) → row_test b ms (codes "pattern", Text) ≡ is_some (keyword (codes "pattern") (by_value pattern_of) look)
  r_k_pattern b = row_reads ms (codes "pattern") Text (by_value pattern_of) (λ v. refl) (λ v x. ap (λ u. is_some (pattern_of u)) (whole_is v) ∙ at_pattern v) b refl (g (codes "pattern"))

  r_k_patternProperties : (b : Bool) → row_test b ms (codes "patternProperties", NamedSchemas) ≡ is_some (keyword (codes "patternProperties") (λ r. r.as_named) look)
  r_k_patternProperties b = row_reads ms (codes "patternProperties") NamedSchemas (λ r. r.as_named) (λ v. refl) (at_named (codes "patternProperties")) b refl (g (codes "patternProperties"))

  r_k_properties : (b : Bool) → row_test b ms (codes "properties", NamedSchemas) ≡ is_some (keyword (codes "properties") (λ r. r.as_named) look)
  r_k_properties b = row_reads ms (codes "properties") NamedSchemas (λ r. r.as_named) (λ v. refl) (at_named (codes "properties")) b refl (g (codes "properties"))

  r_k_propertyNames : (b : Bool) → row_test b ms (codes "propertyNames", OneSchema) ≡ is_some (keyword (codes "propertyNames") (λ r. r.as_schema) look)
  r_k_propertyNames b = row_reads ms (codes "propertyNames") OneSchema (λ r. r.as_schema) (λ v. refl) (at_schema (codes "propertyNames")) b refl (g (codes "propertyNames"))

  r_k_required : (b : Bool) → row_test b ms (codes "required", Texts) ≡ is_some (keyword (codes "required") (by_value names_of) look)
  r_k_required b = row_reads ms (codes "required") Texts (by_value names_of) (λ v. refl) (λ v x. ap (λ u. is_some (names_of u)) (whole_is v) ∙ at_names v) b refl (g (codes "required"))

  r_k_title : (b : Bool) → row_test b ms (codes "title", Text) ≡ is_some (keyword (codes "title") (by_value text_of) look)
  r_k_title b = row_reads ms (codes "title") Text (by_value text_of) (λ v. refl) (λ v x. ap (λ u. is_some (text_of u)) (whole_is v) ∙ at_text v) b refl (g (codes "title"))

  r_k_type : (b : Bool) → row_test b ms (codes "type", TypeNames) ≡ is_some (keyword (codes "type") (by_value types_of) look)
  r_k_type b = row_reads ms (codes "type") TypeNames (by_value types_of) (λ v. refl) (λ v x. ap (λ u. is_some (types_of u)) (whole_is v) ∙ at_type v) b refl (g (codes "type"))

  r_k_uniqueItems : (b : Bool) → row_test b ms (codes "uniqueItems", Flag) ≡ is_some (keyword (codes "uniqueItems") (by_value flag_of) look)
  r_k_uniqueItems b = row_reads ms (codes "uniqueItems") Flag (by_value flag_of) (λ v. refl) (λ v x. ap (λ u. is_some (flag_of u)) (whole_is v) ∙ at_flag v) b refl (g (codes "uniqueItems"))

  -- the rows of an object that is read, the two of definitions given
  pub rows_of : (b : Bool) → row_test b ms (codes "$defs", Defs) ≡ true → row_test b ms (codes "definitions", Definitions) ≡ true → Reads look → AllTrue (map (row_test b ms) keywords)
  rows_of b d e r = (d, (r_at_ref b ∙ r.at_ref, (r_k_additionalItems b ∙ r.k_additionalItems, (r_k_additionalProperties b ∙ r.k_additionalProperties, (r_k_allOf b ∙ r.k_allOf, (r_k_anyOf b ∙ r.k_anyOf, (r_k_const b ∙ r.k_const, (r_k_contains b ∙ r.k_contains, (r_k_default b ∙ r.k_default, (e, (r_k_description b ∙ r.k_description, (r_k_enum b ∙ r.k_enum, (r_k_exclusiveMaximum b ∙ r.k_exclusiveMaximum, (r_k_exclusiveMinimum b ∙ r.k_exclusiveMinimum, (r_k_format b ∙ r.k_format, (r_k_items b ∙ r.k_items, (r_k_maxItems b ∙ r.k_maxItems, (r_k_maxLength b ∙ r.k_maxLength, (r_k_maxProperties b ∙ r.k_maxProperties, (r_k_maximum b ∙ r.k_maximum, (r_k_minItems b ∙ r.k_minItems, (r_k_minLength b ∙ r.k_minLength, (r_k_minProperties b ∙ r.k_minProperties, (r_k_minimum b ∙ r.k_minimum, (r_k_multipleOf b ∙ r.k_multipleOf, (r_k_not b ∙ r.k_not, (r_k_oneOf b ∙ r.k_oneOf, (r_k_pattern b ∙ r.k_pattern, (r_k_patternProperties b ∙ r.k_patternProperties, (r_k_properties b ∙ r.k_properties, (r_k_propertyNames b ∙ r.k_propertyNames, (r_k_required b ∙ r.k_required, (r_k_title b ∙ r.k_title, (r_k_type b ∙ r.k_type, (r_k_uniqueItems b ∙ r.k_uniqueItems, tt)))))))))))))))))))))))))))))))))))

  pub reads_of : (b : Bool) → AllTrue (map (row_test b ms) keywords) → Reads look
  reads_of b h = record {
    at_ref = sym (r_at_ref b) ∙ h.1.0;
    k_additionalItems = sym (r_k_additionalItems b) ∙ h.1.1.0;
    k_additionalProperties = sym (r_k_additionalProperties b) ∙ h.1.1.1.0;
    k_allOf = sym (r_k_allOf b) ∙ h.1.1.1.1.0;
    k_anyOf = sym (r_k_anyOf b) ∙ h.1.1.1.1.1.0;
    k_const = sym (r_k_const b) ∙ h.1.1.1.1.1.1.0;
    k_contains = sym (r_k_contains b) ∙ h.1.1.1.1.1.1.1.0;
    k_default = sym (r_k_default b) ∙ h.1.1.1.1.1.1.1.1.0;
    k_description = sym (r_k_description b) ∙ h.1.1.1.1.1.1.1.1.1.1.0;
    k_enum = sym (r_k_enum b) ∙ h.1.1.1.1.1.1.1.1.1.1.1.0;
    k_exclusiveMaximum = sym (r_k_exclusiveMaximum b) ∙ h.1.1.1.1.1.1.1.1.1.1.1.1.0;
    k_exclusiveMinimum = sym (r_k_exclusiveMinimum b) ∙ h.1.1.1.1.1.1.1.1.1.1.1.1.1.0;
    k_format = sym (r_k_format b) ∙ h.1.1.1.1.1.1.1.1.1.1.1.1.1.1.0;
    k_items = sym (r_k_items b) ∙ h.1.1.1.1.1.1.1.1.1.1.1.1.1.1.1.0;
    k_maxItems = sym (r_k_maxItems b) ∙ h.1.1.1.1.1.1.1.1.1.1.1.1.1.1.1.1.0;
    k_maxLength = sym (r_k_maxLength b) ∙ h.1.1.1.1.1.1.1.1.1.1.1.1.1.1.1.1.1.0;
    k_maxProperties = sym (r_k_maxProperties b) ∙ h.1.1.1.1.1.1.1.1.1.1.1.1.1.1.1.1.1.1.0;
    k_maximum = sym (r_k_maximum b) ∙ h.1.1.1.1.1.1.1.1.1.1.1.1.1.1.1.1.1.1.1.0;
    k_minItems = sym (r_k_minItems b) ∙ h.1.1.1.1.1.1.1.1.1.1.1.1.1.1.1.1.1.1.1.1.0;
    k_minLength = sym (r_k_minLength b) ∙ h.1.1.1.1.1.1.1.1.1.1.1.1.1.1.1.1.1.1.1.1.1.0;
    k_minProperties = sym (r_k_minProperties b) ∙ h.1.1.1.1.1.1.1.1.1.1.1.1.1.1.1.1.1.1.1.1.1.1.0;
    k_minimum = sym (r_k_minimum b) ∙ h.1.1.1.1.1.1.1.1.1.1.1.1.1.1.1.1.1.1.1.1.1.1.1.0;
    k_multipleOf = sym (r_k_multipleOf b) ∙ h.1.1.1.1.1.1.1.1.1.1.1.1.1.1.1.1.1.1.1.1.1.1.1.1.0;
    k_not = sym (r_k_not b) ∙ h.1.1.1.1.1.1.1.1.1.1.1.1.1.1.1.1.1.1.1.1.1.1.1.1.1.0;
    k_oneOf = sym (r_k_oneOf b) ∙ h.1.1.1.1.1.1.1.1.1.1.1.1.1.1.1.1.1.1.1.1.1.1.1.1.1.1.0;
    k_pattern = sym (r_k_pattern b) ∙ h.1.1.1.1.1.1.1.1.1.1.1.1.1.1.1.1.1.1.1.1.1.1.1.1.1.1.1.0;
    k_patternProperties = sym (r_k_patternProperties b) ∙ h.1.1.1.1.1.1.1.1.1.1.1.1.1.1.1.1.1.1.1.1.1.1.1.1.1.1.1.1.0;
    k_properties = sym (r_k_properties b) ∙ h.1.1.1.1.1.1.1.1.1.1.1.1.1.1.1.1.1.1.1.1.1.1.1.1.1.1.1.1.1.0;
    k_propertyNames = sym (r_k_propertyNames b) ∙ h.1.1.1.1.1.1.1.1.1.1.1.1.1.1.1.1.1.1.1.1.1.1.1.1.1.1.1.1.1.1.0;
    k_required = sym (r_k_required b) ∙ h.1.1.1.1.1.1.1.1.1.1.1.1.1.1.1.1.1.1.1.1.1.1.1.1.1.1.1.1.1.1.1.0;
    k_title = sym (r_k_title b) ∙ h.1.1.1.1.1.1.1.1.1.1.1.1.1.1.1.1.1.1.1.1.1.1.1.1.1.1.1.1.1.1.1.1.0;
    k_type = sym (r_k_type b) ∙ h.1.1.1.1.1.1.1.1.1.1.1.1.1.1.1.1.1.1.1.1.1.1.1.1.1.1.1.1.1.1.1.1.1.0;
    k_uniqueItems = sym (r_k_uniqueItems b) ∙ h.1.1.1.1.1.1.1.1.1.1.1.1.1.1.1.1.1.1.1.1.1.1.1.1.1.1.1.1.1.1.1.1.1.1.0;
  }

  pub schema_reads : is_some (schema_of look) ≡ list_all (row_test false ms) keywords
  schema_reads =
      same_truth (is_some (schema_of look)) (list_all (row_test false ms) keywords)
      (λ h. of_rows (row_test false ms) keywords (rows_of false (ap (λ b. b && true) (no_definitions Defs (λ v. refl) (member_at (codes "$defs") ms))) (ap (λ b. b && true) (no_definitions Definitions (λ v. refl) (member_at (codes "definitions") ms))) (reads_each look h)))
      (λ h. of_reads look (reads_of false (each_row (row_test false ms) keywords h)))
