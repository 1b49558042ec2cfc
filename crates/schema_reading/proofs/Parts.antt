-- A part of a schema where one of its keywords stands, and where none does.
use Rattle.std.proofs.Common.{◌≡◌, Option, Some, None, true, false, refl}
use Rattle.std.specs.Prelude.{codes, option_and_then, unwrap_or, if◌then◌else◌}
use Rattle.std.proofs.Common.{option_map, Vec, Global}
use Rattle.std.specs.declared.boxed.Box.{Box}
use Rattle.schema_types.specs.declared.schema.Schema.{Schema as Tree}
use Rattle.schema_types.specs.declared.schema.Items.{Items}
use Rattle.schema_types.specs.View.{schema_view, schemas_view, items_view, maybe_view, maybe_list_view, places_of as places_of_view}
use Rattle.schema_defs.specs.Schema.{Numbers, Texts, object, Same, no_same, Lists, no_lists, Named, no_named, no_items, schemas}
use Rattle.schema_defs.specs.Read.{◌⊛◌, Lookup, keyword, by_value, any_stands, text_of, integer_of, flag_of, size_of, multiple_of, kept, kept_list, names_of, pattern_of, types_of, number_words, text_words, same_words, condition_words, list_words, member_words, unless_empty, places_of, maybe_schema, maybe_list, make_numbers, make_texts, make_plain, make_same, make_lists, make_named, numbers_of, texts_of, plain_of, same_of, lists_of, named_of, schema_of}

-- one part that has no reading leaves the whole without one
pub nothing : {A B : Type 0} (x : Option A) → let f : Option (A → B) = None in f ⊛ x ≡ None
nothing None = refl
nothing (Some x) = refl

module _ (f : Lookup) where
  abbrev pub numbers_read : Option (Option Numbers)
  numbers_read = Some make_numbers
      ⊛ keyword (codes "multipleOf") (by_value multiple_of) f
      ⊛ keyword (codes "maximum") (by_value integer_of) f
      ⊛ keyword (codes "exclusiveMaximum") (by_value integer_of) f
      ⊛ keyword (codes "minimum") (by_value integer_of) f
      ⊛ keyword (codes "exclusiveMinimum") (by_value integer_of) f

  pub numbers_absent : any_stands number_words f ≡ false → numbers_of f ≡ Some None
  unfolding numbers_of
  numbers_absent h = λ i. if h i then numbers_read else Some None

  pub numbers_stand : any_stands number_words f ≡ true → numbers_of f ≡ numbers_read
  unfolding numbers_of
  numbers_stand h = λ i. if h i then numbers_read else Some None

  abbrev pub texts_read : Option (Option Texts)
  texts_read = Some make_texts
      ⊛ keyword (codes "maxLength") (by_value size_of) f
      ⊛ keyword (codes "minLength") (by_value size_of) f
      ⊛ keyword (codes "pattern") (by_value pattern_of) f

  pub texts_absent : any_stands text_words f ≡ false → texts_of f ≡ Some None
  unfolding texts_of
  texts_absent h = λ i. if h i then texts_read else Some None

  pub texts_stand : any_stands text_words f ≡ true → texts_of f ≡ texts_read
  unfolding texts_of
  texts_stand h = λ i. if h i then texts_read else Some None

  abbrev pub same_read : Option Same
  same_read = Some (make_same (any_stands condition_words f))
      ⊛ keyword (codes "allOf") (λ r. option_and_then unless_empty r.as_list) f
      ⊛ keyword (codes "anyOf") (λ r. r.as_list) f
      ⊛ keyword (codes "oneOf") (λ r. r.as_list) f
      ⊛ keyword (codes "not") (λ r. r.as_schema) f

  pub same_absent : any_stands same_words f ≡ false → same_of f ≡ Some no_same
  unfolding same_of
  same_absent h = λ i. if h i then same_read else Some no_same

  pub same_stand : any_stands same_words f ≡ true → same_of f ≡ same_read
  unfolding same_of
  same_stand h = λ i. if h i then same_read else Some no_same

  abbrev pub lists_read : Option Lists
  lists_read = Some make_lists
      ⊛ keyword (codes "items") places_of f
      ⊛ keyword (codes "additionalItems") (λ r. r.as_schema) f
      ⊛ keyword (codes "contains") (λ r. r.as_schema) f
      ⊛ keyword (codes "maxItems") (by_value size_of) f
      ⊛ keyword (codes "minItems") (by_value size_of) f
      ⊛ keyword (codes "uniqueItems") (by_value flag_of) f

  pub lists_absent : any_stands list_words f ≡ false → lists_of f ≡ Some no_lists
  unfolding lists_of
  lists_absent h = λ i. if h i then lists_read else Some no_lists

  pub lists_stand : any_stands list_words f ≡ true → lists_of f ≡ lists_read
  unfolding lists_of
  lists_stand h = λ i. if h i then lists_read else Some no_lists

  abbrev pub named_read : Option Named
  named_read = Some make_named
      ⊛ keyword (codes "properties") (λ r. r.as_named) f
      ⊛ keyword (codes "patternProperties") (λ r. r.as_named) f
      ⊛ keyword (codes "additionalProperties") (λ r. r.as_schema) f
      ⊛ keyword (codes "propertyNames") (λ r. r.as_schema) f
      ⊛ keyword (codes "maxProperties") (by_value size_of) f
      ⊛ keyword (codes "minProperties") (by_value size_of) f
      ⊛ keyword (codes "required") (by_value names_of) f

  pub named_absent : any_stands member_words f ≡ false → named_of f ≡ Some no_named
  unfolding named_of
  named_absent h = λ i. if h i then named_read else Some no_named

  pub named_stand : any_stands member_words f ≡ true → named_of f ≡ named_read
  unfolding named_of
  named_stand h = λ i. if h i then named_read else Some no_named

  pub plain_is : plain_of f ≡ Some make_plain
      ⊛ keyword (codes "title") (by_value text_of) f
      ⊛ keyword (codes "description") (by_value text_of) f
      ⊛ keyword (codes "default") (by_value kept) f
      ⊛ keyword (codes "const") (by_value kept) f
      ⊛ keyword (codes "type") (by_value types_of) f
      ⊛ keyword (codes "format") (by_value text_of) f
      ⊛ keyword (codes "enum") (by_value kept_list) f
      ⊛ numbers_of f
      ⊛ texts_of f
      ⊛ keyword (codes "$ref") (by_value text_of) f
  unfolding plain_of
  plain_is = refl

  pub schema_is : schema_of f ≡ Some (λ p ss ls ns. object p ss ls ns) ⊛ plain_of f ⊛ same_of f ⊛ lists_of f ⊛ named_of f
  unfolding schema_of
  schema_is = refl

-- ---- what may be absent

pub list_given : (o : Option (Vec Tree Global)) → maybe_list (option_map (λ v. schemas (schemas_view v.items)) o) ≡ maybe_list_view (option_map (λ v. v.items) o)
list_given None = refl
list_given (Some v) = refl

pub schema_given : (o : Option (Box Tree Global)) → maybe_schema (option_map (λ b. schema_view b.value) o) ≡ maybe_view o
schema_given None = refl
schema_given (Some b) = refl

pub places_given : (o : Option Items) → unwrap_or (option_map items_view o) no_items ≡ places_of_view (option_map items_view o)
places_given None = refl
places_given (Some p) = refl
