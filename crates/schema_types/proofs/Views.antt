-- Two objects of keywords, compared part by part.
use Rattle.std.proofs.Common.{◌≡◌, Bool, true, ◌&&◌, option_map, sym, ◌∙◌, rules}
use Rattle.schema_types.specs.View.{object_view, subschemas_view, array_view, members_view, same_of, lists_of, named_of}
use Rattle.schema_types.specs.Same.{same_keywords, same_schemas, same_sames, same_lists, same_named}
use Rattle.schema_types.specs.declared.schema.SchemaObject.{SchemaObject, out-SchemaObject, the_lemmas}

module _ (a b : SchemaObject) where
  abbrev keywords : Bool
  keywords = same_keywords (object_view a) (object_view b)

  abbrev subschemas : Bool
  subschemas = same_sames (same_of (option_map subschemas_view (out-SchemaObject a).subschemas)) (same_of (option_map subschemas_view (out-SchemaObject b).subschemas))

  abbrev arrays : Bool
  arrays = same_lists (lists_of (option_map array_view (out-SchemaObject a).array)) (lists_of (option_map array_view (out-SchemaObject b).array))

  abbrev members : Bool
  members = same_named (named_of (option_map members_view (out-SchemaObject a).object)) (named_of (option_map members_view (out-SchemaObject b).object))

  same_objects : same_schemas (object_view a) (object_view b) ≡ (keywords && subschemas && arrays && members)
  same_objects = search (rules, the_lemmas)

  -- where all but the last part are the same, the last part decides
  pub last_decides : (k s l n : Bool) → k ≡ keywords → s ≡ subschemas → l ≡ arrays → n ≡ members → k ≡ true → s ≡ true → l ≡ true → n ≡ same_schemas (object_view a) (object_view b)
  last_decides k s l n hk hs hl hn ek es el = (λ i. sym ek i && sym es i && sym el i && n) ∙ (λ i. hk i && hs i && hl i && hn i) ∙ sym same_objects
