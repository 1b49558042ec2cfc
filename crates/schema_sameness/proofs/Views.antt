-- Two objects of keywords, compared part by part.
use Rattle.std.proofs.Common.{◌≡◌, Bool, true, ◌&&◌, option_map, sym, ◌∙◌, rules}
use Rattle.schema_types.specs.View.{object_view, subschemas_view, array_view, members_view, same_of, lists_of, named_of}
use Rattle.schema_types.specs.declared.schema.SchemaObject.{SchemaObject, out-SchemaObject, the_lemmas}
use Rattle.merge_defs.specs.Alike.{Look, alike, alike_same, alike_lists, alike_named}
use Rattle.schema_sameness.specs.Parts.{plain_in}

module _ (k : Look) (a b : SchemaObject) where
  abbrev keywords : Bool
  keywords = k.plain (plain_in (object_view a)) (plain_in (object_view b))

  abbrev subschemas : Bool
  subschemas = alike_same k (same_of (option_map subschemas_view (out-SchemaObject a).subschemas)) (same_of (option_map subschemas_view (out-SchemaObject b).subschemas))

  abbrev arrays : Bool
  arrays = alike_lists k (lists_of (option_map array_view (out-SchemaObject a).array)) (lists_of (option_map array_view (out-SchemaObject b).array))

  abbrev members : Bool
  members = alike_named k (named_of (option_map members_view (out-SchemaObject a).object)) (named_of (option_map members_view (out-SchemaObject b).object))

  alike_objects : alike k (object_view a) (object_view b) ≡ (keywords && subschemas && arrays && members)
  alike_objects = search (rules, the_lemmas)

  -- where all but the last part are alike, the last part decides
  pub last_decides : (p s l n : Bool) → p ≡ keywords → s ≡ subschemas → l ≡ arrays → n ≡ members → p ≡ true → s ≡ true → l ≡ true → n ≡ alike k (object_view a) (object_view b)
  last_decides p s l n hp hs hl hn ep es el = (λ i. sym ep i && sym es i && sym el i && n) ∙ (λ i. hp i && hs i && hl i && hn i) ∙ sym alike_objects
