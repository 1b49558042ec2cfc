-- That schemas are the same in all but walks is decided alike by both definitions.
use Rattle.std.proofs.Common.{◌≡◌, Bool, true, false, ◌&&◌, bytes_eq, refl, sym, ap, ◌∙◌}
use Rattle.std.proofs.Math.Bool.{and_assoc}
use Rattle.std.specs.Bool.{Decides}
use Rattle.std.specs.Cmp.Lexicographic.{pointwise}
use Rattle.json_value.specs.Value.{same, same_bool}
use Rattle.schema_defs.specs.Schema.{Plain, Schema, boolean, object, Same, no_same, same_value, Lists, no_lists, lists, Named, no_named, named, MaybeSchema, no_schema, the_schema, MaybeSchemas, no_list, the_list, Schemas, no_more, schema, Places, no_items, each_item, by_place, Properties, no_properties, property}
use Rattle.schema_defs.specs.Mapped.{mapped, unwalked}
use Rattle.schema_types.specs.Same as code
use Rattle.schema_types.proofs.Alike.{schemas_Decides}
use Rattle.merge_defs.specs.Alike.{Look, same_option, same_types, same_numbers, same_texts, same_list_rules, same_member_rules, same_plain, same_schemas, alike, alike_same, alike_lists, alike_named, alike_maybe, alike_list, alike_all, alike_places, alike_properties}

-- ---- tests

both_decide : {P : Type 0} (r s : Bool) → Decides r P → Decides s P → r ≡ s
both_decide true true h k = refl
both_decide false false h k = refl
both_decide true false h k = sym (k.1 (h.0 refl))
both_decide false true h k = h.1 (k.0 refl)

never : (a : Bool) → false ≡ (a && false)
never true = refl
never false = refl

regrouped : (x c t f e n s r : Bool) → (x && c && t && f && e && n && s && r) ≡ (x && (c && t && f && e && n && s && r))
regrouped true c t f e n s r = refl
regrouped false c t f e n s r = refl

regrouped_four : (p x a c : Bool) → (p && x && a && c) ≡ (p && (x && a && c))
regrouped_four true x a c = refl
regrouped_four false x a c = refl

-- ---- part by part

abbrev whole : Look
whole = record { plain = same_plain; as_true = λ s. false; whole_lists = true }

plain_agrees : (p q : Plain) → code.same_plain p q ≡ same_plain p q
unfolding code.same_plain
plain_agrees p q =
    regrouped (same_option bytes_eq p.title q.title && same_option bytes_eq p.description q.description && same_option same p.default q.default)
    (same_option same p.const_value q.const_value)
    (same_option same_types p.types q.types)
    (same_option bytes_eq p.format q.format)
    (same_option (pointwise same) p.enum_values q.enum_values)
    (same_option same_numbers p.numbers q.numbers)
    (same_option same_texts p.texts q.texts)
    (same_option bytes_eq p.reference q.reference)

mutual
  agrees : (a b : Schema) → code.same_schemas a b ≡ same_schemas a b
  agrees (boolean a) (boolean b) = refl
  agrees (boolean a) (object q tt' ms os) = never a
  agrees (object p ss ls ns) (boolean b) = never b
  agrees (object p ss ls ns) (object q tt' ms os) = λ i. plain_agrees p q i && same_agrees ss tt' i && lists_agree ls ms i && named_agree ns os i

  same_agrees : (a b : Same) → code.same_sames a b ≡ alike_same whole a b
  same_agrees no_same no_same = refl
  same_agrees no_same (same_value all any one none c) = refl
  same_agrees (same_value all any one none c) no_same = refl
  same_agrees (same_value all any one none c) (same_value all' any' one' none' c') =
      λ i. list_agrees all all' i && list_agrees any any' i && list_agrees one one' i && maybe_agrees none none' i && same_bool c c'

  lists_agree : (a b : Lists) → code.same_lists a b ≡ alike_lists whole a b
  lists_agree no_lists no_lists = refl
  lists_agree no_lists (lists p x a c) = refl
  lists_agree (lists p x a c) no_lists = refl
  lists_agree (lists p x a c) (lists p' x' a' c') =
      regrouped_four (code.same_places p p') (code.same_maybe x x') (code.same_maybe a a') (same_list_rules c c') ∙ (λ i. places_agree p p' i && (maybe_agrees x x' i && maybe_agrees a a' i && same_list_rules c c'))

  named_agree : (a b : Named) → code.same_named a b ≡ alike_named whole a b
  named_agree no_named no_named = refl
  named_agree no_named (named p q x n c) = refl
  named_agree (named p q x n c) no_named = refl
  named_agree (named p q x n c) (named p' q' x' n' c') =
      λ i. properties_agree p p' i && properties_agree q q' i && maybe_agrees x x' i && maybe_agrees n n' i && same_member_rules c c'

  maybe_agrees : (a b : MaybeSchema) → code.same_maybe a b ≡ alike_maybe whole a b
  maybe_agrees no_schema no_schema = refl
  maybe_agrees no_schema (the_schema t) = refl
  maybe_agrees (the_schema s) no_schema = refl
  maybe_agrees (the_schema s) (the_schema t) = agrees s t

  list_agrees : (a b : MaybeSchemas) → code.same_list a b ≡ alike_list whole a b
  list_agrees no_list no_list = refl
  list_agrees no_list (the_list ts) = refl
  list_agrees (the_list ss) no_list = refl
  list_agrees (the_list ss) (the_list ts) = all_agree ss ts

  all_agree : (a b : Schemas) → code.same_all a b ≡ alike_all whole a b
  all_agree no_more no_more = refl
  all_agree no_more (schema t ts) = refl
  all_agree (schema s ss) no_more = refl
  all_agree (schema s ss) (schema t ts) = λ i. agrees s t i && all_agree ss ts i

  places_agree : (a b : Places) → code.same_places a b ≡ alike_places whole a b
  places_agree no_items no_items = refl
  places_agree no_items (each_item t) = refl
  places_agree no_items (by_place ts) = refl
  places_agree (each_item s) no_items = refl
  places_agree (each_item s) (each_item t) = agrees s t
  places_agree (each_item s) (by_place ts) = refl
  places_agree (by_place ss) no_items = refl
  places_agree (by_place ss) (each_item t) = refl
  places_agree (by_place ss) (by_place ts) = all_agree ss ts

  properties_agree : (a b : Properties) → code.same_properties a b ≡ alike_properties whole a b
  properties_agree no_properties no_properties = refl
  properties_agree no_properties (property m t qs) = refl
  properties_agree (property n s ps) no_properties = refl
  properties_agree (property n s ps) (property m t qs) = and_assoc (bytes_eq n m) (code.same_schemas s t) (code.same_properties ps qs) ∙ (λ i. bytes_eq n m && (agrees s t i && properties_agree ps qs i))

-- what decides it is what the definition says
pub decided : (r : Bool) (a b : Schema) → Decides r (mapped unwalked a ≡ mapped unwalked b) → r ≡ same_schemas a b
decided r a b h = both_decide r (code.same_schemas a b) h (schemas_Decides a b) ∙ agrees a b
