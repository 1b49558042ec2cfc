-- A description is plain.
use Rattle.std.proofs.Common.{◌≡◌, ◌⊎◌, inl, inr, ℕ, zero, suc, ◌≤◌, List, [], ◌∷◌, map, Bool, true, false, ◌&&◌, ◌||◌, not, refl, sym, ap, ◌∙◌, Option, Some, None, arith}
use Rattle.std.specs.Prelude.{nat_le, if◌then◌else◌}
use Rattle.std.specs.List.{list_all}
use Rattle.schema_defs.specs.Schema as schemas
use Rattle.schema_defs.specs.Schema.{Schema, MaybeSchema, no_schema, the_schema, Document}
use Rattle.schema_defs.specs.Counts.{nodes, schema_nodes}
use Rattle.model_defs.specs.Types.{TypeModel, map_type}
use Rattle.model_defs.specs.Model.{struct_style, tuple_style, newtype_style, unit_style, FieldModel, BodyModel, struct_model, enum_model, ContainerModel, RuleD, text_rule, allow_rule, deny_rule, ConversionsD, rule_of}
use Rattle.model_defs.proofs.Flat.{and_first, and_second}
use Rattle.plain_defs.specs.Plain.{has_rows}
use Rattle.plain_defs.specs.Rows.{plain_row, plain_struct, plain_item, definition_row}
use Rattle.describe_defs.specs.Plain.{is_string, plain_type, is_length_rule, stand_once, named_fields_of, rests_of, is_map, is_plain_field, is_plain_rest, are_plain_rests, is_plain_struct, is_plain_newtype, is_plain_body, is_plain_item}
use Rattle.describe_defs.specs.Description.{object_of, field_entry, closed_rest, map_values, rest_schema, struct_schema, type_schema, with_lengths, ruled_schema, newtype_schema, body_schema, item_schema, item_entry, definition_of, in_order, beside_definitions, description}
use Rattle.describe_defs.proofs.Sound.{no}
use Rattle.describe_defs.proofs.Objects.{names}
use Rattle.describe_defs.proofs.Structs.{named_once, entry_names}
use Rattle.describe_defs.proofs.Guards.{order_each, guarded_test}
use Rattle.describe_laws.specs.Laws.{DescriptionsArePlain}
use Rattle.describe_laws.proofs.Sizes.{total, definitions_total, order_total, some_nodes}
use Rattle.describe_laws.proofs.PlainObjects.{both, or_left, or_right, rest_row}
use Rattle.describe_laws.proofs.PlainTypes.{R, Row, lower, type_row, mapped_row, fields_hold, entries_within, by_p8, restless_row}
use Rattle.describe_laws.proofs.PlainEnums.{enum_row}

module _ (models : List ContainerModel) (cs : ConversionsD) (root : TypeModel) (plain : list_all (is_plain_item models cs) models ≡ true) where
  abbrev d : Document
  d = description models cs root

  -- as a definition
  abbrev DefinitionRow : Schema → Type 0
  DefinitionRow s = (k : ℕ) → schema_nodes s ≤ suc k → (plain_row d (R models cs root plain k) s || plain_item d (R models cs root plain k) s) ≡ true

  as_row : (s : Schema) → Row models cs root plain s → DefinitionRow s
  as_row s r k l = or_left (plain_row d (R models cs root plain k) s) _ (r k l)

  -- ---- structs

  with_rest : (fs : List FieldModel) (t : TypeModel) → plain_type models cs t ≡ true → list_all (is_plain_field models cs) fs ≡ true → stand_once (names (map field_entry fs)) ≡ true
      → DefinitionRow (object_of (map field_entry fs) (the_schema (type_schema t)))
  with_rest [] t p h o k l = as_row (object_of [] (the_schema (type_schema t))) (mapped_row models cs root plain (type_schema t) (type_row models cs root plain t p)) k l
  with_rest (f ∷ fs) t p h o k l =
      let s = object_of (map field_entry (f ∷ fs)) (the_schema (type_schema t)) in
      let room = entries_within models cs root plain (map field_entry (f ∷ fs)) (the_schema (type_schema t)) k (omega (arith, l)) in
      by s (rest_row d (R models cs root plain k) (field_entry f) (map field_entry fs) (type_schema t)
      (lower models cs root plain (type_schema t) (type_row models cs root plain t p) k room.1) o (fields_hold models cs root plain (f ∷ fs) h k room.0))
    where
      by : (s : Schema) → (plain_struct d (R models cs root plain k) s ≡ true) ⊎ (plain_item d (R models cs root plain k) s ≡ true) → (plain_row d (R models cs root plain k) s || plain_item d (R models cs root plain k) s) ≡ true
      by s (inl e) = or_left (plain_row d (R models cs root plain k) s) _ (by_p8 d (R models cs root plain k) s e)
      by s (inr e) = or_right (plain_row d (R models cs root plain k) s) _ e

  with_rests : (closed : Bool) (fs rs : List FieldModel) → are_plain_rests models cs closed rs ≡ true → list_all (is_plain_field models cs) fs ≡ true → stand_once (names (map field_entry fs)) ≡ true
      → DefinitionRow (object_of (map field_entry fs) (rest_schema rs (closed_rest closed)))
  with_rests closed fs [] r h o = as_row (object_of (map field_entry fs) (closed_rest closed)) (restless_row models cs root plain closed fs (both _ _ h (ap stand_once (sym (entry_names models cs fs)) ∙ o)))
  with_rests closed fs (f ∷ []) r h o = by f.field_type (and_second _ _ (and_first _ _ rest)) (and_second _ _ rest)
    where
      rest : is_plain_rest models cs f ≡ true
      rest = and_second (not closed) _ r

      by : (t : TypeModel) → is_map t ≡ true → plain_type models cs t ≡ true → DefinitionRow (object_of (map field_entry fs) (map_values t (closed_rest closed)))
      by (map_type n t) a b = with_rest fs t (and_second (is_string n) _ b) h o
      by _ a b = no a
  with_rests closed fs (f ∷ g ∷ rs) r h o = no r

  struct_row : (closed : Bool) (fs : List FieldModel) → is_plain_struct models cs closed fs ≡ true → DefinitionRow (struct_schema closed fs)
  struct_row closed fs h = with_rests closed (named_fields_of fs) (rests_of fs) (and_second _ _ h) (and_first _ _ (and_first _ _ h)) (named_once models cs closed fs h)

  -- ---- newtypes

  lengths_row : (a b : Option ℕ) → Row models cs root plain (with_lengths a b)
  lengths_row None None k l = refl
  lengths_row (Some a) b k l = refl
  lengths_row None (Some b) k l = refl

  ruled_row : (o : Option RuleD) → is_length_rule o ≡ true → Row models cs root plain (ruled_schema o)
  ruled_row None h = no h
  ruled_row (Some (text_rule t)) h = lengths_row t.least t.most
  ruled_row (Some (allow_rule vs)) h = no h
  ruled_row (Some (deny_rule vs)) h = no h

  newtype_row : (m : ContainerModel) (f : FieldModel) → is_plain_newtype models cs m (f ∷ []) ≡ true → Row models cs root plain (newtype_schema cs m (f ∷ []))
  newtype_row m f h =
      elim m.try_from as (λ b. (plain_type models cs f.field_type && (not b || (is_string f.field_type && is_length_rule (rule_of m.name cs.constraints)))) ≡ true
      → Row models cs root plain (if b then ruled_schema (rule_of m.name cs.constraints) else type_schema f.field_type)) [
        | true ↦ λ e. ruled_row (rule_of m.name cs.constraints) (and_second (is_string f.field_type) _ (and_second (plain_type models cs f.field_type) _ e))
        | false ↦ λ e. type_row models cs root plain f.field_type (and_first _ _ e)
      ] h

  -- ---- items

  body_row : (m : ContainerModel) (b : BodyModel) → is_plain_body models cs m b ≡ true → DefinitionRow (body_schema cs m b)
  body_row m (struct_model struct_style fs) h = struct_row m.closed fs (and_second (not m.try_from) _ h)
  body_row m (struct_model newtype_style (f ∷ [])) h = as_row (newtype_schema cs m (f ∷ [])) (newtype_row m f h)
  body_row m (struct_model newtype_style []) h = no h
  body_row m (struct_model newtype_style (f ∷ g ∷ fs)) h = no h
  body_row m (struct_model tuple_style fs) h = no h
  body_row m (struct_model unit_style fs) h = no h
  body_row m (enum_model tag ws) h = as_row (body_schema cs m (enum_model tag ws)) (enum_row models cs root plain m.closed tag ws (and_second (not m.try_from) _ h))

  defined_row : (s : Schema) → DefinitionRow s → (k : ℕ) → schema_nodes s ≤ k → definition_row d k s ≡ true
  defined_row s r zero l = let n = some_nodes s in absurd (omega (arith, n, l))
  defined_row s r (suc k) l = r k l

  items_rows : (k : ℕ) (ms : List ContainerModel) → list_all (is_plain_item models cs) ms ≡ true → total (map (item_entry cs) ms) ≤ k → list_all (λ e. definition_row d k e.1) (map (item_entry cs) ms) ≡ true
  items_rows k [] h l = refl
  items_rows k (m ∷ ms) h l =
      both (definition_row d k (item_schema cs m)) _ (defined_row (item_schema cs m) (body_row m m.body (and_first (is_plain_item models cs m) _ h)) k (omega (arith, l)))
      (items_rows k ms (and_second (is_plain_item models cs m) _ h) (omega (arith, l)))

  bodies : (k : ℕ) (es : List (List ℕ × Schema)) → list_all (λ e. definition_row d k e.body) (map definition_of es) ≡ list_all (λ e. definition_row d k e.1) es
  bodies k [] = refl
  bodies k (e ∷ es) = ap (λ z. definition_row d k e.1 && z) (bodies k es)

  -- ---- the root

  root_row : (ms : List ContainerModel) (s : Schema) → Row models cs root plain s → Row models cs root plain (beside_definitions ms s)
  root_row [] s r = r
  root_row (m ∷ ms) (schemas.boolean true) r = λ k l. refl
  root_row (m ∷ ms) (schemas.boolean false) r = r
  root_row (m ∷ ms) (schemas.object p ss ls ns) r = r

  module _ (root_type : plain_type models cs root ≡ true) where
    abbrev es : List (List ℕ × Schema)
    es = in_order (map (item_entry cs) models)

    rows : has_rows d (nodes d) ≡ true
    rows =
        let e = definitions_total es ∙ order_total (map (item_entry cs) models) in
        both _ _
        (lower models cs root plain d.root (root_row models (type_schema root) (type_row models cs root plain root root_type)) (nodes d) (omega arith))
        (bodies (nodes d) es ∙ order_each (λ e. definition_row d (nodes d) e.1) (map (item_entry cs) models) ∙ items_rows (nodes d) models plain (omega (arith, e)))

same_le : (n : ℕ) → nat_le n n ≡ true
same_le n = grind arith

pub descriptions_plain : DescriptionsArePlain
descriptions_plain models cs root h =
    both _ _ (guarded_test models cs root h.ends) (both _ _ (same_le (nodes (description models cs root))) (rows models cs root h.items h.root_type))
