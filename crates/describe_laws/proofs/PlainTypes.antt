-- Types, fields and contents are rows, at each level that has room for them.
use Rattle.std.proofs.Common.{◌≡◌, inl, inr, ℕ, zero, suc, ◌+◌, ◌≤◌, List, [], ◌∷◌, map, length, Bool, true, false, ◌&&◌, not, refl, sym, ap, ◌∙◌, subst, Option, Some, None, arith}
use Rattle.std.specs.Prelude.{◌==◌, nat_le, is_some, option_map}
use Rattle.std.specs.List.{list_all}
use Rattle.schema_defs.specs.declared.Format.{Format}
use Rattle.schema_defs.specs.declared.Format.TheVariants.{Uuid, Date, DateTime, Ip, Ipv4, Ipv6}
use Rattle.schema_defs.specs.Integers.{Range}
use Rattle.schema_defs.specs.Schema.{Schema, Schemas, schema_list, MaybeSchema, no_schema, the_schema, properties, Document}
use Rattle.schema_defs.specs.Admits.{target}
use Rattle.schema_defs.specs.Counts.{schema_nodes, schemas_nodes, properties_nodes, maybe_nodes}
use Rattle.enum_defs.specs.Kinds.{null_free}
use Rattle.model_defs.specs.Types.{TypeModel, TypeModels, no_types, type_then, boolean_type, integer_type, text_type, native_type, any_type, unit_type, option_type, boxed_type, vec_type, set_type, map_type, tuple_type, array_type, item_type, outside_type, types}
use Rattle.model_defs.specs.Model.{HelperModel, no_helper, some_helper, whole_helper, DefaultModel, own_default, FieldModel, ContainerModel, ConversionsD, container_named}
use Rattle.model_defs.specs.Layer.{Content, one_type, places, named_fields, helped_type, present_type, has_default}
use Rattle.model_defs.proofs.Flat.{and_first, and_second}
use Rattle.writing_laws.specs.Kinds.{nulls}
use Rattle.plain_defs.specs.Words.{is_flag}
use Rattle.plain_defs.specs.Rows.{Inner, plain_any, plain_boolean, plain_integer, plain_text, plain_list, plain_tuple, plain_map, plain_struct, plain_reference, plain_option, plain_tagged, plain_cases, plain_kinds, plain_typed, plain_row, rows_within, is_integer_format, is_sized}
use Rattle.describe_defs.specs.Plain.{integer_format, integer_formats, count_types, has_places, is_string, is_item, plain_type, are_plain_types, is_null_free, stand_once, is_own_default, is_some_helper, is_option_of, is_plain_field, are_plain_fields, is_plain_content, is_plain_item}
use Rattle.describe_defs.specs.Description.{EntryD, property_of, never, no_rules, nullable, list_of, places_of, object_of, item_reference, copies, type_schema, type_schemas, one_text, item_schema, closed_rest, field_entry, rest_schema, struct_schema, content_schema, in_order, description}
use Rattle.describe_defs.proofs.Sound.{no}
use Rattle.describe_defs.proofs.Types.{format_found}
use Rattle.describe_defs.proofs.Exact.{target_found}
use Rattle.describe_defs.proofs.Objects.{names}
use Rattle.describe_defs.proofs.Structs.{kinds_of_fields, by_kind, unhelped, bare_unhelped, no_rests, entry_names}
use Rattle.describe_laws.proofs.OpenKinds.{content_kinds}
use Rattle.describe_laws.proofs.Sizes.{total, properties_total, order_total, some_nodes}
use Rattle.describe_laws.proofs.PlainObjects.{both, or_left, or_right, Holds, AllHold, flagged_row, shut_row, open_row, map_row}

module _ (d : Document) (i : Inner) (s : Schema) where
  pub among : plain_typed d i s ≡ true → plain_row d i s ≡ true
  among h = or_right (plain_any d i s) _ (or_left (plain_typed d i s) _ h)

  pub by_p3 : plain_integer d i s ≡ true → plain_row d i s ≡ true
  by_p3 h = among (or_right (plain_boolean d i s) _ (or_left (plain_integer d i s) _ h))

  pub by_p4 : plain_text d i s ≡ true → plain_row d i s ≡ true
  by_p4 h = among (or_right (plain_boolean d i s) _ (or_right (plain_integer d i s) _ (or_left (plain_text d i s) _ h)))

  pub by_p5 : plain_list d i s ≡ true → plain_row d i s ≡ true
  by_p5 h = among (or_right (plain_boolean d i s) _ (or_right (plain_integer d i s) _ (or_right (plain_text d i s) _ (or_left (plain_list d i s) _ h))))

  pub by_p6 : plain_tuple d i s ≡ true → plain_row d i s ≡ true
  by_p6 h = among (or_right (plain_boolean d i s) _ (or_right (plain_integer d i s) _ (or_right (plain_text d i s) _ (or_right (plain_list d i s) _ (or_left (plain_tuple d i s) _ h)))))

  pub by_p7 : plain_map d i s ≡ true → plain_row d i s ≡ true
  by_p7 h = among (or_right (plain_boolean d i s) _ (or_right (plain_integer d i s) _ (or_right (plain_text d i s) _ (or_right (plain_list d i s) _ (or_right (plain_tuple d i s) _ (or_left (plain_map d i s) _ h))))))

  pub by_p8 : plain_struct d i s ≡ true → plain_row d i s ≡ true
  by_p8 h = among (or_right (plain_boolean d i s) _ (or_right (plain_integer d i s) _ (or_right (plain_text d i s) _ (or_right (plain_list d i s) _ (or_right (plain_tuple d i s) _ (or_right (plain_map d i s) _ h))))))

  pub by_p10 : plain_reference d i s ≡ true → plain_row d i s ≡ true
  by_p10 h = or_right (plain_any d i s) _ (or_right (plain_typed d i s) _ (or_left (plain_reference d i s) _ h))

  pub by_p12 : plain_tagged d i s ≡ true → plain_row d i s ≡ true
  by_p12 h = or_right (plain_any d i s) _ (or_right (plain_typed d i s) _ (or_right (plain_reference d i s) _ (or_left (plain_tagged d i s) _ h)))

  pub by_p13 : plain_cases d i s ≡ true → plain_row d i s ≡ true
  by_p13 h = or_right (plain_any d i s) _ (or_right (plain_typed d i s) _ (or_right (plain_reference d i s) _ (or_right (plain_tagged d i s) _ (or_left (plain_cases d i s) _ h))))

  pub by_p14 : plain_kinds d i s ≡ true → plain_row d i s ≡ true
  by_p14 h = or_right (plain_any d i s) _ (or_right (plain_typed d i s) _ (or_right (plain_reference d i s) _ (or_right (plain_tagged d i s) _ (or_right (plain_cases d i s) _ h))))

same_count : (n : ℕ) → (n == n) ≡ true
same_count n = grind arith

module _ (models : List ContainerModel) (cs : ConversionsD) (root : TypeModel) (plain : list_all (is_plain_item models cs) models ≡ true) where
  abbrev pub d : Document
  d = description models cs root

  abbrev pub R : ℕ → Inner
  R k = rows_within d k

  -- at each level that has room
  abbrev pub Row : Schema → Type 0
  Row s = (k : ℕ) → schema_nodes s ≤ suc k → plain_row d (R k) s ≡ true

  pub lower : (s : Schema) → Row s → (k : ℕ) → schema_nodes s ≤ k → (R k).row s ≡ true
  lower s r zero l = let n = some_nodes s in absurd (omega (arith, n, l))
  lower s r (suc k) l = r k l

  abbrev pub MayBeNull : Schema → Type 0
  MayBeNull s = (k : ℕ) → schema_nodes s ≤ suc k → plain_option d (R k) s ≡ true

  pub lower_null : (s : Schema) → MayBeNull s → (k : ℕ) → schema_nodes s ≤ k → (R k).nullable s ≡ true
  lower_null s r zero l = let n = some_nodes s in absurd (omega (arith, n, l))
  lower_null s r (suc k) l = r k l

  abbrev pub IsObject : Schema → Type 0
  IsObject s = (k : ℕ) → schema_nodes s ≤ suc k → plain_struct d (R k) s ≡ true

  pub lower_object : (s : Schema) → IsObject s → (k : ℕ) → schema_nodes s ≤ k → (R k).object s ≡ true
  lower_object s r zero l = let n = some_nodes s in absurd (omega (arith, n, l))
  lower_object s r (suc k) l = r k l

  -- ---- types

  integer_fits : (i : Inner) (g : Range) (o : Option (List ℕ)) → integer_format g ≡ o → is_some o ≡ true → is_integer_format d i o ≡ true
  integer_fits i g None e h = no h
  integer_fits i g (Some f) e h = ap is_some (format_found g integer_formats f e)

  native_row : (f : Format) → Row (type_schema (native_type f))
  native_row Uuid k l = refl
  native_row Date k l = refl
  native_row DateTime k l = refl
  native_row Ip k l = refl
  native_row Ipv4 k l = refl
  native_row Ipv6 k l = refl

  sized : (i : Inner) (m n : ℕ) → m ≡ n → nat_le 1 n ≡ true → is_sized d i m (record no_rules { max_items = Some n; min_items = Some n }) ≡ true
  sized i m n e h =
      (λ j. is_sized d i (e j) (record no_rules { max_items = Some n; min_items = Some n }))
      ∙ both (nat_le 1 n) _ h (both (n == n) _ (same_count n) (both (n == n) _ (same_count n) refl))

  listed_row : (s : Schema) → Row s → Row (list_of s)
  listed_row s r k l = by_p5 d (R k) (list_of s) (both _ true (lower s r k (omega (arith, l))) refl)

  places_row : (n : ℕ) (ss : Schemas) → length (schema_list ss) ≡ n → nat_le 1 n ≡ true → ((k : ℕ) → schemas_nodes ss ≤ k → list_all (R k).row (schema_list ss) ≡ true) → Row (places_of n ss)
  places_row n ss e h r k l = by_p6 d (R k) (places_of n ss) (both _ true (both _ _ (sized (R k) (length (schema_list ss)) n e h) (r k (omega (arith, l)))) refl)

  copies_long : (n : ℕ) (s : Schema) → length (schema_list (copies n s)) ≡ n
  copies_long zero s = refl
  copies_long (suc n) s = ap suc (copies_long n s)

  copies_rows : (n : ℕ) (s : Schema) → Row s → (k : ℕ) → schemas_nodes (copies n s) ≤ k → list_all (R k).row (schema_list (copies n s)) ≡ true
  copies_rows zero s r k l = refl
  copies_rows (suc n) s r k l = both ((R k).row s) _ (lower s r k (omega (arith, l))) (copies_rows n s r k (omega (arith, l)))

  types_long : (ts : TypeModels) → length (schema_list (type_schemas ts)) ≡ count_types ts
  types_long no_types = refl
  types_long (type_then t ts) = ap suc (types_long ts)

  pub mapped_row : (s : Schema) → Row s → Row (object_of [] (the_schema s))
  mapped_row s r k l = by_p7 d (R k) (object_of [] (the_schema s)) (map_row d (R k) s (lower s r k (omega (arith, l))))

  reference_row : (n : List ℕ) → is_item models cs n ≡ true → Row (type_schema (item_type n))
  reference_row n h k l =
      by_p10 d (R k) (type_schema (item_type n)) (both (is_some (target d (item_reference n))) true (ap is_some (target_found models cs root n) ∙ by (container_named n models) h) refl)
    where
      by : (o : Option ContainerModel) → is_some o ≡ true → is_some (option_map (item_schema cs) o) ≡ true
      by None h = h
      by (Some m) h = refl

  mutual
    pub type_row : (t : TypeModel) → plain_type models cs t ≡ true → Row (type_schema t)
    type_row boolean_type h = λ k l. refl
    type_row (integer_type g) h = λ k l. by_p3 d (R k) (type_schema (integer_type g)) (both (is_integer_format d (R k) (integer_format g)) true (integer_fits (R k) g (integer_format g) refl h) refl)
    type_row text_type h = λ k l. refl
    type_row (native_type f) h = native_row f
    type_row any_type h = λ k l. refl
    type_row unit_type h = no h
    type_row (option_type t) h = no h
    type_row (boxed_type t) h = type_row t h
    type_row (vec_type t) h = listed_row (type_schema t) (type_row t h)
    type_row (set_type t) h = no h
    type_row (map_type n t) h = mapped_row (type_schema t) (type_row t (and_second (is_string n) _ h))
    type_row (tuple_type ts) h = places_row (count_types ts) (type_schemas ts) (types_long ts) (and_first (nat_le 1 (count_types ts)) _ (and_first (has_places (count_types ts)) _ h)) (types_rows ts (and_second (has_places (count_types ts)) _ h))
    type_row (array_type t n) h = places_row n (copies n (type_schema t)) (copies_long n (type_schema t)) (and_first (nat_le 1 n) _ (and_first (has_places n) _ h)) (copies_rows n (type_schema t) (type_row t (and_second (has_places n) _ h)))
    type_row (item_type n) h = reference_row n h
    type_row outside_type h = no h

    types_rows : (ts : TypeModels) → are_plain_types (is_item models cs) ts ≡ true → (k : ℕ) → schemas_nodes (type_schemas ts) ≤ k → list_all (R k).row (schema_list (type_schemas ts)) ≡ true
    types_rows no_types h k l = refl
    types_rows (type_then t ts) h k l =
        both ((R k).row (type_schema t)) _ (lower (type_schema t) (type_row t (and_first _ _ h)) k (omega (arith, l))) (types_rows ts (and_second _ _ h) k (omega (arith, l)))

  -- ---- fields

  null_row : (t : TypeModel) → plain_type models cs t ≡ true → is_null_free models (one_type t) ≡ true → MayBeNull (nullable (type_schema t))
  null_row t h f k l =
      let free : null_free d (type_schema t) ≡ true = ap not (content_kinds models cs root plain nulls (one_type t) h) ∙ f in
      both _ true (or_left _ _ (both ((R k).row (type_schema t)) _ (lower (type_schema t) (type_row t h) k (omega (arith, l))) (both (null_free d (type_schema t)) true free refl))) refl

  defaulted : (x : DefaultModel) → is_own_default x ≡ true → not (has_default x) ≡ false
  defaulted own_default h = refl
  defaulted _ h = no h

  held_row : (h : HelperModel) (t : TypeModel) → is_some_helper h ≡ true → is_option_of (plain_type models cs) t ≡ true → Row (type_schema (helped_type h t))
  held_row some_helper (option_type t) a b = type_row t b
  held_row some_helper _ a b = no b
  held_row no_helper t a b = no a
  held_row whole_helper t a b = no a

  option_row : (t : TypeModel) → is_option_of (λ u. plain_type models cs u && is_null_free models (one_type u)) t ≡ true → MayBeNull (type_schema t)
  option_row (option_type t) h = null_row t (and_first _ _ h) (and_second (plain_type models cs t) _ h)
  option_row _ h = no h

  field_holds : (f : FieldModel) → kinds_of_fields models cs f ≡ true → (k : ℕ) → schema_nodes (type_schema (present_type f)) ≤ k → Holds d (R k) (field_entry f)
  field_holds f h k l =
      let s = type_schema (present_type f) in
      by_kind models cs f h
      (λ e. inl (lower s (subst (λ t. Row (type_schema t)) (unhelped f.helper f.field_type (and_second _ _ (and_first _ _ e))) (type_row f.field_type (and_second _ _ e))) k l))
      (λ e. inr (defaulted f.default (and_first _ _ (and_first _ _ e)), lower_null s (subst (λ t. MayBeNull (type_schema t)) (unhelped f.helper f.field_type (bare_unhelped f.helper (and_second _ _ (and_first _ _ e)))) (option_row f.field_type (and_second _ _ e))) k l))
      (λ e. inl (lower s (held_row f.helper f.field_type (and_second _ _ (and_first _ _ e)) (and_second _ _ e)) k l))
      (λ e. inl (lower s (subst (λ t. Row (type_schema t)) (unhelped f.helper f.field_type (bare_unhelped f.helper (and_second _ _ (and_first _ _ (and_first _ _ e))))) (type_row f.field_type (and_second _ _ e))) k l))

  pub fields_hold : (fs : List FieldModel) → list_all (is_plain_field models cs) fs ≡ true → (k : ℕ) → total (map property_of (map field_entry fs)) ≤ k → AllHold d (R k) (map field_entry fs)
  fields_hold [] h k l = tt
  fields_hold (f ∷ fs) h k l =
      (field_holds f (and_second _ _ (and_first (is_plain_field models cs f) _ h)) k (omega (arith, l)), fields_hold fs (and_second (is_plain_field models cs f) _ h) k (omega (arith, l)))

  -- ---- objects

  pub entries_within : (es : List EntryD) (rest : MaybeSchema) (k : ℕ) → properties_nodes (properties (in_order (map property_of es))) + maybe_nodes rest ≤ k → (total (map property_of es) ≤ k) × (maybe_nodes rest ≤ k)
  entries_within es rest k l =
      let e = properties_total (in_order (map property_of es)) ∙ order_total (map property_of es) in
      (omega (arith, l, e), omega (arith, l))

  pub object_row : (e : EntryD) (es : List EntryD) (rest : MaybeSchema) → is_flag rest ≡ true → stand_once (names (e ∷ es)) ≡ true
      → ((k : ℕ) → total (map property_of (e ∷ es)) ≤ k → AllHold d (R k) (e ∷ es)) → IsObject (object_of (e ∷ es) rest)
  object_row e es rest f o h k l = flagged_row d (R k) e es rest f o (h k ((entries_within (e ∷ es) rest k (omega (arith, l))).0))

  pub flag_of : (closed : Bool) → is_flag (closed_rest closed) ≡ true
  flag_of true = refl
  flag_of false = refl

  named_once : (fs : List FieldModel) → are_plain_fields models cs fs ≡ true → stand_once (names (map field_entry fs)) ≡ true
  named_once fs h = ap stand_once (entry_names models cs fs) ∙ and_second _ _ h

  pub restless_row : (closed : Bool) (fs : List FieldModel) → are_plain_fields models cs fs ≡ true → Row (object_of (map field_entry fs) (closed_rest closed))
  restless_row true [] h k l = by_p8 d (R k) (object_of [] never) (shut_row d (R k))
  restless_row false [] h k l = by_p7 d (R k) (object_of [] no_schema) (open_row d (R k))
  restless_row closed (f ∷ fs) h k l =
      by_p8 d (R k) (object_of (map field_entry (f ∷ fs)) (closed_rest closed))
      (object_row (field_entry f) (map field_entry fs) (closed_rest closed) (flag_of closed) (named_once (f ∷ fs) h) (fields_hold (f ∷ fs) (and_first _ _ h)) k l)

  pub struct_row : (closed : Bool) (fs : List FieldModel) → are_plain_fields models cs fs ≡ true → Row (struct_schema closed fs)
  struct_row closed fs h =
      let n = no_rests models cs fs (and_first _ _ h) in
      subst Row (λ i. object_of (map field_entry (sym n.0 i)) (rest_schema (sym n.1 i) (closed_rest closed))) (restless_row closed fs h)

  -- ---- contents

  several_plain : (ts : List TypeModel) → list_all (plain_type models cs) ts ≡ true → are_plain_types (is_item models cs) (types ts) ≡ true
  several_plain [] h = refl
  several_plain (t ∷ ts) h = both (plain_type models cs t) _ (and_first _ _ h) (several_plain ts (and_second (plain_type models cs t) _ h))

  counted : (ts : List TypeModel) → count_types (types ts) ≡ length ts
  counted [] = refl
  counted (t ∷ ts) = ap suc (counted ts)

  one_too : (n : ℕ) → nat_le 2 n ≡ true → nat_le 1 n ≡ true
  one_too n h = grind arith

  pub content_row : (c : Content) → is_plain_content models cs c ≡ true → Row (content_schema c)
  content_row (one_type t) h = type_row t h
  content_row (places ts) h =
      places_row (count_types (types ts)) (type_schemas (types ts)) (types_long (types ts))
      (ap (nat_le 1) (counted ts) ∙ one_too (length ts) (and_first _ _ (and_first _ _ h))) (types_rows (types ts) (several_plain ts (and_second _ _ h)))
  content_row (named_fields closed fs) h = struct_row closed fs h

  pub one_text_row : (n : List ℕ) → Row (one_text n)
  one_text_row n k l = refl
