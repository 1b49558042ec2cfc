-- The items that are written, as syntax trees. What an item, a field or a variant carries stands in one `serde` attribute.
use Rattle.std.specs.Prelude.{ℕ, ◌+◌, List, [], ◌∷◌, ◌++◌, length, Bool, true, false, Some, None, bytes_eq, codes, if◌then◌else◌}
use Rattle.std.specs.Fmt.{decimal}
use Rattle.token_trees.specs.Token.{Tok, fixed, text, digits, Name, site}
use Rattle.token_trees.specs.Text.{text_of}
use Rattle.syntax_trees.specs.Syntax.{TyD, ty_array, ty_tuple, ty_path, path, SegmentD, segment, ArgumentsD, no_arguments, angle, arg_ty, ex_fixed, no_qself, Tys, end_tys, more_tys, segments_of, generics_of}
use Rattle.syntax_trees.specs.Item.{MetaD, meta_list, FieldD, FieldsD, named_fields, unnamed_fields, unit_fields, VariantD, BodyD, struct_body, enum_body, ItemD}
use Rattle.syntax_printing.specs.Print.{sign, keyword, print_ty}
use Rattle.schema_defs.specs.Location.{place}
use Rattle.schema_defs.specs.declared.Format.{Format}
use Rattle.schema_defs.specs.declared.Format.TheVariants.{Uuid, Date, DateTime, Ip, Ipv4, Ipv6}
use Rattle.model_defs.specs.Model.{TagModel, external_tag, internal_tag, adjacent_tag, untagged}
use Rattle.entry_defs.specs.Entry.{IntegerName, i8, u8, i16, u16, i32, u32, i64, u64, nonzero_u8, nonzero_u16, nonzero_u32, nonzero_u64, Target, Entry, boolean_entry, integer_entry, text_entry, native_entry, any_entry, unit_entry, option_entry, vec_entry, set_entry, map_entry, tuple_entry, array_entry, reference, item, Entries, no_entries, entry_then, entry_again, Shape, struct_shape, enum_shape, newtype_shape, Fields, Rest, no_rest, rest, Contents, unit_contents, newtype_contents, tuple_contents, struct_contents, FieldEntry, VariantEntry, fields_of, rest_of, variants_of}
use Rattle.entry_defs.specs.Table.{ItemEntry}
use Rattle.emit_defs.specs.Setting.{Setting}
use Rattle.emit_defs.specs.Models.{unboxed, Empty, empty_option, empty_vec, empty_set, empty_map, Manner, plain, whole, defaulted, skipped, held, field_manner, after_state, after_contents, shape_defaults, is_closed, is_transparent}

-- ---- types

abbrev pub name_at : List ℕ → Name
name_at n = record { text = n; span = site }

abbrev pub lone : List ℕ → TyD
lone n = ty_path no_qself (path false (segments_of (segment (name_at n) no_arguments ∷ [])))

-- the names of a path, the last with arguments
abbrev pub segments_to : List (List ℕ) → List ℕ → ArgumentsD → List SegmentD
segments_to [] n a = segment (name_at n) a ∷ []
segments_to (m ∷ ms) n a = segment (name_at m) no_arguments ∷ segments_to ms n a

abbrev pub rooted : List (List ℕ) → List ℕ → ArgumentsD → TyD
rooted ms n a = ty_path no_qself (path true (segments_of (segments_to ms n a)))

abbrev pub in_std : List ℕ → List ℕ → ArgumentsD → TyD
in_std m n a = rooted (codes "std" ∷ m ∷ []) n a

abbrev pub of_one : TyD → ArgumentsD
of_one t = angle false (generics_of (arg_ty t ∷ []))

abbrev pub of_two : TyD → TyD → ArgumentsD
of_two k t = angle false (generics_of (arg_ty k ∷ arg_ty t ∷ []))

abbrev pub option_ty : TyD → TyD
option_ty t = in_std (codes "option") (codes "Option") (of_one t)

abbrev pub boxed_ty : TyD → TyD
boxed_ty t = in_std (codes "boxed") (codes "Box") (of_one t)

abbrev pub text_ty : TyD
text_ty = in_std (codes "string") (codes "String") no_arguments

abbrev pub map_ty : TyD → TyD → TyD
map_ty k t = in_std (codes "collections") (codes "HashMap") (of_two k t)

abbrev pub integer_ty : IntegerName → TyD
integer_ty i8 = lone (codes "i8")
integer_ty u8 = lone (codes "u8")
integer_ty i16 = lone (codes "i16")
integer_ty u16 = lone (codes "u16")
integer_ty i32 = lone (codes "i32")
integer_ty u32 = lone (codes "u32")
integer_ty i64 = lone (codes "i64")
integer_ty u64 = lone (codes "u64")
integer_ty nonzero_u8 = in_std (codes "num") (codes "NonZeroU8") no_arguments
integer_ty nonzero_u16 = in_std (codes "num") (codes "NonZeroU16") no_arguments
integer_ty nonzero_u32 = in_std (codes "num") (codes "NonZeroU32") no_arguments
integer_ty nonzero_u64 = in_std (codes "num") (codes "NonZeroU64") no_arguments

abbrev pub utc_ty : TyD
utc_ty = rooted (codes "chrono" ∷ codes "offset" ∷ []) (codes "Utc") no_arguments

abbrev pub native_ty : Format → TyD
native_ty Uuid = rooted (codes "uuid" ∷ []) (codes "Uuid") no_arguments
native_ty Date = rooted (codes "chrono" ∷ codes "naive" ∷ []) (codes "NaiveDate") no_arguments
native_ty DateTime = rooted (codes "chrono" ∷ []) (codes "DateTime") (of_one utc_ty)
native_ty Ip = in_std (codes "net") (codes "IpAddr") no_arguments
native_ty Ipv4 = in_std (codes "net") (codes "Ipv4Addr") no_arguments
native_ty Ipv6 = in_std (codes "net") (codes "Ipv6Addr") no_arguments

abbrev pub used_ty : (List ℕ → Bool) → List ℕ → TyD
used_ty is_boxed n = if is_boxed n then boxed_ty (lone n) else lone n

abbrev pub any_ty : TyD
any_ty = rooted (codes "serde_json" ∷ []) (codes "Value") no_arguments

-- the type of the next place stands for one more place
abbrev pub ty_again : Tys → Tys
ty_again end_tys = more_tys any_ty end_tys
ty_again (more_tys t ts) = more_tys t (more_tys t ts)

module _ (name : Target → List ℕ) where
  abbrev mutual
    pub entry_ty : (List ℕ → Bool) → Entry → TyD
    entry_ty b boolean_entry = lone (codes "bool")
    entry_ty b (integer_entry i) = integer_ty i
    entry_ty b text_entry = text_ty
    entry_ty b (native_entry f) = native_ty f
    entry_ty b any_entry = any_ty
    entry_ty b unit_entry = ty_tuple end_tys
    entry_ty b (option_entry e) = option_ty (entry_ty b e)
    entry_ty b (vec_entry e) = in_std (codes "vec") (codes "Vec") (of_one (entry_ty unboxed e))
    entry_ty b (set_entry e) = in_std (codes "collections") (codes "HashSet") (of_one (entry_ty unboxed e))
    entry_ty b (map_entry k e) = map_ty (entry_ty unboxed k) (entry_ty unboxed e)
    entry_ty b (tuple_entry es) = ty_tuple (entry_tys b es)
    entry_ty b (array_entry e n) = ty_array (entry_ty b e) (ex_fixed (digits (decimal n)) site)
    entry_ty b (reference q) = used_ty b (name q)
    entry_ty b (item n s) = used_ty b n

    pub entry_tys : (List ℕ → Bool) → Entries → Tys
    entry_tys b no_entries = end_tys
    entry_tys b (entry_then e es) = more_tys (entry_ty b e) (entry_tys b es)
    entry_tys b (entry_again es) = ty_again (entry_tys b es)

-- ---- attributes

-- a meta that is carried: a name, or a name with a text
pub data Carried : Type 0 where
  flag : List ℕ → Carried
  valued : List ℕ → List ℕ → Carried

abbrev pub carried_tokens : Carried → List Tok
carried_tokens (flag n) = keyword n ∷ []
carried_tokens (valued n v) = keyword n ∷ sign 61 ∷ fixed (text v []) site ∷ []

abbrev pub with_commas : List Carried → List Tok
with_commas [] = []
with_commas (m ∷ []) = carried_tokens m
with_commas (m ∷ n ∷ ms) = carried_tokens m ++ (sign 44 ∷ with_commas (n ∷ ms))

-- nothing where nothing is carried
abbrev pub serde : List Carried → List MetaD
serde [] = []
serde (m ∷ ms) = meta_list (path false (segments_of (segment (name_at (codes "serde")) no_arguments ∷ []))) (with_commas (m ∷ ms)) site ∷ []

abbrev pub when : {A : Type 0} → Bool → A → List A
when true x = x ∷ []
when false x = []

abbrev pub rename_metas : List ℕ → List ℕ → List Carried
rename_metas identifier name = if bytes_eq identifier name then [] else valued (codes "rename") name ∷ []

abbrev pub empty_path : Empty → List ℕ
empty_path empty_option = codes "::std::option::Option::is_none"
empty_path empty_vec = codes "::std::vec::Vec::is_empty"
empty_path empty_set = codes "::std::collections::HashSet::is_empty"
empty_path empty_map = codes "::std::collections::HashMap::is_empty"

abbrev pub skip_meta : Empty → Carried
skip_meta x = valued (codes "skip_serializing_if") (empty_path x)

abbrev pub helper_meta : List ℕ → Carried
helper_meta h = valued (codes "deserialize_with") (codes "typify_present::" ++ h)

-- n is the place of the default
abbrev pub manner_metas : ℕ → Manner → List Carried
manner_metas n plain = []
manner_metas n whole = helper_meta (codes "whole") ∷ []
manner_metas n defaulted = valued (codes "default") (codes "typify_defaults::d" ++ place n) ∷ []
manner_metas n (skipped x) = flag (codes "default") ∷ skip_meta x ∷ []
manner_metas n held = flag (codes "default") ∷ helper_meta (codes "some") ∷ skip_meta empty_option ∷ []

abbrev pub manner_ty : Manner → TyD → TyD
manner_ty held t = option_ty t
manner_ty _ t = t

abbrev pub tag_metas : TagModel → List Carried
tag_metas external_tag = []
tag_metas (internal_tag t) = valued (codes "tag") t ∷ []
tag_metas (adjacent_tag t c) = valued (codes "tag") t ∷ valued (codes "content") c ∷ []
tag_metas untagged = flag (codes "untagged") ∷ []

-- ---- fields and variants

abbrev pub unnamed_field : TyD → FieldD
unnamed_field t = record { attrs = []; name = None; ty = t }

abbrev pub unnamed_fields_of : Tys → List FieldD
unnamed_fields_of end_tys = []
unnamed_fields_of (more_tys t ts) = unnamed_field t ∷ unnamed_fields_of ts

module _ (s : Setting) (owner : List ℕ) where
  abbrev pub used_tree : Entry → TyD
  used_tree e = entry_ty s.name (s.is_boxed owner) e

  abbrev pub field_metas : ℕ → FieldEntry → List Carried
  field_metas n f = rename_metas f.identifier f.name ++ manner_metas n (field_manner s owner f)

  abbrev pub field_tree : ℕ → FieldEntry → FieldD
  field_tree n f = record {
    attrs = serde (field_metas n f);
    name = Some (name_at f.identifier);
    ty = manner_ty (field_manner s owner f) (used_tree f.entry);
  }

  abbrev pub field_trees : ℕ → List FieldEntry → List FieldD
  field_trees n [] = []
  field_trees n (f ∷ fs) = field_tree n f ∷ field_trees (after_state f.state n) fs

  abbrev pub rest_trees : Rest → List FieldD
  rest_trees no_rest = []
  rest_trees (rest i e) = record { attrs = serde (flag (codes "flatten") ∷ []); name = Some (name_at i); ty = map_ty text_ty (entry_ty s.name unboxed e) } ∷ []

  abbrev pub struct_trees : ℕ → Fields → List FieldD
  struct_trees n fs = field_trees n (fields_of fs) ++ rest_trees (rest_of fs)

  abbrev pub contents_tree : ℕ → Contents → FieldsD
  contents_tree n unit_contents = unit_fields
  contents_tree n (newtype_contents e) = unnamed_fields (unnamed_field (used_tree e) ∷ [])
  contents_tree n (tuple_contents es) = unnamed_fields (unnamed_fields_of (entry_tys s.name (s.is_boxed owner) es))
  contents_tree n (struct_contents fs) = named_fields (struct_trees n fs)

  abbrev pub variant_tree : ℕ → VariantEntry → VariantD
  variant_tree n w = record { attrs = serde (rename_metas w.identifier w.name); name = name_at w.identifier; fields = contents_tree n w.contents }

  abbrev pub variant_trees : ℕ → List VariantEntry → List VariantD
  variant_trees n [] = []
  variant_trees n (w ∷ ws) = variant_tree n w ∷ variant_trees (after_contents w.contents n) ws

  abbrev pub shape_tree : ℕ → Shape → BodyD
  shape_tree n (struct_shape closed fs) = struct_body (named_fields (struct_trees n fs)) site
  shape_tree n (enum_shape closed tag ws) = enum_body (variant_trees n (variants_of ws)) site
  shape_tree n (newtype_shape e rule) = struct_body (unnamed_fields (unnamed_field (used_tree e) ∷ [])) site

  abbrev pub shape_tag : Shape → List Carried
  shape_tag (enum_shape closed tag ws) = tag_metas tag
  shape_tag _ = []

  abbrev pub try_from_metas : Shape → List Carried
  try_from_metas (newtype_shape e (Some r)) = valued (codes "try_from") (text_of (print_ty (used_tree e))) ∷ []
  try_from_metas _ = []

-- ---- items

abbrev pub item_metas : Setting → ItemEntry → List Carried
item_metas s i =
    shape_tag s i.name i.shape
    ++ when (is_transparent s i.name i.shape) (flag (codes "transparent"))
    ++ try_from_metas s i.name i.shape
    ++ when (is_closed i.shape) (flag (codes "deny_unknown_fields"))

abbrev pub item_tree : Setting → ℕ → ItemEntry → ItemD
item_tree s n i = record { attrs = serde (item_metas s i); name = name_at i.name; params = []; predicates = []; body = shape_tree s i.name n i.shape }

abbrev pub item_trees : Setting → ℕ → List ItemEntry → List ItemD
item_trees s n [] = []
item_trees s n (i ∷ is) = item_tree s n i ∷ item_trees s (n + length (shape_defaults i.shape)) is
