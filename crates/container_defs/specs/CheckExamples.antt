-- Worked examples of the ten checks: each met, and broken in each way.
use Rattle.std.specs.Prelude.{◌≡◌, ℕ, ◌++◌, List, [], ◌∷◌, map, Bool, true, false, codes}
use Prim.Native.String.{String}
use Rattle.token_trees.specs.Token.{Tok}
use Rattle.syntax_trees.specs.Item.{FieldD, named_fields, unnamed_fields, unit_fields, VariantD, param_ty, ItemD}
use Rattle.attr_parts.specs.declared.derive.Derive.{Derive}
use Rattle.attr_parts.specs.declared.derive.Derive.TheVariants.{Serialize, Deserialize}
use Rattle.attr_parts.specs.Diagnostics.{DiagnosticD, default_order, remote_generic, getter_enum, getter_remote, flatten_tuple, flatten_newtype, other_identifier, other_untagged, other_last, other_unit, newtype_last, field_id_unit, variant_id_unit, skip_ser, skip_ser_field, skip_if_field, skip_de, skip_de_field, tag_conflict, same_tags, transparent_from, transparent_try_from, transparent_into, transparent_enum, transparent_unit, transparent_many, transparent_none_ser, transparent_none_de, from_conflict}
use Rattle.attr_parts.specs.Places.{place_of, ty_spans}
use Rattle.container_defs.specs.Container.{ReadField}
use Rattle.container_defs.specs.Told.{told, told_to, ◌!◌, item_place, variant_place, field_place, read_by, fields_in}
use Rattle.container_defs.specs.Written.{at, w, eq, str, comma, says, flag, plain, ty, field, nameless, variant, item, names, places, nothing, variants}

-- ---- 1

abbrev pub tuple_of : List FieldD → ItemD
tuple_of fs = item (places fs) []

abbrev pub with_default : FieldD
with_default = nameless (flag "default")

abbrev pub without : FieldD
without = nameless []

abbrev pub never_read : FieldD
never_read = nameless (flag "skip_deserializing")

abbrev order_told : ℕ → DiagnosticD
order_told n = default_order n ! place_of (ty_spans (ty "u8"))

pub record DefaultsInTuples : Type 0 where
  pub behind : told (tuple_of (with_default ∷ without ∷ [])) ≡ order_told 0 ∷ []
  pub before : told (tuple_of (without ∷ with_default ∷ [])) ≡ []
  pub all_behind : told (tuple_of (without ∷ with_default ∷ without ∷ with_default ∷ without ∷ [])) ≡ order_told 1 ∷ order_told 1 ∷ []
  pub passed_over : told (tuple_of (never_read ∷ without ∷ [])) ≡ []
  pub not_asked : told (tuple_of (with_default ∷ never_read ∷ [])) ≡ []
  pub of_the_container : told (item (places (with_default ∷ without ∷ [])) (flag "default")) ≡ []
  pub with_names : told (item (names (field "a" (flag "default") ∷ field "b" [] ∷ [])) []) ≡ []
  pub in_a_variant : told (item (variants (variant "A" (unnamed_fields (with_default ∷ without ∷ [])) [] ∷ [])) []) ≡ []

-- ---- 2

abbrev with_param : ItemD → ItemD
with_param i = record i { params = param_ty (plain "A" 94) [] ∷ [] }

abbrev remote_of : List FieldD → ItemD
remote_of fs = item (names fs) (says "remote" "R<>")

pub record RemoteArguments : Type 0 where
  pub both : told (with_param (remote_of [])) ≡ (remote_generic ! at 3) ∷ []
  pub no_parameter : told (remote_of []) ≡ []
  pub no_argument : told (with_param (item (names []) (says "remote" "R"))) ≡ []
  pub one_argument : told (with_param (item (names []) (says "remote" "a::R<A>"))) ≡ (remote_generic ! at 3) ∷ []
  pub inside : told (with_param (item (names []) (says "remote" "R<A>::B"))) ≡ []

-- ---- 3

abbrev got : FieldD
got = field "a" (says "getter" "g")

abbrev enum_with_getter : ItemD
enum_with_getter = item (variants (variant "A" (named_fields (got ∷ [])) [] ∷ [])) []

pub record Getters : Type 0 where
  pub in_an_enum : told enum_with_getter ≡ (getter_enum ! item_place enum_with_getter) ∷ []
  pub alone : told (item (names (got ∷ [])) []) ≡ (getter_remote ! item_place (item (names (got ∷ [])) [])) ∷ []
  pub for_a_remote : told (item (names (got ∷ [])) (says "remote" "R")) ≡ []
  pub none : told (item (names (field "a" [] ∷ [])) []) ≡ []

-- ---- 4

abbrev flat : FieldD
flat = nameless (flag "flatten")

pub record Flattened : Type 0 where
  pub in_a_tuple : told (tuple_of (without ∷ flat ∷ flat ∷ [])) ≡ (flatten_tuple ! field_place flat) ∷ (flatten_tuple ! field_place flat) ∷ []
  pub in_a_newtype : told (tuple_of (flat ∷ [])) ≡ (flatten_newtype ! field_place flat) ∷ []
  pub with_a_name : told (item (names (field "a" (flag "flatten") ∷ [])) []) ≡ []
  pub in_variants :
      told (item (variants (variant "A" (named_fields (field "a" (flag "flatten") ∷ [])) [] ∷ variant "B" (unnamed_fields (flat ∷ [])) [] ∷ [])) [])
      ≡ (flatten_newtype ! field_place flat) ∷ []

-- ---- 5

abbrev unit : List VariantD
unit = variant "U" unit_fields [] ∷ []

abbrev other_unit_variant : VariantD
other_unit_variant = variant "O" unit_fields (flag "other")

abbrev other_newtype : VariantD
other_newtype = variant "O" (unnamed_fields (without ∷ [])) (flag "other")

abbrev newtype : VariantD
newtype = variant "N" (unnamed_fields (without ∷ [])) []

abbrev pair : VariantD
pair = variant "P" (unnamed_fields (without ∷ without ∷ [])) []

abbrev struct : VariantD
struct = variant "S" (named_fields (field "a" [] ∷ [])) []

pub record Others : Type 0 where
  pub of_a_variant_identifier : told (item (variants (unit ++ other_unit_variant ∷ [])) (flag "variant_identifier")) ≡ (other_identifier ! variant_place other_unit_variant) ∷ []
  pub of_an_untagged : told (item (variants (unit ++ other_unit_variant ∷ [])) (flag "untagged")) ≡ (other_untagged ! variant_place other_unit_variant) ∷ []
  pub last : told (item (variants (unit ++ other_unit_variant ∷ [])) []) ≡ []
  pub not_last : told (item (variants (other_unit_variant ∷ unit)) []) ≡ (other_last ! variant_place other_unit_variant) ∷ []
  pub no_unit : told (item (variants (other_newtype ∷ [])) []) ≡ (other_unit ! variant_place other_newtype) ∷ []
  pub of_a_field_identifier : told (item (variants (other_unit_variant ∷ unit)) (flag "field_identifier")) ≡ (other_last ! variant_place other_unit_variant) ∷ []
  pub no_unit_of_a_field_identifier : told (item (variants (other_newtype ∷ [])) (flag "field_identifier")) ≡ (other_unit ! variant_place other_newtype) ∷ []
  pub untagged_identifier : told (item (variants (other_unit_variant ∷ [])) (w "untagged" 1 ∷ comma 2 ∷ w "field_identifier" 3 ∷ [])) ≡ []

pub record Identifiers : Type 0 where
  pub no_identifier : told (item (variants (newtype ∷ pair ∷ struct ∷ unit)) []) ≡ []
  pub units : told (item (variants (unit ++ unit)) (flag "field_identifier")) ≡ []
  pub units_of_variants : told (item (variants (unit ++ unit)) (flag "variant_identifier")) ≡ []
  pub newtype_at_last : told (item (variants (unit ++ newtype ∷ [])) (flag "field_identifier")) ≡ []
  pub newtype_before : told (item (variants (newtype ∷ unit)) (flag "field_identifier")) ≡ (newtype_last (codes "N") ! variant_place newtype) ∷ []
  pub others_of_fields : told (item (variants (pair ∷ struct ∷ [])) (flag "field_identifier")) ≡ (field_id_unit ! variant_place pair) ∷ (field_id_unit ! variant_place struct) ∷ []
  pub others_of_variants : told (item (variants (newtype ∷ struct ∷ [])) (flag "variant_identifier")) ≡ (variant_id_unit ! variant_place newtype) ∷ (variant_id_unit ! variant_place struct) ∷ []

-- ---- 6

abbrev and_flag : List Tok → String → List Tok
and_flag ts x = ts ++ comma 7 ∷ w x 8 ∷ []

abbrev written_whole : VariantD
written_whole = variant "V" unit_fields (and_flag (says "serialize_with" "f") "skip_serializing")

abbrev read_whole : VariantD
read_whole = variant "V" unit_fields (and_flag (says "deserialize_with" "f") "skip_deserializing")

abbrev written_by : List FieldD → VariantD
written_by fs = variant "V" (named_fields fs) (says "serialize_with" "f")

abbrev read_with : List FieldD → VariantD
read_with fs = variant "V" (named_fields fs) (says "deserialize_with" "f")

abbrev both_ways : List FieldD → VariantD
both_ways fs = variant "V" (unnamed_fields fs) (says "with" "m")

abbrev enum_of : VariantD → ItemD
enum_of v = item (variants (v ∷ [])) []

abbrev skipped_both : List FieldD
skipped_both = nameless [] ∷ nameless (flag "skip") ∷ []

abbrev skipped_name : FieldD
skipped_name = field "a" (flag "skip_serializing")

abbrev if_name : FieldD
if_name = field "a" (says "skip_serializing_if" "f")

pub record SkippedVariants : Type 0 where
  pub written : told (enum_of written_whole) ≡ (skip_ser (codes "V") ! variant_place written_whole) ∷ []
  pub read : told (enum_of read_whole) ≡ (skip_de (codes "V") ! variant_place read_whole) ∷ []
  pub field_written : told (enum_of (written_by (skipped_name ∷ []))) ≡ (skip_ser_field (codes "V") (codes "`a`") ! variant_place (written_by (skipped_name ∷ []))) ∷ []
  pub field_written_if : told (enum_of (written_by (if_name ∷ []))) ≡ (skip_if_field (codes "V") (codes "`a`") ! variant_place (written_by (if_name ∷ []))) ∷ []
  pub field_read : told (enum_of (read_with (field "a" (flag "skip_deserializing") ∷ []))) ≡ (skip_de_field (codes "V") (codes "`a`") ! variant_place (read_with (field "a" (flag "skip_deserializing") ∷ []))) ∷ []
  pub by_number :
      told (enum_of (both_ways skipped_both))
      ≡ (skip_ser_field (codes "V") (codes "#1") ! variant_place (both_ways skipped_both)) ∷ (skip_de_field (codes "V") (codes "#1") ! variant_place (both_ways skipped_both)) ∷ []
  pub other_way : told (enum_of (read_with (skipped_name ∷ if_name ∷ []))) ≡ []
  pub no_function : told (enum_of (variant "V" (unnamed_fields skipped_both) (flag "skip"))) ≡ []

-- ---- 7

abbrev tagged : List VariantD → ItemD
tagged vs = item (variants vs) (says "tag" "t")

abbrev with_field : FieldD → VariantD
with_field f = variant "A" (named_fields (f ∷ [])) []

abbrev conflict : List VariantD → List DiagnosticD
conflict vs = (tag_conflict (codes "t") ! item_place (tagged vs)) ∷ []

pub record TagConflicts : Type 0 where
  pub same : told (tagged (with_field (field "t" []) ∷ [])) ≡ conflict (with_field (field "t" []) ∷ [])
  pub once : told (tagged (with_field (field "t" []) ∷ with_field (field "t" []) ∷ [])) ≡ conflict (with_field (field "t" []) ∷ with_field (field "t" []) ∷ [])
  pub renamed : told (tagged (with_field (field "a" (says "rename" "t")) ∷ [])) ≡ conflict (with_field (field "a" (says "rename" "t")) ∷ [])
  pub by_alias : told (tagged (with_field (field "a" (says "alias" "t")) ∷ [])) ≡ conflict (with_field (field "a" (says "alias" "t")) ∷ [])
  pub renamed_away : told (tagged (with_field (field "t" (says "rename" "a")) ∷ [])) ≡ []
  pub never_written : told (tagged (with_field (field "t" (flag "skip_serializing")) ∷ [])) ≡ conflict (with_field (field "t" (flag "skip_serializing")) ∷ [])
  pub skipped : told (tagged (with_field (field "t" (flag "skip")) ∷ [])) ≡ []
  pub skipped_variant : told (tagged (variant "A" (named_fields (field "t" [] ∷ [])) (flag "skip") ∷ [])) ≡ []
  pub untagged_variant : told (tagged (variant "A" (named_fields (field "t" [] ∷ [])) (flag "untagged") ∷ [])) ≡ []
  pub no_names : told (tagged (newtype ∷ unit)) ≡ []
  pub other_tag : told (item (variants (with_field (field "t" []) ∷ [])) []) ≡ []

-- ---- 8

abbrev tag_and_content : String → String → ItemD
tag_and_content x y = item (variants []) (w "tag" 1 ∷ eq 2 ∷ str x 3 ∷ comma 4 ∷ w "content" 5 ∷ eq 6 ∷ str y 7 ∷ [])

pub record SameTags : Type 0 where
  pub same : told (tag_and_content "t" "t") ≡ (same_tags (codes "t") ! item_place (tag_and_content "t" "t")) ∷ []
  pub apart : told (tag_and_content "t" "c") ≡ []

-- ---- 9

abbrev clear : List FieldD → ItemD
clear fs = item (places fs) (flag "transparent")

abbrev phantom : FieldD
phantom = record (nameless []) { ty = ty "PhantomData" }

abbrev unwritten : FieldD
unwritten = nameless (flag "skip_serializing")

abbrev beside : String → ItemD
beside x = item (places (without ∷ [])) (w "transparent" 1 ∷ comma 2 ∷ w x 3 ∷ eq 4 ∷ str "A" 5 ∷ [])

abbrev marks : Derive → ItemD → List Bool
marks derive i = map (λ (f : ReadField). f.attrs.transparent) (fields_in (read_by derive i))

pub record Transparent : Type 0 where
  pub one : told (clear (without ∷ [])) ≡ []
  pub is_marked : marks Deserialize (clear (without ∷ [])) ≡ true ∷ []
  pub with_from : told (beside "from") ≡ (transparent_from ! item_place (beside "from")) ∷ []
  pub with_try_from : told (beside "try_from") ≡ (transparent_try_from ! item_place (beside "try_from")) ∷ []
  pub with_into : told (beside "into") ≡ (transparent_into ! item_place (beside "into")) ∷ []
  pub is_marked_yet : marks Deserialize (beside "from") ≡ true ∷ []
  pub on_an_enum : told (item (variants []) (flag "transparent")) ≡ (transparent_enum ! item_place (item (variants []) (flag "transparent"))) ∷ []
  pub on_a_unit : told (item nothing (flag "transparent")) ≡ (transparent_unit ! item_place (item nothing (flag "transparent"))) ∷ []
  pub two : told (clear (without ∷ without ∷ [])) ≡ (transparent_many ! item_place (clear (without ∷ without ∷ []))) ∷ []
  pub two_marks : marks Deserialize (clear (without ∷ without ∷ [])) ≡ false ∷ false ∷ []
  pub none_read : told (clear (never_read ∷ [])) ≡ (transparent_none_de ! item_place (clear (never_read ∷ []))) ∷ []
  pub none_written : told_to Serialize (clear (unwritten ∷ [])) ≡ (transparent_none_ser ! item_place (clear (unwritten ∷ []))) ∷ []
  pub never_written : told (clear (unwritten ∷ [])) ≡ []
  pub default_read : told (clear (without ∷ with_default ∷ [])) ≡ []
  pub default_written : told_to Serialize (clear (without ∷ with_default ∷ [])) ≡ (transparent_many ! item_place (clear (without ∷ with_default ∷ []))) ∷ []
  pub phantoms : told (clear (phantom ∷ without ∷ phantom ∷ [])) ≡ []
  pub phantom_marks : marks Deserialize (clear (phantom ∷ without ∷ phantom ∷ [])) ≡ false ∷ true ∷ false ∷ []
  pub phantom_alone : told (clear (phantom ∷ [])) ≡ (transparent_none_de ! item_place (clear (phantom ∷ []))) ∷ []
  pub no_fields : told (item (names []) (flag "transparent")) ≡ (transparent_none_de ! item_place (item (names []) (flag "transparent"))) ∷ []
  pub not_asked : marks Deserialize (tuple_of (without ∷ [])) ≡ false ∷ []

-- ---- 10

abbrev from_both : ItemD
from_both = item (names []) (w "from" 1 ∷ eq 2 ∷ str "A" 3 ∷ comma 4 ∷ w "try_from" 5 ∷ eq 6 ∷ str "B" 7 ∷ [])

pub record FromConflicts : Type 0 where
  pub both : told from_both ≡ (from_conflict ! item_place from_both) ∷ []
  pub from_alone : told (item (names []) (says "from" "A")) ≡ []
  pub try_from_alone : told (item (names []) (says "try_from" "A")) ≡ []
