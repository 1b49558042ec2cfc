-- One value against one type, where it is known what each part of the value and each item says of it (serde.rs/field-attrs, serde.rs/enum-representations).
use Rattle.std.specs.Prelude.{ℕ, ◌&&◌, ◌||◌, not, ◌==◌, List, [], ◌∷◌, length, filter, map, Bool, true, false, Option, Some, None, bytes_eq, chars, if◌then◌else◌}
use Rattle.std.specs.List.{list_any, list_all}
use Rattle.json_value.specs.Value as value
use Rattle.json_value.specs.Value.{Value, Members, null, number, text, list, object, member_at}
use Rattle.schema_defs.specs.declared.Format.{Format}
use Rattle.schema_defs.specs.Texts.{Relations}
use Rattle.schema_defs.specs.Integers.{Range, in_range}
use Rattle.schema_defs.specs.Layer.{within, is_listed}
use Rattle.model_defs.specs.Types.{TypeModel, boolean_type, integer_type, text_type, native_type, any_type, unit_type, option_type, boxed_type, vec_type, set_type, map_type, tuple_type, array_type, item_type, outside_type, types_of}
use Rattle.model_defs.specs.Model.{Style, struct_style, tuple_style, newtype_style, unit_style, DefaultModel, no_default, own_default, stated_default, HelperModel, no_helper, some_helper, whole_helper, FieldModel, VariantModel, TagModel, external_tag, internal_tag, adjacent_tag, untagged, BodyModel, struct_model, enum_model, ContainerModel, TextRule, RuleD, text_rule, allow_rule, deny_rule, ConversionsD, variant_named, rule_of}

-- what a value, or a part of it, is read as: one type, the places of a tuple, or named fields (closed or open)
pub data Content : Type 0 where
  one_type : TypeModel → Content
  places : List TypeModel → Content
  named_fields : Bool → List FieldModel → Content

abbrev pub Judge : Type 0
Judge = Content → Bool

-- a member: its name, what the name says as a text, and what the value says
pub record MemberPart (J : Type 0) : Type 0 where
  pub name : List ℕ
  pub key : J
  pub value : J

-- the parts of a value, each with what it says
pub data Parts (J : Type 0) : Type 0 where
  no_parts : Parts J
  list_parts : List J → Parts J
  object_parts : List (MemberPart J) → Parts J

-- ---- scalars

abbrev pub is_null : Value → Bool
is_null null = true
is_null _ = false

abbrev pub is_boolean : Value → Bool
is_boolean (value.boolean b) = true
is_boolean _ = false

abbrev pub is_text : Value → Bool
is_text (text s) = true
is_text _ = false

abbrev pub is_in_range : Range → Value → Bool
is_in_range g (number z) = in_range z g
is_in_range g _ = false

abbrev pub has_the_format : Relations → Format → Value → Bool
has_the_format r f (text s) = r.has_format f s
has_the_format r f _ = false

-- ---- items and members

abbrev pub each_item : Content → Parts Judge → Bool
each_item c (list_parts js) = list_all (λ j. j c) js
each_item c _ = false

abbrev pub each_member : TypeModel → TypeModel → List (MemberPart Judge) → Bool
each_member k t ms = list_all (λ m. m.key (one_type k) && m.value (one_type t)) ms

abbrev pub as_map : TypeModel → TypeModel → Parts Judge → Bool
as_map k t (object_parts ms) = each_member k t ms
as_map k t _ = false

-- as many items as types, each of its type
abbrev pub in_places : List TypeModel → List Judge → Bool
in_places [] [] = true
in_places (t ∷ ts) (j ∷ js) = j (one_type t) && in_places ts js
in_places _ _ = false

abbrev pub by_places : List TypeModel → Parts Judge → Bool
by_places ts (list_parts js) = in_places ts js
by_places ts _ = false

abbrev pub of_length : ℕ → Parts Judge → Bool
of_length n (list_parts js) = length js == n
of_length n _ = false

-- ---- fields: a member belongs to the first field, the rest aside, that has its name

module _ {J : Type 0} where
  abbrev pub belongs : FieldModel → MemberPart J → Bool
  belongs f m = list_any (λ n. bytes_eq n m.name) f.deserialize_names

  -- of the members that no earlier field took, those of a field, and those that are left
  abbrev pub own_members : FieldModel → List (MemberPart J) → List (MemberPart J)
  own_members f ms = filter (belongs f) ms

  abbrev pub other_members : FieldModel → List (MemberPart J) → List (MemberPart J)
  other_members f ms = filter (λ m. not (belongs f m)) ms

  -- the members that no field names
  abbrev pub unnamed_members : List FieldModel → List (MemberPart J) → List (MemberPart J)
  unnamed_members [] ms = ms
  unnamed_members (f ∷ fs) ms = if f.is_rest then unnamed_members fs ms else unnamed_members fs (other_members f ms)

  abbrev pub is_none : List (MemberPart J) → Bool
  is_none [] = true
  is_none (m ∷ ms) = false

  abbrev pub without : List ℕ → List (MemberPart J) → List (MemberPart J)
  without n ms = filter (λ m. not (bytes_eq n m.name)) ms

-- `some` reads what the option holds
abbrev pub helped_type : HelperModel → TypeModel → TypeModel
helped_type some_helper (option_type t) = t
helped_type some_helper _ = outside_type
helped_type no_helper t = t
helped_type whole_helper t = t

abbrev pub present_type : FieldModel → TypeModel
present_type f = helped_type f.helper f.field_type

abbrev pub has_default : DefaultModel → Bool
has_default no_default = false
has_default own_default = true
has_default (stated_default n) = true

abbrev pub has_no_helper : HelperModel → Bool
has_no_helper no_helper = true
has_no_helper some_helper = false
has_no_helper whole_helper = false

-- a rest is a map
abbrev pub map_takes : TypeModel → List (MemberPart Judge) → Bool
map_takes (map_type k t) ms = each_member k t ms
map_takes _ ms = false

-- `leads` says whether a type leads to an option
module _ (leads : TypeModel → Bool) where
  abbrev pub may_be_missing : FieldModel → Bool
  may_be_missing f = has_default f.default || (has_no_helper f.helper && leads f.field_type)

  -- two members of one field are refused
  abbrev pub field_takes : FieldModel → List (MemberPart Judge) → Bool
  field_takes f [] = may_be_missing f
  field_takes f (m ∷ []) = m.value (one_type (present_type f))
  field_takes f (m ∷ n ∷ ms) = false

  abbrev pub fields_take : List FieldModel → List (MemberPart Judge) → Bool
  fields_take [] ms = true
  fields_take (f ∷ fs) ms = if f.is_rest then fields_take fs ms else field_takes f (own_members f ms) && fields_take fs (other_members f ms)

  -- what no field names
  abbrev pub rests_take : List FieldModel → List (MemberPart Judge) → Bool
  rests_take fs ms = list_all (λ f. not f.is_rest || map_takes f.field_type ms) fs

  abbrev pub members_take : Bool → List FieldModel → List (MemberPart Judge) → Bool
  members_take closed fs ms =
      (not closed || is_none (unnamed_members fs ms)) && fields_take fs ms && rests_take fs (unnamed_members fs ms)

  abbrev pub struct_takes : Bool → List FieldModel → Parts Judge → Bool
  struct_takes closed fs (object_parts ms) = members_take closed fs ms
  struct_takes closed fs _ = false

-- ---- types

module _ (r : Relations) (v : Value) (parts : Parts Judge) (item_takes : List ℕ → Bool) where
  abbrev pub type_takes : TypeModel → Bool
  type_takes boolean_type = is_boolean v
  type_takes (integer_type g) = is_in_range g v
  type_takes text_type = is_text v
  type_takes (native_type f) = has_the_format r f v
  type_takes any_type = true
  type_takes unit_type = is_null v
  type_takes (option_type t) = is_null v || type_takes t
  type_takes (boxed_type t) = type_takes t
  type_takes (vec_type t) = each_item (one_type t) parts
  type_takes (set_type t) = each_item (one_type t) parts
  type_takes (map_type k t) = as_map k t parts
  type_takes (tuple_type ts) = by_places (types_of ts) parts
  type_takes (array_type t n) = of_length n parts && each_item (one_type t) parts
  type_takes (item_type n) = item_takes n
  type_takes outside_type = false

-- ---- rules

-- one of the patterns, where there are any
abbrev pub has_one_of : (List ℕ → Bool) → List (List ℕ) → Bool
has_one_of has [] = true
has_one_of has (p ∷ ps) = list_any has (p ∷ ps)

-- lengths count characters
abbrev pub text_agrees : Relations → TextRule → List ℕ → Bool
text_agrees r t s =
    within t.least t.most (length (chars s)) && list_all (λ p. r.matches p s) t.all && has_one_of (λ p. r.matches p s) t.any

abbrev pub rule_agrees : Relations → Value → RuleD → Bool
rule_agrees r (text s) (text_rule t) = text_agrees r t s
rule_agrees r _ (text_rule t) = false
rule_agrees r v (allow_rule vs) = is_listed v vs
rule_agrees r v (deny_rule vs) = not (is_listed v vs)

abbrev pub given_rule_agrees : Relations → Value → Option RuleD → Bool
given_rule_agrees r v None = false
given_rule_agrees r v (Some rule) = rule_agrees r v rule

-- ---- containers

-- what the fields of an item or a variant are read as: one unnamed field is its type, and no field is null
abbrev pub fields_content : Bool → Style → List FieldModel → Content
fields_content closed struct_style fs = named_fields closed fs
fields_content closed tuple_style fs = places (map (λ f. f.field_type) fs)
fields_content closed newtype_style (f ∷ []) = one_type f.field_type
fields_content closed newtype_style _ = one_type outside_type
fields_content closed unit_style fs = one_type unit_type

abbrev pub variant_content : Bool → VariantModel → Content
variant_content closed w = fields_content closed w.style w.fields

abbrev pub is_unit : VariantModel → Bool
is_unit w = elim w.style [ unit_style ↦ true | struct_style ↦ false | tuple_style ↦ false | newtype_style ↦ false ]

-- the variant that a member with the name of the tag names
abbrev pub variant_of_text : List VariantModel → Option Value → Option VariantModel
variant_of_text ws (Some (text s)) = variant_named s ws
variant_of_text ws _ = None

abbrev pub tagged_variant : List ℕ → List VariantModel → Value → Option VariantModel
tagged_variant tag ws (object ms) = variant_of_text ws (member_at tag ms)
tagged_variant tag ws _ = None

-- the members of that name
abbrev pub named : {J : Type 0} → List ℕ → List (MemberPart J) → List (MemberPart J)
named n ms = filter (λ m. bytes_eq n m.name) ms

abbrev pub members_in : {J : Type 0} → Parts J → List (MemberPart J)
members_in (object_parts ms) = ms
members_in _ = []

-- the text of a unit variant
abbrev pub is_unit_named : Option VariantModel → Bool
is_unit_named None = false
is_unit_named (Some w) = is_unit w

-- the one member is named by a variant with fields, and has its contents
abbrev pub contents_take : Bool → Judge → Option VariantModel → Bool
contents_take closed j None = false
contents_take closed j (Some w) = not (is_unit w) && j (variant_content closed w)

abbrev pub external_takes : Bool → List VariantModel → Value → Parts Judge → Bool
external_takes closed ws (text s) ps = is_unit_named (variant_named s ws)
external_takes closed ws _ (object_parts (m ∷ [])) = contents_take closed m.value (variant_named m.name ws)
external_takes closed ws _ ps = false

-- beside the tag stand the fields; one unnamed field is outside
abbrev pub beside_tag : (TypeModel → Bool) → Bool → List (MemberPart Judge) → VariantModel → Bool
beside_tag leads closed ms w = elim w.style [
  | struct_style ↦ members_take leads closed w.fields ms
  | unit_style ↦ members_take leads closed [] ms
  | tuple_style ↦ false
  | newtype_style ↦ false
]

abbrev pub internal_takes : (TypeModel → Bool) → Bool → List ℕ → List (MemberPart Judge) → Option VariantModel → Bool
internal_takes leads closed tag ms None = false
internal_takes leads closed tag ms (Some w) = beside_tag leads closed (without tag ms) w

-- the member of the contents, which a unit variant refuses and another needs
abbrev pub beside_content : Bool → VariantModel → List (MemberPart Judge) → Bool
beside_content closed w [] = is_unit w
beside_content closed w (m ∷ ms) = not (is_unit w) && m.value (variant_content closed w)

abbrev pub adjacent_takes : Bool → List ℕ → List ℕ → List (MemberPart Judge) → Option VariantModel → Bool
adjacent_takes closed tag content ms None = false
adjacent_takes closed tag content ms (Some w) = (not closed || is_none (without content (without tag ms))) && beside_content closed w (named content ms)

module _ (leads : TypeModel → Bool) (parts : Parts Judge) (takes : TypeModel → Bool) where
  -- the same value, where `takes` says what it says of each type
  abbrev pub content_takes : Content → Bool
  content_takes (one_type t) = takes t
  content_takes (places ts) = by_places ts parts
  content_takes (named_fields closed fs) = struct_takes leads closed fs parts

  -- a struct of two or more unnamed fields, and one without fields, is read by nothing
  abbrev pub struct_item_takes : Bool → Style → List FieldModel → Bool
  struct_item_takes closed struct_style fs = content_takes (fields_content closed struct_style fs)
  struct_item_takes closed newtype_style fs = content_takes (fields_content closed newtype_style fs)
  struct_item_takes closed tuple_style fs = false
  struct_item_takes closed unit_style fs = false

  -- an untagged enum reads what some variant reads
  abbrev pub enum_takes : Bool → TagModel → List VariantModel → Value → Bool
  enum_takes closed external_tag ws v = external_takes closed ws v parts
  enum_takes closed (internal_tag tag) ws v = internal_takes leads closed tag (members_in parts) (tagged_variant tag ws v)
  enum_takes closed (adjacent_tag tag content) ws v = adjacent_takes closed tag content (members_in parts) (tagged_variant tag ws v)
  enum_takes closed untagged ws v = list_any (λ w. content_takes (variant_content closed w)) ws

  abbrev pub body_takes : Bool → BodyModel → Value → Bool
  body_takes closed (struct_model style fs) v = struct_item_takes closed style fs
  body_takes closed (enum_model tag ws) v = enum_takes closed tag ws v

  -- with `try_from` the inner type, and then the rule
  abbrev pub container_takes : Relations → ConversionsD → Value → Option ContainerModel → Bool
  container_takes r cs v None = false
  container_takes r cs v (Some m) = body_takes m.closed m.body v && (not m.try_from || given_rule_agrees r v (rule_of m.name cs.constraints))
