-- Small tables of items, and values that they read and refuse.
use Rattle.std.specs.Prelude.{◌≡◌, ℕ, pos, neg_ℤ, List, [], ◌∷◌, true, false, Some, None, codes, bytes_eq, nat_eq}
use Rattle.std.specs.List.{starts_with}
use Rattle.json_value.specs.Value as value
use Rattle.json_value.specs.Value.{Value, Members, null, number, fraction, text, list, object, items, members}
use Rattle.schema_defs.specs.declared.Format.TheVariants.{Uuid}
use Rattle.schema_defs.specs.Texts.{Relations}
use Rattle.model_defs.specs.Types.{TypeModel, boolean_type, text_type, native_type, any_type, unit_type, option_type, boxed_type, vec_type, set_type, map_type, tuple_type, array_type, item_type, outside_type, types, from_to, below_to}
use Rattle.model_defs.specs.Model.{Style, struct_style, tuple_style, newtype_style, unit_style, DefaultModel, no_default, own_default, stated_default, HelperModel, no_helper, some_helper, whole_helper, FieldModel, VariantModel, TagModel, external_tag, internal_tag, adjacent_tag, untagged, BodyModel, struct_model, enum_model, ContainerModel, RuleD, text_rule, allow_rule, deny_rule, ConversionsD}
use Rattle.model_defs.specs.Reads.{reads}

-- ---- how the examples are written

-- a pattern is had by the texts that begin with it, and the one text "good" has each format
abbrev pub texts : Relations
texts = record { is_pattern = λ p. true; matches = λ p s. starts_with nat_eq s p; has_format = λ f s. bytes_eq s (codes "good") }

abbrev pub whole : ℕ → Value
whole n = number (pos n)

abbrev pub one : List ℕ → Value → Value
one k v = object (members ((k, v) ∷ []))

abbrev pub two : List ℕ → Value → List ℕ → Value → Value
two k v l w = object (members ((k, v) ∷ (l, w) ∷ []))

abbrev pub three : List ℕ → Value → List ℕ → Value → List ℕ → Value → Value
three k v l w m x = object (members ((k, v) ∷ (l, w) ∷ (m, x) ∷ []))

abbrev pub a : List ℕ
a = codes "a"

abbrev pub b : List ℕ
b = codes "b"

abbrev pub c : List ℕ
c = codes "c"

abbrev pub byte : TypeModel
byte = from_to 0 255

-- a required field, and the same with attributes
abbrev pub field : List ℕ → TypeModel → FieldModel
field n t = record { has_name = true; serialize_name = n; deserialize_names = n ∷ []; field_type = t; default = no_default; helper = no_helper; skip = false; is_rest = false }

abbrev pub defaulted : DefaultModel → FieldModel → FieldModel
defaulted d f = record f { default = d }

abbrev pub skipped : FieldModel → FieldModel
skipped f = record f { default = own_default; skip = true }

abbrev pub helped : HelperModel → FieldModel → FieldModel
helped h f = record f { helper = h }

abbrev pub also_named : List ℕ → FieldModel → FieldModel
also_named n f = record f { deserialize_names = n ∷ f.deserialize_names }

abbrev pub rest : TypeModel → FieldModel
rest t = record (field (codes "rest") (map_type text_type t)) { is_rest = true }

abbrev pub unnamed : TypeModel → FieldModel
unnamed t = record (field (codes "0") t) { has_name = false }

abbrev pub item : BodyModel → ContainerModel
item body = record { name = codes "T"; transparent = false; try_from = false; closed = false; body = body }

abbrev pub closed : BodyModel → ContainerModel
closed body = record (item body) { closed = true }

abbrev pub ruled : TypeModel → ContainerModel
ruled t = record (item (struct_model newtype_style (unnamed t ∷ []))) { try_from = true }

abbrev pub alias : TypeModel → ContainerModel
alias t = record (item (struct_model newtype_style (unnamed t ∷ []))) { transparent = true }

abbrev pub called : List ℕ → ContainerModel → ContainerModel
called n m = record m { name = n }

abbrev pub struct : List FieldModel → BodyModel
struct fs = struct_model struct_style fs

abbrev pub variant : List ℕ → Style → List FieldModel → VariantModel
variant n style fs = record { serialize_name = n; deserialize_names = n ∷ []; style = style; fields = fs }

abbrev pub t : TypeModel
t = item_type (codes "T")

abbrev pub free : ConversionsD
free = record { constraints = []; defaults = [] }

abbrev pub enum : TagModel → List VariantModel → BodyModel
enum tag ws = enum_model tag ws

abbrev pub no_items : Value
no_items = list (items [])

abbrev pub no_members : Value
no_members = object (members [])

abbrev pub list_of : List Value → Value
list_of vs = list (items vs)

-- ---- what an example says

abbrev pub Takes : TypeModel → Value → Type 0
Takes s v = reads [] free texts s v ≡ true

abbrev pub Refuses : TypeModel → Value → Type 0
Refuses s v = reads [] free texts s v ≡ false

-- of the item T
abbrev pub ItemTakes : ContainerModel → Value → Type 0
ItemTakes m v = reads (m ∷ []) free texts t v ≡ true

abbrev pub ItemRefuses : ContainerModel → Value → Type 0
ItemRefuses m v = reads (m ∷ []) free texts t v ≡ false

-- with the rule of the item T
abbrev pub under : RuleD → ConversionsD
under r = record { constraints = record { item = codes "T"; rule = r } ∷ []; defaults = [] }

abbrev pub RuleTakes : RuleD → TypeModel → Value → Type 0
RuleTakes r s v = reads (ruled s ∷ []) (under r) texts t v ≡ true

abbrev pub RuleRefuses : RuleD → TypeModel → Value → Type 0
RuleRefuses r s v = reads (ruled s ∷ []) (under r) texts t v ≡ false

-- of the item T beside the item U
abbrev pub BothTake : ContainerModel → ContainerModel → Value → Type 0
BothTake m n v = reads (m ∷ called (codes "U") n ∷ []) free texts t v ≡ true

abbrev pub BothRefuse : ContainerModel → ContainerModel → Value → Type 0
BothRefuse m n v = reads (m ∷ called (codes "U") n ∷ []) free texts t v ≡ false

abbrev pub u : TypeModel
u = item_type (codes "U")

-- ---- types

-- what built-in types take and refuse
pub record BuiltInTypes : Type 0 where
  pub a_boolean : Takes boolean_type (value.boolean true)
  pub no_boolean : Refuses boolean_type (whole 1)
  pub a_byte : Takes byte (whole 255)
  pub above_a_byte : Refuses byte (whole 256)
  pub below_a_byte : Refuses byte (number (neg_ℤ (pos 1)))
  pub a_signed_byte : Takes (below_to 128 127) (number (neg_ℤ (pos 128)))
  pub zero_at_nonzero : Refuses (from_to 1 255) (whole 0)
  pub a_fraction : Refuses byte fraction
  pub a_text : Takes text_type (text a)
  pub no_text : Refuses text_type null
  pub a_native : Takes (native_type Uuid) (text (codes "good"))
  pub no_native : Refuses (native_type Uuid) (text a)
  pub any_fraction : Takes any_type fraction
  pub unit_is_null : Takes unit_type null
  pub unit_is_no_list : Refuses unit_type no_items
  pub an_option_is_null : Takes (option_type byte) null
  pub an_option_is_its_type : Takes (option_type byte) (whole 7)
  pub an_option_is_nothing_else : Refuses (option_type byte) (text a)
  pub a_box : Takes (boxed_type byte) (whole 7)
  pub a_box_is_not_null : Refuses (boxed_type byte) null
  pub a_vec : Takes (vec_type byte) (list_of (whole 1 ∷ whole 1 ∷ []))
  pub a_vec_with_a_text : Refuses (vec_type byte) (list_of (whole 1 ∷ text a ∷ []))
  pub a_vec_is_no_object : Refuses (vec_type byte) no_members
  pub a_set_with_a_repeat : Takes (set_type byte) (list_of (whole 1 ∷ whole 1 ∷ []))
  pub a_map : Takes (map_type text_type byte) (two a (whole 1) b (whole 2))
  pub a_map_with_a_bad_value : Refuses (map_type text_type byte) (two a (whole 1) b null)
  pub a_map_with_a_bad_name : Refuses (map_type (native_type Uuid) byte) (one a (whole 1))
  pub a_map_with_good_names : Takes (map_type (native_type Uuid) byte) (one (codes "good") (whole 1))
  pub names_are_texts : Refuses (map_type byte byte) (one (codes "1") (whole 1))
  pub a_map_is_no_list : Refuses (map_type text_type byte) no_items
  pub a_tuple : Takes (tuple_type (types (byte ∷ text_type ∷ []))) (list_of (whole 1 ∷ text a ∷ []))
  pub a_tuple_out_of_order : Refuses (tuple_type (types (byte ∷ text_type ∷ []))) (list_of (text a ∷ whole 1 ∷ []))
  pub a_tuple_too_short : Refuses (tuple_type (types (byte ∷ text_type ∷ []))) (list_of (whole 1 ∷ []))
  pub a_tuple_too_long : Refuses (tuple_type (types (byte ∷ []))) (list_of (whole 1 ∷ whole 2 ∷ []))
  pub an_array : Takes (array_type byte 2) (list_of (whole 1 ∷ whole 2 ∷ []))
  pub an_array_too_long : Refuses (array_type byte 2) (list_of (whole 1 ∷ whole 2 ∷ whole 3 ∷ []))
  pub outside : Refuses outside_type null
  pub no_such_item : Refuses t null

-- ---- structs

-- named fields, closed and open
pub record Structs : Type 0 where
  pub in_order : ItemTakes (closed (struct (field a byte ∷ field b text_type ∷ []))) (two a (whole 1) b (text a))
  pub of_its_type : ItemRefuses (closed (struct (field a byte ∷ field b text_type ∷ []))) (two a (text a) b (text a))
  pub missing : ItemRefuses (closed (struct (field a byte ∷ field b text_type ∷ []))) (one a (whole 1))
  pub closed_to_others : ItemRefuses (closed (struct (field a byte ∷ field b text_type ∷ []))) (three a (whole 1) b (text a) c null)
  pub open_to_others : ItemTakes (item (struct (field a byte ∷ field b text_type ∷ []))) (three a (whole 1) b (text a) c null)
  pub no_list : ItemRefuses (item (struct (field a byte ∷ field b text_type ∷ []))) (list_of (whole 1 ∷ text a ∷ []))
  pub without_fields : ItemTakes (closed (struct [])) no_members
  pub second_name : ItemTakes (closed (struct (also_named b (field a byte) ∷ []))) (one b (whole 1))
  pub both_names : ItemRefuses (item (struct (also_named b (field a byte) ∷ []))) (two a (whole 1) b (whole 1))
  pub first_field_with_the_name : ItemTakes (closed (struct (also_named b (field a byte) ∷ defaulted own_default (field b text_type) ∷ []))) (one b (whole 1))
  pub not_the_second_field : ItemRefuses (closed (struct (also_named b (field a byte) ∷ defaulted own_default (field b text_type) ∷ []))) (one b (text a))
  pub a_rest : ItemTakes (item (struct (field a byte ∷ rest text_type ∷ []))) (three a (whole 1) b (text a) c (text a))
  pub a_rest_of_its_type : ItemRefuses (item (struct (field a byte ∷ rest text_type ∷ []))) (two a (whole 1) b (whole 1))
  pub a_rest_before_the_field : ItemTakes (item (struct (rest text_type ∷ field a byte ∷ []))) (two a (whole 1) b (text a))
  pub a_rest_has_no_name : ItemRefuses (item (struct (rest text_type ∷ []))) (one (codes "rest") no_members)
  pub a_rest_may_be_empty : ItemTakes (item (struct (rest text_type ∷ []))) no_members

-- a missing field and a null, under each attribute
pub record MissingFields : Type 0 where
  pub required : ItemRefuses (item (struct (field a byte ∷ []))) no_members
  pub an_option : ItemTakes (item (struct (field a (option_type byte) ∷ []))) no_members
  pub a_boxed_option : ItemTakes (item (struct (field a (boxed_type (option_type byte)) ∷ []))) no_members
  pub an_alias_of_an_option : BothTake (item (struct (field a u ∷ []))) (alias (option_type byte)) no_members
  pub a_newtype_of_an_option : BothRefuse (item (struct (field a u ∷ []))) (item (struct_model newtype_style (unnamed (option_type byte) ∷ []))) no_members
  pub a_unit_leads_to_none : ItemRefuses (item (struct (field a unit_type ∷ []))) no_members
  pub with_its_own_default : ItemTakes (item (struct (skipped (field a (vec_type byte)) ∷ []))) no_members
  pub with_a_stated_default : ItemTakes (item (struct (defaulted (stated_default 0) (field a byte) ∷ []))) no_members
  pub a_default_is_no_null : ItemRefuses (item (struct (defaulted (stated_default 0) (field a byte) ∷ []))) (one a null)
  pub an_option_may_be_null : ItemTakes (item (struct (skipped (field a (option_type byte)) ∷ []))) (one a null)
  pub whole_is_not_missing : ItemRefuses (item (struct (helped whole_helper (field a (option_type byte)) ∷ []))) no_members
  pub whole_may_be_null : ItemTakes (item (struct (helped whole_helper (field a (option_type byte)) ∷ []))) (one a null)
  pub some_may_be_missing : ItemTakes (item (struct (helped some_helper (skipped (field a (option_type byte))) ∷ []))) no_members
  pub some_is_not_null : ItemRefuses (item (struct (helped some_helper (skipped (field a (option_type byte))) ∷ []))) (one a null)
  pub some_is_what_it_holds : ItemTakes (item (struct (helped some_helper (skipped (field a (option_type byte))) ∷ []))) (one a (whole 1))

-- ---- enums

abbrev pub tag : List ℕ
tag = codes "tag"

abbrev pub content : List ℕ
content = codes "content"

abbrev pub external : BodyModel
external = enum external_tag (variant a unit_style [] ∷ variant b newtype_style (unnamed byte ∷ []) ∷ variant c struct_style (field a byte ∷ []) ∷ variant (codes "d") tuple_style (unnamed byte ∷ unnamed text_type ∷ []) ∷ [])

abbrev pub internal : BodyModel
internal = enum (internal_tag tag) (variant a unit_style [] ∷ variant b struct_style (field c byte ∷ []) ∷ variant c newtype_style (unnamed byte ∷ []) ∷ [])

abbrev pub adjacent : BodyModel
adjacent = enum (adjacent_tag tag content) (variant a unit_style [] ∷ variant b newtype_style (unnamed byte ∷ []) ∷ variant c struct_style (field c byte ∷ []) ∷ [])

abbrev pub bare : BodyModel
bare = enum untagged (variant a newtype_style (unnamed byte ∷ []) ∷ variant b struct_style (field a byte ∷ []) ∷ variant c tuple_style (unnamed byte ∷ unnamed text_type ∷ []) ∷ [])

-- the four representations
pub record Enums : Type 0 where
  pub external_unit : ItemTakes (item external) (text a)
  pub external_unknown : ItemRefuses (item external) (text tag)
  pub external_unit_is_no_member : ItemRefuses (item external) (one a null)
  pub external_newtype : ItemTakes (item external) (one b (whole 1))
  pub external_newtype_is_no_text : ItemRefuses (item external) (text b)
  pub external_newtype_of_its_type : ItemRefuses (item external) (one b null)
  pub external_one_member_alone : ItemRefuses (item external) (two a null b (whole 1))
  pub external_struct : ItemTakes (item external) (one c (two a (whole 1) b null))
  pub external_struct_closed : ItemRefuses (closed external) (one c (two a (whole 1) b null))
  pub external_tuple : ItemTakes (item external) (one (codes "d") (list_of (whole 1 ∷ text a ∷ [])))
  pub external_tuple_too_short : ItemRefuses (item external) (one (codes "d") (list_of (whole 1 ∷ [])))
  pub internal_unit : ItemTakes (closed internal) (one tag (text a))
  pub internal_unit_closed : ItemRefuses (closed internal) (two c (whole 1) tag (text a))
  pub internal_unit_open : ItemTakes (item internal) (two c null tag (text a))
  pub internal_struct : ItemTakes (closed internal) (two c (whole 1) tag (text b))
  pub internal_struct_missing : ItemRefuses (closed internal) (one tag (text b))
  pub internal_struct_closed : ItemRefuses (closed internal) (three a null c (whole 1) tag (text b))
  pub internal_struct_open : ItemTakes (item internal) (three a null c (whole 1) tag (text b))
  pub internal_without_tag : ItemRefuses (item internal) (one c (whole 1))
  pub internal_unknown : ItemRefuses (item internal) (one tag (text tag))
  pub internal_tag_is_a_text : ItemRefuses (item internal) (one tag (whole 1))
  pub internal_newtype : ItemRefuses (item internal) (one tag (text c))
  pub internal_is_no_text : ItemRefuses (item internal) (text a)
  pub adjacent_unit : ItemTakes (closed adjacent) (one tag (text a))
  pub adjacent_unit_with_content : ItemRefuses (item adjacent) (two content null tag (text a))
  pub adjacent_newtype : ItemTakes (closed adjacent) (two content (whole 1) tag (text b))
  pub adjacent_newtype_without_content : ItemRefuses (closed adjacent) (one tag (text b))
  pub adjacent_struct : ItemTakes (closed adjacent) (two content (one c (whole 1)) tag (text c))
  pub adjacent_struct_closed : ItemRefuses (closed adjacent) (two content (two a null c (whole 1)) tag (text c))
  pub adjacent_closed : ItemRefuses (closed adjacent) (two a null tag (text a))
  pub adjacent_open : ItemTakes (item adjacent) (two a null tag (text a))
  pub adjacent_without_tag : ItemRefuses (item adjacent) (one content (whole 1))
  pub untagged_first : ItemTakes (item bare) (whole 1)
  pub untagged_second : ItemTakes (item bare) (two a (whole 1) b null)
  pub untagged_second_closed : ItemRefuses (closed bare) (two a (whole 1) b null)
  pub untagged_third : ItemTakes (item bare) (list_of (whole 1 ∷ text a ∷ []))
  pub untagged_none : ItemRefuses (item bare) null
  pub untagged_unit : ItemTakes (item (enum untagged (variant a unit_style [] ∷ []))) null

-- ---- rules and items

-- the rule of a newtype
pub record Rules : Type 0 where
  pub of_one_character : RuleTakes (text_rule (record { least = Some 1; most = Some 1; all = []; any = [] })) text_type (text (195 ∷ 169 ∷ []))
  pub too_short : RuleRefuses (text_rule (record { least = Some 1; most = None; all = []; any = [] })) text_type (text [])
  pub too_long : RuleRefuses (text_rule (record { least = None; most = Some 1; all = []; any = [] })) text_type (text (codes "ab"))
  pub all_patterns : RuleTakes (text_rule (record { least = None; most = None; all = a ∷ codes "ab" ∷ []; any = [] })) text_type (text (codes "abc"))
  pub not_all_patterns : RuleRefuses (text_rule (record { least = None; most = None; all = a ∷ b ∷ []; any = [] })) text_type (text (codes "abc"))
  pub one_pattern : RuleTakes (text_rule (record { least = None; most = None; all = []; any = b ∷ a ∷ [] })) text_type (text (codes "abc"))
  pub no_pattern : RuleRefuses (text_rule (record { least = None; most = None; all = []; any = b ∷ c ∷ [] })) text_type (text (codes "abc"))
  pub the_type_first : RuleRefuses (text_rule (record { least = None; most = None; all = []; any = [] })) text_type (whole 1)
  pub allowed : RuleTakes (allow_rule (whole 1 ∷ whole 2 ∷ [])) byte (whole 2)
  pub not_allowed : RuleRefuses (allow_rule (whole 1 ∷ whole 2 ∷ [])) byte (whole 3)
  pub allowed_of_another_type : RuleRefuses (allow_rule (text a ∷ [])) byte (text a)
  pub denied : RuleRefuses (deny_rule (whole 1 ∷ [])) byte (whole 1)
  pub not_denied : RuleTakes (deny_rule (whole 1 ∷ [])) byte (whole 2)
  pub without_its_rule : ItemRefuses (ruled byte) (whole 1)

-- items, alone and in one another
pub record Items : Type 0 where
  pub a_newtype : ItemTakes (item (struct_model newtype_style (unnamed byte ∷ []))) (whole 1)
  pub a_newtype_of_its_type : ItemRefuses (item (struct_model newtype_style (unnamed byte ∷ []))) (text a)
  pub two_unnamed_fields : ItemRefuses (item (struct_model tuple_style (unnamed byte ∷ unnamed byte ∷ []))) (list_of (whole 1 ∷ whole 1 ∷ []))
  pub a_unit_struct : ItemRefuses (item (struct_model unit_style [])) null
  pub a_chain : ItemTakes (closed (struct (skipped (field a (option_type (boxed_type t))) ∷ []))) (one a (one a null))
  pub a_broken_chain : ItemRefuses (closed (struct (skipped (field a (option_type (boxed_type t))) ∷ []))) (one a (one a (whole 1)))
  pub another_item : BothTake (item (struct (field a (vec_type u) ∷ []))) (alias byte) (one a (list_of (whole 1 ∷ [])))
  pub through_both_items : BothTake (alias (option_type u)) (alias byte) (whole 1)
  pub an_alias_of_itself : ItemRefuses (alias t) null
