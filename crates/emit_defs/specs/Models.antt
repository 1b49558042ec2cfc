-- The containers that emitted items are meant to be read as.
use Rattle.std.specs.Prelude.{ℕ, suc, ◌+◌, not, List, [], ◌∷◌, ◌++◌, length, map, Bool, true, false, Some, None, if◌then◌else◌}
use Rattle.std.specs.List.{flat_map}
use Rattle.std.specs.Fmt.{decimal}
use Rattle.json_value.specs.Value.{Value}
use Rattle.model_defs.specs.Types.{TypeModel, TypeModels, boolean_type, integer_type, text_type, native_type, any_type, unit_type, option_type, boxed_type, vec_type, set_type, map_type, tuple_type, array_type, item_type, no_types, type_then, types_of}
use Rattle.model_defs.specs.Model.{Style, struct_style, tuple_style, newtype_style, unit_style, DefaultModel, no_default, own_default, stated_default, HelperModel, no_helper, some_helper, whole_helper, FieldModel, VariantModel, BodyModel, struct_model, enum_model, ContainerModel, RuleD, ConstraintD, ConversionsD}
use Rattle.entry_defs.specs.Entry.{Target, State, required, optional, stated, Entry, boolean_entry, integer_entry, text_entry, native_entry, any_entry, unit_entry, option_entry, vec_entry, set_entry, map_entry, tuple_entry, array_entry, reference, item, Entries, no_entries, entry_then, entry_again, Shape, struct_shape, enum_shape, newtype_shape, Fields, Rest, no_rest, rest, Contents, unit_contents, newtype_contents, tuple_contents, struct_contents, FieldEntry, VariantEntry, fields_of, rest_of, variants_of}
use Rattle.entry_defs.specs.Layer.{integer_range}
use Rattle.entry_defs.specs.Table.{ItemEntry}
use Rattle.emit_defs.specs.Setting.{Setting, ends_in_phantom}

-- ---- types: what stands in a Vec, a set or a map isn't used by value

abbrev pub unboxed : List ℕ → Bool
unboxed n = false

abbrev pub used : (List ℕ → Bool) → List ℕ → TypeModel
used is_boxed n = if is_boxed n then boxed_type (item_type n) else item_type n

-- the type of the next place stands for one more place
abbrev pub type_again : TypeModels → TypeModels
type_again no_types = type_then any_type no_types
type_again (type_then t ts) = type_then t (type_then t ts)

module _ (name : Target → List ℕ) where
  abbrev mutual
    pub type_model : (List ℕ → Bool) → Entry → TypeModel
    type_model b boolean_entry = boolean_type
    type_model b (integer_entry i) = integer_type (integer_range i)
    type_model b text_entry = text_type
    type_model b (native_entry f) = native_type f
    type_model b any_entry = any_type
    type_model b unit_entry = unit_type
    type_model b (option_entry e) = option_type (type_model b e)
    type_model b (vec_entry e) = vec_type (type_model unboxed e)
    type_model b (set_entry e) = set_type (type_model unboxed e)
    type_model b (map_entry k e) = map_type (type_model unboxed k) (type_model unboxed e)
    type_model b (tuple_entry es) = tuple_type (type_models b es)
    type_model b (array_entry e n) = array_type (type_model b e) n
    type_model b (reference q) = used b (name q)
    type_model b (item n s) = used b n

    pub type_models : (List ℕ → Bool) → Entries → TypeModels
    type_models b no_entries = no_types
    type_models b (entry_then e es) = type_then (type_model b e) (type_models b es)
    type_models b (entry_again es) = type_again (type_models b es)

-- ---- how a field is written: as it is; present though it leads to an option; with a stated default; left out where empty; as what an option holds

pub data Empty : Type 0 where
  empty_option empty_vec empty_set empty_map : Empty

pub data Manner : Type 0 where
  plain : Manner
  whole : Manner
  defaulted : Manner
  skipped : Empty → Manner
  held : Manner

abbrev pub optional_manner : Entry → Manner
optional_manner (option_entry e) = skipped empty_option
optional_manner (vec_entry e) = skipped empty_vec
optional_manner (set_entry e) = skipped empty_set
optional_manner (map_entry k e) = skipped empty_map
optional_manner _ = held

-- where it is known whether the entry leads to an option
abbrev pub manner : Bool → State → Entry → Manner
manner true required e = whole
manner false required e = plain
manner leads optional e = optional_manner e
manner leads (stated v) e = defaulted

abbrev pub manner_type : Manner → TypeModel → TypeModel
manner_type held t = option_type t
manner_type _ t = t

abbrev pub manner_default : Manner → ℕ → DefaultModel
manner_default plain n = no_default
manner_default whole n = no_default
manner_default defaulted n = stated_default n
manner_default (skipped x) n = own_default
manner_default held n = own_default

abbrev pub manner_helper : Manner → HelperModel
manner_helper plain = no_helper
manner_helper whole = whole_helper
manner_helper defaulted = no_helper
manner_helper (skipped x) = no_helper
manner_helper held = some_helper

abbrev pub manner_skip : Manner → Bool
manner_skip plain = false
manner_skip whole = false
manner_skip defaulted = false
manner_skip (skipped x) = true
manner_skip held = true

-- ---- the stated defaults of an item in order

abbrev pub state_defaults : State → List Value
state_defaults required = []
state_defaults optional = []
state_defaults (stated v) = v ∷ []

abbrev pub field_defaults : List FieldEntry → List Value
field_defaults fs = flat_map (λ f. state_defaults f.state) fs

abbrev pub contents_defaults : Contents → List Value
contents_defaults unit_contents = []
contents_defaults (newtype_contents e) = []
contents_defaults (tuple_contents es) = []
contents_defaults (struct_contents fs) = field_defaults (fields_of fs)

abbrev pub shape_defaults : Shape → List Value
shape_defaults (struct_shape closed fs) = field_defaults (fields_of fs)
shape_defaults (enum_shape closed tag ws) = flat_map (λ w. contents_defaults w.contents) (variants_of ws)
shape_defaults (newtype_shape e rule) = []

-- the place after those of a state
abbrev pub after_state : State → ℕ → ℕ
after_state s n = n + length (state_defaults s)

abbrev pub after_contents : Contents → ℕ → ℕ
after_contents c n = n + length (contents_defaults c)

-- ---- fields

abbrev pub unnamed_model : ℕ → TypeModel → FieldModel
unnamed_model i t = record { has_name = false; serialize_name = decimal i; deserialize_names = decimal i ∷ []; field_type = t; default = no_default; helper = no_helper; skip = false; is_rest = false }

abbrev pub unnamed_models : ℕ → List TypeModel → List FieldModel
unnamed_models i [] = []
unnamed_models i (t ∷ ts) = unnamed_model i t ∷ unnamed_models (suc i) ts

-- A field of the item `owner`; n is the place of the next stated default.
module _ (s : Setting) (owner : List ℕ) where
  abbrev pub used_type : Entry → TypeModel
  used_type e = type_model s.name (s.is_boxed owner) e

  abbrev pub field_manner : FieldEntry → Manner
  field_manner f = manner (s.leads f.entry) f.state f.entry

  abbrev pub field_model : ℕ → FieldEntry → FieldModel
  field_model n f = record {
    has_name = true;
    serialize_name = f.name;
    deserialize_names = f.name ∷ [];
    field_type = manner_type (field_manner f) (used_type f.entry);
    default = manner_default (field_manner f) n;
    helper = manner_helper (field_manner f);
    skip = manner_skip (field_manner f);
    is_rest = false;
  }

  abbrev pub field_models : ℕ → List FieldEntry → List FieldModel
  field_models n [] = []
  field_models n (f ∷ fs) = field_model n f ∷ field_models (after_state f.state n) fs

  -- a rest's identifier is its name
  abbrev pub rest_models : Rest → List FieldModel
  rest_models no_rest = []
  rest_models (rest i e) = record { has_name = true; serialize_name = i; deserialize_names = i ∷ []; field_type = map_type text_type (type_model s.name (unboxed) e); default = no_default; helper = no_helper; skip = false; is_rest = true } ∷ []

  abbrev pub struct_models : ℕ → Fields → List FieldModel
  struct_models n fs = field_models n (fields_of fs) ++ rest_models (rest_of fs)

  abbrev pub contents_style : Contents → Style
  contents_style unit_contents = unit_style
  contents_style (newtype_contents e) = newtype_style
  contents_style (tuple_contents es) = tuple_style
  contents_style (struct_contents fs) = struct_style

  abbrev pub contents_models : ℕ → Contents → List FieldModel
  contents_models n unit_contents = []
  contents_models n (newtype_contents e) = unnamed_model 0 (used_type e) ∷ []
  contents_models n (tuple_contents es) = unnamed_models 0 (types_of (type_models s.name (s.is_boxed owner) es))
  contents_models n (struct_contents fs) = struct_models n fs

  abbrev pub variant_model : ℕ → VariantEntry → VariantModel
  variant_model n w = record { serialize_name = w.name; deserialize_names = w.name ∷ []; style = contents_style w.contents; fields = contents_models n w.contents }

  abbrev pub variant_models : ℕ → List VariantEntry → List VariantModel
  variant_models n [] = []
  variant_models n (w ∷ ws) = variant_model n w ∷ variant_models (after_contents w.contents n) ws

  abbrev pub shape_body : ℕ → Shape → BodyModel
  shape_body n (struct_shape closed fs) = struct_model struct_style (struct_models n fs)
  shape_body n (enum_shape closed tag ws) = enum_model tag (variant_models n (variants_of ws))
  shape_body n (newtype_shape e rule) = struct_model newtype_style (unnamed_model 0 (used_type e) ∷ [])

abbrev pub is_closed : Shape → Bool
is_closed (struct_shape closed fs) = closed
is_closed (enum_shape closed tag ws) = closed
is_closed (newtype_shape e rule) = false

-- a newtype without a rule, unless what it holds ends in `PhantomData`
abbrev pub is_transparent : Setting → List ℕ → Shape → Bool
is_transparent s owner (newtype_shape e None) = not (ends_in_phantom s.name s.is_boxed owner e)
is_transparent s owner _ = false

abbrev pub shape_rules : Shape → List RuleD
shape_rules (newtype_shape e (Some r)) = r ∷ []
shape_rules _ = []

abbrev pub has_rule : Shape → Bool
has_rule (newtype_shape e (Some r)) = true
has_rule _ = false

-- the item's container; n is the place of its first stated default
abbrev pub model_of_item : Setting → ℕ → ItemEntry → ContainerModel
model_of_item s n i = record { name = i.name; transparent = is_transparent s i.name i.shape; try_from = has_rule i.shape; closed = is_closed i.shape; body = shape_body s i.name n i.shape }

abbrev pub models_of_items : Setting → ℕ → List ItemEntry → List ContainerModel
models_of_items s n [] = []
models_of_items s n (i ∷ is) = model_of_item s n i ∷ models_of_items s (n + length (shape_defaults i.shape)) is

abbrev pub item_constraints : ItemEntry → List ConstraintD
item_constraints i = map (λ r. record { item = i.name; rule = r }) (shape_rules i.shape)

-- the table of conversions, in the order of the items
abbrev pub conversions_of_items : List ItemEntry → ConversionsD
conversions_of_items is = record { constraints = flat_map item_constraints is; defaults = flat_map (λ i. shape_defaults i.shape) is }
