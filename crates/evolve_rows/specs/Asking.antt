-- What a type asks for, behind its boxes: an item, or what is known without one.
use Rattle.std.specs.Prelude.{ℕ, List, [], ◌∷◌, Bool, true, false, Option, Some, None}
use Rattle.model_defs.specs.Types.{TypeModel, boolean_type, integer_type, text_type, native_type, any_type, unit_type, option_type, boxed_type, vec_type, set_type, map_type, tuple_type, array_type, item_type, outside_type, types_of}
use Rattle.model_defs.specs.Model.{struct_style, newtype_style, VariantModel, TagModel, external_tag, internal_tag, adjacent_tag, untagged, BodyModel, struct_model, enum_model}
use Rattle.evolve_defs.specs.Forms.{Form, any_form, unit_form, boolean_form, integer_form, text_form, native_form, option_form, list_form, tuple_form, array_form, map_form, struct_form, external_form, internal_form, adjacent_form, untagged_form, no_form}

pub data Asked (A : Type 0) : Type 0 where
  of_item : List ℕ → Asked A
  known : A → Asked A

-- the form of a type that is no item
abbrev pub form_asked : TypeModel → Asked Form
form_asked boolean_type = known boolean_form
form_asked (integer_type g) = known (integer_form g)
form_asked text_type = known text_form
form_asked (native_type f) = known (native_form f)
form_asked any_type = known any_form
form_asked unit_type = known unit_form
form_asked (option_type t) = known (option_form t)
form_asked (boxed_type t) = form_asked t
form_asked (vec_type t) = known (list_form false t)
form_asked (set_type t) = known (list_form true t)
form_asked (map_type k t) = known (map_form k t)
form_asked (tuple_type ts) = known (tuple_form (types_of ts))
form_asked (array_type t n) = known (array_form t n)
form_asked (item_type n) = of_item n
form_asked outside_type = known no_form

-- the type of a newtype
abbrev pub newtype_of : BodyModel → Option TypeModel
newtype_of (struct_model newtype_style (f ∷ [])) = Some f.field_type
newtype_of _ = None

abbrev pub enum_form : Bool → TagModel → List VariantModel → Form
enum_form closed external_tag ws = external_form closed ws
enum_form closed (internal_tag tag) ws = internal_form closed tag ws
enum_form closed (adjacent_tag tag content) ws = adjacent_form closed tag content ws
enum_form closed untagged ws = untagged_form closed ws

-- a struct of named fields or an enum; anything else isn't seen by itself
abbrev pub plain_form : Bool → BodyModel → Form
plain_form closed (struct_model struct_style fs) = struct_form closed fs
plain_form closed (struct_model _ fs) = no_form
plain_form closed (enum_model tag ws) = enum_form closed tag ws

abbrev pub plain_home : List ℕ → BodyModel → List ℕ
plain_home n (struct_model s fs) = []
plain_home n (enum_model tag ws) = n
