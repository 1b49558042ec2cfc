-- What stands below a type, by the items that the types of a module name.
use Rattle.std.specs.Prelude.{ℕ, List, [], ◌∷◌, map, Option, Some, None, bytes_eq, if◌then◌else◌}
use Rattle.syntax_trees.specs.Item.{FieldD, FieldsD, named_fields, unnamed_fields, unit_fields, BodyD, struct_body, enum_body, union_body, ItemD}
use Rattle.model_defs.specs.Types.{TypeModel, boolean_type, integer_type, text_type, native_type, any_type, unit_type, option_type, boxed_type, vec_type, set_type, map_type, tuple_type, array_type, item_type, outside_type, types_of}
use Rattle.type_spellings.specs.Types.{type_of}

-- ---- the first that has a name

abbrev pub first_named : {A : Type 0} → (A → List ℕ) → List ℕ → List A → Option A
first_named name n [] = None
first_named name n (x ∷ xs) = if bytes_eq n (name x) then Some x else first_named name n xs

abbrev pub item_at : List ItemD → List ℕ → Option ItemD
item_at is n = first_named (λ i. i.name.text) n is

-- ---- types

-- options and boxes aside
abbrev pub bare : TypeModel → TypeModel
bare (option_type t) = bare t
bare (boxed_type t) = bare t
bare t = t

-- the item that a type is
abbrev pub item_in : TypeModel → Option (List ℕ)
item_in boolean_type = None
item_in (integer_type r) = None
item_in text_type = None
item_in (native_type f) = None
item_in any_type = None
item_in unit_type = None
item_in (option_type t) = None
item_in (boxed_type t) = None
item_in (vec_type t) = None
item_in (set_type t) = None
item_in (map_type k t) = None
item_in (tuple_type ts) = None
item_in (array_type t n) = None
item_in (item_type n) = Some n
item_in outside_type = None

abbrev pub field_types : List FieldD → List TypeModel
field_types fs = map (λ f. type_of f.ty) fs

-- what a newtype holds
abbrev pub held_alone : List FieldD → Option TypeModel
held_alone (f ∷ []) = Some (type_of f.ty)
held_alone _ = None

abbrev pub held_by_fields : FieldsD → Option TypeModel
held_by_fields (named_fields fs) = None
held_by_fields (unnamed_fields fs) = held_alone fs
held_by_fields unit_fields = None

abbrev pub held_by : BodyD → Option TypeModel
held_by (struct_body fs at) = held_by_fields fs
held_by (enum_body vs at) = None
held_by (union_body fs at) = None

abbrev pub held_in : Option ItemD → Option TypeModel
held_in None = None
held_in (Some i) = held_by i.body

abbrev pub held_or : TypeModel → Option TypeModel → TypeModel
held_or t None = t
held_or t (Some u) = u

-- ---- what stands below a type: the items of a list, the places of a tuple, the members of a map, or the fields of a struct, in their order

pub data Form : Type 0 where
  each_form : TypeModel → Form
  places_form : List TypeModel → Form
  members_form : TypeModel → Form
  fields_form : List TypeModel → Form
  other_form : Form

abbrev pub fields_below : FieldsD → Form
fields_below (named_fields fs) = fields_form (field_types fs)
fields_below (unnamed_fields fs) = other_form
fields_below unit_fields = other_form

abbrev pub body_form : BodyD → Form
body_form (struct_body fs at) = fields_below fs
body_form (enum_body vs at) = other_form
body_form (union_body fs at) = other_form

abbrev pub item_form : Option ItemD → Form
item_form None = other_form
item_form (Some i) = body_form i.body

module _ (is : List ItemD) where
  abbrev pub form_of : TypeModel → Form
  form_of boolean_type = other_form
  form_of (integer_type r) = other_form
  form_of text_type = other_form
  form_of (native_type f) = other_form
  form_of any_type = other_form
  form_of unit_type = places_form []
  form_of (option_type t) = other_form
  form_of (boxed_type t) = other_form
  form_of (vec_type t) = each_form t
  form_of (set_type t) = each_form t
  form_of (map_type k t) = members_form t
  form_of (tuple_type ts) = places_form (types_of ts)
  form_of (array_type t n) = each_form t
  form_of (item_type n) = item_form (item_at is n)
  form_of outside_type = other_form

  -- what a type is behind a newtype
  abbrev pub behind_item : TypeModel → Option (List ℕ) → TypeModel
  behind_item t None = t
  behind_item t (Some n) = held_or t (held_in (item_at is n))

  abbrev pub behind : TypeModel → TypeModel
  behind t = behind_item (bare t) (item_in (bare t))

  -- A schema is converted to no more than three newtypes, one within the other: that of its definition, that of its listed values, and that of its type.
  abbrev pub form : TypeModel → Form
  form t = form_of (bare (behind (behind (behind t))))
