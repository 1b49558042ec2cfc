-- Tables that are read as they settle: within the forms, with rules at newtypes alone, and numbers that JSON values hold.
use Rattle.std.specs.Prelude.{ℤ, pos, negsuc, nat_lt, ◌&&◌, ◌||◌, not, List, [], ◌∷◌, Bool, true, false}
use Rattle.std.specs.List.{list_all}
use Rattle.json_value.specs.Value.{Value, Items, Members, number, fraction, list, object, item, no_items, member, no_members}
use Rattle.model_defs.specs.Model.{Style, newtype_style, struct_style, tuple_style, unit_style, FieldModel, BodyModel, struct_model, enum_model, ContainerModel}

-- a whole number from the least i64 to the greatest u64
abbrev pub is_json_number : ℤ → Bool
is_json_number (pos n) = nat_lt n 18446744073709551616
is_json_number (negsuc n) = nat_lt n 9223372036854775808

-- each number in the value is one
abbrev mutual
  pub has_json_numbers : Value → Bool
  has_json_numbers (number z) = is_json_number z
  has_json_numbers fraction = false
  has_json_numbers (list xs) = items_have_json_numbers xs
  has_json_numbers (object ms) = members_have_json_numbers ms
  has_json_numbers _ = true

  pub items_have_json_numbers : Items → Bool
  items_have_json_numbers no_items = true
  items_have_json_numbers (item v vs) = has_json_numbers v && items_have_json_numbers vs

  pub members_have_json_numbers : Members → Bool
  members_have_json_numbers no_members = true
  members_have_json_numbers (member k v ms) = has_json_numbers v && members_have_json_numbers ms

abbrev pub is_newtype : BodyModel → Bool
is_newtype (struct_model newtype_style fs) = true
is_newtype _ = false

-- `try_from` stands at newtypes alone
abbrev pub are_rules_fit : List ContainerModel → Bool
are_rules_fit ms = list_all (λ m. not m.try_from || is_newtype m.body) ms

-- one unnamed field, or no field, where the style says so
abbrev pub has_shape : Style → List FieldModel → Bool
has_shape struct_style fs = true
has_shape tuple_style fs = true
has_shape newtype_style (f ∷ []) = true
has_shape newtype_style _ = false
has_shape unit_style [] = true
has_shape unit_style _ = false

abbrev pub body_has_shape : BodyModel → Bool
body_has_shape (struct_model style fs) = true
body_has_shape (enum_model tag ws) = list_all (λ w. has_shape w.style w.fields) ws

abbrev pub have_shapes : List ContainerModel → Bool
have_shapes ms = list_all (λ m. body_has_shape m.body) ms
