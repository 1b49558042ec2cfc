-- A type that no reader knows is the same as none.
use Rattle.std.proofs.Common.{◌≡◌, false, refl}
use Rattle.model_defs.specs.Types.{TypeModel, boolean_type, integer_type, text_type, native_type, any_type, unit_type, option_type, boxed_type, vec_type, set_type, map_type, tuple_type, array_type, item_type, outside_type}
use Rattle.container_defs.specs.Forms.{same_type}

pub outside_is_none : (m : TypeModel) → false ≡ same_type outside_type m
outside_is_none boolean_type = refl
outside_is_none (integer_type r) = refl
outside_is_none text_type = refl
outside_is_none (native_type f) = refl
outside_is_none any_type = refl
outside_is_none unit_type = refl
outside_is_none (option_type t) = refl
outside_is_none (boxed_type t) = refl
outside_is_none (vec_type t) = refl
outside_is_none (set_type t) = refl
outside_is_none (map_type k t) = refl
outside_is_none (tuple_type ts) = refl
outside_is_none (array_type t n) = refl
outside_is_none (item_type n) = refl
outside_is_none outside_type = refl
