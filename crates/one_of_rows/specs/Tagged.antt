-- Enums by their tags, where the members are known to be object shapes.
use Rattle.std.specs.Prelude.{ℕ, ◌&&◌, not, List, [], Bool, false, map}
use Rattle.std.specs.List.{list_any}
use Rattle.schema_defs.specs.declared.Setting.{Setting}
use Rattle.enum_defs.specs.Shapes.{object_shape}
use Rattle.convert_defs.specs.Shapes.{Member, TaggedShape, internal_variant, adjacent_variant, has_tag_alone}
use Rattle.member_rows.specs.Members.{is_closed_shape}

abbrev pub closed_shapes : List Member → Bool
closed_shapes ms = list_any (λ m. is_closed_shape (object_shape m.1)) ms

abbrev pub open_shapes : List Member → Bool
open_shapes ms = list_any (λ m. not (is_closed_shape (object_shape m.1))) ms

abbrev pub internal_by : Setting → List Member → List ℕ → TaggedShape
internal_by setting ms tag = record { tag = tag; content = []; closed = closed_shapes ms; mixed = closed_shapes ms && open_shapes ms; alone = false; variants = map (internal_variant setting tag) ms }

abbrev pub adjacent_by : List Member → List ℕ → List ℕ → TaggedShape
adjacent_by ms tag content =
    record { tag = tag; content = content; closed = closed_shapes ms; mixed = closed_shapes ms && open_shapes ms; alone = not (closed_shapes ms) && list_any (has_tag_alone tag) ms; variants = map (adjacent_variant tag) ms }
