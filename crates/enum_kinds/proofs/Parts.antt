-- Schemas that refer at most, part by part.
use Rattle.std.proofs.Common.{◌≡◌, Bool, true, false, ◌&&◌, refl}
use Rattle.std.specs.Prelude.{is_none}
use Rattle.schema_defs.specs.Schema.{Schema, boolean, object}
use Rattle.enum_defs.specs.Words.{is_unruled, without_same, without_lists, without_named}
use Rattle.enum_defs.specs.Exclusive.{refers_at_most}
use Rattle.enum_shapes.specs.Here.{is_unruled_in}
use Rattle.enum_kinds.specs.Here.{lists_nothing_in, has_no_part_in}

grouped : (a b c u x y z : Bool) → (a && b && c && u && x && y && z) ≡ (a && b && c && u && (x && y && z))
grouped true true true true x y z = refl
grouped true true true false x y z = refl
grouped true true false u x y z = refl
grouped true false c u x y z = refl
grouped false b c u x y z = refl

pub refers_at_most_parts : (s : Schema) → refers_at_most s ≡ (lists_nothing_in s && is_unruled_in s && has_no_part_in s)
refers_at_most_parts (boolean b) = refl
refers_at_most_parts (object p ss ls ns) = grouped (is_none p.types) (is_none p.enum_values) (is_none p.const_value) (is_unruled p) (without_same ss) (without_lists ls) (without_named ns)
