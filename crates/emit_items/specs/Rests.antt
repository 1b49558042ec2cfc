-- The field that is written for a rest, whoever owns it: what stands in it isn't used by value.
use Rattle.std.specs.Prelude.{List, [], ◌∷◌, Option, Some, None}
use Rattle.syntax_trees.specs.Item.{FieldD}
use Rattle.entry_defs.specs.Space.{RestAt, Space}
use Rattle.emit_trees.specs.Parts.{rest_part}
use Rattle.space_defs.specs.Types.{none_boxed, ty_at}

abbrev pub rest_trees : Space → Option RestAt → List FieldD
rest_trees space None = []
rest_trees space (Some p) = rest_part p.identifier (ty_at space none_boxed p.entry) ∷ []
