use Rattle.std.proofs.Common.{◌≡◌, Option, drop}
use Rattle.entry_defs.specs.Layer.{is_field}
use Rattle.tree_types.specs.declared.tree.Tree.{Tree}
use Rattle.default_reading.specs.Seen.{listed}
use Rattle.default_reading.proofs.parts.is_field.Given as goal

abbrev pub invariant-loop-field : goal.invariant-loop-field
invariant-loop-field l = (o : Option Tree) → is_field (listed l.fields o) l.name ≡ is_field (listed (drop l.field-index l.fields) o) l.name
