use Rattle.std.proofs.Common.{◌≡◌, map}
use Rattle.syntax_trees.specs.Item.{field_view}
use Rattle.syntax_trees.specs.Syntax.{tys_of}
use Rattle.syntax_trees.specs.View.{ty}
use Rattle.emit_defs.specs.Trees.{unnamed_fields_of}
use Rattle.emit_trees.proofs.fields.unnamed_fields.Given as goal

abbrev pub invariant-loop-inner : goal.invariant-loop-inner
invariant-loop-inner l = map field_view l.fields.items ≡ unnamed_fields_of (tys_of (map ty l.yielded))
