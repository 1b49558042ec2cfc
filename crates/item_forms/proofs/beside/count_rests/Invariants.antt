use Rattle.std.proofs.Common.{◌≡◌, map, drop}
use Rattle.container_defs.specs.Forms.{rests}
use Rattle.derive_ast.specs.Views.{field_view}
use Rattle.item_forms.specs.Counts.{count_of}
use Rattle.item_forms.proofs.Rests.{more}
use Rattle.item_forms.proofs.beside.count_rests.Given as goal

abbrev pub invariant-loop-field : goal.invariant-loop-field
invariant-loop-field l = more l.count (rests (map field_view (drop l.field-index l.fields))) ≡ count_of (rests (map field_view l.fields))
