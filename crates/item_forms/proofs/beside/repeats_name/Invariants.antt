use Rattle.std.proofs.Common.{◌≡◌, map, drop}
use Rattle.container_defs.specs.Forms.{repeats_name}
use Rattle.derive_ast.specs.Views.{field_view}
use Rattle.item_forms.proofs.Named.{repeats_beside}
use Rattle.item_forms.proofs.beside.repeats_name.Given as goal

abbrev pub invariant-loop-field : goal.invariant-loop-field
invariant-loop-field l = repeats_beside l.seen (map field_view (drop l.field-index l.fields)) ≡ repeats_name (map field_view l.fields)
