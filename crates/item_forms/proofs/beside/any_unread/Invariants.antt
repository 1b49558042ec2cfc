use Rattle.std.proofs.Common.{◌≡◌, map, drop}
use Rattle.std.specs.List.{list_any}
use Rattle.container_defs.specs.Forms.{is_unread}
use Rattle.derive_ast.specs.Views.{field_view}
use Rattle.item_forms.proofs.beside.any_unread.Given as goal

abbrev pub invariant-loop-field : goal.invariant-loop-field
invariant-loop-field l = list_any is_unread (map field_view l.fields) ≡ list_any is_unread (map field_view (drop l.field-index l.fields))
