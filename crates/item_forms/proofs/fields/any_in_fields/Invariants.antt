use Rattle.std.proofs.Common.{◌≡◌, map, drop}
use Rattle.std.specs.List.{list_any}
use Rattle.syntax_trees.specs.Item.{item_view}
use Rattle.container_defs.specs.Forms.{names_of}
use Rattle.derive_ast.specs.Views.{field_view}
use Rattle.item_forms.specs.FieldTests.{field_test}
use Rattle.item_forms.proofs.fields.any_in_fields.Given as goal

abbrev pub invariant-loop-field : goal.invariant-loop-field
invariant-loop-field l =
    let asked = field_test (names_of (map item_view l.names.items.now)) l.test in
    list_any asked (map field_view l.fields) ≡ list_any asked (map field_view (drop l.field-index l.fields))
