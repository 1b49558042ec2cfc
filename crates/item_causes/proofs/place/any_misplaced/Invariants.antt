use Rattle.std.proofs.Common.{◌≡◌, map, drop}
use Rattle.std.specs.List.{list_any}
use Rattle.derive_ast.specs.Views.{field_view}
use Rattle.item_causes.specs.Newtypes.{is_misplaced}
use Rattle.item_causes.proofs.place.any_misplaced.Given as goal

abbrev pub invariant-loop-field : goal.invariant-loop-field
invariant-loop-field l = list_any (is_misplaced l.count) (map field_view l.fields) ≡ list_any (is_misplaced l.count) (map field_view (drop l.field-index l.fields))
