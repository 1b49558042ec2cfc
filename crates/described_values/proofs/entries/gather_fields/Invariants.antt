use Rattle.std.proofs.Common.{◌≡◌, ◌≤◌, drop, length}
use Rattle.value_models.specs.FieldView.{fields_view}
use Rattle.described_values.specs.Shown.{entries_view, shown_fields}
use Rattle.described_values.proofs.entries.gather_fields.Given as goal

abbrev pub invariant-loop-left : goal.invariant-loop-left
invariant-loop-left l = (l.left ≤ length l.fields) × (entries_view l.entries ≡ shown_fields l.all (fields_view (drop l.left l.fields)))

abbrev pub decreases-loop-left : goal.decreases-loop-left
decreases-loop-left l = l.left
