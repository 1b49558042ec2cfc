use Rattle.std.proofs.Common.{◌≡◌, ◌++◌, drop, map}
use Rattle.entry_types.specs.View.{field_view}
use Rattle.emit_types.proofs.used.add_fields.Given as goal

abbrev pub invariant-loop-field : goal.invariant-loop-field
invariant-loop-field l = l.ids.items ++ map (λ g. g.entry) (map field_view (drop l.field-index l.fields)) ≡ l.initial.ids.items ++ map (λ g. g.entry) (map field_view l.fields)
