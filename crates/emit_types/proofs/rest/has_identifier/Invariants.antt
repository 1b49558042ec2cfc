use Rattle.std.proofs.Common.{◌≡◌, drop, map}
use Rattle.naming_defs.specs.Names.{is_among}
use Rattle.entry_types.specs.View.{field_view}
use Rattle.emit_types.proofs.rest.has_identifier.Given as goal

abbrev pub invariant-loop-field : goal.invariant-loop-field
invariant-loop-field l = is_among l.identifier (map (λ f. f.identifier) (map field_view l.fields)) ≡ is_among l.identifier (map (λ f. f.identifier) (map field_view (drop l.field-index l.fields)))
