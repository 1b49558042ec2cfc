use Rattle.std.proofs.Common.{◌≡◌, map, drop}
use Rattle.std.specs.List.{list_any}
use Rattle.std.specs.Prelude.{◌||◌}
use Rattle.container_defs.specs.Checks.{is_written_as, is_read_as}
use Rattle.derive_ast.specs.Views.{field_view, variant_view}
use Rattle.derive_ast.proofs.checks.tags.has_name.Given as goal

abbrev pub invariant-loop-field : goal.invariant-loop-field
invariant-loop-field l = list_any (λ f. is_written_as l.text (variant_view l.variant) f || is_read_as l.text (variant_view l.variant) f) (map field_view l.fields) ≡ list_any (λ f. is_written_as l.text (variant_view l.variant) f || is_read_as l.text (variant_view l.variant) f) (map field_view (drop l.field-index l.fields))
