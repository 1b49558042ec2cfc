use Rattle.std.proofs.Common.{◌≡◌, map, drop}
use Rattle.std.specs.List.{list_any}
use Rattle.container_defs.specs.Checks.{has_tag_name}
use Rattle.derive_ast.specs.Views.{variant_view}
use Rattle.derive_ast.proofs.checks.tags.any_conflicts.Given as goal

abbrev pub invariant-loop-variant : goal.invariant-loop-variant
invariant-loop-variant l = list_any (has_tag_name l.tag) (map variant_view l.variants) ≡ list_any (has_tag_name l.tag) (map variant_view (drop l.variant-index l.variants))
