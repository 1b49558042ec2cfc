use Rattle.std.proofs.Common.{◌≡◌, map, drop}
use Rattle.std.specs.List.{list_any, flat_map}
use Rattle.derive_ast.specs.Views.{variant_view}
use Rattle.item_causes.specs.Newtypes.{is_misplaced}
use Rattle.item_causes.proofs.place.any_in.Given as goal

abbrev pub invariant-loop-variant : goal.invariant-loop-variant
invariant-loop-variant l = list_any (is_misplaced l.count) (flat_map (λ v. v.fields) (map variant_view l.variants)) ≡ list_any (is_misplaced l.count) (flat_map (λ v. v.fields) (map variant_view (drop l.variant-index l.variants)))
