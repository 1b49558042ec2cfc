use Rattle.std.proofs.Common.{◌≡◌, map, drop}
use Rattle.std.specs.Prelude.{is_some}
use Rattle.std.specs.List.{list_any, flat_map}
use Rattle.derive_ast.specs.Views.{variant_view}
use Rattle.derive_ast.proofs.getters.has_getter_in.Given as goal

abbrev pub invariant-loop-variant : goal.invariant-loop-variant
invariant-loop-variant l = list_any (λ f. is_some f.attrs.getter) (flat_map (λ v. v.fields) (map variant_view l.variants)) ≡ list_any (λ f. is_some f.attrs.getter) (flat_map (λ v. v.fields) (map variant_view (drop l.variant-index l.variants)))
