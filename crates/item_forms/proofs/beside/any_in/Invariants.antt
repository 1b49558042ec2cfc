use Rattle.std.proofs.Common.{◌≡◌, map, drop}
use Rattle.std.specs.List.{list_any}
use Rattle.derive_ast.specs.Views.{variant_view}
use Rattle.item_forms.specs.ListTests.{list_test}
use Rattle.item_forms.proofs.beside.any_in.Given as goal

abbrev pub invariant-loop-variant : goal.invariant-loop-variant
invariant-loop-variant l = list_any (list_test l.test) (map (λ v. v.fields) (map variant_view l.variants)) ≡ list_any (list_test l.test) (map (λ v. v.fields) (map variant_view (drop l.variant-index l.variants)))
