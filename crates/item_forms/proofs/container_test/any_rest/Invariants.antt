use Rattle.std.proofs.Common.{◌≡◌, map, drop, not}
use Rattle.std.specs.List.{list_any}
use Rattle.container_defs.specs.Forms.{rests, is_empty}
use Rattle.derive_ast.specs.Views.{variant_view}
use Rattle.item_forms.proofs.container_test.any_rest.Given as goal

abbrev pub invariant-loop-variant : goal.invariant-loop-variant
invariant-loop-variant l = list_any (λ v. not (is_empty (rests v.fields))) (map variant_view l.variants) ≡ list_any (λ v. not (is_empty (rests v.fields))) (map variant_view (drop l.variant-index l.variants))
