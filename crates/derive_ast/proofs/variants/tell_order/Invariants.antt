use Rattle.std.proofs.Common.{◌≡◌, map, drop}
use Rattle.attr_parts.specs.Diagnostics.{diagnostics}
use Rattle.derive_ast.specs.Tagged.{tagged_number, order_of}
use Rattle.derive_ast.specs.Views.{variant_view}
use Rattle.derive_ast.proofs.Loops.{IsTold}
use Rattle.derive_ast.proofs.variants.tell_order.Given as goal

abbrev pub invariant-loop-variant : goal.invariant-loop-variant
invariant-loop-variant l = record {
  number : l.number ≡ tagged_number (map variant_view (drop l.variant-index l.variants));
  told : IsTold (diagnostics l.initial.cx) (diagnostics l.cx) (order_of (map variant_view l.variants)) (order_of (map variant_view (drop l.variant-index l.variants)));
}
