use Rattle.std.proofs.Common.{◌≡◌, drop, Bool}
use Rattle.value_models.specs.ContainersView.{containers_in}
use Rattle.value_models.specs.VariantView.{variants_view}
use Rattle.writing_laws.specs.Kinds.{variants_are_apart}
use Rattle.apart_kinds.proofs.Seen.{left}
use Rattle.apart_kinds.proofs.untagged.variants_are_apart.Given as goal

abbrev pub invariant-loop-variant : goal.invariant-loop-variant
invariant-loop-variant l =
    (closed : Bool) → left (containers_in l.table.containers) closed l.seen (variants_view (drop l.variant-index l.variants)) ≡ variants_are_apart (containers_in l.table.containers) closed (variants_view l.variants)
