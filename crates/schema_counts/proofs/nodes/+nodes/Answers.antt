use Rattle.std.proofs.Common.{◌+◌, sym, ◌∙◌}
use Rattle.schema_admission.proofs.Views.{array_small}
use Rattle.schema_counts.proofs.nodes.+nodes.Goals as goal

pub lists_nodes-returns : goal.lists_nodes-returns
lists_nodes-returns t c = c.in_ok-count.ensures ∙ (λ i. c.in_ok-places.ensures i + c.in_ok-rest.ensures i + c.in_ok-contains.ensures i) ∙ sym (array_small c.args.array.now)
