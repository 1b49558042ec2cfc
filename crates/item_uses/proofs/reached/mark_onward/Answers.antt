use Rattle.std.proofs.Common.{◌≡◌, true, sym, ap, ◌∙◌, arith}
use Rattle.reference_graph.specs.Graph.{graph_of}
use Rattle.reference_graph.proofs.Routes.{row_is}
use Rattle.item_uses.specs.Reached.{is_marked}
use Rattle.item_uses.proofs.Marking.{onward}
use Rattle.item_uses.proofs.reached.mark_onward.Goals as goal

pub returns : goal.returns
returns c = λ starts was.
    let rows = c.args.rows.now in
    let node = c.args.node in
    let marked : is_marked c.args.flags.now.items node ≡ true = ap (λ fs. is_marked fs node) (sym c.deref.ensures.value) ∙ sym c.is_marked.ensures ∙ c.if-not-is_marked.false in
    onward (graph_of rows) starts node c.deref-2.result.now c.args.flags.now.items c.mark.new.flags.items
    (row_is rows c.index-rows-node.result node (omega (arith, c.if-node-rows.false)) c.index-rows-node.is ∙ sym c.deref-2.ensures.value)
    marked c.in_ok-mark.ensures was
