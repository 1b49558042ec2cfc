use Rattle.std.proofs.Common.{◌≡◌, ◌⊎◌, inl, inr, sym, ◌∙◌, arith, below_more}
use Rattle.use_graph.specs.Graph.{graph_of, row_of}
use Rattle.use_graph.specs.Certificate.{IsRoot, GoesBack}
use Rattle.use_graph.proofs.Rounds.{row_is, back_by_row}
use Rattle.use_graph.proofs.certified.all_go_back.Goals as goal
use Rattle.use_graph.proofs.certified.all_go_back.Goals.{then-is_root, else-is_root}

pub loop-node-preserved : goal.loop-node-preserved
loop-node-preserved c =
    let g = graph_of c.args.uses.now in
    let p = c.args.proposal.now in
    let node = c.loop-node.node in
    below_more (λ i. IsRoot p i ⊎ GoesBack g p i) node c.loop-node.invariant
    (elim c.if-is_root.branch [
      | then-is_root w ↦ inl (c.is_root.ensures w.if-is_root.true)
      | else-is_root w ↦
          let is_row : row_of g node ≡ w.deref.result.now = row_is c.args.uses.now c.index-uses-node.result node (omega arith) c.index-uses-node.is ∙ sym w.deref.ensures.value in
          inr (back_by_row g p node w.deref.result.now is_row (w.goes_back.ensures (sym w.value-is ∙ c.if-not-goes_back.false)))
    ])
