use Rattle.use_graph.specs.Graph.{graph_of}
use Rattle.use_graph.proofs.Rounds.{tells_parts, tells_rounds}
use Rattle.use_graph.proofs.Tables.{by_table}
use Rattle.use_graph.proofs.parts.Goals as goal

pub returns-then-branch-clause-parts : goal.returns-then-branch-clause-parts
returns-then-branch-clause-parts c = tells_parts (graph_of c.args.uses.now) c.in_ok-proposal.proposal (c.in_ok-is_certified.ensures c.if-branch.true)

pub returns-then-branch-clause-rounds : goal.returns-then-branch-clause-rounds
returns-then-branch-clause-rounds c =
    tells_rounds (graph_of c.args.uses.now) c.in_ok-proposal.proposal.parts.items
    (tells_parts (graph_of c.args.uses.now) c.in_ok-proposal.proposal (c.in_ok-is_certified.ensures c.if-branch.true))

pub returns-clause-parts : goal.returns-clause-parts
returns-clause-parts c = by_table c.args.uses.now c.in_ok-table.table.items c.deref.result.now c.in_ok-firsts.firsts.items c.deref.ensures.value c.in_ok-table.ensures c.in_ok-firsts.ensures.first

pub returns-clause-rounds : goal.returns-clause-rounds
returns-clause-rounds c =
    tells_rounds (graph_of c.args.uses.now) c.in_ok-firsts.firsts.items
    (by_table c.args.uses.now c.in_ok-table.table.items c.deref.result.now c.in_ok-firsts.firsts.items c.deref.ensures.value c.in_ok-table.ensures c.in_ok-firsts.ensures.first)
