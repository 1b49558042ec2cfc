use Rattle.std.proofs.Common.{refl, length}
use Rattle.use_graph.proofs.Rounds.{held}
use Rattle.use_graph.proofs.Ending.{answers_lead, each_leads}
use Rattle.use_graph.proofs.leads.Goals as goal

pub returns-then-are_certified-clause-leads : goal.returns-then-are_certified-clause-leads
returns-then-are_certified-clause-leads c = answers_lead c.args.next.now c.in_ok-proposal.proposal (c.if-are_certified.ensures refl)

pub returns-clause-leads : goal.returns-clause-leads
returns-clause-leads c = each_leads c.args.next.now c.in_ok-answers.answers.items (held c.in_ok-answers.answers (length c.args.next.now) c.in_ok-answers.ensures.sized) c.in_ok-answers.ensures.leads
