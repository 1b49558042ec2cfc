use Rattle.container_cases.proofs.covering.compared.Goals as goal

pub covers-requires-clause-old_ends : goal.covers-requires-clause-old_ends
covers-requires-clause-old_ends c = c.reaches_itself.ensures.0 c.if-reaches_itself.false

pub covers-requires-clause-new_ends : goal.covers-requires-clause-new_ends
covers-requires-clause-new_ends c = c.reaches_itself-2.ensures.0 c.if-reaches_itself-2.false
