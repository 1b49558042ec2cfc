use Rattle.std.proofs.Common.{ap, ◌∙◌}
use Rattle.schema_types.specs.View.{object_view}
use Rattle.merge_walks.specs.Carried.{on_walk}
use Rattle.merge_walked.proofs.Objects.{rewalked}
use Rattle.merge_walked.proofs.side.walked_object.Goals as goal

pub returns : goal.returns
returns c = rewalked c.deref_mut.result.now c.args.walk ∙ ap (λ o. on_walk c.args.walk (object_view o)) c.deref_mut.ensures.value
