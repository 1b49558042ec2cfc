use Rattle.std.proofs.Common.{sym, ◌∙◌}
use Rattle.merge_walked.proofs.Marks.{made_at}
use Rattle.merge_walked.proofs.walks.is_made.Goals as goal

pub returns : goal.returns
returns c =
    c.same_place.ensures
    ∙ made_at c.args.walk.now c.in-Some.front.now c.in-Some-split_last.field-0-1.now c.in-Some-split_last.before.now c.in-Some.last.now
    (sym c.walk.view_is ∙ sym c.deref.ensures.value ∙ c.in-Some.ensures.cases.0)
    c.in-Some-split_last.ensures.cases.0
