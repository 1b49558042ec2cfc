use Rattle.std.proofs.Common.{◌≡◌, ◌-◌, length, take, vec_len, rules, ap, ◌∙◌}
use Rattle.merge_walked.proofs.Marks.{unmarked_by_taking}
use Rattle.merge_walked.proofs.walks.unmarked.Goals as goal

pub returns : goal.returns
returns c =
    let same : vec_len c.walk.inside.locations ≡ length c.walk.inside.locations.items = search rules in
    unmarked_by_taking c.args.walk c.pop.new.self.items c.if-not-is_made.ensures (c.pop.ensures.rest ∙ ap (λ n. take (n - 1) c.walk.inside.locations.items) same ∙ ap (λ ws. take (length ws - 1) ws) c.walk.view_is)
