use Rattle.std.proofs.Common.{ap, ◌∙◌}
use Rattle.schema_defs.specs.Schema.{the_schema}
use Rattle.merge_walked.proofs.Lists.{carried_at, inside_lookup}
use Rattle.merge_walked.proofs.side.named_side.Goals as goal

pub returns-in_ok-side-in-Some : goal.returns-in_ok-side-in-Some
returns-in_ok-side-in-Some c =
    ap the_schema c.in_ok-side-in-Some.ensures ∙ ap (carried_at c.args.walk.now c.args.keyword.now c.args.name.now) c.in-Some.ensures.value
    ∙ inside_lookup c.args.walk.now c.args.keyword.now c.args.name.now c.args.named.now.entries

pub returns-in-None : goal.returns-in-None
returns-in-None c =
    ap (carried_at c.args.walk.now c.args.keyword.now c.args.name.now) c.in-None.ensures.value
    ∙ inside_lookup c.args.walk.now c.args.keyword.now c.args.name.now c.args.named.now.entries
