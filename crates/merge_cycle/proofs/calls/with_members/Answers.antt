use Rattle.std.proofs.Common.{Some, option_map}
use Rattle.schema_types.specs.View.{same_of, schema_view, subschemas_view}
use Rattle.merge_walked.specs.Seen.{side_view}
use Rattle.merge_defs.specs.Outcome.{mapped}
use Rattle.merge_defs.specs.Members.{with_same}
use Rattle.merge_defs.specs.Merge.{tidied}
use Rattle.merge_cycle.specs.declared.how.How.TheVariants.{Join, Less}
use Rattle.merge_cycle.specs.Within.{asked_in, document_in}
use Rattle.merge_cycle.proofs.Answering.{off_merge, off_refused, to_end}
use Rattle.merge_cycle.proofs.Steps.{handed}
use Rattle.merge_cycle.proofs.calls.with_members.Goals as goal

pub returns-in_err-refuse_subschemas : goal.returns-in_err-refuse_subschemas
returns-in_err-refuse_subschemas c =
    let b = schema_view c.args.body.now in
    let ss = same_of (option_map subschemas_view c.args.subschemas.now) in
    let s = side_view c.plain-side.result in
    let w = c.in_ok-walk.walk in
    let f = asked_in c.args.scope.now c.args.left (Some w) Join in
    let g = asked_in c.args.scope.now c.args.left (Some w) Less in
    let o = mapped tidied (with_same (document_in c.args.scope.now) f g (same_of (option_map subschemas_view c.in_ok-inside.inside)) (schema_view c.in_ok-open.open)) in
    handed _ _ c.from_residual-in_err-refuse_subschemas.ensures.1 (off_refused (document_in c.args.scope.now) c.args.scope.now.most c.args.left b ss s c.plain-side.ensures w c.in_ok-walk.ensures (schema_view c.in_ok-open.open) c.in_ok-open.ensures (same_of (option_map subschemas_view c.in_ok-inside.inside)) c.in_ok-inside.ensures _ _ (c.in_err-refuse_subschemas.ensures o _))

pub returns-in_err-merge : goal.returns-in_err-merge
returns-in_err-merge c =
    let b = schema_view c.args.body.now in
    let ss = same_of (option_map subschemas_view c.args.subschemas.now) in
    let s = side_view c.plain-side.result in
    let w = c.in_ok-walk.walk in
    let f = asked_in c.args.scope.now c.args.left (Some w) Join in
    let g = asked_in c.args.scope.now c.args.left (Some w) Less in
    let o = mapped tidied (with_same (document_in c.args.scope.now) f g (same_of (option_map subschemas_view c.in_ok-inside.inside)) (schema_view c.in_ok-open.open)) in
    handed _ _ c.from_residual-in_err-merge.ensures.1 (off_merge (document_in c.args.scope.now) c.args.scope.now.most c.args.left b ss s c.plain-side.ensures w c.in_ok-walk.ensures (schema_view c.in_ok-open.open) c.in_ok-open.ensures (same_of (option_map subschemas_view c.in_ok-inside.inside)) c.in_ok-inside.ensures c.in_ok-refuse_subschemas.field-0 _ _ (c.in_ok-refuse_subschemas.ensures o _) _ c.in_err-merge.ensures)

pub returns : goal.returns
returns c =
    let b = schema_view c.args.body.now in
    let ss = same_of (option_map subschemas_view c.args.subschemas.now) in
    let s = side_view c.plain-side.result in
    let w = c.in_ok-walk.walk in
    let f = asked_in c.args.scope.now c.args.left (Some w) Join in
    let g = asked_in c.args.scope.now c.args.left (Some w) Less in
    let o = mapped tidied (with_same (document_in c.args.scope.now) f g (same_of (option_map subschemas_view c.in_ok-inside.inside)) (schema_view c.in_ok-open.open)) in
    to_end (document_in c.args.scope.now) c.args.scope.now.most c.args.left b ss s c.plain-side.ensures w c.in_ok-walk.ensures (schema_view c.in_ok-open.open) c.in_ok-open.ensures (same_of (option_map subschemas_view c.in_ok-inside.inside)) c.in_ok-inside.ensures c.in_ok-refuse_subschemas.field-0 _ _ (c.in_ok-refuse_subschemas.ensures o _) c.in_ok-merge.merge c.in_ok-schema.schema c.in_ok-merge.ensures c.in_ok-schema.ensures
