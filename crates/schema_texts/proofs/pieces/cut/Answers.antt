use Rattle.std.proofs.Common.{rules}
use Rattle.schema_texts.proofs.Cuts.{if_none, cut_whole, cut_parts}
use Rattle.schema_texts.proofs.pieces.cut.Goals as goal

pub returns-in_err-place-clause-whole : goal.returns-in_err-place-clause-whole
returns-in_err-place-clause-whole c =
    if_none c.from_residual.result _ (cut_whole c.args.separator c.args.text.now c.in_err-place.ensures.place)

pub returns-clause-parts : goal.returns-clause-parts
returns-clause-parts c = search (rules, cut_parts c.args.separator c.args.text.now c.in_ok-place.place c.in_ok-place.ensures.place)
