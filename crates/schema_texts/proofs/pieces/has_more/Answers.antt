use Rattle.std.proofs.Common.{sym, ◌∙◌}
use Rattle.schema_texts.proofs.Cuts.{several_pieces, one_piece}
use Rattle.schema_texts.proofs.pieces.has_more.Goals as goal

pub returns-clause-several : goal.returns-clause-several
returns-clause-several c = λ h. several_pieces c.args.separator c.args.text.now c.cut.result c.cut.ensures.parts (sym c.is_some.ensures ∙ h)

pub returns-clause-alone : goal.returns-clause-alone
returns-clause-alone c = λ h. one_piece c.args.separator c.args.text.now c.cut.result c.cut.ensures.whole (sym c.is_some.ensures ∙ h)
