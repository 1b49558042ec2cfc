use Rattle.std.proofs.Common.{sym, ◌∙◌}
use Rattle.token_trees.specs.View.{tree}
use Rattle.attr_defs.specs.Metas.{is_text}
use Rattle.attr_acts.proofs.Loops.{any_here, any_later}
use Rattle.derive_attr.proofs.container.has_symbol.Goals as goal

pub returns-then-is_symbol : goal.returns-then-is_symbol
returns-then-is_symbol c =
    let l = c.loop-token in
    sym (l.invariant ∙ any_here (is_text c.args.symbol.0.now) tree c.args.tokens.now l.token-index c.token-item.result c.loop-token-test.true c.token-item.is (sym c.is_symbol.ensures ∙ c.if-is_symbol.true))

pub loop-token-preserved : goal.loop-token-preserved
loop-token-preserved c =
    let l = c.loop-token in
    l.invariant ∙ any_later (is_text c.args.symbol.0.now) tree c.args.tokens.now l.token-index c.token-item.result c.loop-token-test.true c.token-item.is (sym c.is_symbol.ensures ∙ c.if-is_symbol.false)
