use Rattle.std.proofs.Common.{◌+◌, [], ◌∷◌, drop, map, Option, ap, sym, ◌∙◌}
use Rattle.token_trees.specs.declared.token.Span.{Span}
use Rattle.token_trees.specs.View.{tree}
use Rattle.attr_parts.specs.Places.{tokens_spans, reached}
use Rattle.attr_parts.proofs.Added.{mapped_drop}
use Rattle.attr_parts.proofs.Reached.{reached_toks}
use Rattle.attr_parts.proofs.place.see_trees.Goals as goal

pub loop-item-preserved : goal.loop-item-preserved
loop-item-preserved c =
    let l = c.loop-item in
    let rest = map tree (drop (l.item-index + 1) c.args.from.now) in
    ap (λ (o : Option Span). reached o (tokens_spans rest)) (c.see-reach.ensures ∙ ap (λ (s : Span). reached l.reach (s ∷ [])) c.span.ensures)
    ∙ sym (reached_toks l.reach (tree c.item-item.result) rest)
    ∙ ap (λ ts. reached l.reach (tokens_spans ts)) (sym (mapped_drop tree c.args.from.now l.item-index c.item-item.result c.loop-item-test.true c.item-item.is))
    ∙ l.invariant
