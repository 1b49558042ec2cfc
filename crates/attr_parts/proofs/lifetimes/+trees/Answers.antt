use Rattle.std.proofs.Common.{◌+◌, ◌++◌, drop, map, ap, sym, ◌∙◌, arith}
use Rattle.token_trees.specs.Token.{toks_of}
use Rattle.token_trees.specs.View.{tree}
use Rattle.attr_parts.specs.Lifetimes.{tokens_lifetimes, next_lifetimes, quote_after}
use Rattle.attr_parts.proofs.Added.{added_more, added_front, mapped_drop, tokens_next, item_count, always_err}
use Rattle.attr_parts.proofs.lifetimes.+trees.Goals as goal

pub collect_trees-collect_next-requires : goal.collect_trees-collect_next-requires
collect_trees-collect_next-requires t c =
    let l = c.loop-item in
    let within = item_count tree c.args.from.now l.item-index c.item-item.result c.loop-item-test.true c.item-item.is in
    omega arith

pub collect_trees-returns-in_err-collect_next-clause-err : goal.collect_trees-returns-in_err-collect_next-clause-err
collect_trees-returns-in_err-collect_next-clause-err t c =
    let l = c.loop-item in
    let rest = toks_of (map tree (drop (l.item-index + 1) c.args.from.now)) in
    let left = ap (λ ts. tokens_lifetimes l.before (toks_of ts)) (mapped_drop tree c.args.from.now l.item-index c.item-item.result c.loop-item-test.true c.item-item.is)
    ∙ tokens_next l.before (tree c.item-item.result) rest in
    always_err _ _ (added_front _ _ _ _ _ (next_lifetimes l.before (tree c.item-item.result)) (tokens_lifetimes (quote_after l.before (tree c.item-item.result)) rest) l.invariant left c.in_err-collect_next.ensures.err)

pub collect_trees-loop-item-preserved : goal.collect_trees-loop-item-preserved
collect_trees-loop-item-preserved t c =
    let l = c.loop-item in
    let rest = toks_of (map tree (drop (l.item-index + 1) c.args.from.now)) in
    let left = ap (λ ts. tokens_lifetimes l.before (toks_of ts)) (mapped_drop tree c.args.from.now l.item-index c.item-item.result c.loop-item-test.true c.item-item.is)
    ∙ tokens_next l.before (tree c.item-item.result) rest
    ∙ ap (λ b. next_lifetimes l.before (tree c.item-item.result) ++ tokens_lifetimes b rest) (sym c.next_quote-before.ensures) in
    added_more _ _ _ _ _ (next_lifetimes l.before (tree c.item-item.result)) _ l.invariant left c.in_ok-collect_next.ensures.ok
