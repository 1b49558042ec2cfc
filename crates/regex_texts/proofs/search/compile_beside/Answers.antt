use Rattle.std.proofs.Common.{◌∙◌, ap, map, string_bytes}
use Rattle.plain_patterns.specs.Ends.{look_seen}
use Rattle.regex_texts.specs.Search.{has_look, has_source, is_asked}
use Rattle.regex_texts.specs.Searchers.{beside_seen}
use Rattle.regex_texts.proofs.Beside.{next_compiled}
use Rattle.regex_texts.proofs.Unbuilt.{look_unbuilt}
use Rattle.regex_texts.proofs.search.compile_beside.Goals as goal

pub returns-in-Err-clause-refused : goal.returns-in-Err-clause-refused
returns-in-Err-clause-refused c = λ memory.
    look_unbuilt c.args.looks.now c.loop-look.look-index c.look-item.result c.deref.result.now c.in-Err.error c.loop-look-test.true
    (c.deref.ensures ∙ ap (λ l. string_bytes l.source) c.look-item.is) (c.in-Err.ensures.refused memory)

pub loop-look-preserved : goal.loop-look-preserved
loop-look-preserved c = λ text small.
    next_compiled text (map beside_seen c.loop-look.beside.items) (map beside_seen c.push_beside.new.beside.items) _ c.args.looks.now c.loop-look.look-index c.look-item.result _
    c.loop-look-test.true c.in-Ok-push_beside.ensures
    (ap (is_asked c.look-item.result.negated) (c.in-Ok.ensures.searches text small) ∙ ap (λ s. is_asked c.look-item.result.negated (has_source s text)) c.deref.ensures
    ∙ ap (λ l. has_look text (look_seen l)) c.look-item.is)
    (c.loop-look.invariant text small)
