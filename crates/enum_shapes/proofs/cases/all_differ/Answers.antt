use Rattle.std.proofs.Common.{◌≡◌, ◌∙◌, sym, ap}
use Rattle.enum_defs.specs.Words.{is_name}
use Rattle.enum_shapes.proofs.Fresh.{all_fresh, texts, fresh-start, fresh-more, fresh-stop}
use Rattle.enum_shapes.proofs.cases.all_differ.Goals as goal

pub loop-name-init : goal.loop-name-init
loop-name-init c = fresh-start (texts c.args.names.now) ∙ ap (λ ks. all_fresh (λ m. is_name m (texts ks)) (texts c.args.names.now)) (sym c.new-seen.ensures.empty)

pub returns-then-contains : goal.returns-then-contains
returns-then-contains c = fresh-stop c.loop-name.seen.keys c.args.names.now c.loop-name.name-index _ _ c.loop-name-test.true (sym c.contains.ensures ∙ c.if-contains.true) c.loop-name.invariant

pub loop-name-preserved : goal.loop-name-preserved
loop-name-preserved c =
    fresh-more c.loop-name.seen.keys c.insert.new.self.keys c.args.names.now c.loop-name.name-index _ _ c.loop-name-test.true c.in_ok-insert.ensures.keys (sym c.contains.ensures ∙ c.if-contains.false) c.loop-name.invariant
