use Rattle.std.proofs.Common.{◌≡◌, ◌≤◌, ℕ, List, Some, rules, refl, sym, ◌∙◌, ap, subst, arith}
use Rattle.std.specs.Prelude.{Option}
use Rattle.schema_defs.specs.Texts.{Relations}
use Rattle.line_reader.specs.State.{count_of, held}
use Rattle.typify_run.specs.Examine.{CanJudge}
use Rattle.model_lines.specs.declared.ending.Ending.{Ending}
use Rattle.model_lines.proofs.Going.{spent}
use Rattle.model_lines.proofs.values.run_values.Goals as goal

pub loop-index-init : goal.loop-index-init
loop-index-init g c = record {
  goes = λ k left before same h. h;
  kept_source = omega arith;
  kept_sink = omega arith;
  keeps = refl;
  counts = omega arith;
}

pub step-requires-clause-judges : goal.step-requires-clause-judges
step-requires-clause-judges g c = subst (λ (r : Relations). CanJudge r c.args.report.now) (sym c.loop-index.invariant.keeps) c.requires.judges

pub loop-index-preserved : goal.loop-index-preserved
loop-index-preserved g c = record {
  goes = λ k left before same h. c.in_default.ensures.goes k left before (same ∙ sym c.loop-index.invariant.keeps) (c.loop-index.invariant.goes k left before same h);
  kept_source = omega arith;
  kept_sink = omega arith;
  keeps = c.step.ensures.keeps ∙ c.loop-index.invariant.keeps;
  counts = omega arith;
}

pub returns-in-Some-clause-ends : goal.returns-in-Some-clause-ends
returns-in-Some-clause-ends g c = λ k left before asked h.
    let was = c.loop-index.invariant in
    let now : k.before ≤ g.T.Texts.faults c.loop-index.texts = omega (arith, asked.1, was.counts) in
    c.in-Some.ensures.ends k left before (asked.0 ∙ sym was.keeps, now, asked.2) (was.goes k left before asked.0 h)

pub returns-clause-ends : goal.returns-clause-ends
returns-clause-ends g c = λ k left before asked h.
    let was = c.loop-index.invariant in
    spent k left (g.S.Source.left c.loop-index.source) (held c.loop-index.reader) (count_of c.loop-index.reader) before (g.K.Sink.written c.loop-index.sink) c.args.report.now c.loop-index.index (was.goes k left before asked.0 h)
    (g.S.Source.left c.loop-index.source) (g.K.Sink.written c.loop-index.sink) c.bare.result.status c.bare.result.fault (ap (λ (e : Ending). e.status) c.bare.ensures) (ap (λ (e : Ending). e.fault) c.bare.ensures) refl
