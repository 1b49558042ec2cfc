use Rattle.std.proofs.Common.{◌≡◌, ◌+◌, List, map, take, true, subst, sym, ◌∙◌, arith}
use Rattle.syntax_trees.specs.View.{ty}
use Rattle.serde_json.specs.View.{view}
use Rattle.serde_json.specs.declared.value.Value.{Value}
use Rattle.json_value.specs.View.{value_of}
use Rattle.schema_defs.specs.Texts.{Relations}
use Rattle.type_spellings.specs.Types.{type_of}
use Rattle.schema_tree.specs.Numbers.{holds_i64_alone}
use Rattle.derive_model.specs.Judging.{IsVerdict}
use Rattle.derive_model.specs.ModuleView.{models_in, conversions_in}
use Rattle.derive_model.specs.VerdictView.{verdict_view}
use Rattle.derive_model.specs.declared.verdict.Verdict.{Verdict}
use Rattle.typify_run.specs.Verdicts.{AreVerdicts}
use Rattle.typify_run.proofs.Judged.{verdicts_more, i64_at}
use Rattle.typify_run.proofs.judging.lent_verdicts.Goals as goal

pub judge_value-requires-clause-numbers : goal.judge_value-requires-clause-numbers
judge_value-requires-clause-numbers g c =
    let xs = c.args.values.now in
    subst (λ (w : Value). holds_i64_alone (value_of (view w)) ≡ true) (sym c.value-item.is) (i64_at view xs c.loop-value.value-index c.value-item.result c.requires.numbers c.loop-value-test.true)

pub loop-value-preserved : goal.loop-value-preserved
loop-value-preserved g c =
    let ms = models_in c.args.models.now in
    let cs = conversions_in c.args.models.now in
    let r = g.T.Texts.relations c.args.texts.now in
    let t = type_of (ty c.args.root.now) in
    let xs = c.args.values.now in
    let i = c.loop-value.value-index in
    let x = c.value-item.result in
    let v = c.in_ok-told.told in
    let before = c.loop-value.invariant in
    let told = c.in_ok-told.ensures in
    let now = subst (λ (k : Relations). IsVerdict ms cs k t (value_of (view x)) (verdict_view v)) before.keeps told.verdict in
    let here = subst (λ (w : Value). IsVerdict ms cs r t (value_of (view w)) (verdict_view v)) c.value-item.is now in
    record {
      verdicts =
          subst (λ (vs : List Verdict). AreVerdicts ms cs r t (map view (take (i + 1) xs)) (map verdict_view vs)) (sym c.in_ok-push_verdict.ensures.pushed)
          (verdicts_more ms cs r t view verdict_view xs i x c.loop-value.verdicts.items v c.loop-value-test.true before.verdicts here);
      keeps = told.keeps ∙ before.keeps;
      counts = omega (arith, before.counts, told.counts);
    }
