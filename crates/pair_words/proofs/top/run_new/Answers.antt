use Rattle.std.proofs.Common.{refl, sym, subst, inr, codes}
use Rattle.serde_json.specs.Data.{Data}
use Rattle.json_value.specs.View.{value_of}
use Rattle.schema_tree.specs.Fault.{fault_view}
use Rattle.schema_words.specs.Words.{Asking, asking}
use Rattle.schema_words.specs.Outcome.{IsCaused, IsReportOn}
use Rattle.pair_words.proofs.Pairs.{fault_ends, reported_faultless}
use Rattle.pair_words.proofs.top.run_new.Goals as goal

pub returns-in-Ok-clause-ends : goal.returns-in-Ok-clause-ends
returns-in-Ok-clause-ends g c = λ before all p le input same on.
    let a = g.T.Texts.faults c.report_of.new.texts in
    let k : Asking = asking c.args.depth c.args.setting (g.T.Texts.relations c.args.texts.now) before a in
    c.print_answer.ensures.ends k all p input
    (record { old_report = on; new_report = subst (λ (d : Data). IsReportOn k (value_of d) c.in-Ok.new) (sym same) (c.in-Ok.ensures.report before a) })

pub returns-in-Err-clause-ends : goal.returns-in-Err-clause-ends
returns-in-Err-clause-ends g c = λ before all p le input same on.
    let k : Asking = asking c.args.depth c.args.setting (g.T.Texts.relations c.args.texts.now) before (g.T.Texts.faults c.report_of.new.texts) in
    let f = fault_view c.in-Err.fault in
    fault_ends g.A.Comparing.answers k all (g.K.Sink.written c.args.sink.now) (g.K.Sink.written c.print_fault.new.sink) (codes "new ") f c.print_fault.result
    (λ other. (p, f, input, inr (reported_faultless k (value_of p.old) c.args.old.now on, subst (λ (d : Data). IsCaused k (value_of d) f) (sym same) (c.in-Err.ensures.refused other before le), refl))) c.print_fault.ensures.ends
