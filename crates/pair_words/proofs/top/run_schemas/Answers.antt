use Rattle.std.proofs.Common.{refl, sym, subst, inl, codes, arith}
use Rattle.serde_json.specs.View.{view}
use Rattle.json_value.specs.View.{value_of}
use Rattle.schema_defs.specs.Texts.{Relations}
use Rattle.schema_tree.specs.Fault.{fault_view}
use Rattle.schema_words.specs.Words.{Asking, asking}
use Rattle.schema_words.specs.Outcome.{IsReportOn}
use Rattle.pair_words.specs.Input.{Pair}
use Rattle.pair_words.specs.Outcome.{Ends}
use Rattle.pair_words.proofs.Pairs.{fault_ends}
use Rattle.pair_words.proofs.top.run_schemas.Goals as goal

pub returns-in-Ok-clause-ends : goal.returns-in-Ok-clause-ends
returns-in-Ok-clause-ends g c = λ all input.
    let b = g.T.Texts.faults c.args.texts.now in
    let a = g.T.Texts.faults c.run_new.new.texts in
    let p : Pair = record { old = view c.args.old.now; new = view c.args.new.now } in
    let on = subst (λ (t : Relations). IsReportOn (asking c.args.depth c.args.setting t b a) (value_of p.old) c.in-Ok.report) (sym c.report_of.ensures.keeps) (c.in-Ok.ensures.report b a) in
    subst (λ (t : Relations). Ends g.A.Comparing.answers (asking c.args.depth c.args.setting t b a) all (g.K.Sink.written c.args.sink.now) (g.K.Sink.written c.run_new.new.sink) c.run_new.result) c.report_of.ensures.keeps
    (c.run_new.ensures.ends b all p c.report_of.ensures.counts input refl on)

pub returns-in-Err-clause-ends : goal.returns-in-Err-clause-ends
returns-in-Err-clause-ends g c = λ all input.
    let b = g.T.Texts.faults c.args.texts.now in
    let k : Asking = asking c.args.depth c.args.setting (g.T.Texts.relations c.args.texts.now) b (g.T.Texts.faults c.report_of.new.texts) in
    let f = fault_view c.in-Err.fault in
    let p : Pair = record { old = view c.args.old.now; new = view c.args.new.now } in
    fault_ends g.A.Comparing.answers k all (g.K.Sink.written c.args.sink.now) (g.K.Sink.written c.print_fault.new.sink) (codes "old ") f c.print_fault.result
    (λ other. (p, f, input, inl (c.in-Err.ensures.refused other b (omega arith), refl))) c.print_fault.ensures.ends
