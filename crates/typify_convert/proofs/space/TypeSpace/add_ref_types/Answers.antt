use Rattle.std.proofs.Common.{ℕ, subst}
use Rattle.std.specs.Prelude.{IfErr, OnOk}
use Rattle.schema_tree.specs.Fault.{fault_view}
use Rattle.convert_document.specs.Told.{AreFine, Refuses}
use Rattle.typify_convert.specs.Space.{History, Holds, document_in, depth_in, refusal_in}
use Rattle.history_laws.specs.Added.{target_nodes}
use Rattle.typify_convert.specs.Added.{with_targets}
use Rattle.typify_convert.specs.Refused.{IsRefusal}
use Rattle.typify_convert.specs.Plain.{IsRefusedPlainly}
use Rattle.plain_defs.specs.Plain.{IsPlain}
use Rattle.typify_convert.proofs.Told.{if_err_mapped}
use Rattle.typify_convert.proofs.Plainly.{on_ok_mapped, targets_unnoted, targets_plainly}
use Rattle.typify_convert.proofs.space.TypeSpace.add_ref_types.Goals as goal

pub returns-clause-added : goal.returns-clause-added
returns-clause-added g c =
    let r = g.T.Texts.relations c.args.texts.now in
    let d = document_in c.args.self.now in
    let m = depth_in c.args.self.now in
    subst (λ (n : ℕ). OnOk c.ref_types_within.result ((h : History) → Holds c.args.self.now h → Holds c.ref_types_within.new.self (with_targets r d m n h))) c.levels-most.ensures c.ref_types_within.ensures.added

pub returns-clause-fine : goal.returns-clause-fine
returns-clause-fine g c =
    let r = g.T.Texts.relations c.args.texts.now in
    let d = document_in c.args.self.now in
    let m = depth_in c.args.self.now in
    subst (λ (n : ℕ). OnOk c.ref_types_within.result (AreFine r d m n (target_nodes r d m n))) c.levels-most.ensures c.ref_types_within.ensures.fine

pub returns-clause-refused : goal.returns-clause-refused
returns-clause-refused g c =
    let r = g.T.Texts.relations c.args.texts.now in
    let d = document_in c.args.self.now in
    let m = depth_in c.args.self.now in
    subst
    (λ (n : ℕ). IfErr c.ref_types_within.result (λ f. IsRefusal (refusal_in c.args.self.now) (Refuses r d m n (g.T.Texts.faults c.args.texts.now) (g.T.Texts.faults c.ref_types_within.new.texts) (target_nodes r d m n)) (fault_view f)))
    c.levels-most.ensures c.ref_types_within.ensures.refused

pub returns-clause-plain_unnoted : goal.returns-clause-plain_unnoted
returns-clause-plain_unnoted g c =
    on_ok_mapped c.ref_types_within.result
    (λ made. targets_unnoted (g.T.Texts.relations c.args.texts.now) (document_in c.args.self.now) (depth_in c.args.self.now) c.levels-most.result c.args.self.now c.ref_types_within.new.self made) c.ref_types_within.ensures.added

pub returns-clause-plain_refused : goal.returns-clause-plain_refused
returns-clause-plain_refused g c =
    let r = g.T.Texts.relations c.args.texts.now in
    let d = document_in c.args.self.now in
    let m = depth_in c.args.self.now in
    let before = g.T.Texts.faults c.args.texts.now in
    let after = g.T.Texts.faults c.ref_types_within.new.texts in
    subst (λ (n : ℕ). IfErr c.ref_types_within.result (λ f. IsPlain d m → IsRefusedPlainly (refusal_in c.args.self.now) before after (target_nodes r d m n) (fault_view f))) c.levels-most.ensures
    (if_err_mapped c.ref_types_within.result _ _ (λ f k. targets_plainly r d m c.levels-most.result (refusal_in c.args.self.now) before after (fault_view f) k) c.ref_types_within.ensures.refused)
