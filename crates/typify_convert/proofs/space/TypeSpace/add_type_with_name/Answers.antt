use Rattle.std.proofs.Common.{ℕ, subst, option_map}
use Rattle.std.specs.Prelude.{IfErr, IfOk, OnOk}
use Rattle.schema_tree.specs.Fault.{fault_view}
use Rattle.entry_types.specs.View.{id_view}
use Rattle.convert_document.specs.Told.{AreFine, Refuses}
use Rattle.typify_convert.specs.Space.{History, Holds, document_in, depth_in, refusal_in}
use Rattle.typify_convert.specs.Added.{Adds, added, added_nodes, met_nodes}
use Rattle.typify_convert.specs.Refused.{IsRefusal}
use Rattle.typify_convert.specs.Plain.{IsPlainAt, IsRefusedPlainly}
use Rattle.typify_convert.proofs.Told.{if_err_mapped}
use Rattle.typify_convert.proofs.Plainly.{if_ok_on, schema_unnoted, schema_plainly}
use Rattle.typify_convert.proofs.space.TypeSpace.add_type_with_name.Goals as goal

pub returns-clause-added : goal.returns-clause-added
returns-clause-added g c =
    let r = g.T.Texts.relations c.args.texts.now in
    let d = document_in c.args.self.now in
    let m = depth_in c.args.self.now in
    subst (λ (n : ℕ). IfOk c.type_within.result (λ i. (h : History) → Holds c.args.self.now h → Adds c.type_within.new.self (id_view i) (added r d m n c.args.at.now (option_map (λ n. n.now) c.args.name) h))) c.levels-most.ensures
    c.type_within.ensures.added

pub returns-clause-fine : goal.returns-clause-fine
returns-clause-fine g c =
    let r = g.T.Texts.relations c.args.texts.now in
    let d = document_in c.args.self.now in
    let m = depth_in c.args.self.now in
    subst (λ (n : ℕ). OnOk c.type_within.result (AreFine r d m n (added_nodes r d m n c.args.at.now (option_map (λ n. n.now) c.args.name)))) c.levels-most.ensures c.type_within.ensures.fine

pub returns-clause-refused : goal.returns-clause-refused
returns-clause-refused g c =
    let r = g.T.Texts.relations c.args.texts.now in
    let d = document_in c.args.self.now in
    let m = depth_in c.args.self.now in
    subst
    (λ (n : ℕ). IfErr c.type_within.result (λ f. IsRefusal (refusal_in c.args.self.now) (Refuses r d m n (g.T.Texts.faults c.args.texts.now) (g.T.Texts.faults c.type_within.new.texts) (met_nodes r d m n c.args.at.now (option_map (λ n. n.now) c.args.name))) (fault_view f)))
    c.levels-most.ensures c.type_within.ensures.refused

pub returns-clause-plain_unnoted : goal.returns-clause-plain_unnoted
returns-clause-plain_unnoted g c =
    if_ok_on c.type_within.result _
    (λ i made. schema_unnoted (g.T.Texts.relations c.args.texts.now) (document_in c.args.self.now) (depth_in c.args.self.now) c.levels-most.result c.args.at.now (option_map (λ n. n.now) c.args.name) c.args.self.now c.type_within.new.self (id_view i) made)
    c.type_within.ensures.added

pub returns-clause-plain_refused : goal.returns-clause-plain_refused
returns-clause-plain_refused g c =
    let r = g.T.Texts.relations c.args.texts.now in
    let d = document_in c.args.self.now in
    let m = depth_in c.args.self.now in
    let before = g.T.Texts.faults c.args.texts.now in
    let after = g.T.Texts.faults c.type_within.new.texts in
    let name = option_map (λ n. n.now) c.args.name in
    subst (λ (n : ℕ). IfErr c.type_within.result (λ f. IsPlainAt d m c.args.at.now → IsRefusedPlainly (refusal_in c.args.self.now) before after (added_nodes r d m n c.args.at.now name) (fault_view f))) c.levels-most.ensures
    (if_err_mapped c.type_within.result _ _ (λ f k. schema_plainly r d m c.levels-most.result c.args.at.now name (refusal_in c.args.self.now) before after (fault_view f) k) c.type_within.ensures.refused)
