use Rattle.std.proofs.Common.{option_map}
use Rattle.schema_tree.specs.Fault.{FaultD, fault_view}
use Rattle.convert_document.specs.Told.{Refuses}
use Rattle.convert_document.proofs.Ends.{if_err}
use Rattle.typify_convert.specs.Space.{document_in, depth_in}
use Rattle.typify_convert.specs.Added.{met_nodes}
use Rattle.typify_convert.proofs.Refusals.{told_again, kept_cause}
use Rattle.typify_convert.proofs.space.TypeSpace.type_within.Goals as goal

pub returns-in_err-check-clause-refused : goal.returns-in_err-check-clause-refused
returns-in_err-check-clause-refused g c =
    if_err c.from_residual.result c.in_err-check.field-0.0 _ c.from_residual.ensures.1 (told_again _ _ _ c.in_err-check.ensures.told)

pub returns-in-Err-clause-refused : goal.returns-in-Err-clause-refused
returns-in-Err-clause-refused g c =
    let r = g.T.Texts.relations c.args.texts.now in
    let d = document_in c.args.self.now in
    let m = depth_in c.args.self.now in
    let at = c.args.at.now in
    kept_cause _ (λ (f : FaultD). Refuses r d m c.args.levels (g.T.Texts.faults c.args.texts.now) (g.T.Texts.faults c.add_schema.new.texts) (met_nodes r d m c.args.levels at (option_map (λ n. n.now) c.args.name)) f) (fault_view c.in-Err.fault) _
    c.in_ok-check.ensures.before c.in-Err.ensures.refused c.keep.ensures.told
