use Rattle.std.specs.Prelude.{filter, not, option_map}
use Rattle.std.proofs.Common.{sym, ap, ◌∙◌}
use Rattle.schema_defs.specs.Texts.{Relations}
use Rattle.json_value.specs.View.{kept_view as value_kept}
use Rattle.convert_defs.specs.Owners.{default_of}
use Rattle.row_findings.specs.Given.{source_view}
use Rattle.row_findings.specs.View.{row_view}
use Rattle.tree_types.specs.View.{tree_view}
use Rattle.listed_reading.specs.Unread.{first_of as first_value}
use Rattle.convert_trees.specs.Keeping.{values_view}
use Rattle.convert_trees.specs.Unread.{is_given, stated_default}
use Rattle.convert_trees.proofs.Ends.{none_from}
use Rattle.convert_trees.proofs.Ruled.{first_default, first_listed, if_err_mapped, if_ok_mapped}
use Rattle.convert_trees.proofs.unread.unread_value.Goals as goal

pub returns-in-Some-clause-found : goal.returns-in-Some-clause-found
returns-in-Some-clause-found g c =
    first_listed _ _ (value_kept c.in-Some.value.now) (ap (option_map (λ v. value_kept v.now)) (sym c.in-Some.is) ∙ c.in_ok-value.ensures.found)

pub returns-in-None-clause-found : goal.returns-in-None-clause-found
returns-in-None-clause-found g c =
    let s = source_view c.args.source.now in
    let e = tree_view c.args.tree.now in
    let k = (values_view c.args.values.now).known in
    if_ok_mapped c.unread_default.result _ _
    (λ o h. first_default _ _ _ (ap (option_map (λ v. value_kept v.now)) (sym c.in-None.is) ∙ c.in_ok-value.ensures.found)
    (ap (λ (r : Relations). first_value (filter (λ v. not (is_given r k s (row_view r c.args.row.now) e v)) (stated_default (default_of s)))) (sym c.in_ok-value.ensures.keeps) ∙ h))
    c.unread_default.ensures.found

pub returns-in-None-clause-refused : goal.returns-in-None-clause-refused
returns-in-None-clause-refused g c =
    if_err_mapped c.unread_default.result _ _ (λ f h. none_from _ _ _ _ _ c.in_ok-value.ensures.counts h) c.unread_default.ensures.refused
