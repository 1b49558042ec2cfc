use Rattle.std.proofs.Common.{sym, ◌∙◌}
use Rattle.convert_defs.specs.Values.{inner_of}
use Rattle.tree_types.specs.View.{tree_view}
use Rattle.row_findings.specs.View.{row_view, rule_view}
use Rattle.convert_trees.specs.Keeping.{values_view}
use Rattle.convert_trees.proofs.Ruled.{if_ok_mapped, none_unread, rule_unread}
use Rattle.convert_trees.proofs.unread.unread_listed.Goals as goal

pub returns-in-Some-clause-found : goal.returns-in-Some-clause-found
returns-in-Some-clause-found g c =
    let r = g.T.Texts.relations c.args.texts.now in
    let w = row_view r c.args.row.now in
    let k = (values_view c.args.values.now).known in
    if_ok_mapped c.unread_in.result _ _
    (λ o h. h ∙ rule_unread r k w (rule_view c.in-Some.rule) (sym (c.in-Some.ensures r)) (tree_view c.args.tree.now) (tree_view c.held.result.now) c.held.ensures) c.unread_in.ensures.found

pub returns-in-None-clause-found : goal.returns-in-None-clause-found
returns-in-None-clause-found g c =
    let r = g.T.Texts.relations c.args.texts.now in
    let w = row_view r c.args.row.now in
    let k = (values_view c.args.values.now).known in
    none_unread r k w (sym (c.in-None.ensures r)) (inner_of (tree_view c.args.tree.now))
