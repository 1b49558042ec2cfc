use Rattle.std.proofs.Common.{◌+◌, drop, option_map, sym, ap, ◌∙◌}
use Rattle.std.proofs.lemmas.List.{at_drop_more, at_drop_all}
use Rattle.schema_tree.specs.Document.{view}
use Rattle.type_rows.specs.Line.{held_view}
use Rattle.row_table.specs.Lines.{first_of}
use Rattle.row_table.proofs.Found.{taken, passed}
use Rattle.row_table.proofs.line.first_of.Goals as goal

pub returns-in-Some : goal.returns-in-Some
returns-in-Some c =
    let d = view c.args.document.now in
    let k = c.args.keywords.now in
    let xs = c.args.lines.now in
    let l = c.loop-line in
    λ r.
    taken _ _ (held_view r c.in-Some.finding) (first_of r d k (drop (l.line-index + 1) xs)) (ap (option_map (held_view r)) (sym c.in-Some.is) ∙ c.in_ok-finding.ensures r)
    ∙ sym (l.invariant r ∙ at_drop_more (first_of r d k) xs l.line-index _ c.loop-line-test.true)

pub loop-line-preserved : goal.loop-line-preserved
loop-line-preserved c =
    let d = view c.args.document.now in
    let k = c.args.keywords.now in
    let xs = c.args.lines.now in
    let l = c.loop-line in
    λ r.
    l.invariant r
    ∙ at_drop_more (first_of r d k) xs l.line-index _ c.loop-line-test.true
    ∙ passed _ _ (first_of r d k (drop (l.line-index + 1) xs)) (ap (option_map (held_view r)) (sym c.in_default.is) ∙ c.in_ok-finding.ensures r)

pub returns : goal.returns
returns c =
    let d = view c.args.document.now in
    let k = c.args.keywords.now in
    let l = c.loop-line in
    λ r. c.in_ok-none.ensures r ∙ c.refused.ensures r ∙ sym (l.invariant r ∙ at_drop_all (first_of r d k) c.args.lines.now l.line-index c.loop-line-test.false)
