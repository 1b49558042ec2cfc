use Rattle.std.proofs.Common.{◌≡◌, Some, option_map, sym, ap, ◌∙◌}
use Rattle.schema_tree.specs.Document.{view}
use Rattle.convert_defs.specs.Row.{add_notes, here, widened, type_note}
use Rattle.std.specs.Prelude.{is_some}
use Rattle.convert_defs.specs.IntegerRow.{note_if}
use Rattle.convert_defs.specs.Scalars.{wanted_of}
use Rattle.convert_defs.specs.Table.{subschema_finding, finding_or, no_others}
use Rattle.row_findings.specs.Given.{plain_view, same_view, lists_view, named_view}
use Rattle.row_findings.specs.View.{finding_view}
use Rattle.row_table.proofs.Found.{found_line, no_line, not_both}
use Rattle.row_table.proofs.subschema.subschema_line.Goals as goal

pub returns-in_ok-held-in-Some : goal.returns-in_ok-held-in-Some
returns-in_ok-held-in-Some c =
    let d = view c.args.document.now in
    let k = c.args.keywords.now in
    let p = plain_view k in
    λ r.
    ap Some (c.in_ok-held-in-Some.ensures r ∙ c.in_ok-noticed-in-Some.ensures r ∙ ap (λ ns. add_notes ns (finding_view r c.in-Some.finding)) c.in_ok-notes-in-Some.ensures)
    ∙ sym (found_line (subschema_finding d (wanted_of p) (same_view k)) (no_others p (lists_view k) (named_view k)) (note_if (is_some p.types) (here widened type_note)) (finding_view r c.in-Some.finding)
    (ap (option_map (finding_view r)) (sym c.in-Some.is) ∙ c.in_ok-finding.ensures r)
    (sym c.if-not-no_others.false ∙ c.no_others.ensures))

pub returns-then-not-no_others : goal.returns-then-not-no_others
returns-then-not-no_others c =
    let k = c.args.keywords.now in
    let p = plain_view k in
    let o = subschema_finding (view c.args.document.now) (wanted_of p) (same_view k) in
    λ r.
    sym (not_both (is_some o) (no_others p (lists_view k) (named_view k)) (add_notes (note_if (is_some p.types) (here widened type_note)) (finding_or o))
    (sym c.no_others.ensures ∙ c.if-not-no_others.true))

pub returns-in-None : goal.returns-in-None
returns-in-None c =
    let k = c.args.keywords.now in
    let p = plain_view k in
    let o = subschema_finding (view c.args.document.now) (wanted_of p) (same_view k) in
    λ r.
    sym (no_line o (no_others p (lists_view k) (named_view k)) (add_notes (note_if (is_some p.types) (here widened type_note)) (finding_or o))
    (ap (option_map (finding_view r)) (sym c.in-None.is) ∙ c.in_ok-finding.ensures r))
