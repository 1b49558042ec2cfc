use Rattle.std.proofs.Common.{◌≡◌, ◌++◌, map, ap, ◌∙◌}
use Rattle.convert_defs.specs.Row.{here, widened, narrowed, integer_note}
use Rattle.convert_defs.specs.IntegerRow.{note_if}
use Rattle.entry_types.specs.View.{integer_view}
use Rattle.row_findings.specs.Given.{plain_view}
use Rattle.row_findings.specs.View.{note_view}
use Rattle.integer_rows.proofs.Whole.{IsKept, row-is}
use Rattle.integer_rows.proofs.integer.integer_finding.Goals as goal

pub returns : goal.returns
returns c =
    let p = plain_view c.args.keywords.now in
    let g = c.given_in-given.result in
    let k : IsKept p g.multiple g.coarse g.least g.greatest g.format = record {
      multiple_is = c.given_in-given.ensures.multiple;
      coarse_is = c.given_in-given.ensures.coarse;
      least_is = c.given_in-given.ensures.least;
      greatest_is = c.given_in-given.ensures.greatest;
      format_is = c.given_in-given.ensures.format;
    } in
    λ r.
    c.noted.ensures r
    ∙ row-is p g.multiple g.coarse g.least g.greatest g.format k (integer_view c.chosen-name.result)
    (map note_view c.new.result.items) (map note_view c.in_ok-widened.widened.items) (map note_view c.in_ok-notes.notes.items)
    c.chosen-name.ensures (ap (map note_view) c.new.ensures.items)
    (c.in_ok-widened.ensures ∙ ap (λ b. map note_view c.new.result.items ++ note_if b (here widened integer_note)) c.is_widened.ensures)
    (c.in_ok-notes.ensures ∙ ap (λ b. map note_view c.in_ok-widened.widened.items ++ note_if b (here narrowed integer_note)) c.is_narrowed.ensures)
