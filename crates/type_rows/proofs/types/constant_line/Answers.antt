use Rattle.std.proofs.Common.{Some, is_some, map, ap, ◌∙◌}
use Rattle.schema_defs.specs.Schema.{object}
use Rattle.convert_defs.specs.Standing.{less_const}
use Rattle.row_findings.specs.Given.{plain_view, same_view, lists_view, named_view, keywords_view}
use Rattle.row_findings.specs.View.{part_view, note_view, finding_view}
use Rattle.type_rows.proofs.Constants.{is_there, constant_found}
use Rattle.type_rows.proofs.types.constant_line.Goals as goal

pub returns : goal.returns
returns c = λ r.
    let k = c.args.keywords.now in
    ap Some (c.in_ok-held.ensures r)
    ∙ constant_found
    (is_some (plain_view k).const_value)
    (finding_view r c.noted.result)
    (map note_view c.new.result.items)
    (map note_view c.in_ok-notes.notes.items)
    (part_view c.in_ok-part.part)
    (keywords_view c.less_const.result)
    (object (less_const (plain_view k)) (same_view k) (lists_view k) (named_view k))
    (is_there _ k.const_value c.is_none.result c.is_none.ensures c.if-is_none.false)
    (c.noted.ensures r)
    c.in_ok-notes.ensures
    (ap (map note_view) c.new.ensures.items)
    c.in_ok-part.ensures
    c.less_const.ensures.whole
