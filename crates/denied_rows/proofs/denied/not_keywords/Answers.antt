use Rattle.std.proofs.Common.{rules, ◌≡◌, [], Some, option_map, sym, ap, ◌∙◌}
use Rattle.std.specs.Prelude.{string_bytes}
use Rattle.convert_defs.specs.Standing.{words_or}
use Rattle.row_findings.specs.Given.{plain_view, same_view, lists_view, named_view, given_values_view}
use Rattle.denied_rows.proofs.UnderNot.{listed_seen}
use Rattle.denied_rows.proofs.denied.not_keywords.Goals as goal

pub returns-in_ok-finding-in-Some : goal.returns-in_ok-finding-in-Some
returns-in_ok-finding-in-Some c =
    let k = c.args.keywords.now in
    let name = words_or (option_map (λ t. string_bytes t.now) c.args.title) [] in
    let e : option_map given_values_view c.args.keywords.now.enum_values ≡ Some (given_values_view c.in-Some.values) = search rules in
    λ r.
    c.in_ok-finding-in-Some.ensures r
    ∙ sym (listed_seen name (plain_view k) (same_view k) (lists_view k) (named_view k) (given_values_view c.in-Some.values) (sym c.takes_all.ensures ∙ c.if-takes_all.false) e)
