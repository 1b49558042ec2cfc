use Rattle.std.proofs.Common.{List, ◌++◌, string_bytes, sym, ap, ◌∙◌}
use Rattle.std.specs.List.{flat_map}
use Rattle.serde_json.specs.View.{view, members_view}
use Rattle.serde_json.proofs.Views.{view-Object}
use Rattle.json_value.specs.View.{value_of, members_of}
use Rattle.passed_keywords.specs.Passed.{passed_at, passed_line}
use Rattle.passed_keywords.proofs.Behind.{names_of_a_schema}
use Rattle.passed_keywords.proofs.lines.push_here.Goals as goal

pub returns-in_ok-push_names-in-Object : goal.returns-in_ok-push_names-in-Object
returns-in_ok-push_names-in-Object c = λ b k.
    let l = c.args.place.now in
    let ms = members_of (members_view c.in-Object.members.entries) in
    c.in_ok-push_names-in-Object.ensures
    ∙ ap (λ o. string_bytes c.args.out.now ++ o) (names_of_a_schema ms l c.passed_over-names.result.now c.passed_over-names.ensures ∙ sym (ap (λ v. flat_map (λ n. passed_line (l, n)) (passed_at b k (value_of v))) (ap view c.in-Object.is ∙ view-Object c.in-Object.members)))
