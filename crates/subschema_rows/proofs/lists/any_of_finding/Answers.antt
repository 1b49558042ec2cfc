use Rattle.std.proofs.Common.{◌≡◌, [], option_map, ◌∙◌}
use Rattle.std.specs.Prelude.{string_bytes}
use Rattle.schema_tree.specs.Document.{view}
use Rattle.convert_defs.specs.Standing.{words_or}
use Rattle.subschema_rows.proofs.Members.{any_none, any_some}
use Rattle.subschema_rows.proofs.lists.any_of_finding.Goals as goal

pub returns-in-None : goal.returns-in-None
returns-in-None c =
    let name = words_or (option_map (λ t. string_bytes t.now) c.args.title) [] in
    λ r. c.plainly.ensures r ∙ any_none (view c.args.document.now) name c.args.members.now c.in-None.ensures.cases

pub returns-in_ok-finding-in-Some : goal.returns-in_ok-finding-in-Some
returns-in_ok-finding-in-Some c =
    let name = words_or (option_map (λ t. string_bytes t.now) c.args.title) [] in
    λ r. c.in_ok-finding-in-Some.ensures r name ∙ any_some (view c.args.document.now) name c.args.members.now _ _ c.in-Some.ensures.cases.0
