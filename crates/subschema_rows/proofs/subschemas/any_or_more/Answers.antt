use Rattle.std.proofs.Common.{◌≡◌, List, [], option_map, sym, ap, ◌∙◌}
use Rattle.std.specs.Prelude.{string_bytes}
use Rattle.schema_defs.specs.Schema.{schemas, the_list}
use Rattle.schema_tree.specs.Document.{view}
use Rattle.schema_types.specs.View.{schemas_view, subschemas_view, maybe_list_view}
use Rattle.convert_defs.specs.Standing.{words_or}
use Rattle.row_findings.specs.View.{finding_view}
use Rattle.subschema_rows.specs.Only.{by_any, any_in, one_in, none_in}
use Rattle.subschema_rows.proofs.SubschemaViews.{any_there, any_crowded}
use Rattle.subschema_rows.proofs.subschemas.any_or_more.Goals as goal

pub returns-then-not-is_any_alone : goal.returns-then-not-is_any_alone
returns-then-not-is_any_alone c =
    let d = view c.args.document.now in
    let name = words_or (option_map (λ t. string_bytes t.now) c.args.title) [] in
    let s = subschemas_view c.args.subschemas.now in
    λ r. any_crowded d name (any_in s) (one_in s) (none_in s) (schemas (schemas_view c.in-Some.list.now.items)) c.is_any_alone.result c.in-Some.ensures c.is_any_alone.ensures c.if-not-is_any_alone.true

pub returns-in_ok-finding-in-Some : goal.returns-in_ok-finding-in-Some
returns-in_ok-finding-in-Some c =
    let d = view c.args.document.now in
    let name = words_or (option_map (λ t. string_bytes t.now) c.args.title) [] in
    let s = subschemas_view c.args.subschemas.now in
    λ r.
    any_there d name (any_in s) (one_in s) (none_in s) (schemas (schemas_view c.in-Some.list.now.items)) c.is_any_alone.result (finding_view r c.in_ok-finding-in-Some.finding)
    c.in-Some.ensures c.is_any_alone.ensures c.if-not-is_any_alone.false (c.in_ok-finding-in-Some.ensures r)

pub returns-in_ok-found-in-None : goal.returns-in_ok-found-in-None
returns-in_ok-found-in-None c =
    let d = view c.args.document.now in
    let name = words_or (option_map (λ t. string_bytes t.now) c.args.title) [] in
    let s = subschemas_view c.args.subschemas.now in
    λ r. c.in_ok-found-in-None.ensures r ∙ ap (λ a. by_any d name a (one_in s) (none_in s)) c.in-None.ensures
