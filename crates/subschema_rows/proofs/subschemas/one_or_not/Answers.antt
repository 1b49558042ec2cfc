use Rattle.std.proofs.Common.{◌≡◌, List, [], option_map, sym, ap, ◌∙◌}
use Rattle.std.specs.Prelude.{string_bytes}
use Rattle.schema_defs.specs.Schema.{schemas, the_list}
use Rattle.schema_tree.specs.Document.{view}
use Rattle.schema_types.specs.View.{schemas_view, subschemas_view, maybe_list_view}
use Rattle.convert_defs.specs.Standing.{words_or}
use Rattle.row_findings.specs.View.{finding_view}
use Rattle.subschema_rows.specs.Only.{by_one, by_not, one_in, none_in}
use Rattle.subschema_rows.proofs.SubschemaViews.{one_there, one_crowded, subschemas_seen}
use Rattle.subschema_rows.proofs.subschemas.one_or_not.Goals as goal

pub returns-then-not-is_one_alone : goal.returns-then-not-is_one_alone
returns-then-not-is_one_alone c =
    let d = view c.args.document.now in
    let name = words_or (option_map (λ t. string_bytes t.now) c.args.title) [] in
    let s = subschemas_view c.args.subschemas.now in
    λ r. one_crowded d name (one_in s) (none_in s) (schemas (schemas_view c.in-Some.list.now.items)) c.is_one_alone.result c.in-Some.ensures c.is_one_alone.ensures c.if-not-is_one_alone.true

pub returns-in_ok-finding-in-Some : goal.returns-in_ok-finding-in-Some
returns-in_ok-finding-in-Some c =
    let d = view c.args.document.now in
    let name = words_or (option_map (λ t. string_bytes t.now) c.args.title) [] in
    let s = subschemas_view c.args.subschemas.now in
    λ r.
    one_there d name (one_in s) (none_in s) (schemas (schemas_view c.in-Some.list.now.items)) c.is_one_alone.result (finding_view r c.in_ok-finding-in-Some.finding)
    c.in-Some.ensures c.is_one_alone.ensures c.if-not-is_one_alone.false (c.in_ok-finding-in-Some.ensures r name)

pub returns-in_ok-found-in-None : goal.returns-in_ok-found-in-None
returns-in_ok-found-in-None c =
    let d = view c.args.document.now in
    let name = words_or (option_map (λ t. string_bytes t.now) c.args.title) [] in
    let s = subschemas_view c.args.subschemas.now in
    λ r.
    c.in_ok-found-in-None.ensures r d
    ∙ ap (by_not d name) (sym (ap none_in (subschemas_seen c.args.subschemas.now)))
    ∙ ap (λ a. by_one d name a (none_in s)) c.in-None.ensures
