use Rattle.std.proofs.Common.{◌≡◌, ◌≤◌, ◌+◌, ◌*◌, length, option_map}
use Rattle.schema_defs.specs.Schema.{schemas}
use Rattle.schema_types.specs.DocumentView.{document_view}
use Rattle.schema_types.specs.View.{schema_view, schemas_view, subschemas_view, maybe_list_view, same_of}
use Rattle.enum_defs.specs.Kinds.{meet, join, kinds, kinds_beyond, kinds_meet, kinds_union}
use Rattle.enum_defs.proofs.Weights.{far, weight, same_weight, list_weight, all_weight}
use Rattle.enum_kinds.proofs.kind.+kinds.Given as goal

abbrev pub decreases-kinds_of : goal.decreases-kinds_of
decreases-kinds_of l = 1 + 2 * weight (document_view l.document.now) (schema_view l.schema.now)

abbrev pub decreases-kinds_behind : goal.decreases-kinds_behind
decreases-kinds_behind l = 2 * weight (document_view l.document.now) (schema_view l.schema.now)

abbrev pub decreases-kinds_along : goal.decreases-kinds_along
decreases-kinds_along l = 1 + 2 * weight (document_view l.document.now) (schema_view l.schema.now)

abbrev pub decreases-kinds_here : goal.decreases-kinds_here
decreases-kinds_here l = 2 * weight (document_view l.document.now) (schema_view l.schema.now)

abbrev pub decreases-kinds_of_subschemas : goal.decreases-kinds_of_subschemas
decreases-kinds_of_subschemas l = 2 * same_weight (far (document_view l.document.now)) (same_of (option_map subschemas_view l.subschemas.now))

abbrev pub decreases-kinds_of_all : goal.decreases-kinds_of_all
decreases-kinds_of_all l = 2 * list_weight (far (document_view l.document.now)) (maybe_list_view (option_map (λ v. v.items) l.schemas.now))

abbrev pub decreases-kinds_of_some : goal.decreases-kinds_of_some
decreases-kinds_of_some l = 2 * list_weight (far (document_view l.document.now)) (maybe_list_view (option_map (λ v. v.items) l.schemas.now))

abbrev pub decreases-meet_of : goal.decreases-meet_of
decreases-meet_of l = 3 + 2 * all_weight (far (document_view l.document.now)) (schemas (schemas_view l.list.now.items))

abbrev pub decreases-union_of : goal.decreases-union_of
decreases-union_of l = 3 + 2 * all_weight (far (document_view l.document.now)) (schemas (schemas_view l.list.now.items))

abbrev pub invariant-kinds_along-references : goal.invariant-kinds_along-references
invariant-kinds_along-references l =
    let d = document_view l.document in
    record {
      same : meet l.kinds (kinds d (schema_view l.at)) ≡ kinds d (schema_view l.schema);
      lighter : weight d (schema_view l.at) ≤ weight d (schema_view l.schema);
      asked : l.asked.document.now ≡ l.document;
    }

abbrev pub decreases-kinds_along-references : goal.decreases-kinds_along-references
decreases-kinds_along-references l = weight (document_view l.document) (schema_view l.at)

abbrev pub invariant-meet_of-members : goal.invariant-meet_of-members
invariant-meet_of-members l =
    let refer = kinds_beyond (document_view l.document) in
    let far' = far (document_view l.document) in
    record {
      same : meet l.kinds (kinds_meet refer (schemas (schemas_view l.left))) ≡ kinds_meet refer (schemas (schemas_view l.list.items));
      lighter : all_weight far' (schemas (schemas_view l.left)) ≤ all_weight far' (schemas (schemas_view l.list.items));
      asked : l.asked.document.now ≡ l.document;
    }

abbrev pub decreases-meet_of-members : goal.decreases-meet_of-members
decreases-meet_of-members l = length l.left

abbrev pub invariant-union_of-members : goal.invariant-union_of-members
invariant-union_of-members l =
    let refer = kinds_beyond (document_view l.document) in
    let far' = far (document_view l.document) in
    record {
      same : join l.kinds (kinds_union refer (schemas (schemas_view l.left))) ≡ kinds_union refer (schemas (schemas_view l.list.items));
      lighter : all_weight far' (schemas (schemas_view l.left)) ≤ all_weight far' (schemas (schemas_view l.list.items));
      asked : l.asked.document.now ≡ l.document;
    }

abbrev pub decreases-union_of-members : goal.decreases-union_of-members
decreases-union_of-members l = length l.left
