-- Subschemas as lists.
use Rattle.std.proofs.Common.{◌≡◌, List, [], Option, option_map, append-nil, refl, sym, ap, ◌∙◌}
use Rattle.schema_defs.specs.Schema.{Schema, no_more, schema, schemas}
use Rattle.schema_types.specs.View.{maybe_list_view, maybe_view, schemas_view, subschemas_view}
use Rattle.schema_types.specs.declared.schema.Schema as tree
use Rattle.schema_types.specs.declared.schema.Subschemas.{Subschemas, out-Subschemas}
use Rattle.merge_defs.specs.Outcome.{Outcome, fault, never, answer, and_then}
use Rattle.merge_defs.specs.Less.{less_all, less_any, less_each, less_not, less_same, merge_from}
use Rattle.merge_walked.proofs.Subschemas.{subschemas_seen}
use Rattle.merge_less.specs.declared.taking.Listed.{Listed}
use Rattle.merge_less.specs.Taking.{less_all_outcome, parts_outcome}

then_nothing : {A : Type 0} (o : Outcome A) → and_then o (λ a. answer [] a) ≡ o
then_nothing (fault f) = refl
then_nothing (never ns) = refl
then_nothing (answer ns a) = ap (λ ms. answer ms a) (append-nil ns)

-- of one schema its merge
pub from_one : (join less : Schema → Schema → Outcome Schema) (s t : Schema) → merge_from join less s (schema t no_more) ≡ join s t
from_one join less s t = then_nothing (join s t)

pub parts_seen : (join less : Schema → Schema → Outcome Schema) (x : Subschemas) (any none : List tree.Schema) (all : Option Listed) (s : Schema)
    → ((t : Schema) → less_each join less (schemas (schemas_view any)) t ≡ less_any join less (maybe_list_view (option_map (λ v. v.items) (out-Subschemas x).any_of)) t)
    → ((t : Schema) → merge_from join less t (schemas (schemas_view none)) ≡ less_not join less (maybe_view (out-Subschemas x).not) t)
    → ((t : Schema) → less_all_outcome join less all t ≡ less_all join less (maybe_list_view (option_map (λ v. v.items) (out-Subschemas x).all_of)) t)
    → parts_outcome join less any none all s ≡ less_same join less (subschemas_view x) s
parts_seen join less x any none all s ha hn hl =
    (λ i. and_then (ha s i) (λ t. and_then (hn t i) (λ u. hl u i))) ∙ ap (λ y. less_same join less y s) (sym (subschemas_seen x))
