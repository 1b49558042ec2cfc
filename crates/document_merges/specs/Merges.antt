-- What the rows of a conversion tree merge, in the order of conversion.
use Rattle.std.specs.Prelude.{ℕ, List, [], ◌∷◌, ◌++◌, Option, Some, None, map}
use Rattle.schema_defs.specs.Texts.{Relations}
use Rattle.schema_defs.specs.Schema.{Schema, Document}
use Rattle.convert_defs.specs.Row.{Row}
use Rattle.merge_defs.specs.Outcome.{Note, Fault, depth, unsupported, Outcome, fault, never, answer}
use Rattle.merge_parts.specs.View.{notes_view, unsupported_view}
use Rattle.schema_types.specs.View.{schema_view}
use Rattle.convert_walks.specs.Spot.{Spot, Branches}
use Rattle.convert_walks.specs.Tree.{Standing, instead, State, too_few_levels, too_many_steps, converted, Node, if_merged, merge_of, below, tree_at}
use Rattle.merged_rows.specs.Starts.{spot_of}
use Rattle.document_merges.specs.declared.merge.MergeEnd.{MergeEnd}
use Rattle.document_merges.specs.declared.merge.MergeEnd.TheVariants.{Stands, Deep, Unsupported}
use Rattle.document_merges.specs.declared.merge.Merge.{Merge}

-- what ends it, or its notes with what stands in place of the schema; no name is handed to that
pub data MergeD : Type 0 where
  refused : Fault → MergeD
  stands : List Note → Option Standing → MergeD

abbrev pub unhanded : Standing → Standing
unhanded t = record t { spot = record t.spot { handed = None } }

abbrev pub unhanded_if : Option Standing → Option Standing
unhanded_if None = None
unhanded_if (Some t) = Some (unhanded t)

-- the merge of the row of a schema that stands there
abbrev pub merge_of_row : Spot → Schema → Outcome Schema → MergeD
merge_of_row o s (fault f) = refused f
merge_of_row o s (never ns) = stands ns (unhanded_if (instead o s (never ns)))
merge_of_row o s (answer ns m) = stands ns (unhanded_if (instead o s (answer ns m)))

abbrev pub state_merges : Spot → Schema → State → List MergeD
state_merges o s too_few_levels = []
state_merges o s too_many_steps = []
state_merges o s (converted None) = []
state_merges o s (converted (Some m)) = merge_of_row o s m ∷ []

abbrev pub merges_in : List Node → List MergeD
merges_in [] = []
merges_in (t ∷ ts) = state_merges t.spot t.schema t.state ++ merges_in ts

-- what the row of a schema merges, of which this was found, and what is merged below it, by so many levels
abbrev pub merges_below : Relations → Document → ℕ → ℕ → Spot → Schema → Branches → Row → List MergeD
merges_below r d most n o s ms w =
    state_merges o s (converted (merge_of r d most n o s (if_merged w))) ++ merges_in (below r d most n (λ o s. tree_at r d most n o s) o s ms w (if_merged w))

-- ---- as the program keeps them

abbrev pub end_view : MergeEnd → List Note → MergeD
end_view (Stands t) ns = stands ns (Some (record { spot = spot_of t.start [] None; schema = schema_view t.schema }))
end_view (Deep w) ns = refused (depth w)
end_view (Unsupported u) ns = refused (unsupported (unsupported_view u))

abbrev pub merge_view : Merge → MergeD
merge_view m = end_view m.end (notes_view m.notes.items)

abbrev pub merges_view : List Merge → List MergeD
merges_view ms = map merge_view ms
