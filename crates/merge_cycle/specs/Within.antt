-- Merges and subtractions with so many levels left, as the cycle of calls asks for them.
use Rattle.std.specs.Prelude.{ℕ, ◌&&◌, not, [], Bool, true, false, Option, Some, None}
use Rattle.json_value.specs.Value.{null}
use Rattle.schema_defs.specs.Schema.{Schema, Schemas, no_more, schema, Document}
use Rattle.schema_defs.specs.Admits.{counts_as_absent}
use Rattle.schema_types.specs.DocumentView.{document_view}
use Rattle.merge_defs.specs.Outcome.{Outcome, answer, and_then}
use Rattle.merge_walks.specs.Carried.{Walk}
use Rattle.merge_walks.specs.Made.{on_made}
use Rattle.merge_walks.specs.Walked.{parts_within}
use Rattle.merge_apart.specs.Aside.{Aside, merges_apart}
use Rattle.merge_cycle.specs.declared.how.How.{How}
use Rattle.merge_cycle.specs.declared.how.How.TheVariants.{Join, Less}
use Rattle.merge_cycle.specs.declared.how.Scope.{Scope}

-- unfolded where a level is entered alone
unfoldable pub join_within : Document → ℕ → ℕ → Schema → Schema → Outcome Schema
join_within d most n = (parts_within d most n).join

unfoldable pub less_within : Document → ℕ → ℕ → Schema → Schema → Outcome Schema
less_within d most n = (parts_within d most n).less

abbrev pub within : Document → ℕ → ℕ → How → Schema → Schema → Outcome Schema
within d most n Join = join_within d most n
within d most n Less = less_within d most n

-- where members are merged on a walk, both sides may have been made on the way
abbrev pub on_walks : Option Walk → (Schema → Schema → Outcome Schema) → Schema → Schema → Outcome Schema
on_walks None f = f
on_walks (Some w) f = on_made w f

unfoldable pub asked : Document → ℕ → ℕ → Option Walk → How → Schema → Schema → Outcome Schema
asked d most n o h = on_walks o (within d most n h)

-- one after another: `with_each`, `less_each` and `merge_from` all are this
abbrev pub folded : (Schema → Schema → Outcome Schema) → Schemas → Schema → Outcome Schema
folded f no_more s = answer [] s
folded f (schema t ts) s = and_then (f s t) (folded f ts)

-- ---- as a call asks for them

abbrev pub document_in : Scope → Document
document_in s = document_view s.document.now

abbrev pub join_in : Scope → ℕ → Schema → Schema → Outcome Schema
join_in s n = join_within (document_in s) s.most n

abbrev pub less_in : Scope → ℕ → Schema → Schema → Outcome Schema
less_in s n = less_within (document_in s) s.most n

abbrev pub asked_in : Scope → ℕ → Option Walk → How → Schema → Schema → Outcome Schema
asked_in s n o h = asked (document_in s) s.most n o h

-- ---- what stands aside while several are merged

abbrev pub joins : How → Bool
joins Join = true
joins Less = false

-- they are merged, and null stands for no absent member
abbrev pub keeps_aside : Document → How → Bool
keeps_aside d h = joins h && not (counts_as_absent d.setting null)

-- besides, the schemas may be merged without what stands aside
abbrev pub merges_beside : Document → How → Aside → Schema → Schema → Bool
merges_beside d h a s t = keeps_aside d h && merges_apart a s t
