-- Merges by walks written short for the worked examples: documents are JSON values, read.
use Rattle.std.specs.Prelude.{◌≡◌, ℕ, List, [], Bool, true, Option, Some, None, false, unwrap_or, option_and_then, option_map}
use Rattle.json_value.specs.Value.{Value}
use Rattle.schema_defs.specs.declared.Setting.TheVariants.{Strict}
use Rattle.schema_defs.specs.Location.{Location}
use Rattle.schema_defs.specs.Schema.{Schema, boolean, object, Same, same_value, the_list, Schemas, no_more, Document}
use Rattle.schema_defs.specs.Children.{along, at_schema, node_schema}
use Rattle.schema_defs.specs.Mapped.{mapped, unwalked}
use Rattle.schema_defs.specs.Read.{document_of, make_document}
use Rattle.merge_defs.specs.Outcome.{Outcome, fault, answer, Note, depth}
use Rattle.merge_defs.specs.Samples.{read}
use Rattle.merge_walks.specs.Carried.{Walk, root_walk, last_of, is_made, unmarked, same_inside}
use Rattle.merge_walks.specs.Walked.{merge_by_walks}
use Rattle.merge_walks.specs.Told.{Told, merge_all_told}

abbrev pub document : Value → Document
document v = unwrap_or (document_of Strict v) (make_document Strict (boolean true) [])

abbrev pub all_of : Same → Schemas
all_of (same_value (the_list ss) any one none c) = ss
all_of _ = no_more

-- the members of allOf of a schema at the root, on their walks
abbrev pub members : Schema → Schemas
members (boolean b) = no_more
members (object p ss ls ns) = all_of (same_inside root_walk ss)

-- the merge of the members of the root's allOf; no example needs more levels
abbrev pub merged_root : ℕ → Value → Outcome Schema
merged_root most v = merge_by_walks (document v) most 24 (members (document v).root)

abbrev pub told_of_root : ℕ → Value → Told
told_of_root most v = merge_all_told (document v) most 24 (members (document v).root)

-- it is refused with that walk
abbrev pub IsDeep : ℕ → Value → Walk → Type 0
IsDeep most v w = merged_root most v ≡ fault (depth w)

-- the last location of the walk with which it is refused
abbrev pub deep_place : Outcome Schema → Option Location
deep_place (fault (depth w)) = Some (last_of w)
deep_place _ = None

abbrev pub IsDeepAt : ℕ → Value → Location → Type 0
IsDeepAt most v l = deep_place (merged_root most v) ≡ Some l

-- what is answered, walks aside
abbrev pub bare_answer : Outcome Schema → Outcome Schema
bare_answer (answer ns s) = answer ns (mapped unwalked s)
bare_answer o = o

abbrev pub Makes : ℕ → Value → List Note → Value → Type 0
Makes most v ns c = bare_answer (merged_root most v) ≡ answer ns (read c)

abbrev pub walk_in : Schema → Option Walk
walk_in (boolean b) = None
walk_in (object p ss ls ns) = p.walk

abbrev pub answer_of : Outcome Schema → Option Schema
answer_of (answer ns s) = Some s
answer_of _ = None

abbrev pub schema_below : Location → Schema → Option Schema
schema_below l s = option_and_then node_schema (along l (at_schema s))

-- the walk of the schema so many steps inside the answer
abbrev pub walk_below : ℕ → Value → Location → Option Walk
walk_below most v l = option_and_then walk_in (option_and_then (schema_below l) (answer_of (merged_root most v)))

-- it is that, and the schema was made, or taken over
abbrev pub Carries : Bool → ℕ → Value → Location → Walk → Type 0
Carries made most v l w = (option_map unmarked (walk_below most v l) ≡ Some w) × (option_map is_made (walk_below most v l) ≡ Some made)

abbrev pub IsMade : ℕ → Value → Location → Walk → Type 0
IsMade = Carries true

abbrev pub IsTakenOver : ℕ → Value → Location → Walk → Type 0
IsTakenOver = Carries false
