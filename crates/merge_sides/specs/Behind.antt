-- What comes behind the leaves of two objects.
use Rattle.std.specs.Prelude.{Bool}
use Rattle.schema_defs.specs.declared.InstanceType.TheVariants.{Object, Array}
use Rattle.schema_defs.specs.Schema.{Schema, Same, Lists, Named, Document}
use Rattle.merge_defs.specs.Outcome.{Outcome, and_then, mapped}
use Rattle.merge_defs.specs.Leaves.{is_only}
use Rattle.merge_defs.specs.Arrays.{two_lists_parts}
use Rattle.merge_defs.specs.Objects.{two_named}
use Rattle.merge_defs.specs.Members.{with_same}
use Rattle.merge_defs.specs.Merge.{tidied}
use Rattle.merge_walks.specs.Carried.{Walk}
use Rattle.merge_walks.specs.Made.{on_made, settled}
use Rattle.schema_sameness.specs.Parts.{same_in, lists_in, named_in}
use Rattle.merge_sides.specs.Leaves.{LeavesOf}
use Rattle.merge_sides.specs.Met.{body_outcome}

-- lists, members and listed values of both, then the subschemas of both sides, all on one walk
abbrev pub behind_by : Document → (Schema → Schema → Outcome Schema) → (Schema → Schema → Outcome Schema) → Walk → Bool → Bool → Bool → Same → Lists → Named → Same → Lists → Named → LeavesOf → Outcome Schema
behind_by d join less w nulls is_array is_object ss ls ns tt' ms os l =
    mapped (settled w)
    (and_then (two_lists_parts (on_made w join) is_array ls ms) (λ lists.
    and_then (two_named (on_made w join) nulls is_object ns os) (λ named.
    and_then (body_outcome l lists named) (λ b.
    and_then (with_same d (on_made w join) (on_made w less) ss b) (λ b'.
    mapped tidied (with_same d (on_made w join) (on_made w less) tt' b'))))))

-- where the merged type says what is an array and what an object
abbrev pub behind : Document → (Schema → Schema → Outcome Schema) → (Schema → Schema → Outcome Schema) → Walk → Bool → Same → Lists → Named → Same → Lists → Named → LeavesOf → Outcome Schema
behind d join less w nulls ss ls ns tt' ms os l = behind_by d join less w nulls (is_only Array l.types) (is_only Object l.types) ss ls ns tt' ms os l

-- of two objects of keywords
abbrev pub behind_two : Document → (Schema → Schema → Outcome Schema) → (Schema → Schema → Outcome Schema) → Walk → Bool → Schema → Schema → LeavesOf → Outcome Schema
behind_two d join less w nulls s t = behind d join less w nulls (same_in s) (lists_in s) (named_in s) (same_in t) (lists_in t) (named_in t)
