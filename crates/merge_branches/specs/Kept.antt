-- What becomes of the members of anyOf and oneOf, as the program holds it.
use Rattle.std.specs.Prelude.{◌++◌, ◌||◌, Bool, ℕ, List, [], ◌∷◌, map, take, drop, if◌then◌else◌}
use Rattle.schema_defs.specs.Schema.{Schema, Document, MaybeSchemas, no_list, the_list, schema_list}
use Rattle.schema_types.specs.View.{schema_view}
use Rattle.enum_defs.specs.Exclusive.{exclusive}
use Rattle.merge_defs.specs.Outcome.{Outcome, answer, and_then, mapped}
use Rattle.merge_defs.specs.Alike.{roughly}
use Rattle.merge_defs.specs.Members as defs
use Rattle.merge_defs.specs.Members.{any_of, one_of, as_body, as_member, joined, joint, out, left, fates, finish_any, finish_one, loses, lost_sizes}
use Rattle.merge_branches.specs.declared.kept.As.{As}
use Rattle.merge_branches.specs.declared.kept.As.TheVariants.{Body, Member, Joined}
use Rattle.merge_branches.specs.declared.kept.Left.{Left}
use Rattle.merge_branches.specs.declared.kept.Fate.{Fate}
use Rattle.merge_branches.specs.declared.kept.Fate.TheVariants.{Out, Stays}
use Rattle.merge_branches.specs.declared.kept.Kept.{Kept}
use Rattle.merge_branches.specs.declared.branch.Branch.{Branch}
use Rattle.merge_branches.specs.declared.branch.Branch.TheVariants.{Any, One}

abbrev pub as_view : As → defs.As
as_view Body = as_body
as_view Member = as_member
as_view Joined = joined

abbrev pub left_view : Left → defs.Left
left_view l = record { how = as_view l.how; wider = l.is_wider; schema = schema_view l.schema }

abbrev pub fate_view : Fate → defs.Fate
fate_view (Out b) = out b
fate_view (Stays l) = left (left_view l)

abbrev pub kept_view : Kept → defs.Kept
kept_view k = record { members = map left_view k.members.items; lost = k.is_lost }

-- a body or member that stands for its merge, where it is known whether the merge widens
abbrev pub stands_so : defs.As → Schema → Schema → Bool → Outcome defs.Fate
stands_so how s merge wide = answer (lost_sizes (loses merge s)) (left (record { how = how; wider = loses merge s || wide; schema = s }))

-- what becomes of a member that has a merge with the body, where it is known whether the merge widens
abbrev pub fate_so : Schema → Schema → List Schema → Schema → Bool → Outcome defs.Fate
fate_so body m others merge wide =
    if roughly merge body then stands_so as_body body merge wide
    else if roughly merge m then stands_so as_member m merge wide
    else answer [] (left (record { how = joined; wider = wide; schema = joint body m others }))

-- one more, behind those that were kept before
abbrev pub kept_with : defs.Kept → defs.Fate → defs.Kept
kept_with k (out b) = record k { lost = k.lost || b }
kept_with k (left l) = record k { members = k.members ++ l ∷ [] }

-- those that were kept before
abbrev pub after_kept : defs.Kept → defs.Kept → defs.Kept
after_kept k l = record { members = k.members ++ l.members; lost = k.lost || l.lost }

-- what becomes of the members from a place on, behind those that were kept before
abbrev pub fates_from : (Schema → Schema → Outcome Schema) → Schema → List Schema → ℕ → defs.Kept → Outcome defs.Kept
fates_from join body ms n k = mapped (after_kept k) (fates join body (take n ms) (drop n ms))

-- anyOf or oneOf
abbrev pub branch_of : Branch → List Schema → Schema
branch_of Any = any_of
branch_of One = one_of

abbrev pub finish_of : Document → Branch → List Schema → defs.Kept → Outcome Schema
finish_of d Any ss k = finish_any (exclusive d ss) k
finish_of d One ss k = finish_one (exclusive d ss) k

abbrev pub branches_outcome : Document → (Schema → Schema → Outcome Schema) → Branch → MaybeSchemas → Schema → Outcome Schema
branches_outcome d join b no_list body = answer [] body
branches_outcome d join b (the_list ss) body = and_then (fates join body [] (schema_list ss)) (finish_of d b (schema_list ss))
