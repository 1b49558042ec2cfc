-- Merging a body with the subschemas of a side: allOf, not, anyOf, oneOf.
use Rattle.std.specs.Prelude.{◌&&◌, ◌||◌, not, List, [], ◌∷◌, ◌++◌, Bool, true, false, nat_le, length, if◌then◌else◌}
use Rattle.std.specs.List.{list_any, list_all}
use Rattle.schema_defs.specs.Schema.{Schema, object, Same, no_same, same_value, no_lists, no_named, MaybeSchema, no_schema, the_schema, MaybeSchemas, no_list, the_list, Schemas, no_more, schema, schema_list, schemas, Document}
use Rattle.merge_defs.specs.Outcome.{Outcome, answer, never, fault, Note, narrowed, widened, less_than, more_than, of_reference, of_members, has_way, and_then, noted, note_if, mapped, unsupported, conditional, any_one}
use Rattle.merge_defs.specs.Alike.{roughly, wholly}
use Rattle.enum_defs.specs.Exclusive.{exclusive}
use Rattle.merge_defs.specs.Objects.{no_plain}

abbrev pub only_same : Same → Schema
only_same ss = object no_plain ss no_lists no_named

abbrev pub negation : Schema → Schema
negation s = only_same (same_value no_list no_list no_list (the_schema s) false)

abbrev pub all_of : List Schema → Schema
all_of ss = only_same (same_value (the_list (schemas ss)) no_list no_list no_schema false)

abbrev pub any_of : List Schema → Schema
any_of ss = only_same (same_value no_list (the_list (schemas ss)) no_list no_schema false)

abbrev pub one_of : List Schema → Schema
one_of ss = only_same (same_value no_list no_list (the_list (schemas ss)) no_schema false)

abbrev pub negations : List Schema → List Schema
negations [] = []
negations (s ∷ ss) = negation s ∷ negations ss

-- ---- one member

-- what a member is answered as
pub data As : Type 0 where
  as_body : As
  as_member : As
  joined : As

-- `wider` says that its merge has a Widened note, or that a size or the like was lost
pub record Left : Type 0 where
  pub how : As
  pub wider : Bool
  pub schema : Schema

-- a member that was left out, by a merge with a Narrowed note or by one without; or one that is left
pub data Fate : Type 0 where
  out : Bool → Fate
  left : Left → Fate

-- a reference, body or member that stands for its merge, and differs in a keyword of lists
abbrev pub loses : Schema → Schema → Bool
loses merge s = not (wholly merge s)

abbrev pub lost_sizes : Bool → List Note
lost_sizes b = note_if b (more_than of_reference ∷ [])

abbrev pub stands_for : As → Schema → Schema → List Note → Outcome Fate
stands_for how s merge ns = noted ns (answer (lost_sizes (loses merge s)) (left (record { how = how; wider = loses merge s || has_way widened ns; schema = s })))

abbrev pub joint : Schema → Schema → List Schema → Schema
joint body m others = all_of (body ∷ m ∷ negations others)

abbrev pub fate : Schema → Schema → List Schema → Outcome Schema → Outcome Fate
fate body m others (fault f) = fault f
fate body m others (never ns) = answer ns (out (has_way narrowed ns))
fate body m others (answer ns merge) =
    if roughly merge body then stands_for as_body body merge ns
    else if roughly merge m then stands_for as_member m merge ns
    else answer ns (left (record { how = joined; wider = has_way widened ns; schema = joint body m others }))

-- ---- all members

pub record Kept : Type 0 where
  pub members : List Left
  pub lost : Bool

abbrev pub with_fate : Fate → Kept → Kept
with_fate (out b) k = record k { lost = b || k.lost }
with_fate (left l) k = record k { members = l ∷ k.members }

abbrev pub none_kept : Kept
none_kept = record { members = []; lost = false }

abbrev pub fates : (Schema → Schema → Outcome Schema) → Schema → List Schema → List Schema → Outcome Kept
fates join body before [] = answer [] none_kept
fates join body before (m ∷ after) =
    and_then (fate body m (before ++ after) (join body m)) (λ f. mapped (with_fate f) (fates join body (before ++ (m ∷ [])) after))

abbrev pub is_as_body : Left → Bool
is_as_body l = elim l.how [ as_body ↦ true | _ ↦ false ]

abbrev pub is_as_member : Left → Bool
is_as_member l = elim l.how [ as_member ↦ true | _ ↦ false ]

abbrev pub is_joined : Left → Bool
is_joined l = elim l.how [ joined ↦ true | _ ↦ false ]

abbrev pub are_two : List Left → Bool
are_two ls = nat_le 2 (length ls)

-- ---- what is noted of members; `apart` says that no two of them admit one value

abbrev pub any_narrows : Bool → Kept → Bool
any_narrows apart k = list_any is_joined k.members && are_two k.members && not apart

abbrev pub one_narrows : Kept → Bool
one_narrows k = are_two k.members && list_any (λ l. is_as_body l && l.wider) k.members

abbrev pub one_mixes : Bool → Kept → Bool
one_mixes apart k = are_two k.members && not apart && not (list_all is_joined k.members) && not (list_all is_as_member k.members)

abbrev pub one_forgets : Bool → Kept → Bool
one_forgets apart k = k.lost && not apart && list_any (λ l. not (is_joined l)) k.members

abbrev pub left_schemas : List Left → List Schema
left_schemas [] = []
left_schemas (l ∷ ls) = l.schema ∷ left_schemas ls

-- none: never; one: that; more: all of them, by anyOf or oneOf
abbrev pub gathered : (List Schema → Schema) → List Schema → Outcome Schema
gathered f [] = never []
gathered f (s ∷ []) = answer [] s
gathered f ss = answer [] (f ss)

abbrev pub finish_any : Bool → Kept → Outcome Schema
finish_any apart k = noted (note_if (any_narrows apart k) (less_than of_members ∷ [])) (gathered any_of (left_schemas k.members))

abbrev pub finish_one : Bool → Kept → Outcome Schema
finish_one apart k =
    noted (note_if (one_narrows k) (less_than of_members ∷ []))
    (noted (note_if (one_mixes apart k || one_forgets apart k) (more_than of_members ∷ [])) (gathered one_of (left_schemas k.members)))

-- ---- the subschemas of a side

abbrev pub stand_both : MaybeSchemas → MaybeSchemas → Bool
stand_both (the_list ss) (the_list ts) = true
stand_both _ _ = false

-- conditionals are refused, and anyOf beside oneOf
abbrev pub refused : {A : Type 0} → Same → Outcome A → Outcome A
refused no_same o = o
refused (same_value all any one none c) o =
    if c then fault (unsupported conditional) else if stand_both any one then fault (unsupported any_one) else o

module _ (d : Document) (join less : Schema → Schema → Outcome Schema) where
  abbrev pub with_each : Schemas → Schema → Outcome Schema
  with_each no_more body = answer [] body
  with_each (schema s ss) body = and_then (join body s) (with_each ss)

  abbrev pub with_all : MaybeSchemas → Schema → Outcome Schema
  with_all no_list body = answer [] body
  with_all (the_list ss) body = with_each ss body

  abbrev pub without : MaybeSchema → Schema → Outcome Schema
  without no_schema body = answer [] body
  without (the_schema s) body = less body s

  abbrev pub with_any : MaybeSchemas → Schema → Outcome Schema
  with_any no_list body = answer [] body
  with_any (the_list ss) body = and_then (fates join body [] (schema_list ss)) (finish_any (exclusive d (schema_list ss)))

  abbrev pub with_one : MaybeSchemas → Schema → Outcome Schema
  with_one no_list body = answer [] body
  with_one (the_list ss) body = and_then (fates join body [] (schema_list ss)) (finish_one (exclusive d (schema_list ss)))

  abbrev pub with_same : Same → Schema → Outcome Schema
  with_same no_same body = answer [] body
  with_same (same_value all any one none c) body =
      and_then (with_all all body) (λ b. and_then (without none b) (λ b'. and_then (with_any any b') (with_one one)))
