-- What a merge answers: something, or never, each with notes; or a fault.
use Rattle.std.specs.Prelude.{List, [], ◌∷◌, ◌++◌, Bool, true, false, Option, Some, None, if◌then◌else◌}
use Rattle.std.specs.List.{list_any}
use Rattle.schema_defs.specs.Location.{Location}

-- narrowed: less is admitted than by both sides; widened: more
pub data Way : Type 0 where
  narrowed : Way
  widened : Way

-- what was lost: a multiple, names, siblings of a reference or sizes, texts of two formats, what clashes, members, what was taken away, null for an absent member
pub data Kind : Type 0 where
  of_integer : Kind
  of_names : Kind
  of_reference : Kind
  of_formats : Kind
  of_clash : Kind
  of_members : Kind
  of_subtract : Kind
  of_absent : Kind

pub record Note : Type 0 where
  pub way : Way
  pub kind : Kind

-- conditionals; anyOf and oneOf on one side; names that patterns may bind; what nothing is taken from
pub data Unsupported : Type 0 where
  conditional : Unsupported
  any_one : Unsupported
  pattern_names : Unsupported
  subtracting : Unsupported

-- Depth with the walk that has too many steps, and with none where steps alone are counted
pub data Fault : Type 0 where
  depth : List Location → Fault
  unsupported : Unsupported → Fault

pub data Outcome (A : Type 0) : Type 0 where
  fault : Fault → Outcome A
  never : List Note → Outcome A
  answer : List Note → A → Outcome A

-- ---- notes

abbrev pub less_than : Kind → Note
less_than k = record { way = narrowed; kind = k }

abbrev pub more_than : Kind → Note
more_than k = record { way = widened; kind = k }

abbrev pub both_ways : Kind → List Note
both_ways k = less_than k ∷ more_than k ∷ []

abbrev pub same_way : Way → Way → Bool
same_way narrowed narrowed = true
same_way widened widened = true
same_way _ _ = false

abbrev pub has_way : Way → List Note → Bool
has_way w ns = list_any (λ n. same_way w n.way) ns

abbrev pub other_way : Way → Way
other_way narrowed = widened
other_way widened = narrowed

abbrev pub turned : List Note → List Note
turned [] = []
turned (n ∷ ns) = record { way = other_way n.way; kind = n.kind } ∷ turned ns

abbrev pub note_if : Bool → List Note → List Note
note_if b ns = if b then ns else []

-- ---- one step after another

abbrev pub noted : {A : Type 0} → List Note → Outcome A → Outcome A
noted ns (fault f) = fault f
noted ns (never ms) = never (ns ++ ms)
noted ns (answer ms a) = answer (ns ++ ms) a

-- what comes after an answer; never stays never
abbrev pub and_then : {A B : Type 0} → Outcome A → (A → Outcome B) → Outcome B
and_then (fault f) k = fault f
and_then (never ns) k = never ns
and_then (answer ns a) k = noted ns (k a)

abbrev pub mapped : {A B : Type 0} → (A → B) → Outcome A → Outcome B
mapped f (fault e) = fault e
mapped f (never ns) = never ns
mapped f (answer ns a) = answer ns (f a)

-- never, with the notes, unless b
abbrev pub never_unless : {A : Type 0} → Bool → Kind → Outcome A
never_unless b k = never (if b then [] else less_than k ∷ [])

-- what never is answered by
abbrev pub or_else : {A : Type 0} → A → Outcome A → Outcome A
or_else d (fault f) = fault f
or_else d (never ns) = answer ns d
or_else d (answer ns a) = answer ns a

-- what stands on one side alone stays; what stands on both is merged
abbrev pub where_both : {A : Type 0} → (A → A → Outcome (Option A)) → Option A → Option A → Outcome (Option A)
where_both f None y = answer [] y
where_both f (Some x) None = answer [] (Some x)
where_both f (Some x) (Some y) = f x y

-- the same where two always make one
abbrev pub either : {A : Type 0} → (A → A → A) → Option A → Option A → Option A
either f None y = y
either f (Some x) None = Some x
either f (Some x) (Some y) = Some (f x y)
