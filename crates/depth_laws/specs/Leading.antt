-- Merges by walks of schemas to which walks of the document lead.
use Rattle.std.specs.Prelude.{◌≡◌, ◌||◌, ℕ, suc, List, [], ◌∷◌, Bool, false, IsTrue, Option, Some, None, codes, if◌then◌else◌}
use Rattle.schema_defs.specs.Location.{Location, place}
use Rattle.schema_defs.specs.Schema.{Plain, Schema, boolean, object, Same, no_same, same_value, Lists, no_lists, lists, Named, no_named, named, MaybeSchema, no_schema, the_schema, MaybeSchemas, no_list, the_list, Schemas, no_more, schema, Places, no_items, each_item, by_place, Properties, no_properties, property, Document}
use Rattle.schema_defs.specs.Admits.{target}
use Rattle.schema_defs.specs.Children.{reference_of, schema_at}
use Rattle.schema_defs.specs.Walks.{IsWalk, merges_at, IsGuarded}
use Rattle.merge_defs.specs.Outcome.{Fault, Outcome, fault, never, answer, depth, unsupported}
use Rattle.merge_walks.specs.Carried.{Walk, last_of, to_child, is_made, unmarked}
use Rattle.merge_walks.specs.Walked.{walk_of, join_by_walks, less_by_walks, merge_by_walks, with_by_walks}
use Rattle.each_schema.specs.Each.{EachSchema, of_any_size}
use Rattle.depth_laws.specs.Standing.{NamesDiffer}

-- ---- walks

abbrev pub some_merges : Document → Walk → Bool
some_merges d [] = false
some_merges d (l ∷ ls) = merges_at d l || some_merges d ls

-- a walk of the document, of which a location merges, so that it may go on to a target
abbrev pub IsMergingWalk : Document → Walk → Type 0
IsMergingWalk d w = IsWalk d w × IsTrue (some_merges d w)

-- where there is a reference, the schema there has it
abbrev pub HasReference : Document → Location → Option (List ℕ) → Type 0
HasReference d l None = Unit {0}
HasReference d l (Some q) = (s : Schema) × (schema_at d l ≡ Some s) × (reference_of s ≡ Some q)

-- by such a walk, to where that reference stands
abbrev pub IsLedTo : Document → (Walk → Type 0) → Option Walk → Option (List ℕ) → Type 0
IsLedTo d W None q = ⊥
IsLedTo d W (Some w) q = W w × HasReference d (last_of w) q

-- of a boolean: it has no walk of its own
abbrev pub IsReached : (Walk → Type 0) → Option Walk → Type 0
IsReached W None = Unit {0}
IsReached W (Some w) = W w

-- ---- schemas

-- its own, the mark aside, or that by which it stands where it does
abbrev pub walk_or : Option Walk → Option Walk → Option Walk
walk_or o None = o
walk_or o (Some w) = Some (unmarked w)

-- what the schemas inside go on with: in one that a merge made each has a walk of its own
abbrev pub walk_on : Option Walk → Option Walk → Option Walk
walk_on o None = o
walk_on o (Some w) = if is_made w then None else Some w

abbrev pub walk_to : Option Walk → Location → Option Walk
walk_to None k = None
walk_to (Some w) k = Some (to_child w k)

-- `W` says which walks
module _ (d : Document) (W : Walk → Type 0) where
  -- to the schema, where it stands by that walk, and to each inside it a walk leads
  abbrev mutual
    pub AreLedTo : Option Walk → Schema → Type 0
    AreLedTo o (boolean b) = IsReached W o
    AreLedTo o (object p ss ls ns) = IsLedTo d W (walk_or o p.walk) p.reference × LedToSame (walk_on o p.walk) ss × LedToLists (walk_on o p.walk) ls × LedToNamed (walk_on o p.walk) ns

    pub LedToSame : Option Walk → Same → Type 0
    LedToSame o no_same = Unit {0}
    LedToSame o (same_value all any one none c) =
        LedToList (λ i. walk_to o (codes "allOf" ∷ place i ∷ [])) all × LedToList (λ i. walk_to o (codes "anyOf" ∷ place i ∷ [])) any
        × LedToList (λ i. walk_to o (codes "oneOf" ∷ place i ∷ [])) one × LedToMaybe (walk_to o (codes "not" ∷ [])) none

    pub LedToLists : Option Walk → Lists → Type 0
    LedToLists o no_lists = Unit {0}
    LedToLists o (lists places rest contains c) = LedToPlaces o places × LedToMaybe (walk_to o (codes "additionalItems" ∷ [])) rest × LedToMaybe (walk_to o (codes "contains" ∷ [])) contains

    pub LedToNamed : Option Walk → Named → Type 0
    LedToNamed o no_named = Unit {0}
    LedToNamed o (named props patterns rest names c) =
        LedToNames (λ n. walk_to o (codes "properties" ∷ n ∷ [])) props × LedToNames (λ n. walk_to o (codes "patternProperties" ∷ n ∷ [])) patterns
        × LedToMaybe (walk_to o (codes "additionalProperties" ∷ [])) rest × LedToMaybe (walk_to o (codes "propertyNames" ∷ [])) names

    pub LedToMaybe : Option Walk → MaybeSchema → Type 0
    LedToMaybe o no_schema = Unit {0}
    LedToMaybe o (the_schema s) = AreLedTo o s

    pub LedToList : (ℕ → Option Walk) → MaybeSchemas → Type 0
    LedToList f no_list = Unit {0}
    LedToList f (the_list ss) = LedToAll f ss

    -- the walks by place
    pub LedToAll : (ℕ → Option Walk) → Schemas → Type 0
    LedToAll f no_more = Unit {0}
    LedToAll f (schema s ss) = AreLedTo (f 0) s × LedToAll (λ i. f (suc i)) ss

    pub LedToPlaces : Option Walk → Places → Type 0
    LedToPlaces o no_items = Unit {0}
    LedToPlaces o (each_item s) = AreLedTo (walk_to o (codes "items" ∷ [])) s
    LedToPlaces o (by_place ss) = LedToAll (λ i. walk_to o (codes "items" ∷ place i ∷ [])) ss

    -- the walks by name
    pub LedToNames : (List ℕ → Option Walk) → Properties → Type 0
    LedToNames f no_properties = Unit {0}
    LedToNames f (property n s ps) = AreLedTo (f n) s × LedToNames f ps

-- ---- merges

-- no walk, and no name twice
abbrev pub IsBare : Plain → Named → Type 0
IsBare p ns = (p.walk ≡ None) × NamesDiffer ns

abbrev pub TargetsAreBare : Document → Type 0
TargetsAreBare d = (q : List ℕ) (t : Schema) → target d q ≡ Some t → EachSchema IsBare of_any_size t

-- Depth carries such a walk, but where there were too few levels
abbrev pub IsWalkFault : (Walk → Type 0) → Fault → Type 0
IsWalkFault W (depth []) = Unit {0}
IsWalkFault W (depth (l ∷ w)) = W (l ∷ w)
IsWalkFault W (unsupported u) = Unit {0}

abbrev pub TellsWalks : (Walk → Type 0) → {A : Type 0} → (A → Type 0) → Outcome A → Type 0
TellsWalks W P (fault f) = IsWalkFault W f
TellsWalks W P (never ns) = Unit {0}
TellsWalks W P (answer ns a) = P a

pub record LeadOn (d : Document) (W : Walk → Type 0) (most n : ℕ) : Type 0 where
  pub joins : (a b : Schema) → AreLedTo d W None a → AreLedTo d W None b → TellsWalks W (AreLedTo d W None) (join_by_walks d most n a b)
  pub leaves : (a b : Schema) → AreLedTo d W None a → AreLedTo d W None b → TellsWalks W (AreLedTo d W None) (less_by_walks d most n a b)
  -- the subschemas stand in the body
  pub with_all : (b : Schema) (ss : Same) → AreLedTo d W None b → W (walk_of b) → LedToSame d W (Some (walk_of b)) ss → TellsWalks W (AreLedTo d W None) (with_by_walks d most n b ss)
  pub gathers : (ss : Schemas) → LedToAll d W (λ i. None) ss → TellsWalks W (AreLedTo d W None) (merge_by_walks d most n ss)

-- what is merged has walks of the document, and so has what is made of it
abbrev pub MergesLeadOn : Type 0
MergesLeadOn = (d : Document) → IsGuarded d → TargetsAreBare d → (most n : ℕ) → LeadOn d (IsMergingWalk d) most n
