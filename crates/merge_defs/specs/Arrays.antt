-- Merging the keywords of lists.
use Rattle.std.specs.Prelude.{ℕ, zero, suc, ◌==◌, ◌&&◌, ◌||◌, min, max, nat_lt, nat_le, List, [], ◌∷◌, Bool, true, false, Option, Some, None, if◌then◌else◌}
use Rattle.schema_defs.specs.Schema.{ListRules, Schema, boolean, Lists, no_lists, lists, MaybeSchema, no_schema, the_schema, Schemas, no_more, schema, Places, no_items, each_item, by_place}
use Rattle.merge_defs.specs.Outcome.{Outcome, answer, never, fault, never_unless, of_clash, either, and_then, noted, mapped}
use Rattle.merge_defs.specs.Alike.{same_schemas, is_absent}
use Rattle.merge_defs.specs.Leaves.{sizes_cross}

-- ---- sizes, and contains

abbrev pub joined_rules : ListRules → ListRules → ListRules
joined_rules x y = record { max_items = either min x.max_items y.max_items; min_items = either max x.min_items y.min_items; unique_items = either ◌||◌ x.unique_items y.unique_items }

-- one, or two that are the same
abbrev pub two_contains : MaybeSchema → MaybeSchema → Outcome MaybeSchema
two_contains no_schema c = answer [] c
two_contains (the_schema s) no_schema = answer [] (the_schema s)
two_contains (the_schema s) (the_schema t) = if same_schemas s t then answer [] (the_schema s) else never_unless false of_clash

-- ---- items

-- the items of a list, what binds those after them, and the greatest number of items
pub record Front : Type 0 where
  pub places : Places
  pub rest : MaybeSchema
  pub max_items : Option ℕ

abbrev pub schema_count : Schemas → ℕ
schema_count no_more = 0
schema_count (schema s ss) = suc (schema_count ss)

abbrev pub first_schemas : ℕ → Schemas → Schemas
first_schemas zero ss = no_more
first_schemas (suc n) no_more = no_more
first_schemas (suc n) (schema s ss) = schema s (first_schemas n ss)

-- a list is cut to so many items, and ends there where it has as many
abbrev pub cut_to : Option ℕ → Schemas → MaybeSchema → Front
cut_to None ss rest = record { places = by_place ss; rest = rest; max_items = None }
cut_to (Some n) ss rest =
    if nat_le n (schema_count ss) then record { places = by_place (first_schemas n ss); rest = no_schema; max_items = Some n }
    else record { places = by_place ss; rest = rest; max_items = Some n }

abbrev pub alone : Option ℕ → Places → MaybeSchema → Front
alone most no_items rest = record { places = no_items; rest = no_schema; max_items = most }
alone most (each_item s) rest = record { places = each_item s; rest = no_schema; max_items = most }
alone most (by_place ss) rest = cut_to most ss rest

-- what binds the items that no place binds
abbrev pub or_true : MaybeSchema → Schema
or_true no_schema = boolean true
or_true (the_schema s) = s

-- the schemas of two sides by place; the shorter goes on with x or y
abbrev pub pairs : Schemas → Schema → Schemas → Schema → List (Schema × Schema)
pairs no_more x no_more y = []
pairs no_more x (schema t ts) y = (x, t) ∷ pairs no_more x ts y
pairs (schema s ss) x no_more y = (s, y) ∷ pairs ss x no_more y
pairs (schema s ss) x (schema t ts) y = (s, t) ∷ pairs ss x ts y

-- how the merged items end: with so many as may stand, before the place of two that clash, or with what binds the rest
pub data End : Type 0 where
  at_most : End
  at_clash : ℕ → End
  goes_on : End

pub record Merged : Type 0 where
  pub items : Schemas
  pub end : End

abbrev pub nothing_more : End → Merged
nothing_more e = record { items = no_more; end = e }

abbrev pub put : Schema → Merged → Merged
put s m = record { items = schema s m.items; end = m.end }

-- so many as `maxItems`, above 0
abbrev pub is_full : Option ℕ → ℕ → Bool
is_full None k = false
is_full (Some n) k = nat_lt 0 n && n == k

-- items that must be there: one, where nothing is said
abbrev pub least_items : Option ℕ → ℕ
least_items None = 1
least_items (Some n) = n

abbrev pub stands : Option ℕ → Bool
stands None = false
stands (Some n) = true

abbrev pub is_above_zero : Option ℕ → Bool
is_above_zero None = false
is_above_zero (Some n) = nat_lt 0 n

-- a `maxItems` of 0 stays
abbrev pub ended_at : ℕ → Option ℕ → Option ℕ
ended_at k (Some zero) = Some zero
ended_at k _ = Some k

-- `array` says that the merged type is array; `c` holds the merged sizes
module _ (join : Schema → Schema → Outcome Schema) (array : Bool) (c : ListRules) where
  -- never at place k
  abbrev pub clash_at : ℕ → Outcome Merged
  clash_at k = if nat_lt k (least_items c.min_items) then never_unless (array && stands c.min_items) of_clash else answer [] (nothing_more (at_clash k))

  -- what is made of the merge at place k, and of the places after it
  abbrev pub at_place : ℕ → Outcome Schema → (ℕ → Outcome Merged) → Outcome Merged
  at_place k (fault f) after = fault f
  at_place k (never ns) after = noted ns (clash_at k)
  at_place k (answer ns s) after = noted ns (mapped (put s) (after (suc k)))

  -- by place, where k items were merged before
  abbrev pub by_places : ℕ → List (Schema × Schema) → Outcome Merged
  by_places k [] = answer [] (nothing_more (if is_full c.max_items k then at_most else goes_on))
  by_places k (p ∷ ps) = elim (is_full c.max_items k) [ true ↦ answer [] (nothing_more at_most) | false ↦ at_place k (join p.0 p.1) (λ n. by_places n ps) ]

  -- what binds the items after those merged: where it is never, that binds them, or the whole is never
  abbrev pub rest_of : Bool → Outcome Schema → Outcome MaybeSchema
  rest_of stays (fault f) = fault f
  rest_of stays (never ns) = noted ns (if stays then answer [] (the_schema (boolean false)) else never_unless false of_clash)
  rest_of stays (answer ns s) = answer ns (the_schema s)

  abbrev pub ending : Bool → Outcome Schema → Merged → Outcome Front
  ending stays rest m = elim m.end [
    | goes_on ↦ mapped (λ r. record { places = by_place m.items; rest = r; max_items = c.max_items }) (rest_of stays rest)
    | at_most ↦ answer [] (record { places = by_place m.items; rest = no_schema; max_items = c.max_items })
    | at_clash k ↦ answer [] (record { places = by_place m.items; rest = no_schema; max_items = ended_at k c.max_items })
  ]

  -- the items of two sides by place; `stays` says that both are lists
  abbrev pub placed : Bool → Schemas → Schema → Schemas → Schema → Outcome Front
  placed stays ss x ts y = and_then (by_places 0 (pairs ss x ts y)) (λ m. ending stays (join x y) m)

  abbrev pub each_front : Schema → Front
  each_front s = record { places = each_item s; rest = no_schema; max_items = c.max_items }

  -- one schema for each item: never, unless the empty list is refused
  abbrev pub each_of_both : Outcome Schema → Outcome Front
  each_of_both (fault f) = fault f
  each_of_both (never ns) = noted ns (never_unless (array && is_above_zero c.min_items) of_clash)
  each_of_both (answer ns s) = answer ns (each_front s)

  -- of a list with one the list comes first, from either side
  abbrev pub two_places : Places → MaybeSchema → Places → MaybeSchema → Outcome Front
  two_places no_items x ts y = answer [] (alone c.max_items ts y)
  two_places (each_item s) x no_items y = answer [] (alone c.max_items (each_item s) x)
  two_places (by_place ss) x no_items y = answer [] (alone c.max_items (by_place ss) x)
  two_places (each_item s) x (each_item t) y = each_of_both (join s t)
  two_places (each_item s) x (by_place ts) y = placed false ts (or_true y) no_more s
  two_places (by_place ss) x (each_item t) y = placed false ss (or_true x) no_more t
  two_places (by_place ss) x (by_place ts) y = placed true ss (or_true x) ts (or_true y)

abbrev pub no_list_rules : ListRules → Bool
no_list_rules c = is_absent c.max_items && (is_absent c.min_items && is_absent c.unique_items)

-- a part whose last keyword is gone is absent
abbrev pub kept_lists : Lists → Lists
kept_lists (lists no_items no_schema no_schema c) = if no_list_rules c then no_lists else lists no_items no_schema no_schema c
kept_lists ls = ls

abbrev pub with_front : MaybeSchema → ListRules → Front → Lists
with_front contains c f = kept_lists (lists f.places f.rest contains (record c { max_items = f.max_items }))

abbrev pub two_rules : Bool → ListRules → ListRules → Outcome ListRules
two_rules array x y = if sizes_cross (joined_rules x y).min_items (joined_rules x y).max_items then never_unless array of_clash else answer [] (joined_rules x y)

abbrev pub two_lists_parts : (Schema → Schema → Outcome Schema) → Bool → Lists → Lists → Outcome Lists
two_lists_parts join array no_lists ms = answer [] ms
two_lists_parts join array (lists p x a c) no_lists = answer [] (lists p x a c)
two_lists_parts join array (lists p x a c) (lists q y b d) =
    and_then (two_contains a b) (λ contains.
    and_then (two_rules array c d) (λ sizes.
    mapped (with_front contains sizes) (two_places join array sizes p x q y)))
