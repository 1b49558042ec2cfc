-- The keywords of lists of a merge hold schemas that the merges of parts make, or that stood on one side.
use Rattle.std.proofs.Common.{ℕ, zero, suc, List, [], ◌∷◌, ◌&&◌, Bool, true, false, Option, Some, None}
use Rattle.std.specs.Prelude.{nat_lt, nat_le, if◌then◌else◌}
use Rattle.schema_defs.specs.Schema.{ListRules, Schema, boolean, Lists, no_lists, lists, MaybeSchema, no_schema, the_schema, Schemas, no_more, schema, Places, no_items, each_item, by_place, Document}
use Rattle.merge_defs.specs.Outcome.{Outcome, fault, never, answer, never_unless, of_clash, and_then, mapped}
use Rattle.merge_defs.specs.Alike.{same_schemas}
use Rattle.merge_defs.specs.Leaves.{sizes_cross}
use Rattle.merge_defs.specs.Arrays.{joined_rules, two_contains, Front, schema_count, first_schemas, cut_to, alone, or_true, pairs, End, at_most, at_clash, goes_on, Merged, nothing_more, put, is_full, least_items, stands, ended_at, clash_at, at_place, by_places, rest_of, ending, placed, each_of_both, two_places, no_list_rules, kept_lists, with_front, two_rules, two_lists_parts}
use Rattle.conversion_laws.specs.Keeping.{Always, SizesAreKept}
use Rattle.convert_defs.specs.Proper.{IsProper, ProperLists, ProperMaybe, AllProper, ProperPlaces}
use Rattle.conversion_laws.proofs.Always.{always-noted, always-then, always-mapped, always-if}

module _ (sized : ListRules → Type 0) (kept : SizesAreKept sized) (d : Document) where
  abbrev Is : Schema → Type 0
  Is = IsProper sized d

  abbrev OfMaybe : MaybeSchema → Type 0
  OfMaybe = ProperMaybe sized d

  abbrev OfLists : Lists → Type 0
  OfLists = ProperLists sized d

  abbrev All : Schemas → Type 0
  All = AllProper sized d

  abbrev FrontHolds : Front → Type 0
  FrontHolds f = ProperPlaces sized d f.places × OfMaybe f.rest

  contains-hold : (a b : MaybeSchema) → OfMaybe a → OfMaybe b → Always OfMaybe (two_contains a b)
  contains-hold no_schema b x y = y
  contains-hold (the_schema s) no_schema x y = x
  contains-hold (the_schema s) (the_schema t) x y = always-if OfMaybe (same_schemas s t) (answer [] (the_schema s)) (never_unless false of_clash) x tt

  first-hold : (n : ℕ) (ss : Schemas) → All ss → All (first_schemas n ss)
  first-hold zero ss h = tt
  first-hold (suc n) no_more h = tt
  first-hold (suc n) (schema s ss) h = (h.0, first-hold n ss h.1)

  cut-holds : (o : Option ℕ) (ss : Schemas) (rest : MaybeSchema) → All ss → OfMaybe rest → FrontHolds (cut_to o ss rest)
  cut-holds None ss rest h g = (h, g)
  cut-holds (Some n) ss rest h g = by (nat_le n (schema_count ss))
    where
      by : (b : Bool) → FrontHolds (if b then record { places = by_place (first_schemas n ss); rest = no_schema; max_items = Some n } else record { places = by_place ss; rest = rest; max_items = Some n })
      by true = (first-hold n ss h, tt)
      by false = (h, g)

  alone-holds : (o : Option ℕ) (p : Places) (rest : MaybeSchema) → ProperPlaces sized d p → OfMaybe rest → FrontHolds (alone o p rest)
  alone-holds o no_items rest h g = (tt, tt)
  alone-holds o (each_item s) rest h g = (h, tt)
  alone-holds o (by_place ss) rest h g = cut-holds o ss rest h g

  true-holds : (m : MaybeSchema) → OfMaybe m → Is (or_true m)
  true-holds no_schema h = tt
  true-holds (the_schema s) h = h

  kept-lists : (ls : Lists) → OfLists ls → OfLists (kept_lists ls)
  kept-lists no_lists h = h
  kept-lists (lists (each_item s) x a c) h = h
  kept-lists (lists (by_place ss) x a c) h = h
  kept-lists (lists no_items (the_schema x) a c) h = h
  kept-lists (lists no_items no_schema (the_schema a) c) h = h
  kept-lists (lists no_items no_schema no_schema c) h = by (no_list_rules c)
    where
      by : (b : Bool) → OfLists (if b then no_lists else lists no_items no_schema no_schema c)
      by true = tt
      by false = h

  abbrev Pairs : List (Schema × Schema) → Type 0
  Pairs [] = Unit {0}
  Pairs (p ∷ ps) = (Is p.0 × Is p.1) × Pairs ps

  pairs-hold : (ss : Schemas) (x : Schema) (ts : Schemas) (y : Schema) → All ss → Is x → All ts → Is y → Pairs (pairs ss x ts y)
  pairs-hold no_more x no_more y h f g k = tt
  pairs-hold no_more x (schema t ts) y h f g k = ((f, g.0), pairs-hold no_more x ts y h f g.1 k)
  pairs-hold (schema s ss) x no_more y h f g k = ((h.0, k), pairs-hold ss x no_more y h.1 f g k)
  pairs-hold (schema s ss) x (schema t ts) y h f g k = ((h.0, g.0), pairs-hold ss x ts y h.1 f g.1 k)

  abbrev MergedHold : Merged → Type 0
  MergedHold m = All m.items

  module _ (join' : Schema → Schema → Outcome Schema) (joins : (a b : Schema) → Is a → Is b → Always Is (join' a b)) where
    module _ (array : Bool) (c : ListRules) where
      clash-holds : (k : ℕ) → Always MergedHold (clash_at join' array c k)
      clash-holds k = always-if MergedHold (nat_lt k (least_items c.min_items)) (never_unless (array && stands c.min_items) of_clash) (answer [] (nothing_more (at_clash k))) tt tt

      place-holds : (k : ℕ) (o : Outcome Schema) (after : ℕ → Outcome Merged) → Always Is o → ((n : ℕ) → Always MergedHold (after n)) → Always MergedHold (at_place join' array c k o after)
      place-holds k (fault f) after h g = tt
      place-holds k (never ns) after h g = always-noted MergedHold ns (clash_at join' array c k) (clash-holds k)
      place-holds k (answer ns s) after h g = always-noted MergedHold ns (mapped (put s) (after (suc k))) (always-mapped MergedHold MergedHold (put s) (after (suc k)) (g (suc k)) (λ m x. (h, x)))

      places-hold : (ps : List (Schema × Schema)) (k : ℕ) → Pairs ps → Always MergedHold (by_places join' array c k ps)
      places-hold [] k h = tt
      places-hold (p ∷ ps) k h = cases (λ n. places-hold ps n h.1) (is_full c.max_items k)
        where
          cases : ((n : ℕ) → Always MergedHold (by_places join' array c n ps)) → (b : Bool) → Always MergedHold (elim b [ true ↦ answer [] (nothing_more at_most) | false ↦ at_place join' array c k (join' p.0 p.1) (λ n. by_places join' array c n ps) ])
          cases later true = tt
          cases later false = place-holds k (join' p.0 p.1) (λ n. by_places join' array c n ps) (joins p.0 p.1 h.0.0 h.0.1) later

      rest-holds : (b : Bool) (o : Outcome Schema) → Always Is o → Always OfMaybe (rest_of join' array c b o)
      rest-holds b (fault f) h = tt
      rest-holds b (never ns) h = always-noted OfMaybe ns (if b then answer [] (the_schema (boolean false)) else never_unless false of_clash) (always-if OfMaybe b (answer [] (the_schema (boolean false))) (never_unless false of_clash) tt tt)
      rest-holds b (answer ns s) h = h

      ending-holds : (b : Bool) (o : Outcome Schema) (m : Merged) → Always Is o → MergedHold m → Always FrontHolds (ending join' array c b o m)
      ending-holds b o m h g = cases m.end
        where
          cases : (e : End) → Always FrontHolds
              (elim e [
                | goes_on ↦ mapped (λ r. record { places = by_place m.items; rest = r; max_items = c.max_items }) (rest_of join' array c b o)
                | at_most ↦ answer [] (record { places = by_place m.items; rest = no_schema; max_items = c.max_items })
                | at_clash k ↦ answer [] (record { places = by_place m.items; rest = no_schema; max_items = ended_at k c.max_items })
              ])
          cases goes_on = always-mapped OfMaybe FrontHolds (λ r. record { places = by_place m.items; rest = r; max_items = c.max_items }) (rest_of join' array c b o) (rest-holds b o h) (λ r x. (g, x))
          cases at_most = (g, tt)
          cases (at_clash k) = (g, tt)

      placed-hold : (b : Bool) (ss : Schemas) (x : Schema) (ts : Schemas) (y : Schema) → All ss → Is x → All ts → Is y → Always FrontHolds (placed join' array c b ss x ts y)
      placed-hold b ss x ts y h f g k =
          always-then MergedHold FrontHolds (by_places join' array c 0 (pairs ss x ts y)) (λ m. ending join' array c b (join' x y) m)
          (places-hold (pairs ss x ts y) 0 (pairs-hold ss x ts y h f g k)) (λ m z. ending-holds b (join' x y) m (joins x y f k) z)

      each-holds : (o : Outcome Schema) → Always Is o → Always FrontHolds (each_of_both join' array c o)
      each-holds (fault f) h = tt
      each-holds (never ns) h = tt
      each-holds (answer ns s) h = (h, tt)

      two-places : (p : Places) (x : MaybeSchema) (q : Places) (y : MaybeSchema) → ProperPlaces sized d p → OfMaybe x → ProperPlaces sized d q → OfMaybe y → Always FrontHolds (two_places join' array c p x q y)
      two-places no_items x q y h f g k = alone-holds c.max_items q y g k
      two-places (each_item s) x no_items y h f g k = (h, tt)
      two-places (by_place ss) x no_items y h f g k = alone-holds c.max_items (by_place ss) x h f
      two-places (each_item s) x (each_item t) y h f g k = each-holds (join' s t) (joins s t h g)
      two-places (each_item s) x (by_place ts) y h f g k = placed-hold false ts (or_true y) no_more s g (true-holds y k) tt h
      two-places (by_place ss) x (each_item t) y h f g k = placed-hold false ss (or_true x) no_more t h (true-holds x f) tt g
      two-places (by_place ss) x (by_place ts) y h f g k = placed-hold true ss (or_true x) ts (or_true y) h (true-holds x f) g (true-holds y k)

    rules-hold : (array : Bool) (c e : ListRules) → sized c → sized e → Always sized (two_rules array c e)
    rules-hold array c e x y = always-if sized (sizes_cross (joined_rules c e).min_items (joined_rules c e).max_items) (never_unless array of_clash) (answer [] (joined_rules c e)) tt (kept.of_both c e x y)

    pub two-lists : (array : Bool) (ls ms : Lists) → OfLists ls → OfLists ms → Always OfLists (two_lists_parts join' array ls ms)
    two-lists array no_lists ms h g = g
    two-lists array (lists p x a c) no_lists h g = h
    two-lists array (lists p x a c) (lists q y b e) h g =
        always-then OfMaybe OfLists (two_contains a b) (λ contains. and_then (two_rules array c e) (λ sizes. mapped (with_front contains sizes) (two_places join' array sizes p x q y))) (contains-hold a b h.2 g.2)
        (λ contains z. always-then sized OfLists (two_rules array c e) (λ sizes. mapped (with_front contains sizes) (two_places join' array sizes p x q y)) (rules-hold array c e h.3 g.3)
        (λ sizes few. always-mapped FrontHolds OfLists (with_front contains sizes) (two_places join' array sizes p x q y) (two-places array sizes p x q y h.0 h.1 g.0 g.1)
        (λ f u. kept-lists (lists f.places f.rest contains (record sizes { max_items = f.max_items })) (u.0, u.1, z, kept.up_to sizes f.max_items few))))
