-- A definition that is made of merges of parts agrees with itself, walks aside, where its parts do.
use Rattle.std.proofs.Common.{◌≡◌, ℕ, suc, List, [], ◌∷◌, ◌++◌, map, Bool, true, false, ◌&&◌, ◌||◌, not, Option, Some, None, refl, ap, sym, subst, bytes_eq}
use Rattle.std.specs.Prelude.{nat_lt, nat_le, filter, if◌then◌else◌}
use Rattle.json_value.specs.Value.{Value, null}
use Rattle.schema_defs.specs.declared.InstanceType.TheVariants.{Object, Array, Text, Integer}
use Rattle.schema_defs.specs.Schema.{Types, Numbers, Texts, ListRules, Plain, Schema, boolean, object, Same, no_same, same_value, Lists, no_lists, lists, Named, no_named, named, MaybeSchema, no_schema, the_schema, MaybeSchemas, no_list, the_list, Schemas, no_more, schema, schema_list, Places, no_items, each_item, by_place, Properties, no_properties, property, Document}
use Rattle.schema_defs.specs.Layer.{property_at, is_listed}
use Rattle.schema_defs.specs.Admits.{target, counts_as_absent}
use Rattle.schema_defs.specs.Mapped.{mapped_list, unwalked}
use Rattle.enum_defs.specs.Words.{is_name, names_of}
use Rattle.enum_defs.specs.Exclusive.{exclusive}
use Rattle.merge_defs.specs.Outcome.{Outcome, fault, never, answer, depth, unsupported, subtracting, conditional, any_one, pattern_names, Note, widened, less_than, more_than, has_way, note_if, both_ways, of_names, of_clash, of_subtract, of_members, noted, and_then, mapped, never_unless, or_else, where_both}
use Rattle.merge_defs.specs.Alike.{roughly, same_schemas}
use Rattle.merge_defs.specs.Leaves.{two_types, two_formats, two_numbers, two_texts, two_lists, values_of, is_only}
use Rattle.merge_defs.specs.Arrays.{End, at_most, at_clash, goes_on, Merged, nothing_more, put, pairs, is_full, Front, least_items, stands, ended_at, clash_at, at_place, by_places, rest_of, ending, placed, each_of_both, two_places, or_true, two_contains, two_rules, with_front, two_lists_parts}
use Rattle.merge_defs.specs.Objects.{no_plain, all_names, is_false, no_rest, put_property, unsaid_at, absent_notes, or_false, two_rests, schema_of_both, properties_of, joined_members, two_member_rules, has_patterns, unless_mixed, names_mix, kept_if, two_named}
use Rattle.merge_defs.specs.Members.{Kept, As, as_body, as_member, joined, left, loses, lost_sizes, stands_for, joint, fate, with_fate, fates, any_of, one_of, gathered, left_schemas, any_narrows, one_narrows, one_mixes, one_forgets, finish_any, finish_one, stand_both, refused, with_each, with_all, without, with_any, with_one, with_same}
use Rattle.merge_defs.specs.Less.{left_values, less_values, less_property, less_name, less_properties, unless_needed, less_named, turned_outcome, merge_from, merge_schemas, less_each, less_merged, less_any, less_not, less_all, less_same, subschema_count, is_conditional}
use Rattle.merge_defs.specs.Merge.{drops_siblings, reference_to, stands_for_target, target_merged, tidied, body, two_objects, with_subschemas_layer, by_references, is_exact, less_object, less_layer}
use Rattle.walk_laws.specs.Counted.{HoldsNoWalks}
use Rattle.walk_laws.proofs.Commutes.{U, Us, Ul, Un, Um, Ua, Up, Ur, Uf, Ut, Ue, Uw, Uk, false-u, names-u, at-u, patterns-u, rest-u, unsaid-u, absent-u, mix-u, kept_if-u, beside-u, alone-u, or_true-u, pairs-u, with_front-u, roughly-u, loses-u, same_schemas-u, exclusive_list-u, list-u, any_of-u, one_of-u, joint-u, with_fate-u, any_narrows-u, one_narrows-u, one_mixes-u, one_forgets-u, left_schemas-u, conditional-u, subschema_count-u, values_alone-u, one_name-u, kinds_apart-u, subschema_alone-u, siblings-u, tidied-u}

-- ---- outcomes

-- the first is Depth, or the second is it with u of what is answered
abbrev pub Agrees : {A B : Type 0} → (A → B) → Outcome A → Outcome B → Type 0
Agrees u (fault (depth w)) o = Unit {0}
Agrees u (fault (unsupported x)) o = o ≡ fault (unsupported x)
Agrees u (never ns) o = o ≡ never ns
Agrees u (answer ns a) o = o ≡ answer ns (u a)

itself : {A : Type 0} (o : Outcome A) → Agrees (λ x. x) o o
itself (fault (depth w)) = tt
itself (fault (unsupported u)) = refl
itself (never ns) = refl
itself (answer ns a) = refl

under : {A C B D : Type 0} (u : A → C) (v : B → D) (f : Outcome A → Outcome B) (g : Outcome C → Outcome D) → ((w : List (List (List ℕ))) → f (fault (depth w)) ≡ fault (depth w)) → ((o : Outcome A) → Agrees v (f o) (g (mapped u o)))
    → (o : Outcome A) (p : Outcome C) → Agrees u o p → Agrees v (f o) (g p)
under u v f g e k (fault (depth w)) p h = subst (λ x. Agrees v x (g p)) (sym (e w)) tt
under u v f g e k (fault (unsupported x)) p h = subst (λ z. Agrees v (f (fault (unsupported x))) (g z)) (sym h) (k (fault (unsupported x)))
under u v f g e k (never ns) p h = subst (λ z. Agrees v (f (never ns)) (g z)) (sym h) (k (never ns))
under u v f g e k (answer ns a) p h = subst (λ z. Agrees v (f (answer ns a)) (g z)) (sym h) (k (answer ns a))

with_notes : {A C : Type 0} (u : A → C) (ns : List Note) (o : Outcome A) (p : Outcome C) → Agrees u o p → Agrees u (noted ns o) (noted ns p)
with_notes u ns o p h = under u u (noted ns) (noted ns) (λ w. refl) at o p h
  where
    at : (o : Outcome _) → Agrees u (noted ns o) (noted ns (mapped u o))
    at (fault (depth w)) = tt
    at (fault (unsupported x)) = refl
    at (never ms) = refl
    at (answer ms a) = refl

through : {A C B D : Type 0} (u : A → C) (v : B → D) (f : A → B) (g : C → D) → ((a : A) → v (f a) ≡ g (u a)) → (o : Outcome A) (p : Outcome C) → Agrees u o p → Agrees v (mapped f o) (mapped g p)
through u v f g e o p h = under u v (mapped f) (mapped g) (λ w. refl) at o p h
  where
    at : (o : Outcome _) → Agrees v (mapped f o) (mapped g (mapped u o))
    at (fault (depth w)) = tt
    at (fault (unsupported x)) = refl
    at (never ms) = refl
    at (answer ms a) = ap (answer ms) (sym (e a))

after : {A C B D : Type 0} (u : A → C) (v : B → D) (o : Outcome A) (k : A → Outcome B) (l : C → Outcome D) → ((a : A) → Agrees v (k a) (l (u a))) → Agrees v (and_then o k) (and_then (mapped u o) l)
after u v (fault (depth w)) k l h = tt
after u v (fault (unsupported x)) k l h = refl
after u v (never ns) k l h = refl
after u v (answer ns a) k l h = with_notes v ns (k a) (l (u a)) (h a)

next : {A C B D : Type 0} (u : A → C) (v : B → D) (o : Outcome A) (p : Outcome C) (k : A → Outcome B) (l : C → Outcome D) → Agrees u o p → ((a : A) → Agrees v (k a) (l (u a))) → Agrees v (and_then o k) (and_then p l)
next u v o p k l h i = under u v (λ o. and_then o k) (λ o. and_then o l) (λ w. refl) (λ o. after u v o k l i) o p h

either_way : {A C : Type 0} (u : A → C) (b c : Bool) → c ≡ b → (o q : Outcome A) (p s : Outcome C) → Agrees u o p → Agrees u q s → Agrees u (if b then o else q) (if c then p else s)
either_way u b c e o q p s h i = subst (λ x. Agrees u (if b then o else q) (if x then p else s)) (sym e) (go b)
  where
    go : (b : Bool) → Agrees u (if b then o else q) (if b then p else s)
    go true = h
    go false = i

instead : {A C : Type 0} (u : A → C) (a : A) (c : C) → c ≡ u a → (o : Outcome A) (p : Outcome C) → Agrees u o p → Agrees u (or_else a o) (or_else c p)
instead u a c e o p h = under u u (or_else a) (or_else c) (λ w. refl) at o p h
  where
    at : (o : Outcome _) → Agrees u (or_else a o) (or_else c (mapped u o))
    at (fault (depth w)) = tt
    at (fault (unsupported x)) = refl
    at (never ms) = ap (answer ms) e
    at (answer ms b) = refl

map-both : (ss ts : List Schema) → (map U ss ++ map U ts) ≡ map U (ss ++ ts)
map-both [] ts = refl
map-both (s ∷ ss) ts = ap (λ us. U s ∷ us) (map-both ss ts)

module _ (join' join'' : Schema → Schema → Outcome Schema) (more : (a b : Schema) → Agrees U (join' a b) (join'' (U a) (U b))) where
  -- ---- the keywords of lists

  module _ (array : Bool) (c : ListRules) where
    clash : (k : ℕ) → Agrees Ue (clash_at join' array c k) (clash_at join'' array c k)
    clash k = either_way Ue (nat_lt k (least_items c.min_items)) (nat_lt k (least_items c.min_items)) refl (never_unless (array && stands c.min_items) of_clash) (answer [] (nothing_more (at_clash k)))
        (never_unless (array && stands c.min_items) of_clash) (answer [] (nothing_more (at_clash k))) refl refl

    place : (k : ℕ) (o p : Outcome Schema) (f g : ℕ → Outcome Merged) → Agrees U o p → ((n : ℕ) → Agrees Ue (f n) (g n)) → Agrees Ue (at_place join' array c k o f) (at_place join'' array c k p g)
    place k o p f g h i = under U Ue (λ o. at_place join' array c k o f) (λ o. at_place join'' array c k o g) (λ w. refl) at o p h
      where
        at : (o : Outcome Schema) → Agrees Ue (at_place join' array c k o f) (at_place join'' array c k (mapped U o) g)
        at (fault (depth w)) = tt
        at (fault (unsupported x)) = refl
        at (never ns) = with_notes Ue ns (clash_at join' array c k) (clash_at join'' array c k) (clash k)
        at (answer ns s) = with_notes Ue ns (mapped (put s) (f (suc k))) (mapped (put (U s)) (g (suc k))) (through Ue Ue (put s) (put (U s)) (λ m. refl) (f (suc k)) (g (suc k)) (i (suc k)))

    places : (ps : List (Schema × Schema)) (k : ℕ) → Agrees Ue (by_places join' array c k ps) (by_places join'' array c k (map Ut ps))
    places [] k = refl
    places (p ∷ ps) k = cases (λ n. places ps n) (is_full c.max_items k)
      where
        cases : ((n : ℕ) → Agrees Ue (by_places join' array c n ps) (by_places join'' array c n (map Ut ps))) → (b : Bool)
            → Agrees Ue (elim b [ true ↦ answer [] (nothing_more at_most) | false ↦ at_place join' array c k (join' p.0 p.1) (λ n. by_places join' array c n ps) ])
            (elim b [ true ↦ answer [] (nothing_more at_most) | false ↦ at_place join'' array c k (join'' (U p.0) (U p.1)) (λ n. by_places join'' array c n (map Ut ps)) ])
        cases later true = refl
        cases later false = place k (join' p.0 p.1) (join'' (U p.0) (U p.1)) (λ n. by_places join' array c n ps) (λ n. by_places join'' array c n (map Ut ps)) (more p.0 p.1) later

    rest : (b : Bool) (o p : Outcome Schema) → Agrees U o p → Agrees Um (rest_of join' array c b o) (rest_of join'' array c b p)
    rest b o p h = under U Um (rest_of join' array c b) (rest_of join'' array c b) (λ w. refl) at o p h
      where
        never_rest : (b : Bool) → Agrees Um (if b then answer [] (the_schema (boolean false)) else never_unless false of_clash) (if b then answer [] (the_schema (boolean false)) else never_unless false of_clash)
        never_rest true = refl
        never_rest false = refl

        at : (o : Outcome Schema) → Agrees Um (rest_of join' array c b o) (rest_of join'' array c b (mapped U o))
        at (fault (depth w)) = tt
        at (fault (unsupported x)) = refl
        at (never ns) = with_notes Um ns (if b then answer [] (the_schema (boolean false)) else never_unless false of_clash) (if b then answer [] (the_schema (boolean false)) else never_unless false of_clash) (never_rest b)
        at (answer ns s) = refl

    ends : (b : Bool) (o p : Outcome Schema) (m : Merged) → Agrees U o p → Agrees Uf (ending join' array c b o m) (ending join'' array c b p (Ue m))
    ends b o p m h = cases m.end
      where
        cases : (e : End) → Agrees {A = Front} {B = Front} Uf
            (elim e [
              | goes_on ↦ mapped (λ r. record { places = by_place m.items; rest = r; max_items = c.max_items }) (rest_of join' array c b o)
              | at_most ↦ answer [] (record { places = by_place m.items; rest = no_schema; max_items = c.max_items })
              | at_clash k ↦ answer [] (record { places = by_place m.items; rest = no_schema; max_items = ended_at k c.max_items })
            ])
            (elim e [
              | goes_on ↦ mapped (λ r. record { places = by_place (Ua m.items); rest = r; max_items = c.max_items }) (rest_of join'' array c b p)
              | at_most ↦ answer [] (record { places = by_place (Ua m.items); rest = no_schema; max_items = c.max_items })
              | at_clash k ↦ answer [] (record { places = by_place (Ua m.items); rest = no_schema; max_items = ended_at k c.max_items })
            ])
        cases goes_on = through Um Uf (λ r. record { places = by_place m.items; rest = r; max_items = c.max_items }) (λ r. record { places = by_place (Ua m.items); rest = r; max_items = c.max_items }) (λ r. refl) (rest_of join' array c b o) (rest_of join'' array c b p) (rest b o p h)
        cases at_most = refl
        cases (at_clash k) = refl

    all_placed : (b : Bool) (ss : Schemas) (x : Schema) (ts : Schemas) (y : Schema) → Agrees Uf (placed join' array c b ss x ts y) (placed join'' array c b (Ua ss) (U x) (Ua ts) (U y))
    all_placed b ss x ts y = next Ue Uf (by_places join' array c 0 (pairs ss x ts y)) (by_places join'' array c 0 (pairs (Ua ss) (U x) (Ua ts) (U y))) (λ m. ending join' array c b (join' x y) m) (λ m. ending join'' array c b (join'' (U x) (U y)) m)
        (subst (λ ps. Agrees Ue (by_places join' array c 0 (pairs ss x ts y)) (by_places join'' array c 0 ps)) (sym (pairs-u ss x ts y)) (places (pairs ss x ts y) 0))
        (λ m. ends b (join' x y) (join'' (U x) (U y)) m (more x y))

    each_one : (o p : Outcome Schema) → Agrees U o p → Agrees Uf (each_of_both join' array c o) (each_of_both join'' array c p)
    each_one o p h = under U Uf (each_of_both join' array c) (each_of_both join'' array c) (λ w. refl) at o p h
      where
        at : (o : Outcome Schema) → Agrees Uf (each_of_both join' array c o) (each_of_both join'' array c (mapped U o))
        at (fault (depth w)) = tt
        at (fault (unsupported x)) = refl
        at (never ns) = refl
        at (answer ns s) = refl

    both_places : (p : Places) (x : MaybeSchema) (q : Places) (y : MaybeSchema) → Agrees Uf (two_places join' array c p x q y) (two_places join'' array c (Up p) (Um x) (Up q) (Um y))
    both_places no_items x q y = ap (answer []) (alone-u c.max_items q y)
    both_places (each_item s) x no_items y = refl
    both_places (by_place ss) x no_items y = ap (answer []) (alone-u c.max_items (by_place ss) x)
    both_places (each_item s) x (each_item t) y = each_one (join' s t) (join'' (U s) (U t)) (more s t)
    both_places (each_item s) x (by_place ts) y = subst (λ z. Agrees Uf (placed join' array c false ts (or_true y) no_more s) (placed join'' array c false (Ua ts) z no_more (U s))) (sym (or_true-u y)) (all_placed false ts (or_true y) no_more s)
    both_places (by_place ss) x (each_item t) y = subst (λ z. Agrees Uf (placed join' array c false ss (or_true x) no_more t) (placed join'' array c false (Ua ss) z no_more (U t))) (sym (or_true-u x)) (all_placed false ss (or_true x) no_more t)
    both_places (by_place ss) x (by_place ts) y =
        subst (λ z. Agrees Uf (placed join' array c true ss (or_true x) ts (or_true y)) (placed join'' array c true (Ua ss) z (Ua ts) (or_true (Um y)))) (sym (or_true-u x))
        (subst (λ z. Agrees Uf (placed join' array c true ss (or_true x) ts (or_true y)) (placed join'' array c true (Ua ss) (U (or_true x)) (Ua ts) z)) (sym (or_true-u y)) (all_placed true ss (or_true x) ts (or_true y)))

  contains : (a b : MaybeSchema) → Agrees Um (two_contains a b) (two_contains (Um a) (Um b))
  contains no_schema b = refl
  contains (the_schema s) no_schema = refl
  contains (the_schema s) (the_schema t) = either_way Um (same_schemas s t) (same_schemas (U s) (U t)) (same_schemas-u s t) (answer [] (the_schema s)) (never_unless false of_clash) (answer [] (the_schema (U s))) (never_unless false of_clash) refl refl

  both_lists : (array : Bool) (ls ms : Lists) → Agrees Ul (two_lists_parts join' array ls ms) (two_lists_parts join'' array (Ul ls) (Ul ms))
  both_lists array no_lists ms = refl
  both_lists array (lists p x a c) no_lists = refl
  both_lists array (lists p x a c) (lists q y b d) =
      next Um Ul (two_contains a b) (two_contains (Um a) (Um b))
      (λ contains. and_then (two_rules array c d) (λ sizes. mapped (with_front contains sizes) (two_places join' array sizes p x q y)))
      (λ contains. and_then (two_rules array c d) (λ sizes. mapped (with_front contains sizes) (two_places join'' array sizes (Up p) (Um x) (Up q) (Um y))))
      (contains a b)
      (λ k. next (λ z. z) Ul (two_rules array c d) (two_rules array c d) (λ sizes. mapped (with_front k sizes) (two_places join' array sizes p x q y)) (λ sizes. mapped (with_front (Um k) sizes) (two_places join'' array sizes (Up p) (Um x) (Up q) (Um y)))
      (itself (two_rules array c d))
      (λ sizes. through Uf Ul (with_front k sizes) (with_front (Um k) sizes) (λ f. with_front-u k sizes f) (two_places join' array sizes p x q y) (two_places join'' array sizes (Up p) (Um x) (Up q) (Um y)) (both_places array sizes p x q y)))

  -- ---- the keywords of members

  false_else : (s t : Schema) → Agrees U (or_false join' s t) (or_false join'' (U s) (U t))
  false_else s t = instead U (boolean false) (boolean false) refl (join' s t) (join'' (U s) (U t)) (more s t)

  rests : (x y : MaybeSchema) → Agrees Um (two_rests join' x y) (two_rests join'' (Um x) (Um y))
  rests no_schema y = refl
  rests (the_schema s) no_schema = refl
  rests (the_schema s) (the_schema t) = through U Um the_schema the_schema (λ z. refl) (or_false join' s t) (or_false join'' (U s) (U t)) (false_else s t)

  of_both : (p x q y : MaybeSchema) → Agrees U (schema_of_both join' p x q y) (schema_of_both join'' (Um p) (Um x) (Um q) (Um y))
  of_both no_schema x no_schema y = refl
  of_both (the_schema s) x no_schema y = ap (answer []) (sym (beside-u s y))
  of_both no_schema x (the_schema t) y = ap (answer []) (sym (beside-u t x))
  of_both (the_schema s) x (the_schema t) y = false_else s t

  put_one : (object_type needed closed : Bool) (unsaid : List Note) (n : List ℕ) (s : Schema) (o p : Outcome Properties) → Agrees Ur o p → Agrees Ur (put_property object_type needed closed unsaid n s o) (put_property object_type needed closed unsaid n (U s) p)
  put_one object_type needed closed unsaid n s o p h =
      either_way Ur (is_false s && needed) (is_false (U s) && needed) (ap (λ b. b && needed) (false-u s))
      (and_then o (λ ps. never_unless object_type of_clash)) (if is_false s && closed then noted unsaid o else mapped (property n s) o)
      (and_then p (λ ps. never_unless object_type of_clash)) (if is_false (U s) && closed then noted unsaid p else mapped (property n (U s)) p)
      (next Ur Ur o p (λ ps. never_unless object_type of_clash) (λ ps. never_unless object_type of_clash) h (λ ps. refl))
      (either_way Ur (is_false s && closed) (is_false (U s) && closed) (ap (λ b. b && closed) (false-u s)) (noted unsaid o) (mapped (property n s) o) (noted unsaid p) (mapped (property n (U s)) p)
      (with_notes Ur unsaid o p h) (through Ur Ur (property n s) (property n (U s)) (λ ps. refl) o p h))

  all_properties : (ps : Properties) (x : MaybeSchema) (qs : Properties) (y : MaybeSchema) (nulls object_type closed : Bool) (needed : List (List ℕ)) (ns : List (List ℕ))
      → Agrees Ur (properties_of join' ps x qs y nulls object_type closed needed ns) (properties_of join'' (Ur ps) (Um x) (Ur qs) (Um y) nulls object_type closed needed ns)
  all_properties ps x qs y nulls object_type closed needed [] = refl
  all_properties ps x qs y nulls object_type closed needed (n ∷ ns) =
      next U Ur (schema_of_both join' (property_at n ps) x (property_at n qs) y) (schema_of_both join'' (property_at n (Ur ps)) (Um x) (property_at n (Ur qs)) (Um y))
      (λ s. put_property object_type (is_name n needed) closed (unsaid_at nulls ps x qs y n) n s (properties_of join' ps x qs y nulls object_type closed needed ns))
      (λ s. put_property object_type (is_name n needed) closed (unsaid_at nulls (Ur ps) (Um x) (Ur qs) (Um y) n) n s (properties_of join'' (Ur ps) (Um x) (Ur qs) (Um y) nulls object_type closed needed ns))
      (subst (λ o. Agrees U (schema_of_both join' (property_at n ps) x (property_at n qs) y) o) (λ i. schema_of_both join'' (sym (at-u n ps) i) (Um x) (sym (at-u n qs) i) (Um y)) (of_both (property_at n ps) x (property_at n qs) y))
      (λ s. subst (λ u. Agrees Ur (put_property object_type (is_name n needed) closed (unsaid_at nulls ps x qs y n) n s (properties_of join' ps x qs y nulls object_type closed needed ns))
      (put_property object_type (is_name n needed) closed u n (U s) (properties_of join'' (Ur ps) (Um x) (Ur qs) (Um y) nulls object_type closed needed ns))) (sym (unsaid-u nulls ps x qs y n))
      (put_one object_type (is_name n needed) closed (unsaid_at nulls ps x qs y n) n s (properties_of join' ps x qs y nulls object_type closed needed ns) (properties_of join'' (Ur ps) (Um x) (Ur qs) (Um y) nulls object_type closed needed ns)
      (all_properties ps x qs y nulls object_type closed needed ns)))

  both_named : (nulls object_type : Bool) (ns os : Named) → Agrees Un (two_named join' nulls object_type ns os) (two_named join'' nulls object_type (Un ns) (Un os))
  both_named nulls object_type no_named os = refl
  both_named nulls object_type (named ps pp x xn c) no_named = refl
  both_named nulls object_type (named ps pp x xn c) (named qs qq y yn d) =
      subst (λ o. Agrees Un (noted (note_if nulls (absent_notes ps x c qs y d)) (noted (note_if H (both_ways of_names)) (mapped (kept_if H) made))) o)
      (λ i. noted (note_if nulls (sym (absent-u ps x c qs y d) i)) (noted (note_if (sym (patterns-u pp xn) i || sym (patterns-u qq yn) i) (both_ways of_names)) (mapped (kept_if (sym (patterns-u pp xn) i || sym (patterns-u qq yn) i)) (made'' (all_names (sym (names-u ps) i) (sym (names-u qs) i))))))
      (with_notes Un (note_if nulls (absent_notes ps x c qs y d)) (noted (note_if H (both_ways of_names)) (mapped (kept_if H) made)) (noted (note_if H (both_ways of_names)) (mapped (kept_if H) (made'' Names)))
      (with_notes Un (note_if H (both_ways of_names)) (mapped (kept_if H) made) (mapped (kept_if H) (made'' Names))
      (through Un Un (kept_if H) (kept_if H) (λ os. kept_if-u H os) made (made'' Names)
      (next Um Un (two_rests join' x y) (two_rests join'' (Um x) (Um y)) later (later'' Names) (rests x y)
      (λ z. next Ur Un (props z) (props'' Names (Um z)) (rules z) (rules (Um z))
      (subst (λ b. Agrees Ur (props z) (properties_of join'' (Ur ps) (Um x) (Ur qs) (Um y) nulls object_type b (joined_members c d).required Names)) (sym (rest-u z)) (all_properties ps x qs y nulls object_type (no_rest z) (joined_members c d).required Names))
      (λ ps. through (λ r. r) Un (λ rules. named ps no_properties z no_schema rules) (λ rules. named (Ur ps) no_properties (Um z) no_schema rules) (λ r. refl) (two_member_rules object_type c d) (two_member_rules object_type c d) (itself (two_member_rules object_type c d))))))))
    where
      H : Bool
      H = has_patterns pp xn || has_patterns qq yn

      Names : List (List ℕ)
      Names = all_names (names_of ps) (names_of qs)

      rules : MaybeSchema → Properties → Outcome Named
      rules rest ps = mapped (λ rules. named ps no_properties rest no_schema rules) (two_member_rules object_type c d)

      props : MaybeSchema → Outcome Properties
      props rest = properties_of join' ps x qs y nulls object_type (no_rest rest) (joined_members c d).required Names

      later : MaybeSchema → Outcome Named
      later rest = and_then (props rest) (rules rest)

      made : Outcome Named
      made = and_then (two_rests join' x y) later

      props'' : List (List ℕ) → MaybeSchema → Outcome Properties
      props'' ns rest = properties_of join'' (Ur ps) (Um x) (Ur qs) (Um y) nulls object_type (no_rest rest) (joined_members c d).required ns

      later'' : List (List ℕ) → MaybeSchema → Outcome Named
      later'' ns rest = and_then (props'' ns rest) (rules rest)

      made'' : List (List ℕ) → Outcome Named
      made'' ns = and_then (two_rests join'' (Um x) (Um y)) (later'' ns)

  -- ---- members of anyOf and oneOf

  stands_alike : (how : As) (s merge : Schema) (ns : List Note) → Agrees Uw (stands_for how s merge ns) (stands_for how (U s) (U merge) ns)
  stands_alike how s merge ns = λ i. noted ns (answer (lost_sizes (loses-u merge s i)) (left (record { how = how; wider = loses-u merge s i || has_way widened ns; schema = U s })))

  one_fate : (b m : Schema) (others : List Schema) (o p : Outcome Schema) → Agrees U o p → Agrees Uw (fate b m others o) (fate (U b) (U m) (map U others) p)
  one_fate b m others o p h = under U Uw (fate b m others) (fate (U b) (U m) (map U others)) (λ w. refl) at o p h
    where
      at : (o : Outcome Schema) → Agrees Uw (fate b m others o) (fate (U b) (U m) (map U others) (mapped U o))
      at (fault (depth w)) = tt
      at (fault (unsupported x)) = refl
      at (never ns) = refl
      at (answer ns merge) =
          either_way Uw (roughly merge b) (roughly (U merge) (U b)) (roughly-u merge b)
          (stands_for as_body b merge ns) (if roughly merge m then stands_for as_member m merge ns else answer ns (left (record { how = joined; wider = has_way widened ns; schema = joint b m others })))
          (stands_for as_body (U b) (U merge) ns) (if roughly (U merge) (U m) then stands_for as_member (U m) (U merge) ns else answer ns (left (record { how = joined; wider = has_way widened ns; schema = joint (U b) (U m) (map U others) })))
          (stands_alike as_body b merge ns)
          (either_way Uw (roughly merge m) (roughly (U merge) (U m)) (roughly-u merge m)
          (stands_for as_member m merge ns) (answer ns (left (record { how = joined; wider = has_way widened ns; schema = joint b m others })))
          (stands_for as_member (U m) (U merge) ns) (answer ns (left (record { how = joined; wider = has_way widened ns; schema = joint (U b) (U m) (map U others) })))
          (stands_alike as_member m merge ns)
          (λ i. answer ns (left (record { how = joined; wider = has_way widened ns; schema = sym (joint-u b m others) i }))))

  all_fates : (b : Schema) (before ms : List Schema) → Agrees Uk (fates join' b before ms) (fates join'' (U b) (map U before) (map U ms))
  all_fates b before [] = refl
  all_fates b before (m ∷ ms) =
      next Uw Uk (fate b m (before ++ ms) (join' b m)) (fate (U b) (U m) (map U before ++ map U ms) (join'' (U b) (U m)))
      (λ f. mapped (with_fate f) (fates join' b (before ++ (m ∷ [])) ms)) (λ f. mapped (with_fate f) (fates join'' (U b) (map U before ++ (U m ∷ [])) (map U ms)))
      (subst (λ us. Agrees Uw (fate b m (before ++ ms) (join' b m)) (fate (U b) (U m) us (join'' (U b) (U m)))) (sym (map-both before ms)) (one_fate b m (before ++ ms) (join' b m) (join'' (U b) (U m)) (more b m)))
      (λ f. through Uk Uk (with_fate f) (with_fate (Uw f)) (λ k. with_fate-u f k) (fates join' b (before ++ (m ∷ [])) ms) (fates join'' (U b) (map U before ++ (U m ∷ [])) (map U ms))
      (subst (λ us. Agrees Uk (fates join' b (before ++ (m ∷ [])) ms) (fates join'' (U b) us (map U ms))) (sym (map-both before (m ∷ []))) (all_fates b (before ++ (m ∷ [])) ms)))

  gather : (f : List Schema → Schema) → ((ss : List Schema) → U (f ss) ≡ f (map U ss)) → (ss : List Schema) → Agrees U (gathered f ss) (gathered f (map U ss))
  gather f e [] = refl
  gather f e (s ∷ []) = refl
  gather f e (s ∷ t ∷ ss) = ap (answer []) (sym (e (s ∷ t ∷ ss)))

  finished_any : (apart : Bool) (k : Kept) → Agrees U (finish_any apart k) (finish_any apart (Uk k))
  finished_any apart k = subst (λ o. Agrees U (finish_any apart k) o) (λ i. noted (note_if (sym (any_narrows-u apart k) i) (less_than of_members ∷ [])) (gathered any_of (sym (left_schemas-u k.members) i)))
      (with_notes U (note_if (any_narrows apart k) (less_than of_members ∷ [])) (gathered any_of (left_schemas k.members)) (gathered any_of (map U (left_schemas k.members))) (gather any_of any_of-u (left_schemas k.members)))

  finished_one : (apart : Bool) (k : Kept) → Agrees U (finish_one apart k) (finish_one apart (Uk k))
  finished_one apart k = subst (λ o. Agrees U (finish_one apart k) o)
      (λ i. noted (note_if (sym (one_narrows-u k) i) (less_than of_members ∷ [])) (noted (note_if (sym (one_mixes-u apart k) i || sym (one_forgets-u apart k) i) (more_than of_members ∷ [])) (gathered one_of (sym (left_schemas-u k.members) i))))
      (with_notes U (note_if (one_narrows k) (less_than of_members ∷ [])) (noted (note_if (one_mixes apart k || one_forgets apart k) (more_than of_members ∷ [])) (gathered one_of (left_schemas k.members)))
      (noted (note_if (one_mixes apart k || one_forgets apart k) (more_than of_members ∷ [])) (gathered one_of (map U (left_schemas k.members))))
      (with_notes U (note_if (one_mixes apart k || one_forgets apart k) (more_than of_members ∷ [])) (gathered one_of (left_schemas k.members)) (gathered one_of (map U (left_schemas k.members))) (gather one_of one_of-u (left_schemas k.members))))

  module _ (less' less'' : Schema → Schema → Outcome Schema) (fewer : (a b : Schema) → Agrees U (less' a b) (less'' (U a) (U b))) where
    -- ---- several merges, and several taken away

    merged_from : (ss : Schemas) (s : Schema) → Agrees U (merge_from join' less' s ss) (merge_from join'' less'' (U s) (Ua ss))
    merged_from no_more s = refl
    merged_from (schema t ts) s = next U U (join' s t) (join'' (U s) (U t)) (λ m. merge_from join' less' m ts) (λ m. merge_from join'' less'' m (Ua ts)) (more s t) (λ m. merged_from ts m)

    pub merged_schemas : (ss : Schemas) → Agrees U (merge_schemas join' less' ss) (merge_schemas join'' less'' (Ua ss))
    merged_schemas no_more = refl
    merged_schemas (schema s ss) = merged_from ss s

    less_of_each : (ss : Schemas) (s : Schema) → Agrees U (less_each join' less' ss s) (less_each join'' less'' (Ua ss) (U s))
    less_of_each no_more s = refl
    less_of_each (schema t ts) s = next U U (less' s t) (less'' (U s) (U t)) (less_each join' less' ts) (less_each join'' less'' (Ua ts)) (fewer s t) (less_of_each ts)

    turned_alike : (o p : Outcome Schema) → Agrees U o p → Agrees U (turned_outcome o) (turned_outcome p)
    turned_alike o p h = under U U turned_outcome turned_outcome (λ w. refl) at o p h
      where
        at : (o : Outcome Schema) → Agrees U (turned_outcome o) (turned_outcome (mapped U o))
        at (fault (depth w)) = tt
        at (fault (unsupported x)) = refl
        at (never ns) = refl
        at (answer ns s) = refl

    less_of_merged : (s : Schema) (o p : Outcome Schema) → Agrees U o p → Agrees U (less_merged join' less' s o) (less_merged join'' less'' (U s) p)
    less_of_merged s o p h = under U U (less_merged join' less' s) (less_merged join'' less'' (U s)) (λ w. refl) at o p h
      where
        at : (o : Outcome Schema) → Agrees U (less_merged join' less' s o) (less_merged join'' less'' (U s) (mapped U o))
        at (fault (depth w)) = tt
        at (fault (unsupported x)) = refl
        at (never ns) = refl
        at (answer ns m) = with_notes U ns (less' s m) (less'' (U s) (U m)) (fewer s m)

    less_of_any : (any : MaybeSchemas) (s : Schema) → Agrees U (less_any join' less' any s) (less_any join'' less'' (mapped_list unwalked any) (U s))
    less_of_any no_list s = refl
    less_of_any (the_list ss) s = less_of_each ss s

    less_of_not : (none : MaybeSchema) (s : Schema) → Agrees U (less_not join' less' none s) (less_not join'' less'' (Um none) (U s))
    less_of_not no_schema s = refl
    less_of_not (the_schema t) s = more s t

    less_of_all : (all : MaybeSchemas) (s : Schema) → Agrees U (less_all join' less' all s) (less_all join'' less'' (mapped_list unwalked all) (U s))
    less_of_all no_list s = refl
    less_of_all (the_list ss) s = less_of_merged s (turned_outcome (merge_schemas join' less' ss)) (turned_outcome (merge_schemas join'' less'' (Ua ss))) (turned_alike (merge_schemas join' less' ss) (merge_schemas join'' less'' (Ua ss)) (merged_schemas ss))

    less_of_same : (ss : Same) (s : Schema) → Agrees U (less_same join' less' ss s) (less_same join'' less'' (Us ss) (U s))
    less_of_same no_same s = refl
    less_of_same (same_value all any one none c) s =
        next U U (less_any join' less' any s) (less_any join'' less'' (mapped_list unwalked any) (U s)) (λ t. and_then (less_not join' less' none t) (less_all join' less' all)) (λ t. and_then (less_not join'' less'' (Um none) t) (less_all join'' less'' (mapped_list unwalked all)))
        (less_of_any any s)
        (λ t. next U U (less_not join' less' none t) (less_not join'' less'' (Um none) (U t)) (less_all join' less' all) (less_all join'' less'' (mapped_list unwalked all)) (less_of_not none t) (less_of_all all))

    -- ---- what is taken from members

    of_property : (p q : MaybeSchema) → Agrees U (less_property less' p q) (less_property less'' (Um p) (Um q))
    of_property (the_schema s) (the_schema t) = instead U (boolean false) (boolean false) refl (less' s t) (less'' (U s) (U t)) (fewer s t)
    of_property (the_schema s) no_schema = refl
    of_property no_schema q = refl

    of_name : (b : Bool) (p q : MaybeSchema) → Agrees U (less_name less' b p q) (less_name less'' b (Um p) (Um q))
    of_name true p no_schema = refl
    of_name true p (the_schema t) = of_property p (the_schema t)
    of_name false p q = of_property p q

    of_properties : (ps qs : Properties) (needed ns : List (List ℕ)) → Agrees Ur (less_properties less' ps qs needed ns) (less_properties less'' (Ur ps) (Ur qs) needed ns)
    of_properties ps qs needed [] = refl
    of_properties ps qs needed (n ∷ ns) =
        next U Ur (less_name less' (is_name n needed) (property_at n ps) (property_at n qs)) (less_name less'' (is_name n needed) (property_at n (Ur ps)) (property_at n (Ur qs)))
        (λ s. mapped (property n s) (less_properties less' ps qs needed ns)) (λ s. mapped (property n s) (less_properties less'' (Ur ps) (Ur qs) needed ns))
        (subst (λ o. Agrees U (less_name less' (is_name n needed) (property_at n ps) (property_at n qs)) o) (λ i. less_name less'' (is_name n needed) (sym (at-u n ps) i) (sym (at-u n qs) i)) (of_name (is_name n needed) (property_at n ps) (property_at n qs)))
        (λ s. through Ur Ur (property n s) (property n (U s)) (λ ps. refl) (less_properties less' ps qs needed ns) (less_properties less'' (Ur ps) (Ur qs) needed ns) (of_properties ps qs needed ns))

    of_needed : (needed : List (List ℕ)) (ps : Properties) → Agrees Ur (unless_needed less' needed ps) (unless_needed less'' needed (Ur ps))
    of_needed needed no_properties = refl
    of_needed needed (property n s ps) =
        either_way Ur (is_false s && is_name n needed) (is_false (U s) && is_name n needed) (ap (λ b. b && is_name n needed) (false-u s)) (never []) (mapped (property n s) (unless_needed less' needed ps)) (never []) (mapped (property n (U s)) (unless_needed less'' needed (Ur ps))) refl
        (through Ur Ur (property n s) (property n (U s)) (λ ps. refl) (unless_needed less' needed ps) (unless_needed less'' needed (Ur ps)) (of_needed needed ps))

    of_named : (ns os : Named) → Agrees Un (less_named less' ns os) (less_named less'' (Un ns) (Un os))
    of_named no_named os = refl
    of_named (named ps pp x xn c) no_named = refl
    of_named (named ps pp x xn c) (named qs qq y yn d) =
        through Ur Un (λ props. named props pp x xn c) (λ props. named props (Ur pp) (Um x) (Um xn) c) (λ ps. refl)
        (and_then (less_properties less' ps qs d.required (all_names (names_of ps) (all_names (names_of qs) d.required))) (unless_needed less' c.required))
        (and_then (less_properties less'' (Ur ps) (Ur qs) d.required (all_names (names_of (Ur ps)) (all_names (names_of (Ur qs)) d.required))) (unless_needed less'' c.required))
        (next Ur Ur (less_properties less' ps qs d.required (all_names (names_of ps) (all_names (names_of qs) d.required))) (less_properties less'' (Ur ps) (Ur qs) d.required (all_names (names_of (Ur ps)) (all_names (names_of (Ur qs)) d.required)))
        (unless_needed less' c.required) (unless_needed less'' c.required)
        (subst (λ ns. Agrees Ur (less_properties less' ps qs d.required (all_names (names_of ps) (all_names (names_of qs) d.required))) (less_properties less'' (Ur ps) (Ur qs) d.required ns))
        (λ i. all_names (sym (names-u ps) i) (all_names (sym (names-u qs) i) d.required)) (of_properties ps qs d.required (all_names (names_of ps) (all_names (names_of qs) d.required))))
        (of_needed c.required))

    of_values : (p : Plain) (x y : Option (List Value)) → Agrees unwalked (less_values p x y) (less_values (unwalked p) x y)
    of_values p (Some vs) (Some ws) = go (filter (λ v. not (is_listed v ws)) vs)
      where
        go : (xs : List Value) → Agrees unwalked (left_values p xs) (left_values (unwalked p) xs)
        go [] = refl
        go (x ∷ xs) = refl
    of_values p None y = refl
    of_values p (Some vs) None = refl

    module _ (d : Document) where
      -- ---- the subschemas of a side

      of_each : (ss : Schemas) (b : Schema) → Agrees U (with_each d join' less' ss b) (with_each d join'' less'' (Ua ss) (U b))
      of_each no_more b = refl
      of_each (schema s ss) b = next U U (join' b s) (join'' (U b) (U s)) (with_each d join' less' ss) (with_each d join'' less'' (Ua ss)) (more b s) (of_each ss)

      of_all : (all : MaybeSchemas) (b : Schema) → Agrees U (with_all d join' less' all b) (with_all d join'' less'' (mapped_list unwalked all) (U b))
      of_all no_list b = refl
      of_all (the_list ss) b = of_each ss b

      of_none : (none : MaybeSchema) (b : Schema) → Agrees U (without d join' less' none b) (without d join'' less'' (Um none) (U b))
      of_none no_schema b = refl
      of_none (the_schema s) b = fewer b s

      fates_of_list : (ss : Schemas) (b : Schema) → Agrees Uk (fates join' b [] (schema_list ss)) (fates join'' (U b) [] (schema_list (Ua ss)))
      fates_of_list ss b = subst (λ us. Agrees Uk (fates join' b [] (schema_list ss)) (fates join'' (U b) [] us)) (sym (list-u ss)) (all_fates b [] (schema_list ss))

      of_any : (any : MaybeSchemas) (b : Schema) → Agrees U (with_any d join' less' any b) (with_any d join'' less'' (mapped_list unwalked any) (U b))
      of_any no_list b = refl
      of_any (the_list ss) b = next Uk U (fates join' b [] (schema_list ss)) (fates join'' (U b) [] (schema_list (Ua ss))) (finish_any (exclusive d (schema_list ss))) (finish_any (exclusive d (schema_list (Ua ss)))) (fates_of_list ss b)
          (λ k. subst (λ a. Agrees U (finish_any (exclusive d (schema_list ss)) k) (finish_any a (Uk k))) (sym (exclusive_list-u d ss)) (finished_any (exclusive d (schema_list ss)) k))

      of_one : (one : MaybeSchemas) (b : Schema) → Agrees U (with_one d join' less' one b) (with_one d join'' less'' (mapped_list unwalked one) (U b))
      of_one no_list b = refl
      of_one (the_list ss) b = next Uk U (fates join' b [] (schema_list ss)) (fates join'' (U b) [] (schema_list (Ua ss))) (finish_one (exclusive d (schema_list ss))) (finish_one (exclusive d (schema_list (Ua ss)))) (fates_of_list ss b)
          (λ k. subst (λ a. Agrees U (finish_one (exclusive d (schema_list ss)) k) (finish_one a (Uk k))) (sym (exclusive_list-u d ss)) (finished_one (exclusive d (schema_list ss)) k))

      of_same : (ss : Same) (b : Schema) → Agrees U (with_same d join' less' ss b) (with_same d join'' less'' (Us ss) (U b))
      of_same no_same b = refl
      of_same (same_value all any one none c) b =
          next U U (with_all d join' less' all b) (with_all d join'' less'' (mapped_list unwalked all) (U b))
          (λ b. and_then (without d join' less' none b) (λ b'. and_then (with_any d join' less' any b') (with_one d join' less' one)))
          (λ b. and_then (without d join'' less'' (Um none) b) (λ b'. and_then (with_any d join'' less'' (mapped_list unwalked any) b') (with_one d join'' less'' (mapped_list unwalked one))))
          (of_all all b)
          (λ b. next U U (without d join' less' none b) (without d join'' less'' (Um none) (U b)) (λ b'. and_then (with_any d join' less' any b') (with_one d join' less' one)) (λ b'. and_then (with_any d join'' less'' (mapped_list unwalked any) b') (with_one d join'' less'' (mapped_list unwalked one)))
          (of_none none b)
          (λ b'. next U U (with_any d join' less' any b') (with_any d join'' less'' (mapped_list unwalked any) (U b')) (with_one d join' less' one) (with_one d join'' less'' (mapped_list unwalked one)) (of_any any b') (of_one one)))

      both_stand : (x y : MaybeSchemas) → stand_both (mapped_list unwalked x) (mapped_list unwalked y) ≡ stand_both x y
      both_stand no_list no_list = refl
      both_stand no_list (the_list ts) = refl
      both_stand (the_list ss) no_list = refl
      both_stand (the_list ss) (the_list ts) = refl

      refuse : (ss : Same) (o p : Outcome Schema) → Agrees U o p → Agrees U (refused ss o) (refused (Us ss) p)
      refuse no_same o p h = h
      refuse (same_value all any one none c) o p h =
          either_way U c c refl (fault (unsupported conditional)) (if stand_both any one then fault (unsupported any_one) else o) (fault (unsupported conditional)) (if stand_both (mapped_list unwalked any) (mapped_list unwalked one) then fault (unsupported any_one) else p) refl
          (either_way U (stand_both any one) (stand_both (mapped_list unwalked any) (mapped_list unwalked one)) (both_stand any one) (fault (unsupported any_one)) o (fault (unsupported any_one)) p refl h)

      -- ---- objects

      bodies : (p : Plain) (ls : Lists) (ns : Named) (q : Plain) (ms : Lists) (os : Named) → Agrees U (body d join' less' p ls ns q ms os) (body d join'' less'' (unwalked p) (Ul ls) (Un ns) (unwalked q) (Ul ms) (Un os))
      bodies p ls ns q ms os =
          next (λ z. z) U (where_both two_types p.types q.types) (where_both two_types p.types q.types) (k1 join' ls ns ms os) (k1 join'' (Ul ls) (Un ns) (Ul ms) (Un os)) (itself (where_both two_types p.types q.types)) (λ t.
          next (λ z. z) U (where_both two_formats p.format q.format) (where_both two_formats p.format q.format) (k2 join' ls ns ms os t) (k2 join'' (Ul ls) (Un ns) (Ul ms) (Un os) t) (itself (where_both two_formats p.format q.format)) (λ f.
          next (λ z. z) U (where_both (two_numbers (is_only Integer t)) p.numbers q.numbers) (where_both (two_numbers (is_only Integer t)) p.numbers q.numbers) (k3 join' ls ns ms os t f) (k3 join'' (Ul ls) (Un ns) (Ul ms) (Un os) t f) (itself (where_both (two_numbers (is_only Integer t)) p.numbers q.numbers)) (λ n.
          next (λ z. z) U (where_both (two_texts (is_only Text t)) p.texts q.texts) (where_both (two_texts (is_only Text t)) p.texts q.texts) (k4 join' ls ns ms os t f n) (k4 join'' (Ul ls) (Un ns) (Ul ms) (Un os) t f n) (itself (where_both (two_texts (is_only Text t)) p.texts q.texts)) (λ x.
          next Ul U (two_lists_parts join' (is_only Array t) ls ms) (two_lists_parts join'' (is_only Array t) (Ul ls) (Ul ms)) (k5 join' ns os t f n x) (k5 join'' (Un ns) (Un os) t f n x) (both_lists (is_only Array t) ls ms) (λ l.
          next Un U (two_named join' (counts_as_absent d.setting null) (is_only Object t) ns os) (two_named join'' (counts_as_absent d.setting null) (is_only Object t) (Un ns) (Un os)) (k6 t f n x l) (k6 t f n x (Ul l)) (both_named (counts_as_absent d.setting null) (is_only Object t) ns os) (λ m.
          through (λ z. z) U (λ values. object (record no_plain { types = t; format = f; numbers = n; texts = x; enum_values = values }) no_same l m) (λ values. object (record no_plain { types = t; format = f; numbers = n; texts = x; enum_values = values }) no_same (Ul l) (Un m)) (λ z. refl)
          (where_both two_lists (values_of p) (values_of q)) (where_both two_lists (values_of p) (values_of q)) (itself (where_both two_lists (values_of p) (values_of q)))))))))
        where
          k6 : Option Types → Option (List ℕ) → Option Numbers → Option Texts → Lists → Named → Outcome Schema
          k6 t f n x l m = mapped (λ values. object (record no_plain { types = t; format = f; numbers = n; texts = x; enum_values = values }) no_same l m) (where_both two_lists (values_of p) (values_of q))

          k5 : (Schema → Schema → Outcome Schema) → Named → Named → Option Types → Option (List ℕ) → Option Numbers → Option Texts → Lists → Outcome Schema
          k5 j ns os t f n x l = and_then (two_named j (counts_as_absent d.setting null) (is_only Object t) ns os) (k6 t f n x l)

          k4 : (Schema → Schema → Outcome Schema) → Lists → Named → Lists → Named → Option Types → Option (List ℕ) → Option Numbers → Option Texts → Outcome Schema
          k4 j ls ns ms os t f n x = and_then (two_lists_parts j (is_only Array t) ls ms) (k5 j ns os t f n x)

          k3 : (Schema → Schema → Outcome Schema) → Lists → Named → Lists → Named → Option Types → Option (List ℕ) → Option Numbers → Outcome Schema
          k3 j ls ns ms os t f n = and_then (where_both (two_texts (is_only Text t)) p.texts q.texts) (k4 j ls ns ms os t f n)

          k2 : (Schema → Schema → Outcome Schema) → Lists → Named → Lists → Named → Option Types → Option (List ℕ) → Outcome Schema
          k2 j ls ns ms os t f = and_then (where_both (two_numbers (is_only Integer t)) p.numbers q.numbers) (k3 j ls ns ms os t f)

          k1 : (Schema → Schema → Outcome Schema) → Lists → Named → Lists → Named → Option Types → Outcome Schema
          k1 j ls ns ms os t = and_then (where_both two_formats p.format q.format) (k2 j ls ns ms os t)

      objects : (p : Plain) (ss : Same) (ls : Lists) (ns : Named) (q : Plain) (tt' : Same) (ms : Lists) (os : Named) → Agrees U (two_objects d join' less' p ss ls ns q tt' ms os) (two_objects d join'' less'' (unwalked p) (Us ss) (Ul ls) (Un ns) (unwalked q) (Us tt') (Ul ms) (Un os))
      objects p ss ls ns q tt' ms os =
          refuse ss (refused tt' (unless_mixed (names_mix ns os) whole)) (refused (Us tt') (unless_mixed (names_mix (Un ns) (Un os)) whole''))
          (refuse tt' (unless_mixed (names_mix ns os) whole) (unless_mixed (names_mix (Un ns) (Un os)) whole'')
          (either_way U (names_mix ns os) (names_mix (Un ns) (Un os)) (mix-u ns os) (fault (unsupported pattern_names)) whole (fault (unsupported pattern_names)) whole'' refl
          (next U U (body d join' less' p ls ns q ms os) (body d join'' less'' (unwalked p) (Ul ls) (Un ns) (unwalked q) (Ul ms) (Un os)) first first'' (bodies p ls ns q ms os)
          (λ b. next U U (with_same d join' less' ss b) (with_same d join'' less'' (Us ss) (U b)) last last'' (of_same ss b)
          (λ b'. through U U tidied tidied tidied-u (with_same d join' less' tt' b') (with_same d join'' less'' (Us tt') (U b')) (of_same tt' b'))))))
        where
          last : Schema → Outcome Schema
          last b' = mapped tidied (with_same d join' less' tt' b')

          first : Schema → Outcome Schema
          first b = and_then (with_same d join' less' ss b) last

          whole : Outcome Schema
          whole = and_then (body d join' less' p ls ns q ms os) first

          last'' : Schema → Outcome Schema
          last'' b' = mapped tidied (with_same d join'' less'' (Us tt') b')

          first'' : Schema → Outcome Schema
          first'' b = and_then (with_same d join'' less'' (Us ss) b) last''

          whole'' : Outcome Schema
          whole'' = and_then (body d join'' less'' (unwalked p) (Ul ls) (Un ns) (unwalked q) (Ul ms) (Un os)) first''

      pub with_subschemas_agree : (b : Schema) (ss : Same) → Agrees U (with_subschemas_layer d join' less' b ss) (with_subschemas_layer d join'' less'' (U b) (Us ss))
      with_subschemas_agree b ss = refuse ss (mapped tidied (with_same d join' less' ss b)) (mapped tidied (with_same d join'' less'' (Us ss) (U b))) (through U U tidied tidied tidied-u (with_same d join' less' ss b) (with_same d join'' less'' (Us ss) (U b)) (of_same ss b))

      -- ---- references

      module _ (no_walks : HoldsNoWalks d) where
        stand : (q : List ℕ) (t m : Schema) → U t ≡ t → Agrees U (stands_for_target q t m) (stands_for_target q t (U m))
        stand q t m e = subst (λ x. Agrees U (stands_for_target q t m) (stands_for_target q x (U m))) e
            (either_way U (roughly m t) (roughly (U m) (U t)) (roughly-u m t) (answer (lost_sizes (loses m t)) (reference_to q)) (answer [] m) (answer (lost_sizes (loses (U m) (U t))) (reference_to q)) (answer [] (U m))
            (ap (λ b. answer (lost_sizes b) (reference_to q)) (loses-u m t)) refl)

        to_target : (q : List ℕ) (b : Schema) (o : Option Schema) → target d q ≡ o → Agrees U (target_merged q o (λ t. join' t b)) (target_merged q o (λ t. join'' t (U b)))
        to_target q b None e = refl
        to_target q b (Some t) e = next U U (join' t b) (join'' t (U b)) (stands_for_target q t) (stands_for_target q t) (subst (λ x. Agrees U (join' t b) (join'' x (U b))) (no_walks q t e) (more t b)) (λ m. stand q t m (no_walks q t e))

        beside_target : (p : Plain) (ss : Same) (ls : Lists) (ns : Named) (q : List ℕ) (b : Schema) → Agrees U (noted (lost_sizes (drops_siblings p ss ls ns)) (target_merged q (target d q) (λ t. join' t b)))
            (noted (lost_sizes (drops_siblings (unwalked p) (Us ss) (Ul ls) (Un ns))) (target_merged q (target d q) (λ t. join'' t (U b))))
        beside_target p ss ls ns q b = subst (λ x. Agrees U (noted (lost_sizes (drops_siblings p ss ls ns)) (target_merged q (target d q) (λ t. join' t b))) (noted (lost_sizes x) (target_merged q (target d q) (λ t. join'' t (U b))))) (sym (siblings-u p ss ls ns))
            (with_notes U (lost_sizes (drops_siblings p ss ls ns)) (target_merged q (target d q) (λ t. join' t b)) (target_merged q (target d q) (λ t. join'' t (U b))) (to_target q b (target d q) refl))

        pub references_agree : (p : Plain) (ss : Same) (ls : Lists) (ns : Named) (q : Plain) (tt' : Same) (ms : Lists) (os : Named) (f g : Option (List ℕ))
            → Agrees U (by_references d join' less' p ss ls ns q tt' ms os f g) (by_references d join'' less'' (unwalked p) (Us ss) (Ul ls) (Un ns) (unwalked q) (Us tt') (Ul ms) (Un os) f g)
        references_agree p ss ls ns q tt' ms os None None = objects p ss ls ns q tt' ms os
        references_agree p ss ls ns q tt' ms os None (Some g) = beside_target q tt' ms os g (object p ss ls ns)
        references_agree p ss ls ns q tt' ms os (Some f) None = beside_target p ss ls ns f (object q tt' ms os)
        references_agree p ss ls ns q tt' ms os (Some f) (Some g) =
            either_way U (bytes_eq f g) (bytes_eq f g) refl (answer (lost_sizes (drops_siblings p ss ls ns || drops_siblings q tt' ms os)) (reference_to f)) (noted (lost_sizes (drops_siblings p ss ls ns)) (target_merged f (target d f) (λ t. join' t (object q tt' ms os))))
            (answer (lost_sizes (drops_siblings (unwalked p) (Us ss) (Ul ls) (Un ns) || drops_siblings (unwalked q) (Us tt') (Ul ms) (Un os))) (reference_to f)) (noted (lost_sizes (drops_siblings (unwalked p) (Us ss) (Ul ls) (Un ns))) (target_merged f (target d f) (λ t. join'' t (U (object q tt' ms os)))))
            (λ i. answer (lost_sizes (siblings-u p ss ls ns i || siblings-u q tt' ms os i)) (reference_to f)) (beside_target p ss ls ns f (object q tt' ms os))

      -- ---- taking away

      less_objects : (p : Plain) (ss : Same) (ls : Lists) (ns : Named) (q : Plain) (tt' : Same) (ms : Lists) (os : Named)
          → Agrees U (less_object d join' less' p ss ls ns q tt' ms os) (less_object d join'' less'' (unwalked p) (Us ss) (Ul ls) (Un ns) (unwalked q) (Us tt') (Ul ms) (Un os))
      less_objects p ss ls ns q tt' ms os =
          next unwalked U (less_values p p.enum_values q.enum_values) (less_values (unwalked p) p.enum_values q.enum_values)
          (λ p'. and_then (less_named less' ns os) (λ ns'. less_same join' less' tt' (object p' ss ls ns'))) (λ p'. and_then (less_named less'' (Un ns) (Un os)) (λ ns'. less_same join'' less'' (Us tt') (object p' (Us ss) (Ul ls) ns')))
          (of_values p p.enum_values q.enum_values)
          (λ p'. next Un U (less_named less' ns os) (less_named less'' (Un ns) (Un os)) (λ ns'. less_same join' less' tt' (object p' ss ls ns')) (λ ns'. less_same join'' less'' (Us tt') (object (unwalked p') (Us ss) (Ul ls) ns'))
          (of_named ns os) (λ ns'. less_of_same tt' (object p' ss ls ns')))

      exact-u : (p : Plain) (ss : Same) (ls : Lists) (ns : Named) (q : Plain) (tt' : Same) (ms : Lists) (os : Named)
          → is_exact d join'' less'' (unwalked p) (Un ns) (object (unwalked p) (Us ss) (Ul ls) (Un ns)) (unwalked q) (Us tt') (Ul ms) (Un os) (object (unwalked q) (Us tt') (Ul ms) (Un os))
          ≡ is_exact d join' less' p ns (object p ss ls ns) q tt' ms os (object q tt' ms os)
      exact-u p ss ls ns q tt' ms os =
          λ i. values_alone-u d p q tt' ms os i || ((not (counts_as_absent d.setting null) && one_name-u d p ns q tt' ms os i) || (kinds_apart-u d (object p ss ls ns) (object q tt' ms os) q tt' os i || subschema_alone-u d q tt' ms os i))

      pub less_agrees : (a b : Schema) → Agrees U (less_layer d join' less' a b) (less_layer d join'' less'' (U a) (U b))
      less_agrees a (boolean true) = refl
      less_agrees a (boolean false) = refl
      less_agrees (boolean false) (object q tt' ms os) = refl
      less_agrees (boolean true) (object q tt' ms os) = refl
      less_agrees (object p ss ls ns) (object q tt' ms os) =
          either_way U (is_conditional ss || is_conditional tt') (is_conditional (Us ss) || is_conditional (Us tt')) (λ i. conditional-u ss i || conditional-u tt' i)
          (fault (unsupported conditional)) (if nat_le 2 (subschema_count tt') then fault (unsupported subtracting) else noted (notes exact) rest)
          (fault (unsupported conditional)) (if nat_le 2 (subschema_count (Us tt')) then fault (unsupported subtracting) else noted (notes exact'') rest'') refl
          (either_way U (nat_le 2 (subschema_count tt')) (nat_le 2 (subschema_count (Us tt'))) (ap (nat_le 2) (subschema_count-u tt')) (fault (unsupported subtracting)) (noted (notes exact) rest) (fault (unsupported subtracting)) (noted (notes exact'') rest'') refl
          (subst (λ x. Agrees U (noted (notes exact) rest) (noted (notes x) rest'')) (sym (exact-u p ss ls ns q tt' ms os)) (with_notes U (notes exact) rest rest'' (less_objects p ss ls ns q tt' ms os))))
        where
          notes : Bool → List Note
          notes x = note_if (not x) (both_ways of_subtract)

          exact : Bool
          exact = is_exact d join' less' p ns (object p ss ls ns) q tt' ms os (object q tt' ms os)

          exact'' : Bool
          exact'' = is_exact d join'' less'' (unwalked p) (Un ns) (object (unwalked p) (Us ss) (Ul ls) (Un ns)) (unwalked q) (Us tt') (Ul ms) (Un os) (object (unwalked q) (Us tt') (Ul ms) (Un os))

          rest : Outcome Schema
          rest = less_object d join' less' p ss ls ns q tt' ms os

          rest'' : Outcome Schema
          rest'' = less_object d join'' less'' (unwalked p) (Us ss) (Ul ls) (Un ns) (unwalked q) (Us tt') (Ul ms) (Un os)
