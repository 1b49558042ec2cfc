-- Each schema of a value stands where its steps lead.
use Rattle.std.proofs.Common.{◌≡◌, ℕ, suc, ◌<◌, ◌≤◌, List, [], ◌∷◌, ◌++◌, Option, Some, None, option_map, Bool, true, false, ◌||◌, bytes_eq, true≢false, refl, sym, ap, subst, ◌∙◌, inl, inr, arith}
use Rattle.std.specs.Prelude.{Contains, option_and_then, if◌then◌else◌}
use Rattle.std.specs.List.{flat_map}
use Rattle.std.proofs.lemmas.Slice.Eq.{bytes_eq-Decides}
use Rattle.json_value.specs.Value as value
use Rattle.json_value.specs.Value.{Value, Items, Members, null, number, fraction, text, list, item, no_items, member, no_members, member_at, has_name}
use Rattle.schema_defs.specs.Location.{Step, place}
use Rattle.schema_defs.proofs.Places.{place-injective}
use Rattle.schema_defs.proofs.Stand.{none_in, first_or_rest}
use Rattle.schema_faults.specs.declared.keyword.Holds.{Holds}
use Rattle.schema_faults.specs.declared.keyword.Holds.TheVariants.{Text, Anything, TypeNames, Values, Number, Multiple, Size, Flag, Texts, Schema, SomeSchemas, Schemas, SchemaOrSchemas, NamedSchemas, Defs, Definitions}
use Rattle.schema_faults.specs.Keywords.{Row, keywords, is_known_at, is_schema}
use Rattle.schema_faults.specs.Schemas.{Node, under, held, held_items, held_members, held_at, one_schema, nodes_in, nodes_at, nodes_of, list_nodes, object_nodes, schema_nodes, schemas_of}
use Rattle.schema_faults.proofs.Walk.{held_at-member}
use Rattle.distinct_names.specs.Names.{NamesDiffer, NamesOfItemsDiffer, MembersDiffer}
use Rattle.schema_laws.specs.ValueAt.{item_at, part_at, value_at}
use Rattle.schema_laws.specs.Laws.{SchemasStand}
use Rattle.schema_laws.proofs.Options.{chosen}

-- each of these stands in the value where its steps lead
abbrev pub AllStand : Value → List Node → Type 0
AllStand v [] = Unit {0}
AllStand v (n ∷ ns) = (value_at n.steps v ≡ Some n.value) × AllStand v ns

joined : (v : Value) (ms ns : List Node) → AllStand v ms → AllStand v ns → AllStand v (ms ++ ns)
joined v [] ns h g = g
joined v (m ∷ ms) ns h g = (h.0, joined v ms ns h.1 g)

-- what stands in a part stands in the value, one step further
one_step : (k : Step) (v w : Value) → part_at k v ≡ Some w → (ns : List Node) → AllStand w ns → AllStand v (under k ns)
one_step k v w e [] h = tt
one_step k v w e (n ∷ ns) h = (ap (λ o. option_and_then (value_at n.steps) o) e ∙ h.0, one_step k v w e ns h.1)

-- ---- what a value holds for a keyword

record Stands (v : Value) : Type 0 where
  nodes : (k : List ℕ) → AllStand v ((held v).nodes k)
  in_list : (k : List ℕ) → AllStand v ((held v).in_list k)
  in_object : (k : List ℕ) → AllStand v ((held v).in_object k)

abbrev StandsMaybe : Option Value → Type 0
StandsMaybe None = Unit {0}
StandsMaybe (Some v) = Stands v

one : (k : List ℕ) (v : Value) → Stands v → AllStand v (one_schema k (held v))
one k v g = chosen (AllStand v) (is_schema (held v).whole) ((held v).nodes k) [] (g.nodes k) tt

for_keyword : (k : List ℕ) (h : Holds) (v : Value) → Stands v → AllStand v (nodes_in (k, h) (held v))
for_keyword k Schema v g = one k v g
for_keyword k SomeSchemas v g = g.in_list k
for_keyword k Schemas v g = g.in_list k
for_keyword k SchemaOrSchemas v g = joined v (one_schema k (held v)) ((held v).in_list k) (one k v g) (g.in_list k)
for_keyword k NamedSchemas v g = g.in_object k
for_keyword k Defs v g = g.in_object k
for_keyword k Definitions v g = g.in_object k
for_keyword k Text v g = tt
for_keyword k Anything v g = tt
for_keyword k TypeNames v g = tt
for_keyword k Values v g = tt
for_keyword k Number v g = tt
for_keyword k Multiple v g = tt
for_keyword k Size v g = tt
for_keyword k Flag v g = tt
for_keyword k Texts v g = tt

module _ (ms : Members) (g : (n : List ℕ) → StandsMaybe (member_at n ms)) where
  at_row : (r : Row) (o : Option Value) → member_at r.0 ms ≡ o → StandsMaybe o → AllStand (value.object ms) (nodes_at r (option_map held o))
  at_row r None e h = tt
  at_row r (Some v) e h = one_step r.0 (value.object ms) v e (nodes_in r (held v)) (for_keyword r.0 r.1 v h)

  of_row : (b : Bool) (r : Row) → AllStand (value.object ms) (nodes_of b (held_members ms) r)
  of_row b r =
      chosen (AllStand (value.object ms)) (is_known_at b r.1) (nodes_at r (held_at r.0 (held_members ms))) []
      (subst (λ h. AllStand (value.object ms) (nodes_at r h)) (sym (held_at-member r.0 ms)) (at_row r (member_at r.0 ms) refl (g r.0)))
      tt

  of_rows : (b : Bool) (rs : List Row) → AllStand (value.object ms) (flat_map (nodes_of b (held_members ms)) rs)
  of_rows b [] = tt
  of_rows b (r ∷ rs) = joined (value.object ms) (nodes_of b (held_members ms) r) (flat_map (nodes_of b (held_members ms)) rs) (of_row b r) (of_rows b rs)

  of_object : (b : Bool) (k : List ℕ) → AllStand (value.object ms) (schema_nodes b k (value.object ms))
  of_object b k = (refl, of_rows b keywords)

-- ---- the items of a list, and the members of an object

-- the items from place i on are found in the list
abbrev pub Ends : Items → ℕ → Items → Type 0
Ends xs i vs = (j : ℕ) → i ≤ j → item_at (place j) 0 xs ≡ item_at (place j) i vs

pub other_place : (i j : ℕ) → i < j → (b : Bool) → bytes_eq (place j) (place i) ≡ b → b ≡ false
other_place i j h false e = refl
other_place i j h true e = absurd (omega (arith, place-injective j i ((bytes_eq-Decides (place j) (place i)).0 e)))

pub first_item : (xs : Items) (i : ℕ) (v : Value) (vs : Items) → Ends xs i (item v vs) → part_at (place i) (list xs) ≡ Some v
first_item xs i v vs h = h i (omega arith) ∙ ap (λ b. if b then Some v else item_at (place i) (suc i) vs) ((bytes_eq-Decides (place i) (place i)).1 refl)

pub later_items : (xs : Items) (i : ℕ) (v : Value) (vs : Items) → Ends xs i (item v vs) → Ends xs (suc i) vs
later_items xs i v vs h j lt = h j (omega arith) ∙ ap (λ b. if b then Some v else item_at (place j) (suc i) vs) (other_place i j (omega arith) (bytes_eq (place j) (place i)) refl)

-- the members of these names are found in the object
abbrev pub Names : Members → Members → Type 0
Names all ms = (n : List ℕ) → has_name n ms ≡ true → member_at n all ≡ member_at n ms

pub first_member : (all : Members) (n : List ℕ) (v : Value) (ms : Members) → Names all (member n v ms) → part_at n (value.object all) ≡ Some v
first_member all n v ms h =
    let e : bytes_eq n n ≡ true = (bytes_eq-Decides n n).1 refl in
    h n (ap (λ b. b || has_name n ms) e) ∙ ap (λ b. if b then Some v else member_at n ms) e

pub or_true : (b c : Bool) → c ≡ true → (b || c) ≡ true
or_true true c h = refl
or_true false c h = h

pub other_name : (m n : List ℕ) (ms : Members) → has_name n ms ≡ false → has_name m ms ≡ true → (b : Bool) → bytes_eq m n ≡ b → b ≡ false
other_name m n ms h g false e = refl
other_name m n ms h g true e = absurd (true≢false (sym g ∙ ap (λ l. has_name l ms) ((bytes_eq-Decides m n).0 e) ∙ h))

pub later_members : (all : Members) (n : List ℕ) (v : Value) (ms : Members) → has_name n ms ≡ false → Names all (member n v ms) → Names all ms
later_members all n v ms d h m g =
    h m (or_true (bytes_eq m n) (has_name m ms) g) ∙ ap (λ b. if b then Some v else member_at m ms) (other_name m n ms d g (bytes_eq m n) refl)

-- ---- each value

mutual
  stands : (v : Value) → NamesDiffer v → Stands v
  stands null d = record { nodes = λ k. (refl, tt); in_list = λ k. tt; in_object = λ k. tt }
  stands (value.boolean b) d = record { nodes = λ k. (refl, tt); in_list = λ k. tt; in_object = λ k. tt }
  stands (number z) d = record { nodes = λ k. (refl, tt); in_list = λ k. tt; in_object = λ k. tt }
  stands fraction d = record { nodes = λ k. (refl, tt); in_list = λ k. tt; in_object = λ k. tt }
  stands (text s) d = record { nodes = λ k. (refl, tt); in_list = λ k. tt; in_object = λ k. tt }
  stands (list xs) d = record { nodes = λ k. (refl, tt); in_list = λ k. items_stand xs d xs k 0 (λ j h. refl); in_object = λ k. tt }
  stands (value.object ms) d = record { nodes = λ k. of_object ms (member_stands ms d) false k; in_list = λ k. tt; in_object = λ k. members_stand ms d ms k (λ n h. refl) }

  items_stand : (vs : Items) → NamesOfItemsDiffer vs → (xs : Items) (k : List ℕ) (i : ℕ) → Ends xs i vs → AllStand (list xs) (list_nodes k i (held_items vs))
  items_stand no_items d xs k i h = tt
  items_stand (item v vs) d xs k i h =
      joined (list xs) (under (place i) ((held v).nodes k)) (list_nodes k (suc i) (held_items vs))
      (one_step (place i) (list xs) v (first_item xs i v vs h) ((held v).nodes k) ((stands v d.0).nodes k))
      (items_stand vs d.1 xs k (suc i) (later_items xs i v vs h))

  members_stand : (ms : Members) → MembersDiffer ms → (all : Members) (k : List ℕ) → Names all ms → AllStand (value.object all) (object_nodes k (held_members ms))
  members_stand no_members d all k h = tt
  members_stand (member n v ms) d all k h =
      joined (value.object all) (under n ((held v).nodes k)) (object_nodes k (held_members ms))
      (one_step n (value.object all) v (first_member all n v ms h) ((held v).nodes k) ((stands v d.1).nodes k))
      (members_stand ms d.2 all k (later_members all n v ms d.0 h))

  member_stands : (ms : Members) → MembersDiffer ms → (n : List ℕ) → StandsMaybe (member_at n ms)
  member_stands no_members d n = tt
  member_stands (member k v ms) d n = chosen StandsMaybe (bytes_eq n k) (Some v) (member_at n ms) (stands v d.1) (member_stands ms d.2 n)

pub all_stand : (v : Value) → NamesDiffer v → AllStand v (schemas_of v)
all_stand null d = (refl, tt)
all_stand (value.boolean b) d = (refl, tt)
all_stand (number z) d = (refl, tt)
all_stand fraction d = (refl, tt)
all_stand (text s) d = (refl, tt)
all_stand (list xs) d = (refl, tt)
all_stand (value.object ms) d = of_object ms (member_stands ms d) true []

each_stands : (v : Value) (ns : List Node) → AllStand v ns → (n : Node) → Contains ns n → value_at n.steps v ≡ Some n.value
each_stands v [] h n c = absurd (none_in n c)
each_stands v (m ∷ ms) h n c =
    elim (first_or_rest m ms n c) [
      | inl e ↦ subst (λ n. value_at n.steps v ≡ Some n.value) e h.0
      | inr g ↦ each_stands v ms h.1 n g
    ]

pub schemas_stand : SchemasStand
schemas_stand v d n c = each_stands v (schemas_of v) (all_stand v d) n c
