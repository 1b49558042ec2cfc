-- Each schema inside another stands where its steps lead to, where names differ.
use Rattle.std.proofs.Common.{◌≡◌, ℕ, List, [], ◌∷◌, ◌++◌, ◌&&◌, not, Bool, true, false, Option, Some, None, ◌⊎◌, inl, inr, refl, sym, ap, ◌∙◌, bytes_eq, codes, true≢false}
use Rattle.std.specs.Prelude.{Contains, option_and_then, if◌then◌else◌}
use Rattle.std.specs.List.{list_all}
use Rattle.std.proofs.lemmas.Slice.Eq.{bytes_eq-Decides}
use Rattle.schema_defs.specs.Location.{Step, Location, place}
use Rattle.schema_defs.specs.Schema.{Plain, Schema, boolean, object, Same, no_same, same_value, Lists, no_lists, lists, Named, no_named, named, MaybeSchema, no_schema, the_schema, Schemas, ListRules, MemberRules, Places, no_items, each_item, by_place, Properties, no_properties, property, Document}
use Rattle.schema_defs.specs.Layer.{property_at}
use Rattle.schema_defs.specs.Children.{Child, Node, at_document, at_definitions, at_schema, at_list, at_names, node_at, along, node_schema, schema_node, maybe_node, places_node, either_node, children_of_maybe, children_from, children_of_names, children_of_same, children_of_places, children_of_lists, children_of_named, schema_at}
use Rattle.schema_defs.proofs.Stand.{none_in, at_place, none_is_not, some_same, children_stand}
use Rattle.enum_defs.specs.Words.{names_of}
use Rattle.convert_defs.specs.Apart.{differ}
use Rattle.depth_laws.specs.Standing.{NamesDiffer, EveryChildStands}
use Rattle.depth_laws.proofs.AllPlaces.{Has, has-contains, contains-has}

-- ---- membership

has-either : {X : Type 0} (xs ys : List X) (x : X) → Has (xs ++ ys) x → Has xs x ⊎ Has ys x
has-either [] ys x h = inr h
has-either (z ∷ xs) ys x (inl e) = inl (inl e)
has-either (z ∷ xs) ys x (inr h) = elim (has-either xs ys x h) [ inl g ↦ inl (inr g) | inr g ↦ inr g ]

both-true : (b c : Bool) → (b && c) ≡ true → (b ≡ true) × (c ≡ true)
both-true true c e = (refl, e)
both-true false c e = absurd (true≢false (sym e))

-- ---- names

-- the property of a name
abbrev AtName : Step → Properties → Child → Type 0
AtName k ps c = (n : List ℕ) × (c.0 ≡ k ∷ n ∷ []) × (property_at n ps ≡ the_schema c.1) × Has (names_of ps) n

other-name : (n m : List ℕ) (ns : List (List ℕ)) → list_all (λ m. not (bytes_eq n m)) ns ≡ true → Has ns m → bytes_eq m n ≡ false
other-name n m [] e h = absurd h
other-name n m (k ∷ ns) e (inl f) = by (bytes_eq m n) refl
  where
    by : (b : Bool) → bytes_eq m n ≡ b → bytes_eq m n ≡ false
    by false g = g
    by true g =
        absurd (true≢false (sym (sym (ap not ((bytes_eq-Decides n k).1 (sym ((bytes_eq-Decides m n).0 g) ∙ sym f))) ∙ (both-true (not (bytes_eq n k)) (list_all (λ m. not (bytes_eq n m)) ns) e).0)))
other-name n m (k ∷ ns) e (inr h) = other-name n m ns (both-true (not (bytes_eq n k)) (list_all (λ m. not (bytes_eq n m)) ns) e).1 h

at-name : (k : Step) (ps : Properties) → differ (names_of ps) ≡ true → (c : Child) → Has (children_of_names k ps) c → AtName k ps c
at-name k no_properties e c h = absurd h
at-name k (property n s ps) e c (inl f) =
    (n, ap (λ c. c.0) (sym f), ap (λ b. if b then the_schema s else property_at n ps) ((bytes_eq-Decides n n).1 refl) ∙ ap (λ c. the_schema c.1) f, inl refl)
at-name k (property n s ps) e c (inr h) =
    let f : (list_all (λ m. not (bytes_eq n m)) (names_of ps) ≡ true) × (differ (names_of ps) ≡ true) = both-true (list_all (λ m. not (bytes_eq n m)) (names_of ps)) (differ (names_of ps)) e in
    let r : AtName k ps c = at-name k ps f.1 c h in
    (r.0, r.1, ap (λ b. if b then the_schema s else property_at r.0 ps) (other-name n r.0 (names_of ps) f.0 r.3) ∙ r.2, inr r.3)

-- ---- the steps of a child, from a node where its keyword leads to its part

module _ (n : Node) where
  -- the steps lead to the schema
  abbrev Leads : Child → Type 0
  Leads c = along c.0 n ≡ Some (at_schema c.1)

  maybe-child : (k : Step) (m : MaybeSchema) → node_at k n ≡ maybe_node m → (c : Child) → Has (children_of_maybe k m) c → Leads c
  maybe-child k no_schema e c h = absurd h
  maybe-child k (the_schema s) e c (inl g) = ap (λ c. along c.0 n) (sym g) ∙ ap (λ o. option_and_then (along []) o) e ∙ ap (λ c. Some (at_schema c.1)) g
  maybe-child k (the_schema s) e c (inr g) = absurd g

  from-child : (k : Step) (ss : Schemas) → node_at k n ≡ Some (at_list ss) → (c : Child) → Contains (children_from k 0 ss) c → Leads c
  from-child k ss e c h =
      let r = at_place k 0 ss c h in
      ap (λ l. along l n) r.2 ∙ ap (λ o. option_and_then (along (place r.0 ∷ [])) o) e ∙ ap (λ m. option_and_then (along []) (maybe_node m)) r.3

  names-child : (k : Step) (ps : Properties) → differ (names_of ps) ≡ true → node_at k n ≡ Some (at_names ps) → (c : Child) → Has (children_of_names k ps) c → Leads c
  names-child k ps apart e c h =
      let r : AtName k ps c = at-name k ps apart c h in
      ap (λ l. along l n) r.1 ∙ ap (λ o. option_and_then (along (r.0 ∷ [])) o) e ∙ ap (λ m. option_and_then (along []) (maybe_node m)) r.2

  places-child : (a : Places) → node_at (codes "items") n ≡ places_node a → (c : Child) → Has (children_of_places a) c → Leads c
  places-child no_items e c h = absurd h
  places-child (each_item s) e c (inl g) = ap (λ c. along c.0 n) (sym g) ∙ ap (λ o. option_and_then (along []) o) e ∙ ap (λ c. Some (at_schema c.1)) g
  places-child (each_item s) e c (inr g) = absurd g
  places-child (by_place ss) e c h = from-child (codes "items") ss e c (has-contains (children_from (codes "items") 0 ss) c h)

  lists-child : (a : Places) (x q : MaybeSchema) → node_at (codes "items") n ≡ places_node a → node_at (codes "additionalItems") n ≡ maybe_node x → node_at (codes "contains") n ≡ maybe_node q
      → (c : Child) → Has (children_of_places a ++ children_of_maybe (codes "additionalItems") x ++ children_of_maybe (codes "contains") q) c → Leads c
  lists-child a x q e f g c h =
      elim (has-either (children_of_places a ++ children_of_maybe (codes "additionalItems") x) (children_of_maybe (codes "contains") q) c h) [
        | inr i ↦ maybe-child (codes "contains") q g c i
        | inl i ↦ elim (has-either (children_of_places a) (children_of_maybe (codes "additionalItems") x) c i) [
          | inr j ↦ maybe-child (codes "additionalItems") x f c j
          | inl j ↦ places-child a e c j
        ]
      ]

  named-child : (ps pp : Properties) (x m : MaybeSchema) → differ (names_of ps) ≡ true → differ (names_of pp) ≡ true → node_at (codes "properties") n ≡ Some (at_names ps) → node_at (codes "patternProperties") n ≡ Some (at_names pp)
      → node_at (codes "additionalProperties") n ≡ maybe_node x → node_at (codes "propertyNames") n ≡ maybe_node m
      → (c : Child) → Has (children_of_names (codes "properties") ps ++ children_of_names (codes "patternProperties") pp ++ children_of_maybe (codes "additionalProperties") x ++ children_of_maybe (codes "propertyNames") m) c → Leads c
  named-child ps pp x m apart others e f g i c h =
      elim (has-either (children_of_names (codes "properties") ps ++ children_of_names (codes "patternProperties") pp ++ children_of_maybe (codes "additionalProperties") x) (children_of_maybe (codes "propertyNames") m) c h) [
        | inr j ↦ maybe-child (codes "propertyNames") m i c j
        | inl j ↦ elim (has-either (children_of_names (codes "properties") ps ++ children_of_names (codes "patternProperties") pp) (children_of_maybe (codes "additionalProperties") x) c j) [
          | inr k ↦ maybe-child (codes "additionalProperties") x g c k
          | inl k ↦ elim (has-either (children_of_names (codes "properties") ps) (children_of_names (codes "patternProperties") pp) c k) [
            | inr o ↦ names-child (codes "patternProperties") pp others f c o
            | inl o ↦ names-child (codes "properties") ps apart e c o
          ]
        ]
      ]

-- ---- where the keywords lead from a schema

no_other : (o : Option Node) → either_node o None ≡ o
no_other None = refl
no_other (Some n) = refl

items_at : (p : Plain) (ss : Same) (a : Places) (x q : MaybeSchema) (r : ListRules) (ns : Named) → schema_node (codes "items") (object p ss (lists a x q r) ns) ≡ places_node a
items_at p no_same a x q r no_named = no_other (places_node a)
items_at p no_same a x q r (named ps pp y m s) = no_other (places_node a)
items_at p (same_value f g h i j) a x q r no_named = no_other (places_node a)
items_at p (same_value f g h i j) a x q r (named ps pp y m s) = no_other (places_node a)

other_items_at : (p : Plain) (ss : Same) (a : Places) (x q : MaybeSchema) (r : ListRules) (ns : Named) → schema_node (codes "additionalItems") (object p ss (lists a x q r) ns) ≡ maybe_node x
other_items_at p no_same a x q r no_named = no_other (maybe_node x)
other_items_at p no_same a x q r (named ps pp y m s) = no_other (maybe_node x)
other_items_at p (same_value f g h i j) a x q r no_named = no_other (maybe_node x)
other_items_at p (same_value f g h i j) a x q r (named ps pp y m s) = no_other (maybe_node x)

contains_at : (p : Plain) (ss : Same) (a : Places) (x q : MaybeSchema) (r : ListRules) (ns : Named) → schema_node (codes "contains") (object p ss (lists a x q r) ns) ≡ maybe_node q
contains_at p no_same a x q r no_named = no_other (maybe_node q)
contains_at p no_same a x q r (named ps pp y m s) = no_other (maybe_node q)
contains_at p (same_value f g h i j) a x q r no_named = no_other (maybe_node q)
contains_at p (same_value f g h i j) a x q r (named ps pp y m s) = no_other (maybe_node q)

-- the words of members are none of the others
record MembersLead (ss : Same) (ls : Lists) (ps pp : Properties) (x m : MaybeSchema) (p : Plain) (r : MemberRules) : Type 0 where
  props : schema_node (codes "properties") (object p ss ls (named ps pp x m r)) ≡ Some (at_names ps)
  patterns : schema_node (codes "patternProperties") (object p ss ls (named ps pp x m r)) ≡ Some (at_names pp)
  others : schema_node (codes "additionalProperties") (object p ss ls (named ps pp x m r)) ≡ maybe_node x
  names : schema_node (codes "propertyNames") (object p ss ls (named ps pp x m r)) ≡ maybe_node m

members_lead : (ss : Same) (ls : Lists) (ps pp : Properties) (x m : MaybeSchema) (p : Plain) (r : MemberRules) → MembersLead ss ls ps pp x m p r
members_lead no_same no_lists ps pp x m p r = record { props = refl; patterns = refl; others = refl; names = refl }
members_lead no_same (lists a b c d) ps pp x m p r = record { props = refl; patterns = refl; others = refl; names = refl }
members_lead (same_value f g h i j) no_lists ps pp x m p r = record { props = refl; patterns = refl; others = refl; names = refl }
members_lead (same_value f g h i j) (lists a b c d) ps pp x m p r = record { props = refl; patterns = refl; others = refl; names = refl }

-- from a node a word leads where it leads from the node's schema, as it is no word of definitions
word_leads : (k : Step) → ((d : Document) → node_at k (at_document d) ≡ schema_node k d.root) → (n : Node) (s : Schema) → node_schema n ≡ Some s → node_at k n ≡ schema_node k s
word_leads k f (at_document d) s e = f d ∙ ap (λ t. schema_node k t) (some_same d.root s e)
word_leads k f (at_schema t) s e = ap (λ t. schema_node k t) (some_same t s e)
word_leads k f (at_definitions b d) s e = absurd (none_is_not s e)
word_leads k f (at_list ss) s e = absurd (none_is_not s e)
word_leads k f (at_names ps) s e = absurd (none_is_not s e)

module _ (n : Node) (p : Plain) (ss : Same) where
  lists-leads : (ls : Lists) (ns : Named) → node_schema n ≡ Some (object p ss ls ns) → (c : Child) → Has (children_of_lists ls) c → along c.0 n ≡ Some (at_schema c.1)
  lists-leads no_lists ns e c h = absurd h
  lists-leads (lists a x q r) ns e c h =
      lists-child n a x q (word_leads (codes "items") (λ d. refl) n (object p ss (lists a x q r) ns) e ∙ items_at p ss a x q r ns)
      (word_leads (codes "additionalItems") (λ d. refl) n (object p ss (lists a x q r) ns) e ∙ other_items_at p ss a x q r ns) (word_leads (codes "contains") (λ d. refl) n (object p ss (lists a x q r) ns) e ∙ contains_at p ss a x q r ns) c h

  named-leads : (ls : Lists) (ns : Named) → NamesDiffer ns → node_schema n ≡ Some (object p ss ls ns) → (c : Child) → Has (children_of_named ns) c → along c.0 n ≡ Some (at_schema c.1)
  named-leads ls no_named a e c h = absurd h
  named-leads ls (named ps pp x m r) a e c h =
      let w : MembersLead ss ls ps pp x m p r = members_lead ss ls ps pp x m p r in
      named-child n ps pp x m a.0 a.1 (word_leads (codes "properties") (λ d. refl) n (object p ss ls (named ps pp x m r)) e ∙ w.props) (word_leads (codes "patternProperties") (λ d. refl) n (object p ss ls (named ps pp x m r)) e ∙ w.patterns)
      (word_leads (codes "additionalProperties") (λ d. refl) n (object p ss ls (named ps pp x m r)) e ∙ w.others) (word_leads (codes "propertyNames") (λ d. refl) n (object p ss ls (named ps pp x m r)) e ∙ w.names) c h

-- ---- locations

along-both : (l m : Location) (o : Option Node) → option_and_then (along (l ++ m)) o ≡ option_and_then (along m) (option_and_then (along l) o)
along-both l m None = refl
along-both [] m (Some n) = refl
along-both (k ∷ l) m (Some n) = along-both l m (node_at k n)

module _ (p : Plain) (ss : Same) (ls : Lists) (ns : Named) (apart : NamesDiffer ns) where
  in-node : (n : Node) → node_schema n ≡ Some (object p ss ls ns) → (c : Child) → Has (children_of_lists ls) c ⊎ Has (children_of_named ns) c → along c.0 n ≡ Some (at_schema c.1)
  in-node n e c (inl h) = lists-leads n p ss ls ns e c h
  in-node n e c (inr h) = named-leads n p ss ls ns apart e c h

  in-option : (o : Option Node) → option_and_then node_schema o ≡ Some (object p ss ls ns) → (c : Child) → Has (children_of_lists ls) c ⊎ Has (children_of_named ns) c
      → option_and_then node_schema (option_and_then (along c.0) o) ≡ Some c.1
  in-option None e c h = absurd (none_is_not (object p ss ls ns) e)
  in-option (Some n) e c h = ap (λ o. option_and_then node_schema o) (in-node n e c h)

  beside-same : (d : Document) (l : Location) (c : Child) → schema_at d l ≡ Some (object p ss ls ns) → Has (children_of_lists ls) c ⊎ Has (children_of_named ns) c → schema_at d (l ++ c.0) ≡ Some c.1
  beside-same d l c e h = ap (λ o. option_and_then node_schema o) (along-both l c.0 (Some (at_document d))) ∙ in-option (along l (at_document d)) e c h

pub every_child_stands : EveryChildStands
every_child_stands d l (boolean b) c e a h = absurd (none_in c h)
every_child_stands d l (object p ss ls ns) c e a h =
    elim (has-either (children_of_same ss ++ children_of_lists ls) (children_of_named ns) c (contains-has (children_of_same ss ++ children_of_lists ls ++ children_of_named ns) c h)) [
      | inr g ↦ beside-same p ss ls ns a d l c e (inr g)
      | inl g ↦ elim (has-either (children_of_same ss) (children_of_lists ls) c g) [
        | inr i ↦ beside-same p ss ls ns a d l c e (inl i)
        | inl i ↦ children_stand d l (object p ss ls ns) c e (has-contains (children_of_same ss) c i)
      ]
    ]
