-- A same-value child stands where its steps lead to.
use Rattle.std.proofs.Common.{◌≡◌, ℕ, zero, suc, ◌<◌, ◌≤◌, List, [], ◌∷◌, ◌++◌, Bool, true, false, refl, sym, ap, subst, slice_index_or, ◌∙◌, inl, inr, arith, true≢false, bytes_eq}
use Rattle.std.specs.Prelude.{Option, Some, None, Contains, ◌⊎◌, option_and_then, codes, if◌then◌else◌}
use Rattle.std.proofs.lemmas.Slice.Eq.{bytes_eq-Decides}
use Rattle.std.proofs.lemmas.List.Elements.{Contains-append_right, Contains-append_cases}
use Rattle.schema_defs.specs.Location.{Step, Location, place}
use Rattle.schema_defs.specs.Schema.{Schema, boolean, object, Plain, Same, no_same, same_value, Lists, no_lists, lists, Named, no_named, named, MaybeSchema, no_schema, the_schema, MaybeSchemas, no_list, the_list, Schemas, no_more, schema, Document}
use Rattle.schema_defs.specs.Children.{Child, Node, at_document, at_definitions, at_schema, at_list, at_names, node_at, along, node_schema, schema_in, schema_node, same_node, lists_node, named_node, either_node, list_node, maybe_node, children_of_maybe, children_from, children_of_list, children_of_same, same_children}
use Rattle.schema_defs.specs.Laws.{ChildrenStand}
use Rattle.schema_defs.proofs.Places.{place-injective}

-- ---- membership

pub none_in : {X : Type 0} (x : X) → Contains [] x → ⊥
none_in x h = absurd (omega (arith, h.1))

only_in : {X : Type 0} (x y : X) (k : ℕ) → k < 1 → slice_index_or (x ∷ []) k y ≡ y → x ≡ y
only_in x y zero h e = e
only_in x y (suc k) h e = absurd (omega arith)

pub first_or_rest : {X : Type 0} (x : X) (xs : List X) (y : X) → Contains (x ∷ xs) y → (x ≡ y) ⊎ Contains xs y
first_or_rest x xs y h = elim (Contains-append_cases (x ∷ []) xs y h) [ inl g ↦ inl (only_in x y g.0 g.1 g.2) | inr g ↦ inr g ]

pub first_in : {X : Type 0} (x : X) (xs : List X) → Contains (x ∷ xs) x
first_in x xs = (0, omega arith, refl)

pub rest_in : {X : Type 0} (x : X) (xs : List X) (y : X) → Contains xs y → Contains (x ∷ xs) y
rest_in x xs y h = Contains-append_right (x ∷ []) xs y h

-- ---- the steps of a child

along-then : (l m : Location) (o : Option Node) → option_and_then (along (l ++ m)) o ≡ option_and_then (along m) (option_and_then (along l) o)
along-then l m None = refl
along-then [] m (Some n) = refl
along-then (k ∷ l) m (Some n) = along-then l m (node_at k n)

-- a place of the list that begins at i
abbrev pub AtPlace : Step → ℕ → Schemas → Child → Type 0
AtPlace k i ss c = (j : ℕ) × (i ≤ j) × (c.0 ≡ k ∷ place j ∷ []) × (schema_in (place j) i ss ≡ the_schema c.1)

other_place : (i j : ℕ) → i < j → (b : Bool) → bytes_eq (place j) (place i) ≡ b → b ≡ false
other_place i j h false e = refl
other_place i j h true e = absurd (omega (arith, place-injective j i ((bytes_eq-Decides (place j) (place i)).0 e)))

pub at_place : (k : Step) (i : ℕ) (ss : Schemas) (c : Child) → Contains (children_from k i ss) c → AtPlace k i ss c
at_place k i no_more c h = absurd (none_in c h)
at_place k i (schema s ss) c h =
    elim (first_or_rest (k ∷ place i ∷ [], s) (children_from k (suc i) ss) c h) [
      | inl e ↦ (
        i,
        omega arith,
        ap (λ c. c.0) (sym e),
        ap (λ b. if b then the_schema s else schema_in (place i) (suc i) ss) ((bytes_eq-Decides (place i) (place i)).1 refl) ∙ ap (λ c. the_schema c.1) e,
      )
      | inr g ↦
          let r = at_place k (suc i) ss c g in (
            r.0,
            omega (arith, r.1),
            r.2,
            ap (λ b. if b then the_schema s else schema_in (place r.0) (suc i) ss) (other_place i r.0 (omega (arith, r.1)) (bytes_eq (place r.0) (place i)) refl) ∙ r.3,
          )
    ]

list_child : (k : Step) (m : MaybeSchemas) (node : Node) → node_at k node ≡ list_node m → (c : Child) → Contains (children_of_list k m) c → along c.0 node ≡ Some (at_schema c.1)
list_child k no_list node e c h = absurd (none_in c h)
list_child k (the_list ss) node e c h =
    let r = at_place k 0 ss c h in
    ap (λ l. along l node) r.2 ∙ ap (λ o. option_and_then (along (place r.0 ∷ [])) o) e ∙ ap (λ m. option_and_then (along []) (maybe_node m)) r.3

maybe_child : (k : Step) (m : MaybeSchema) (node : Node) → node_at k node ≡ maybe_node m → (c : Child) → Contains (children_of_maybe k m) c → along c.0 node ≡ Some (at_schema c.1)
maybe_child k no_schema node e c h = absurd (none_in c h)
maybe_child k (the_schema s) node e c h =
    elim (first_or_rest (k ∷ [], s) [] c h) [
      | inl g ↦ ap (λ c. along c.0 node) (sym g) ∙ ap (λ o. option_and_then (along []) o) e ∙ ap (λ c. Some (at_schema c.1)) g
      | inr g ↦ absurd (none_in c g)
    ]

-- the four keywords lead from the node to the parts of ss
record LeadsTo (node : Node) (ss : Same) : Type 0 where
  all : node_at (codes "allOf") node ≡ same_node (codes "allOf") ss
  any : node_at (codes "anyOf") node ≡ same_node (codes "anyOf") ss
  one : node_at (codes "oneOf") node ≡ same_node (codes "oneOf") ss
  none : node_at (codes "not") node ≡ same_node (codes "not") ss

same_child : (node : Node) (ss : Same) → LeadsTo node ss → (c : Child) → Contains (children_of_same ss) c → along c.0 node ≡ Some (at_schema c.1)
same_child node no_same p c h = absurd (none_in c h)
same_child node (same_value all any one none conditional) p c h =
    let a = children_of_list (codes "allOf") all in
    let b = children_of_list (codes "anyOf") any in
    let o = children_of_list (codes "oneOf") one in
    elim (Contains-append_cases (a ++ b ++ o) (children_of_maybe (codes "not") none) c h) [
      | inr g ↦ maybe_child (codes "not") none node p.none c g
      | inl h ↦ elim (Contains-append_cases (a ++ b) o c h) [
        | inr g ↦ list_child (codes "oneOf") one node p.one c g
        | inl h ↦ elim (Contains-append_cases a b c h) [
          | inr g ↦ list_child (codes "anyOf") any node p.any c g
          | inl g ↦ list_child (codes "allOf") all node p.all c g
        ]
      ]
    ]

-- the other keywords have other names
or_other : (k : Step) (ss : Same) (ls : Lists) (ns : Named) → lists_node k ls ≡ None → named_node k ns ≡ None → either_node (same_node k ss) (either_node (lists_node k ls) (named_node k ns)) ≡ same_node k ss
or_other k ss ls ns e f = ap (λ o. either_node (same_node k ss) o) (ap (λ o. either_node o (named_node k ns)) e ∙ f) ∙ no_other (same_node k ss)
  where
    no_other : (o : Option Node) → either_node o None ≡ o
    no_other None = refl
    no_other (Some n) = refl

record OtherWord (k : Step) : Type 0 where
  no_list_word : (ls : Lists) → lists_node k ls ≡ None
  no_member_word : (ns : Named) → named_node k ns ≡ None

word_leads : (k : Step) → OtherWord k → (p : Plain) (ss : Same) (ls : Lists) (ns : Named) → schema_node k (object p ss ls ns) ≡ same_node k ss
word_leads k w p ss ls ns = or_other k ss ls ns (w.no_list_word ls) (w.no_member_word ns)

all_lists : (ls : Lists) → lists_node (codes "allOf") ls ≡ None
all_lists no_lists = refl
all_lists (lists a b c e) = refl

any_lists : (ls : Lists) → lists_node (codes "anyOf") ls ≡ None
any_lists no_lists = refl
any_lists (lists a b c e) = refl

one_lists : (ls : Lists) → lists_node (codes "oneOf") ls ≡ None
one_lists no_lists = refl
one_lists (lists a b c e) = refl

not_lists : (ls : Lists) → lists_node (codes "not") ls ≡ None
not_lists no_lists = refl
not_lists (lists a b c e) = refl

all_named : (ns : Named) → named_node (codes "allOf") ns ≡ None
all_named no_named = refl
all_named (named a b c e f) = refl

any_named : (ns : Named) → named_node (codes "anyOf") ns ≡ None
any_named no_named = refl
any_named (named a b c e f) = refl

one_named : (ns : Named) → named_node (codes "oneOf") ns ≡ None
one_named no_named = refl
one_named (named a b c e f) = refl

not_named : (ns : Named) → named_node (codes "not") ns ≡ None
not_named no_named = refl
not_named (named a b c e f) = refl

schema_leads : (p : Plain) (ss : Same) (ls : Lists) (ns : Named) → LeadsTo (at_schema (object p ss ls ns)) ss
schema_leads p ss ls ns = record {
  all = word_leads (codes "allOf") (record { no_list_word = all_lists; no_member_word = all_named }) p ss ls ns;
  any = word_leads (codes "anyOf") (record { no_list_word = any_lists; no_member_word = any_named }) p ss ls ns;
  one = word_leads (codes "oneOf") (record { no_list_word = one_lists; no_member_word = one_named }) p ss ls ns;
  none = word_leads (codes "not") (record { no_list_word = not_lists; no_member_word = not_named }) p ss ls ns;
}

-- from the document the four keywords lead where they lead from its root
document_leads : (d : Document) (ss : Same) → LeadsTo (at_schema d.root) ss → LeadsTo (at_document d) ss
document_leads d ss p = record { all = p.all; any = p.any; one = p.one; none = p.none }

schema_child : (s : Schema) (c : Child) → Contains (same_children s) c → along c.0 (at_schema s) ≡ Some (at_schema c.1)
schema_child (boolean b) c h = absurd (none_in c h)
schema_child (object p ss ls ns) c h = same_child (at_schema (object p ss ls ns)) ss (schema_leads p ss ls ns) c h

document_child : (d : Document) (s : Schema) → d.root ≡ s → (c : Child) → Contains (same_children s) c → along c.0 (at_document d) ≡ Some (at_schema c.1)
document_child d (boolean b) e c h = absurd (none_in c h)
document_child d (object p ss ls ns) e c h =
    same_child (at_document d) ss (document_leads d ss (subst (λ s. LeadsTo (at_schema s) ss) (sym e) (schema_leads p ss ls ns))) c h

pub none_is_not : {A : Type 0} (x : A) → None ≡ Some x → ⊥
none_is_not x h = absurd (true≢false (ap (λ o. elim o [ None ↦ true | Some y ↦ false ]) h))

pub some_same : {A : Type 0} (x y : A) → Some x ≡ Some y → x ≡ y
some_same x y h = ap (λ o. elim o [ None ↦ x | Some z ↦ z ]) h

node_child : (n : Node) (s : Schema) → node_schema n ≡ Some s → (c : Child) → Contains (same_children s) c → along c.0 n ≡ Some (at_schema c.1)
node_child (at_document d) s e c h = document_child d s (some_same _ _ e) c h
node_child (at_schema t) s e c h = ap (λ t. along c.0 (at_schema t)) (some_same t s e) ∙ schema_child s c h
node_child (at_definitions b d) s e c h = absurd (none_is_not s e)
node_child (at_list ss) s e c h = absurd (none_is_not s e)
node_child (at_names ps) s e c h = absurd (none_is_not s e)

stands : (o : Option Node) (s : Schema) → option_and_then node_schema o ≡ Some s → (c : Child) → Contains (same_children s) c
    → option_and_then node_schema (option_and_then (along c.0) o) ≡ Some c.1
stands None s e c h = absurd (none_is_not s e)
stands (Some n) s e c h = ap (λ o. option_and_then node_schema o) (node_child n s e c h)

pub children_stand : ChildrenStand
children_stand d l s c e h = ap (λ o. option_and_then node_schema o) (along-then l c.0 (Some (at_document d))) ∙ stands (along l (at_document d)) s e c h
