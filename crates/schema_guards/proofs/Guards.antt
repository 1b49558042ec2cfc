-- A document is guarded exactly where its graph of references is acyclic.
use Rattle.std.proofs.Common.{append-nil, append_assoc, ◌≡◌, ℕ, suc, ◌<◌, List, [], ◌∷◌, ◌++◌, map, length, get_or, Bool, true, false, refl, sym, ap, ◌∙◌, subst, inl, inr, arith, true≢false, length-append, bytes_eq, ◌≤◌, zero}
use Rattle.std.specs.Prelude.{Option, Some, None, Contains, ◌⊎◌, option_map, codes, if◌then◌else◌}
use Rattle.std.specs.Cmp.Lexicographic.{pointwise_decides}
use Rattle.std.proofs.lemmas.Slice.Eq.{bytes_eq-Decides}
use Rattle.std.proofs.lemmas.List.{get_or-map, length-map}
use Rattle.std.proofs.lemmas.List.Elements.{Contains-get_or, Contains-append_left, Contains-append_right, Contains-append_cases}
use Rattle.std.proofs.lemmas.Bool.{cases_lt}
use Rattle.json_value.specs.Value.{same_bool}
use Rattle.schema_defs.specs.Location.{Step, Location, place}
use Rattle.schema_defs.specs.Schema.{Schema, boolean, object, Same, no_same, same_value, MaybeSchema, no_schema, the_schema, MaybeSchemas, no_list, the_list, Schemas, no_more, schema, Definition, Document}
use Rattle.schema_defs.specs.Admits.{definition_word, target_location, definition_location, defined_as, definition_name, is_root_reference}
use Rattle.schema_defs.specs.Children.{Child, schema_at, reference_of, children_of_maybe, children_from, children_of_list, children_of_same, same_children}
use Rattle.schema_defs.specs.Walks.{Goes, to_child, to_target, Leads, one_step, more_steps, IsGuarded, GoesRound}
use Rattle.schema_defs.specs.References.{same_references}
use Rattle.schema_defs.proofs.Stand.{none_in, first_or_rest, first_in, rest_in, none_is_not, some_same, children_stand}
use Rattle.schema_defs.proofs.Guarded.{in_map, defined_is, definition_stands}
use Rattle.reference_graph.specs.Graph as graph
use Rattle.reference_graph.specs.Graph.{Graph, row_of, Refers, IsAcyclic}
use Rattle.reference_graph.proofs.Routes.{leads_past, ways_join, goes_leads}
use Rattle.schema_guards.specs.Targets.{NoLoopBefore, definitions_under, target_places, same_place, number_in, number_at, number_of, numbers_at, reference_graph_of}
use Rattle.schema_guards.specs.Laws.{GuardedIsAcyclic, GraphLeadsOn, FirstLoopIsFirst}
use Rattle.schema_guards.proofs.Inner.{own_reference, child_reference, own_or_child, further, is_word, IsApart, apart-append, child_apart}

-- ---- numbers of places

pub same_place-sound : (l m : Location) → same_place l m ≡ true → l ≡ m
same_place-sound l m = (pointwise_decides {E = bytes_eq} bytes_eq-Decides l m).0

pub same_place-itself : (l : Location) → same_place l l ≡ true
same_place-itself l = (pointwise_decides {E = bytes_eq} bytes_eq-Decides l l).1 refl

-- what stands at a place's number is the place
numbered : (ls : List Location) (m : Location) → number_in ls m < length ls → get_or ls (number_in ls m) [] ≡ m
numbered [] m h = absurd (omega arith)
numbered (l ∷ ls) m h = by_test (same_place l m) refl (numbered ls m) h
  where
    by_test : (b : Bool) → same_place l m ≡ b → (number_in ls m < length ls → get_or ls (number_in ls m) [] ≡ m) → (if b then 0 else suc (number_in ls m)) < suc (length ls) → get_or (l ∷ ls) (if b then 0 else suc (number_in ls m)) [] ≡ m
    by_test true e r k = same_place-sound l m e
    by_test false e r k = r (omega arith)

has_number : (ls : List Location) (m : Location) → Contains ls m → number_in ls m < length ls
has_number [] m h = absurd (none_in m h)
has_number (l ∷ ls) m h = elim (first_or_rest l ls m h) [ inl e ↦ here (same_place l m) (ap (same_place l) (sym e) ∙ same_place-itself l) | inr g ↦ there (same_place l m) (has_number ls m g) ]
  where
    here : (b : Bool) → b ≡ true → (if b then 0 else suc (number_in ls m)) < suc (length ls)
    here true e = omega arith
    here false e = absurd (true≢false (sym e))

    there : (b : Bool) → number_in ls m < length ls → (if b then 0 else suc (number_in ls m)) < suc (length ls)
    there true k = omega arith
    there false k = omega arith

-- ---- each target has a number

split : (b : Bool) (ds : List Definition) (e : Definition) → Contains ds e → same_bool e.under_defs b ≡ true → Contains (definitions_under b ds) e
split b [] e h k = absurd (none_in e h)
split b (d ∷ ds) e h k = elim (first_or_rest d ds e h) [
  | inl g ↦ here (same_bool d.under_defs b) (ap (λ d. same_bool d.under_defs b) g ∙ k) g
  | inr g ↦ there (same_bool d.under_defs b) (split b ds e g k)
]
  where
    here : (t : Bool) → t ≡ true → d ≡ e → Contains (if t then d ∷ definitions_under b ds else definitions_under b ds) e
    here true f g = subst (λ x. Contains (d ∷ definitions_under b ds) x) g (first_in d (definitions_under b ds))
    here false f g = absurd (true≢false (sym f))

    there : (t : Bool) → Contains (definitions_under b ds) e → Contains (if t then d ∷ definitions_under b ds else definitions_under b ds) e
    there true k = rest_in d (definitions_under b ds) e k
    there false k = k

pub in_places : (ds : List Definition) (e : Definition) → Contains ds e → Contains (definitions_under true ds ++ definitions_under false ds) e
in_places ds e h = by_word e.under_defs refl
  where
    by_word : (b : Bool) → e.under_defs ≡ b → Contains (definitions_under true ds ++ definitions_under false ds) e
    by_word true k = Contains-append_left (definitions_under true ds) (definitions_under false ds) e (split true ds e h (ap (λ b. same_bool b true) k))
    by_word false k = Contains-append_right (definitions_under true ds) (definitions_under false ds) e (split false ds e h (ap (λ b. same_bool b false) k))

pub from_map : {A B : Type 0} (f : A → B) (xs : List A) (y : B) → Contains (map f xs) y → (x : A) × Contains xs x × (f x ≡ y)
from_map f [] y h = absurd (none_in y h)
from_map f (x ∷ xs) y h = elim (first_or_rest (f x) (map f xs) y h) [
  | inl e ↦ (x, first_in x xs, e)
  | inr g ↦ let r = from_map f xs y g in (r.0, rest_in x xs r.0 r.1, r.2)
]

module _ (d : Document) where
  abbrev places : List Location
  places = target_places d

  abbrev place_at : ℕ → Location
  place_at i = get_or places i []

  abbrev refers : ℕ → ℕ → Type 0
  refers i j = Refers (reference_graph_of d) i j

  abbrev leads : ℕ → ℕ → Type 0
  leads i j = graph.Leads (reference_graph_of d) i j

  size : length (reference_graph_of d) ≡ length places
  size = length-map places (λ l. numbers_at d (schema_at d l))

  row_is : (i : ℕ) → i < length places → row_of (reference_graph_of d) i ≡ numbers_at d (schema_at d (place_at i))
  row_is i h = get_or-map (λ l. numbers_at d (schema_at d l)) places i [] [] h

  -- where a reference leads
  record Landed (m : Location) : Type 0 where
    there : Schema
    stands : schema_at d m ≡ Some there
    listed : Contains places m

  landed : (q : List ℕ) (m : Location) → target_location d q ≡ Some m → Landed m
  landed q m h = by_form (is_root_reference q) (defined_as d (definition_name q)) refl h
    where
      by_form : (b : Bool) (o : Option Definition) → defined_as d (definition_name q) ≡ o → (if b then Some [] else option_map definition_location o) ≡ Some m → Landed m
      by_form true o f k = record {
        there = d.root;
        stands = ap (schema_at d) (sym (some_same [] m k));
        listed = subst (λ l. Contains places l) (some_same [] m k) (first_in [] (map definition_location (definitions_under true d.definitions ++ definitions_under false d.definitions)));
      }
      by_form false None f k = absurd (none_is_not m k)
      by_form false (Some e) f k =
          let r = defined_is d (definition_name q) e f in
          let es = definitions_under true d.definitions ++ definitions_under false d.definitions in
          record {
            there = e.body;
            stands = ap (schema_at d) (sym (some_same (definition_location e) m k)) ∙ definition_stands d e r.0;
            listed =
                subst (λ l. Contains places l) (some_same (definition_location e) m k)
                (rest_in [] (map definition_location es) (definition_location e) (in_map definition_location es e (in_places d.definitions e r.1)));
          }

  -- a number that some place has is that of a target
  pub targeted : (q : List ℕ) → number_of d q < length places → (m : Location) × (target_location d q ≡ Some m) × (place_at (number_of d q) ≡ m)
  targeted q h = by_target (target_location d q) refl h
    where
      by_target : (o : Option Location) → target_location d q ≡ o → number_at d o < length places → (m : Location) × (target_location d q ≡ Some m) × (place_at (number_of d q) ≡ m)
      by_target None e k = absurd (omega arith)
      by_target (Some m) e k = (m, e, ap (λ o. place_at (number_at d o)) e ∙ numbered places m k)

  -- ---- a reference of a schema leads from it to the target

  module _ (q : List ℕ) (m : Location) (target : target_location d q ≡ Some m) where
    abbrev LeadsOn : Schema → Type 0
    LeadsOn s = (l : Location) → schema_at d l ≡ Some s → Contains (same_references s) q → Leads d l m

    leads_from : (s : Schema) → ((c : Child) → Contains (same_children s) c → LeadsOn c.1) → LeadsOn s
    leads_from s inner l e h = elim (own_or_child q s h) [
      | inl f ↦ one_step l m (to_target l m s q e f target)
      | inr x ↦ more_steps l (l ++ x.0.0) m (to_child l s x.0 e x.1) (inner x.0 x.1 (l ++ x.0.0) (children_stand d l s x.0 e x.1) x.2)
    ]

    mutual
      leads_on : (s : Schema) → LeadsOn s
      leads_on (boolean b) = leads_from (boolean b) (λ c k. absurd (none_in c k))
      leads_on (object p ss ls ns) = leads_from (object p ss ls ns) (leads_on_same ss)

      leads_on_same : (ss : Same) (c : Child) → Contains (children_of_same ss) c → LeadsOn c.1
      leads_on_same no_same c k = absurd (none_in c k)
      leads_on_same (same_value all any one none conditional) c k =
          let a = children_of_list (codes "allOf") all in
          let b = children_of_list (codes "anyOf") any in
          let o = children_of_list (codes "oneOf") one in
          elim (Contains-append_cases (a ++ b ++ o) (children_of_maybe (codes "not") none) c k) [
            | inr g ↦ leads_on_maybe (codes "not") none c g
            | inl k ↦ elim (Contains-append_cases (a ++ b) o c k) [
              | inr g ↦ leads_on_list (codes "oneOf") one c g
              | inl k ↦ elim (Contains-append_cases a b c k) [
                | inr g ↦ leads_on_list (codes "anyOf") any c g
                | inl g ↦ leads_on_list (codes "allOf") all c g
              ]
            ]
          ]

      leads_on_list : (w : Step) (n : MaybeSchemas) (c : Child) → Contains (children_of_list w n) c → LeadsOn c.1
      leads_on_list w no_list c k = absurd (none_in c k)
      leads_on_list w (the_list ss) c k = leads_on_all w 0 ss c k

      leads_on_maybe : (w : Step) (n : MaybeSchema) (c : Child) → Contains (children_of_maybe w n) c → LeadsOn c.1
      leads_on_maybe w no_schema c k = absurd (none_in c k)
      leads_on_maybe w (the_schema s) c k = elim (first_or_rest (w ∷ [], s) [] c k) [
        | inl e ↦ subst (λ c. LeadsOn c.1) e (leads_on s)
        | inr g ↦ absurd (none_in c g)
      ]

      leads_on_all : (w : Step) (i : ℕ) (ss : Schemas) (c : Child) → Contains (children_from w i ss) c → LeadsOn c.1
      leads_on_all w i no_more c k = absurd (none_in c k)
      leads_on_all w i (schema s ss) c k = elim (first_or_rest (w ∷ place i ∷ [], s) (children_from w (suc i) ss) c k) [
        | inl e ↦ subst (λ c. LeadsOn c.1) e (leads_on s)
        | inr g ↦ leads_on_all w (suc i) ss c g
      ]

  -- ---- the graph's ways are the document's

  joined : (l m n : Location) → Leads d l m → Leads d m n → Leads d l n
  joined _ _ n (one_step l m g) w = more_steps l m n g w
  joined _ _ n (more_steps l k m g v) w = more_steps l k n g (joined k m n v w)

  edge : (i j : ℕ) → i < length places → j < length places → refers i j → Leads d (place_at i) (place_at j)
  edge i j h k r = by_schema (schema_at d (place_at i)) refl (subst (λ xs. Contains xs j) (row_is i h) r)
    where
      by_schema : (o : Option Schema) → schema_at d (place_at i) ≡ o → Contains (numbers_at d o) j → Leads d (place_at i) (place_at j)
      by_schema None e c = absurd (none_in j c)
      by_schema (Some s) e c =
          let x = from_map (number_of d) (same_references s) j c in
          let n : number_of d x.0 ≡ j = x.2 in
          let t = targeted x.0 (omega arith) in
          subst (λ l. Leads d (place_at i) l) (sym t.2 ∙ ap (λ n. place_at n) x.2) (leads_on x.0 t.0 t.1 s (place_at i) e x.1)

  within : (i j : ℕ) → leads i j → i < length places
  within i j w = elim (cases_lt i (length places)) [
    | inl h ↦ h
    | inr h ↦ absurd (leads_past (reference_graph_of d) i j (let s = size in omega arith) w)
  ]

  graph_leads : (i j : ℕ) → j < length places → leads i j → Leads d (place_at i) (place_at j)
  graph_leads i j h w = follow i j w h
    where
      follow : (i j : ℕ) → leads i j → j < length places → Leads d (place_at i) (place_at j)
      follow _ _ (graph.one_step i j r) h = edge i j (within i j (graph.one_step i j r)) h r
      follow _ _ (graph.more_steps i k j r w) h =
          joined (place_at i) (place_at k) (place_at j) (edge i k (within i j (graph.more_steps i k j r w)) (within k j w) r) (follow k j w h)

  acyclic_of_guarded : IsGuarded d → IsAcyclic (reference_graph_of d)
  acyclic_of_guarded h i w = h (place_at i) (graph_leads i i (within i i w) w)

  -- ---- the document's ways are the graph's

  -- a way from the place with number i has come to l, inside the place with number `at`
  record Reached (i : ℕ) (l : Location) : Type 0 where
    at : ℕ
    led : (i ≡ at) ⊎ leads i at
    there : Schema
    stands : schema_at d l ≡ Some there
    carries : (q : List ℕ) → Contains (same_references there) q → refers at (number_of d q)
    place : Location
    numbered_by : at ≡ number_in places place
    listed : Contains places place
    steps : Location
    inside : l ≡ place ++ steps
    apart : IsApart steps

  starts : (m : Location) → Landed m → Reached (number_in places m) m
  starts m x = record {
    at = number_in places m;
    led = inl refl;
    there = x.there;
    stands = x.stands;
    carries = λ q h.
        let n = has_number places m x.listed in
        let row : row_of (reference_graph_of d) (number_in places m) ≡ map (number_of d) (same_references x.there) =
        row_is (number_in places m) n ∙ ap (λ l. numbers_at d (schema_at d l)) (numbered places m n) ∙ ap (numbers_at d) x.stands
        in
        subst (λ xs. Contains xs (number_of d q)) (sym row) (in_map (number_of d) (same_references x.there) q h);
    place = m;
    numbered_by = refl;
    listed = x.listed;
    steps = [];
    inside = sym (append-nil m);
    apart = tt;
  }

  led_then : (i j k : ℕ) → (i ≡ j) ⊎ leads i j → refers j k → leads i k
  led_then i j k (inl e) r = subst (λ x. leads x k) (sym e) (graph.one_step j k r)
  led_then i j k (inr w) r = ways_join (reference_graph_of d) i j k w (graph.one_step j k r)

  goes_on : (i : ℕ) (l m : Location) → Goes d l m → Reached i l → Reached i m
  unfolding starts
  goes_on i _ _ (to_child l s c e k) x = record {
    at = x.at;
    led = x.led;
    there = c.1;
    stands = children_stand d l s c e k;
    carries = λ q h. x.carries q (subst (λ s. Contains (same_references s) q) (some_same s x.there (sym e ∙ x.stands)) (child_reference q s c k h));
    place = x.place;
    numbered_by = x.numbered_by;
    listed = x.listed;
    steps = x.steps ++ c.0;
    inside = ap (λ l. l ++ c.0) x.inside ∙ append_assoc x.place x.steps c.0;
    apart = apart-append x.steps c.0 x.apart (child_apart s c k);
  }
  goes_on i _ _ (to_target l m s q e f t) x =
      let y = starts m (landed q m t) in
      let r : refers x.at (number_of d q) = x.carries q (subst (λ s. Contains (same_references s) q) (some_same s x.there (sym e ∙ x.stands)) (own_reference q s f)) in
      record {
        at = number_in places m;
        led = inr (led_then i x.at (number_in places m) x.led (subst (refers x.at) (ap (number_at d) t) r));
        there = y.there;
        stands = y.stands;
        carries = y.carries;
        place = y.place;
        numbered_by = y.numbered_by;
        listed = y.listed;
        steps = y.steps;
        inside = y.inside;
        apart = y.apart;
      }

  runs_on : (i : ℕ) (l m : Location) → Leads d l m → Reached i l → Reached i m
  runs_on i _ _ (one_step l m g) x = goes_on i l m g x
  runs_on i _ _ (more_steps l k m g w) x = runs_on i k m w (goes_on i l k g x)

  -- ---- each way round comes by a target

  abbrev Comes : Location → Location → Type 0
  Comes l m = (l ≡ m) ⊎ Leads d l m

  comes_after : (l k m : Location) → Goes d l k → Comes k m → Comes l m
  comes_after l k m g (inl e) = inr (one_step l m (subst (λ x. Goes d l x) e g))
  comes_after l k m g (inr w) = inr (more_steps l k m g w)

  comes_then : (l k m : Location) → Comes l k → Comes k m → Comes l m
  comes_then l k m (inl e) v = subst (λ x. Comes x m) (sym e) v
  comes_then l k m (inr w) (inl e) = inr (subst (λ x. Leads d l x) e w)
  comes_then l k m (inr w) (inr v) = inr (joined l k m w v)

  record Turns (l m : Location) : Type 0 where
    before : Location
    after : Location
    owner : Schema
    text : List ℕ
    comes : Comes l before
    stands : schema_at d before ≡ Some owner
    refers_by : reference_of owner ≡ Some text
    target : target_location d text ≡ Some after
    goes : Comes after m

  turns : (l m : Location) → Leads d l m → (length l < length m) ⊎ Turns l m
  turns _ _ (one_step _ _ (to_child l s c e k)) = inl (let f = further s c k in let n = length-append l c.0 in omega arith)
  turns _ _ (one_step _ _ (to_target l m s q e f t)) =
      inr (record { before = l; after = m; owner = s; text = q; comes = inl refl; stands = e; refers_by = f; target = t; goes = inl refl })
  turns _ _ (more_steps _ _ m (to_target l k s q e f t) w) =
      inr (record { before = l; after = k; owner = s; text = q; comes = inl refl; stands = e; refers_by = f; target = t; goes = inr w })
  turns _ _ (more_steps _ _ m (to_child l s c e k) w) = elim (turns (l ++ c.0) m w) [
    | inl h ↦ inl (let n = length-append l c.0 in omega arith)
    | inr x ↦ inr (record {
      before = x.before;
      after = x.after;
      owner = x.owner;
      text = x.text;
      comes = comes_after l (l ++ c.0) x.before (to_child l s c e k) x.comes;
      stands = x.stands;
      refers_by = x.refers_by;
      target = x.target;
      goes = x.goes;
    })
  ]

  comes_on : (i : ℕ) (l m : Location) → Comes l m → Reached i l → Reached i m
  comes_on i l m (inl e) x = subst (λ l. Reached i l) e x
  comes_on i l m (inr w) x = runs_on i l m w x

  -- the number of the target that a turn leads to, from the number of a place that leads to the turn
  turn_leads : (i : ℕ) (l m : Location) → (x : Turns l m) → Reached i l → leads i (number_in places x.after)
  turn_leads i l m x from =
      let y = comes_on i l x.before x.comes from in
      let r : refers y.at (number_of d x.text) =
      y.carries x.text (subst (λ s. Contains (same_references s) x.text) (some_same x.owner y.there (sym x.stands ∙ y.stands)) (own_reference x.text x.owner x.refers_by))
      in
      led_then i y.at (number_in places x.after) y.led (subst (refers y.at) (ap (number_at d) x.target) r)

  guarded_of_acyclic : IsAcyclic (reference_graph_of d) → IsGuarded d
  guarded_of_acyclic h l w = elim (turns l l w) [
    | inl k ↦ absurd (omega arith)
    | inr x ↦ h (number_in places x.after) (turn_leads (number_in places x.after) l l x (comes_on (number_in places x.after) x.after l x.goes (starts x.after (landed x.text x.after x.target))))
  ]

  -- ---- a place on a loop

  abbrev Form : Location → Type 0
  Form m = (m ≡ []) ⊎ ((b : Bool) × (n : Step) × (m ≡ definition_word b ∷ n ∷ []))

  form : (m : Location) → Contains places m → Form m
  form m h =
      let es = definitions_under true d.definitions ++ definitions_under false d.definitions in
      elim (first_or_rest [] (map definition_location es) m h) [
        | inl e ↦ inl (sym e)
        | inr g ↦ let x = from_map definition_location es m g in inr (x.0.under_defs, x.0.name, sym x.2)
      ]

  word_is : (b : Bool) → is_word (definition_word b) ≡ true
  word_is true = refl
  word_is false = refl

  -- a target's place lies in no other
  same_as : (l p t : Location) → Form l → Form p → l ≡ p ++ t → IsApart t → l ≡ p
  same_as l p [] f g e h = e ∙ append-nil p
  same_as l p (k ∷ ks) f (inr (b, n, e')) e h = absurd (too_long f)
    where
      longer : length l ≡ suc (suc (suc (length ks)))
      longer = ap length e ∙ ap (λ p. length (p ++ k ∷ ks)) e'

      too_long : Form l → ⊥
      too_long (inl e) = let n = longer in let m = ap length e in omega arith
      too_long (inr (b, n, e)) = let o = longer in let m = ap length e in omega arith
  same_as l p (k ∷ ks) (inl f) (inl g) e h = f ∙ sym g
  same_as l p (k ∷ ks) (inr (b, n, f)) (inl g) e h =
      let same : definition_word b ∷ n ∷ [] ≡ k ∷ ks = sym f ∙ e ∙ ap (λ p. p ++ k ∷ ks) g in
      absurd (true≢false (sym (word_is b) ∙ subst IsApart (sym same) h))

  -- a target's place that leads to itself has a number that does
  loop_numbered : (m : Location) → Landed m → Leads d m m → leads (number_in places m) (number_in places m)
  loop_numbered m x w = elim (turns m m w) [
    | inl k ↦ absurd (omega arith)
    | inr y ↦
        let n = number_in places m in
        let a = number_in places y.after in
        let v : leads n a = turn_leads n m m y (starts m x) in
        let z = comes_on a y.after m y.goes (starts y.after (landed y.text y.after y.target)) in
        let e : z.at ≡ n = z.numbered_by ∙ ap (number_in places) (sym (same_as m z.place z.steps (form m x.listed) (form z.place z.listed) z.inside z.apart)) in
        subst (λ k. leads n k) e (on n a z.at v z.led)
  ]
    where
      on : (i j k : ℕ) → leads i j → (j ≡ k) ⊎ leads j k → leads i k
      on i j k v (inl e) = subst (λ k. leads i k) e v
      on i j k v (inr w) = ways_join (reference_graph_of d) i j k v w

pub guarded_is_acyclic : GuardedIsAcyclic
guarded_is_acyclic d = (acyclic_of_guarded d, guarded_of_acyclic d)

pub graph_leads_on : GraphLeadsOn
graph_leads_on d i j h w = graph_leads d i j h w

-- ---- the first loop

number_below : (ls : List Location) (k : ℕ) → k < length ls → number_in ls (get_or ls k []) ≤ k
number_below [] k h = absurd (omega arith)
number_below (l ∷ ls) zero h = ap_first (same_place l l) (same_place-itself l)
  where
    ap_first : (b : Bool) → b ≡ true → (if b then 0 else suc (number_in ls l)) ≤ 0
    ap_first true e = omega arith
    ap_first false e = absurd (true≢false (sym e))
number_below (l ∷ ls) (suc k) h = by_test (same_place l (get_or ls k [])) (number_below ls k (omega arith))
  where
    by_test : (b : Bool) → number_in ls (get_or ls k []) ≤ k → (if b then 0 else suc (number_in ls (get_or ls k []))) ≤ suc k
    by_test true r = omega arith
    by_test false r = omega arith

walk_of : (d : Document) (l m : Location) → Leads d l m → (ls : List Location) × GoesRound d m l ls
walk_of d _ _ (one_step l m g) = (m ∷ [], (g, refl))
walk_of d _ _ (more_steps l k m g w) = longer (walk_of d k m w)
  where
    longer : ((ls : List Location) × GoesRound d m k ls) → (ls : List Location) × GoesRound d m l ls
    longer ([], r) = absurd r
    longer (n ∷ ls, r) = (k ∷ n ∷ ls, (g, r))

stands_at : (d : Document) (l m : Location) → Leads d l m → (s : Schema) × (schema_at d l ≡ Some s)
stands_at d _ _ (one_step _ _ (to_child l s c e k)) = (s, e)
stands_at d _ _ (one_step _ _ (to_target l m s q e f t)) = (s, e)
stands_at d _ _ (more_steps _ _ m (to_child l s c e k) w) = (s, e)
stands_at d _ _ (more_steps _ _ m (to_target l k s q e f t) w) = (s, e)

pub none_before : (d : Document) (i : ℕ) → i ≤ length (target_places d) → ((k : ℕ) → k < i → ¬ (graph.Leads (reference_graph_of d) k k)) → NoLoopBefore d i
none_before d i h least k l w =
    let ls = target_places d in
    let m = get_or ls k [] in
    let n : number_in ls m ≤ k = number_below ls k (omega arith) in
    let s = stands_at d m m w in
    least (number_in ls m) (omega arith) (loop_numbered d m (record { there = s.0; stands = s.1; listed = Contains-get_or ls k [] (omega arith) }) w)

pub first_loop_is_first : FirstLoopIsFirst
first_loop_is_first d [] r least = absurd r
first_loop_is_first d (i ∷ is) r least =
    let w = loop_leads_back d i is r in
    let h = within d i i w in
    let x = walk_of d (get_or (target_places d) i []) (get_or (target_places d) i []) (graph_leads d i i h w) in
    (get_or (target_places d) i [] ∷ x.0, x.1, (i, h, refl, none_before d i (let k = h in omega arith) least))
  where
    loop_leads_back : (d : Document) (i : ℕ) (is : List ℕ) → graph.GoesRound (reference_graph_of d) i i is → graph.Leads (reference_graph_of d) i i
    loop_leads_back d i is r = goes_leads (reference_graph_of d) i i is r
