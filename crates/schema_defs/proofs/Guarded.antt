-- In a guarded document the references that are allowed are never spent: each that is followed leads to a target that no walk has come from.
use Rattle.std.proofs.Common.{◌≡◌, ℕ, zero, suc, ◌≤◌, List, [], ◌∷◌, ◌++◌, map, length, Bool, true, false, ◌&&◌, not, refl, sym, ap, subst, ◌∙◌, inl, inr, arith, true≢false, bytes_eq}
use Rattle.std.specs.Prelude.{Option, Some, None, Contains, ◌⊎◌, option_and_then, option_map, codes, if◌then◌else◌}
use Rattle.std.specs.Cmp.Lexicographic.{pointwise, pointwise_decides}
use Rattle.std.proofs.lemmas.Slice.Eq.{bytes_eq-Decides}
use Rattle.std.proofs.lemmas.List.Elements.{Contains-append_left, Contains-append_right}
use Rattle.json_value.specs.Value.{same_bool}
use Rattle.schema_defs.specs.Location.{Step, Location, place}
use Rattle.schema_defs.specs.Schema.{Schema, boolean, object, Same, no_same, same_value, MaybeSchema, no_schema, the_schema, MaybeSchemas, no_list, the_list, Schemas, no_more, schema, Definition, Document}
use Rattle.schema_defs.specs.Admits.{target, target_location, defined, defined_as, definition_name, definition_word, definition_location, is_root_reference, allowed, admits-level, parts_of}
use Rattle.schema_defs.specs.Children.{Child, at_definitions, at_schema, along, document_node, definition_node, node_schema, schema_at, reference_of, children_of_maybe, children_from, children_of_list, children_of_same, same_children}
use Rattle.schema_defs.specs.Walks.{Goes, to_child, to_target, Leads, one_step, more_steps, IsGuarded}
use Rattle.schema_defs.specs.Laws.{SpareReferencesSayNothing}
use Rattle.schema_defs.proofs.Stand.{first_in, rest_in, first_or_rest, none_in, children_stand, some_same, none_is_not}
use Rattle.schema_defs.proofs.Spare.{Given, Refs, RefsSame, RefsLists, RefsMaybe, RefsAll, Ends, spare}

-- ---- a fact of each reference, from where the schemas stand

pub given_by : {A : Type 0} (P : A → Type 0) (o : Option A) → ((x : A) → o ≡ Some x → P x) → Given P o
given_by P None k = tt
given_by P (Some x) k = k x refl

module _
    (P : List ℕ → Type 0)
    (At : Schema → Type 0)
    (child : (s : Schema) → At s → (c : Child) → Contains (same_children s) c → At c.1)
    (here : (s : Schema) (q : List ℕ) → At s → reference_of s ≡ Some q → P q)
  where
    mutual
      pub refs_at : (s : Schema) → At s → Refs P s
      refs_at (boolean b) a = tt
      refs_at (object p ss ls ns) a = (given_by P p.reference (λ q e. here (object p ss ls ns) q a e), same_at ss (child (object p ss ls ns) a))

      same_at : (ss : Same) → ((c : Child) → Contains (children_of_same ss) c → At c.1) → RefsSame P ss
      same_at no_same k = tt
      same_at (same_value all any one none conditional) k =
          let a = children_of_list (codes "allOf") all in
          let b = children_of_list (codes "anyOf") any in
          let o = children_of_list (codes "oneOf") one in
          let n = children_of_maybe (codes "not") none in (
            lists_at (codes "allOf") all (λ c h. k c (Contains-append_left (a ++ b ++ o) n c (Contains-append_left (a ++ b) o c (Contains-append_left a b c h)))),
            lists_at (codes "anyOf") any (λ c h. k c (Contains-append_left (a ++ b ++ o) n c (Contains-append_left (a ++ b) o c (Contains-append_right a b c h)))),
            lists_at (codes "oneOf") one (λ c h. k c (Contains-append_left (a ++ b ++ o) n c (Contains-append_right (a ++ b) o c h))),
            maybe_at (codes "not") none (λ c h. k c (Contains-append_right (a ++ b ++ o) n c h)),
          )

      lists_at : (w : Step) (m : MaybeSchemas) → ((c : Child) → Contains (children_of_list w m) c → At c.1) → RefsLists P m
      lists_at w no_list k = tt
      lists_at w (the_list ss) k = all_at w 0 ss k

      maybe_at : (w : Step) (m : MaybeSchema) → ((c : Child) → Contains (children_of_maybe w m) c → At c.1) → RefsMaybe P m
      maybe_at w no_schema k = tt
      maybe_at w (the_schema s) k = refs_at s (k (w ∷ [], s) (first_in (w ∷ [], s) []))

      all_at : (w : Step) (i : ℕ) (ss : Schemas) → ((c : Child) → Contains (children_from w i ss) c → At c.1) → RefsAll P ss
      all_at w i no_more k = tt
      all_at w i (schema s ss) k = (
        refs_at s (k (w ∷ place i ∷ [], s) (first_in (w ∷ place i ∷ [], s) (children_from w (suc i) ss))),
        all_at w (suc i) ss (λ c h. k c (rest_in (w ∷ place i ∷ [], s) (children_from w (suc i) ss) c h)),
      )

-- ---- how many locations of a list pass a test

abbrev passing : (Location → Bool) → List Location → ℕ
passing p [] = 0
passing p (x ∷ xs) = if p x then suc (passing p xs) else passing p xs

abbrev same_location : Location → Location → Bool
same_location = pointwise bytes_eq

same_location-itself : (x : Location) → same_location x x ≡ true
same_location-itself x = (pointwise_decides {E = bytes_eq} bytes_eq-Decides x x).1 refl

same_location-sound : (x y : Location) → same_location x y ≡ true → x ≡ y
same_location-sound x y = (pointwise_decides {E = bytes_eq} bytes_eq-Decides x y).0

abbrev without : (Location → Bool) → Location → Location → Bool
without p m x = p x && not (same_location x m)

fewer : (p : Location → Bool) (m : Location) (xs : List Location) → passing (without p m) xs ≤ passing p xs
fewer p m [] = omega arith
fewer p m (x ∷ xs) = by_test (p x) (not (same_location x m)) (fewer p m xs)
  where
    by_test : (a b : Bool) → passing (without p m) xs ≤ passing p xs → (if a && b then suc (passing (without p m) xs) else passing (without p m) xs) ≤ (if a then suc (passing p xs) else passing p xs)
    by_test true true h = omega (arith, h)
    by_test true false h = omega (arith, h)
    by_test false b h = h

one_fewer : (p : Location → Bool) (m : Location) (xs : List Location) → Contains xs m → p m ≡ true → suc (passing (without p m) xs) ≤ passing p xs
one_fewer p m [] h e = absurd (none_in m h)
one_fewer p m (x ∷ xs) h e =
    elim (first_or_rest x xs m h) [
      | inl g ↦ here (p x) (same_location x m) (ap p g ∙ e) (subst (λ y. same_location x y ≡ true) g (same_location-itself x))
      | inr g ↦ further (p x) (not (same_location x m)) (one_fewer p m xs g e)
    ]
  where
    here : (a b : Bool) → a ≡ true → b ≡ true → suc (if a && not b then suc (passing (without p m) xs) else passing (without p m) xs) ≤ (if a then suc (passing p xs) else passing p xs)
    here true true ha hb = let h = fewer p m xs in omega arith
    here true false ha hb = absurd (true≢false (sym hb))
    here false b ha hb = absurd (true≢false (sym ha))

    further : (a b : Bool) → suc (passing (without p m) xs) ≤ passing p xs → suc (if a && b then suc (passing (without p m) xs) else passing (without p m) xs) ≤ (if a then suc (passing p xs) else passing p xs)
    further true true h = omega arith
    further true false h = omega arith
    further false b h = h

all_pass : (xs : List Location) → passing (λ x. true) xs ≡ length xs
all_pass [] = refl
all_pass (x ∷ xs) = ap suc (all_pass xs)

map_length : {A B : Type 0} (f : A → B) (xs : List A) → length (map f xs) ≡ length xs
map_length f [] = refl
map_length f (x ∷ xs) = ap suc (map_length f xs)

-- ---- targets and where they stand

same_bool-itself : (b : Bool) → same_bool b b ≡ true
same_bool-itself true = refl
same_bool-itself false = refl

-- a definition that is found has the name that was sought
pub defined_named : (n : List ℕ) (ds : List Definition) (e : Definition) → defined n ds ≡ Some e → (n ≡ e.name) × Contains ds e
defined_named n [] e h = absurd (none_is_not e h)
defined_named n (d ∷ ds) e h = by_test (bytes_eq n d.name) refl (defined_named n ds e) h
  where
    by_test : (b : Bool) → bytes_eq n d.name ≡ b → (defined n ds ≡ Some e → (n ≡ e.name) × Contains ds e) → (if b then Some d else defined n ds) ≡ Some e → (n ≡ e.name) × Contains (d ∷ ds) e
    by_test true t k h = let g = some_same d e h in ((bytes_eq-Decides n d.name).0 t ∙ ap (λ d. d.name) g, subst (λ x. Contains (d ∷ ds) x) g (first_in d ds))
    by_test false t k h = let r = k h in (r.0, rest_in d ds e r.1)

pub in_map : {A B : Type 0} (f : A → B) (xs : List A) (x : A) → Contains xs x → Contains (map f xs) (f x)
in_map f [] x h = absurd (none_in x h)
in_map f (y ∷ ys) x h =
    elim (first_or_rest y ys x h) [
      | inl e ↦ subst (λ z. Contains (f y ∷ map f ys) z) (ap f e) (first_in (f y) (map f ys))
      | inr g ↦ rest_in (f y) (map f ys) (f x) (in_map f ys x g)
    ]

module _ (d : Document) where
  -- the root and the definitions
  abbrev target_places : List Location
  target_places = [] ∷ map definition_location d.definitions

  -- t is the target and stands at m
  record Target (q : List ℕ) (t : Schema) : Type 0 where
    at : Location
    leads : target_location d q ≡ Some at
    stands : schema_at d at ≡ Some t
    listed : Contains target_places at

  word_node : (u : Bool) → document_node (definition_word u) d ≡ Some (at_definitions u d)
  word_node false = refl
  word_node true = refl

  pub definition_stands : (e : Definition) → defined e.name d.definitions ≡ Some e → schema_at d (definition_location e) ≡ Some e.body
  definition_stands e h =
      ap (λ o. option_and_then node_schema (option_and_then (along (e.name ∷ [])) o)) (word_node e.under_defs)
      ∙ ap (λ o. option_and_then node_schema (option_and_then (along []) (definition_node e.under_defs o))) h
      ∙ ap (λ b. option_and_then node_schema (option_and_then (along []) (if b then Some (at_schema e.body) else None))) (same_bool-itself e.under_defs)

  abbrev pub IsDefined : Option Definition → Type 0
  IsDefined o = (e : Definition) → o ≡ Some e → (defined e.name d.definitions ≡ Some e) × Contains d.definitions e

  pub defined_is : (o : Option (List ℕ)) → IsDefined (defined_as d o)
  defined_is None e h = absurd (none_is_not e h)
  defined_is (Some n) e h = let r = defined_named n d.definitions e h in (subst (λ n. defined n d.definitions ≡ Some e) r.0 h, r.1)

  target_at : (q : List ℕ) (t : Schema) → target d q ≡ Some t → Target q t
  target_at q t h = by_form (is_root_reference q) refl (defined_as d (definition_name q)) refl h
    where
      by_form : (b : Bool) → is_root_reference q ≡ b → (o : Option Definition) → defined_as d (definition_name q) ≡ o → (if b then Some d.root else option_map (λ e. e.body) o) ≡ Some t → Target q t
      by_form true f o g h = record {
        at = [];
        leads = ap (λ b. if b then Some [] else option_map definition_location (defined_as d (definition_name q))) f;
        stands = h;
        listed = first_in [] (map definition_location d.definitions);
      }
      by_form false f None g h = absurd (none_is_not t h)
      by_form false f (Some e) g h =
          let r = defined_is (definition_name q) e g in
          record {
            at = definition_location e;
            leads = ap (λ b. if b then Some [] else option_map definition_location (defined_as d (definition_name q))) f ∙ ap (option_map definition_location) g;
            stands = definition_stands e r.0 ∙ h;
            listed = rest_in [] (map definition_location d.definitions) (definition_location e) (in_map definition_location d.definitions e r.1);
          }

  -- ---- walks

  leads_then : (l m n : Location) → Leads d l m → Goes d m n → Leads d l n
  leads_then _ _ n (one_step l m g) h = more_steps l m n g (one_step m n h)
  leads_then _ _ n (more_steps l k m g w) h = more_steps l k n g (leads_then k m n w h)

  joined : (l m n : Location) → Leads d l m → Leads d m n → Leads d l n
  joined _ _ n (one_step l m g) w = more_steps l m n g w
  joined _ _ n (more_steps l k m g v) w = more_steps l k n g (joined k m n v w)

  -- s stands at m, or where same-value children lead from m
  record Below (m : Location) (s : Schema) : Type 0 where
    at : Location
    stands : schema_at d at ≡ Some s
    from : (m ≡ at) ⊎ Leads d m at

  step_below : (m l n : Location) → (m ≡ l) ⊎ Leads d m l → Goes d l n → Leads d m n
  step_below m l n (inl e) g = one_step m n (subst (λ x. Goes d x n) (sym e) g)
  step_below m l n (inr w) g = leads_then m l n w g

  child_below : (m : Location) (s : Schema) → Below m s → (c : Child) → Contains (same_children s) c → Below m c.1
  child_below m s b c h = record {
    at = b.at ++ c.0;
    stands = children_stand d b.at s c b.stands h;
    from = inr (step_below m b.at (b.at ++ c.0) b.from (to_child b.at s c b.stands h));
  }

  -- ---- no target is come to twice

  module _ (guarded : IsGuarded d) where
    -- what fails the test has led to m
    abbrev Visited : (Location → Bool) → Location → Type 0
    Visited p m = (x : Location) → p x ≡ false → Leads d x m

    passes : (p : Location → Bool) (m : Location) → Visited p m → (b : Bool) → p m ≡ b → b ≡ true
    passes p m v true e = refl
    passes p m v false e = absurd (guarded m (v m e))

    visited_next : (p : Location → Bool) (m n : Location) → Visited p m → Leads d m n → Visited (without p m) n
    visited_next p m n v w x h = by_tests (p x) refl (same_location x m) refl h
      where
        by_tests : (a : Bool) → p x ≡ a → (b : Bool) → same_location x m ≡ b → (a && not b) ≡ false → Leads d x n
        by_tests false e b f h = joined x m n (v x e) w
        by_tests true e true f h = subst (λ y. Leads d y n) (sym (same_location-sound x m f)) w
        by_tests true e false f h = absurd (true≢false h)

    -- a reference of a schema below m leads on
    record Next (p : Location → Bool) (m : Location) (t : Schema) : Type 0 where
      at : Location
      stands : schema_at d at ≡ Some t
      listed : Contains target_places at
      visited : Visited (without p m) at
      room : suc (passing (without p m) target_places) ≤ passing p target_places

    next : (p : Location → Bool) (m : Location) → Contains target_places m → Visited p m → (s : Schema) (q : List ℕ) → Below m s → reference_of s ≡ Some q → (t : Schema) → target d q ≡ Some t → Next p m t
    next p m c v s q b e t h =
        let g = target_at q t h in
        record {
          at = g.at;
          stands = g.stands;
          listed = g.listed;
          visited = visited_next p m g.at v (step_below m b.at g.at b.from (to_target b.at g.at s q b.stands e g.leads));
          room = one_fewer p m target_places c (passes p m v (p m) refl);
        }

    still_one : (p : Location → Bool) (m : Location) → Contains target_places m → Visited p m → 1 ≤ passing p target_places
    still_one p m c v = let h = one_fewer p m target_places c (passes p m v (p m) refl) in omega arith

    ends : (k : ℕ) (p : Location → Bool) (m : Location) (t : Schema) → Contains target_places m → schema_at d m ≡ Some t → passing p target_places ≤ suc k → Visited p m → Ends d k t
    ends zero p m t c h n v =
        refs_at (λ q. target d q ≡ None) (Below m) (child_below m)
        (λ s q b e. none_left s q b e (target d q) refl)
        t (record { at = m; stands = h; from = inl refl })
      where
        none_left : (s : Schema) (q : List ℕ) → Below m s → reference_of s ≡ Some q → (o : Option Schema) → target d q ≡ o → o ≡ None
        none_left s q b e None f = refl
        none_left s q b e (Some u) f =
            let x = next p m c v s q b e u f in
            let y = still_one (without p m) x.at x.listed x.visited in
            let z = x.room in
            absurd (omega arith)
    ends (suc k) p m t c h n v =
        refs_at (λ q. Given (Ends d k) (target d q)) (Below m) (child_below m)
        (λ s q b e. given_by (Ends d k) (target d q) (λ u f.
        let x = next p m c v s q b e u f in
        let z = x.room in
        ends k (without p m) x.at u x.listed x.stands (omega arith) x.visited))
        t (record { at = m; stands = h; from = inl refl })

    all_left : passing (λ x. true) target_places ≡ allowed d
    all_left = all_pass target_places ∙ ap suc (map_length definition_location d.definitions)

    none_visited : (m : Location) → Visited (λ x. true) m
    none_visited m x h = absurd (true≢false h)

    -- whatever the schema, its walks of references end within those allowed
    pub all_end : (s : Schema) → Ends d (allowed d) s
    all_end s =
        refs_at (λ q. Given (Ends d (length d.definitions)) (target d q)) (λ s. Unit {0}) (λ s a c h. tt)
        (λ s q a e. given_by (Ends d (length d.definitions)) (target d q) (λ u f.
        let g = target_at q u f in
        let n = all_left in
        ends (length d.definitions) (λ x. true) g.at u g.listed g.stands (omega arith) (none_visited g.at)))
        s tt

pub spare_references_say_nothing : SpareReferencesSayNothing
spare_references_say_nothing r d g n h v s =
    sym (spare d r v (parts_of r d v) (allowed d) n h s (all_end d g s)) ∙ sym (ap (λ j. j s) (admits-level r d v))
