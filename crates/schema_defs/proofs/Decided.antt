-- The test decides whether a document is guarded.
use Rattle.std.proofs.Common.{◌≡◌, ℕ, zero, suc, ◌<◌, ◌≤◌, List, [], ◌∷◌, ◌++◌, map, length, Bool, true, false, ◌&&◌, refl, sym, ap, subst, ◌∙◌, inl, inr, arith, true≢false, length-append}
use Rattle.std.specs.Prelude.{Option, Some, None, is_none, Contains, ◌⊎◌, option_to_list, option_map, codes, if◌then◌else◌}
use Rattle.std.specs.List.{list_all}
use Rattle.std.proofs.lemmas.List.Elements.{Contains-append_cases}
use Rattle.schema_defs.specs.Location.{Step, Location, place}
use Rattle.schema_defs.specs.Schema.{Schema, boolean, object, Same, no_same, same_value, MaybeSchema, no_schema, the_schema, MaybeSchemas, no_list, the_list, Schemas, no_more, schema, Definition, Document}
use Rattle.schema_defs.specs.Admits.{allowed, target, target_location, definition_location, defined_as, definition_name, is_root_reference}
use Rattle.schema_defs.specs.Children.{Child, schema_at, reference_of, children_of_maybe, children_from, children_of_list, children_of_same, same_children}
use Rattle.schema_defs.specs.Walks.{Goes, to_child, to_target, Leads, one_step, more_steps, IsGuarded, GoesRound}
use Rattle.schema_defs.specs.References.{targets, same_references, references_of_same, references_of_list, references_of_maybe, references_of_all, none_or, ends_within, is_guarded}
use Rattle.schema_defs.specs.Laws.{GuardedIsDecided, LoopsAreUnguarded}
use Rattle.schema_defs.proofs.Stand.{at_place, first_in, rest_in, first_or_rest, none_in, children_stand, some_same, none_is_not}
use Rattle.schema_defs.proofs.Spare.{Given, Refs, RefsSame, RefsLists, RefsMaybe, RefsAll, Refs-weaker, Ends}
use Rattle.schema_defs.proofs.Guarded.{given_by, refs_at, all_end, defined_is, in_map, definition_stands}

-- ---- the test as a fact of each reference

both : (a b : Bool) → a ≡ true → b ≡ true → (a && b) ≡ true
both a b h k = λ i. h i && k i

first_of_both : (a b : Bool) → (a && b) ≡ true → a ≡ true
first_of_both true b h = refl
first_of_both false b h = h

second_of_both : (a b : Bool) → (a && b) ≡ true → b ≡ true
second_of_both true b h = h
second_of_both false b h = absurd (true≢false (sym h))

module _ (test : List ℕ → Bool) where
  abbrev Passes : List ℕ → Type 0
  Passes q = test q ≡ true

  abbrev passes : List (List ℕ) → Bool
  passes qs = list_all test qs

  passes-append : (xs ys : List (List ℕ)) → passes (xs ++ ys) ≡ (passes xs && passes ys)
  passes-append [] ys = refl
  passes-append (x ∷ xs) ys = ap (λ b. test x && b) (passes-append xs ys) ∙ regroup (test x) (passes xs) (passes ys)
    where
      regroup : (a b c : Bool) → (a && (b && c)) ≡ ((a && b) && c)
      regroup true b c = refl
      regroup false b c = refl

  join : (xs ys : List (List ℕ)) → passes xs ≡ true → passes ys ≡ true → passes (xs ++ ys) ≡ true
  join xs ys h k = passes-append xs ys ∙ both _ _ h k

  left_part : (xs ys : List (List ℕ)) → passes (xs ++ ys) ≡ true → passes xs ≡ true
  left_part xs ys h = first_of_both _ _ (sym (passes-append xs ys) ∙ h)

  right_part : (xs ys : List (List ℕ)) → passes (xs ++ ys) ≡ true → passes ys ≡ true
  right_part xs ys h = second_of_both (passes xs) (passes ys) (sym (passes-append xs ys) ∙ h)

  given_passes : (o : Option (List ℕ)) → passes (option_to_list o) ≡ true → Given Passes o
  given_passes None h = tt
  given_passes (Some q) h = first_of_both _ _ h

  passes_given : (o : Option (List ℕ)) → Given Passes o → passes (option_to_list o) ≡ true
  passes_given None h = refl
  passes_given (Some q) h = both _ _ h refl

  mutual
    pub refs_pass : (s : Schema) → passes (same_references s) ≡ true → Refs Passes s
    refs_pass (boolean b) h = tt
    refs_pass (object p ss ls ns) h = (
      given_passes p.reference (left_part (option_to_list p.reference) (references_of_same ss) h),
      same_pass ss (right_part (option_to_list p.reference) (references_of_same ss) h),
    )

    same_pass : (ss : Same) → passes (references_of_same ss) ≡ true → RefsSame Passes ss
    same_pass no_same h = tt
    same_pass (same_value all any one none conditional) h =
        let a = references_of_list all in
        let b = references_of_list any in
        let o = references_of_list one in
        let n = references_of_maybe none in
        let abo = left_part (a ++ b ++ o) n h in
        let ab = left_part (a ++ b) o abo in (
          list_pass all (left_part a b ab),
          list_pass any (right_part a b ab),
          list_pass one (right_part (a ++ b) o abo),
          maybe_pass none (right_part (a ++ b ++ o) n h),
        )

    list_pass : (m : MaybeSchemas) → passes (references_of_list m) ≡ true → RefsLists Passes m
    list_pass no_list h = tt
    list_pass (the_list ss) h = all_pass ss h

    maybe_pass : (m : MaybeSchema) → passes (references_of_maybe m) ≡ true → RefsMaybe Passes m
    maybe_pass no_schema h = tt
    maybe_pass (the_schema s) h = refs_pass s h

    all_pass : (ss : Schemas) → passes (references_of_all ss) ≡ true → RefsAll Passes ss
    all_pass no_more h = tt
    all_pass (schema s ss) h = (refs_pass s (left_part (same_references s) (references_of_all ss) h), all_pass ss (right_part (same_references s) (references_of_all ss) h))

  mutual
    pub pass_refs : (s : Schema) → Refs Passes s → passes (same_references s) ≡ true
    pass_refs (boolean b) h = refl
    pass_refs (object p ss ls ns) h = join (option_to_list p.reference) (references_of_same ss) (passes_given p.reference h.0) (pass_same ss h.1)

    pass_same : (ss : Same) → RefsSame Passes ss → passes (references_of_same ss) ≡ true
    pass_same no_same h = refl
    pass_same (same_value all any one none conditional) h =
        let a = references_of_list all in
        let b = references_of_list any in
        let o = references_of_list one in
        let n = references_of_maybe none in
        join (a ++ b ++ o) n (join (a ++ b) o (join a b (pass_list all h.0) (pass_list any h.1)) (pass_list one h.2)) (pass_maybe none h.3)

    pass_list : (m : MaybeSchemas) → RefsLists Passes m → passes (references_of_list m) ≡ true
    pass_list no_list h = refl
    pass_list (the_list ss) h = pass_all ss h

    pass_maybe : (m : MaybeSchema) → RefsMaybe Passes m → passes (references_of_maybe m) ≡ true
    pass_maybe no_schema h = refl
    pass_maybe (the_schema s) h = pass_refs s h

    pass_all : (ss : Schemas) → RefsAll Passes ss → passes (references_of_all ss) ≡ true
    pass_all no_more h = refl
    pass_all (schema s ss) h = join (same_references s) (references_of_all ss) (pass_refs s h.0) (pass_all ss h.1)

-- ---- the facts of a schema hold of its parts

module _ (P : List ℕ → Type 0) where
  given_one : (o : Option (List ℕ)) (q : List ℕ) → Given P o → o ≡ Some q → P q
  given_one None q h e = absurd (none_is_not q e)
  given_one (Some p) q h e = subst P (some_same p q e) h

  own_ref : (s : Schema) (q : List ℕ) → Refs P s → reference_of s ≡ Some q → P q
  own_ref (boolean b) q h e = absurd (none_is_not q e)
  own_ref (object p ss ls ns) q h e = given_one p.reference q h.0 e

  in_all : (w : Step) (i : ℕ) (ss : Schemas) → RefsAll P ss → (c : Child) → Contains (children_from w i ss) c → Refs P c.1
  in_all w i no_more h c k = absurd (none_in c k)
  in_all w i (schema s ss) h c k =
      elim (first_or_rest (w ∷ place i ∷ [], s) (children_from w (suc i) ss) c k) [
        | inl e ↦ subst (λ c. Refs P c.1) e h.0
        | inr g ↦ in_all w (suc i) ss h.1 c g
      ]

  in_list : (w : Step) (m : MaybeSchemas) → RefsLists P m → (c : Child) → Contains (children_of_list w m) c → Refs P c.1
  in_list w no_list h c k = absurd (none_in c k)
  in_list w (the_list ss) h c k = in_all w 0 ss h c k

  in_maybe : (w : Step) (m : MaybeSchema) → RefsMaybe P m → (c : Child) → Contains (children_of_maybe w m) c → Refs P c.1
  in_maybe w no_schema h c k = absurd (none_in c k)
  in_maybe w (the_schema s) h c k =
      elim (first_or_rest (w ∷ [], s) [] c k) [
        | inl e ↦ subst (λ c. Refs P c.1) e h
        | inr g ↦ absurd (none_in c g)
      ]

  in_same : (ss : Same) → RefsSame P ss → (c : Child) → Contains (children_of_same ss) c → Refs P c.1
  in_same no_same h c k = absurd (none_in c k)
  in_same (same_value all any one none conditional) h c k =
      let a = children_of_list (codes "allOf") all in
      let b = children_of_list (codes "anyOf") any in
      let o = children_of_list (codes "oneOf") one in
      elim (Contains-append_cases (a ++ b ++ o) (children_of_maybe (codes "not") none) c k) [
        | inr g ↦ in_maybe (codes "not") none h.3 c g
        | inl k ↦ elim (Contains-append_cases (a ++ b) o c k) [
          | inr g ↦ in_list (codes "oneOf") one h.2 c g
          | inl k ↦ elim (Contains-append_cases a b c k) [
            | inr g ↦ in_list (codes "anyOf") any h.1 c g
            | inl g ↦ in_list (codes "allOf") all h.0 c g
          ]
        ]
      ]

  child_ref : (s : Schema) → Refs P s → (c : Child) → Contains (same_children s) c → Refs P c.1
  child_ref (boolean b) h c k = absurd (none_in c k)
  child_ref (object p ss ls ns) h c k = in_same ss h.1 c k

-- ---- a child is a step or two further

list_further : (w : Step) (m : MaybeSchemas) (c : Child) → Contains (children_of_list w m) c → 1 ≤ length c.0
list_further w no_list c h = absurd (none_in c h)
list_further w (the_list ss) c h = let r = at_place w 0 ss c h in rw r.2 (omega arith)

maybe_further : (w : Step) (m : MaybeSchema) (c : Child) → Contains (children_of_maybe w m) c → 1 ≤ length c.0
maybe_further w no_schema c h = absurd (none_in c h)
maybe_further w (the_schema s) c h =
    elim (first_or_rest (w ∷ [], s) [] c h) [
      | inl e ↦ subst (λ c. 1 ≤ length c.0) e (omega arith)
      | inr g ↦ absurd (none_in c g)
    ]

same_further : (ss : Same) (c : Child) → Contains (children_of_same ss) c → 1 ≤ length c.0
same_further no_same c h = absurd (none_in c h)
same_further (same_value all any one none conditional) c h =
    let a = children_of_list (codes "allOf") all in
    let b = children_of_list (codes "anyOf") any in
    let o = children_of_list (codes "oneOf") one in
    elim (Contains-append_cases (a ++ b ++ o) (children_of_maybe (codes "not") none) c h) [
      | inr g ↦ maybe_further (codes "not") none c g
      | inl h ↦ elim (Contains-append_cases (a ++ b) o c h) [
        | inr g ↦ list_further (codes "oneOf") one c g
        | inl h ↦ elim (Contains-append_cases a b c h) [
          | inr g ↦ list_further (codes "anyOf") any c g
          | inl g ↦ list_further (codes "allOf") all c g
        ]
      ]
    ]

further : (s : Schema) (c : Child) → Contains (same_children s) c → 1 ≤ length c.0
further (boolean b) c h = absurd (none_in c h)
further (object p ss ls ns) c h = same_further ss c h

-- ---- the test and the fact

list_all-holds : {X : Type 0} (f : X → Bool) (xs : List X) (x : X) → list_all f xs ≡ true → Contains xs x → f x ≡ true
list_all-holds f [] x h k = absurd (none_in x k)
list_all-holds f (y ∷ ys) x h k =
    elim (first_or_rest y ys x k) [
      | inl e ↦ ap f (sym e) ∙ first_of_both (f y) (list_all f ys) h
      | inr g ↦ list_all-holds f ys x (second_of_both (f y) (list_all f ys) h) g
    ]

list_all-every : {X : Type 0} (f : X → Bool) (xs : List X) → ((x : X) → f x ≡ true) → list_all f xs ≡ true
list_all-every f [] h = refl
list_all-every f (x ∷ xs) h = both _ _ (h x) (list_all-every f xs h)

none_if_none : {A : Type 0} (o : Option A) → is_none o ≡ true → o ≡ None
none_if_none None h = refl
none_if_none (Some x) h = absurd (true≢false (sym h))

is_none_of : {A : Type 0} (o : Option A) → o ≡ None → is_none o ≡ true
is_none_of o h = ap is_none h

module _ (d : Document) where
  given_ends : (n : ℕ) → ((s : Schema) → ends_within d n s ≡ true → Ends d n s) → (o : Option Schema) → none_or (ends_within d n) o ≡ true → Given (Ends d n) o
  given_ends n k None h = tt
  given_ends n k (Some s) h = k s h

  ends_given : (n : ℕ) → ((s : Schema) → Ends d n s → ends_within d n s ≡ true) → (o : Option Schema) → Given (Ends d n) o → none_or (ends_within d n) o ≡ true
  ends_given n k None h = refl
  ends_given n k (Some s) h = k s h

  ends_of_test : (n : ℕ) (s : Schema) → ends_within d n s ≡ true → Ends d n s
  ends_of_test zero s h = Refs-weaker _ _ (λ q k. none_if_none (target d q) k) s (refs_pass (λ q. is_none (target d q)) s h)
  ends_of_test (suc n) s h =
      Refs-weaker _ _ (λ q k. given_ends n (ends_of_test n) (target d q) k) s (refs_pass (λ q. none_or (ends_within d n) (target d q)) s h)

  test_of_ends : (n : ℕ) (s : Schema) → Ends d n s → ends_within d n s ≡ true
  test_of_ends zero s h = pass_refs (λ q. is_none (target d q)) s (Refs-weaker _ _ (λ q k. is_none_of (target d q) k) s h)
  test_of_ends (suc n) s h =
      pass_refs (λ q. none_or (ends_within d n) (target d q)) s (Refs-weaker _ _ (λ q k. ends_given n (test_of_ends n) (target d q) k) s h)

  test_of_guarded : IsGuarded d → is_guarded d ≡ true
  test_of_guarded g = list_all-every (ends_within d (allowed d)) (targets d) (λ s. test_of_ends (allowed d) s (all_end d g s))

  -- ---- a loop would go on for ever

  target_listed : (q : List ℕ) (t : Schema) → target d q ≡ Some t → Contains (targets d) t
  target_listed q t h = by_form (is_root_reference q) (defined_as d (definition_name q)) refl h
    where
      by_form : (b : Bool) (o : Option Definition) → defined_as d (definition_name q) ≡ o → (if b then Some d.root else option_map (λ e. e.body) o) ≡ Some t → Contains (targets d) t
      by_form true o g h = subst (λ s. Contains (targets d) s) (some_same d.root t h) (first_in d.root (map (λ e. e.body) d.definitions))
      by_form false None g h = absurd (none_is_not t h)
      by_form false (Some e) g h =
          subst (λ s. Contains (targets d) s) (some_same e.body t h)
          (rest_in d.root (map (λ e. e.body) d.definitions) e.body (in_map (λ e. e.body) d.definitions e (defined_is d (definition_name q) e g).1))

  located : (q : List ℕ) (m : Location) → target_location d q ≡ Some m → (t : Schema) × (target d q ≡ Some t) × (schema_at d m ≡ Some t)
  located q m h = by_form (is_root_reference q) refl (defined_as d (definition_name q)) refl h
    where
      by_form : (b : Bool) → is_root_reference q ≡ b → (o : Option Definition) → defined_as d (definition_name q) ≡ o → (if b then Some [] else option_map definition_location o) ≡ Some m
          → (t : Schema) × (target d q ≡ Some t) × (schema_at d m ≡ Some t)
      by_form true f o g h = (
        d.root,
        ap (λ b. if b then Some d.root else option_map (λ e. e.body) (defined_as d (definition_name q))) f,
        ap (schema_at d) (sym (some_same [] m h)),
      )
      by_form false f None g h = absurd (none_is_not m h)
      by_form false f (Some e) g h = (
        e.body,
        ap (λ b. if b then Some d.root else option_map (λ e. e.body) (defined_as d (definition_name q))) f ∙ ap (option_map (λ e. e.body)) g,
        ap (schema_at d) (sym (some_same (definition_location e) m h)) ∙ definition_stands d e (defined_is d (definition_name q) e g).0,
      )

  -- where a walk from l with n targets left has come
  record Along (n : ℕ) (l m : Location) : Type 0 where
    schema_there : Schema
    stands : schema_at d m ≡ Some schema_there
    left : ℕ
    ends : Ends d left schema_there
    progress : ((left ≡ n) × (length l < length m)) ⊎ (left < n)

  child_ends : (n : ℕ) (s : Schema) → Ends d n s → (c : Child) → Contains (same_children s) c → Ends d n c.1
  child_ends zero s h c k = child_ref (λ q. target d q ≡ None) s h c k
  child_ends (suc n) s h c k = child_ref (λ q. Given (Ends d n) (target d q)) s h c k

  same_schema : (l : Location) (s t : Schema) → schema_at d l ≡ Some s → schema_at d l ≡ Some t → s ≡ t
  same_schema l s t e f = some_same s t (sym e ∙ f)

  through_target : (n : ℕ) (l m : Location) (s : Schema) (q : List ℕ) → Ends d n s → reference_of s ≡ Some q → (t : Schema) → target d q ≡ Some t → schema_at d m ≡ Some t → Along n l m
  through_target zero l m s q h e t f g = absurd (none_is_not t (sym (own_ref (λ q. target d q ≡ None) s q h e) ∙ f))
  through_target (suc n) l m s q h e t f g = record {
    schema_there = t;
    stands = g;
    left = n;
    ends = given_one_schema (target d q) (own_ref (λ q. Given (Ends d n) (target d q)) s q h e) f;
    progress = inr (omega arith);
  }
    where
      given_one_schema : (o : Option Schema) → Given (Ends d n) o → o ≡ Some t → Ends d n t
      given_one_schema None k f = absurd (none_is_not t f)
      given_one_schema (Some u) k f = subst (Ends d n) (some_same u t f) k

  step_along : (l m : Location) → Goes d l m → (n : ℕ) (s : Schema) → schema_at d l ≡ Some s → Ends d n s → Along n l m
  step_along _ _ (to_child l t c e k) n s h w = record {
    schema_there = c.1;
    stands = children_stand d l t c e k;
    left = n;
    ends = child_ends n t (subst (Ends d n) (same_schema l s t h e) w) c k;
    progress = inl (refl, let f = further t c k in let g = length-append l c.0 in omega arith);
  }
  step_along _ _ (to_target l m t q e f g) n s h w =
      let r = located q m g in
      through_target n l m t q (subst (Ends d n) (same_schema l s t h e) w) f r.0 r.1 r.2

  then_along : (n : ℕ) (l k m : Location) → (a : Along n l k) → Along a.left k m → Along n l m
  then_along n l k m a b = record {
    schema_there = b.schema_there;
    stands = b.stands;
    left = b.left;
    ends = b.ends;
    progress = further_on a.left b.left a.progress b.progress;
  }
    where
      further_on : (i j : ℕ) → ((i ≡ n) × (length l < length k)) ⊎ (i < n) → ((j ≡ i) × (length k < length m)) ⊎ (j < i) → ((j ≡ n) × (length l < length m)) ⊎ (j < n)
      further_on i j (inl x) (inl y) = let x0 = x.0 in let x1 = x.1 in let y0 = y.0 in let y1 = y.1 in inl (omega arith, omega arith)
      further_on i j (inl x) (inr y) = let x0 = x.0 in inr (omega arith)
      further_on i j (inr x) (inl y) = let y0 = y.0 in inr (omega arith)
      further_on i j (inr x) (inr y) = inr (omega arith)

  walk_along : (l m : Location) → Leads d l m → (n : ℕ) (s : Schema) → schema_at d l ≡ Some s → Ends d n s → Along n l m
  walk_along _ _ (one_step l m g) n s h w = step_along l m g n s h w
  walk_along _ _ (more_steps l k m g v) n s h w =
      let a = step_along l k g n s h w in
      then_along n l k m a (walk_along k m v a.left a.schema_there a.stands a.ends)

  -- the walk round and round would leave fewer targets each time
  no_loop : (b n : ℕ) → n ≤ b → (l : Location) (s : Schema) → schema_at d l ≡ Some s → Ends d n s → Leads d l l → ⊥
  no_loop zero n h l s e w v = let a = walk_along l l v n s e w in by_progress a.left a.progress
    where
      by_progress : (i : ℕ) → ((i ≡ n) × (length l < length l)) ⊎ (i < n) → ⊥
      by_progress i (inl x) = let y = x.1 in absurd (omega arith)
      by_progress i (inr x) = absurd (omega arith)
  no_loop (suc b) n h l s e w v = let a = walk_along l l v n s e w in by_progress a.left a.progress (λ k. no_loop b a.left k l a.schema_there a.stands a.ends v)
    where
      by_progress : (i : ℕ) → ((i ≡ n) × (length l < length l)) ⊎ (i < n) → (i ≤ b → ⊥) → ⊥
      by_progress i (inl x) k = let y = x.1 in absurd (omega arith)
      by_progress i (inr x) k = k (omega arith)

  schema_of_step : (l m : Location) → Goes d l m → (s : Schema) × (schema_at d l ≡ Some s)
  schema_of_step _ _ (to_child l s c e k) = (s, e)
  schema_of_step _ _ (to_target l m s q e f g) = (s, e)

  start_of : (l m : Location) → Leads d l m → (s : Schema) × (schema_at d l ≡ Some s)
  start_of _ _ (one_step l m g) = schema_of_step l m g
  start_of _ _ (more_steps l k m g v) = schema_of_step l k g

  guarded_of_test : is_guarded d ≡ true → IsGuarded d
  guarded_of_test h l v =
      let s = start_of l l v in
      no_loop (suc (allowed d)) (suc (allowed d)) (omega arith) l s.0 s.1 (every_schema s.0) v
    where
      every_schema : (s : Schema) → Ends d (suc (allowed d)) s
      every_schema s =
          refs_at (λ q. Given (Ends d (allowed d)) (target d q)) (λ s. Unit {0}) (λ s a c h. tt)
          (λ s q a e. given_by (Ends d (allowed d)) (target d q)
          (λ t f. ends_of_test (allowed d) t (list_all-holds (ends_within d (allowed d)) (targets d) t h (target_listed q t f))))
          s tt

pub guarded_is_decided : GuardedIsDecided
guarded_is_decided d = (guarded_of_test d, test_of_guarded d)

-- ---- loops

round_leads : (d : Document) (back l : Location) (ls : List Location) → GoesRound d back l ls → Leads d l back
round_leads d back l [] h = absurd h
round_leads d back l (m ∷ []) h = subst (Leads d l) h.1 (one_step l m h.0)
round_leads d back l (m ∷ n ∷ ls) h = more_steps l m back h.0 (round_leads d back m (n ∷ ls) h.1)

pub loops_are_unguarded : LoopsAreUnguarded
loops_are_unguarded d [] h g = absurd h
loops_are_unguarded d (l ∷ ls) h g = g l (round_leads d l l ls h)
