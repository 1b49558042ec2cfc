-- Walks round at one value.
use Rattle.std.proofs.Common.{◌≡◌, ℕ, suc, ◌+◌, ◌<◌, ◌≤◌, List, [], ◌∷◌, ◌++◌, length, drop, get_or, Bool, true, false, refl, sym, ap, ◌∙◌, subst, inl, inr, arith, append_assoc, unwrap_or, length-append, drop-cons, Bor}
use Rattle.std.specs.Prelude.{Option, Some, None, Contains, reverse, option_map, if◌then◌else◌}
use Rattle.schema_defs.specs.Location.{Location}
use Rattle.schema_defs.specs.Schema.{Schema, Document}
use Rattle.schema_defs.specs.Admits.{definition_name, target_location, is_root_reference}
use Rattle.schema_defs.specs.Children.{schema_at}
use Rattle.schema_defs.specs.Walks.{Goes, to_child, to_target, GoesRound, IsLoop}
use Rattle.schema_defs.proofs.Stand.{none_in, children_stand}
use Rattle.schema_loops.specs.Named.{Rises, target_names, schema_named, place_named, named_number, number_by, number_of_name, row_at, named_graph, seen}
use Rattle.schema_loops.specs.Way.{IsWay, HasWay, LacksNumber, numbered}
use Rattle.schema_loops.specs.declared.numbers.Numbers.{Numbers}
use Rattle.reference_graph.specs.Graph as graph
use Rattle.reference_graph.specs.Graph.{Refers}
use Rattle.reference_graph.proofs.Routes.{leads_past}
use Rattle.schema_defs.specs.References.{same_references}
use Rattle.std.proofs.lemmas.List.{get_or-map, length-map, drop_all}
use Rattle.std.proofs.lemmas.Bool.{cases_lt}
use Rattle.schema_loops.specs.Round.{location_named, places_down, Follows, GoesOn, IsNumbered, BeginsAt, IsOnTheWay, location_at}
use Rattle.schema_guards.specs.Targets.{target_places, number_of, reference_graph_of, BeginsFirst}
use Rattle.schema_guards.proofs.Guards.{from_map, targeted, none_before}
use Rattle.schema_loops.proofs.Graphs.{named_stands, count_is, place_is, number_is}

module _ (d : Document) where
  -- ---- walks are joined

  pub follows_on : (l m n : Location) (ks js : List Location) → Follows d l ks m → Follows d m js n → Follows d l (ks ++ js) n
  follows_on l m n [] js f g = subst (λ x. Follows d x js n) (sym f) g
  follows_on l m n (k ∷ ks) js f g = (f.0, follows_on k m n ks js f.1 g)

  pub goes_round : (back l k : Location) (ks : List Location) → Follows d l (k ∷ ks) back → GoesRound d back l (k ∷ ks)
  goes_round back l k [] f = f
  goes_round back l k (j ∷ ks) f = (f.0, goes_round back k j ks f.1)

  -- ---- the way down to a reference

  pub way_follows : (q : List ℕ) (ks : List Location) (l m : Location) (s : Schema) → schema_at d l ≡ Some s → IsWay q ks s → target_location d q ≡ Some m → Follows d l (places_down l ks ++ m ∷ []) m
  way_follows q [] l m s e w t = (to_target l m s q e w t, refl)
  way_follows q (k ∷ ks) l m s e w t =
      let c = w.0 in
      let stands : schema_at d (l ++ k) ≡ Some c.1 = ap (λ k. schema_at d (l ++ k)) (sym w.2) ∙ children_stand d l s c e w.1 in
      (subst (λ k. Goes d l (l ++ k)) w.2 (to_child l s c e w.1), way_follows q ks (l ++ k) m c.1 stands w.3 t)

module _ (d : Document) where
  abbrev place : List ℕ → Option ℕ
  place n = place_named n 0 (target_names d)

  abbrev count : ℕ
  count = length (target_names d)

  -- a reference's number is its target's
  leads_to : Rises d → (q : List ℕ) (j : ℕ) → number_by place count q ≡ j → j < count → target_location d q ≡ Some (location_at d j)
  leads_to rise q j h lt =
      let n : number_of d q ≡ j = sym (number_is d rise q) ∙ h in
      let c : count ≡ length (target_places d) = count_is d rise in
      let t = targeted d q (omega arith) in
      t.1 ∙ ap Some (sym t.2 ∙ ap (λ i. get_or (target_places d) i []) n ∙ sym (place_is d rise j lt))

  row_refers : (i j : ℕ) → Refers (named_graph d) i j → (i < count) × Contains (row_at place count (schema_named d (get_or (target_names d) i None))) j
  row_refers i j r = elim (cases_lt i count) [
    | inl h ↦ (h, subst (λ xs. Contains xs j) (get_or-map (λ t. row_at place count (schema_named d t)) (target_names d) i None [] h) r)
    | inr h ↦ absurd (leads_past (named_graph d) i j (let n = length-map (target_names d) (λ (t : Option (List ℕ)). row_at place count (schema_named d t)) in omega arith) (graph.one_step i j r))
  ]

  number_same : (m : Numbers) (ts : List (Option (Bor (List ℕ)))) → IsNumbered d m ts → (q : List ℕ) → numbered m q ≡ number_by place count q
  number_same m ts h q = by_form (is_root_reference q) (definition_name q)
    where
      by_form : (b : Bool) (o : Option (List ℕ)) → (if b then 0 else named_number (number_of_name m.by_name) m.count o) ≡ (if b then 0 else named_number place count o)
      by_form true o = refl
      by_form false None = h.2
      by_form false (Some n) = ap (λ o. unwrap_or o m.count) (h.1 n) ∙ ap (unwrap_or (place n)) h.2

  -- a target at which nothing stands refers to none
  pub none_refers : (m : Numbers) (ts : List (Option (Bor (List ℕ)))) (i j : ℕ) (t : Option (List ℕ)) → t ≡ get_or (seen ts) i None → schema_named d t ≡ None → IsNumbered d m ts → Refers (named_graph d) i j → ⊥
  none_refers m ts i j t e k h r =
      let x = (row_refers i j r).1 in
      let at : get_or (target_names d) i None ≡ t = ap (λ ts. get_or ts i None) (sym h.0) ∙ sym e in
      none_in j (subst (λ o. Contains (row_at place count o) j) (ap (schema_named d) at ∙ k) x)

  pub lacking_refers : (m : Numbers) (ts : List (Option (Bor (List ℕ)))) (i j : ℕ) (t : Option (List ℕ)) (s : Schema) → t ≡ get_or (seen ts) i None → schema_named d t ≡ Some s → LacksNumber (numbered m) j s → IsNumbered d m ts → Refers (named_graph d) i j → ⊥
  lacking_refers m ts i j t s e k l h r =
      let at : get_or (target_names d) i None ≡ t = ap (λ ts. get_or ts i None) (sym h.0) ∙ sym e in
      let x = from_map (number_by place count) (same_references s) j (subst (λ o. Contains (row_at place count o) j) (ap (schema_named d) at ∙ k) (row_refers i j r).1) in
      l x.0 x.1 (number_same m ts h x.0 ∙ x.2)

  pub way_on : (m : Numbers) (ts : List (Option (Bor (List ℕ)))) (i j : ℕ) (t u : Option (List ℕ)) (s : Schema) (ks : List Location) (old mid new : List Location) (l n : Location)
      → t ≡ get_or (seen ts) i None → schema_named d t ≡ Some s → HasWay (numbered m) j s ks → l ≡ location_named d t → mid ≡ old ++ places_down l (reverse ks) → u ≡ get_or (seen ts) j None → n ≡ location_named d u → new ≡ mid ++ n ∷ []
      → IsNumbered d m ts → j < count → GoesOn d (location_at d i) (location_at d j) old new
  way_on m ts i j t u s ks old mid new l n e k w el em eu en ew h lt =
      let at : t ≡ get_or (target_names d) i None = e ∙ ap (λ ts. get_or ts i None) h.0 in
      let from : l ≡ location_at d i = el ∙ ap (location_named d) at in
      let to : n ≡ location_at d j = en ∙ ap (location_named d) (eu ∙ ap (λ ts. get_or ts j None) h.0) in
      let stands : schema_at d l ≡ Some s = ap (schema_at d) el ∙ named_stands d t ∙ k in
      let leads : target_location d w.0 ≡ Some n = leads_to h.3 w.0 j (sym (number_same m ts h w.0) ∙ w.1) lt ∙ ap Some (sym to) in
      let way : Follows d l (places_down l (reverse ks) ++ n ∷ []) n = way_follows d w.0 (reverse ks) l n s stands w.2 leads in (
        places_down l (reverse ks) ++ n ∷ [],
        ew ∙ ap (λ x. x ++ n ∷ []) em ∙ append_assoc old (places_down l (reverse ks)) (n ∷ []),
        (let y = length-append (places_down l (reverse ks)) (n ∷ []) in omega arith),
        subst (λ x. Follows d x (places_down l (reverse ks) ++ n ∷ []) (location_at d j)) from (subst (Follows d l (places_down l (reverse ks) ++ n ∷ [])) to way),
      )

  ahead_within : (back i : ℕ) (js : List ℕ) → graph.GoesRound (named_graph d) back i js → i < count
  ahead_within back i [] r = (row_refers i back r).0
  ahead_within back i (j ∷ js) r = (row_refers i j r.0).0

  pub way_begins : (m : Numbers) (ts : List (Option (Bor (List ℕ)))) (first : ℕ) (rest : List ℕ) (t : Option (List ℕ)) (l : Location) (none places : List Location) → t ≡ get_or (seen ts) first None → l ≡ location_named d t → none ≡ [] → places ≡ none ++ l ∷ []
      → IsNumbered d m ts → graph.IsLoop (named_graph d) (first ∷ rest) → IsOnTheWay d first first rest places
  way_begins m ts first rest t l none places e k z g h r = (r, ([], g ∙ ap (λ ps. ps ++ l ∷ []) z ∙ ap (λ l. l ∷ []) (k ∙ ap (location_named d) (e ∙ ap (λ ts. get_or ts first None) h.0)), refl))

  abbrev further_on : (first at next : ℕ) (old new : List Location) → (ks : List Location) × (old ≡ location_at d first ∷ ks) × Follows d (location_at d first) ks (location_at d at) → GoesOn d (location_at d at) (location_at d next) old new
      → (ks : List Location) × (new ≡ location_at d first ∷ ks) × Follows d (location_at d first) ks (location_at d next)
  further_on first at next old new x y = (x.0 ++ y.0, y.1 ∙ ap (λ ps. ps ++ y.0) x.1, follows_on d (location_at d first) (location_at d at) (location_at d next) x.0 y.0 x.2 y.3)

  pub way_goes_on : (first at next i : ℕ) (rest : List ℕ) (old new : List Location) → i < length rest → next ≡ get_or rest i 0 → IsOnTheWay d first at (drop i rest) old
      → (Refers (named_graph d) at next → next < count → GoesOn d (location_at d at) (location_at d next) old new) → IsOnTheWay d first next (drop (i + 1) rest) new
  way_goes_on first at next i rest old new lt e x push =
      let r : graph.GoesRound (named_graph d) first at (next ∷ drop (suc i) rest) = subst (graph.GoesRound (named_graph d) first at) (drop-cons rest i 0 lt ∙ ap (λ n. n ∷ drop (suc i) rest) (sym e)) x.0 in
      let k : suc i ≡ i + 1 = omega arith in
      (subst (λ j. graph.GoesRound (named_graph d) first next (drop j rest)) k r.1, further_on first at next old new x.1 (push r.0 (ahead_within first next (drop (suc i) rest) r.1)))

  -- the walk has come back to the place where it began
  abbrev pub ComesBack : ℕ → List Location → Type 0
  ComesBack first walk = (ks : List Location) × (walk ≡ location_at d first ∷ ks) × (0 < length ks) × Follows d (location_at d first) ks (location_at d first)

  pub way_comes_back : (first at i : ℕ) (rest : List ℕ) (old new : List Location) → length rest ≤ i → IsOnTheWay d first at (drop i rest) old → graph.IsLoop (named_graph d) (first ∷ rest)
      → (Refers (named_graph d) at first → first < count → GoesOn d (location_at d at) (location_at d first) old new) → ComesBack first new
  way_comes_back first at i rest old new le x r push =
      let back : Refers (named_graph d) at first = subst (graph.GoesRound (named_graph d) first at) (drop_all i rest le) x.0 in
      let y = push back (ahead_within first first rest r) in
      let z = further_on first at first old new x.1 y in
      (z.0, z.1, (let n = length-append x.1.0 y.0 in let k = y.2 in omega arith), z.2)

  pub comes_round : (first : ℕ) (walk : List Location) → ComesBack first walk → IsLoop d walk
  comes_round first walk x = subst (IsLoop d) (sym x.1) (closed x.0 x.2 x.3)
    where
      closed : (ks : List Location) → 0 < length ks → Follows d (location_at d first) ks (location_at d first) → IsLoop d (location_at d first ∷ ks)
      closed [] h f = absurd (omega arith)
      closed (k ∷ ks) h f = goes_round d (location_at d first) (location_at d first) k ks f

  -- ---- the first of the targets on a loop

  pub begins_first : Rises d → (path : List ℕ) (walk : List Location) → graph.IsLoop (named_graph d) path → graph.StartsLeast (reference_graph_of d) path → BeginsAt d path walk → BeginsFirst d walk
  begins_first rise [] walk r least b = absurd r
  begins_first rise (i ∷ is) walk r least b =
      let h : i < count = ahead_within i i is r in
      let c : count ≡ length (target_places d) = count_is d rise in
      subst (BeginsFirst d) (sym b.1) (i, omega arith, place_is d rise i h, none_before d i (omega arith) least)

pub told_numbered : (d : Document) (m : Numbers) (xs ys zs : List (Option (Bor (List ℕ)))) → seen xs ≡ target_names d → ys ≡ xs → zs ≡ xs → ((n : List ℕ) → number_of_name m.by_name n ≡ place_named n 0 (seen ys)) → m.count ≡ length ys → Rises d → IsNumbered d m zs
told_numbered d m xs ys zs t y z h k rise =
    let told : seen ys ≡ target_names d = ap seen y ∙ t in
    (ap seen z ∙ t, λ n. h n ∙ ap (place_named n 0) told, k ∙ sym (length-map ys (option_map (λ (t : Bor (List ℕ)). t.now))) ∙ ap length told, rise)
