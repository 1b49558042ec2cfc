-- Merging a body with the members of anyOf and of oneOf meets what the body says and what they say.
use mathlib.Core.Logic.{inl, inr}
use Rattle.std.proofs.Common.{◌≡◌, ℕ, zero, suc, ◌+◌, ◌≤◌, ◌⊎◌, List, [], ◌∷◌, ◌++◌, length, Bool, true, false, ◌&&◌, ◌||◌, not, refl, ap, sym, ◌∙◌, subst, arith}
use Rattle.std.specs.Prelude.{if◌then◌else◌, ◌==◌}
use Rattle.std.specs.List.{list_any, list_all}
use Rattle.std.proofs.lemmas.Bool.{le-leb, leb-false}
use Rattle.std.proofs.lemmas.Bool.Decides.{Decides-eqb}
use Rattle.schema_defs.specs.Schema.{Schema, boolean, Same, no_same, same_value, MaybeSchema, no_schema, the_schema, Schemas, no_more, schema, schema_list, schemas, MaybeSchemas, no_list, the_list, Document}
use Rattle.schema_defs.specs.Layer.{Judge}
use Rattle.merge_defs.specs.Outcome.{Outcome, fault, never, answer, Note, narrowed, widened, has_way, less_than, more_than, of_members, noted, note_if, and_then, mapped}
use Rattle.merge_defs.specs.Alike.{roughly, wholly}
use Rattle.enum_defs.specs.Exclusive.{exclusive, are_apart}
use Rattle.merge_defs.specs.Members.{Fate, out, left, Left, As, as_body, as_member, joined, stands_for, loses, lost_sizes, joint, fate, Kept, with_fate, fates, is_as_body, is_as_member, is_joined, are_two, any_narrows, one_narrows, one_mixes, one_forgets, left_schemas, gathered, finish_any, finish_one, all_of, any_of, one_of, negation, negations, with_each, with_all, without, with_any, with_one, with_same}
use Rattle.merge_laws.specs.Laws.{Meets, IsProper, ProperAll, ProperList, ProperMaybe, ProperSame}
use Rattle.merge_laws.proofs.Steps.{no_no, yes_no, and-1, and-2, and-in, or-1, or-2, no_way-1, no_way-2, Each, meets-exactly, meets-then, meets-wanted, meets-said, meets-in}
use Rattle.merge_laws.proofs.Leaves.{and-comm}

-- ---- counting

abbrev pub count : {A : Type 0} → (A → Bool) → List A → ℕ
count f [] = 0
count f (x ∷ xs) = if f x then suc (count f xs) else count f xs

-- a judge of subschemas at one value
pub record JudgesSame (j : Judge) : Type 0 where
  pub of_all : (ss : List Schema) → j (all_of ss) ≡ list_all j ss
  pub of_any : (ss : List Schema) → j (any_of ss) ≡ list_any j ss
  pub of_one : (ss : List Schema) → j (one_of ss) ≡ (count j ss == 1)
  pub of_not : (s : Schema) → j (negation s) ≡ not (j s)
  pub of_wholly : (s t : Schema) → wholly s t ≡ true → j s ≡ j t

any-append : {A : Type 0} (f : A → Bool) (xs ys : List A) → list_any f (xs ++ ys) ≡ (list_any f xs || list_any f ys)
any-append f [] ys = refl
any-append f (x ∷ xs) ys = ap (λ b. f x || b) (any-append f xs ys) ∙ assoc (f x) _ _
  where
    assoc : (a b c : Bool) → (a || (b || c)) ≡ ((a || b) || c)
    assoc true b c = refl
    assoc false b c = refl

-- a weighing of what is wanted and what is said, by the notes
pub meets-weigh : {A : Type 0} (P : A → Type 0) (w u : Bool) (h : A → Bool) (ns : List Note) (o : Outcome A) → Meets P u h o
    → (has_way narrowed ns ≡ false → w ≡ true → u ≡ true) → (has_way widened ns ≡ false → u ≡ true → w ≡ true) → Meets P w h (noted ns o)
meets-weigh P w u h ns (fault f) m a b = tt
meets-weigh P w u h ns (never ms) m a b = λ e t. m (no_way-2 narrowed ns ms e) (a (no_way-1 narrowed ns ms e) t)
meets-weigh P w u h ns (answer ms x) m a b = (m.0, λ e t. m.1 (no_way-2 narrowed ns ms e) (a (no_way-1 narrowed ns ms e) t), λ e t. b (no_way-1 widened ns ms e) (m.2 (no_way-2 widened ns ms e) t))

pub meets-weigh2 : {A : Type 0} (P : A → Type 0) (w u : Bool) (h : A → Bool) (ns ks : List Note) (o : Outcome A) → Meets P u h o
    → (has_way narrowed ns ≡ false → has_way narrowed ks ≡ false → w ≡ true → u ≡ true) → (has_way widened ns ≡ false → has_way widened ks ≡ false → u ≡ true → w ≡ true) → Meets P w h (noted ns (noted ks o))
meets-weigh2 P w u h ns ks (fault f) m a b = tt
meets-weigh2 P w u h ns ks (never ms) m a b = λ e t. let e' = no_way-2 narrowed ns _ e in m (no_way-2 narrowed ks ms e') (a (no_way-1 narrowed ns _ e) (no_way-1 narrowed ks ms e') t)
meets-weigh2 P w u h ns ks (answer ms x) m a b = (
  m.0,
  λ e t. let e' = no_way-2 narrowed ns _ e in m.1 (no_way-2 narrowed ks ms e') (a (no_way-1 narrowed ns _ e) (no_way-1 narrowed ks ms e') t),
  λ e t. let e' = no_way-2 widened ns _ e in b (no_way-1 widened ns _ e) (no_way-1 widened ks ms e') (m.2 (no_way-2 widened ks ms e') t),
)

pub meets-weigh3 : {A : Type 0} (P : A → Type 0) (w u : Bool) (h : A → Bool) (ns ks ls : List Note) (o : Outcome A) → Meets P u h o
    → (has_way narrowed ns ≡ false → has_way narrowed ks ≡ false → w ≡ true → u ≡ true) → (has_way widened ns ≡ false → has_way widened ls ≡ false → u ≡ true → w ≡ true) → Meets P w h (noted ns (noted ks (noted ls o)))
meets-weigh3 P w u h ns ks ls (fault f) m a b = tt
meets-weigh3 P w u h ns ks ls (never ms) m a b = λ e t. let e' = no_way-2 narrowed ns _ e in m (no_way-2 narrowed ls ms (no_way-2 narrowed ks _ e')) (a (no_way-1 narrowed ns _ e) (no_way-1 narrowed ks _ e') t)
meets-weigh3 P w u h ns ks ls (answer ms x) m a b = (
  m.0,
  λ e t. let e' = no_way-2 narrowed ns _ e in m.1 (no_way-2 narrowed ls ms (no_way-2 narrowed ks _ e')) (a (no_way-1 narrowed ns _ e) (no_way-1 narrowed ks _ e') t),
  λ e t. let e' = no_way-2 widened ks _ (no_way-2 widened ns _ e) in b (no_way-1 widened ns _ e) (no_way-1 widened ls ms e') (m.2 (no_way-2 widened ls ms e') t),
)

module _ (join : Schema → Schema → Outcome Schema) (J : Judge) (merges : (a b : Schema) → IsProper a → IsProper b → Meets IsProper (J a && J b) J (join a b)) (same : JudgesSame J) (body : Schema) (proper : IsProper body) where
  abbrev B : Bool
  B = J body

  -- ---- one member: `m` is what the judge says of it, and `o` whether it admits another

  abbrev LeftFacts : As → Bool → Bool → Bool → Bool → Type 0
  LeftFacts as_body a wider m o = (a ≡ B) × (wider ≡ false → B ≡ true → m ≡ true)
  LeftFacts as_member a wider m o = (a ≡ m) × (wider ≡ false → m ≡ true → B ≡ true)
  LeftFacts joined a wider m o = a ≡ (B && (m && not o))

  abbrev Facts : Fate → Bool → Bool → Type 0
  Facts (out b) m o = b ≡ false → B ≡ true → m ≡ true → ⊥
  Facts (left l) m o = IsProper l.schema × LeftFacts l.how (J l.schema) l.wider m o

  abbrev NotLost : Fate → Type 0
  NotLost (out b) = b ≡ false
  NotLost (left l) = Unit {0}

  abbrev NotWider : Fate → Type 0
  NotWider (out b) = Unit {0}
  NotWider (left l) = l.wider ≡ false

  -- what is known of a fate, by the notes
  abbrev FateFits : Bool → Bool → Outcome Fate → Type 0
  FateFits m o (fault f) = Unit {0}
  FateFits m o (never ns) = ⊥
  FateFits m o (answer ns f) = Facts f m o × (has_way narrowed ns ≡ false → NotLost f) × (has_way widened ns ≡ false → NotWider f)

  negations_say : (ss : List Schema) → list_all J (negations ss) ≡ not (list_any J ss)
  negations_say [] = refl
  negations_say (s ∷ ss) = (λ i. same.of_not s i && negations_say ss i) ∙ de_morgan (J s) (list_any J ss)
    where
      de_morgan : (a b : Bool) → (not a && not b) ≡ not (a || b)
      de_morgan true b = refl
      de_morgan false b = refl

  joint_says : (m : Schema) (others : List Schema) → J (joint body m others) ≡ (B && (J m && not (list_any J others)))
  joint_says m others = same.of_all (body ∷ m ∷ negations others) ∙ ap (λ b. B && (J m && b)) (negations_say others)

  proper_list : (ss : List Schema) → Each IsProper ss → ProperAll (schemas ss)
  proper_list [] e = tt
  proper_list (s ∷ ss) e = (e.0, proper_list ss e.1)

  proper_negations : (ss : List Schema) → Each IsProper ss → Each IsProper (negations ss)
  proper_negations [] e = tt
  proper_negations (s ∷ ss) e = (((tt, tt), (tt, tt, tt, e.0), tt, tt), proper_negations ss e.1)

  proper_joint : (m : Schema) (others : List Schema) → IsProper m → Each IsProper others → IsProper (joint body m others)
  proper_joint m others p e = ((tt, tt), (proper_list (body ∷ m ∷ negations others) (proper, (p, proper_negations others e)), tt, tt, tt), tt, tt)

  -- a body or a member that stands for its merge
  stands_fits : (how : As) (s merge : Schema) (ns : List Note) (m o : Bool) → IsProper s
      → ((loses merge s || has_way widened ns) ≡ false → J merge ≡ J s)
      → ((w : Bool) → (w ≡ false → (loses merge s ≡ false) × (has_way widened ns ≡ false)) → LeftFacts how (J s) w m o) → FateFits m o (stands_for how s merge ns)
  stands_fits how s merge ns m o p q f = (
    (p, f (loses merge s || has_way widened ns) (λ e. (or-1 (loses merge s) _ e, or-2 (loses merge s) _ e))),
    λ e. tt,
    λ e. or-in (loses merge s) (has_way widened ns) (lost (loses merge s) (no_way-2 widened ns (lost_sizes (loses merge s)) e)) (no_way-1 widened ns (lost_sizes (loses merge s)) e),
  )
    where
      or-in : (a b : Bool) → a ≡ false → b ≡ false → (a || b) ≡ false
      or-in true b e f = e
      or-in false b e f = f

      lost : (b : Bool) → has_way widened (lost_sizes b) ≡ false → b ≡ false
      lost true e = e
      lost false e = refl

  loses_not : (merge s : Schema) → loses merge s ≡ false → wholly merge s ≡ true
  loses_not merge s e = go (wholly merge s) e
    where
      go : (b : Bool) → not b ≡ false → b ≡ true
      go true e = refl
      go false e = sym e

  fate_fits : (m : Schema) (others : List Schema) (r : Outcome Schema) → IsProper m → Each IsProper others → Meets IsProper (B && J m) J r → FateFits (J m) (list_any J others) (fate body m others r)
  fate_fits m others (fault f) p e h = tt
  fate_fits m others (never ns) p e h = (λ n b t. h n (and-in B (J m) b t), (λ n. n), λ n. tt)
  fate_fits m others (answer ns merge) p e h = cases (roughly merge body) (roughly merge m)
    where
      -- where nothing is wider, what the one that stands for it says both say
      both : (s : Schema) → loses merge s ≡ false → has_way widened ns ≡ false → J s ≡ true → (B && J m) ≡ true
      both s l n t = h.2 n (same.of_wholly merge s (loses_not merge s l) ∙ t)

      cases : (a b : Bool) → FateFits (J m) (list_any J others) (if a then stands_for as_body body merge ns else if b then stands_for as_member m merge ns else answer ns (left (record { how = joined; wider = has_way widened ns; schema = joint body m others })))
      cases true b = stands_fits as_body body merge ns (J m) (list_any J others) proper (λ e. same.of_wholly merge body (loses_not merge body (or-1 (loses merge body) _ e)))
          (λ w k. (refl, λ e t. and-2 B (J m) (both body (k e).0 (k e).1 t)))
      cases false true = stands_fits as_member m merge ns (J m) (list_any J others) p (λ e. same.of_wholly merge m (loses_not merge m (or-1 (loses merge m) _ e)))
          (λ w k. (refl, λ e t. and-1 B (J m) (both m (k e).0 (k e).1 t)))
      cases false false = ((proper_joint m others p e, joint_says m others), (λ n. tt), λ n. n)

  -- ---- all members, with those before them

  abbrev lefts : List Fate → List Left
  lefts [] = []
  lefts (out b ∷ fs) = lefts fs
  lefts (left l ∷ fs) = l ∷ lefts fs

  abbrev any_lost : List Fate → Bool
  any_lost [] = false
  any_lost (out b ∷ fs) = b || any_lost fs
  any_lost (left l ∷ fs) = any_lost fs

  abbrev kept_of : List Fate → Kept
  kept_of fs = record { members = lefts fs; lost = any_lost fs }

  abbrev Cells : List Schema → List Schema → List Fate → Type 0
  Cells before [] [] = Unit {0}
  Cells before (m ∷ after) (f ∷ fs) = Facts f (J m) (list_any J (before ++ after)) × Cells (before ++ (m ∷ [])) after fs
  Cells _ _ _ = ⊥

  abbrev KeptFits : List Schema → List Schema → Outcome Kept → Type 0
  KeptFits before ms (fault f) = Unit {0}
  KeptFits before ms (never ns) = ⊥
  KeptFits before ms (answer ns k) = (fs : List Fate) × (k ≡ kept_of fs) × Cells before ms fs × (has_way narrowed ns ≡ false → Each NotLost fs) × (has_way widened ns ≡ false → Each NotWider fs)

  each-append : (xs ys : List Schema) → Each IsProper xs → Each IsProper ys → Each IsProper (xs ++ ys)
  each-append [] ys p q = q
  each-append (x ∷ xs) ys p q = (p.0, each-append xs ys p.1 q)

  kept_next : (f : Fate) (k : Kept) (fs : List Fate) → k ≡ kept_of fs → with_fate f k ≡ kept_of (f ∷ fs)
  kept_next (out b) k fs e = ap (with_fate (out b)) e
  kept_next (left l) k fs e = ap (with_fate (left l)) e

  step_fits : (before after : List Schema) (m : Schema) (o : Outcome Fate) (rest : Outcome Kept) → FateFits (J m) (list_any J (before ++ after)) o → KeptFits (before ++ (m ∷ [])) after rest
      → KeptFits before (m ∷ after) (and_then o (λ f. mapped (with_fate f) rest))
  step_fits before after m (fault e) rest p q = tt
  step_fits before after m (never ns) rest p q = absurd p
  step_fits before after m (answer ns f) (fault e) p q = tt
  step_fits before after m (answer ns f) (never ms) p q = absurd q
  step_fits before after m (answer ns f) (answer ms k) p q =
      (f ∷ q.0, kept_next f k q.0 q.1, (p.0, q.2), (λ n. (p.1 (no_way-1 narrowed ns ms n), q.3 (no_way-2 narrowed ns ms n))), λ n. (p.2 (no_way-1 widened ns ms n), q.4 (no_way-2 widened ns ms n)))

  pub fates_fit : (before ms : List Schema) → Each IsProper before → Each IsProper ms → KeptFits before ms (fates join body before ms)
  fates_fit before [] p q = ([], refl, tt, (λ n. tt), λ n. tt)
  fates_fit before (m ∷ after) p q = step_fits before after m (fate body m (before ++ after) (join body m)) (fates join body (before ++ (m ∷ [])) after)
      (fate_fits m (before ++ after) (join body m) q.0 (each-append before after p q.1) (merges body m proper q.0))
      (fates_fit (before ++ (m ∷ [])) after (each-append before (m ∷ []) p (q.0, tt)) q.1)

  -- ---- anyOf

  abbrev U : List Fate → Bool
  U fs = list_any J (left_schemas (lefts fs))

  abbrev TwoTrue : List Schema → Type 0
  TwoTrue [] = ⊥
  TwoTrue (m ∷ ms) = ((J m ≡ true) × (list_any J ms ≡ true)) ⊎ TwoTrue ms

  or-right : (a b : Bool) → b ≡ true → (a || b) ≡ true
  or-right true b h = refl
  or-right false b h = h

  some_left : (b : B ≡ true) (before ms : List Schema) (fs : List Fate) → Cells before ms fs → Each NotLost fs → list_any J ms ≡ true → 1 ≤ length (lefts fs)
  some_left b before [] [] c n t = no_no t
  some_left b before [] (f ∷ fs) c n t = absurd c
  some_left b before (m ∷ ms) [] c n t = absurd c
  some_left b before (m ∷ ms) (out x ∷ fs) c n t = cases (J m) refl t (some_left b (before ++ (m ∷ [])) ms fs c.1 n.1)
    where
      cases : (a : Bool) → J m ≡ a → (a || list_any J ms) ≡ true → (list_any J ms ≡ true → 1 ≤ length (lefts fs)) → 1 ≤ length (lefts fs)
      cases true e t k = absurd (c.0 n.0 b e)
      cases false e t k = k t
  some_left b before (m ∷ ms) (left l ∷ fs) c n t = omega arith

  abbrev AnyFound : List Schema → List Fate → Type 0
  AnyFound ms fs = (U fs ≡ true) ⊎ ((list_any is_joined (lefts fs) ≡ true) × (2 ≤ length (lefts fs)) × TwoTrue ms)

  none_more : (before : List Schema) (m : Schema) → list_any J before ≡ false → J m ≡ false → list_any J (before ++ (m ∷ [])) ≡ false
  none_more before m p q = any-append J before (m ∷ []) ∙ (λ i. p i || (q i || false))

  found_out : (m : Schema) (ms : List Schema) (x : Bool) (fs : List Fate) → AnyFound ms fs → AnyFound (m ∷ ms) (out x ∷ fs)
  found_out m ms x fs (inl u) = inl u
  found_out m ms x fs (inr h) = inr (h.0, h.1, inr h.2)

  found_left : (m : Schema) (ms : List Schema) (l : Left) (fs : List Fate) → AnyFound ms fs → AnyFound (m ∷ ms) (left l ∷ fs)
  found_left m ms l fs (inl u) = inl (or-right (J l.schema) _ u)
  found_left m ms l fs (inr h) = let e = h.1 in inr (or-right (is_joined l) _ h.0, omega (arith, e), inr h.2)

  joined_is : (l : Left) → l.how ≡ joined → is_joined l ≡ true
  joined_is l e = subst (λ h. (elim h [ joined ↦ true | _ ↦ false ]) ≡ true) (sym e) refl

  find : (b : B ≡ true) (before ms : List Schema) (fs : List Fate) → Cells before ms fs → Each NotLost fs → list_any J before ≡ false → list_any J ms ≡ true → AnyFound ms fs
  find b before [] [] c n none t = no_no t
  find b before [] (f ∷ fs) c n none t = absurd c
  find b before (m ∷ ms) [] c n none t = absurd c
  find b before (m ∷ ms) (out x ∷ fs) c n none t = cases (J m) refl t (find b (before ++ (m ∷ [])) ms fs c.1 n.1)
    where
      cases : (a : Bool) → J m ≡ a → (a || list_any J ms) ≡ true → (list_any J (before ++ (m ∷ [])) ≡ false → list_any J ms ≡ true → AnyFound ms fs) → AnyFound (m ∷ ms) (out x ∷ fs)
      cases true e t k = absurd (c.0 n.0 b e)
      cases false e t k = found_out m ms x fs (k (none_more before m none e) t)
  find b before (m ∷ ms) (left l ∷ fs) c n none t = cases (J m) refl t (find b (before ++ (m ∷ [])) ms fs c.1 n.1)
    where
      -- the first member that the judge admits
      first : J m ≡ true → (how : As) → l.how ≡ how → LeftFacts how (J l.schema) l.wider (J m) (list_any J (before ++ ms)) → AnyFound (m ∷ ms) (left l ∷ fs)
      first e as_body h f = inl (ap (λ x. x || U fs) (f.0 ∙ b))
      first e as_member h f = inl (ap (λ x. x || U fs) (f.0 ∙ e))
      first e joined h f = other (list_any J ms) refl
        where
          others : list_any J (before ++ ms) ≡ list_any J ms
          others = any-append J before ms ∙ ap (λ x. x || list_any J ms) none

          other : (o : Bool) → list_any J ms ≡ o → AnyFound (m ∷ ms) (left l ∷ fs)
          other false q = inl (ap (λ x. x || U fs) (f ∙ (λ i. b i && (e i && not ((others ∙ q) i)))))
          other true q = let k = some_left b (before ++ (m ∷ [])) ms fs c.1 n.1 q in inr (ap (λ x. x || list_any is_joined (lefts fs)) (joined_is l h), omega (arith, k), inl (e, q))

      cases : (a : Bool) → J m ≡ a → (a || list_any J ms) ≡ true → (list_any J (before ++ (m ∷ [])) ≡ false → list_any J ms ≡ true → AnyFound ms fs) → AnyFound (m ∷ ms) (left l ∷ fs)
      cases true e t k = first e l.how refl c.0.1
      cases false e t k = found_left m ms l fs (k (none_more before m none e) t)

  -- what is left holds where body and some member do, unless wider
  back : (before ms : List Schema) (fs : List Fate) → Cells before ms fs → Each NotWider fs → U fs ≡ true → (B && list_any J ms) ≡ true
  back before [] [] c n t = no_no t
  back before [] (f ∷ fs) c n t = absurd c
  back before (m ∷ ms) [] c n t = absurd c
  back before (m ∷ ms) (out x ∷ fs) c n t = let h = back (before ++ (m ∷ [])) ms fs c.1 n.1 t in and-in B _ (and-1 B _ h) (or-right (J m) _ (and-2 B _ h))
  back before (m ∷ ms) (left l ∷ fs) c n t = cases (J l.schema) refl t (back (before ++ (m ∷ [])) ms fs c.1 n.1)
    where
      here : (how : As) → LeftFacts how (J l.schema) l.wider (J m) (list_any J (before ++ ms)) → J l.schema ≡ true → (B && (J m || list_any J ms)) ≡ true
      here as_body f e = let b = sym f.0 ∙ e in and-in B _ b (ap (λ x. x || list_any J ms) (f.1 n.0 b))
      here as_member f e = let q = sym f.0 ∙ e in and-in B _ (f.1 n.0 q) (ap (λ x. x || list_any J ms) q)
      here joined f e = let q = sym f ∙ e in and-in B _ (and-1 B _ q) (ap (λ x. x || list_any J ms) (and-1 (J m) _ (and-2 B _ q)))

      cases : (a : Bool) → J l.schema ≡ a → (a || U fs) ≡ true → (U fs ≡ true → (B && list_any J ms) ≡ true) → (B && (J m || list_any J ms)) ≡ true
      cases true e t k = here l.how c.0.1 e
      cases false e t k = let h = k t in and-in B _ (and-1 B _ h) (or-right (J m) _ (and-2 B _ h))

  -- ---- what is gathered

  lefts_proper : (before ms : List Schema) (fs : List Fate) → Cells before ms fs → Each IsProper (left_schemas (lefts fs))
  lefts_proper before [] [] c = tt
  lefts_proper before [] (f ∷ fs) c = absurd c
  lefts_proper before (m ∷ ms) [] c = absurd c
  lefts_proper before (m ∷ ms) (out x ∷ fs) c = lefts_proper (before ++ (m ∷ [])) ms fs c.1
  lefts_proper before (m ∷ ms) (left l ∷ fs) c = (c.0.0, lefts_proper (before ++ (m ∷ [])) ms fs c.1)

  or-false : (b : Bool) → b ≡ (b || false)
  or-false true = refl
  or-false false = refl

  gathered_any : (ss : List Schema) → Each IsProper ss → Meets IsProper (list_any J ss) J (gathered any_of ss)
  gathered_any [] p = λ n t. no_no t
  gathered_any (s ∷ []) p = meets-exactly IsProper _ J [] s p.0 (or-false (J s))
  gathered_any (s ∷ t ∷ ss) p = meets-exactly IsProper _ J [] (any_of (s ∷ t ∷ ss)) ((tt, tt), (tt, proper_list (s ∷ t ∷ ss) p, tt, tt), tt, tt) (same.of_any (s ∷ t ∷ ss))

  gathered_one : (ss : List Schema) → Each IsProper ss → Meets IsProper (count J ss == 1) J (gathered one_of ss)
  gathered_one [] p = λ n t. no_no t
  gathered_one (s ∷ []) p = meets-exactly IsProper _ J [] s p.0 (alone (J s))
    where
      alone : (b : Bool) → b ≡ ((if b then 1 else 0) == 1)
      alone true = refl
      alone false = refl
  gathered_one (s ∷ t ∷ ss) p = meets-exactly IsProper _ J [] (one_of (s ∷ t ∷ ss)) ((tt, tt), (tt, tt, proper_list (s ∷ t ∷ ss) p, tt), tt, tt) (same.of_one (s ∷ t ∷ ss))

  -- ---- oneOf

  count_append : (xs ys : List Schema) → count J (xs ++ ys) ≡ count J xs + count J ys
  count_append [] ys = omega arith
  count_append (x ∷ xs) ys = cases (J x) (count_append xs ys)
    where
      cases : (b : Bool) → count J (xs ++ ys) ≡ count J xs + count J ys → (if b then suc (count J (xs ++ ys)) else count J (xs ++ ys)) ≡ (if b then suc (count J xs) else count J xs) + count J ys
      cases true h = omega (arith, h)
      cases false h = h

  none_counted : (xs : List Schema) → count J xs ≤ 0 → list_any J xs ≡ false
  none_counted [] h = refl
  none_counted (x ∷ xs) h = cases (J x) (none_counted xs) h
    where
      cases : (b : Bool) → (count J xs ≤ 0 → list_any J xs ≡ false) → (if b then suc (count J xs) else count J xs) ≤ 0 → (b || list_any J xs) ≡ false
      cases true k h = absurd (omega (arith, h))
      cases false k h = k h

  no_count : (xs : List Schema) → list_any J xs ≡ false → count J xs ≡ 0
  no_count [] h = refl
  no_count (x ∷ xs) h = cases (J x) (no_count xs) h
    where
      cases : (b : Bool) → (list_any J xs ≡ false → count J xs ≡ 0) → (b || list_any J xs) ≡ false → (if b then suc (count J xs) else count J xs) ≡ 0
      cases true k h = no_no (sym h)
      cases false k h = k h

  some_counted : (xs : List Schema) → 1 ≤ count J xs → list_any J xs ≡ true
  some_counted xs h = cases (list_any J xs) refl
    where
      cases : (b : Bool) → list_any J xs ≡ b → b ≡ true
      cases true e = refl
      cases false e = let z = no_count xs e in absurd (omega (arith, h, z))

  counted_if : (b : Bool) (n : ℕ) → (if b then suc n else n) ≡ n + (if b then 1 else 0)
  counted_if true n = omega arith
  counted_if false n = omega arith

  -- a member that is joined holds where it alone is admitted
  joined_alone : (before after : List Schema) (m : Schema) → J m ≡ true → count J before + count J (m ∷ after) ≤ 1 → list_any J (before ++ after) ≡ false
  joined_alone before after m e h =
      let k : count J (m ∷ after) ≡ suc (count J after) = ap (λ b. if b then suc (count J after) else count J after) e in
      any-append J before after ∙ (λ i. none_counted before (omega (arith, h, k)) i || none_counted after (omega (arith, h, k)) i)

  tight_left : (l : Left) (m o : Bool) (how : As) → LeftFacts how (J l.schema) l.wider m o → (b : B ≡ true) → (how ≡ as_body → l.wider ≡ false) → (m ≡ true → how ≡ joined → o ≡ false) → J l.schema ≡ m
  tight_left l m o as_body f b tight alone = f.0 ∙ b ∙ sym (f.1 (tight refl) b)
  tight_left l m o as_member f b tight alone = f.0
  tight_left l m o joined f b tight alone = f ∙ (λ i. b i && (m && not o)) ∙ cases m refl
    where
      cases : (x : Bool) → m ≡ x → (x && not o) ≡ x
      cases true e = ap not (alone e refl)
      cases false e = refl

  abbrev Tight : Fate → Type 0
  Tight (out b) = Unit {0}
  Tight (left l) = l.how ≡ as_body → l.wider ≡ false

  abbrev Lone : Fate → Bool → Bool → Type 0
  Lone (out b) m o = Unit {0}
  Lone (left l) m o = m ≡ true → l.how ≡ joined → o ≡ false

  abbrev AreLone : List Schema → List Schema → List Fate → Type 0
  AreLone before (m ∷ after) (f ∷ fs) = Lone f (J m) (list_any J (before ++ after)) × AreLone (before ++ (m ∷ [])) after fs
  AreLone _ _ _ = Unit {0}

  -- what is left is counted as the members are
  tight_count : (b : B ≡ true) (before ms : List Schema) (fs : List Fate) → Cells before ms fs → Each NotLost fs → Each Tight fs → AreLone before ms fs → count J (left_schemas (lefts fs)) ≡ count J ms
  tight_count b before [] [] c n g a = refl
  tight_count b before [] (f ∷ fs) c n g a = absurd c
  tight_count b before (m ∷ ms) [] c n g a = absurd c
  tight_count b before (m ∷ ms) (out x ∷ fs) c n g a = tight_count b (before ++ (m ∷ [])) ms fs c.1 n.1 g.1 a.1 ∙ sym (cases (J m) refl)
    where
      cases : (y : Bool) → J m ≡ y → (if y then suc (count J ms) else count J ms) ≡ count J ms
      cases true e = absurd (c.0 n.0 b e)
      cases false e = refl
  tight_count b before (m ∷ ms) (left l ∷ fs) c n g a =
      λ i. if tight_left l (J m) (list_any J (before ++ ms)) l.how c.0.1 b g.0 a.0 i then suc (tight_count b (before ++ (m ∷ [])) ms fs c.1 n.1 g.1 a.1 i) else tight_count b (before ++ (m ∷ [])) ms fs c.1 n.1 g.1 a.1 i

  as_body_is : (l : Left) → l.how ≡ as_body → is_as_body l ≡ true
  as_body_is l e = subst (λ h. (elim h [ as_body ↦ true | _ ↦ false ]) ≡ true) (sym e) refl

  tight_by_test : (fs : List Fate) → list_any (λ l. is_as_body l && l.wider) (lefts fs) ≡ false → Each Tight fs
  tight_by_test [] h = tt
  tight_by_test (out x ∷ fs) h = (tt, tight_by_test fs h)
  tight_by_test (left l ∷ fs) h = ((λ e. not-wider l.wider refl e), tight_by_test fs (or-2 (is_as_body l && l.wider) _ h))
    where
      not-wider : (w : Bool) → l.wider ≡ w → l.how ≡ as_body → l.wider ≡ false
      not-wider false q e = q
      not-wider true q e = absurd (yes_no (is_as_body l && l.wider) (or-1 (is_as_body l && l.wider) _ h) (and-in (is_as_body l) l.wider (as_body_is l e) q))

  tight_by_notes : (fs : List Fate) → Each NotWider fs → Each Tight fs
  tight_by_notes [] h = tt
  tight_by_notes (out x ∷ fs) h = (tt, tight_by_notes fs h.1)
  tight_by_notes (left l ∷ fs) h = ((λ e. h.0), tight_by_notes fs h.1)

  lone_by_count : (before ms : List Schema) (fs : List Fate) → Cells before ms fs → count J before + count J ms ≤ 1 → AreLone before ms fs
  lone_by_count before [] [] c h = tt
  lone_by_count before [] (f ∷ fs) c h = tt
  lone_by_count before (m ∷ ms) [] c h = tt
  lone_by_count before (m ∷ ms) (f ∷ fs) c h = (here f, lone_by_count (before ++ (m ∷ [])) ms fs c.1 next)
    where
      here : (f : Fate) → Lone f (J m) (list_any J (before ++ ms))
      here (out x) = tt
      here (left l) = λ e q. joined_alone before ms m e h

      next : count J (before ++ (m ∷ [])) + count J ms ≤ 1
      next = let p = count_append before (m ∷ []) in let q = counted_if (J m) (count J ms) in omega (arith, h, p, q)

  lone_by_test : (before ms : List Schema) (fs : List Fate) → list_any is_joined (lefts fs) ≡ false → AreLone before ms fs
  lone_by_test before [] fs h = tt
  lone_by_test before (m ∷ ms) [] h = tt
  lone_by_test before (m ∷ ms) (out x ∷ fs) h = (tt, lone_by_test (before ++ (m ∷ [])) ms fs h)
  lone_by_test before (m ∷ ms) (left l ∷ fs) h = ((λ e q. yes_no (is_joined l) (or-1 (is_joined l) _ h) (joined_is l q)), lone_by_test (before ++ (m ∷ [])) ms fs (or-2 (is_joined l) _ h))

  lost_by_test : (fs : List Fate) → any_lost fs ≡ false → Each NotLost fs
  lost_by_test [] h = tt
  lost_by_test (out x ∷ fs) h = (or-1 x _ h, lost_by_test fs (or-2 x _ h))
  lost_by_test (left l ∷ fs) h = (tt, lost_by_test fs h)

  -- one or none that is left
  one_left : (ls : List Left) → length ls ≤ 1 → list_any J (left_schemas ls) ≡ true → count J (left_schemas ls) ≡ 1
  one_left [] h t = no_no t
  one_left (l ∷ []) h t = cases (J l.schema) t
    where
      cases : (b : Bool) → (b || false) ≡ true → (if b then suc zero else zero) ≡ 1
      cases true t = refl
      cases false t = no_no t
  one_left (l ∷ k ∷ ls) h t = absurd (omega (arith, h))

  one_true : (ms : List Schema) → list_any J ms ≡ true → (TwoTrue ms → ⊥) → count J ms ≡ 1
  one_true [] t h = no_no t
  one_true (m ∷ ms) t h = cases (J m) refl t (one_true ms)
    where
      cases : (b : Bool) → J m ≡ b → (b || list_any J ms) ≡ true → (list_any J ms ≡ true → (TwoTrue ms → ⊥) → count J ms ≡ 1) → (if b then suc (count J ms) else count J ms) ≡ 1
      cases true e t k = more (list_any J ms) refl
        where
          more : (o : Bool) → list_any J ms ≡ o → suc (count J ms) ≡ 1
          more true q = absurd (h (inl (e, q)))
          more false q = let z = no_count ms q in omega (arith, z)
      cases false e t k = k t (λ p. h (inr p))

  -- where all that is left is joined, and one of it holds, one member is admitted
  all_joined_count : (before ms : List Schema) (fs : List Fate) → Cells before ms fs → list_any (λ l. not (is_joined l)) (lefts fs) ≡ false → U fs ≡ true → count J before + count J ms ≡ 1
  all_joined_count before [] [] c h t = no_no t
  all_joined_count before [] (f ∷ fs) c h t = absurd c
  all_joined_count before (m ∷ ms) [] c h t = absurd c
  all_joined_count before (m ∷ ms) (out x ∷ fs) c h t = next (all_joined_count (before ++ (m ∷ [])) ms fs c.1 h t)
    where
      next : count J (before ++ (m ∷ [])) + count J ms ≡ 1 → count J before + count J (m ∷ ms) ≡ 1
      next k = let p = count_append before (m ∷ []) in let q = counted_if (J m) (count J ms) in omega (arith, k, p, q)
  all_joined_count before (m ∷ ms) (left l ∷ fs) c h t = cases (J l.schema) refl t (all_joined_count (before ++ (m ∷ [])) ms fs c.1 (or-2 (not (is_joined l)) _ h))
    where
      next : count J (before ++ (m ∷ [])) + count J ms ≡ 1 → count J before + count J (m ∷ ms) ≡ 1
      next k = let p = count_append before (m ∷ []) in let q = counted_if (J m) (count J ms) in omega (arith, k, p, q)

      not_joined : (how : As) → (elim how [ joined ↦ true | _ ↦ false ]) ≡ true → how ≡ joined
      not_joined as_body e = no_no e
      not_joined as_member e = no_no e
      not_joined joined e = refl

      is_so : (b : Bool) → not b ≡ false → b ≡ true
      is_so true e = refl
      is_so false e = sym e

      here : J l.schema ≡ true → count J before + count J (m ∷ ms) ≡ 1
      here e =
          let f = subst (λ how. LeftFacts how (J l.schema) l.wider (J m) (list_any J (before ++ ms))) (not_joined l.how (is_so (is_joined l) (or-1 (not (is_joined l)) _ h))) c.0.1 in
          let g = sym f ∙ e in
          let mt = and-1 (J m) _ (and-2 B _ g) in
          let o = sym (any-append J before ms) ∙ is_not (list_any J (before ++ ms)) (and-2 (J m) _ (and-2 B _ g)) in
          let p = no_count before (or-1 (list_any J before) _ o) in
          let q = no_count ms (or-2 (list_any J before) _ o) in
          let k : count J (m ∷ ms) ≡ suc (count J ms) = ap (λ b. if b then suc (count J ms) else count J ms) mt in
          omega (arith, p, q, k)
        where
          is_not : (b : Bool) → not b ≡ true → b ≡ false
          is_not true e = sym e
          is_not false e = refl

      cases : (b : Bool) → J l.schema ≡ b → (b || U fs) ≡ true → (U fs ≡ true → count J (before ++ (m ∷ [])) + count J ms ≡ 1) → count J before + count J (m ∷ ms) ≡ 1
      cases true e t k = here e
      cases false e t k = next (k t)

  -- where one that is left is not joined, and they are not mixed, none is joined
  none_joined : (ls : List Left) → list_any (λ l. not (is_joined l)) ls ≡ true → (((are_two ls && true) && not (list_all is_joined ls)) && not (list_all is_as_member ls)) ≡ false → list_any is_joined ls ≡ false
  none_joined ls h k = cases (are_two ls) refl (list_all is_as_member ls) refl
    where
      not_all : (ls : List Left) → list_any (λ l. not (is_joined l)) ls ≡ true → list_all is_joined ls ≡ false
      not_all [] h = no_no h
      not_all (l ∷ ls) h = go (is_joined l) h (not_all ls)
        where
          go : (b : Bool) → (not b || list_any (λ l. not (is_joined l)) ls) ≡ true → (list_any (λ l. not (is_joined l)) ls ≡ true → list_all is_joined ls ≡ false) → (b && list_all is_joined ls) ≡ false
          go true h k = k h
          go false h k = refl

      single : (ls : List Left) → length ls ≤ 1 → list_any (λ l. not (is_joined l)) ls ≡ true → list_any is_joined ls ≡ false
      single [] l h = refl
      single (x ∷ []) l h = go (is_joined x) h
        where
          go : (b : Bool) → (not b || false) ≡ true → (b || false) ≡ false
          go true h = no_no h
          go false h = refl
      single (x ∷ y ∷ ls) l h = absurd (omega (arith, l))

      is_member : (how : As) → (elim how [ as_member ↦ true | _ ↦ false ]) ≡ true → (elim how [ joined ↦ true | _ ↦ false ]) ≡ false
      is_member as_body h = refl
      is_member as_member h = refl
      is_member joined h = no_no h

      members_alone : (ls : List Left) → list_all is_as_member ls ≡ true → list_any is_joined ls ≡ false
      members_alone [] h = refl
      members_alone (l ∷ ls) h = λ i. is_member l.how (and-1 (is_as_member l) _ h) i || members_alone ls (and-2 (is_as_member l) _ h) i

      cases : (b : Bool) → are_two ls ≡ b → (a : Bool) → list_all is_as_member ls ≡ a → list_any is_joined ls ≡ false
      cases false p a q = let l = leb-false 2 (length ls) p in single ls (omega (arith, l)) h
      cases true p true q = members_alone ls q
      cases true p false q = no_no (sym (sym (λ i. ((p i && true) && not (not_all ls h i)) && not (q i)) ∙ k))

  module _ (apart : Bool) (members : List Schema) (apart_says : apart ≡ true → TwoTrue members → ⊥) where
    narrow_note : (b : Bool) → has_way narrowed (note_if b (less_than of_members ∷ [])) ≡ false → b ≡ false
    narrow_note true h = h
    narrow_note false h = refl

    widen_note : (b : Bool) → has_way widened (note_if b (more_than of_members ∷ [])) ≡ false → b ≡ false
    widen_note true h = h
    widen_note false h = refl

    finish_any_meets : (ns : List Note) (k : Kept) → KeptFits [] members (answer ns k) → Meets IsProper (B && list_any J members) J (noted ns (finish_any apart k))
    finish_any_meets ns k f = subst (λ k. Meets IsProper (B && list_any J members) J (noted ns (finish_any apart k))) (sym f.1) (go f.0 f.2 f.3 f.4)
      where
        go : (fs : List Fate) → Cells [] members fs → (has_way narrowed ns ≡ false → Each NotLost fs) → (has_way widened ns ≡ false → Each NotWider fs) → Meets IsProper (B && list_any J members) J (noted ns (finish_any apart (kept_of fs)))
        go fs c nn nw = meets-weigh2 IsProper (B && list_any J members) (U fs) J ns (note_if (any_narrows apart (kept_of fs)) (less_than of_members ∷ [])) (gathered any_of (left_schemas (lefts fs)))
            (gathered_any (left_schemas (lefts fs)) (lefts_proper [] members fs c))
            (λ e e' t. narrow (narrow_note (any_narrows apart (kept_of fs)) e') (find (and-1 B _ t) [] members fs c (nn e) refl (and-2 B _ t)))
            (λ e e' t. back [] members fs c (nw e) t)
          where
            narrow : any_narrows apart (kept_of fs) ≡ false → AnyFound members fs → U fs ≡ true
            narrow q (inl u) = u
            narrow q (inr h) = absurd (apart_says (not-false apart (sym ((λ i. (h.0 i && le-leb 2 (length (lefts fs)) h.1 i) && not apart)) ∙ q)) h.2)
              where
                not-false : (b : Bool) → not b ≡ false → b ≡ true
                not-false true h = refl
                not-false false h = sym h

    finish_one_meets : (ns : List Note) (k : Kept) → KeptFits [] members (answer ns k) → Meets IsProper (B && (count J members == 1)) J (noted ns (finish_one apart k))
    finish_one_meets ns k f = subst (λ k. Meets IsProper (B && (count J members == 1)) J (noted ns (finish_one apart k))) (sym f.1) (go f.0 f.2 f.3 f.4)
      where
        is_one : (n : ℕ) → (n == 1) ≡ true → n ≡ 1
        is_one n h = (Decides-eqb n 1).0 h

        one_is : (n : ℕ) → n ≡ 1 → (n == 1) ≡ true
        one_is n h = (Decides-eqb n 1).1 h

        narrow : (fs : List Fate) → Cells [] members fs → Each NotLost fs → one_narrows (kept_of fs) ≡ false → B ≡ true → count J members ≡ 1 → count J (left_schemas (lefts fs)) ≡ 1
        narrow fs c n h b e = cases (are_two (lefts fs)) refl h
          where
            some : list_any J members ≡ true
            some = some_counted members (omega (arith, e))

            few : AnyFound members fs → are_two (lefts fs) ≡ false → count J (left_schemas (lefts fs)) ≡ 1
            few (inl u) q = let l = leb-false 2 (length (lefts fs)) q in one_left (lefts fs) (omega (arith, l)) u
            few (inr g) q = absurd (yes_no (are_two (lefts fs)) q (le-leb 2 (length (lefts fs)) g.1))

            cases : (t : Bool) → are_two (lefts fs) ≡ t → (t && list_any (λ l. is_as_body l && l.wider) (lefts fs)) ≡ false → count J (left_schemas (lefts fs)) ≡ 1
            cases true q h = tight_count b [] members fs c n (tight_by_test fs h) (lone_by_count [] members fs c (omega (arith, e))) ∙ e
            cases false q h = few (find b [] members fs c n refl some) q

        widen : (fs : List Fate) → Cells [] members fs → Each NotWider fs → one_mixes apart (kept_of fs) ≡ false → one_forgets apart (kept_of fs) ≡ false → count J (left_schemas (lefts fs)) ≡ 1 → (B && (count J members == 1)) ≡ true
        widen fs c n h g e = and-in B _ (and-1 B _ both) (one_is (count J members) (cases apart refl))
          where
            u : U fs ≡ true
            u = some_counted (left_schemas (lefts fs)) (omega (arith, e))

            both : (B && list_any J members) ≡ true
            both = back [] members fs c n u

            lost_none : (a b : Bool) → a ≡ false → b ≡ true → ((any_lost fs && not a) && b) ≡ false → any_lost fs ≡ false
            lost_none a b p q h = only (any_lost fs) (sym (λ i. (any_lost fs && not (p i)) && q i) ∙ h)
              where
                only : (x : Bool) → ((x && true) && true) ≡ false → x ≡ false
                only true k = k
                only false k = refl

            other : apart ≡ false → (t : Bool) → list_any (λ l. not (is_joined l)) (lefts fs) ≡ t → count J members ≡ 1
            other p false q = let k = all_joined_count [] members fs c q u in omega (arith, k)
            other p true q = sym (tight_count (and-1 B _ both) [] members fs c (lost_by_test fs (lost_none apart _ p q g)) (tight_by_notes fs n) (lone_by_test [] members fs (none_joined (lefts fs) q (sym (λ i. ((are_two (lefts fs) && not (p i)) && not (list_all is_joined (lefts fs))) && not (list_all is_as_member (lefts fs))) ∙ h)))) ∙ e

            cases : (a : Bool) → apart ≡ a → count J members ≡ 1
            cases true p = one_true members (and-2 B _ both) (apart_says p)
            cases false p = other p (list_any (λ l. not (is_joined l)) (lefts fs)) refl

        go : (fs : List Fate) → Cells [] members fs → (has_way narrowed ns ≡ false → Each NotLost fs) → (has_way widened ns ≡ false → Each NotWider fs) → Meets IsProper (B && (count J members == 1)) J (noted ns (finish_one apart (kept_of fs)))
        go fs c nn nw = meets-weigh3 IsProper (B && (count J members == 1)) (count J (left_schemas (lefts fs)) == 1) J ns (note_if (one_narrows (kept_of fs)) (less_than of_members ∷ [])) (note_if (one_mixes apart (kept_of fs) || one_forgets apart (kept_of fs)) (more_than of_members ∷ [])) (gathered one_of (left_schemas (lefts fs)))
            (gathered_one (left_schemas (lefts fs)) (lefts_proper [] members fs c))
            (λ e k t. one_is (count J (left_schemas (lefts fs))) (narrow fs c (nn e) (narrow_note (one_narrows (kept_of fs)) k) (and-1 B _ t) (is_one (count J members) (and-2 B _ t))))
            (λ e k t. let w = widen_note (one_mixes apart (kept_of fs) || one_forgets apart (kept_of fs)) k in
            widen fs c (nw e) (or-1 (one_mixes apart (kept_of fs)) _ w) (or-2 (one_mixes apart (kept_of fs)) _ w) (is_one (count J (left_schemas (lefts fs))) t))

-- ---- the subschemas of a side

abbrev pub each_says : Judge → MaybeSchemas → Bool
each_says j no_list = true
each_says j (the_list ss) = list_all j (schema_list ss)

abbrev pub any_says : Judge → MaybeSchemas → Bool
any_says j no_list = true
any_says j (the_list ss) = list_any j (schema_list ss)

abbrev pub one_says : Judge → MaybeSchemas → Bool
one_says j no_list = true
one_says j (the_list ss) = count j (schema_list ss) == 1

abbrev pub not_says : Judge → MaybeSchema → Bool
not_says j no_schema = true
not_says j (the_schema s) = not (j s)

abbrev pub same_says : Judge → Same → Bool
same_says j no_same = true
same_says j (same_value all any one none c) = ((each_says j all && any_says j any) && one_says j one) && not_says j none

module _ (d : Document) (join less : Schema → Schema → Outcome Schema) (J : Judge)
    (merges : (a b : Schema) → IsProper a → IsProper b → Meets IsProper (J a && J b) J (join a b))
    (takes : (a b : Schema) → IsProper a → IsProper b → Meets IsProper (J a && not (J b)) J (less a b))
    (same : JudgesSame J)
    (apart : (s t : Schema) → are_apart d s t ≡ true → J s ≡ true → J t ≡ true → ⊥)
  where
    proper_schemas : (ss : Schemas) → ProperAll ss → Each IsProper (schema_list ss)
    proper_schemas no_more p = tt
    proper_schemas (schema s ss) p = (p.0, proper_schemas ss p.1)

    -- no two members that are exclusive are admitted
    apart_all : (s : Schema) (ss : Schemas) → list_all (are_apart d s) (schema_list ss) ≡ true → J s ≡ true → list_any J (schema_list ss) ≡ true → ⊥
    apart_all s no_more h e t = no_no t
    apart_all s (schema u us) h e t = cases (J u) refl t (apart_all s us (and-2 (are_apart d s u) _ h) e)
      where
        cases : (b : Bool) → J u ≡ b → (b || list_any J (schema_list us)) ≡ true → (list_any J (schema_list us) ≡ true → ⊥) → ⊥
        cases true q t k = apart s u (and-1 (are_apart d s u) _ h) e q
        cases false q t k = k t

    exclusive_says : (ss : Schemas) → exclusive d (schema_list ss) ≡ true → TwoTrue join J merges same (boolean true) tt (schema_list ss) → ⊥
    exclusive_says no_more h t = absurd t
    exclusive_says (schema s ss) h (inl t) = apart_all s ss (and-1 (list_all (are_apart d s) (schema_list ss)) _ h) t.0 t.1
    exclusive_says (schema s ss) h (inr t) = exclusive_says ss (and-2 (list_all (are_apart d s) (schema_list ss)) _ h) t

    and-assoc : (a b c : Bool) → ((a && b) && c) ≡ (a && (b && c))
    and-assoc true b c = refl
    and-assoc false b c = refl

    and-yes : (b : Bool) → b ≡ (b && true)
    and-yes true = refl
    and-yes false = refl

    each_meets : (ss : Schemas) → ProperAll ss → (body : Schema) → IsProper body → Meets IsProper (J body && list_all J (schema_list ss)) J (with_each d join less ss body)
    each_meets no_more p body q = meets-exactly IsProper _ J [] body q (and-yes (J body))
    each_meets (schema s ss) p body q = meets-wanted IsProper ((J body && J s) && list_all J (schema_list ss)) _ J (with_each d join less (schema s ss) body) (and-assoc (J body) (J s) _)
        (meets-then IsProper IsProper ((J body && J s) && list_all J (schema_list ss)) (λ b. J b && list_all J (schema_list ss)) J (join body s) (with_each d join less ss)
        (beside (join body s) (merges body s q p.0)) (λ b pb. each_meets ss p.1 b pb))
      where
        beside : (o : Outcome Schema) → Meets IsProper (J body && J s) J o → Meets IsProper ((J body && J s) && list_all J (schema_list ss)) (λ b. J b && list_all J (schema_list ss)) o
        beside o m = meets-said IsProper IsProper (list_all J (schema_list ss) && (J body && J s)) _ (λ b. list_all J (schema_list ss) && J b) (λ b. J b && list_all J (schema_list ss)) o
            (meets-in IsProper (list_all J (schema_list ss)) (J body && J s) J o m) (λ a p. p) (and-comm (list_all J (schema_list ss)) _) (λ a p. and-comm (list_all J (schema_list ss)) (J a))

    all_meets : (all : MaybeSchemas) → ProperList all → (body : Schema) → IsProper body → Meets IsProper (J body && each_says J all) J (with_all d join less all body)
    all_meets no_list p body q = meets-exactly IsProper _ J [] body q (and-yes (J body))
    all_meets (the_list ss) p body q = each_meets ss p body q

    not_meets : (none : MaybeSchema) → ProperMaybe none → (body : Schema) → IsProper body → Meets IsProper (J body && not_says J none) J (without d join less none body)
    not_meets no_schema p body q = meets-exactly IsProper _ J [] body q (and-yes (J body))
    not_meets (the_schema s) p body q = takes body s q p

    any_meets : (any : MaybeSchemas) → ProperList any → (body : Schema) → IsProper body → Meets IsProper (J body && any_says J any) J (with_any d join less any body)
    any_meets no_list p body q = meets-exactly IsProper _ J [] body q (and-yes (J body))
    any_meets (the_list ss) p body q = go (fates join body [] (schema_list ss)) (fates_fit join J merges same body q [] (schema_list ss) tt (proper_schemas ss p))
      where
        go : (o : Outcome Kept) → KeptFits join J merges same body q [] (schema_list ss) o → Meets IsProper (J body && list_any J (schema_list ss)) J (and_then o (finish_any (exclusive d (schema_list ss))))
        go (fault f) h = tt
        go (never ns) h = absurd h
        go (answer ns k) h = finish_any_meets join J merges same body q (exclusive d (schema_list ss)) (schema_list ss) (λ e t. exclusive_says ss e (two (schema_list ss) t)) ns k h
          where
            two : (ms : List Schema) → TwoTrue join J merges same body q ms → TwoTrue join J merges same (boolean true) tt ms
            two [] t = t
            two (m ∷ ms) (inl t) = inl t
            two (m ∷ ms) (inr t) = inr (two ms t)

    one_meets : (one : MaybeSchemas) → ProperList one → (body : Schema) → IsProper body → Meets IsProper (J body && one_says J one) J (with_one d join less one body)
    one_meets no_list p body q = meets-exactly IsProper _ J [] body q (and-yes (J body))
    one_meets (the_list ss) p body q = go (fates join body [] (schema_list ss)) (fates_fit join J merges same body q [] (schema_list ss) tt (proper_schemas ss p))
      where
        go : (o : Outcome Kept) → KeptFits join J merges same body q [] (schema_list ss) o → Meets IsProper (J body && (count J (schema_list ss) == 1)) J (and_then o (finish_one (exclusive d (schema_list ss))))
        go (fault f) h = tt
        go (never ns) h = absurd h
        go (answer ns k) h = finish_one_meets join J merges same body q (exclusive d (schema_list ss)) (schema_list ss) (λ e t. exclusive_says ss e (two (schema_list ss) t)) ns k h
          where
            two : (ms : List Schema) → TwoTrue join J merges same body q ms → TwoTrue join J merges same (boolean true) tt ms
            two [] t = t
            two (m ∷ ms) (inl t) = inl t
            two (m ∷ ms) (inr t) = inr (two ms t)

    -- a step on what is known of a body
    after : (x y : Bool) (h : Schema → Bool) (o : Outcome Schema) (k : Schema → Outcome Schema) → Meets IsProper x J o → ((b : Schema) → IsProper b → Meets IsProper (J b && y) J (k b)) → Meets IsProper (x && y) J (and_then o k)
    after x y h o k m n = meets-then IsProper IsProper (x && y) (λ b. J b && y) J o k
        (meets-said IsProper IsProper (y && x) (x && y) (λ b. y && J b) (λ b. J b && y) o (meets-in IsProper y x J o m) (λ a p. p) (and-comm y x) (λ a p. and-comm y (J a))) n

    pub with_same_meets : (ss : Same) → ProperSame ss → (body : Schema) → IsProper body → Meets IsProper (J body && same_says J ss) J (with_same d join less ss body)
    with_same_meets no_same p body q = meets-exactly IsProper _ J [] body q (and-yes (J body))
    with_same_meets (same_value all any one none c) p body q =
        meets-wanted IsProper ((J body && each_says J all) && (not_says J none && (any_says J any && one_says J one))) _ J (with_same d join less (same_value all any one none c) body)
        (turn (J body) (each_says J all) (any_says J any) (one_says J one) (not_says J none))
        (after (J body && each_says J all) (not_says J none && (any_says J any && one_says J one)) J (with_all d join less all body) _ (all_meets all p.0 body q)
        (λ b pb. meets-wanted IsProper ((J b && not_says J none) && (any_says J any && one_says J one)) _ J _ (and-assoc (J b) (not_says J none) _)
        (after (J b && not_says J none) (any_says J any && one_says J one) J (without d join less none b) _ (not_meets none p.3 b pb)
        (λ b' pb'. meets-wanted IsProper ((J b' && any_says J any) && one_says J one) _ J _ (and-assoc (J b') (any_says J any) _)
        (after (J b' && any_says J any) (one_says J one) J (with_any d join less any b') _ (any_meets any p.1 b' pb') (λ b'' pb''. one_meets one p.2 b'' pb''))))))
      where
        turn : (b a y o n : Bool) → ((b && a) && (n && (y && o))) ≡ (b && (((a && y) && o) && n))
        turn false a y o n = refl
        turn true false y o n = refl
        turn true true y o n = and-comm n (y && o)
