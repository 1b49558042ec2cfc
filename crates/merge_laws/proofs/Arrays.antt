-- Merging the keywords of lists meets what both sides say of the items of a value.
use Rattle.std.proofs.Common.{◌≡◌, ℕ, zero, suc, ◌+◌, ◌≤◌, ◌<◌, List, [], ◌∷◌, length, Bool, true, false, ◌&&◌, ◌||◌, not, Option, Some, None, refl, ap, sym, ◌∙◌, subst, arith}
use Rattle.std.specs.Prelude.{if◌then◌else◌, nat_lt, nat_le, ◌==◌}
use Rattle.std.specs.List.{list_any, list_all}
use Rattle.std.proofs.lemmas.Bool.{le-leb, leb-true}
use Rattle.std.proofs.lemmas.Bool.Decides.{Decides-ltb, Decides-eqb}
use Rattle.std.proofs.Math.Dec.{leb-zero, leb-suc-zero, leb-suc-suc}
use Rattle.schema_defs.specs.Schema.{ListRules, Schema, boolean, Lists, no_lists, lists, MaybeSchema, no_schema, the_schema, Schemas, no_more, schema, Places, no_items, each_item, by_place}
use Rattle.schema_defs.specs.Layer.{Judge, maybe, by_places as agree_by_places, items_agree, contains_agrees}
use Rattle.merge_defs.specs.Outcome.{Outcome, fault, never, answer, narrowed, has_way, of_clash, noted, and_then, mapped, never_unless}
use Rattle.merge_defs.specs.Alike.{same_schemas}
use Rattle.merge_defs.specs.Leaves.{sizes_cross}
use Rattle.merge_defs.specs.Arrays.{Merged, End, at_most, at_clash, goes_on, nothing_more, put, is_full, least_items, stands, is_above_zero, ended_at, clash_at, at_place, by_places, pairs, or_true, rest_of, ending, placed, each_front, each_of_both, two_places, Front, with_front, kept_lists, no_list_rules, two_rules, two_lists_parts, two_contains, joined_rules, alone, cut_to, schema_count, first_schemas}
use Rattle.merge_laws.specs.Laws.{Meets, IsProper, ProperMaybe, ProperAll, ProperPlaces, ProperLists}
use Rattle.merge_laws.proofs.Steps.{no_no, yes_no, and-1, and-2, and-in, no_way-1, no_way-2, Always, Each, meets-exactly, meets-never, meets-said, meets-wanted, meets-noted, meets-all, meets-in, meets-step, meets-then, meets-mapped}
use Rattle.merge_laws.proofs.Objects.{IsJudge}

-- ---- booleans

assoc : (a b c : Bool) → ((a && b) && c) ≡ (a && (b && c))
assoc true b c = refl
assoc false b c = refl

and-true : (b : Bool) → (b && true) ≡ b
and-true true = refl
and-true false = refl

pub and-under : (b a d : Bool) → (b ≡ true → a ≡ d) → (b && a) ≡ (b && d)
and-under true a d h = h refl
and-under false a d h = refl

-- ---- the items of one side

-- the first schemas, by place
abbrev prefix : List Judge → Schemas → Bool
prefix [] ss = true
prefix (j ∷ js) no_more = true
prefix (j ∷ js) (schema s ss) = j s && prefix js ss

-- the judges behind them
abbrev behind : List Judge → Schemas → List Judge
behind [] ss = []
behind (j ∷ js) no_more = j ∷ js
behind (j ∷ js) (schema s ss) = behind js ss

abbrev side : List Judge → Schemas → Schema → Bool
side [] ss x = true
side (j ∷ js) no_more x = j x && side js no_more x
side (j ∷ js) (schema s ss) x = j s && side js ss x

placed_says : (js : List Judge) (ss : Schemas) (r : MaybeSchema) → agree_by_places js ss r ≡ (prefix js ss && list_all (λ j. maybe j r) (behind js ss))
placed_says [] ss r = refl
placed_says (j ∷ js) no_more r = ap (λ b. maybe j r && b) (placed_says js no_more r ∙ none js)
  where
    none : (js : List Judge) → (prefix js no_more && list_all (λ j. maybe j r) (behind js no_more)) ≡ list_all (λ j. maybe j r) js
    none [] = refl
    none (j ∷ js) = refl
placed_says (j ∷ js) (schema s ss) r = ap (λ b. j s && b) (placed_says js ss r) ∙ sym (assoc (j s) _ _)

each_side : (js : List Judge) (s : Schema) → list_all (λ j. j s) js ≡ side js no_more s
each_side [] s = refl
each_side (j ∷ js) s = ap (λ b. j s && b) (each_side js s)

module _ (join : Schema → Schema → Outcome Schema) (always : (a b : Schema) → IsProper a → IsProper b → Always IsProper (join a b)) where
  abbrev pub Judges : List Judge → Type 0
  Judges = Each (IsJudge join)

  or_true_says : (j : Judge) → IsJudge join j → (m : MaybeSchema) → maybe j m ≡ j (or_true m)
  or_true_says j is no_schema = sym (is.at_boolean true)
  or_true_says j is (the_schema s) = refl

  places_side : (js : List Judge) → Judges js → (ss : Schemas) (m : MaybeSchema) → agree_by_places js ss m ≡ side js ss (or_true m)
  places_side [] e ss m = refl
  places_side (j ∷ js) e no_more m = λ i. or_true_says j e.0 m i && places_side js e.1 no_more m i
  places_side (j ∷ js) e (schema s ss) m = ap (λ b. j s && b) (places_side js e.1 ss m)

  judges_behind : (js : List Judge) (ss : Schemas) → Judges js → Judges (behind js ss)
  judges_behind [] ss e = tt
  judges_behind (j ∷ js) no_more e = e
  judges_behind (j ∷ js) (schema s ss) e = judges_behind js ss e.1

  proper_or_true : (m : MaybeSchema) → ProperMaybe m → IsProper (or_true m)
  proper_or_true no_schema p = tt
  proper_or_true (the_schema s) p = p

  -- ---- two sides by place

  module _ (x y : Schema) (px : IsProper x) (py : IsProper y) where
    abbrev want : List Judge → List (Schema × Schema) → Bool
    want [] ps = true
    want (j ∷ js) [] = (j x && j y) && want js []
    want (j ∷ js) (p ∷ ps) = (j p.0 && j p.1) && want js ps

    pairs-want : (a b c d : Bool) → ((a && b) && (c && d)) ≡ ((a && c) && (b && d))
    pairs-want false b c d = refl
    pairs-want true false false d = refl
    pairs-want true false true d = refl
    pairs-want true true c d = refl

    sides_want : (js : List Judge) (ss ts : Schemas) → (side js ss x && side js ts y) ≡ want js (pairs ss x ts y)
    sides_want [] ss ts = refl
    sides_want (j ∷ js) no_more no_more = pairs-want (j x) _ (j y) _ ∙ ap (λ b. (j x && j y) && b) (sides_want js no_more no_more)
    sides_want (j ∷ js) no_more (schema t ts) = pairs-want (j x) _ (j t) _ ∙ ap (λ b. (j x && j t) && b) (sides_want js no_more ts)
    sides_want (j ∷ js) (schema s ss) no_more = pairs-want (j s) _ (j y) _ ∙ ap (λ b. (j s && j y) && b) (sides_want js ss no_more)
    sides_want (j ∷ js) (schema s ss) (schema t ts) = pairs-want (j s) _ (j t) _ ∙ ap (λ b. (j s && j t) && b) (sides_want js ss ts)

    want_none : (js : List Judge) → want js [] ≡ list_all (λ j. j x && j y) js
    want_none [] = refl
    want_none (j ∷ js) = ap (λ b. (j x && j y) && b) (want_none js)

    abbrev ProperPairs : List (Schema × Schema) → Type 0
    ProperPairs [] = Unit {0}
    ProperPairs (p ∷ ps) = IsProper p.0 × IsProper p.1 × ProperPairs ps

    proper_pairs : (ss ts : Schemas) → ProperAll ss → ProperAll ts → ProperPairs (pairs ss x ts y)
    proper_pairs no_more no_more p q = tt
    proper_pairs no_more (schema t ts) p q = (px, q.0, proper_pairs no_more ts tt q.1)
    proper_pairs (schema s ss) no_more p q = (p.0, py, proper_pairs ss no_more p.1 tt)
    proper_pairs (schema s ss) (schema t ts) p q = (p.0, q.0, proper_pairs ss ts p.1 q.1)

    -- L is the number of items; c says the merged sizes, and whether the value is a list where the type says so
    module _ (array : Bool) (rules : ListRules) (c : Bool) (L : ℕ)
        (most : (n : ℕ) → c ≡ true → rules.max_items ≡ Some n → L ≤ n)
        (least : (n : ℕ) → c ≡ true → array ≡ true → rules.min_items ≡ Some n → n ≤ L)
      where
        -- how the items that are behind the merged ones stand
        abbrev at_end : End → List Judge → Bool
        at_end goes_on js = list_all (λ j. j x && j y) js
        at_end at_most js = true
        at_end (at_clash k) [] = true
        at_end (at_clash k) (j ∷ js) = false

        abbrev got : List Judge → Merged → Bool
        got js m = prefix js m.items && at_end m.end (behind js m.items)

        -- where k items were merged before
        abbrev EndFits : ℕ → ℕ → End → Type 0
        EndFits k n (at_clash i) = (i ≡ k + n) × ((m : ℕ) → rules.max_items ≡ Some m → 0 < m → i ≤ m)
        EndFits k n _ = Unit {0}

        abbrev Fits : ℕ → Merged → Type 0
        Fits k m = ProperAll m.items × EndFits k (schema_count m.items) m.end

        got_none : (m : Merged) → got [] m ≡ true
        got_none m = go m.end
          where
            go : (e : End) → at_end e [] ≡ true
            go goes_on = refl
            go at_most = refl
            go (at_clash k) = refl

        abbrev Below : ℕ → Type 0
        Below k = (m : ℕ) → rules.max_items ≡ Some m → 0 < m → k ≤ m

        -- never at k is marked, unless an item must stand there
        clash_none : (k : ℕ) → L ≤ k → Below k → Meets (Fits k) c (λ m. c) (clash_at join array rules k)
        clash_none k e below = cases (nat_lt k (least_items rules.min_items)) refl
          where
            must : (o : Option ℕ) → rules.min_items ≡ o → nat_lt k (least_items o) ≡ true → (array && stands o) ≡ true → c ≡ true → ⊥
            must None q h t d = no_no (and-2 array _ t)
            must (Some n) q h t d = let p = least n d (and-1 array _ t) q in let s = (Decides-ltb k n).0 h in absurd (omega (arith, p, s, e))

            cases : (b : Bool) → nat_lt k (least_items rules.min_items) ≡ b → Meets (Fits k) c (λ m. c) (if b then never_unless (array && stands rules.min_items) of_clash else answer [] (nothing_more (at_clash k)))
            cases true h = meets-never (Fits k) c (λ m. c) (array && stands rules.min_items) of_clash (must rules.min_items refl h)
            cases false h = meets-exactly (Fits k) c (λ m. c) [] (nothing_more (at_clash k)) (tt, (omega arith, below)) refl

        always_clash : (k : ℕ) → Below k → Always (Fits k) (clash_at join array rules k)
        always_clash k below = cases (nat_lt k (least_items rules.min_items))
          where
            unless : (b : Bool) → Always (Fits k) (never_unless b of_clash)
            unless true = tt
            unless false = tt

            cases : (b : Bool) → Always (Fits k) (if b then never_unless (array && stands rules.min_items) of_clash else answer [] (nothing_more (at_clash k)))
            cases true = unless (array && stands rules.min_items)
            cases false = (tt, (omega arith, below))

        fits_put : (k : ℕ) (s : Schema) → IsProper s → (m : Merged) → Fits (suc k) m → Fits k (put s m)
        fits_put k s p m f = ((p, f.0), go m.end f.1)
          where
            go : (e : End) → EndFits (suc k) (schema_count m.items) e → EndFits k (suc (schema_count m.items)) e
            go goes_on h = tt
            go at_most h = tt
            go (at_clash i) h = let q = h.0 in (omega arith, h.1)

        -- a full front, where so many items stand already
        abbrev Counts : ℕ → List Judge → Type 0
        Counts k [] = L ≤ k
        Counts k (j ∷ js) = L ≡ k + suc (length js)

        counts_next : (k : ℕ) (js : List Judge) → L ≡ k + suc (length js) → Counts (suc k) js
        counts_next k [] e = omega (arith, e)
        counts_next k (j ∷ js) e = omega (arith, e)

        full_none : (k : ℕ) (js : List Judge) → Counts k js → is_full rules.max_items k ≡ true → c ≡ true → js ≡ []
        full_none k js e h d = go rules.max_items refl h
          where
            empty : (js : List Judge) → Counts k js → L ≤ k → js ≡ []
            empty [] e l = refl
            empty (j ∷ js) e l = absurd (omega (arith, e, l))

            go : (o : Option ℕ) → rules.max_items ≡ o → is_full o k ≡ true → js ≡ []
            go None q h = no_no h
            go (Some n) q h = let p = most n d q in let s = (Decides-eqb n k).0 (and-2 (nat_lt 0 n) _ h) in empty js e (omega (arith, p, s))

        below_next : (k : ℕ) → is_full rules.max_items k ≡ false → Below k → Below (suc k)
        below_next k h b m q z = go (m == k) refl (subst (λ o. is_full o k ≡ false) q h)
          where
            go : (t : Bool) → (m == k) ≡ t → is_full (Some m) k ≡ false → suc k ≤ m
            go true e f = absurd (yes_no (is_full (Some m) k) f (and-in (nat_lt 0 m) (m == k) ((Decides-ltb 0 m).1 z) e))
            go false e f =
                let ne : ¬ (m ≡ k) = λ p. yes_no (m == k) e ((Decides-eqb m k).1 p) in
                let l = b m q z in
                omega (arith, l, ne)

        -- what is made at place k, of the merge there
        at_none : (k : ℕ) (p : Schema × Schema) (go : ℕ → Outcome Merged) → IsProper p.0 → IsProper p.1 → L ≤ k → Below k → Meets (Fits (suc k)) c (λ m. c) (go (suc k))
            → Meets (Fits k) c (λ m. c) (at_place join array rules k (join p.0 p.1) go)
        at_none k p go a b e below m = cases (join p.0 p.1) (always p.0 p.1 a b)
          where
            cases : (o : Outcome Schema) → Always IsProper o → Meets (Fits k) c (λ m. c) (at_place join array rules k o go)
            cases (fault f) h = tt
            cases (never ns) h = meets-noted (Fits k) c (λ m. c) ns (clash_at join array rules k) (clash_none k e below)
            cases (answer ns s) h = meets-noted (Fits k) c (λ m. c) ns (mapped (put s) (go (suc k)))
                (meets-mapped (Fits (suc k)) (Fits k) c (λ m. c) (λ m. c) (put s) (go (suc k)) m (fits_put k s h) (λ m f. refl))

        at_some : (k : ℕ) (p : Schema × Schema) (go : ℕ → Outcome Merged) (j : Judge) (js : List Judge) (w : Bool) → IsJudge join j → IsProper p.0 → IsProper p.1 → Below k
            → Meets (Fits (suc k)) (c && w) (λ m. c && got js m) (go (suc k))
            → Meets (Fits k) (c && ((j p.0 && j p.1) && w)) (λ m. c && got (j ∷ js) m) (at_place join array rules k (join p.0 p.1) go)
        at_some k p go j js w is a b below m = cases (join p.0 p.1) (is.merges p.0 p.1 a b)
          where
            W : Bool
            W = c && ((j p.0 && j p.1) && w)

            cases : (o : Outcome Schema) → Meets IsProper (j p.0 && j p.1) j o → Meets (Fits k) (c && ((j p.0 && j p.1) && w)) (λ m. c && got (j ∷ js) m) (at_place join array rules k o go)
            cases (fault f) h = tt
            cases (never ns) h = clash (clash_at join array rules k) (nat_lt k (least_items rules.min_items)) refl
              where
                none : has_way narrowed ns ≡ false → (c && ((j p.0 && j p.1) && w)) ≡ true → ⊥
                none e t = h e (and-1 (j p.0 && j p.1) w (and-2 c _ t))

                clash : (o : Outcome Merged) (t : Bool) → nat_lt k (least_items rules.min_items) ≡ t
                    → Meets (Fits k) (c && ((j p.0 && j p.1) && w)) (λ m. c && got (j ∷ js) m) (noted ns (if t then never_unless (array && stands rules.min_items) of_clash else answer [] (nothing_more (at_clash k))))
                clash o true e = λ f t. none (no_way-1 narrowed ns _ f) t
                clash o false e = ((tt, (omega arith, below)), λ f t. absurd (none (no_way-1 narrowed ns _ f) t), λ f t. no_no (and-2 c false t))
            cases (answer ns s) h = meets-step IsProper (Fits k) c (j p.0 && j p.1) w j (λ m. c && got (j ∷ js) m) (answer ns s) (λ s. mapped (put s) (go (suc k)))
                (meets-in IsProper c (j p.0 && j p.1) j (answer ns s) h)
                (λ s q. meets-mapped (Fits (suc k)) (Fits k) ((c && j s) && w) (λ m. (c && j s) && got js m) (λ m. c && got (j ∷ js) m) (put s) (go (suc k)) (with_front_judge s) (fits_put k s q)
                (λ m f. ap (λ b. c && b) (assoc (j s) (prefix js m.items) (at_end m.end (behind js m.items))) ∙ sym (assoc c (j s) (got js m))))
              where
                turn : (a b d : Bool) → (b && (a && d)) ≡ ((a && b) && d)
                turn true true d = refl
                turn true false d = refl
                turn false true d = refl
                turn false false d = refl

                with_front_judge : (s : Schema) → Meets (Fits (suc k)) ((c && j s) && w) (λ m. (c && j s) && got js m) (go (suc k))
                with_front_judge s = meets-said (Fits (suc k)) (Fits (suc k)) (j s && (c && w)) ((c && j s) && w) (λ m. j s && (c && got js m)) (λ m. (c && j s) && got js m) (go (suc k))
                    (meets-in (Fits (suc k)) (j s) (c && w) (λ m. c && got js m) (go (suc k)) m) (λ m f. f) (turn c (j s) w) (λ m f. turn c (j s) (got js m))

        full_meets : (k : ℕ) (js : List Judge) (ps : List (Schema × Schema)) → Counts k js → is_full rules.max_items k ≡ true
            → Meets (Fits k) (c && want js ps) (λ m. c && got js m) (answer [] (nothing_more at_most))
        full_meets k js ps l f = meets-exactly (Fits k) _ (λ m. c && got js m) [] (nothing_more at_most) (tt, tt)
            (and-under c _ _ (λ d. subst (λ js. got js (nothing_more at_most) ≡ want js ps) (sym (full_none k js l f d)) refl))

        open_says : (js : List Judge) → got js (nothing_more goes_on) ≡ want js []
        open_says [] = refl
        open_says (j ∷ js) = sym (want_none (j ∷ js))

        -- nothing is asked where no item is left
        none_left : (k : ℕ) (o : Outcome Merged) → Meets (Fits k) c (λ m. c) o → Meets (Fits k) (c && true) (λ m. c && got [] m) o
        none_left k o m = meets-said (Fits k) (Fits k) c (c && true) (λ m. c) (λ m. c && got [] m) o m (λ m f. f) (sym (and-true c)) (λ m f. sym (ap (λ b. c && b) (got_none m) ∙ and-true c))

        left_none : (k : ℕ) (o : Outcome Merged) → Meets (Fits k) (c && true) (λ m. c && got [] m) o → Meets (Fits k) c (λ m. c) o
        left_none k o m = meets-said (Fits k) (Fits k) (c && true) c (λ m. c && got [] m) (λ m. c) o m (λ m f. f) (and-true c) (λ m f. ap (λ b. c && b) (got_none m) ∙ and-true c)

        by_places_meet : (k : ℕ) (js : List Judge) → Judges js → (ps : List (Schema × Schema)) → ProperPairs ps → Counts k js → Below k
            → Meets (Fits k) (c && want js ps) (λ m. c && got js m) (by_places join array rules k ps)
        by_places_meet k js e [] p l below = ends (is_full rules.max_items k) refl
          where
            ends : (t : Bool) → is_full rules.max_items k ≡ t → Meets (Fits k) (c && want js []) (λ m. c && got js m) (answer [] (nothing_more (if t then at_most else goes_on)))
            ends true f = full_meets k js [] l f
            ends false f = meets-exactly (Fits k) _ (λ m. c && got js m) [] (nothing_more goes_on) (tt, tt) (ap (λ b. c && b) (open_says js))
        by_places_meet k [] e (q ∷ ps) p l below = step (is_full rules.max_items k) refl (λ f. by_places_meet (suc k) [] tt ps p.2 (omega (arith, l)) (below_next k f below))
          where
            step : (t : Bool) → is_full rules.max_items k ≡ t → (is_full rules.max_items k ≡ false → Meets (Fits (suc k)) (c && true) (λ m. c && got [] m) (by_places join array rules (suc k) ps))
                → Meets (Fits k) (c && true) (λ m. c && got [] m) (elim t [ true ↦ answer [] (nothing_more at_most) | false ↦ at_place join array rules k (join q.0 q.1) (λ n. by_places join array rules n ps) ])
            step true f after = full_meets k [] (q ∷ ps) l f
            step false f after = none_left k _ (at_none k q (λ n. by_places join array rules n ps) p.0 p.1 l below (left_none (suc k) _ (after f)))
        by_places_meet k (j ∷ js) e (q ∷ ps) p l below = step (is_full rules.max_items k) refl (λ f. by_places_meet (suc k) js e.1 ps p.2 (counts_next k js l) (below_next k f below))
          where
            step : (t : Bool) → is_full rules.max_items k ≡ t → (is_full rules.max_items k ≡ false → Meets (Fits (suc k)) (c && want js ps) (λ m. c && got js m) (by_places join array rules (suc k) ps))
                → Meets (Fits k) (c && ((j q.0 && j q.1) && want js ps)) (λ m. c && got (j ∷ js) m) (elim t [ true ↦ answer [] (nothing_more at_most) | false ↦ at_place join array rules k (join q.0 q.1) (λ n. by_places join array rules n ps) ])
            step true f after = full_meets k (j ∷ js) (q ∷ ps) l f
            step false f after = at_some k q (λ n. by_places join array rules n ps) j js (want js ps) e.0 p.0 p.1 below (after f)

        -- ---- what stands behind the merged items

        rest_meets : (stays : Bool) (js : List Judge) → Judges js → Meets ProperMaybe (list_all (λ j. j x && j y) js) (λ r. list_all (λ j. maybe j r) js) (rest_of join array rules stays (join x y))
        rest_meets stays js e = cases (join x y) refl stays
          where
            one : (o : Outcome Schema) → join x y ≡ o → (j : Judge) → IsJudge join j → Meets IsProper (j x && j y) j o
            one o q j is = subst (λ o. Meets IsProper (j x && j y) j o) q (is.merges x y px py)

            cases : (o : Outcome Schema) → join x y ≡ o → (b : Bool) → Meets ProperMaybe (list_all (λ j. j x && j y) js) (λ r. list_all (λ j. maybe j r) js) (rest_of join array rules b o)
            cases (fault f) q b = tt
            cases (never ns) q true = meets-all ProperMaybe (IsJudge join) (λ j. j x && j y) (λ j r. maybe j r) (noted ns (answer [] (the_schema (boolean false)))) tt tt
                (λ j is. (tt, λ f t. absurd (one (never ns) q j is (no_way-1 narrowed ns [] f) t), λ f t. yes_no (j (boolean false)) (is.at_boolean false) t)) js e
            cases (never ns) q false = λ f t. yes_no true (no_way-2 narrowed ns _ f) refl
            cases (answer ns s) q b = meets-all ProperMaybe (IsJudge join) (λ j. j x && j y) (λ j r. maybe j r) (answer ns (the_schema s)) tt (subst (Always IsProper) q (always x y px py)) (one (answer ns s) q) js e

-- ---- the front of a list

abbrev pub sized : ListRules → Option ℕ → ListRules
sized rules o = record rules { max_items = o }

module _ (join : Schema → Schema → Outcome Schema) (always : (a b : Schema) → IsProper a → IsProper b → Always IsProper (join a b))
    (js : List Judge) (e : Each (IsJudge join) js) (rules_say : ListRules → Bool) (array : Bool) (rules : ListRules) (c : Bool)
    (most : (n : ℕ) → (c && rules_say rules) ≡ true → rules.max_items ≡ Some n → length js ≤ n)
    (least : (n : ℕ) → (c && rules_say rules) ≡ true → array ≡ true → rules.min_items ≡ Some n → n ≤ length js)
    (limited : (k : ℕ) → ((m : ℕ) → rules.max_items ≡ Some m → k ≤ m) → rules_say (sized rules (Some k)) ≡ (rules_say rules && nat_le (length js) k))
  where
    -- what the items, the rest and the sizes say
    abbrev front_says : Front → Bool
    front_says f = items_agree js f.places f.rest && rules_say (sized rules f.max_items)

    abbrev Known : Bool
    Known = c && rules_say rules

    abbrev ProperFront : Front → Type 0
    ProperFront f = ProperPlaces f.places × ProperMaybe f.rest

    module _ (x y : Schema) (px : IsProper x) (py : IsProper y) where
      abbrev Got : Merged → Bool
      Got = got join always x y px py array rules Known (length js) most least js

      abbrev Fit : Merged → Type 0
      Fit = Fits join always x y px py array rules Known (length js) most least 0

      all_true : (js : List Judge) → list_all (λ j. true) js ≡ true
      all_true [] = refl
      all_true (j ∷ js) = all_true js

      turn : (c r p t : Bool) → (c && ((p && t) && r)) ≡ ((c && r) && (p && t))
      turn false r p t = refl
      turn true true p t = and-true (p && t)
      turn true false p t = none (p && t)
        where
          none : (b : Bool) → (b && false) ≡ false
          none true = refl
          none false = refl

      abbrev is_empty : List Judge → Bool
      is_empty [] = true
      is_empty (j ∷ js) = false

      empty_behind : (js : List Judge) (ss : Schemas) → nat_le (length js) (schema_count ss) ≡ is_empty (behind js ss)
      empty_behind [] ss = leb-zero (schema_count ss)
      empty_behind (j ∷ js) no_more = leb-suc-zero (length js)
      empty_behind (j ∷ js) (schema s ss) = leb-suc-suc (length js) (schema_count ss) ∙ empty_behind js ss

      end_empty : (k : ℕ) (hs : List Judge) → at_end join always x y px py array rules Known (length js) most least (at_clash k) hs ≡ is_empty hs
      end_empty k [] = refl
      end_empty k (j ∷ hs) = refl

      ended_says : (ss : Schemas) → c ≡ true → ((m : ℕ) → rules.max_items ≡ Some m → 0 < m → schema_count ss ≤ m)
          → rules_say (sized rules (ended_at (schema_count ss) rules.max_items)) ≡ (rules_say rules && is_empty (behind js ss))
      ended_says ss d fits = go rules.max_items refl
        where
          k : ℕ
          k = schema_count ss

          other : ((m : ℕ) → rules.max_items ≡ Some m → schema_count ss ≤ m) → rules_say (sized rules (Some (schema_count ss))) ≡ (rules_say rules && is_empty (behind js ss))
          other h = limited (schema_count ss) h ∙ ap (λ b. rules_say rules && b) (empty_behind js ss)

          zero_says : rules.max_items ≡ Some 0 → (b : Bool) → rules_say rules ≡ b → b ≡ (b && is_empty (behind js ss))
          zero_says q false h = refl
          zero_says q true h =
              let l = most 0 (and-in c (rules_say rules) d h) q in
              sym (sym (empty_behind js ss) ∙ le-leb (length js) (schema_count ss) (omega (arith, l)))

          go : (o : Option ℕ) → rules.max_items ≡ o → rules_say (sized rules (ended_at (schema_count ss) o)) ≡ (rules_say rules && is_empty (behind js ss))
          go None q = other (λ m h. absurd (none_some (sym q ∙ h)))
            where
              none_some : {m : ℕ} → None ≡ Some m → ⊥
              none_some h = cc
          go (Some zero) q = ap (λ o. rules_say (sized rules o)) (sym q) ∙ zero_says q (rules_say rules) refl
          go (Some (suc n)) q = other (λ m h. fits m h (positive m (sym q ∙ h)))
            where
              positive : (m : ℕ) → Some (suc n) ≡ Some m → 0 < m
              positive m h = let p : suc n ≡ m = cc in omega (arith, p)

      front_meets : (stays : Bool) (ss : Schemas) (end : End) → Fit (record { items = ss; end = end }) → Meets ProperFront (Known && Got (record { items = ss; end = end })) (λ f. c && front_says f) (ending join array rules stays (join x y) (record { items = ss; end = end }))
      front_meets stays ss goes_on f = meets-mapped ProperMaybe ProperFront (Known && Got (record { items = ss; end = goes_on })) (λ r. Known && (prefix js ss && list_all (λ j. maybe j r) (behind js ss))) (λ f. c && front_says f)
          (λ r. record { places = by_place ss; rest = r; max_items = rules.max_items }) (rest_of join array rules stays (join x y))
          (meets-in ProperMaybe Known (prefix js ss && list_all (λ j. j x && j y) (behind js ss)) (λ r. prefix js ss && list_all (λ j. maybe j r) (behind js ss)) (rest_of join array rules stays (join x y))
          (meets-in ProperMaybe (prefix js ss) (list_all (λ j. j x && j y) (behind js ss)) (λ r. list_all (λ j. maybe j r) (behind js ss)) (rest_of join array rules stays (join x y))
          (rest_meets join always x y px py array rules Known (length js) most least stays (behind js ss) (judges_behind join always js ss e))))
          (λ r p. (f.0, p))
          (λ r p. ap (λ b. c && (b && rules_say rules)) (placed_says js ss r) ∙ turn c (rules_say rules) (prefix js ss) (list_all (λ j. maybe j r) (behind js ss)))
      front_meets stays ss at_most f = meets-exactly ProperFront _ (λ f. c && front_says f) [] (record { places = by_place ss; rest = no_schema; max_items = rules.max_items }) (f.0, tt)
          (ap (λ b. c && (b && rules_say rules)) (placed_says js ss no_schema ∙ ap (λ b. prefix js ss && b) (all_true (behind js ss))) ∙ turn c (rules_say rules) (prefix js ss) true)
      front_meets stays ss (at_clash k) f = meets-exactly ProperFront _ (λ f. c && front_says f) [] (record { places = by_place ss; rest = no_schema; max_items = ended_at k rules.max_items }) (f.0, tt)
          (ap (λ b. c && (b && rules_say (sized rules (ended_at k rules.max_items)))) (placed_says js ss no_schema ∙ ap (λ b. prefix js ss && b) (all_true (behind js ss)))
          ∙ and-under c ((prefix js ss && true) && rules_say (sized rules (ended_at k rules.max_items))) ((prefix js ss && true) && (rules_say rules && is_empty (behind js ss))) (λ d. ap (λ b. (prefix js ss && true) && b) (ended d))
          ∙ shuffle c (rules_say rules) (prefix js ss) (is_empty (behind js ss))
          ∙ ap (λ b. (c && rules_say rules) && (prefix js ss && b)) (sym (end_empty k (behind js ss))))
        where
          ended : c ≡ true → rules_say (sized rules (ended_at k rules.max_items)) ≡ (rules_say rules && is_empty (behind js ss))
          ended d =
              let q : k ≡ schema_count ss = omega (arith, f.1.0) in
              ap (λ i. rules_say (sized rules (ended_at i rules.max_items))) q ∙ ended_says ss d (λ m h z. subst (λ i. i ≤ m) q (f.1.1 m h z))

          shuffle : (c r p t : Bool) → (c && ((p && true) && (r && t))) ≡ ((c && r) && (p && t))
          shuffle false r p t = refl
          shuffle true true true t = refl
          shuffle true true false t = refl
          shuffle true false true t = refl
          shuffle true false false t = refl

    -- ---- the items of both sides

    placed_meets : (stays : Bool) (ss : Schemas) (x : Schema) (ts : Schemas) (y : Schema) → ProperAll ss → IsProper x → ProperAll ts → IsProper y
        → Meets ProperFront (Known && (side js ss x && side js ts y)) (λ f. c && front_says f) (placed join array rules stays ss x ts y)
    placed_meets stays ss x ts y ps px pt py = meets-then (Fit x y px py) ProperFront (Known && (side js ss x && side js ts y)) (λ m. Known && Got x y px py m) (λ f. c && front_says f)
        (by_places join array rules 0 (pairs ss x ts y)) (λ m. ending join array rules stays (join x y) m)
        (meets-wanted (Fit x y px py) (Known && want join always x y px py js (pairs ss x ts y)) (Known && (side js ss x && side js ts y)) (λ m. Known && Got x y px py m) (by_places join array rules 0 (pairs ss x ts y))
        (ap (λ b. Known && b) (sym (sides_want join always x y px py js ss ts)))
        (by_places_meet join always x y px py array rules Known (length js) most least 0 js e (pairs ss x ts y) (proper_pairs join always x y px py ss ts ps pt) (begin js refl) (λ m h z. omega arith)))
        (λ m f. front_meets x y px py stays m.items m.end f)
      where
        begin : (hs : List Judge) → length js ≡ length hs → Counts join always x y px py array rules Known (length js) most least 0 hs
        begin [] h = omega (arith, h)
        begin (j ∷ hs) h = omega (arith, h)

    first_says : (hs : List Judge) (n : ℕ) (ss : Schemas) (r : MaybeSchema) → length hs ≤ n → n ≤ schema_count ss → agree_by_places hs (first_schemas n ss) no_schema ≡ agree_by_places hs ss r
    first_says [] n ss r l m = refl
    first_says (j ∷ hs) zero ss r l m = absurd (omega (arith, l))
    first_says (j ∷ hs) (suc n) no_more r l m = absurd (omega (arith, m))
    first_says (j ∷ hs) (suc n) (schema s ss) r l m = ap (λ b. j s && b) (first_says hs n ss r (omega (arith, l)) (omega (arith, m)))

    flip : (c r i : Bool) → (c && (i && r)) ≡ ((c && r) && i)
    flip false r i = refl
    flip true true true = refl
    flip true true false = refl
    flip true false true = refl
    flip true false false = refl

    alone_says : (q : Places) (y : MaybeSchema) → (c && front_says (alone rules.max_items q y)) ≡ (Known && items_agree js q y)
    alone_says no_items y = flip c (rules_say rules) true
    alone_says (each_item s) y = flip c (rules_say rules) (items_agree js (each_item s) y)
    alone_says (by_place ss) y = go rules.max_items refl
      where
        cut : (n : ℕ) → rules.max_items ≡ Some n → (t : Bool) → nat_le n (schema_count ss) ≡ t
            → (c && front_says (if t then record { places = by_place (first_schemas n ss); rest = no_schema; max_items = Some n } else record { places = by_place ss; rest = y; max_items = Some n })) ≡ (Known && agree_by_places js ss y)
        cut n q false h = ap (λ o. c && (agree_by_places js ss y && rules_say (sized rules o))) (sym q) ∙ flip c (rules_say rules) (agree_by_places js ss y)
        cut n q true h = ap (λ o. c && (agree_by_places js (first_schemas n ss) no_schema && rules_say (sized rules o))) (sym q) ∙ flip c (rules_say rules) (agree_by_places js (first_schemas n ss) no_schema)
            ∙ and-under Known _ _ (λ d. first_says js n ss y (most n d q) (leb-true n (schema_count ss) h))

        go : (o : Option ℕ) → rules.max_items ≡ o → (c && front_says (cut_to o ss y)) ≡ (Known && agree_by_places js ss y)
        go None q = ap (λ o. c && (agree_by_places js ss y && rules_say (sized rules o))) (sym q) ∙ flip c (rules_say rules) (agree_by_places js ss y)
        go (Some n) q = cut n q (nat_le n (schema_count ss)) refl

    proper_first : (n : ℕ) (ss : Schemas) → ProperAll ss → ProperAll (first_schemas n ss)
    proper_first zero ss p = tt
    proper_first (suc n) no_more p = tt
    proper_first (suc n) (schema s ss) p = (p.0, proper_first n ss p.1)

    proper_alone : (q : Places) (y : MaybeSchema) → ProperPlaces q → ProperMaybe y → ProperFront (alone rules.max_items q y)
    proper_alone no_items y p r = (tt, tt)
    proper_alone (each_item s) y p r = (p, tt)
    proper_alone (by_place ss) y p r = go rules.max_items
      where
        cut : (n : ℕ) (t : Bool) → ProperFront (if t then record { places = by_place (first_schemas n ss); rest = no_schema; max_items = Some n } else record { places = by_place ss; rest = y; max_items = Some n })
        cut n true = (proper_first n ss p, tt)
        cut n false = (p, r)

        go : (o : Option ℕ) → ProperFront (cut_to o ss y)
        go None = (p, r)
        go (Some n) = cut n (nat_le n (schema_count ss))

    all-and : (f g : Judge → Bool) (hs : List Judge) → list_all (λ j. f j && g j) hs ≡ (list_all f hs && list_all g hs)
    all-and f g [] = refl
    all-and f g (j ∷ hs) = ap (λ b. (f j && g j) && b) (all-and f g hs) ∙ pairs-and (f j) (g j) _ _
      where
        pairs-and : (a b c d : Bool) → ((a && b) && (c && d)) ≡ ((a && c) && (b && d))
        pairs-and false b c d = refl
        pairs-and true false false d = refl
        pairs-and true false true d = refl
        pairs-and true true c d = refl

    each_meets : (s t : Schema) → IsProper s → IsProper t → Meets ProperFront (Known && (list_all (λ j. j s) js && list_all (λ j. j t) js)) (λ f. c && front_says f) (each_of_both join array rules (join s t))
    each_meets s t p q = cases (join s t) refl
      where
        one : (o : Outcome Schema) → join s t ≡ o → (j : Judge) → IsJudge join j → Meets IsProper (j s && j t) j o
        one o h j is = subst (λ o. Meets IsProper (j s && j t) j o) h (is.merges s t p q)

        positive : (o : Option ℕ) → rules.min_items ≡ o → is_above_zero o ≡ true → (n : ℕ) × (rules.min_items ≡ Some n) × (0 < n)
        positive None h k = no_no k
        positive (Some n) h k = (n, h, (Decides-ltb 0 n).0 k)

        cases : (o : Outcome Schema) → join s t ≡ o → Meets ProperFront (Known && (list_all (λ j. j s) js && list_all (λ j. j t) js)) (λ f. c && front_says f) (each_of_both join array rules o)
        cases (fault f) h = tt
        cases (never ns) h = marked (array && is_above_zero rules.min_items) refl
          where
            first : (hs : List Judge) → Each (IsJudge join) hs → 1 ≤ length hs → has_way narrowed ns ≡ false → (list_all (λ j. j s) hs && list_all (λ j. j t) hs) ≡ true → ⊥
            first [] g l f k = absurd (omega (arith, l))
            first (j ∷ hs) g l f k = one (never ns) h j g.0 f (and-in (j s) (j t) (and-1 (j s) _ (and-1 (j s && list_all (λ j. j s) hs) _ k)) (and-1 (j t) _ (and-2 (j s && list_all (λ j. j s) hs) _ k)))

            marked : (b : Bool) → (array && is_above_zero rules.min_items) ≡ b → Meets ProperFront (Known && (list_all (λ j. j s) js && list_all (λ j. j t) js)) (λ f. c && front_says f) (noted ns (never_unless b of_clash))
            marked true k = λ f d.
                let m = positive rules.min_items refl (and-2 array _ k) in
                let l = least m.0 (and-1 Known _ d) (and-1 array _ k) m.1 in
                let z = m.2 in
                first js e (omega (arith, l, z)) (no_way-1 narrowed ns _ f) (and-2 Known _ d)
            marked false k = λ f d. yes_no true (no_way-2 narrowed ns _ f) refl
        cases (answer ns u) h = meets-mapped IsProper ProperFront (Known && (list_all (λ j. j s) js && list_all (λ j. j t) js)) (λ u. Known && list_all (λ j. j u) js) (λ f. c && front_says f) (each_front join array rules) (answer ns u)
            (meets-wanted IsProper (Known && list_all (λ j. j s && j t) js) _ (λ u. Known && list_all (λ j. j u) js) (answer ns u) (ap (λ b. Known && b) (all-and (λ j. j s) (λ j. j t) js))
            (meets-in IsProper Known (list_all (λ j. j s && j t) js) (λ u. list_all (λ j. j u) js) (answer ns u)
            (meets-all IsProper (IsJudge join) (λ j. j s && j t) (λ j u. j u) (answer ns u) tt (subst (Always IsProper) h (always s t p q)) (one (answer ns u) h) js e)))
            (λ u p. (p, tt)) (λ u p. flip c (rules_say rules) (list_all (λ j. j u) js))

    two_places_meet : (p : Places) (a : MaybeSchema) (q : Places) (b : MaybeSchema) → ProperPlaces p → ProperMaybe a → ProperPlaces q → ProperMaybe b
        → Meets ProperFront (Known && (items_agree js p a && items_agree js q b)) (λ f. c && front_says f) (two_places join array rules p a q b)
    two_places_meet no_items a q b x1 x2 x3 x4 = meets-exactly ProperFront _ (λ f. c && front_says f) [] (alone rules.max_items q b) (proper_alone q b x3 x4) (alone_says q b)
    two_places_meet (each_item s) a no_items b x1 x2 x3 x4 = meets-exactly ProperFront _ (λ f. c && front_says f) [] (alone rules.max_items (each_item s) a) (proper_alone (each_item s) a x1 x2) (alone_says (each_item s) a ∙ ap (λ b. Known && b) (sym (and-true (list_all (λ j. j s) js))))
    two_places_meet (by_place ss) a no_items b x1 x2 x3 x4 = meets-exactly ProperFront _ (λ f. c && front_says f) [] (alone rules.max_items (by_place ss) a) (proper_alone (by_place ss) a x1 x2) (alone_says (by_place ss) a ∙ ap (λ b. Known && b) (sym (and-true (agree_by_places js ss a))))
    two_places_meet (each_item s) a (each_item t) b x1 x2 x3 x4 = each_meets s t x1 x3
    two_places_meet (each_item s) a (by_place ts) b x1 x2 x3 x4 = meets-wanted ProperFront (Known && (side js ts (or_true b) && side js no_more s)) _ (λ f. c && front_says f) (placed join array rules false ts (or_true b) no_more s)
        (ap (λ t. Known && t) (turned (side js ts (or_true b)) (side js no_more s)) ∙ (λ i. Known && (sym (each_side js s) i && sym (places_side join always js e ts b) i))) (placed_meets false ts (or_true b) no_more s x3 (proper_or_true join always b x4) tt x1)
      where
        turned : (x y : Bool) → (x && y) ≡ (y && x)
        turned true true = refl
        turned true false = refl
        turned false true = refl
        turned false false = refl
    two_places_meet (by_place ss) a (each_item t) b x1 x2 x3 x4 = meets-wanted ProperFront (Known && (side js ss (or_true a) && side js no_more t)) _ (λ f. c && front_says f) (placed join array rules false ss (or_true a) no_more t)
        (λ i. Known && (sym (places_side join always js e ss a) i && sym (each_side js t) i)) (placed_meets false ss (or_true a) no_more t x1 (proper_or_true join always a x2) tt x3)
    two_places_meet (by_place ss) a (by_place ts) b x1 x2 x3 x4 = meets-wanted ProperFront (Known && (side js ss (or_true a) && side js ts (or_true b))) _ (λ f. c && front_says f) (placed join array rules true ss (or_true a) ts (or_true b))
        (λ i. Known && (sym (places_side join always js e ss a) i && sym (places_side join always js e ts b) i)) (placed_meets true ss (or_true a) ts (or_true b) x1 (proper_or_true join always a x2) x3 (proper_or_true join always b x4))

-- ---- the keywords of lists of both sides

-- what the keywords of lists say, by the items' judges and what is said of sizes
abbrev pub contains_say : Bool → List Judge → MaybeSchema → Bool
contains_say here js k = not here || contains_agrees js k

-- `here` says that the value is a list
abbrev pub lists_say : Bool → List Judge → (ListRules → Bool) → Lists → Bool
lists_say here js rules_say no_lists = true
lists_say here js rules_say (lists p a k d) = (items_agree js p a && contains_say here js k) && rules_say d

proper_kept : (ls : Lists) → ProperLists ls → ProperLists (kept_lists ls)
proper_kept no_lists h = h
proper_kept (lists no_items no_schema no_schema c) h = go (no_list_rules c)
  where
    go : (b : Bool) → ProperLists (if b then no_lists else lists no_items no_schema no_schema c)
    go true = tt
    go false = h
proper_kept (lists no_items no_schema (the_schema s) c) h = h
proper_kept (lists no_items (the_schema s) k c) h = h
proper_kept (lists (each_item s) a k c) h = h
proper_kept (lists (by_place ss) a k c) h = h

-- a part that is gone said nothing
kept_say : (here : Bool) (js : List Judge) (rules_say : ListRules → Bool) → ((c : ListRules) → no_list_rules c ≡ true → rules_say c ≡ true) → (ls : Lists) → lists_say here js rules_say (kept_lists ls) ≡ lists_say here js rules_say ls
kept_say here js rules_say silent no_lists = refl
kept_say here js rules_say silent (lists no_items no_schema no_schema c) = go (no_list_rules c) refl
  where
    or-true : (b : Bool) → (b || true) ≡ true
    or-true true = refl
    or-true false = refl

    go : (b : Bool) → no_list_rules c ≡ b → lists_say here js rules_say (if b then no_lists else lists no_items no_schema no_schema c) ≡ ((true && (not here || true)) && rules_say c)
    go true h = sym ((λ i. (or-true (not here) i) && rules_say c) ∙ silent c h)
    go false h = refl
kept_say here js rules_say silent (lists no_items no_schema (the_schema s) c) = refl
kept_say here js rules_say silent (lists no_items (the_schema s) k c) = refl
kept_say here js rules_say silent (lists (each_item s) a k c) = refl
kept_say here js rules_say silent (lists (by_place ss) a k c) = refl

module _ (join : Schema → Schema → Outcome Schema) (always : (a b : Schema) → IsProper a → IsProper b → Always IsProper (join a b))
    (js : List Judge) (e : Each (IsJudge join) js) (here : Bool) (array : Bool) (c : Bool) (rules_say : ListRules → Bool)
    (joined_say : (a b : ListRules) → rules_say (joined_rules a b) ≡ (rules_say a && rules_say b))
    (crossed_say : (a : ListRules) → c ≡ true → array ≡ true → sizes_cross a.min_items a.max_items ≡ true → rules_say a ≡ true → ⊥)
    (most : (a : ListRules) (n : ℕ) → rules_say a ≡ true → a.max_items ≡ Some n → length js ≤ n)
    (least : (a : ListRules) (n : ℕ) → c ≡ true → array ≡ true → rules_say a ≡ true → a.min_items ≡ Some n → n ≤ length js)
    (limited : (a : ListRules) (k : ℕ) → ((m : ℕ) → a.max_items ≡ Some m → k ≤ m) → rules_say (sized a (Some k)) ≡ (rules_say a && nat_le (length js) k))
    (silent : (a : ListRules) → no_list_rules a ≡ true → rules_say a ≡ true)
  where
    any_same : (hs : List Judge) → Each (IsJudge join) hs → (s t : Schema) → same_schemas s t ≡ true → list_any (λ j. j s) hs ≡ list_any (λ j. j t) hs
    any_same [] g s t h = refl
    any_same (j ∷ hs) g s t h = λ i. g.0.of_same s t h i || any_same hs g.1 s t h i

    contains_meet : (a b : MaybeSchema) → ProperMaybe a → ProperMaybe b → Meets ProperMaybe (contains_say here js a && contains_say here js b) (contains_say here js) (two_contains a b)
    contains_meet no_schema b p q = meets-exactly ProperMaybe _ (contains_say here js) [] b q (sym (ap (λ t. t && contains_say here js b) (or-true (not here))))
      where
        or-true : (b : Bool) → (b || true) ≡ true
        or-true true = refl
        or-true false = refl
    contains_meet (the_schema s) no_schema p q = meets-exactly ProperMaybe _ (contains_say here js) [] (the_schema s) p (sym (ap (λ t. contains_say here js (the_schema s) && t) (or-true (not here)) ∙ and-true _))
      where
        or-true : (b : Bool) → (b || true) ≡ true
        or-true true = refl
        or-true false = refl
    contains_meet (the_schema s) (the_schema t) p q = cases (same_schemas s t) refl
      where
        twice : (a b : Bool) → a ≡ b → a ≡ (a && b)
        twice true b h = h
        twice false b h = refl

        cases : (b : Bool) → same_schemas s t ≡ b → Meets ProperMaybe (contains_say here js (the_schema s) && contains_say here js (the_schema t)) (contains_say here js) (if b then answer [] (the_schema s) else never_unless false of_clash)
        cases true h = meets-exactly ProperMaybe _ (contains_say here js) [] (the_schema s) p (twice _ _ (ap (λ b. not here || b) (any_same js e s t h)))
        cases false h = meets-never ProperMaybe _ (contains_say here js) false of_clash (λ k t. no_no k)

    rules_meet : (d : Bool) → (d ≡ true → c ≡ true) → (a b : ListRules) → Meets (λ r. Unit {0}) (d && (rules_say a && rules_say b)) (λ r. d && rules_say r) (two_rules array a b)
    rules_meet d known a b = cases (sizes_cross (joined_rules a b).min_items (joined_rules a b).max_items) refl
      where
        cases : (t : Bool) → sizes_cross (joined_rules a b).min_items (joined_rules a b).max_items ≡ t → Meets (λ r. Unit {0}) (d && (rules_say a && rules_say b)) (λ r. d && rules_say r) (if t then never_unless array of_clash else answer [] (joined_rules a b))
        cases true h = meets-never (λ r. Unit {0}) _ (λ r. d && rules_say r) array of_clash (λ k t. crossed_say (joined_rules a b) (known (and-1 d _ t)) k h (joined_say a b ∙ and-2 d _ t))
        cases false h = meets-exactly (λ r. Unit {0}) _ (λ r. d && rules_say r) [] (joined_rules a b) tt (ap (λ t. d && t) (joined_say a b))

    pub two_lists_parts_meet : (ls ms : Lists) → ProperLists ls → ProperLists ms → Meets ProperLists (c && (lists_say here js rules_say ls && lists_say here js rules_say ms)) (λ o. c && lists_say here js rules_say o) (two_lists_parts join array ls ms)
    two_lists_parts_meet no_lists ms p q = meets-exactly ProperLists _ (λ o. c && lists_say here js rules_say o) [] ms q refl
    two_lists_parts_meet (lists p x a r) no_lists u v = meets-exactly ProperLists _ (λ o. c && lists_say here js rules_say o) [] (lists p x a r) u (ap (λ b. c && b) (sym (and-true _)))
    two_lists_parts_meet (lists p x a r) (lists q y b s) u v =
        meets-wanted ProperLists (c && ((contains_say here js a && contains_say here js b) && ((rules_say r && rules_say s) && (items_agree js p x && items_agree js q y)))) _ (λ o. c && lists_say here js rules_say o) (two_lists_parts join array (lists p x a r) (lists q y b s))
        (ap (λ t. c && t) (turn (contains_say here js a) (contains_say here js b) (rules_say r) (rules_say s) (items_agree js p x) (items_agree js q y)))
        (meets-step ProperMaybe ProperLists c (contains_say here js a && contains_say here js b) ((rules_say r && rules_say s) && (items_agree js p x && items_agree js q y)) (contains_say here js) (λ o. c && lists_say here js rules_say o) (two_contains a b)
        (λ k. and_then (two_rules array r s) (λ d. mapped (with_front k d) (two_places join array d p x q y)))
        (meets-in ProperMaybe c (contains_say here js a && contains_say here js b) (contains_say here js) (two_contains a b) (contains_meet a b u.2 v.2))
        (λ k pk. meets-step (λ d. Unit {0}) ProperLists (c && contains_say here js k) (rules_say r && rules_say s) (items_agree js p x && items_agree js q y) rules_say (λ o. c && lists_say here js rules_say o) (two_rules array r s)
        (λ d. mapped (with_front k d) (two_places join array d p x q y))
        (rules_meet (c && contains_say here js k) (and-1 c _) r s)
        (λ d pd. meets-mapped (ProperFront join always js e rules_say array d (c && contains_say here js k) (most' k d) (least' k d) (limited d)) ProperLists
        (((c && contains_say here js k) && rules_say d) && (items_agree js p x && items_agree js q y))
        (λ f. (c && contains_say here js k) && front_says join always js e rules_say array d (c && contains_say here js k) (most' k d) (least' k d) (limited d) f)
        (λ o. c && lists_say here js rules_say o) (with_front k d) (two_places join array d p x q y)
        (two_places_meet join always js e rules_say array d (c && contains_say here js k) (most' k d) (least' k d) (limited d) p x q y u.0 u.1 v.0 v.1)
        (λ f g. proper_kept (lists f.places f.rest k (record d { max_items = f.max_items })) (g.0, g.1, pk, tt))
        (λ f g. ap (λ t. c && t) (kept_say here js rules_say silent (lists f.places f.rest k (record d { max_items = f.max_items }))) ∙ spread c (contains_say here js k) (items_agree js f.places f.rest) (rules_say (sized d f.max_items))))))
      where
        most' : (k : MaybeSchema) (d : ListRules) (n : ℕ) → ((c && contains_say here js k) && rules_say d) ≡ true → d.max_items ≡ Some n → length js ≤ n
        most' k d n h = most d n (and-2 (c && contains_say here js k) _ h)

        least' : (k : MaybeSchema) (d : ListRules) (n : ℕ) → ((c && contains_say here js k) && rules_say d) ≡ true → array ≡ true → d.min_items ≡ Some n → n ≤ length js
        least' k d n h t = least d n (and-1 c _ (and-1 (c && contains_say here js k) _ h)) t (and-2 (c && contains_say here js k) _ h)

        spread : (c k i r : Bool) → (c && ((i && k) && r)) ≡ ((c && k) && (i && r))
        spread false k i r = refl
        spread true true true r = refl
        spread true true false r = refl
        spread true false true r = refl
        spread true false false r = refl

        turn : (k l r s i o : Bool) → ((k && l) && ((r && s) && (i && o))) ≡ (((i && k) && r) && ((o && l) && s))
        turn true true true true true true = refl
        turn true true true true true false = refl
        turn true true true true false true = refl
        turn true true true true false false = refl
        turn true true true false true true = refl
        turn true true true false true false = refl
        turn true true true false false true = refl
        turn true true true false false false = refl
        turn true true false true true true = refl
        turn true true false true true false = refl
        turn true true false true false true = refl
        turn true true false true false false = refl
        turn true true false false true true = refl
        turn true true false false true false = refl
        turn true true false false false true = refl
        turn true true false false false false = refl
        turn true false true true true true = refl
        turn true false true true true false = refl
        turn true false true true false true = refl
        turn true false true true false false = refl
        turn true false true false true true = refl
        turn true false true false true false = refl
        turn true false true false false true = refl
        turn true false true false false false = refl
        turn true false false true true true = refl
        turn true false false true true false = refl
        turn true false false true false true = refl
        turn true false false true false false = refl
        turn true false false false true true = refl
        turn true false false false true false = refl
        turn true false false false false true = refl
        turn true false false false false false = refl
        turn false true true true true true = refl
        turn false true true true true false = refl
        turn false true true true false true = refl
        turn false true true true false false = refl
        turn false true true false true true = refl
        turn false true true false true false = refl
        turn false true true false false true = refl
        turn false true true false false false = refl
        turn false true false true true true = refl
        turn false true false true true false = refl
        turn false true false true false true = refl
        turn false true false true false false = refl
        turn false true false false true true = refl
        turn false true false false true false = refl
        turn false true false false false true = refl
        turn false true false false false false = refl
        turn false false true true true true = refl
        turn false false true true true false = refl
        turn false false true true false true = refl
        turn false false true true false false = refl
        turn false false true false true true = refl
        turn false false true false true false = refl
        turn false false true false false true = refl
        turn false false true false false false = refl
        turn false false false true true true = refl
        turn false false false true true false = refl
        turn false false false true false true = refl
        turn false false false true false false = refl
        turn false false false false true true = refl
        turn false false false false true false = refl
        turn false false false false false true = refl
        turn false false false false false false = refl
