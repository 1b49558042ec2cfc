-- A turn of the walk, and how it ends.
use Rattle.std.proofs.Common.{◌≡◌, suc, List, [], ◌∷◌, ◌++◌, Bool, true, false, cond, refl, sym, ap, ◌∙◌, append_assoc}
use Rattle.std.specs.List.{list_any}
use Rattle.std.proofs.lemmas.List.{map-append}
use Rattle.evolve_defs.specs.Forms.{Table}
use Rattle.evolve_defs.specs.Steps.{Broken}
use Rattle.evolve_defs.specs.Spots.{Spots, spots_turn}
use Rattle.evolve_defs.specs.Walk.{Turn, stops, goes, Walked, covered, broken_at, after, visit, walk}
use Rattle.evolve_rows.specs.TurnView.{pair_view, pairs_view}
use Rattle.evolve_rows.specs.declared.turn.Pair.{Pair}
use Rattle.evolve_walks.specs.Same.{same_spots}
use Rattle.evolve_walks.specs.Walking.{left_view, unseen, EndsAs, LeadsTo}
use Rattle.evolve_walks.proofs.Found.{one_more}

-- ---- the pairs that are left

pub put_turn : (ps qs : List Pair) (p : Pair) (ls ms : List Pair) (w : List Spots) → ps ≡ qs ++ p ∷ [] → ms ≡ ls ++ p ∷ [] → pairs_view ps ++ left_view ls ≡ w → pairs_view qs ++ left_view ms ≡ w
put_turn ps qs p ls ms w h n was =
    ap (λ zs. pairs_view qs ++ left_view zs) n
    ∙ ap (λ zs. pairs_view qs ++ zs) (one_more ls p)
    ∙ sym (append_assoc (pairs_view qs) (pair_view p ∷ []) (left_view ls))
    ∙ ap (λ zs. zs ++ left_view ls) (sym (map-append pair_view qs (p ∷ [])))
    ∙ ap (λ zs. pairs_view zs ++ left_view ls) (sym h)
    ∙ was

next_of : (seen : List Spots) (ps qs : List Pair) (p : Pair) → ps ≡ qs ++ p ∷ [] → unseen seen (left_view ps) ≡ cond (list_any (same_spots (pair_view p)) seen) (unseen seen (left_view qs)) (pair_view p ∷ left_view qs)
next_of seen ps qs p h = ap (λ zs. unseen seen (left_view zs)) h ∙ ap (unseen seen) (one_more qs p)

pub one_unseen : (seen : List Spots) (ps qs : List Pair) (p : Pair) (b : Bool) (w : List Spots) → ps ≡ qs ++ p ∷ [] → b ≡ list_any (same_spots (pair_view p)) seen → b ≡ false
    → unseen seen (left_view ps) ≡ w → pair_view p ∷ left_view qs ≡ w
one_unseen seen ps qs p b w h e f was =
    ap (λ c. cond c (unseen seen (left_view qs)) (pair_view p ∷ left_view qs)) (sym f ∙ e) ∙ sym (next_of seen ps qs p h) ∙ was

pub one_seen : (seen : List Spots) (ps qs : List Pair) (p : Pair) (b : Bool) (w : List Spots) → ps ≡ qs ++ p ∷ [] → b ≡ list_any (same_spots (pair_view p)) seen → b ≡ true
    → unseen seen (left_view ps) ≡ w → unseen seen (left_view qs) ≡ w
one_seen seen ps qs p b w h e f was =
    ap (λ c. cond c (unseen seen (left_view qs)) (pair_view p ∷ left_view qs)) (sym f ∙ e) ∙ sym (next_of seen ps qs p h) ∙ was

-- ---- the walk

module _ (old new : Table) where
  abbrev next : Spots → Turn Spots
  next p = spots_turn old new p

  -- the walk at the pairs from the first that wasn't entered on
  abbrev entered : (List Spots → List Spots → Walked Spots) → List Spots → List Spots → Walked Spots
  entered w seen [] = covered
  entered w seen (p ∷ ps) = after same_spots next w seen p ps (next p)

  visited_by : (w : List Spots → List Spots → Walked Spots) (seen : List Spots) (p : Spots) (ps : List Spots) (b : Bool) → visit same_spots next w seen ps ≡ entered w seen (unseen seen ps)
      → cond b (visit same_spots next w seen ps) (after same_spots next w seen p ps (next p)) ≡ entered w seen (cond b (unseen seen ps) (p ∷ ps))
  visited_by w seen p ps true h = h
  visited_by w seen p ps false h = refl

  visited : (w : List Spots → List Spots → Walked Spots) (seen left : List Spots) → visit same_spots next w seen left ≡ entered w seen (unseen seen left)
  visited w seen [] = refl
  visited w seen (p ∷ ps) = visited_by w seen p ps (list_any (same_spots p) seen) (visited w seen ps)

pub begins : (old new : Table) (from : Spots) (seen left : List Spots) → seen ≡ [] → left ≡ from ∷ [] → LeadsTo old new from seen left
unfolding LeadsTo EndsAs
begins old new from seen left s l = λ k w h. (k, (λ i. walk same_spots (next old new) k (sym s i) (sym l i)) ∙ h)

pub goes_on : (old new : Table) (from : Spots) (seen left more later : List Spots) (p : Spots) (ps qs : List Spots) → p ∷ ps ≡ unseen seen left → goes qs ≡ spots_turn old new p → more ≡ p ∷ seen
    → later ≡ qs ++ ps → LeadsTo old new from seen left → LeadsTo old new from more later
unfolding LeadsTo EndsAs
goes_on old new from seen left more later p ps qs u t s l was =
    λ k w h. was (suc k) w
    (visited old new (walk same_spots (next old new) k) seen left ∙ ap (entered old new (walk same_spots (next old new) k) seen) (sym u)
    ∙ ap (after same_spots (next old new) (walk same_spots (next old new) k) seen p ps) (sym t) ∙ (λ i. walk same_spots (next old new) k (sym s i) (sym l i)) ∙ h)

pub is_covered : (old new : Table) (from : Spots) (seen left : List Spots) → [] ≡ unseen seen left → LeadsTo old new from seen left → EndsAs old new from covered
unfolding LeadsTo EndsAs
is_covered old new from seen left u was = was 1 covered (visited old new (walk same_spots (next old new) 0) seen left ∙ ap (entered old new (walk same_spots (next old new) 0) seen) (sym u))

pub is_broken : (old new : Table) (from : Spots) (seen left : List Spots) (p : Spots) (ps : List Spots) (e : Broken) → p ∷ ps ≡ unseen seen left → stops e ≡ spots_turn old new p
    → LeadsTo old new from seen left → EndsAs old new from (broken_at p e)
unfolding LeadsTo EndsAs
is_broken old new from seen left p ps e u t was =
    was 1 (broken_at p e)
    (visited old new (walk same_spots (next old new) 0) seen left ∙ ap (entered old new (walk same_spots (next old new) 0) seen) (sym u)
    ∙ ap (after same_spots (next old new) (walk same_spots (next old new) 0) seen p ps) (sym t))
