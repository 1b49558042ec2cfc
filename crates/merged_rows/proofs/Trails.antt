-- Places and walks by the steps of a trail.
use Rattle.std.proofs.Common.{◌≡◌, ℕ, zero, suc, ◌+◌, ◌<◌, ◌≤◌, length, drop, drop-cons, get_or, slice_get, arith, List, [], ◌∷◌, ◌++◌, false, Some, None, refl, sym, ap, ◌∙◌, append_assoc, append-nil}
use Rattle.schema_defs.specs.Location.{Location}
use Rattle.merge_walks.specs.Carried.{Walk, last_of, to_child}
use Rattle.row_findings.specs.declared.part.Steps.{Steps}
use Rattle.row_findings.specs.View.{steps_view}
use Rattle.merged_rows.specs.declared.start.Start.{Start}
use Rattle.merged_rows.specs.Starts.{walk_by, trail_steps, path_by, made_by}

pub name_behind : (m o p : Location) (k j : List ℕ) → o ≡ m ++ k ∷ [] → p ≡ o ++ j ∷ [] → p ≡ m ++ k ∷ j ∷ []
name_behind m o p k j e g = g ∙ ap (λ o. o ++ j ∷ []) e ∙ append_assoc m (k ∷ []) (j ∷ [])

pub no_place : (m p : Location) → p ≡ m → p ≡ m ++ []
no_place m p e = e ∙ sym (append-nil m)

pub two_places : (m o p : Location) (a b c e : List ℕ) → o ≡ m ++ a ∷ b ∷ [] → p ≡ o ++ c ∷ e ∷ [] → p ≡ m ++ a ∷ b ∷ c ∷ e ∷ []
two_places m o p a b c e g h = h ∙ ap (λ o. o ++ c ∷ e ∷ []) g ∙ append_assoc m (a ∷ b ∷ []) (c ∷ e ∷ [])

-- ---- turns by the items of a trail

pub drop_past : {X : Type 0} → (xs : List X) (i : ℕ) → length xs ≤ i → drop i xs ≡ []
drop_past [] zero h = refl
drop_past [] (suc i) h = refl
drop_past (x ∷ xs) zero h = absurd (omega (arith, h))
drop_past (x ∷ xs) (suc i) h = drop_past xs i (omega (arith, h))

pub next_steps : (xs : List Steps) (i : ℕ) (d : Steps) → i < length xs → drop i xs ≡ get_or xs i d ∷ drop (i + 1) xs
next_steps xs i d h = drop-cons xs i d h ∙ ap (λ n. get_or xs i d ∷ drop n xs) (let k : suc i ≡ i + 1 = omega arith in k)

pub walk_turn : (ks : List Steps) (i : ℕ) (d : Steps) (w w' whole : Walk) → i < length ks → w' ≡ to_child w (steps_view (get_or ks i d)) → walk_by w (drop i ks) ≡ whole → walk_by w' (drop (i + 1) ks) ≡ whole
walk_turn ks i d w w' whole h e g = ap (λ w. walk_by w (drop (i + 1) ks)) e ∙ ap (walk_by w) (sym (next_steps ks i d h)) ∙ g

pub walk_end : (ks all : List Steps) (i : ℕ) (w v : Walk) → length ks ≤ i → ks ≡ all → walk_by w (drop i ks) ≡ walk_by v ks → w ≡ walk_by v all
walk_end ks all i w v h e g = ap (walk_by w) (sym (drop_past ks i h)) ∙ g ∙ ap (walk_by v) e

pub place_turn : (ks : List Steps) (i : ℕ) (d : Steps) (m m' whole : Location) → i < length ks → m' ≡ m ++ steps_view (get_or ks i d) → m ++ trail_steps (drop i ks) ≡ whole → m' ++ trail_steps (drop (i + 1) ks) ≡ whole
place_turn ks i d m m' whole h e g =
    ap (λ m. m ++ trail_steps (drop (i + 1) ks)) e ∙ append_assoc m (steps_view (get_or ks i d)) (trail_steps (drop (i + 1) ks)) ∙ ap (λ rest. m ++ trail_steps rest) (sym (next_steps ks i d h)) ∙ g

pub place_end : (ks all : List Steps) (i : ℕ) (l m : Location) → length ks ≤ i → ks ≡ all → m ++ trail_steps (drop i ks) ≡ l ++ trail_steps ks → m ≡ l ++ trail_steps all
place_end ks all i l m h e g = sym (append-nil m) ∙ ap (λ rest. m ++ trail_steps rest) (sym (drop_past ks i h)) ∙ g ∙ ap (λ ks. l ++ trail_steps ks) e

-- ---- the last location

last_behind : (w : Walk) (l : Location) → last_of (w ++ l ∷ []) ≡ l
last_behind [] l = refl
last_behind (m ∷ []) l = refl
last_behind (m ∷ n ∷ w) l = last_behind (n ∷ w) l

pub last_of_child : (w : Walk) (k : Location) → last_of (to_child w k) ≡ last_of w ++ k
last_of_child w k = last_behind w (last_of w ++ k)

pub last_by : (w : Walk) (ks : List Steps) → last_of (walk_by w ks) ≡ last_of w ++ trail_steps ks
last_by w [] = sym (append-nil (last_of w))
last_by w (k ∷ ks) = last_by (to_child w (steps_view k)) ks ∙ ap (λ l. l ++ trail_steps ks) (last_of_child w (steps_view k)) ∙ append_assoc (last_of w) (steps_view k) (trail_steps ks)

-- ---- whether a trail has steps

pub at_start : (t : Start) (ks : List Steps) (l : Location) → slice_get ks 0 ≡ None → l ≡ t.path → l ≡ path_by t ks
at_start t [] l h e = e
at_start t (k ∷ ks) l h e = cc

pub at_end : (t : Start) (ks : List Steps) (k : Steps) (l m : Location) → slice_get ks 0 ≡ Some k → m ≡ last_of t.walk → l ≡ m ++ trail_steps ks → l ≡ path_by t ks
at_end t [] k l m h g e = cc
at_end t (j ∷ ks) k l m h g e = e ∙ ap (λ m. m ++ trail_steps (j ∷ ks)) g ∙ sym (last_by t.walk (j ∷ ks))

pub made_at_start : (t : Start) (ks : List Steps) → slice_get ks 0 ≡ None → t.made ≡ made_by t ks
made_at_start t [] h = refl
made_at_start t (k ∷ ks) h = cc

pub made_at_end : (t : Start) (ks : List Steps) (k : Steps) → slice_get ks 0 ≡ Some k → false ≡ made_by t ks
made_at_end t [] k h = cc
made_at_end t (j ∷ ks) k h = refl

-- ---- one step more

pub walk_further : (w : Walk) (ks : List Steps) (k : Steps) → walk_by w (ks ++ k ∷ []) ≡ to_child (walk_by w ks) (steps_view k)
walk_further w [] k = refl
walk_further w (j ∷ ks) k = walk_further (to_child w (steps_view j)) ks k

pub path_further : (t : Start) (ks : List Steps) (k : Steps) → path_by t (ks ++ k ∷ []) ≡ last_of (walk_by t.walk ks) ++ steps_view k
path_further t [] k = last_of_child t.walk (steps_view k)
path_further t (j ∷ ks) k = ap last_of (walk_further (to_child t.walk (steps_view j)) ks k) ∙ last_of_child (walk_by (to_child t.walk (steps_view j)) ks) (steps_view k)

pub made_further : (t : Start) (ks : List Steps) (k : Steps) → made_by t (ks ++ k ∷ []) ≡ false
made_further t [] k = refl
made_further t (j ∷ ks) k = refl
