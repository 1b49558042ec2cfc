-- More levels leave what does not come of too few, and sides that are too deep are refused.
use Rattle.std.proofs.Common.{◌≡◌, ℕ, zero, suc, ◌≤◌, List, [], ◌∷◌, Bool, true, false, Option, Some, None, inl, inr, refl, ap, ◌∙◌, arith}
use Rattle.schema_defs.specs.Location.{Location}
use Rattle.schema_defs.specs.Schema.{Plain, Schema, boolean, object, Same, Lists, Named, Document}
use Rattle.schema_defs.specs.Admits.{target_location}
use Rattle.merge_defs.specs.Outcome.{Outcome, fault, never, answer, depth, unsupported}
use Rattle.merge_defs.specs.Merge.{Merger, less_layer}
use Rattle.merge_walks.specs.Carried.{own_walk, on_walk, to_target, has_more_steps, opened, same_inside}
use Rattle.merge_walks.specs.Made.{longer, settled, on_made}
use Rattle.merge_walks.specs.Walked.{walk_of, walk_left, unless_deep, join_target, join_objects, join_sides, left_side, walked_join, walked_less, walked_with, parts_within, join_by_walks, less_by_walks}
use Rattle.merge_laws.proofs.Growing.{Ties, through, references_stay, less_stays, with_subschemas_stay, schemas_stay}
use Rattle.walk_laws.specs.Levels.{StaysWithMore, MoreLevelsStay, DeepSidesAreRefused}

module _ (Q : List Location → Type 0) where
  unless-ties : (most : ℕ) (s : Schema) (k l : Schema → Outcome Schema) → Ties Q (k (opened s)) (l (opened s)) → Ties Q (unless_deep most s k) (unless_deep most s l)
  unless-ties most s k l h = cases (has_more_steps most (walk_of s))
    where
      cases : (b : Bool) → Ties Q {A = Schema} (elim b [ true ↦ fault (depth (walk_of s)) | false ↦ k (opened s) ]) (elim b [ true ↦ fault (depth (walk_of s)) | false ↦ l (opened s) ])
      cases true = inr refl
      cases false = h

  module _ (d : Document) (most : ℕ) (join' join'' : Schema → Schema → Outcome Schema) (more : (a b : Schema) → Ties Q (join' a b) (join'' a b))
      (less' less'' : Schema → Schema → Outcome Schema) (fewer : (a b : Schema) → Ties Q (less' a b) (less'' a b)) where
    objects-tie : (p : Plain) (ss : Same) (ls : Lists) (ns : Named) (q : Plain) (tt' : Same) (ms : Lists) (os : Named) (f g : Option (List ℕ))
        → Ties Q (join_objects d most join' less' p ss ls ns q tt' ms os f g) (join_objects d most join'' less'' p ss ls ns q tt' ms os f g)
    objects-tie p ss ls ns q tt' ms os None None = through Q (settled (longer (own_walk p) (own_walk q))) _ _
        (references_stay Q (on_made (longer (own_walk p) (own_walk q)) join') (on_made (longer (own_walk p) (own_walk q)) join'') (λ a b. more (settled (longer (own_walk p) (own_walk q)) a) (settled (longer (own_walk p) (own_walk q)) b)) (on_made (longer (own_walk p) (own_walk q)) less') (on_made (longer (own_walk p) (own_walk q)) less'') (λ a b. fewer (settled (longer (own_walk p) (own_walk q)) a) (settled (longer (own_walk p) (own_walk q)) b))
        d p ss ls ns q tt' ms os None None)
    objects-tie p ss ls ns q tt' ms os None (Some g) = through Q (settled (own_walk q)) _ _
        (references_stay Q (join_target d most join' less' (own_walk q) g) (join_target d most join'' less'' (own_walk q) g) (λ a b. more (on_walk (to_target (own_walk q) (target_location d g)) a) b) less' less'' fewer d p ss ls ns q tt' ms os None (Some g))
    objects-tie p ss ls ns q tt' ms os (Some f) g = through Q (settled (own_walk p)) _ _
        (references_stay Q (join_target d most join' less' (own_walk p) f) (join_target d most join'' less'' (own_walk p) f) (λ a b. more (on_walk (to_target (own_walk p) (target_location d f)) a) b) less' less'' fewer d p ss ls ns q tt' ms os (Some f) g)

    sides-tie : (a b : Schema) → Ties Q (join_sides d most join' less' a b) (join_sides d most join'' less'' a b)
    sides-tie (boolean false) b = refl
    sides-tie (boolean true) b = refl
    sides-tie (object p ss ls ns) (boolean false) = refl
    sides-tie (object p ss ls ns) (boolean true) = refl
    sides-tie (object p ss ls ns) (object q tt' ms os) = objects-tie p ss ls ns q tt' ms os p.reference q.reference

    pub joins-tie : (a b : Schema) → Ties Q (walked_join d most join' less' a b) (walked_join d most join'' less'' a b)
    joins-tie a b =
        unless-ties most a (λ a'. unless_deep most b (join_sides d most join' less' a')) (λ a'. unless_deep most b (join_sides d most join'' less'' a'))
        (unless-ties most b (join_sides d most join' less' (opened a)) (join_sides d most join'' less'' (opened a)) (sides-tie (opened a) (opened b)))

    pub leaves-tie : (a b : Schema) → Ties Q (walked_less d most join' less' a b) (walked_less d most join'' less'' a b)
    leaves-tie a b =
        unless-ties most a (λ a'. unless_deep most b (λ b'. less_layer d join' less' (left_side b' (walk_left a b) a') b'))
        (λ a'. unless_deep most b (λ b'. less_layer d join'' less'' (left_side b' (walk_left a b) a') b'))
        (unless-ties most b (λ b'. less_layer d join' less' (left_side b' (walk_left a b) (opened a)) b')
        (λ b'. less_layer d join'' less'' (left_side b' (walk_left a b) (opened a)) b')
        (less_stays Q join' join'' more less' less'' fewer d (left_side (opened b) (walk_left a b) (opened a)) (opened b)))

    pub with-ties : (b : Schema) (ss : Same) → Ties Q (walked_with d most join' less' b ss) (walked_with d most join'' less'' b ss)
    with-ties b ss = through Q (settled (walk_of b)) _ _
        (with_subschemas_stay Q (on_made (walk_of b) join') (on_made (walk_of b) join'') (λ x y. more (settled (walk_of b) x) (settled (walk_of b) y)) (on_made (walk_of b) less') (on_made (walk_of b) less'') (λ x y. fewer (settled (walk_of b) x) (settled (walk_of b) y)) d (opened b) (same_inside (walk_of b) ss))

-- ---- by levels

-- Depth without a walk
abbrev TooFew : List Location → Type 0
TooFew w = w ≡ []

record Grows (a b : Merger) : Type 0 where
  joins : (s t : Schema) → Ties TooFew (a.join s t) (b.join s t)
  leaves : (s t : Schema) → Ties TooFew (a.less s t) (b.less s t)

grows : (d : Document) (most m n : ℕ) → m ≤ n → Grows (parts_within d most m) (parts_within d most n)
grows d most zero n h = record { joins = λ s t. inl refl; leaves = λ s t. inl refl }
grows d most (suc m) zero h = absurd (omega (arith, h))
grows d most (suc m) (suc n) h =
    let g : Grows (parts_within d most m) (parts_within d most n) = grows d most m n (omega (arith, h)) in
    record {
      joins = joins-tie TooFew d most (parts_within d most m).join (parts_within d most n).join g.joins (parts_within d most m).less (parts_within d most n).less g.leaves;
      leaves = leaves-tie TooFew d most (parts_within d most m).join (parts_within d most n).join g.joins (parts_within d most m).less (parts_within d most n).less g.leaves;
    }

stays : (o u : Outcome Schema) → Ties TooFew o u → StaysWithMore o u
stays (fault (depth [])) u h = tt
stays (fault (depth (l ∷ w))) u (inl e) = absurd (not_empty e)
  where
    not_empty : (l ∷ w) ≡ [] → ⊥
    not_empty e = cc
stays (fault (depth (l ∷ w))) u (inr e) = e
stays (fault (unsupported x)) u h = h
stays (never ns) u h = h
stays (answer ns s) u h = h

pub more_levels_stay : MoreLevelsStay
more_levels_stay d most m n h =
    let g : Grows (parts_within d most m) (parts_within d most n) = grows d most m n h in
    let joined : ((a b : Schema) → Ties TooFew (join_by_walks d most m a b) (join_by_walks d most n a b)) =
    joins-tie TooFew d most (parts_within d most m).join (parts_within d most n).join g.joins (parts_within d most m).less (parts_within d most n).less g.leaves in
    let left : ((a b : Schema) → Ties TooFew (less_by_walks d most m a b) (less_by_walks d most n a b)) =
    leaves-tie TooFew d most (parts_within d most m).join (parts_within d most n).join g.joins (parts_within d most m).less (parts_within d most n).less g.leaves in
    record {
      joins = λ a b. stays _ _ (joined a b);
      leaves = λ a b. stays _ _ (left a b);
      with_all = λ b ss. stays _ _ (with-ties TooFew d most (parts_within d most m).join (parts_within d most n).join g.joins (parts_within d most m).less (parts_within d most n).less g.leaves b ss);
      gathers = λ ss. stays _ _ (schemas_stay TooFew (join_by_walks d most m) (join_by_walks d most n) joined (less_by_walks d most m) (less_by_walks d most n) left ss);
    }

-- ---- sides

deep : (most : ℕ) (s : Schema) (k : Schema → Outcome Schema) → has_more_steps most (walk_of s) ≡ true → unless_deep most s k ≡ fault (depth (walk_of s))
deep most s k e = ap (λ b. elim b [ true ↦ fault (depth (walk_of s)) | false ↦ k (opened s) ]) e

not_deep : (most : ℕ) (s : Schema) (k : Schema → Outcome Schema) → has_more_steps most (walk_of s) ≡ false → unless_deep most s k ≡ k (opened s)
not_deep most s k e = ap (λ b. elim b [ true ↦ fault (depth (walk_of s)) | false ↦ k (opened s) ]) e

module _ (d : Document) (most : ℕ) (join' less' : Schema → Schema → Outcome Schema) (a b : Schema) where
  abbrev Join_rest : Schema → Outcome Schema
  Join_rest a' = unless_deep most b (join_sides d most join' less' a')

  abbrev Less_last : Schema → Schema → Outcome Schema
  Less_last a' b' = less_layer d join' less' (left_side b' (walk_left a b) a') b'

  abbrev Less_rest : Schema → Outcome Schema
  Less_rest a' = unless_deep most b (Less_last a')

  join-left : has_more_steps most (walk_of a) ≡ true → walked_join d most join' less' a b ≡ fault (depth (walk_of a))
  join-left e = deep most a Join_rest e

  less-left : has_more_steps most (walk_of a) ≡ true → walked_less d most join' less' a b ≡ fault (depth (walk_of a))
  less-left e = deep most a Less_rest e

  join-right : has_more_steps most (walk_of a) ≡ false → has_more_steps most (walk_of b) ≡ true → walked_join d most join' less' a b ≡ fault (depth (walk_of b))
  join-right e f = not_deep most a Join_rest e ∙ deep most b (join_sides d most join' less' (opened a)) f

  less-right : has_more_steps most (walk_of a) ≡ false → has_more_steps most (walk_of b) ≡ true → walked_less d most join' less' a b ≡ fault (depth (walk_of b))
  less-right e f = not_deep most a Less_rest e ∙ deep most b (Less_last (opened a)) f

pub deep_sides_are_refused : DeepSidesAreRefused
deep_sides_are_refused d most n a b = record {
  left = λ e. (join-left d most (parts_within d most n).join (parts_within d most n).less a b e, less-left d most (parts_within d most n).join (parts_within d most n).less a b e);
  right = λ e f. (join-right d most (parts_within d most n).join (parts_within d most n).less a b e f, less-right d most (parts_within d most n).join (parts_within d most n).less a b e f);
}
