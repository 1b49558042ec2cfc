-- Merges by walks are those that count steps, walks aside, where Depth does not come.
use Rattle.std.proofs.Common.{ℕ, zero, suc, List, Bool, true, false, Option, Some, None, refl, ap, sym, ◌∙◌, subst}
use Rattle.schema_defs.specs.Schema.{Plain, Schema, boolean, object, Same, Lists, Named, Document}
use Rattle.schema_defs.specs.Admits.{target_location}
use Rattle.schema_defs.specs.Mapped.{unwalked}
use Rattle.merge_defs.specs.Outcome.{Outcome, fault, never, answer, depth, unsupported, mapped}
use Rattle.merge_defs.specs.Merge.{by_references, join_layer, less_layer, with_subschemas_layer, below, join, less}
use Rattle.merge_walks.specs.Carried.{Walk, own_walk, on_walk, to_target, has_more_steps, opened, same_inside}
use Rattle.merge_walks.specs.Made.{longer, settled, on_made}
use Rattle.merge_walks.specs.Walked.{walk_of, walk_left, unless_deep, join_target, join_objects, join_sides, left_side, walked_join, walked_less, walked_with, parts_within, join_by_walks, less_by_walks}
use Rattle.walk_laws.specs.Counted.{HoldsNoWalks, Counts, MergesByWalksCount}
use Rattle.walk_laws.proofs.Unwalked.{on_walk-same, same_inside-same, opened-same, settled-same, left-same}
use Rattle.walk_laws.proofs.Commutes.{U, Us, Ul, Un}
use Rattle.walk_laws.proofs.Agreeing.{Agrees, merged_schemas, with_subschemas_agree, references_agree, less_agrees}

unless-agrees : (most : ℕ) (s : Schema) (k : Schema → Outcome Schema) (p : Outcome Schema) → Agrees U (k (opened s)) p → Agrees U (unless_deep most s k) p
unless-agrees most s k p h = cases (has_more_steps most (walk_of s))
  where
    cases : (b : Bool) → Agrees U (elim b [ true ↦ fault (depth (walk_of s)) | false ↦ k (opened s) ]) p
    cases true = tt
    cases false = h

settled-agrees : (w : Walk) (o p : Outcome Schema) → Agrees U o p → Agrees U (mapped (settled w) o) p
settled-agrees w (fault (depth v)) p h = tt
settled-agrees w (fault (unsupported x)) p h = h
settled-agrees w (never ns) p h = h
settled-agrees w (answer ns s) p h = h ∙ ap (answer ns) (sym (settled-same w s))

module _ (d : Document) (no_walks : HoldsNoWalks d) (most : ℕ) (join' join'' : Schema → Schema → Outcome Schema) (more : (a b : Schema) → Agrees U (join' a b) (join'' (U a) (U b)))
    (less' less'' : Schema → Schema → Outcome Schema) (fewer : (a b : Schema) → Agrees U (less' a b) (less'' (U a) (U b))) where
  more-made : (w : Walk) (a b : Schema) → Agrees U (on_made w join' a b) (join'' (U a) (U b))
  more-made w a b = subst (λ o. Agrees U (on_made w join' a b) o) (λ i. join'' (settled-same w a i) (settled-same w b i)) (more (settled w a) (settled w b))

  fewer-made : (w : Walk) (a b : Schema) → Agrees U (on_made w less' a b) (less'' (U a) (U b))
  fewer-made w a b = subst (λ o. Agrees U (on_made w less' a b) o) (λ i. less'' (settled-same w a i) (settled-same w b i)) (fewer (settled w a) (settled w b))

  more-target : (w : Walk) (q : List ℕ) (a b : Schema) → Agrees U (join_target d most join' less' w q a b) (join'' (U a) (U b))
  more-target w q a b = subst (λ x. Agrees U (join_target d most join' less' w q a b) (join'' x (U b))) (on_walk-same (to_target w (target_location d q)) a) (more (on_walk (to_target w (target_location d q)) a) b)

  objects-agree : (p : Plain) (ss : Same) (ls : Lists) (ns : Named) (q : Plain) (tt' : Same) (ms : Lists) (os : Named) (f g : Option (List ℕ))
      → Agrees U (join_objects d most join' less' p ss ls ns q tt' ms os f g) (by_references d join'' less'' (unwalked p) (Us ss) (Ul ls) (Un ns) (unwalked q) (Us tt') (Ul ms) (Un os) f g)
  objects-agree p ss ls ns q tt' ms os None None = settled-agrees (longer (own_walk p) (own_walk q)) _ _
      (references_agree (on_made (longer (own_walk p) (own_walk q)) join') join'' (more-made (longer (own_walk p) (own_walk q))) (on_made (longer (own_walk p) (own_walk q)) less') less'' (fewer-made (longer (own_walk p) (own_walk q))) d no_walks
      p ss ls ns q tt' ms os None None)
  objects-agree p ss ls ns q tt' ms os None (Some g) = settled-agrees (own_walk q) _ _
      (references_agree (join_target d most join' less' (own_walk q) g) join'' (more-target (own_walk q) g) less' less'' fewer d no_walks p ss ls ns q tt' ms os None (Some g))
  objects-agree p ss ls ns q tt' ms os (Some f) g = settled-agrees (own_walk p) _ _
      (references_agree (join_target d most join' less' (own_walk p) f) join'' (more-target (own_walk p) f) less' less'' fewer d no_walks p ss ls ns q tt' ms os (Some f) g)

  sides-agree : (a b : Schema) → Agrees U (join_sides d most join' less' a b) (join_layer d join'' less'' (U a) (U b))
  sides-agree (boolean false) b = refl
  sides-agree (boolean true) b = refl
  sides-agree (object p ss ls ns) (boolean false) = refl
  sides-agree (object p ss ls ns) (boolean true) = refl
  sides-agree (object p ss ls ns) (object q tt' ms os) = objects-agree p ss ls ns q tt' ms os p.reference q.reference

  pub joins-agree : (a b : Schema) → Agrees U (walked_join d most join' less' a b) (join_layer d join'' less'' (U a) (U b))
  joins-agree a b =
      unless-agrees most a (λ a'. unless_deep most b (join_sides d most join' less' a')) (join_layer d join'' less'' (U a) (U b))
      (unless-agrees most b (join_sides d most join' less' (opened a)) (join_layer d join'' less'' (U a) (U b))
      (subst (λ o. Agrees U (join_sides d most join' less' (opened a) (opened b)) o) (λ i. join_layer d join'' less'' (opened-same a i) (opened-same b i)) (sides-agree (opened a) (opened b))))

  pub leaves-agree : (a b : Schema) → Agrees U (walked_less d most join' less' a b) (less_layer d join'' less'' (U a) (U b))
  leaves-agree a b =
      unless-agrees most a (λ a'. unless_deep most b (λ b'. less_layer d join' less' (left_side b' (walk_left a b) a') b')) (less_layer d join'' less'' (U a) (U b))
      (unless-agrees most b (λ b'. less_layer d join' less' (left_side b' (walk_left a b) (opened a)) b') (less_layer d join'' less'' (U a) (U b))
      (subst (λ o. Agrees U (less_layer d join' less' Left (opened b)) o) (λ i. less_layer d join'' less'' ((left-same (opened b) (walk_left a b) (opened a) ∙ opened-same a) i) (opened-same b i))
      (less_agrees join' join'' more less' less'' fewer d Left (opened b))))
    where
      Left : Schema
      Left = left_side (opened b) (walk_left a b) (opened a)

  pub all-agree : (b : Schema) (ss : Same) → Agrees U (walked_with d most join' less' b ss) (with_subschemas_layer d join'' less'' (U b) (Us ss))
  all-agree b ss = settled-agrees (walk_of b) (with_subschemas_layer d (on_made (walk_of b) join') (on_made (walk_of b) less') (opened b) (same_inside (walk_of b) ss)) (with_subschemas_layer d join'' less'' (U b) (Us ss))
      (subst (λ o. Agrees U (with_subschemas_layer d (on_made (walk_of b) join') (on_made (walk_of b) less') (opened b) (same_inside (walk_of b) ss)) o) (λ i. with_subschemas_layer d join'' less'' (opened-same b i) (same_inside-same (walk_of b) ss i))
      (with_subschemas_agree (on_made (walk_of b) join') join'' (more-made (walk_of b)) (on_made (walk_of b) less') less'' (fewer-made (walk_of b)) d (opened b) (same_inside (walk_of b) ss)))

-- ---- by levels, which are steps

record AgreeAt (d : Document) (most n : ℕ) : Type 0 where
  joins : (a b : Schema) → Agrees U ((parts_within d most n).join a b) ((below d n).join (U a) (U b))
  leaves : (a b : Schema) → Agrees U ((parts_within d most n).less a b) ((below d n).less (U a) (U b))

agree : (d : Document) → HoldsNoWalks d → (most n : ℕ) → AgreeAt d most n
agree d no_walks most zero = record { joins = λ a b. tt; leaves = λ a b. tt }
agree d no_walks most (suc n) =
    let g : AgreeAt d most n = agree d no_walks most n in
    record {
      joins = joins-agree d no_walks most (parts_within d most n).join (below d n).join g.joins (parts_within d most n).less (below d n).less g.leaves;
      leaves = leaves-agree d no_walks most (parts_within d most n).join (below d n).join g.joins (parts_within d most n).less (below d n).less g.leaves;
    }

counts : (o p : Outcome Schema) → Agrees U o p → Counts o p
counts (fault (depth w)) p h = tt
counts (fault (unsupported x)) p h = h
counts (never ns) p h = h
counts (answer ns s) p h = h

pub merges_by_walks_count : MergesByWalksCount
merges_by_walks_count d no_walks most n =
    let g : AgreeAt d most n = agree d no_walks most n in
    let joined : ((a b : Schema) → Agrees U (join_by_walks d most n a b) (join d n (U a) (U b))) =
    joins-agree d no_walks most (parts_within d most n).join (below d n).join g.joins (parts_within d most n).less (below d n).less g.leaves in
    let left : ((a b : Schema) → Agrees U (less_by_walks d most n a b) (less d n (U a) (U b))) =
    leaves-agree d no_walks most (parts_within d most n).join (below d n).join g.joins (parts_within d most n).less (below d n).less g.leaves in
    record {
      joins = λ a b. counts _ _ (joined a b);
      leaves = λ a b. counts _ _ (left a b);
      with_all = λ b ss. counts _ _ (all-agree d no_walks most (parts_within d most n).join (below d n).join g.joins (parts_within d most n).less (below d n).less g.leaves b ss);
      gathers = λ ss. counts _ _ (merged_schemas (join_by_walks d most n) (join d n) joined (less_by_walks d most n) (less d n) left ss);
    }
