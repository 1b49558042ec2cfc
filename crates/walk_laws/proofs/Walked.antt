-- Merging and subtraction by walks meet what both sides say, where those of the parts do.
use Rattle.std.proofs.Common.{◌≡◌, ℕ, zero, suc, List, Bool, true, false, ◌&&◌, ◌||◌, not, Option, Some, None, refl, ap, ◌∙◌}
use Rattle.json_value.specs.Value.{Value, is_whole}
use Rattle.schema_defs.specs.Texts.{Relations, IsLawful}
use Rattle.schema_defs.specs.Schema.{Plain, Schema, boolean, object, Same, no_lists, no_named, Lists, Named, Document}
use Rattle.schema_defs.specs.Admits.{admits, target_location}
use Rattle.schema_defs.specs.Mapped.{unwalked}
use Rattle.schema_defs.specs.Walks.{IsGuarded}
use Rattle.merge_defs.specs.Outcome.{Outcome, fault, depth, or_else, mapped as outcome_mapped}
use Rattle.merge_defs.specs.Objects.{no_plain, is_false, or_false}
use Rattle.merge_defs.specs.Members.{only_same}
use Rattle.merge_defs.specs.Merge.{less_layer}
use Rattle.merge_walks.specs.Carried.{Walk, own_walk, on_walk, to_target, has_more_steps, opened, same_inside}
use Rattle.merge_walks.specs.Made.{longer, settled, on_made}
use Rattle.merge_walks.specs.Walked.{walk_of, walk_left, unless_deep, join_target, join_objects, join_sides, left_side, walked_join, walked_less, walked_with, parts_within}
use Rattle.merge_laws.specs.Laws.{Meets, IsProper, ProperSame, ProperDocument}
use Rattle.merge_laws.proofs.Steps.{no_no, meets-wanted, meets-mapped}
use Rattle.merge_laws.proofs.Objects.{IsFalse}
use Rattle.merge_laws.proofs.Main.{Owed, Lawful, layer, with_layer, references}
use Rattle.walk_laws.proofs.Unwalked.{on_walk-same, same_inside-same, opened-same, settled-same, opened-false, on_walk-false, settled-false, same-admits, same-proper, same-proper_same, left-same}

-- a side that is too deep is a fault
unless-meets : (w : Bool) (h : Schema → Bool) (most : ℕ) (s : Schema) (k : Schema → Outcome Schema) → Meets IsProper w h (k (opened s)) → Meets IsProper w h (unless_deep most s k)
unless-meets w h most s k m = cases (has_more_steps most (walk_of s))
  where
    cases : (b : Bool) → Meets IsProper w h (elim b [ true ↦ fault (depth (walk_of s)) | false ↦ k (opened s) ])
    cases true = tt
    cases false = m

unless-closed : (most : ℕ) (s : Schema) (k : Schema → Outcome Schema) → IsFalse (or_else (boolean false) (k (opened s))) → IsFalse (or_else (boolean false) (unless_deep most s k))
unless-closed most s k m = cases (has_more_steps most (walk_of s))
  where
    cases : (b : Bool) → IsFalse (or_else (boolean false) (elim b [ true ↦ fault (depth (walk_of s)) | false ↦ k (opened s) ]))
    cases true = tt
    cases false = m

module _ (r : Relations) (lawful : IsLawful r) (d : Document) (guarded : IsGuarded d) (proper : ProperDocument d) (owed : Owed r d) where
  abbrev Law : (Schema → Schema → Outcome Schema) → (Schema → Schema → Outcome Schema) → Value → Type 0
  Law join less v = Lawful r lawful d guarded proper owed join less v

  module _ (join' less' : Schema → Schema → Outcome Schema) (all : (v : Value) → is_whole v ≡ true → Law join' less' v) (most : ℕ) where
    -- sides that were made on the way
    made : (w : Walk) (v : Value) → is_whole v ≡ true → Law (on_made w join') (on_made w less') v
    made w v h = record {
      merges = λ a b p q. meets-wanted IsProper (admits r d v (settled w a) && admits r d v (settled w b)) (admits r d v a && admits r d v b) (admits r d v) (join' (settled w a) (settled w b))
          (λ i. same-admits r d v (settled w a) a (settled-same w a) i && same-admits r d v (settled w b) b (settled-same w b) i)
          ((all v h).merges (settled w a) (settled w b) (same-proper a (settled w a) (settled-same w a) p) (same-proper b (settled w b) (settled-same w b) q));
      takes = λ a b p q. meets-wanted IsProper (admits r d v (settled w a) && not (admits r d v (settled w b))) (admits r d v a && not (admits r d v b)) (admits r d v) (less' (settled w a) (settled w b))
          (λ i. same-admits r d v (settled w a) a (settled-same w a) i && not (same-admits r d v (settled w b) b (settled-same w b) i))
          ((all v h).takes (settled w a) (settled w b) (same-proper a (settled w a) (settled-same w a) p) (same-proper b (settled w b) (settled-same w b) q));
      closes = λ a b e. (all v h).closes (settled w a) (settled w b) ((λ i. settled-false w a i || settled-false w b i) ∙ e);
    }

    -- a target, on the reference's walk
    targets : (w : Walk) (q : List ℕ) (v : Value) → is_whole v ≡ true → Law (join_target d most join' less' w q) less' v
    targets w q v h = record {
      merges = λ a b p p'. meets-wanted IsProper (admits r d v (on_walk (to_target w (target_location d q)) a) && admits r d v b) (admits r d v a && admits r d v b) (admits r d v) (join' (on_walk (to_target w (target_location d q)) a) b)
          (ap (λ x. x && admits r d v b) (same-admits r d v (on_walk (to_target w (target_location d q)) a) a (on_walk-same (to_target w (target_location d q)) a)))
          ((all v h).merges (on_walk (to_target w (target_location d q)) a) b (same-proper a (on_walk (to_target w (target_location d q)) a) (on_walk-same (to_target w (target_location d q)) a) p) p');
      takes = (all v h).takes;
      closes = λ a b e. (all v h).closes (on_walk (to_target w (target_location d q)) a) b (ap (λ x. x || is_false b) (on_walk-false (to_target w (target_location d q)) a) ∙ e);
    }

    settled-meets : (w : Walk) (v : Value) (b : Bool) (o : Outcome Schema) → Meets IsProper b (admits r d v) o → Meets IsProper b (admits r d v) (outcome_mapped (settled w) o)
    settled-meets w v b o m = meets-mapped IsProper IsProper b (admits r d v) (admits r d v) (settled w) o m (λ s p. same-proper s (settled w s) (settled-same w s) p) (λ s p. same-admits r d v (settled w s) s (settled-same w s))

    objects-meet : (v : Value) → is_whole v ≡ true → (p : Plain) (ss : Same) (ls : Lists) (ns : Named) (q : Plain) (tt' : Same) (ms : Lists) (os : Named) → IsProper (object p ss ls ns) → IsProper (object q tt' ms os)
        → (f g : Option (List ℕ)) → p.reference ≡ f → q.reference ≡ g
        → Meets IsProper (admits r d v (object p ss ls ns) && admits r d v (object q tt' ms os)) (admits r d v) (join_objects d most join' less' p ss ls ns q tt' ms os f g)
    objects-meet v h p ss ls ns q tt' ms os hp hq None None ep eq = settled-meets (longer (own_walk p) (own_walk q)) v (admits r d v (object p ss ls ns) && admits r d v (object q tt' ms os)) _
        (references r lawful d guarded proper owed (on_made (longer (own_walk p) (own_walk q)) join') (on_made (longer (own_walk p) (own_walk q)) less') (made (longer (own_walk p) (own_walk q))) v h p ss ls ns q tt' ms os hp hq None None ep eq)
    objects-meet v h p ss ls ns q tt' ms os hp hq None (Some g) ep eq = settled-meets (own_walk q) v (admits r d v (object p ss ls ns) && admits r d v (object q tt' ms os)) _
        (references r lawful d guarded proper owed (join_target d most join' less' (own_walk q) g) less' (targets (own_walk q) g) v h p ss ls ns q tt' ms os hp hq None (Some g) ep eq)
    objects-meet v h p ss ls ns q tt' ms os hp hq (Some f) g ep eq = settled-meets (own_walk p) v (admits r d v (object p ss ls ns) && admits r d v (object q tt' ms os)) _
        (references r lawful d guarded proper owed (join_target d most join' less' (own_walk p) f) less' (targets (own_walk p) f) v h p ss ls ns q tt' ms os hp hq (Some f) g ep eq)

    sides-meet : (v : Value) → is_whole v ≡ true → (a b : Schema) → IsProper a → IsProper b → Meets IsProper (admits r d v a && admits r d v b) (admits r d v) (join_sides d most join' less' a b)
    sides-meet v h (boolean false) b p q = (layer r lawful d guarded proper owed join' less' all v h).merges (boolean false) b p q
    sides-meet v h (boolean true) b p q = (layer r lawful d guarded proper owed join' less' all v h).merges (boolean true) b p q
    sides-meet v h (object a s l n) (boolean false) p q = (layer r lawful d guarded proper owed join' less' all v h).merges (object a s l n) (boolean false) p q
    sides-meet v h (object a s l n) (boolean true) p q = (layer r lawful d guarded proper owed join' less' all v h).merges (object a s l n) (boolean true) p q
    sides-meet v h (object a s l n) (object b t m o) p q = objects-meet v h a s l n b t m o p q a.reference b.reference refl refl

    sides-close : (a b : Schema) → (is_false a || is_false b) ≡ true → IsFalse (or_false (λ x y. join_sides d most join' less' x y) a b)
    sides-close (boolean false) b h = refl
    sides-close (boolean true) b h = h
    sides-close (object p ss ls ns) (boolean false) h = refl
    sides-close (object p ss ls ns) (boolean true) h = no_no h
    sides-close (object p ss ls ns) (object q tt' ms os) h = no_no h

    opens : (v : Value) (s : Schema) → admits r d v (opened s) ≡ admits r d v s
    opens v s = same-admits r d v (opened s) s (opened-same s)

    proper_opened : (s : Schema) → IsProper s → IsProper (opened s)
    proper_opened s p = same-proper s (opened s) (opened-same s) p

    -- what is left is taken from this
    abbrev Left : Schema → Schema → Schema
    Left a b = left_side (opened b) (walk_left a b) (opened a)

    left-says : (v : Value) (a b : Schema) → admits r d v (Left a b) ≡ admits r d v a
    left-says v a b = same-admits r d v (Left a b) (opened a) (left-same (opened b) (walk_left a b) (opened a)) ∙ opens v a

    left-proper : (a b : Schema) → IsProper a → IsProper (Left a b)
    left-proper a b p = same-proper (opened a) (Left a b) (left-same (opened b) (walk_left a b) (opened a)) (proper_opened a p)

    merges-walked : (v : Value) → is_whole v ≡ true → (a b : Schema) → IsProper a → IsProper b → Meets IsProper (admits r d v a && admits r d v b) (admits r d v) (walked_join d most join' less' a b)
    merges-walked v h a b p q =
        unless-meets (admits r d v a && admits r d v b) (admits r d v) most a (λ a'. unless_deep most b (join_sides d most join' less' a'))
        (unless-meets (admits r d v a && admits r d v b) (admits r d v) most b (join_sides d most join' less' (opened a))
        (meets-wanted IsProper (admits r d v (opened a) && admits r d v (opened b)) (admits r d v a && admits r d v b) (admits r d v) (join_sides d most join' less' (opened a) (opened b)) (λ i. opens v a i && opens v b i)
        (sides-meet v h (opened a) (opened b) (proper_opened a p) (proper_opened b q))))

    takes-walked : (v : Value) → is_whole v ≡ true → (a b : Schema) → IsProper a → IsProper b → Meets IsProper (admits r d v a && not (admits r d v b)) (admits r d v) (walked_less d most join' less' a b)
    takes-walked v h a b p q =
        unless-meets (admits r d v a && not (admits r d v b)) (admits r d v) most a (λ a'. unless_deep most b (λ b'. less_layer d join' less' (left_side b' (walk_left a b) a') b'))
        (unless-meets (admits r d v a && not (admits r d v b)) (admits r d v) most b (λ b'. less_layer d join' less' (left_side b' (walk_left a b) (opened a)) b')
        (meets-wanted IsProper (admits r d v (Left a b) && not (admits r d v (opened b))) (admits r d v a && not (admits r d v b)) (admits r d v) (less_layer d join' less' (Left a b) (opened b)) (λ i. left-says v a b i && not (opens v b i))
        ((layer r lawful d guarded proper owed join' less' all v h).takes (Left a b) (opened b) (left-proper a b p) (proper_opened b q))))

    closes-walked : (a b : Schema) → (is_false a || is_false b) ≡ true → IsFalse (or_false (λ x y. walked_join d most join' less' x y) a b)
    closes-walked a b e = unless-closed most a (λ a'. unless_deep most b (join_sides d most join' less' a')) (unless-closed most b (join_sides d most join' less' (opened a))
        (sides-close (opened a) (opened b) ((λ i. opened-false a i || opened-false b i) ∙ e)))

    pub walked : (v : Value) → is_whole v ≡ true → Law (λ a b. walked_join d most join' less' a b) (λ a b. walked_less d most join' less' a b) v
    walked v h = record { merges = merges-walked v h; takes = takes-walked v h; closes = closes-walked }

    pub walked-with : (v : Value) → is_whole v ≡ true → (b : Schema) (ss : Same) → IsProper b → ProperSame ss → Meets IsProper (admits r d v b && admits r d v (only_same ss)) (admits r d v) (walked_with d most join' less' b ss)
    walked-with v h b ss p q = meets-wanted IsProper (admits r d v (opened b) && admits r d v (only_same (same_inside (walk_of b) ss))) _ (admits r d v) (walked_with d most join' less' b ss)
        (λ i. opens v b i && same-admits r d v (only_same (same_inside (walk_of b) ss)) (only_same ss) (λ j. object (unwalked no_plain) (same_inside-same (walk_of b) ss j) no_lists no_named) i)
        (settled-meets (walk_of b) v (admits r d v (opened b) && admits r d v (only_same (same_inside (walk_of b) ss))) _
        (with_layer r lawful d guarded proper owed (on_made (walk_of b) join') (on_made (walk_of b) less') (made (walk_of b)) v h (opened b) (same_inside (walk_of b) ss) (proper_opened b p) (same-proper_same ss (same_inside (walk_of b) ss) (same_inside-same (walk_of b) ss) q)))

  -- ---- by so many levels

  pub parts-lawful : (most n : ℕ) (v : Value) → is_whole v ≡ true → Law (parts_within d most n).join (parts_within d most n).less v
  parts-lawful most zero v h = record { merges = λ a b p q. tt; takes = λ a b p q. tt; closes = λ a b e. tt }
  parts-lawful most (suc n) v h = walked (parts_within d most n).join (parts_within d most n).less (parts-lawful most n) most v h
