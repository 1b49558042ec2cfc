-- What one more turn of a loop of reading adds.
use Rattle.std.proofs.Common.{◌≡◌, ℕ, zero, suc, ◌+◌, ◌<◌, List, [], ◌∷◌, length, drop, get_or, cond, Option, Some, None, sym, ap, ◌∙◌, arith}
use Rattle.json_value.specs.Value.{Value, Items, item, Members, member}
use Rattle.schema_defs.specs.Texts.{Relations}
use Rattle.entry_defs.specs.Entry.{Entry, FieldEntry, Rest, entries_of}
use Rattle.tree_types.specs.declared.tree.Tree.{Tree}
use Rattle.default_defs.specs.Found.{Found, ended, both}
use Rattle.default_reading.specs.Seen.{Part, entry_of, first_tree, listed, or_else, places_in}
use Rattle.default_reading.specs.Steps.{Setting, comes, given_at, is_other, places_come, field_comes, fields_come, rest_comes, others_come}
use Rattle.default_reading.proofs.Joined.{one_more}
use Rattle.default_reading.proofs.Turns.{field_of, next_part, one_listed, one_placed}

-- ---- what stands next

pub place_turn : (ps : List Part) (i j : ℕ) → j ≡ i + 1 → i < length ps → entries_of (places_in (drop i ps)) ≡ entry_of (first_tree (drop i ps)) ∷ entries_of (places_in (drop j ps))
place_turn [] i j e h = absurd (omega (arith, h))
place_turn (p ∷ ps) zero zero e h = absurd (omega (arith, e))
place_turn (p ∷ ps) zero (suc j) e h = let k : 0 ≡ j = omega (arith, e) in one_placed p ps ∙ ap (λ n. entry_of (first_tree (p ∷ ps)) ∷ entries_of (places_in (drop n ps))) k
place_turn (p ∷ ps) (suc i) zero e h = absurd (omega (arith, e))
place_turn (p ∷ ps) (suc i) (suc j) e h = place_turn ps i j (omega (arith, e)) (omega (arith, h))

module _ (ps : List Part) (i : ℕ) (p : Part) (o t : Option Tree) (l : i < length ps) (is : p ≡ get_or ps i p) (e : t ≡ or_else (first_tree (drop i ps)) o) where
  led : t ≡ or_else (first_tree (p ∷ drop (i + 1) ps)) o
  led = e ∙ ap (λ qs. or_else (first_tree qs) o) (next_part ps i p l is)

  pub field_turn : listed (drop i ps) o ≡ field_of p t ∷ listed (drop (i + 1) ps) o
  field_turn = ap (λ qs. listed qs o) (next_part ps i p l is) ∙ one_listed p (drop (i + 1) ps) o ∙ ap (λ u. field_of p u ∷ listed (drop (i + 1) ps) o) (sym led)

  -- a part's own tree is its tree
  pub field_own : (x : Tree) → p.1 ≡ Some x → t ≡ Some x
  field_own x h = led ∙ own p (drop (i + 1) ps) x h
    where
      own : (q : Part) (qs : List Part) (x : Tree) → q.1 ≡ Some x → or_else (first_tree (q ∷ qs)) o ≡ Some x
      own (k, None) qs x h = absurd (cc)
      own (k, Some y) qs x h = h

-- ---- what has come, and what is to come

module _ (s : Setting) (r q : Relations) (same : q ≡ r) (before now all : Found) where
  pub places_next : (es fs : List Entry) (e : Entry) (v : Value) (xs ys : Items) → es ≡ e ∷ fs → xs ≡ item v ys → both before (places_come s r es xs) ≡ all → both before (comes s q e v) ≡ now
      → both now (places_come s r fs ys) ≡ all
  places_next es fs e v xs ys u t d h =
      one_more before (comes s r e v) (places_come s r fs ys) now all (ap (λ z. both before (comes s z e v)) (sym same) ∙ h) ((λ i. both before (places_come s r (sym u i) (sym t i))) ∙ d)

  pub fields_next : (p : Option (List ℕ)) (ms : Members) (fs gs : List FieldEntry) (f : FieldEntry) → fs ≡ f ∷ gs → both before (fields_come s r p fs ms) ≡ all
      → both before (field_comes s q f.state f.entry (given_at p f.name ms)) ≡ now → both now (fields_come s r p gs ms) ≡ all
  fields_next p ms fs gs f t d h =
      one_more before (field_comes s r f.state f.entry (given_at p f.name ms)) (fields_come s r p gs ms) now all (ap (λ z. both before (field_comes s z f.state f.entry (given_at p f.name ms))) (sym same) ∙ h)
      (ap (λ zs. both before (fields_come s r p zs ms)) (sym t) ∙ d)

  pub others_next : (p : Option (List ℕ)) (fs : List FieldEntry) (o : Rest) (n : List ℕ) (v : Value) (xs ys : Members) → xs ≡ member n v ys → both before (others_come s r p fs o xs) ≡ all
      → both before (cond (is_other p fs n) (rest_comes s q o v) ended) ≡ now → both now (others_come s r p fs o ys) ≡ all
  others_next p fs o n v xs ys t d h =
      one_more before (cond (is_other p fs n) (rest_comes s r o v) ended) (others_come s r p fs o ys) now all (ap (λ z. both before (cond (is_other p fs n) (rest_comes s z o v) ended)) (sym same) ∙ h)
      (ap (λ zs. both before (others_come s r p fs o zs)) (sym t) ∙ d)
