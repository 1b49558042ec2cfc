-- The arms of reading that no form of entry tells.
use Rattle.std.proofs.Common.{◌≡◌, ℕ, List, [], ◌∷◌, Bool, true, false, true≢false, cond, is_none, Option, Some, None, refl, sym, ap, ◌∙◌}
use Rattle.json_value.specs.Value.{Value, Members, no_members, member}
use Rattle.schema_defs.specs.Texts.{Relations}
use Rattle.entry_defs.specs.Entry.{Entry, State, stated, no_rest, FieldEntry, fields_of, rest_of}
use Rattle.tree_types.specs.View.{first_part, parts_of}
use Rattle.tree_types.specs.declared.tree.Tree.{Tree}
use Rattle.default_defs.specs.Found.{Found, refused, ended, both}
use Rattle.default_defs.specs.Layer.{left_out}
use Rattle.default_reading.specs.Seen.{Part, entry_of, fields_in, front_tree, kept, state_in}
use Rattle.default_reading.specs.Steps.{Setting, missed, comes, is_other, others_come, rest_comes, supplies}
use Rattle.default_reading.proofs.Joined.{both_alone}
use Rattle.default_reading.proofs.Levels.{any_level}
use Rattle.default_reading.proofs.Trees.{rest_down}

-- the first part of a newtype
pub front_entry : (ps : List Part) → first_part (parts_of ps) ≡ entry_of (front_tree ps)
front_entry [] = refl
front_entry ((h, None) ∷ ps) = refl
front_entry ((h, Some x) ∷ ps) = refl

module _ (s : Setting) (r : Relations) where
  abbrev out : State → Entry → Found
  out = left_out (missed s r)

  -- ---- what is left out

  pub left_none : (p : Part) (before now : Found) → p.1 ≡ None → now ≡ both before refused → both before (out (state_in p) (entry_of p.1)) ≡ now
  left_none (h, None) before now e k = sym k
  left_none (h, Some y) before now e k = absurd (cc)

  pub supplied_left : (w : State) (e : Entry) (v : Value) (before now : Found) → w ≡ stated v → both before (supplies s r e v) ≡ now → both before (out w e) ≡ now
  unfolding supplies
  supplied_left w e v before now h k = ap (λ z. both before (out z e)) h ∙ k

  -- ---- the rest

  rest_kept : (o : Option Tree) (v : Value) → rest_comes s r (rest_of (kept o)) v ≡ comes s r (entry_of o) v
  rest_kept None v = sym (any_level s r v)
  rest_kept (Some x) v = refl

  pub rest_entry : (ps : List Part) (o : Option Tree) (v : Value) → rest_comes s r (rest_of (fields_in ps o)) v ≡ comes s r (entry_of o) v
  rest_entry ps o v = ap (λ g. rest_comes s r g v) (rest_down ps (kept o)) ∙ rest_kept o v

  -- where there is none, members that no field names are let go
  let_go : (p : Option (List ℕ)) (fs : List FieldEntry) (ms : Members) → others_come s r p fs no_rest ms ≡ ended
  let_go p fs no_members = refl
  let_go p fs (member n v ms) = ap (λ x. both x (others_come s r p fs no_rest ms)) (one (is_other p fs n)) ∙ let_go p fs ms
    where
      one : (b : Bool) → cond b ended ended ≡ ended
      one true = refl
      one false = refl

  pub none_left : (p : Option (List ℕ)) (ps : List Part) (o : Option Tree) (ms : Members) (before : Found) → is_none o ≡ true
      → both before (others_come s r p (fields_of (fields_in ps o)) (rest_of (fields_in ps o)) ms) ≡ before
  none_left p ps None ms before h =
      ap (λ g. both before (others_come s r p (fields_of (fields_in ps None)) g ms)) (rest_down ps (kept None))
      ∙ ap (both before) (let_go p (fields_of (fields_in ps None)) ms) ∙ both_alone before
  none_left p ps (Some x) ms before h = absurd (true≢false (sym h))

  pub other_kept : (b : Bool) (x y before now : Found) → b ≡ true → x ≡ y → both before y ≡ now → both before (cond b x ended) ≡ now
  other_kept b x y before now h e k = (λ i. both before (cond (h i) (e i) ended)) ∙ k
