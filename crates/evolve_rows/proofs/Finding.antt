-- What new fields find one after another is what the row of fields says.
use Rattle.std.proofs.Common.{◌≡◌, ◌&&◌, ◌||◌, not, List, [], ◌∷◌, ◌++◌, map, Bool, true, false, Option, cond, refl, sym, ap, ◌∙◌, append_assoc, append-nil}
use Rattle.std.specs.List.{list_any}
use Rattle.std.proofs.lemmas.List.{map-append}
use Rattle.model_defs.specs.Types.{TypeModel}
use Rattle.model_defs.specs.Model.{FieldModel}
use Rattle.model_defs.specs.Layer.{present_type, may_be_missing}
use Rattle.evolve_defs.specs.Forms.{a_type}
use Rattle.evolve_defs.specs.Steps as steps
use Rattle.evolve_defs.specs.Steps.{unknown, twice, missing, rest_taken, fails, reaches, own_fields, other_fields, lost_fields, is_none, at_most_one, none_twice, none_missing, found_pairs, written_type, map_value, to_rests, each_to, names_within, members_verdict}
use Rattle.evolve_defs.specs.Walk.{goes}
use Rattle.evolve_defs.specs.Spots.{Spots, of_type, type_spot, typed}
use Rattle.evolve_rows.specs.TurnView.{to_one}
use Rattle.evolve_rows.specs.Found.{FoundD, start, written_spots, rest_spots, found_by, gathered, broken_by, turn_of, with_rests}

abbrev spots : List steps.Pair → List Spots
spots ps = map (λ p. (type_spot p.0, type_spot p.1)) ps

and_more : (a b c : Bool) → ((a && b) && c) ≡ (a && (b && c))
and_more true b c = refl
and_more false b c = refl

and_true : (a : Bool) → a ≡ (a && true)
and_true true = refl
and_true false = refl

own_spots : (g : FieldModel) (fs : List FieldModel) → to_one (written_spots fs) (of_type (present_type g)) ≡ spots (map (λ f. (a_type (written_type f), a_type (present_type g))) fs)
own_spots g [] = refl
own_spots g (f ∷ fs) = ap (λ ps. (of_type (written_type f), of_type (present_type g)) ∷ ps) (own_spots g fs)

module _ (leads : TypeModel → Bool) where
  left_of : (gs : List FieldModel) (s : FoundD) → (gathered leads gs s).left ≡ lost_fields gs s.left
  left_of [] s = refl
  left_of (g ∷ gs) s = left_of gs (found_by leads g s)

  once_of : (gs : List FieldModel) (s : FoundD) → (gathered leads gs s).once ≡ (s.once && none_twice gs s.left)
  once_of [] s = and_true s.once
  once_of (g ∷ gs) s = once_of gs (found_by leads g s) ∙ and_more s.once (at_most_one (own_fields g s.left)) (none_twice gs (other_fields g s.left))

  present_of : (gs : List FieldModel) (s : FoundD) → (gathered leads gs s).present ≡ (s.present && none_missing leads gs s.left)
  present_of [] s = and_true s.present
  present_of (g ∷ gs) s =
      present_of gs (found_by leads g s)
      ∙ and_more s.present (may_be_missing leads g || list_any (λ f. not f.skip) (own_fields g s.left)) (none_missing leads gs (other_fields g s.left))

  pairs_of : (gs : List FieldModel) (s : FoundD) → (gathered leads gs s).pairs ≡ s.pairs ++ spots (found_pairs gs s.left)
  pairs_of [] s = sym (append-nil s.pairs)
  pairs_of (g ∷ gs) s =
      let own = own_fields g s.left in
      let later = found_pairs gs (other_fields g s.left) in
      pairs_of gs (found_by leads g s)
      ∙ append_assoc s.pairs (to_one (written_spots own) (of_type (present_type g))) (spots later)
      ∙ ap (λ ps. s.pairs ++ ps) (ap (λ ps. ps ++ spots later) (own_spots g own) ∙ sym (map-append (λ (p : steps.Pair). (type_spot p.0, type_spot p.1)) (map (λ f. (a_type (written_type f), a_type (present_type g))) own) later))

-- ---- rests

pub each_spots : (ss : List TypeModel) (t : TypeModel) → to_one (map of_type ss) (of_type t) ≡ spots (each_to ss t)
each_spots [] t = refl
each_spots (s ∷ ss) t = ap (λ ps. (of_type s, of_type t) ∷ ps) (each_spots ss t)

pub rests_spots : (ss : List TypeModel) (qs : List FieldModel) → with_rests (map of_type ss) qs ≡ spots (to_rests ss qs)
rests_spots ss [] = refl
rests_spots ss (g ∷ gs) =
    ap (λ ps. ps ++ with_rests (map of_type ss) gs) (each_spots ss (map_value g.field_type))
    ∙ ap (λ ps. spots (each_to ss (map_value g.field_type)) ++ ps) (rests_spots ss gs)
    ∙ sym (map-append (λ (p : steps.Pair). (type_spot p.0, type_spot p.1)) (each_to ss (map_value g.field_type)) (to_rests ss gs))

written_all : (fs : List FieldModel) → written_spots fs ≡ map of_type (map written_type fs)
written_all [] = refl
written_all (f ∷ fs) = ap (λ ps. of_type (written_type f) ∷ ps) (written_all fs)

rest_all : (fs : List FieldModel) → rest_spots fs ≡ map of_type (map (λ f. map_value f.field_type) fs)
rest_all [] = refl
rest_all (f ∷ fs) = ap (λ ps. of_type (map_value f.field_type) ∷ ps) (rest_all fs)

-- ---- the row

said : (a b c d : Bool) (ps : List Spots) (qs : List steps.Pair) → ps ≡ spots qs
    → turn_of (broken_by a b c d) ps ≡ typed (cond a (fails unknown) (cond (not b) (fails twice) (cond (not c) (fails missing) (cond d (fails rest_taken) (reaches qs)))))
said true b c d ps qs e = refl
said false false c d ps qs e = refl
said false true false d ps qs e = refl
said false true true true ps qs e = refl
said false true true false ps qs e = ap goes e

module _ (leads : TypeModel → Bool) (closed : Bool) (fs rs gs qs : List FieldModel) where
  all_pairs : spots (found_pairs gs fs) ++ (with_rests (written_spots (lost_fields gs fs)) qs ++ with_rests (rest_spots rs) qs)
      ≡ spots (found_pairs gs fs ++ (to_rests (map written_type (lost_fields gs fs)) qs ++ to_rests (map (λ f. map_value f.field_type) rs) qs))
  all_pairs =
      let lost = to_rests (map written_type (lost_fields gs fs)) qs in
      let held = to_rests (map (λ f. map_value f.field_type) rs) qs in
      let left : with_rests (written_spots (lost_fields gs fs)) qs ≡ spots lost = ap (λ ss. with_rests ss qs) (written_all (lost_fields gs fs)) ∙ rests_spots (map written_type (lost_fields gs fs)) qs in
      let right : with_rests (rest_spots rs) qs ≡ spots held = ap (λ ss. with_rests ss qs) (rest_all rs) ∙ rests_spots (map (λ f. map_value f.field_type) rs) qs in
      ap (λ ps. spots (found_pairs gs fs) ++ (ps ++ with_rests (rest_spots rs) qs)) left
      ∙ ap (λ ps. spots (found_pairs gs fs) ++ (spots lost ++ ps)) right
      ∙ ap (λ ps. spots (found_pairs gs fs) ++ ps) (sym (map-append (λ (p : steps.Pair). (type_spot p.0, type_spot p.1)) lost held))
      ∙ sym (map-append (λ (p : steps.Pair). (type_spot p.0, type_spot p.1)) (found_pairs gs fs) (lost ++ held))

  pub fields_say : (s : FoundD) (o : Option steps.Broken) (ps : List Spots) → s ≡ gathered leads gs (start fs)
      → o ≡ broken_by (closed && not (is_none s.left)) s.once s.present (not (is_none rs) && (closed || not (names_within fs gs)))
      → ps ≡ s.pairs ++ (with_rests (written_spots s.left) qs ++ with_rests (rest_spots rs) qs)
      → turn_of o ps ≡ typed (members_verdict leads closed fs rs gs qs)
  fields_say s o ps h b e =
      let taken = not (is_none rs) && (closed || not (names_within fs gs)) in
      let left : s.left ≡ lost_fields gs fs = ap (λ (x : FoundD). x.left) h ∙ left_of leads gs (start fs) in
      let once : s.once ≡ none_twice gs fs = ap (λ (x : FoundD). x.once) h ∙ once_of leads gs (start fs) in
      let present : s.present ≡ none_missing leads gs fs = ap (λ (x : FoundD). x.present) h ∙ present_of leads gs (start fs) in
      let pairs : s.pairs ≡ spots (found_pairs gs fs) = ap (λ (x : FoundD). x.pairs) h ∙ pairs_of leads gs (start fs) in
      let broken : o ≡ broken_by (closed && not (is_none (lost_fields gs fs))) (none_twice gs fs) (none_missing leads gs fs) taken =
      b ∙ (λ i. broken_by (closed && not (is_none (left i))) (once i) (present i) taken) in
      let reached : ps ≡ spots (found_pairs gs fs) ++ (with_rests (written_spots (lost_fields gs fs)) qs ++ with_rests (rest_spots rs) qs) =
      e ∙ (λ i. pairs i ++ (with_rests (written_spots (left i)) qs ++ with_rests (rest_spots rs) qs)) in
      ap (λ x. turn_of x ps) broken
      ∙ said (closed && not (is_none (lost_fields gs fs))) (none_twice gs fs) (none_missing leads gs fs) taken ps
      (found_pairs gs fs ++ (to_rests (map written_type (lost_fields gs fs)) qs ++ to_rests (map (λ f. map_value f.field_type) rs) qs)) (reached ∙ all_pairs)
