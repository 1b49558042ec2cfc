-- The places of faults name values.
use Rattle.std.proofs.Common.{◌≡◌, zero, suc, List, [], ◌∷◌, Some, option_map, refl, sym, ap, subst}
use Rattle.std.specs.Prelude.{All, Contains, is_some}
use Rattle.std.proofs.lemmas.List.Elements.{All-cons, All-nil}
use Rattle.json_value.specs.Value.{Value}
use Rattle.json_value.specs.View.{value_of}
use Rattle.distinct_names.specs.Names.{NamesDiffer}
use Rattle.schema_defs.specs.declared.Setting.TheVariants.{Strict}
use Rattle.schema_defs.specs.Location.{Location}
use Rattle.schema_defs.specs.Schema.{Document}
use Rattle.schema_defs.specs.Read.{document_of}
use Rattle.schema_defs.specs.Walks.{Goes, to_child, to_target, GoesRound, IsLoop}
use Rattle.schema_defs.proofs.Stand.{first_in}
use Rattle.schema_faults.specs.Faults.{Place, Told, first, told_of, malformed_keywords, float_marks}
use Rattle.schema_tree.specs.Fault.{memory, malformed, missing_ref, external_ref, unguarded, depth, places, float, value_number, invalid_value, bad_value, invalid_schema, unsupported, texts}
use Rattle.schema_laws.specs.FaultPlaces.{IsInside, FaultsArePlaced, NumbersArePlaced}
use Rattle.schema_laws.proofs.Told.{told_places_stand, references_stand}
use Rattle.schema_laws.proofs.ReadFrom.{locations_are_read}
use Rattle.schema_laws.proofs.Wide.{wide_numbers_stand}

-- ---- the first of what is told

first_told : (ps : List Place) (p : Place) → first ps ≡ Some p → Contains ps p
first_told [] p e = absurd (cc)
first_told (q ∷ qs) p e = let same : q ≡ p = cc in subst (Contains (q ∷ qs)) same (first_in q qs)

told_inside : (f : Told) (v : Value) → NamesDiffer v → (p : Place) → Contains (told_of f v) p → IsInside v p.0
told_inside f v d p c = ap is_some (told_places_stand f v d p c).1

first_place : (ps : List Place) (l : Location) → option_map (λ p. p.0) (first ps) ≡ Some l → (p : Place) × Contains ps p × (p.0 ≡ l)
first_place [] l e = absurd (cc)
first_place (p ∷ ps) l e = (p, first_in p ps, let same : p.0 ≡ l = cc in same)

-- ---- walks round

module _ (v : Value) (d : Document) (e : document_of Strict v ≡ Some d) where
  inside : (l m : Location) → Goes d l m → IsInside v l
  inside l _ (to_child _ s c f k) = ap is_some (locations_are_read Strict v d e l s f).1
  inside l _ (to_target _ m s q f g h) = ap is_some (locations_are_read Strict v d e l s f).1

  first_inside : (back l : Location) (ls : List Location) → GoesRound d back l ls → IsInside v l
  first_inside back l [] r = absurd r
  first_inside back l (m ∷ []) r = inside l m r.0
  first_inside back l (m ∷ n ∷ ls) r = inside l m r.0

  rest_inside : (back l : Location) (ls : List Location) → IsInside v back → GoesRound d back l ls → All (IsInside v) ls
  rest_inside back l [] b r = absurd r
  rest_inside back l (m ∷ []) b r = All-cons (IsInside v) m [] (subst (IsInside v) (sym r.1) b) (All-nil (IsInside v))
  rest_inside back l (m ∷ n ∷ ls) b r = All-cons (IsInside v) m (n ∷ ls) (first_inside back m (n ∷ ls) r.1) (rest_inside back m (n ∷ ls) b r.1)

  loop_inside : (ls : List Location) → IsLoop d ls → All (IsInside v) ls
  loop_inside [] r = absurd r
  loop_inside (l ∷ ls) r = let b = first_inside l l ls r in All-cons (IsInside v) l ls b (rest_inside l l ls b r)

pub faults_placed : FaultsArePlaced
faults_placed v d (malformed l k) h = told_inside malformed_keywords v d (l, k) (first_told (told_of malformed_keywords v) (l, k) h)
faults_placed v d (missing_ref l q) h = references_stand.bad v d (l, q) (first_told _ (l, q) h.1)
faults_placed v d (external_ref l q) h = references_stand.bad v d (l, q) (first_told _ (l, q) h.1)
faults_placed v d (float l) h =
    let p = first_place (told_of float_marks v) l h.1 in
    subst (IsInside v) p.2 (told_inside float_marks v d p.0 p.1)
faults_placed v d (unguarded w) h = loop_inside v h.1.0 h.1.1 w h.1.2
faults_placed v d memory h = h
faults_placed v d (depth w) h = h
faults_placed v d (places l n) h = h
faults_placed v d (value_number i l) h = h
faults_placed v d (invalid_value l w) h = h
faults_placed v d (bad_value l w) h = h
faults_placed v d (invalid_schema l k) h = h
faults_placed v d (unsupported l k) h = h
faults_placed v d (texts l) h = h

-- ---- numbers that are no i64

pub numbers_placed : NumbersArePlaced
numbers_placed [] n i l h = absurd h
numbers_placed (d ∷ ds) n zero l h = (d, refl, wide_numbers_stand (value_of d) n.0 l h)
numbers_placed (d ∷ ds) n (suc i) l h = numbers_placed ds n.1 i l h.1
