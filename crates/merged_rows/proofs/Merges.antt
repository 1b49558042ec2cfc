-- What a row merges, by its reference and by its first part.
use Rattle.std.proofs.Common.{◌≡◌, ℕ, List, [], ◌∷◌, Bool, true, false, Option, Some, None, unwrap_or, refl, sym, ap, ◌∙◌, append-nil, subst}
use Rattle.std.specs.Prelude.{if◌then◌else◌}
use Rattle.schema_defs.specs.Schema.{Schema, boolean, object, Document, schema}
use Rattle.schema_defs.specs.Admits.{target, target_location}
use Rattle.schema_defs.specs.Children.{reference_of}
use Rattle.schema_defs.specs.Location.{Location}
use Rattle.convert_defs.specs.Convert.{Handed}
use Rattle.convert_defs.specs.Row.{Part, child, of_branch, lone, made}
use Rattle.convert_walks.specs.Spot.{Spot, Branches, part_schema, part_spot}
use Rattle.convert_walks.specs.Merging.{carried_parts, merged_at, merged_by, with_target}
use Rattle.merge_defs.specs.Outcome.{Note, Outcome, never}
use Rattle.merge_parts.specs.declared.fault.MergeFault.{MergeFault}
use Rattle.merge_parts.specs.Steps.{Faults, Steps}
use Rattle.merge_walks.specs.Carried.{carried, on_walk, to_target}
use Rattle.merge_walks.specs.Walked.{join_by_walks, merge_by_walks, with_by_walks}
use Rattle.row_findings.specs.declared.part.Steps as code
use Rattle.row_findings.specs.declared.part.PartKind.{PartKind}
use Rattle.row_findings.specs.declared.part.PartKind.TheVariants as parts
use Rattle.row_findings.specs.View.{part_by}
use Rattle.merged_rows.specs.declared.place.Place.{Place}
use Rattle.merged_rows.specs.declared.start.Start.{Start}
use Rattle.merged_rows.specs.Rows.{begins_made, carried_part, merged_without, subschemas_in, without_reference, without_subschemas}
use Rattle.merged_rows.specs.Starts.{handed_to, is_boolean, place_spot, spot_of, walk_by}

-- never, without notes
pub never_given : (ns : List Note) → Steps {A = Schema} ns ns (never []) None
never_given ns = record { told = ap never (append-nil ns) }

-- ---- a reference

module _ (d : Document) (most n : ℕ) (o : Spot) (q : List ℕ) (s : Schema) where
  pub nowhere : (ns : List Note) (t : Option Schema) → t ≡ None → Steps ns ns (with_target d most n o q t s) None
  nowhere ns t e = subst (λ (t : Option Schema). Steps ns ns (with_target d most n o q t s) None) (sym e) (never_given ns)

  pub at_target : (old new : List Note) (m : Option Schema) (t : Option Schema) (x : Schema) → t ≡ Some x → Steps old new (join_by_walks d most n (on_walk (to_target o.walk (target_location d q)) x) s) m → Steps old new (with_target d most n o q t s) m
  at_target old new m t x e h = subst (λ (t : Option Schema). Steps old new (with_target d most n o q t s) m) (sym e) h

  pub refused_there : (f : MergeFault) (t : Option Schema) (x : Schema) → t ≡ Some x → Faults f (join_by_walks d most n (on_walk (to_target o.walk (target_location d q)) x) s) → Faults f (with_target d most n o q t s)
  refused_there f t x e h = subst (λ (t : Option Schema). Faults f (with_target d most n o q t s)) (sym e) h

-- ---- parts

-- a row without a reference
without : (d : Document) (most n : ℕ) (o : Spot) (s : Schema) (ps : List Part) → is_boolean s ≡ false → reference_of s ≡ None → merged_at d most n o s ps ≡ merged_without d most n o s ps
without d most n o (boolean b) ps h e = cc
without d most n o (object p ss ls ns) [] h e = ap (merged_by d most n o p ss ls ns []) e
without d most n o (object p ss ls ns) (child k s ∷ ps) h e = ap (merged_by d most n o p ss ls ns (child k s ∷ ps)) e
without d most n o (object p ss ls ns) (of_branch k s ∷ ps) h e = ap (merged_by d most n o p ss ls ns (of_branch k s ∷ ps)) e
without d most n o (object p ss ls ns) (lone k s ∷ ps) h e = ap (merged_by d most n o p ss ls ns (lone k s ∷ ps)) e
without d most n o (object p ss ls ns) (made s ∷ ps) h e = ap (merged_by d most n o p ss ls ns (made s ∷ ps)) e

with_it : (d : Document) (most n : ℕ) (o : Spot) (s : Schema) (ps : List Part) (q : List ℕ) → is_boolean s ≡ false → reference_of s ≡ Some q
    → merged_at d most n o s ps ≡ with_target d most n o q (target d q) (carried o.walk (without_reference s))
with_it d most n o (boolean b) ps q h e = cc
with_it d most n o (object p ss ls ns) ps q h e = ap (merged_by d most n o p ss ls ns ps) e

module _ (d : Document) (most n : ℕ) (o : Spot) (s : Schema) (ps : List Part) where
  pub by_target : (q : List ℕ) (old new : List Note) (m : Option Schema) → is_boolean s ≡ false → reference_of s ≡ Some q
      → Steps old new (with_target d most n o q (target d q) (carried o.walk (without_reference s))) m → Steps old new (merged_at d most n o s ps) m
  by_target q old new m h e t = subst (λ (u : Outcome Schema). Steps old new u m) (sym (with_it d most n o s ps q h e)) t

  pub by_target_refused : (q : List ℕ) (f : MergeFault) → is_boolean s ≡ false → reference_of s ≡ Some q
      → Faults f (with_target d most n o q (target d q) (carried o.walk (without_reference s))) → Faults f (merged_at d most n o s ps)
  by_target_refused q f h e t = subst (λ (u : Outcome Schema). Faults f u) (sym (with_it d most n o s ps q h e)) t

  pub by_parts : (old new : List Note) (m : Option Schema) → is_boolean s ≡ false → reference_of s ≡ None → Steps old new (merged_without d most n o s ps) m → Steps old new (merged_at d most n o s ps) m
  by_parts old new m h e t = subst (λ (u : Outcome Schema). Steps old new u m) (sym (without d most n o s ps h e)) t

  pub by_parts_refused : (f : MergeFault) → is_boolean s ≡ false → reference_of s ≡ None → Faults f (merged_without d most n o s ps) → Faults f (merged_at d most n o s ps)
  by_parts_refused f h e t = subst (λ (u : Outcome Schema). Faults f u) (sym (without d most n o s ps h e)) t

  pub of_boolean : (ns : List Note) → is_boolean s ≡ true → Steps ns ns (merged_at d most n o s ps) None
  of_boolean ns h = ends s h where
    ends : (s : Schema) → is_boolean s ≡ true → Steps ns ns (merged_at d most n o s ps) None
    ends (boolean b) h = never_given ns
    ends (object p ss ls ns') h = cc

  -- a body and its subschemas, or members
  abbrev chosen : Bool → Outcome Schema
  chosen b = if b then with_by_walks d most n (carried o.walk (without_subschemas s)) (subschemas_in s) else merge_by_walks d most n (carried_parts o ps)

  pub body_first : (old new : List Note) (m : Option Schema) → begins_made ps ≡ true → Steps old new (with_by_walks d most n (carried o.walk (without_subschemas s)) (subschemas_in s)) m → Steps old new (merged_without d most n o s ps) m
  body_first old new m h t = subst (λ (b : Bool). Steps old new (chosen b) m) (sym h) t

  pub body_refused : (f : MergeFault) → begins_made ps ≡ true → Faults f (with_by_walks d most n (carried o.walk (without_subschemas s)) (subschemas_in s)) → Faults f (merged_without d most n o s ps)
  body_refused f h t = subst (λ (b : Bool). Faults f (chosen b)) (sym h) t

  pub members_first : (old new : List Note) (m : Option Schema) → begins_made ps ≡ false → Steps old new (merge_by_walks d most n (carried_parts o ps)) m → Steps old new (merged_without d most n o s ps) m
  members_first old new m h t = subst (λ (b : Bool). Steps old new (chosen b) m) (sym h) t

  pub members_refused : (f : MergeFault) → begins_made ps ≡ false → Faults f (merge_by_walks d most n (carried_parts o ps)) → Faults f (merged_without d most n o s ps)
  members_refused f h t = subst (λ (b : Bool). Faults f (chosen b)) (sym h) t

-- ---- whatever the name

module _ (t : Start) (ks : List code.Steps) (h g : Handed) where
  pub carried_alike : (ps : List Part) → carried_parts (spot_of t ks h) ps ≡ carried_parts (spot_of t ks g) ps
  carried_alike [] = refl
  carried_alike (child k s ∷ ps) = ap (schema (carried_part (spot_of t ks g) (child k s))) (carried_alike ps)
  carried_alike (of_branch k s ∷ ps) = ap (schema (carried_part (spot_of t ks g) (of_branch k s))) (carried_alike ps)
  carried_alike (lone k s ∷ ps) = ap (schema (carried_part (spot_of t ks g) (lone k s))) (carried_alike ps)
  carried_alike (made s ∷ ps) = ap (schema (carried_part (spot_of t ks g) (made s))) (carried_alike ps)

schema_by : (kind : PartKind) (k : Location) (s : Schema) → part_schema (part_by kind k s) ≡ s
schema_by parts.Child k s = refl
schema_by parts.OfBranch k s = refl
schema_by parts.Lone k s = refl
schema_by parts.Made k s = refl

-- a part as merges see it, by the place where it stands
pub part_carried : (p : Start) (ks : List code.Steps) (kind : PartKind) (k : Location) (s y : Schema) (x : Place) (t : Start) (ms : Branches) → ms ≡ [] → t ≡ unwrap_or x.start p
    → ((h : Handed) → place_spot p x (handed_to h (part_by kind k s)) ≡ part_spot (spot_of p ks h) ms (part_by kind k s)) → y ≡ carried (walk_by t.walk x.trail.items) s → y ≡ carried_part (spot_of p ks None) (part_by kind k s)
part_carried p ks kind k s y x t ms e f g h =
    h ∙ ap (λ t. carried (walk_by t.walk x.trail.items) s) f ∙ ap (λ o. carried o.walk s) (g None) ∙ ap (λ ms. carried (part_spot (spot_of p ks None) ms (part_by kind k s)).walk s) e
    ∙ ap (carried (part_spot (spot_of p ks None) [] (part_by kind k s)).walk) (sym (schema_by kind k s))
