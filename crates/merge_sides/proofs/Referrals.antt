-- References of two sides.
use Rattle.std.proofs.Common.{◌≡◌, List, [], ℕ, zero, Bool, true, false, ◌||◌, Some, None, bytes_eq, refl, sym, ap, ◌∙◌}
use Rattle.std.specs.Prelude.{Option, option_map, if◌then◌else◌}
use Rattle.schema_defs.specs.Schema.{Schema, boolean, object, Document}
use Rattle.schema_defs.specs.Admits.{target, target_location}
use Rattle.schema_types.specs.View.{object_view}
use Rattle.schema_types.specs.declared.schema.SchemaObject.{SchemaObject}
use Rattle.merge_defs.specs.Outcome.{Outcome, never, answer, noted, and_then, mapped}
use Rattle.merge_defs.specs.Members.{lost_sizes}
use Rattle.merge_defs.specs.Merge.{stands_for_target, target_merged, reference_to}
use Rattle.merge_walks.specs.Carried.{Walk, on_walk, to_target}
use Rattle.merge_walks.specs.Made.{settled}
use Rattle.merge_walks.specs.Walked.{join_objects}
use Rattle.schema_sameness.specs.Parts.{plain_in, same_in, lists_in, named_in}
use Rattle.merge_walked.proofs.Objects.{object_seen}
use Rattle.merge_steps.proofs.Leading.{mapped_after, noted_mapped}
use Rattle.merge_sides.specs.Met.{referred_by, referred_outcome, target_by, target_then}
use Rattle.merge_sides.specs.Referring.{reference_in, own_walk_in, referred_in, refer_alike, target_outcome, first_outcome, other_outcome, referring_outcome, sides_outcome, drops_beside}

module _ (d : Document) (join less : Schema → Schema → Outcome Schema) where
  -- the target is merged, and then what it is answered as
  pub target_then_stands : (r : List ℕ × Walk) (x : Schema) → target_outcome d join less r x ≡ target_then d r (λ t. and_then (join t x) (referred_outcome d r))
  target_then_stands r x = by (target d r.0)
    where
      by : (o : Option Schema) → mapped (settled r.1) (target_merged r.0 o (λ t. join (on_walk (to_target r.1 (target_location d r.0)) t) x)) ≡ target_by d r (λ t. and_then (join t x) (λ m. referred_by r m o)) o
      by None = refl
      by (Some t) = mapped_after (settled r.1) (join (on_walk (to_target r.1 (target_location d r.0)) t) x) (stands_for_target r.0 t)

  mapped_chosen : {A B : Type 0} (f : A → B) (b : Bool) (o p : Outcome A) → mapped f (if b then o else p) ≡ (if b then mapped f o else mapped f p)
  mapped_chosen f true o p = refl
  mapped_chosen f false o p = refl

  -- where the first side is a reference
  first_by : (s t : Schema) (f : List ℕ) (g : Option (List ℕ))
      → join_objects d zero join less (plain_in s) (same_in s) (lists_in s) (named_in s) (plain_in t) (same_in t) (lists_in t) (named_in t) (Some f) g
      ≡ (if refer_alike (Some f) g
      then mapped (settled (own_walk_in s)) (answer (lost_sizes (drops_beside s || drops_beside t)) (reference_to f))
      else noted (lost_sizes (drops_beside s)) (target_outcome d join less (f, own_walk_in s) (object (plain_in t) (same_in t) (lists_in t) (named_in t))))
  first_by s t f None = noted_mapped (lost_sizes (drops_beside s)) (target_merged f (target d f) (λ x. join (on_walk (to_target (own_walk_in s) (target_location d f)) x) (object (plain_in t) (same_in t) (lists_in t) (named_in t)))) (settled (own_walk_in s))
  first_by s t f (Some g) =
      let here = answer (lost_sizes (drops_beside s || drops_beside t)) (reference_to f) in
      let there = target_merged f (target d f) (λ x. join (on_walk (to_target (own_walk_in s) (target_location d f)) x) (object (plain_in t) (same_in t) (lists_in t) (named_in t))) in
      mapped_chosen (settled (own_walk_in s)) (bytes_eq f g) here (noted (lost_sizes (drops_beside s)) there)
      ∙ ap (λ o. if bytes_eq f g then mapped (settled (own_walk_in s)) here else o) (noted_mapped (lost_sizes (drops_beside s)) there (settled (own_walk_in s)))

  abbrev on_its_walk : Schema → List ℕ → List ℕ × Walk
  on_its_walk s q = (q, own_walk_in s)

  pub referring_first : (s t : Schema) (r : List ℕ × Walk) → t ≡ object (plain_in t) (same_in t) (lists_in t) (named_in t) → referred_in s ≡ Some r → referring_outcome d join less s t ≡ first_outcome d join less r s t
  referring_first s t r whole e = by (reference_in s) (reference_in t) e
    where
      by : (p q : Option (List ℕ)) → option_map (on_its_walk s) p ≡ Some r
          → join_objects d zero join less (plain_in s) (same_in s) (lists_in s) (named_in s) (plain_in t) (same_in t) (lists_in t) (named_in t) p q
          ≡ (if refer_alike p q
          then mapped (settled r.1) (answer (lost_sizes (drops_beside s || drops_beside t)) (reference_to r.0))
          else noted (lost_sizes (drops_beside s)) (target_outcome d join less r t))
      by None q h = cc
      by (Some f) q h =
          let is : (f, own_walk_in s) ≡ r = cc in
          first_by s t f q
          ∙ (λ i. if refer_alike (Some f) q
          then mapped (settled (is i).1) (answer (lost_sizes (drops_beside s || drops_beside t)) (reference_to (is i).0))
          else noted (lost_sizes (drops_beside s)) (target_outcome d join less (is i) (sym whole i)))

  pub referring_other : (s t : Schema) → s ≡ object (plain_in s) (same_in s) (lists_in s) (named_in s) → referred_in s ≡ None → referring_outcome d join less s t ≡ other_outcome d join less s t (referred_in t)
  referring_other s t whole e = by (reference_in s) (reference_in t) e
    where
      by : (p q : Option (List ℕ)) → option_map (on_its_walk s) p ≡ None
          → join_objects d zero join less (plain_in s) (same_in s) (lists_in s) (named_in s) (plain_in t) (same_in t) (lists_in t) (named_in t) p q
          ≡ other_outcome d join less s t (option_map (on_its_walk t) q)
      by (Some f) q h = cc
      by None None h = refl
      by None (Some g) h =
          noted_mapped (lost_sizes (drops_beside t)) (target_merged g (target d g) (λ x. join (on_walk (to_target (own_walk_in t) (target_location d g)) x) (object (plain_in s) (same_in s) (lists_in s) (named_in s)))) (settled (own_walk_in t))
          ∙ (λ i. noted (lost_sizes (drops_beside t)) (target_outcome d join less (g, own_walk_in t) (sym whole i)))

  -- two sides of which the first is an object
  pub sides_of_objects : (a b : SchemaObject) → sides_outcome d join less (object_view a) (object_view b) ≡ referring_outcome d join less (object_view a) (object_view b)
  sides_of_objects a b = (λ i. sides_outcome d join less (object_seen a i) (object_seen b i)) ∙ (λ i. referring_outcome d join less (sym (object_seen a) i) (sym (object_seen b) i))

  pub sides_with_true : (a : SchemaObject) (b : Bool) → b ≡ true → sides_outcome d join less (object_view a) (boolean b) ≡ answer [] (object_view a)
  sides_with_true a b e = (λ i. sides_outcome d join less (object_seen a i) (boolean (e i))) ∙ (λ i. answer [] (sym (object_seen a) i))

  pub sides_with_false : (a : SchemaObject) (b : Bool) → b ≡ false → sides_outcome d join less (object_view a) (boolean b) ≡ never []
  sides_with_false a b e = (λ i. sides_outcome d join less (object_seen a i) (boolean (e i)))

-- an object of the program
pub as_object_of : (o : SchemaObject) → object_view o ≡ object (plain_in (object_view o)) (same_in (object_view o)) (lists_in (object_view o)) (named_in (object_view o))
as_object_of o = object_seen o ∙ (λ i. object (plain_in (sym (object_seen o) i)) (same_in (sym (object_seen o) i)) (lists_in (sym (object_seen o) i)) (named_in (sym (object_seen o) i)))
