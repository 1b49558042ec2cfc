-- What stands for the target of a reference, where it has one.
use Rattle.std.proofs.Common.{◌≡◌, ℕ, List, [], ◌∷◌, ◌++◌, Bool, true, false, not, Some, None, sym, ap, ◌∙◌, append-nil, subst}
use Rattle.std.specs.Prelude.{Option, Result, Ok, Err, if◌then◌else◌}
use Rattle.schema_defs.specs.Schema as defs
use Rattle.schema_defs.specs.Schema.{Document}
use Rattle.schema_defs.specs.Admits.{target_location}
use Rattle.schema_types.specs.View.{schema_view}
use Rattle.schema_types.specs.declared.schema.Schema.{Schema}
use Rattle.merge_defs.specs.Outcome.{Note, Outcome, never, answer, noted, mapped, note_if, more_than, of_reference}
use Rattle.merge_defs.specs.Alike.{roughly, wholly}
use Rattle.merge_defs.specs.Members.{lost_sizes}
use Rattle.merge_defs.specs.Merge.{stands_for_target, reference_to}
use Rattle.merge_walks.specs.Carried.{Walk, on_walk, to_target}
use Rattle.merge_walks.specs.Made.{settled}
use Rattle.merge_steps.specs.declared.stop.Stop.{Stop}
use Rattle.merge_steps.specs.declared.stop.Stop.TheVariants.{Never}
use Rattle.merge_steps.specs.Ends.{Ends, Goes}
use Rattle.merge_sides.specs.Met.{referred_by, target_by}

module _ (w : Walk) (q : List ℕ) (t m : defs.Schema) (s : Schema) where
  abbrev stands_by : Bool → Outcome defs.Schema
  stands_by b = mapped (settled w) (if b then answer (lost_sizes (not (wholly m t))) (reference_to q) else answer [] m)

  pub settles : (ns : List Note) → roughly m t ≡ false → schema_view s ≡ settled w m → Ends schema_view ns ns (mapped (settled w) (stands_for_target q t m)) (Ok s)
  settles ns h e = record { told = ap (λ b. noted ns (stands_by b)) h ∙ (λ i. answer (append-nil ns i) (sym e i)) }

  pub refers : (old new : List Note) (b : Bool) → roughly m t ≡ true → b ≡ not (wholly m t) → new ≡ old ++ note_if b (more_than of_reference ∷ []) → schema_view s ≡ settled w (reference_to q)
      → Ends schema_view old new (mapped (settled w) (stands_for_target q t m)) (Ok s)
  refers old new b h hb hn e =
      record { told = ap (λ c. noted old (stands_by c)) h ∙ (λ i. answer (old ++ note_if (sym hb i) (more_than of_reference ∷ [])) (settled w (reference_to q))) ∙ (λ i. answer (sym hn i) (sym e i)) }

module _ (r : List ℕ × Walk) (o : Option defs.Schema) where
  pub no_target : {X : Type 0} {v : X → defs.Schema} (m : defs.Schema) (ns : List Note) → o ≡ None → Ends v ns ns (referred_by r m o) (Err Never)
  no_target m ns e = record { told = ap (λ p. noted ns (referred_by r m p)) e ∙ ap never (append-nil ns) }

  pub with_target : (m t : defs.Schema) (old new : List Note) (x : Result Schema Stop) → o ≡ Some t → Ends schema_view old new (mapped (settled r.1) (stands_for_target r.0 t m)) x → Ends schema_view old new (referred_by r m o) x
  with_target m t old new x e s = let P : Option defs.Schema → Type 0 = λ p. Ends schema_view old new (referred_by r m p) x in subst P (sym e) s

  module _ (d : Document) (k : defs.Schema → Outcome defs.Schema) (ns : List Note) where
    pub nowhere : {X : Type 0} {v : X → Outcome defs.Schema} → o ≡ None → Goes v ns ns (target_by d r k o) (Err Never)
    nowhere e = record { told = ap (λ p. noted ns (target_by d r k p)) e ∙ ap never (append-nil ns) }

    pub at_target : (t : defs.Schema) (s : Schema) → o ≡ Some t → schema_view s ≡ on_walk (to_target r.1 (target_location d r.0)) t → Goes (λ x. k (schema_view x)) ns ns (target_by d r k o) (Ok s)
    at_target t s e h = record { told = ap (λ p. noted ns (target_by d r k p)) e ∙ ap (λ x. noted ns (k x)) (sym h) }
