-- The keywords of members, made of the properties and then of the sizes.
use Rattle.std.proofs.Common.{◌≡◌, List, Bool, refl, ap, ◌∙◌}
use Rattle.std.specs.Prelude.{Result, Ok, Err, IsErrAnd}
use Rattle.schema_defs.specs.Schema.{MemberRules, Named, named, MaybeSchema, no_schema, Properties, no_properties}
use Rattle.merge_defs.specs.Outcome.{Note, Outcome, and_then, mapped}
use Rattle.merge_defs.specs.Objects.{kept_if}
use Rattle.merge_steps.specs.declared.stop.Stop.{Stop}
use Rattle.merge_steps.specs.Ends.{Ends}
use Rattle.merge_steps.proofs.Ending.{maps, maps_off, off, on, same_error}

module _ (dropped : Bool) (rest : MaybeSchema) (props : Outcome Properties) (rules : Outcome MemberRules) where
  abbrev with_rules : Properties → MemberRules → Named
  with_rules ps c = named ps no_properties rest no_schema c

  abbrev with_props : Properties → Outcome Named
  with_props ps = mapped (with_rules ps) rules

  abbrev made : Outcome Named
  made = mapped (kept_if dropped) (and_then props with_props)

  module _ {X Y : Type 0} (v : X → Properties) (w : Y → Named) where
    pub props_stop : (old new : List Note) (r : Result Y Stop) (e : Stop) → IsErrAnd r (λ f. f ≡ e) → Ends v old new props (Err e) → Ends w old new made r
    props_stop old new r e h s =
        same_error (λ p. Ends w old new made p) r e h
        (maps_off {X = Named} {v = λ (n : Named). n} (kept_if dropped) e (off with_props e s))

    pub rules_stop : {Z : Type 0} {u : Z → MemberRules} (old mid new : List Note) (x : X) (r : Result Y Stop) (e : Stop) → IsErrAnd r (λ f. f ≡ e) → Ends v old mid props (Ok x) → Ends u mid new rules (Err e) → Ends w old new made r
    rules_stop {Z} {u} old mid new x r e h s t =
        same_error (λ p. Ends w old new made p) r e h
        (maps_off {X = Named} {v = λ (n : Named). n} (kept_if dropped) e (on with_props x s (maps_off (with_rules (v x)) e t)))

    pub made_there : {Z : Type 0} {u : Z → MemberRules} (old mid new : List Note) (x : X) (z : Z) (y : Y) (n : Named) → Ends v old mid props (Ok x) → Ends u mid new rules (Ok z)
        → n ≡ named (v x) no_properties rest no_schema (u z) → w y ≡ kept_if dropped n → Ends w old new made (Ok y)
    made_there {Z} {u} old mid new x z y n s t e h =
        maps {v = λ (m : Named). m} (kept_if dropped) (with_rules (v x) (u z)) y
        (on with_props x s (maps {w = λ (m : Named). m} (with_rules (v x)) z (with_rules (v x) (u z)) t refl))
        (h ∙ ap (kept_if dropped) e)
