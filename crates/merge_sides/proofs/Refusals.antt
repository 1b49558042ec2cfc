-- What is refused, and what isn't.
use Rattle.std.proofs.Common.{◌≡◌, List, Bool, true, false, refl, sym, ap, ◌∙◌, subst}
use Rattle.std.specs.Prelude.{Ok, Err, if◌then◌else◌}
use Rattle.schema_defs.specs.Schema.{Same, no_same, same_value}
use Rattle.merge_defs.specs.Outcome.{Note, Outcome, fault, noted, mapped, conditional, any_one, unsupported}
use Rattle.merge_defs.specs.Less.{is_conditional}
use Rattle.merge_defs.specs.Members.{refused}
use Rattle.merge_defs.specs.Objects.{unless_mixed}
use Rattle.merge_parts.specs.declared.fault.UnsupportedMerge.TheVariants.{Conditional, AnyBesideOne, PatternNames}
use Rattle.merge_parts.specs.declared.fault.MergeFault.TheVariants.{Unsupported}
use Rattle.merge_steps.specs.declared.stop.Stop.{Stop}
use Rattle.merge_steps.specs.declared.stop.Stop.TheVariants.{Fault}
use Rattle.merge_steps.specs.Ends.{Goes}
use Rattle.merge_sides.specs.Referring.{any_beside_one}

abbrev tested : {A : Type 0} → Bool → Bool → Outcome A → Outcome A
tested c b o = if c then fault (unsupported conditional) else if b then fault (unsupported any_one) else o

by_tests : {A : Type 0} (s : Same) (o : Outcome A) → refused s o ≡ tested (is_conditional s) (any_beside_one s) o
by_tests no_same o = refl
by_tests (same_value all any one none c) o = refl

module _ {X A : Type 0} {v : X → Outcome A} (s : Same) (o : Outcome A) (ns : List Note) where
  pub conditional_goes : (e : Stop) → e ≡ Fault (Unsupported Conditional) → is_conditional s ≡ true → Goes v ns ns (refused s o) (Err e)
  conditional_goes e is h =
      let P : Stop → Type 0 = λ f. Goes v ns ns (refused s o) (Err f) in
      subst P (sym is) (record { told = ap (noted ns) (by_tests s o ∙ ap (λ c. tested c (any_beside_one s) o) h) })

  pub any_one_goes : (e : Stop) → e ≡ Fault (Unsupported AnyBesideOne) → is_conditional s ≡ false → any_beside_one s ≡ true → Goes v ns ns (refused s o) (Err e)
  any_one_goes e is h k =
      let P : Stop → Type 0 = λ f. Goes v ns ns (refused s o) (Err f) in
      subst P (sym is) (record { told = ap (noted ns) (by_tests s o ∙ (λ i. tested (h i) (k i) o)) })

  pub none_goes : (x : X) → v x ≡ o → is_conditional s ≡ false → any_beside_one s ≡ false → Goes v ns ns (refused s o) (Ok x)
  none_goes x e h k = record { told = ap (noted ns) (by_tests s o ∙ (λ i. tested (h i) (k i) o) ∙ sym e) }

module _ {X A : Type 0} {v : X → Outcome A} (b : Bool) (o : Outcome A) (ns : List Note) where
  pub names_goes : (e : Stop) → e ≡ Fault (Unsupported PatternNames) → b ≡ true → Goes v ns ns (unless_mixed b o) (Err e)
  names_goes e is h =
      let P : Stop → Type 0 = λ f. Goes v ns ns (unless_mixed b o) (Err f) in
      subst P (sym is) (record { told = ap (noted ns) (ap (λ c. unless_mixed c o) h) })

  pub no_names_goes : (x : X) → v x ≡ o → b ≡ false → Goes v ns ns (unless_mixed b o) (Ok x)
  no_names_goes x e h = record { told = ap (noted ns) (ap (λ c. unless_mixed c o) h ∙ sym e) }

-- ---- what is refused stays refused

mapped_tested : {A B : Type 0} (f : A → B) (c b : Bool) (o : Outcome A) → mapped f (tested c b o) ≡ tested c b (mapped f o)
mapped_tested f true b o = refl
mapped_tested f false true o = refl
mapped_tested f false false o = refl

pub mapped_refused : {A B : Type 0} (f : A → B) (s : Same) (o : Outcome A) → mapped f (refused s o) ≡ refused s (mapped f o)
mapped_refused f s o = ap (mapped f) (by_tests s o) ∙ mapped_tested f (is_conditional s) (any_beside_one s) o ∙ sym (by_tests s (mapped f o))

pub mapped_mixed : {A B : Type 0} (f : A → B) (b : Bool) (o : Outcome A) → mapped f (unless_mixed b o) ≡ unless_mixed b (mapped f o)
mapped_mixed f true o = refl
mapped_mixed f false o = refl
