-- A merge that was refused is told at its place.
use Rattle.std.proofs.Common.{◌≡◌, inl, inr, [], ◌∷◌, refl, sym, subst}
use Rattle.std.specs.Prelude.{Option, Result, Ok, Err, IfErr}
use Rattle.schema_defs.specs.Location.{Location}
use Rattle.schema_defs.specs.Schema.{Schema}
use Rattle.schema_types.specs.declared.schema.Schema as tree
use Rattle.schema_tree.specs.declared.fault.Fault.{Fault}
use Rattle.schema_tree.specs.Fault.{FaultD, fault_view, unsupported}
use Rattle.merge_defs.specs.Outcome as defs
use Rattle.merge_defs.specs.Outcome.{Outcome, fault}
use Rattle.merge_parts.specs.declared.fault.MergeFault.{MergeFault}
use Rattle.merge_parts.specs.declared.fault.MergeFault.TheVariants.{Depth, Unsupported as Unmerged}
use Rattle.merge_parts.specs.declared.fault.UnsupportedMerge.{UnsupportedMerge}
use Rattle.merge_parts.specs.Steps.{Faults}
use Rattle.merge_parts.specs.View.{unsupported_view}
use Rattle.merge_walks.specs.Carried.{Walk}
use Rattle.merge_walks.specs.Told.{cannot, too_deep, told_at}
use Rattle.schema_merge.specs.declared.told.Merged.{Merged}
use Rattle.schema_merge.specs.Ordered.{ordered}
use Rattle.merge_faults.specs.Faults.{unmerged_kind, TellsDeep}
use Rattle.schema_merge.specs.Refusals.{Refused, TellsRefusal, by_walk, by_kind}

module _ (l : Location) (o : Outcome Schema) (f : FaultD) where
  deep_is : (w : Walk) → TellsDeep w f → Refused (told_at l (ordered {A = Schema} (fault (defs.depth w)))) f
  deep_is [] t = inl t
  deep_is (k ∷ w) t = inr (too_deep (k ∷ w), refl, subst (λ g. TellsRefusal (too_deep (k ∷ w)) g) (sym t) (by_walk k w))

  of_depth : (w : Walk) → o ≡ fault (defs.depth w) → TellsDeep w f → Refused (told_at l (ordered o)) f
  of_depth w e t = subst (λ (o : Outcome Schema). Refused (told_at l (ordered o)) f) (sym e) (deep_is w t)

  kind_is : (u : defs.Unsupported) → f ≡ unsupported l (unmerged_kind u) → Refused (told_at l (ordered {A = Schema} (fault (defs.unsupported u)))) f
  kind_is u t = inr (cannot u l, refl, subst (λ g. TellsRefusal (cannot u l) g) (sym t) (by_kind u l))

  of_kind : (u : defs.Unsupported) → o ≡ fault (defs.unsupported u) → f ≡ unsupported l (unmerged_kind u) → Refused (told_at l (ordered o)) f
  of_kind u e t = subst (λ (o : Outcome Schema). Refused (told_at l (ordered o)) f) (sym e) (kind_is u t)

  pub deep_refused : (e : MergeFault) (w : Walk) → e ≡ Depth w → TellsDeep w f → Faults e o → Refused (told_at l (ordered o)) f
  deep_refused e w h t k = let P : MergeFault → Type 0 = λ e. Faults e o in of_depth w (subst P h k).told t

  pub kind_refused : (e : MergeFault) (u : UnsupportedMerge) → e ≡ Unmerged u → f ≡ unsupported l (unmerged_kind (unsupported_view u)) → Faults e o → Refused (told_at l (ordered o)) f
  kind_refused e u h t k = let P : MergeFault → Type 0 = λ e. Faults e o in of_kind (unsupported_view u) (subst P h k).told t

pub refuses : (r : Result Merged Fault) (found : Result (Option tree.Schema) MergeFault) (l place : Location) (o : Outcome Schema) → l ≡ place → IfErr found (λ e. Faults e o)
    → IfErr r (λ f. (p : Outcome Schema) → IfErr found (λ e. Faults e p) → Refused (told_at l (ordered p)) (fault_view f))
    → IfErr r (λ f. Refused (told_at place (ordered o)) (fault_view f))
refuses (Ok m) found l place o e h k = tt
refuses (Err x) found l place o e h k = subst (λ q. Refused (told_at q (ordered o)) (fault_view x)) e (k o h)
