-- What is told of the faults of a merge.
use Rattle.std.proofs.Common.{◌≡◌, ◌⊎◌, inl, inr, ℕ, [], ◌∷◌, refl, sym, subst}
use Rattle.schema_defs.specs.Texts.{Relations}
use Rattle.schema_defs.specs.Schema.{Schema, Document}
use Rattle.schema_tree.specs.Fault.{FaultD, memory, depth, unsupported}
use Rattle.convert_walks.specs.Spot.{Spot}
use Rattle.convert_walks.specs.Told.{merge_faults}
use Rattle.merge_defs.specs.Outcome as defs
use Rattle.merge_defs.specs.Outcome.{Outcome, fault}
use Rattle.merge_parts.specs.declared.fault.MergeFault.{MergeFault}
use Rattle.merge_parts.specs.declared.fault.MergeFault.TheVariants.{Depth, Unsupported as Unmerged}
use Rattle.merge_parts.specs.declared.fault.UnsupportedMerge.{UnsupportedMerge}
use Rattle.merge_parts.specs.Steps.{Faults}
use Rattle.merge_parts.specs.View.{unsupported_view}
use Rattle.merge_walks.specs.Carried.{Walk, last_of}
use Rattle.merge_faults.specs.Faults.{unmerged_kind, TellsDeep}
use Rattle.merged_rows.specs.Told.{TellsMerge, no_memory, by_walk, by_kind}

module _ (r : Relations) (d : Document) (most n : ℕ) (o : Spot) (m : Outcome Schema) (f : FaultD) where
  deep_is : (w : Walk) → TellsDeep w f → TellsMerge (merge_faults r d most n o (fault (defs.depth w))) f
  deep_is [] t = no_memory t
  deep_is (l ∷ w) t = by_walk (last_of (l ∷ w)) (l ∷ w) [] refl t

  of_depth : (w : Walk) → m ≡ fault (defs.depth w) → TellsDeep w f → TellsMerge (merge_faults r d most n o m) f
  of_depth w e t = subst (λ (m : Outcome Schema). TellsMerge (merge_faults r d most n o m) f) (sym e) (deep_is w t)

  kind_is : (u : defs.Unsupported) → (f ≡ memory) ⊎ (f ≡ unsupported o.path (unmerged_kind u)) → TellsMerge (merge_faults r d most n o (fault (defs.unsupported u))) f
  kind_is u (inl e) = no_memory e
  kind_is u (inr e) = by_kind o.path u [] refl e

  of_kind : (u : defs.Unsupported) → m ≡ fault (defs.unsupported u) → (f ≡ memory) ⊎ (f ≡ unsupported o.path (unmerged_kind u)) → TellsMerge (merge_faults r d most n o m) f
  of_kind u e t = subst (λ (m : Outcome Schema). TellsMerge (merge_faults r d most n o m) f) (sym e) (kind_is u t)

  pub deep_told : (e : MergeFault) (w : Walk) → e ≡ Depth w → TellsDeep w f → Faults e m → TellsMerge (merge_faults r d most n o m) f
  deep_told e w h t k = let P : MergeFault → Type 0 = λ e. Faults e m in of_depth w (subst P h k).told t

  pub kind_told : (e : MergeFault) (u : UnsupportedMerge) → e ≡ Unmerged u → (f ≡ memory) ⊎ (f ≡ unsupported o.path (unmerged_kind (unsupported_view u))) → Faults e m → TellsMerge (merge_faults r d most n o m) f
  kind_told e u h t k = let P : MergeFault → Type 0 = λ e. Faults e m in of_kind (unsupported_view u) (subst P h k).told t
