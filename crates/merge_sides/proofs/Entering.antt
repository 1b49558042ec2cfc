-- A side that is met.
use Rattle.std.proofs.Common.{◌≡◌, ℕ, List, Bool, true, false, sym, ap, ◌∙◌}
use Rattle.std.specs.Prelude.{Ok, Err}
use Rattle.schema_defs.specs.Schema as defs
use Rattle.schema_types.specs.View.{schema_view}
use Rattle.schema_types.specs.declared.schema.Schema.{Schema}
use Rattle.merge_defs.specs.Outcome.{Note, Outcome, fault, depth, noted}
use Rattle.merge_walks.specs.Carried.{Walk, has_more_steps, opened}
use Rattle.merge_walks.specs.Walked.{walk_of, unless_deep}
use Rattle.merge_parts.specs.declared.fault.MergeFault.TheVariants.{Depth}
use Rattle.merge_steps.specs.declared.stop.Stop.TheVariants.{Fault}
use Rattle.merge_steps.specs.Ends.{Goes}

module _ (most : ℕ) (s : defs.Schema) (k : defs.Schema → Outcome defs.Schema) (ns : List Note) (w : Walk) where
  abbrev deep_by : Bool → Walk → Outcome defs.Schema
  deep_by b v = elim b [ true ↦ fault (depth v) | false ↦ k (opened s) ]

  by_steps : (b : Bool) → w ≡ walk_of s → has_more_steps most w ≡ b → unless_deep most s k ≡ deep_by b w
  by_steps b e h = (λ i. deep_by (has_more_steps most (sym e i)) (sym e i)) ∙ ap (λ c. deep_by c w) h

  pub is_deep : {X : Type 0} {v : X → Outcome defs.Schema} → w ≡ walk_of s → has_more_steps most w ≡ true → Goes v ns ns (unless_deep most s k) (Err (Fault (Depth w)))
  is_deep e h = record { told = ap (noted ns) (by_steps true e h) }

  pub is_met : (x : Schema) → w ≡ walk_of s → has_more_steps most w ≡ false → schema_view x ≡ opened s → Goes (λ t. k (schema_view t)) ns ns (unless_deep most s k) (Ok x)
  is_met x e h o = record { told = ap (noted ns) (by_steps false e h ∙ ap k (sym o)) }
