-- A reference beside another side: its target is asked for.
use Rattle.std.proofs.Common.{◌≡◌, ℕ, List, ◌++◌, Bool, sym}
use Rattle.std.specs.Prelude.{Result, Ok, Err}
use Rattle.schema_defs.specs.Schema as defs
use Rattle.schema_defs.specs.Schema.{Document}
use Rattle.schema_types.specs.View.{schema_view}
use Rattle.schema_types.specs.declared.schema.Schema.{Schema}
use Rattle.merge_defs.specs.Outcome.{Note, Outcome, noted, and_then}
use Rattle.merge_defs.specs.Members.{lost_sizes}
use Rattle.merge_walks.specs.Carried.{Walk}
use Rattle.merge_steps.specs.declared.stop.Stop.{Stop}
use Rattle.merge_steps.specs.Ends.{Goes}
use Rattle.merge_steps.proofs.Leading.{writes, leads_by, led_goes}
use Rattle.merge_sides.specs.declared.met.Met.TheVariants.{Target}
use Rattle.merge_sides.specs.declared.met.Asked.{Asked}
use Rattle.merge_sides.specs.Met.{met_outcome, referred_view, referred_outcome, target_then}
use Rattle.merge_sides.specs.Referring.{target_outcome}
use Rattle.merge_sides.proofs.Going.{goes_here, goes_leads, goes_off}
use Rattle.merge_sides.proofs.Referrals.{target_then_stands}

module _ (d : Document) (join less : defs.Schema → defs.Schema → Outcome defs.Schema) (old new : List Note) (b : Bool) (r : List ℕ × Walk) (x : defs.Schema) where
  -- the merge with the target, and what stands for it
  abbrev behind_target : defs.Schema → Outcome defs.Schema
  behind_target t = and_then (join t x) (referred_outcome d r)

  abbrev Found : Result Schema Stop → Type 0
  Found y = (k : defs.Schema → Outcome defs.Schema) (ns : List Note) → Goes (λ s. k (schema_view s)) ns ns (target_then d r k) y

  pub asks : (a : Asked) → new ≡ old ++ lost_sizes b → Found (Ok a.target) → schema_view a.other ≡ x → referred_view a.rest ≡ r
      → Goes (met_outcome d join less) old new (noted (lost_sizes b) (target_outcome d join less r x)) (Ok (Target a))
  asks a e found ho hr =
      led_goes (writes (lost_sizes b) (target_outcome d join less r x) e)
      (led_goes (leads_by (target_then_stands d join less r x))
      (led_goes (goes_leads a.target (found behind_target new)) (goes_here (Target a) (λ i. and_then (join (schema_view a.target) (sym ho i)) (referred_outcome d (sym hr i))))))

  pub asks_nothing : (f : Stop) → new ≡ old ++ lost_sizes b → Found (Err f) → Goes (met_outcome d join less) old new (noted (lost_sizes b) (target_outcome d join less r x)) (Err f)
  asks_nothing f e found =
      led_goes (writes (lost_sizes b) (target_outcome d join less r x) e) (led_goes (leads_by (target_then_stands d join less r x)) (goes_off f (found behind_target new)))
