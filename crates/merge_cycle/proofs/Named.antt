-- The names of both sides, after what binds the rest.
use Rattle.std.proofs.Common.{◌≡◌, List, [], Bool, Global, sym, ap}
use Rattle.std.specs.Prelude.{Option, Result, Ok, Err, Box}
use Rattle.schema_defs.specs.Schema.{Schema, Named, named, MaybeSchema, no_schema, Properties, no_properties}
use Rattle.schema_types.specs.declared.schema.Schema as tree
use Rattle.schema_types.specs.declared.schema.ObjectValidation.{ObjectValidation}
use Rattle.schema_types.specs.View.{maybe_view}
use Rattle.merge_defs.specs.Outcome.{Note, Outcome, answer, and_then, mapped}
use Rattle.merge_defs.specs.Objects.{kept_if, no_rest, two_member_rules}
use Rattle.merge_steps.specs.declared.stop.Stop.{Stop}
use Rattle.merge_steps.specs.Ends.{Ends, Goes, Leads}
use Rattle.merge_steps.proofs.Leading.{led, leads_as, leads_on, then_leads, mapped_leads}
use Rattle.merge_leaves.specs.Sizes.{merged_sizes_view}
use Rattle.merge_members.specs.declared.plan.Members.{Members}
use Rattle.merge_members.specs.declared.gathered.Gathered.{Gathered}
use Rattle.merge_members.specs.Plans.{entries_then, gathered_outcome, maybe_members, members_outcome, properties_in, rest_outcome}
use Rattle.merge_sides.proofs.Going.{goes_leads}
use Rattle.merge_cycle.proofs.Steps.{goes_off, off_mapped, on_mapped}

module _ (join : Schema → Schema → Outcome Schema) (m : Members) where
  abbrev made : MaybeSchema → Properties → Outcome Named
  made rest props = mapped (λ rules. named props no_properties rest no_schema rules) (two_member_rules m.frame.is_object (merged_sizes_view m.frame.sizes) (merged_sizes_view m.frame.others))

  abbrev names : Bool → Outcome Properties
  names closed = entries_then join m.frame.is_object closed m.entries.items (answer [] no_properties)

  abbrev after_rest : MaybeSchema → Outcome Named
  after_rest rest = and_then (names (no_rest rest)) (made rest)

  abbrev left_in : Gathered → Outcome Properties
  left_in g = gathered_outcome m.frame.is_object g.clashes (properties_in g) (answer [] no_properties)

  module _ (n0 n1 : List Note) (rest : Option (Box tree.Schema Global)) (s : Ends maybe_view n0 n1 (rest_outcome join m.rest) (Ok rest)) (closed : Bool) (hc : closed ≡ no_rest (maybe_view rest)) where
    to_names : Leads n0 n1 (members_outcome join m) (mapped (kept_if m.frame.is_dropped) (and_then (names closed) (made (maybe_view rest))))
    to_names = leads_as (on_mapped (kept_if m.frame.is_dropped) after_rest rest s) (ap (λ b. mapped (kept_if m.frame.is_dropped) (and_then (names b) (made (maybe_view rest)))) (sym hc))

    pub off_entries : (n2 : List Note) (e : Stop) → Goes left_in n1 n2 (names closed) (Err e) → Ends maybe_members n0 n2 (members_outcome join m) (Err e)
    off_entries n2 e g =
        let inner : Ends (λ (ps : Properties). ps) n1 n2 (names closed) (Err e) = goes_off e g in
        led to_names (off_mapped (kept_if m.frame.is_dropped) (made (maybe_view rest)) e inner)

    pub by_names : (n2 n3 : List Note) (g : Gathered) (r : Result (Option ObjectValidation) Stop) → Goes left_in n1 n2 (names closed) (Ok g)
        → Ends maybe_members n2 n3 (mapped (kept_if m.frame.is_dropped) (and_then (left_in g) (made (maybe_view rest)))) r → Ends maybe_members n0 n3 (members_outcome join m) r
    by_names n2 n3 g r h t = led (leads_on to_names (mapped_leads (kept_if m.frame.is_dropped) (then_leads (made (maybe_view rest)) (goes_leads g h)))) t
