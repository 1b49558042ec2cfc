-- What is made of merged names, and of both sides.
use Rattle.std.proofs.Common.{◌≡◌, ℕ, List, [], ◌∷◌, ◌++◌, Bool, true, false, append-nil, sym, ap, ◌∙◌, subst}
use Rattle.std.specs.Prelude.{Result, Ok, Err, if◌then◌else◌}
use Rattle.schema_defs.specs.Schema.{MemberRules, Schema, Named, named, MaybeSchema, Properties, no_properties, no_schema}
use Rattle.enum_defs.specs.Words.{names_of}
use Rattle.merge_defs.specs.Outcome.{Note, Outcome, never, answer, noted, and_then, mapped, less_than, both_ways, note_if, of_clash, of_names}
use Rattle.merge_defs.specs.Objects.{all_names, kept_if, no_rest, properties_of, two_member_rules, two_named, two_rests}
use Rattle.merge_steps.specs.declared.stop.Stop.{Stop}
use Rattle.merge_steps.specs.declared.stop.Stop.TheVariants.{Never}
use Rattle.merge_steps.specs.Ends.{Ends, Goes, Leads}
use Rattle.merge_steps.proofs.Leading.{leads_on, writes}
use Rattle.merge_members.specs.declared.plan.Entry.{Entry}
use Rattle.merge_members.specs.declared.plan.MemberPlan.{MemberPlan}
use Rattle.merge_members.specs.Plans.{before, entries_then, gathered_outcome, member_outcome}
use Rattle.merge_members.specs.Sides.{absent_of, framed_outcome, patterns_in, properties_in_both}
use Rattle.merge_members.proofs.Names.{before_none}

-- ---- all names

module _ {X : Type 0} (v : X → Properties) (b : Bool) (ps : Properties) where
  pub all_clash : (c : Bool) (old new : List Note) → c ≡ true → new ≡ old ++ (if b then [] else less_than of_clash ∷ []) → Ends v old new (gathered_outcome b c ps (answer [] no_properties)) (Err Never)
  all_clash true old new h e = record { told = ap never (sym e) }
  all_clash false old new h e = cc

  pub all_there : (c : Bool) (ns : List Note) (x : X) → c ≡ false → v x ≡ ps → Ends v ns ns (gathered_outcome b c ps (answer [] no_properties)) (Ok x)
  all_there true ns x h e = cc
  all_there false ns x h e = record { told = ap (λ l. answer l (before ps no_properties)) (append-nil ns) ∙ ap (answer ns) (before_none ps ∙ sym e) }

-- ---- both sides

-- the plan stands for the outcome
pub planned : (join : Schema → Schema → Outcome Schema) (ns : List Note) (p : MemberPlan) (o : Outcome Named) → member_outcome join p ≡ o → Goes (member_outcome join) ns ns o (Ok p)
planned join ns p o e = record { told = ap (noted ns) (sym e) }

-- both sides are there
pub at_members : (join : Schema → Schema → Outcome Schema) (nulls object_type : Bool) (old new : List Note) (r : Result MemberPlan Stop) (m n p q : Named) → m ≡ p → n ≡ q
    → Goes (member_outcome join) old new (two_named join nulls object_type p q) r → Goes (member_outcome join) old new (two_named join nulls object_type m n) r
at_members join nulls object_type old new r m n p q e h k = subst (λ t. t) (λ i. Goes (member_outcome join) old new (two_named join nulls object_type (sym e i) (sym h i)) r) k

-- with entries for the names of both
module _ (join : Schema → Schema → Outcome Schema) (nulls object_type : Bool) (ps pp : Properties) (x xn : MaybeSchema) (c : MemberRules) (qs qq : Properties) (y yn : MaybeSchema) (d : MemberRules) where
  abbrev first : Named
  first = named ps pp x xn c

  abbrev second : Named
  second = named qs qq y yn d

  abbrev dropped : Bool
  dropped = patterns_in first second

  abbrev framed : (Bool → Outcome Properties) → Outcome Named
  framed props =
      mapped (kept_if dropped) (and_then (two_rests join x y) (λ rest. and_then (props (no_rest rest)) (λ rs. mapped (λ rules. named rs no_properties rest no_schema rules) (two_member_rules object_type c d))))

  abbrev names_then : List (List ℕ) → Bool → Outcome Properties
  names_then needed closed = properties_of join ps x qs y nulls object_type closed needed (all_names (names_of ps) (names_of qs))

  -- what is written of the notes, and what is left
  written : (old mid new : List Note) → mid ≡ old ++ note_if nulls (absent_of (all_names c.required d.required) first second) → new ≡ mid ++ note_if dropped (both_ways of_names)
      → Leads old new (two_named join nulls object_type first second) (framed (names_then (all_names c.required d.required)))
  written old mid new e h =
      leads_on (writes (note_if nulls (absent_of (all_names c.required d.required) first second)) (noted (note_if dropped (both_ways of_names)) (framed (names_then (all_names c.required d.required)))) e)
      (writes (note_if dropped (both_ways of_names)) (framed (names_then (all_names c.required d.required))) h)

  pub both_planned : (needed : List (List ℕ)) (es : List Entry) (p : MemberPlan) (old mid new : List Note)
      → needed ≡ all_names c.required d.required
      → mid ≡ old ++ note_if nulls (absent_of needed first second)
      → new ≡ mid ++ note_if dropped (both_ways of_names)
      → ((closed : Bool) → entries_then join object_type closed es (answer [] no_properties) ≡ properties_in_both join first second nulls object_type closed needed)
      → member_outcome join p ≡ framed_outcome join object_type dropped es first second
      → Goes (member_outcome join) old new (two_named join nulls object_type first second) (Ok p)
  both_planned needed es p old mid new n e h entries plan =
      let absent : mid ≡ old ++ note_if nulls (absent_of (all_names c.required d.required) first second) = e ∙ ap (λ ns. old ++ note_if nulls (absent_of ns first second)) n in
      let left : framed (names_then (all_names c.required d.required)) ≡ member_outcome join p =
      ap (λ ns. framed (names_then ns)) (sym n) ∙ (λ i. framed (λ closed. sym (entries closed) i)) ∙ sym plan in
      record { told = (written old mid new absent h).told ∙ ap (noted new) left }
