-- What is asked of both sides, part by part.
use Rattle.std.proofs.Common.{◌≡◌, ℕ, List, [], ◌++◌, Bool, ◌||◌, map, string_bytes, sym, ap, ◌∙◌, subst}
use Rattle.std.specs.Prelude.{Ok}
use Rattle.schema_defs.specs.Schema.{MemberRules, Schema, Named, named, Properties, no_properties, no_schema}
use Rattle.schema_types.specs.declared.schema.ObjectValidation.{ObjectValidation, out-ObjectValidation}
use Rattle.schema_types.specs.View.{maybe_view, members_view, properties_view}
use Rattle.enum_defs.specs.Words.{names_of}
use Rattle.merge_defs.specs.Outcome.{Note, Outcome, and_then, answer, both_ways, mapped, note_if, of_names}
use Rattle.merge_defs.specs.Objects.{all_names, forgets_rest, has_patterns, kept_if, mixes_names, names_mix, needs_more, no_rest, properties_of, two_member_rules, two_named, two_rests}
use Rattle.merge_leaves.specs.Sizes.{merged_sizes_view}
use Rattle.merge_leaves.proofs.Seen.{members_seen}
use Rattle.merge_steps.specs.Ends.{Goes}
use Rattle.merge_members.specs.declared.plan.Entry.{Entry}
use Rattle.merge_members.specs.declared.plan.MemberPlan.{MemberPlan}
use Rattle.merge_members.specs.declared.plan.Members.{Members}
use Rattle.merge_members.specs.Plans.{entries_then, member_outcome, members_outcome, rest_outcome}
use Rattle.merge_members.specs.Sides.{absent_needed, absent_of, absent_rest, framed_outcome, patterns_in, properties_in_both}
use Rattle.merge_members.proofs.Endings.{both_planned}

abbrev rules_of : ObjectValidation → MemberRules
rules_of o = record { max_properties = (out-ObjectValidation o).max_properties; min_properties = (out-ObjectValidation o).min_properties; required = map string_bytes (out-ObjectValidation o).required.keys }

abbrev props : ObjectValidation → Properties
props o = properties_view (out-ObjectValidation o).properties.entries

abbrev parts_of : ObjectValidation → Named
parts_of o = named (props o) (properties_view (out-ObjectValidation o).pattern_properties.entries) (maybe_view (out-ObjectValidation o).additional_properties) (maybe_view (out-ObjectValidation o).property_names) (rules_of o)

-- what holds of the parts holds of the views
of_both : {A : Type 0} (f : Named → Named → A) (o q : ObjectValidation) → f (parts_of o) (parts_of q) ≡ f (members_view o) (members_view q)
of_both f o q = λ i. f (sym (members_seen o) i) (sym (members_seen q) i)

pub mixed : (o q : ObjectValidation) (a b r : Bool)
    → a ≡ mixes_names (properties_view (out-ObjectValidation o).properties.entries) (properties_view (out-ObjectValidation o).pattern_properties.entries) (maybe_view (out-ObjectValidation o).property_names) (properties_view (out-ObjectValidation q).properties.entries)
    → b ≡ mixes_names (properties_view (out-ObjectValidation q).properties.entries) (properties_view (out-ObjectValidation q).pattern_properties.entries) (maybe_view (out-ObjectValidation q).property_names) (properties_view (out-ObjectValidation o).properties.entries)
    → r ≡ (a || b) → r ≡ names_mix (members_view o) (members_view q)
mixed o q a b r ea eb er = er ∙ (λ i. ea i || eb i) ∙ of_both names_mix o q

pub needed_more : (o q : ObjectValidation) (a b r : Bool)
    → a ≡ needs_more (map string_bytes (out-ObjectValidation o).required.keys) (properties_view (out-ObjectValidation q).properties.entries) (map string_bytes (out-ObjectValidation q).required.keys)
    → b ≡ needs_more (map string_bytes (out-ObjectValidation q).required.keys) (properties_view (out-ObjectValidation o).properties.entries) (map string_bytes (out-ObjectValidation o).required.keys)
    → r ≡ (a || b) → r ≡ absent_needed (members_view o) (members_view q)
needed_more o q a b r ea eb er = er ∙ (λ i. ea i || eb i) ∙ of_both absent_needed o q

pub rest_forgotten : (needed : List (List ℕ)) (o q : ObjectValidation) (a b r : Bool)
    → a ≡ forgets_rest needed (properties_view (out-ObjectValidation o).properties.entries) (properties_view (out-ObjectValidation q).properties.entries) (maybe_view (out-ObjectValidation q).additional_properties)
    → b ≡ forgets_rest needed (properties_view (out-ObjectValidation q).properties.entries) (properties_view (out-ObjectValidation o).properties.entries) (maybe_view (out-ObjectValidation o).additional_properties)
    → r ≡ (a || b) → r ≡ absent_rest needed (members_view o) (members_view q)
rest_forgotten needed o q a b r ea eb er = er ∙ (λ i. ea i || eb i) ∙ of_both (absent_rest needed) o q

pub either_patterns : (o q : ObjectValidation) (a b r : Bool)
    → a ≡ has_patterns (properties_view (out-ObjectValidation o).pattern_properties.entries) (maybe_view (out-ObjectValidation o).property_names)
    → b ≡ has_patterns (properties_view (out-ObjectValidation q).pattern_properties.entries) (maybe_view (out-ObjectValidation q).property_names)
    → r ≡ (a || b) → r ≡ patterns_in (members_view o) (members_view q)
either_patterns o q a b r ea eb er = er ∙ (λ i. ea i || eb i) ∙ of_both patterns_in o q

-- entries for the names of both
pub entries_seen : (join : Schema → Schema → Outcome Schema) (nulls object_type closed : Bool) (needed names : List (List ℕ)) (es : List Entry) (o q : ObjectValidation)
    → names ≡ all_names (names_of (properties_view (out-ObjectValidation o).properties.entries)) (names_of (properties_view (out-ObjectValidation q).properties.entries))
    → entries_then join object_type closed es (answer [] no_properties) ≡ properties_of join (properties_view (out-ObjectValidation o).properties.entries) (maybe_view (out-ObjectValidation o).additional_properties) (properties_view (out-ObjectValidation q).properties.entries) (maybe_view (out-ObjectValidation q).additional_properties) nulls object_type closed needed names
    → entries_then join object_type closed es (answer [] no_properties) ≡ properties_in_both join (members_view o) (members_view q) nulls object_type closed needed
entries_seen join nulls object_type closed needed names es o q e h =
    h ∙ ap (properties_of join (props o) (maybe_view (out-ObjectValidation o).additional_properties) (props q) (maybe_view (out-ObjectValidation q).additional_properties) nulls object_type closed needed) e
    ∙ of_both (λ m n. properties_in_both join m n nulls object_type closed needed) o q

-- the frame of both sides' sizes
pub framed_seen : (join : Schema → Schema → Outcome Schema) (o q : ObjectValidation) (m : Members)
    → rest_outcome join m.rest ≡ two_rests join (maybe_view (out-ObjectValidation o).additional_properties) (maybe_view (out-ObjectValidation q).additional_properties)
    → merged_sizes_view m.frame.sizes ≡ rules_of o → merged_sizes_view m.frame.others ≡ rules_of q
    → members_outcome join m ≡ framed_outcome join m.frame.is_object m.frame.is_dropped m.entries.items (members_view o) (members_view q)
framed_seen join o q m rest sizes others =
    (λ i. mapped (kept_if m.frame.is_dropped) (and_then (rest i) (λ r.
    and_then (entries_then join m.frame.is_object (no_rest r) m.entries.items (answer [] no_properties)) (λ ps.
    mapped (λ rules. named ps no_properties r no_schema rules) (two_member_rules m.frame.is_object (sizes i) (others i))))))
    ∙ of_both (framed_outcome join m.frame.is_object m.frame.is_dropped m.entries.items) o q

-- the plan of both sides
module _ (join : Schema → Schema → Outcome Schema) (nulls object_type : Bool) (needed : List (List ℕ)) (es : List Entry) (p : MemberPlan) (old mid new : List Note) where
  -- where the views are m and n
  abbrev Planned : List (List ℕ) → Named → Named → Type 0
  Planned names m n =
      needed ≡ names → mid ≡ old ++ note_if nulls (absent_of needed m n) → new ≡ mid ++ note_if (patterns_in m n) (both_ways of_names)
      → ((closed : Bool) → entries_then join object_type closed es (answer [] no_properties) ≡ properties_in_both join m n nulls object_type closed needed)
      → member_outcome join p ≡ framed_outcome join object_type (patterns_in m n) es m n
      → Goes (member_outcome join) old new (two_named join nulls object_type m n) (Ok p)

  members_planned : (o q : ObjectValidation) → Planned (all_names (map string_bytes (out-ObjectValidation o).required.keys) (map string_bytes (out-ObjectValidation q).required.keys)) (members_view o) (members_view q)
  members_planned o q =
      subst (λ m. Planned (all_names (rules_of o).required (rules_of q).required) m (members_view q)) (sym (members_seen o))
      (subst (λ n. Planned (all_names (rules_of o).required (rules_of q).required) (parts_of o) n) (sym (members_seen q))
      (both_planned join nulls object_type (props o) _ (maybe_view (out-ObjectValidation o).additional_properties) _ (rules_of o) (props q) _ (maybe_view (out-ObjectValidation q).additional_properties) _ (rules_of q) needed es p old mid new))

  -- d says whether keywords of names by pattern are dropped
  pub all_planned : (o q : ObjectValidation) (d : Bool) → d ≡ patterns_in (members_view o) (members_view q)
      → needed ≡ all_names (map string_bytes (out-ObjectValidation o).required.keys) (map string_bytes (out-ObjectValidation q).required.keys)
      → mid ≡ old ++ note_if nulls (absent_of needed (members_view o) (members_view q)) → new ≡ mid ++ note_if d (both_ways of_names)
      → ((closed : Bool) → entries_then join object_type closed es (answer [] no_properties) ≡ properties_in_both join (members_view o) (members_view q) nulls object_type closed needed)
      → member_outcome join p ≡ framed_outcome join object_type d es (members_view o) (members_view q)
      → Goes (member_outcome join) old new (two_named join nulls object_type (members_view o) (members_view q)) (Ok p)
  all_planned o q d e en em ew entries plan =
      members_planned o q en em (ew ∙ ap (λ b. mid ++ note_if b (both_ways of_names)) e) entries
      (plan ∙ ap (λ b. framed_outcome join object_type b es (members_view o) (members_view q)) e)
