-- What is left to merge of two sides' keywords of members, and how it stands while names are merged.
use Rattle.std.specs.Prelude.{ℕ, List, [], ◌∷◌, Bool, true, false, Option, None, Some, option_map, string_bytes}
use Rattle.std.specs.Borrow.{Bor}
use Rattle.schema_defs.specs.Schema.{Schema, boolean, Named, named, MaybeSchema, no_schema, the_schema, Properties, no_properties, property}
use Rattle.schema_types.specs.declared.schema.Schema as tree
use Rattle.schema_types.specs.declared.schema.ObjectValidation.{ObjectValidation}
use Rattle.schema_types.specs.View.{schema_view, members_view, named_of, properties_view}
use Rattle.merge_defs.specs.Outcome.{Note, Outcome, answer, and_then, mapped, or_else, never_unless, note_if, less_than, of_absent, of_clash}
use Rattle.merge_defs.specs.Objects.{kept_if, no_rest, put_property, two_member_rules}
use Rattle.merge_leaves.specs.Sizes.{merged_sizes_view}
use Rattle.merge_members.specs.declared.plan.Bound.{Bound}
use Rattle.merge_members.specs.declared.plan.Bound.TheVariants.{Alone, Both}
use Rattle.merge_members.specs.declared.plan.Entry.{Entry}
use Rattle.merge_members.specs.declared.plan.RestPlan as code
use Rattle.merge_members.specs.declared.plan.RestPlan.TheVariants.{Rest, Rests}
use Rattle.merge_members.specs.declared.plan.Members.{Members}
use Rattle.merge_members.specs.declared.plan.MemberPlan.{MemberPlan}
use Rattle.merge_members.specs.declared.plan.MemberPlan.TheVariants.{Told, Named as Joins}
use Rattle.merge_members.specs.declared.gathered.Gathered.{Gathered}

abbrev pub maybe_members : Option ObjectValidation → Named
maybe_members o = named_of (option_map members_view o)

abbrev pub some_schema : Option tree.Schema → MaybeSchema
some_schema None = no_schema
some_schema (Some s) = the_schema (schema_view s)

abbrev pub seen_schema : Option (Bor tree.Schema) → MaybeSchema
seen_schema None = no_schema
seen_schema (Some s) = the_schema (schema_view s.now)

-- ---- names, one after another

-- what is noted where the name is left out
abbrev pub unsaid_view : Bool → List Note
unsaid_view b = note_if b (less_than of_absent ∷ [])

-- one after another, before others
abbrev pub before : Properties → Properties → Properties
before no_properties qs = qs
before (property n s ps) qs = property n s (before ps qs)

-- one more, after those before it
abbrev pub and_last : Properties → List ℕ → Schema → Properties
and_last no_properties n s = property n s no_properties
and_last (property m t ps) n s = property m t (and_last ps n s)

abbrev pub properties_in : Gathered → Properties
properties_in g = properties_view g.properties.entries

-- where a name clashes nothing is admitted, but what comes after is merged
abbrev pub gathered_outcome : Bool → Bool → Properties → Outcome Properties → Outcome Properties
gathered_outcome object_type clashes ps after = elim clashes [ true ↦ and_then after (λ qs. never_unless object_type of_clash) | false ↦ mapped (before ps) after ]

module _ (join : Schema → Schema → Outcome Schema) where
  abbrev pub bound_outcome : Bound → Outcome Schema
  bound_outcome (Alone s) = answer [] (schema_view s)
  bound_outcome (Both s t) = or_else (boolean false) (join (schema_view s) (schema_view t))

  abbrev pub entry_then : Bool → Bool → Entry → Outcome Properties → Outcome Properties
  entry_then object_type closed e after =
      and_then (bound_outcome e.bound) (λ s. put_property object_type e.is_needed closed (unsaid_view e.is_unsaid) (string_bytes e.name) s after)

  abbrev pub entries_then : Bool → Bool → List Entry → Outcome Properties → Outcome Properties
  entries_then object_type closed [] after = after
  entries_then object_type closed (e ∷ es) after = entry_then object_type closed e (entries_then object_type closed es after)

  -- ---- what binds the names without a property

  abbrev pub rest_outcome : code.RestPlan → Outcome MaybeSchema
  rest_outcome (Rest s) = answer [] (some_schema s)
  rest_outcome (Rests s t) = mapped the_schema (or_else (boolean false) (join (schema_view s) (schema_view t)))

  -- ---- all

  abbrev pub members_outcome : Members → Outcome Named
  members_outcome m =
      mapped (kept_if m.frame.is_dropped)
      (and_then (rest_outcome m.rest) (λ rest.
      and_then (entries_then m.frame.is_object (no_rest rest) m.entries.items (answer [] no_properties)) (λ props.
      mapped (λ rules. named props no_properties rest no_schema rules) (two_member_rules m.frame.is_object (merged_sizes_view m.frame.sizes) (merged_sizes_view m.frame.others)))))

  abbrev pub member_outcome : MemberPlan → Outcome Named
  member_outcome (Told o) = answer [] (maybe_members o)
  member_outcome (Joins m) = members_outcome m
