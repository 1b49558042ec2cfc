-- Rows of the program, as the definitions see them.
use Rattle.std.specs.Prelude.{ℕ, List, [], ◌∷◌, map, Bool, false, Option, Some, None, option_map, String, string_bytes, codes, if◌then◌else◌}
use Rattle.std.specs.List.{list_any}
use Rattle.std.specs.declared.alloc.Global.{Global}
use Rattle.json_value.specs.Value.{text}
use Rattle.json_value.specs.View.{kept_view}
use Rattle.schema_types.specs.View.{texts_view, schema_view, properties_view}
use Rattle.schema_defs.specs.Location.{Step, Location, place}
use Rattle.schema_defs.specs.Texts.{Relations}
use Rattle.schema_defs.specs.Schema.{Schema}
use Rattle.model_defs.specs.Model.{TagModel, external_tag, internal_tag, adjacent_tag, untagged, RuleD, allow_rule, deny_rule}
use Rattle.model_defs.specs.Layer.{is_null}
use Rattle.entry_defs.specs.Entry.{Entry, boolean_entry, integer_entry, text_entry, native_entry, any_entry, unit_entry, State, required, optional, stated}
use Rattle.entry_types.specs.View.{integer_view}
use Rattle.convert_defs.specs.Row as defs
use Rattle.convert_defs.specs.Scalars.{ruled_text, listed_entry, kept_texts, never_entry}
use Rattle.convert_defs.specs.Standing.{words_or}
use Rattle.convert_defs.specs.Owners.{pattern_names}
use Rattle.convert_defs.specs.Table.{reference_row}
use Rattle.row_findings.specs.Given.{given_values_view, source_view}
use Rattle.row_findings.specs.declared.leaf.Leaf.{Leaf}
use Rattle.row_findings.specs.declared.leaf.Leaf.TheVariants as leaves
use Rattle.row_findings.specs.declared.part.Keyword.{Keyword}
use Rattle.row_findings.specs.declared.part.Keyword.TheVariants as keywords
use Rattle.row_findings.specs.declared.part.Steps.{Steps}
use Rattle.row_findings.specs.declared.part.Steps.TheVariants as steps
use Rattle.row_findings.specs.declared.part.Part.{Part}
use Rattle.row_findings.specs.declared.part.PartKind.{PartKind}
use Rattle.row_findings.specs.declared.part.PartKind.TheVariants as parts
use Rattle.row_findings.specs.declared.part.FieldRow.{FieldRow}
use Rattle.row_findings.specs.declared.part.FieldState.{FieldState}
use Rattle.row_findings.specs.declared.part.FieldState.TheVariants as states
use Rattle.row_findings.specs.declared.part.OutsideRow.{OutsideRow}
use Rattle.row_findings.specs.declared.part.VariantRow.{VariantRow}
use Rattle.row_findings.specs.declared.part.VariantBody.{VariantBody}
use Rattle.row_findings.specs.declared.part.VariantBody.TheVariants as bodies
use Rattle.row_findings.specs.declared.row.Closing.{Closing}
use Rattle.row_findings.specs.declared.row.Closing.TheVariants as closings
use Rattle.row_findings.specs.declared.row.TagRow.{TagRow}
use Rattle.row_findings.specs.declared.row.TagRow.TheVariants as tags
use Rattle.row_findings.specs.declared.row.RowRule.{RowRule}
use Rattle.row_findings.specs.declared.row.RowRule.TheVariants as rules'
use Rattle.row_findings.specs.declared.row.Row.{Row}
use Rattle.row_findings.specs.declared.row.Row.TheVariants as rows
use Rattle.row_findings.specs.declared.finding.Cause.{Cause}
use Rattle.row_findings.specs.declared.finding.Cause.TheVariants as causes
use Rattle.row_findings.specs.declared.finding.Way.{Way}
use Rattle.row_findings.specs.declared.finding.Way.TheVariants as ways
use Rattle.row_findings.specs.declared.finding.NoteKind.{NoteKind}
use Rattle.row_findings.specs.declared.finding.NoteKind.TheVariants as kinds
use Rattle.row_findings.specs.declared.finding.Note.{Note}
use Rattle.row_findings.specs.declared.finding.Branch.{Branch}
use Rattle.row_findings.specs.declared.finding.Patterns.{Patterns}
use Rattle.row_findings.specs.declared.finding.Patterns.TheVariants as patterns'
use Rattle.row_findings.specs.declared.finding.Finding.{Finding}

-- ---- places

abbrev pub keyword_view : Keyword → Step
keyword_view keywords.Items = codes "items"
keyword_view keywords.AdditionalItems = codes "additionalItems"
keyword_view keywords.Properties = codes "properties"
keyword_view keywords.PatternProperties = codes "patternProperties"
keyword_view keywords.AdditionalProperties = codes "additionalProperties"
keyword_view keywords.PropertyNames = codes "propertyNames"
keyword_view keywords.AllOf = codes "allOf"
keyword_view keywords.AnyOf = codes "anyOf"
keyword_view keywords.OneOf = codes "oneOf"
keyword_view keywords.Not = codes "not"

abbrev pub steps_view : Steps → Location
steps_view steps.Here = []
steps_view (steps.Under k) = keyword_view k ∷ []
steps_view (steps.Named k n) = keyword_view k ∷ n.now ∷ []
steps_view (steps.Placed k i) = keyword_view k ∷ place i ∷ []
steps_view (steps.Branch k i n) = keyword_view k ∷ place i ∷ codes "properties" ∷ n.now ∷ []

-- ---- parts

abbrev pub part_by : PartKind → Location → Schema → defs.Part
part_by parts.Child l s = defs.child l s
part_by parts.OfBranch l s = defs.of_branch l s
part_by parts.Lone l s = defs.lone l s
part_by parts.Made l s = defs.made s

abbrev pub part_view : Part → defs.Part
part_view p = part_by p.kind (steps_view p.steps) (source_view p.source)

abbrev pub state_view : FieldState → State
state_view states.Required = required
state_view states.Optional = optional
state_view (states.Stated v) = stated (kept_view v.now)

abbrev pub field_view : FieldRow → defs.FieldRow
field_view f = record { name = f.name.now; part = part_view f.part; state = state_view f.state; nullable = f.nullable }

abbrev pub outside_view : OutsideRow → defs.OutsideRow
outside_view o = record { names = map (λ n. n.now) o.names.items; part = part_view o.part; keeps_rest = o.keeps_rest }

abbrev pub body_view : VariantBody → defs.VariantBody
body_view bodies.Unit = defs.unit_body
body_view (bodies.Part p) = defs.part_body (part_view p)
body_view (bodies.Fields fs) = defs.fields_body (map field_view fs.items)

abbrev pub variant_view : VariantRow → defs.VariantRow
variant_view w = record { name = words_or (option_map (λ n. n.now) w.name) []; body = body_view w.body }

-- ---- rows

abbrev pub closing_view : Closing → defs.Closing
closing_view (closings.ByShape b) = defs.by_shape b
closing_view closings.ByContents = defs.by_contents

abbrev pub tag_view : TagRow → TagModel
tag_view tags.External = external_tag
tag_view (tags.Internal t) = internal_tag t.now
tag_view (tags.Adjacent t c) = adjacent_tag t.now c.now
tag_view tags.Untagged = untagged

abbrev pub rule_view : RowRule → RuleD
rule_view (rules'.Allow vs) = allow_rule (given_values_view vs)
rule_view (rules'.Deny vs) = deny_rule (given_values_view vs)

abbrev pub cause_view : Cause → defs.Cause
cause_view causes.Conditional = defs.conditional
cause_view causes.Mix = defs.mix
cause_view causes.MixedEnum = defs.mixed_enum
cause_view causes.NestedEnum = defs.nested_enum
cause_view causes.Not = defs.bad_not
cause_view causes.Names = defs.names
cause_view causes.BadValue = defs.bad_value
cause_view causes.Array = defs.bad_array

-- ---- notes

abbrev pub way_view : Way → defs.Way
way_view ways.Narrowed = defs.narrowed
way_view ways.Widened = defs.widened

abbrev pub kind_view : NoteKind → defs.NoteKind
kind_view kinds.Untyped = defs.untyped_note
kind_view kinds.Null = defs.null_note
kind_view kinds.Const = defs.const_note
kind_view kinds.Integer = defs.integer_note
kind_view kinds.String = defs.string_note
kind_view kinds.Array = defs.array_note
kind_view kinds.OpenBranch = defs.open_branch_note
kind_view kinds.MixedBranches = defs.mixed_branches_note
kind_view kinds.TagAlone = defs.tag_alone_note
kind_view kinds.Boolean = defs.boolean_note
kind_view kinds.Type = defs.type_note
kind_view kinds.Overlap = defs.overlap_note
kind_view kinds.Counts = defs.counts_note
kind_view kinds.Names = defs.names_note
kind_view kinds.Not = defs.not_note

abbrev pub note_view : Note → defs.Note
note_view n = record { way = way_view n.way; kind = kind_view n.kind; place = steps_view n.place }

abbrev pub branch_view : Branch → Location × Schema
branch_view m = (steps_view m.place, schema_view m.schema.now)

abbrev pub patterns_view : Patterns → List (List ℕ)
patterns_view patterns'.Nothing = []
patterns_view (patterns'.Listed qs) = map string_bytes qs.now.items
patterns_view (patterns'.Named ps) = pattern_names (properties_view ps.now.entries)

-- ---- what depends on the judge of texts: which listed texts meet the keywords of texts

module _ (r : Relations) where
  abbrev pub leaf_view : Leaf → Entry
  leaf_view leaves.Bool = boolean_entry
  leaf_view (leaves.Integer g) = integer_entry (integer_view g)
  leaf_view leaves.Text = text_entry
  leaf_view (leaves.Ruled title texts) = ruled_text (words_or (option_map (λ t. string_bytes t.now) title) []) (Some (texts_view texts.now))
  leaf_view (leaves.Native f) = native_entry f
  leaf_view leaves.Any = any_entry
  leaf_view leaves.Unit = unit_entry
  leaf_view (leaves.Listed title vs texts) =
      listed_entry (list_any is_null (given_values_view vs)) (words_or (option_map (λ t. string_bytes t.now) title) [])
      (kept_texts r (option_map (λ t. texts_view t.now) texts) (given_values_view vs))
  leaf_view (leaves.Constant title t texts) =
      listed_entry false (words_or (option_map (λ n. string_bytes n.now) title) []) (kept_texts r (option_map (λ x. texts_view x.now) texts) (text t.now ∷ []))
  leaf_view (leaves.Never title) = never_entry (words_or (option_map (λ t. string_bytes t.now) title) [])

  abbrev pub row_view : Row → defs.Row
  row_view (rows.Leaf e) = defs.leaf_row (leaf_view e)
  row_view (rows.Reference q) = reference_row (Some (string_bytes q.now))
  row_view (rows.AsItIs p) = defs.as_it_is_row (part_view p)
  row_view (rows.Option p) = defs.option_row (part_view p)
  row_view (rows.Ruled p rule) = defs.ruled_row (part_view p) (rule_view rule)
  row_view (rows.Vec p) = defs.vec_row (part_view p)
  row_view (rows.Set p) = defs.set_row (part_view p)
  row_view (rows.Array p n) = defs.array_row (part_view p) n
  row_view (rows.Tuple ps n p) = defs.tuple_row (map part_view ps.items) n (part_view p)
  row_view (rows.Map k p) = defs.map_row (part_view k) (part_view p)
  row_view (rows.PatternMap ps p) = defs.pattern_map_row (pattern_names (properties_view ps.now.entries)) (part_view p)
  row_view (rows.Struct closed fs o) = defs.struct_row closed (map field_view fs.items) (option_map outside_view o)
  row_view (rows.Enum tag closing ws) = defs.enum_row (tag_view tag) (closing_view closing) (map variant_view ws.items)
  row_view (rows.Merged ps) = defs.merged_row (map part_view ps.items)
  row_view (rows.Refused c) = defs.refused_row (cause_view c)

  abbrev pub finding_view : Finding → defs.Finding
  finding_view f = record {
    row = row_view f.row;
    notes = map note_view f.notes.items;
    patterns = patterns_view f.patterns;
    branches = map branch_view f.branches.items;
    places = f.places;
  }
