-- Kinds of listed values, and values that are listed without a type, where no owner and no null is among them.
use Rattle.std.specs.Prelude.{◌&&◌, ◌||◌, not, List, Bool, Some, if◌then◌else◌}
use Rattle.std.specs.List.{list_all}
use Rattle.json_value.specs.Value.{Value}
use Rattle.schema_defs.specs.declared.InstanceType.TheVariants.{Integer}
use Rattle.schema_defs.specs.Schema.{Plain}
use Rattle.model_defs.specs.Model.{allow_rule}
use Rattle.model_defs.specs.Layer.{is_null, is_text, is_boolean}
use Rattle.convert_defs.specs.Row.{leaf_row, ruled_row, refused_row, made, mixed_enum, Finding, plainly}
use Rattle.convert_defs.specs.Standing.{no_keyword, of_type, alone}
use Rattle.convert_defs.specs.Scalars.{is_number, is_owner, texts_entry, wanted_of, distinct, texts_in, boolean_finding}
use Rattle.row_findings.specs.declared.values.ValueKind.{ValueKind}
use Rattle.row_findings.specs.declared.values.ValueKind.TheVariants as kinds

abbrev pub is_of_kind : ValueKind → Value → Bool
is_of_kind kinds.Null = is_null
is_of_kind kinds.Boolean = is_boolean
is_of_kind kinds.Number = is_number
is_of_kind kinds.Text = is_text
is_of_kind kinds.Owner = is_owner

-- of listed values with nulls left out or not: the value is a null that is left out, it is that or passes, and it isn't and passes
abbrev pub left_out : Bool → Value → Bool
left_out less_nulls v = less_nulls && is_null v

abbrev pub passes : Bool → (Value → Bool) → Value → Bool
passes less_nulls test v = left_out less_nulls v || test v

abbrev pub stands : Bool → (Value → Bool) → Value → Bool
stands less_nulls test v = not (left_out less_nulls v) && test v

abbrev pub is_text_or_null : Value → Bool
is_text_or_null v = is_text v || is_null v

abbrev pub of_one_kind : Plain → List Value → Finding
of_one_kind p vs =
    if list_all is_text vs then plainly (leaf_row (texts_entry (wanted_of p) (distinct (texts_in vs))))
    else if list_all is_boolean vs then boolean_finding (Some vs)
    else if list_all is_number vs then plainly (ruled_row (made (alone (of_type Integer no_keyword))) (allow_rule vs))
    else plainly (refused_row mixed_enum)
