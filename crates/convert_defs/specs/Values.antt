-- What the rules of rows list, and whether a default lies within an integer's bounds.
use Rattle.std.specs.Prelude.{◌&&◌, ℤ, int_le, List, [], Bool, true, Option, Some, None, option_map}
use Rattle.json_value.specs.Value.{Value, number}
use Rattle.schema_defs.specs.Schema.{Plain, Schema, object}
use Rattle.model_defs.specs.Model.{RuleD, text_rule, allow_rule, deny_rule}
use Rattle.entry_defs.specs.Entry.{Entry, integer_entry, item, newtype_shape}
use Rattle.convert_defs.specs.Row.{Row, leaf_row, ruled_row}
use Rattle.convert_defs.specs.IntegerRow.{least_of, greatest_of, numbers_or_none, format_range, or_else}

-- ---- an integer's bounds, the format's where none is given

abbrev pub is_from : Option ℤ → ℤ → Bool
is_from None z = true
is_from (Some a) z = int_le a z

abbrev pub is_up_to : Option ℤ → ℤ → Bool
is_up_to None z = true
is_up_to (Some b) z = int_le z b

abbrev pub is_bounded : Plain → ℤ → Bool
is_bounded p z =
    is_from (or_else (least_of (numbers_or_none p.numbers)) (option_map (λ f. f.least) (format_range p))) z
    && is_up_to (or_else (greatest_of (numbers_or_none p.numbers)) (option_map (λ f. f.greatest) (format_range p))) z

abbrev pub keeps_bounds : Schema → Value → Bool
keeps_bounds (object p ss ls ns) (number z) = is_bounded p z
keeps_bounds s v = true

-- where the row is that of integers
abbrev pub fits_row : Row → Schema → Value → Bool
fits_row (leaf_row (integer_entry g)) s v = keeps_bounds s v
fits_row w s v = true

-- ---- listed values

abbrev pub listed_by : RuleD → List Value
listed_by (text_rule c) = []
listed_by (allow_rule vs) = vs
listed_by (deny_rule vs) = vs

-- what a row's rule lists
abbrev pub listed_in : Row → List Value
listed_in (ruled_row p rule) = listed_by rule
listed_in w = []

-- what the newtype holds
abbrev pub inner_of : Entry → Entry
inner_of (item n (newtype_shape e rule)) = e
inner_of e = e
