-- The schema that keywords stand for.
use Rattle.std.specs.Prelude.{ℕ, List, map, Bool, Option, Some, None, option_map, string_bytes, if◌then◌else◌}
use Rattle.std.specs.declared.boxed.Box.{Box}
use Rattle.json_value.specs.Value.{Value}
use Rattle.json_value.specs.View.{kept_view}
use Rattle.schema_types.specs.View.{numbers_view, texts_view, schema_view, same_of, lists_of, named_of, subschemas_view, array_view, members_view}
use Rattle.schema_defs.specs.Schema.{Types, one_type, many_types, Plain, Schema, boolean, object, Same, Lists, Named}
use Rattle.convert_defs.specs.Scalars.{non_null}
use Rattle.row_findings.specs.declared.given.GivenTypes.{GivenTypes}
use Rattle.row_findings.specs.declared.given.GivenTypes.TheVariants.{One, Many}
use Rattle.row_findings.specs.declared.given.GivenValues.{GivenValues}
use Rattle.row_findings.specs.declared.given.Keywords.{Keywords}
use Rattle.row_findings.specs.declared.given.Source.{Source}
use Rattle.row_findings.specs.declared.given.Source.TheVariants.{Written, Bool as Always, Made}

abbrev pub given_types_view : GivenTypes → Types
given_types_view (One k) = one_type k
given_types_view (Many ks) = many_types ks.now.items

abbrev pub given_values_view : GivenValues → List Value
given_values_view v = if v.less_nulls then non_null (map kept_view v.listed.now.items) else map kept_view v.listed.now.items

abbrev pub plain_view : Keywords → Plain
plain_view k = record {
  title = option_map (λ t. string_bytes t.now) k.title;
  description = option_map (λ t. string_bytes t.now) k.description;
  default = option_map (λ v. kept_view v.now) k.default;
  const_value = option_map (λ v. kept_view v.now) k.const_value;
  types = option_map given_types_view k.types;
  format = option_map (λ t. string_bytes t.now) k.format;
  enum_values = option_map given_values_view k.enum_values;
  numbers = option_map numbers_view k.numbers;
  texts = option_map (λ t. texts_view t.now) k.texts;
  reference = option_map (λ t. string_bytes t.now) k.reference;
  walk = option_map (λ w. w.now) k.walk;
}

abbrev pub same_view : Keywords → Same
same_view k = same_of (option_map (λ s. subschemas_view s.now) k.subschemas)

abbrev pub lists_view : Keywords → Lists
lists_view k = lists_of (option_map (λ a. array_view a.now) k.lists)

abbrev pub named_view : Keywords → Named
named_view k = named_of (option_map (λ m. members_view m.now) k.members)

abbrev pub keywords_view : Keywords → Schema
keywords_view k = object (plain_view k) (same_view k) (lists_view k) (named_view k)

abbrev pub source_view : Source → Schema
source_view (Written s) = schema_view s.now
source_view (Always b) = boolean b
source_view (Made k) = keywords_view k.value
