use Rattle.std.proofs.Common.{refl}
use Rattle.regex_syntax.specs.Sets.{property, split_query}
use Rattle.regex_syntax.specs.Reading.{split_once}
use Rattle.ucd_sets.specs.Lookup.{by_name, by_value, property_named, value_of}
use Rattle.ucd_sets.specs.Loose.{normalize, value_named}
use Rattle.ucd_sets.specs.Names as rows
use Rattle.plain_patterns.specs.Properties.{binary_names, categories, script_codes, script_names}
use Rattle.regex_texts.proofs.examples.names_are_read.Goals as goal

pub returns : goal.returns
unfolding binary_names by_name by_value categories normalize property property_named rows.binary_names rows.category_names rows.property_names rows.script_names script_codes script_names split_once split_query value_named value_of
returns c = record {
  general_categories = refl;
  scripts_by_code = refl;
  scripts_by_name = refl;
  extensions_by_code = refl;
  extensions_by_name = refl;
  without_values = refl;
}
