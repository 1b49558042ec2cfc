-- What a plain judge answers by: a table of patterns, each with the texts that have it, and the six formats.
use Rattle.std.specs.Prelude.{ℕ, List, Bool, false, Option, is_some}
use Rattle.std.specs.Option.{option_map_or}
use Rattle.std.specs.BTreeMap as tree
use Rattle.std.specs.BTreeSet as set
use Rattle.schema_defs.specs.Texts.{Relations}
use Rattle.schema_defs.specs.Formats.{has_format}
use Rattle.schema_texts.specs.declared.plain.PlainTexts.{PlainTexts}

-- a pattern is what stands in the table, a text has it where it is one of its texts, and formats are as defined
abbrev pub plain_relations : PlainTexts → Relations
plain_relations t = record {
  is_pattern = λ p. is_some (tree.get_by_text t.table p);
  matches = λ p s. option_map_or (λ texts. set.contains_text texts s) (tree.get_by_text t.table p) false;
  has_format = has_format;
}
