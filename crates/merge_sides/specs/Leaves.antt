-- The merged leaves of two objects, and what comes after them.
use Rattle.std.specs.Prelude.{List, ℕ, Option, option_map, string_bytes}
use Rattle.json_value.specs.Value.{Value}
use Rattle.schema_defs.specs.declared.InstanceType.TheVariants.{Integer, Text}
use Rattle.schema_defs.specs.Schema.{Types, Numbers, Texts, Plain}
use Rattle.schema_types.specs.View.{types_view, numbers_view, texts_view}
use Rattle.merge_defs.specs.Outcome.{Outcome, and_then, where_both}
use Rattle.merge_defs.specs.Leaves.{is_only, two_types, two_formats, two_numbers, two_texts, values_of}
use Rattle.merge_leaves.specs.View.{values_view}
use Rattle.merge_sides.specs.declared.met.Leaves as code

pub record LeavesOf : Type 0 where
  pub types : Option Types
  pub format : Option (List ℕ)
  pub numbers : Option Numbers
  pub texts : Option Texts
  pub values : Option (List Value)
  pub other_values : Option (List Value)

abbrev pub leaves_view : code.Leaves → LeavesOf
leaves_view l = record {
  types = option_map types_view l.types;
  format = option_map string_bytes l.format;
  numbers = option_map numbers_view l.number;
  texts = option_map texts_view l.string;
  values = values_view l.values;
  other_values = values_view l.other_values;
}

-- types, format, numbers and texts of both, one after another
abbrev pub leaves_then : {A : Type 0} → Plain → Plain → (LeavesOf → Outcome A) → Outcome A
leaves_then p q k =
    and_then (where_both two_types p.types q.types) (λ types.
    and_then (where_both two_formats p.format q.format) (λ format.
    and_then (where_both (two_numbers (is_only Integer types)) p.numbers q.numbers) (λ numbers.
    and_then (where_both (two_texts (is_only Text types)) p.texts q.texts) (λ texts.
    k (record { types = types; format = format; numbers = numbers; texts = texts; values = values_of p; other_values = values_of q })))))
