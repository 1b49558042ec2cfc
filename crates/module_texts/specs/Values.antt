-- JSON values as string literals. A number that isn't whole stands in no table, since its text isn't one: null stands for a value with one.
use Rattle.std.specs.Prelude.{ℕ, List, [], ◌∷◌, ◌++◌, codes, if◌then◌else◌}
use Rattle.serde_json.specs.Data.{Data}
use Rattle.serde_json.specs.Written.{compact_text}
use Rattle.json_value.specs.Value.{is_whole}
use Rattle.json_value.specs.View.{value_of}
use Rattle.module_texts.specs.Tokens.{literal}

abbrev pub value_text : Data → List ℕ
value_text d = if is_whole (value_of d) then compact_text d else codes "null"

abbrev pub more_values : List Data → List ℕ
more_values [] = []
more_values (d ∷ ds) = (codes "," ++ value_text d) ++ more_values ds

-- the list of the values
abbrev pub values_text : List Data → List ℕ
values_text [] = codes "[]"
values_text (d ∷ ds) = codes "[" ++ (value_text d ++ (more_values ds ++ codes "]"))

abbrev pub value_literal : Data → List ℕ
value_literal d = literal (value_text d)

abbrev pub values_literal : List Data → List ℕ
values_literal ds = literal (values_text ds)
