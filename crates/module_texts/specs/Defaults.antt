-- Functions that give the stated defaults: `d` with the number of each, from 0.
use Rattle.std.specs.Prelude.{ℕ, suc, List, [], ◌∷◌, ◌++◌, Bool, true, false, codes, decimal, if◌then◌else◌}
use Rattle.serde_json.specs.Data.{Data}
use Rattle.module_texts.specs.Values.{value_literal}

abbrev pub default_text : ℕ → Data → List ℕ
default_text n d = codes "\n    pub fn d" ++ (decimal n ++ (codes "<T: DeserializeOwned>() -> T {\n        serde_json::from_str(" ++ (value_literal d ++ codes ").unwrap()\n    }\n")))

abbrev pub defaults_from : ℕ → List Data → List ℕ
defaults_from n [] = []
defaults_from n (d ∷ ds) = default_text n d ++ defaults_from (suc n) ds

abbrev pub is_none : List Data → Bool
is_none [] = true
is_none (d ∷ ds) = false

abbrev pub block_text : List Data → List ℕ
block_text ds = codes "\nmod typify_defaults {\n    use serde::de::DeserializeOwned;\n" ++ (defaults_from 0 ds ++ codes "}\n")

-- nothing where there are none
abbrev pub defaults_text : List Data → List ℕ
defaults_text ds = if is_none ds then [] else block_text ds
