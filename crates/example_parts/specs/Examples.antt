-- By which names fields and variants of small tables are found.
use Rattle.std.specs.Prelude.{◌≡◌, [], ◌∷◌, Some, None}
use Rattle.model_defs.specs.Types.{text_type}
use Rattle.model_defs.specs.Model.{unit_style}
use Rattle.model_defs.specs.Examples.{a, b, byte, field, also_named, rest, variant}
use Rattle.example_parts.specs.Names.{names_of_fields, names_of_variants, name_found}

pub record WorkedNames : Type 0 where
  pub the_first : name_found (names_of_fields (field a byte ∷ field b byte ∷ [])) 0 ≡ Some a
  pub the_second : name_found (names_of_fields (field a byte ∷ field b byte ∷ [])) 1 ≡ Some b
  pub past_the_last : name_found (names_of_fields (field a byte ∷ [])) 1 ≡ None
  pub hidden : name_found (names_of_fields (field a byte ∷ field a byte ∷ [])) 1 ≡ None
  pub by_its_second_name : name_found (names_of_fields (field a byte ∷ also_named a (field b byte) ∷ [])) 1 ≡ Some b
  pub behind_a_rest : name_found (names_of_fields (rest text_type ∷ field a byte ∷ [])) 1 ≡ Some a
  pub a_rest : name_found (names_of_fields (rest text_type ∷ field a byte ∷ [])) 0 ≡ None
  pub a_variant : name_found (names_of_variants (variant a unit_style [] ∷ variant a unit_style [] ∷ variant b unit_style [] ∷ [])) 2 ≡ Some b
