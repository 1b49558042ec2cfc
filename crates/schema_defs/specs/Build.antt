-- JSON values, and relations of texts, written short for the worked examples.
use Rattle.std.specs.Prelude.{◌≡◌, ℕ, pos, neg_ℤ, nat_eq, List, [], ◌∷◌, Bool, true, false, Option, Some, None, is_some, option_map, codes}
use Prim.Native.String.{String}
use Rattle.std.specs.List.{starts_with}
use Rattle.json_value.specs.Value.{Value, boolean, number, text, list, object, items, members}
use Rattle.schema_defs.specs.declared.Setting.{Setting}
use Rattle.schema_defs.specs.declared.Setting.TheVariants.{Strict}
use Rattle.schema_defs.specs.Texts.{Relations}
use Rattle.schema_defs.specs.Formats.{has_format}
use Rattle.schema_defs.specs.Admits.{admits}
use Rattle.schema_defs.specs.Read.{document_of}

infix 70 ◌≔◌
-- a member
abbrev pub ◌≔◌ : String → Value → (List ℕ × Value)
n ≔ v = (codes n, v)

abbrev pub str : String → Value
str s = text (codes s)

abbrev pub num : ℕ → Value
num n = number (pos n)

abbrev pub minus : ℕ → Value
minus n = number (neg_ℤ (pos n))

abbrev pub yes : Value
yes = boolean true

abbrev pub no : Value
no = boolean false

abbrev pub obj : List (List ℕ × Value) → Value
obj ms = object (members ms)

abbrev pub arr : List Value → Value
arr vs = list (items vs)

-- {"type": name}
abbrev pub typed : String → Value
typed n = obj ("type" ≔ str n ∷ [])

-- {"$ref": text}
abbrev pub ref : String → Value
ref q = obj ("$ref" ≔ str q ∷ [])

-- in the examples a text has a pattern where it begins with it
abbrev pub sample : Relations
sample = record { is_pattern = λ p. true; matches = λ p s. starts_with nat_eq s p; has_format = has_format }

-- what the schema document says of the value under a setting
abbrev pub answer_under : Setting → Value → Value → Option Bool
answer_under setting schema v = option_map (λ d. admits sample d v d.root) (document_of setting schema)

abbrev pub answer : Value → Value → Option Bool
answer = answer_under Strict

abbrev pub Takes : Value → Value → Type 0
Takes schema v = answer schema v ≡ Some true

abbrev pub Refuses : Value → Value → Type 0
Refuses schema v = answer schema v ≡ Some false

abbrev pub IsRead : Value → Type 0
IsRead schema = is_some (document_of Strict schema) ≡ true

abbrev pub IsUnread : Value → Type 0
IsUnread schema = document_of Strict schema ≡ None
