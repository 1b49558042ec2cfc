-- The input: at most 16,777,216 bytes that are JSON (RFC 8259, as `serde_json` reads it, once numbers that are whole are written as integers), an object with exactly the members `schema` and `values`, the latter a list.
use Rattle.std.specs.Prelude.{◌≡◌, ◌≤◌, ℕ, ◌&&◌, List, [], ◌∷◌, length, Bool, Option, Some, None, IsUtf8, bytes_eq, codes, if◌then◌else◌}
use Rattle.serde_json.specs.Data.{Data, object, array, Items, no_items, item, member, no_members}
use Rattle.serde_json.specs.Read.{read as read_text}
use Rattle.whole_numbers.specs.Whole.{whole}

-- the most bytes of an input
abbrev pub limit : ℕ
limit = 16777216

pub record Parts : Type 0 where
  pub schema : Data
  pub values : Items

-- the values of an input, in a list
abbrev pub data_of : Items → List Data
data_of no_items = []
data_of (item d ds) = d ∷ data_of ds

abbrev pub are_parts : List ℕ → List ℕ → Bool
are_parts m n = bytes_eq m (codes "schema") && bytes_eq n (codes "values")

-- the members of an object stand in the order of their names
abbrev pub parts_of : Data → Option Parts
parts_of (object (member m schema (member n (array values) no_members))) = if are_parts m n then Some (record { schema = schema; values = values }) else None
parts_of _ = None

-- the bytes are an input of these parts
pub record IsInput (bytes : List ℕ) (parts : Parts) : Type 0 where
  pub short : length bytes ≤ limit
  pub utf8 : IsUtf8 (whole bytes)
  pub read : (d : Data) × (read_text (whole bytes) ≡ Some d) × (parts_of d ≡ Some parts)

-- the bytes are no input
abbrev pub IsNoInput : List ℕ → Type 0
IsNoInput bytes = (parts : Parts) → IsInput bytes parts → ⊥
