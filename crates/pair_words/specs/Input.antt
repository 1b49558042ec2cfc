-- The input: at most 16,777,216 bytes that are JSON (RFC 8259, as `serde_json` reads it, once numbers that are whole are written as integers), an object with exactly the members `old` and `new`, two schemas.
use Rattle.std.specs.Prelude.{◌≡◌, ◌&&◌, ℕ, List, Bool, Option, Some, None, bytes_eq, codes, if◌then◌else◌}
use Rattle.serde_json.specs.Data.{Data, object, member, no_members}
use Rattle.schema_words.specs.Input.{IsSchema}

pub record Pair : Type 0 where
  pub old : Data
  pub new : Data

abbrev pub are_names : List ℕ → List ℕ → Bool
are_names m n = bytes_eq m (codes "new") && bytes_eq n (codes "old")

-- the members of an object stand in the order of their names
abbrev pub pair_of : Data → Option Pair
pair_of (object (member m new (member n old no_members))) = if are_names m n then Some (record { old = old; new = new }) else None
pair_of _ = None

-- the bytes are such an object
pub record IsPair (bytes : List ℕ) (pair : Pair) : Type 0 where
  pub value : Data
  pub json : IsSchema bytes value
  pub parts : pair_of value ≡ Some pair

-- they are none
abbrev pub IsNoPair : List ℕ → Type 0
IsNoPair bytes = (pair : Pair) → IsPair bytes pair → ⊥
