-- The input: a schema as it is, at most 16,777,216 bytes that are JSON (RFC 8259, as `serde_json` reads it, once numbers that are whole are written as integers).
use Rattle.std.specs.Prelude.{◌≡◌, ◌≤◌, ℕ, List, length, Some, IsUtf8}
use Rattle.serde_json.specs.Data.{Data}
use Rattle.serde_json.specs.Read.{read as read_text}
use Rattle.whole_numbers.specs.Whole.{whole}
use Rattle.run_input.specs.Input.{limit}

-- the bytes are that value
pub record IsSchema (bytes : List ℕ) (d : Data) : Type 0 where
  pub short : length bytes ≤ limit
  pub utf8 : IsUtf8 (whole bytes)
  pub read : read_text (whole bytes) ≡ Some d

-- they are none
abbrev pub IsNoSchema : List ℕ → Type 0
IsNoSchema bytes = (d : Data) → IsSchema bytes d → ⊥
