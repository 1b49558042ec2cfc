-- Decoding character by character.
use Rattle.std.specs.Prelude.{ℕ, List, Bool, true, false}
use Rattle.schema_defs.specs.Location.{unescaped, after_tilde}

-- what is left decodes to this, behind a `~` or not
abbrev pub left_decodes : Bool → List ℕ → List ℕ
left_decodes true s = after_tilde s
left_decodes false s = unescaped s
