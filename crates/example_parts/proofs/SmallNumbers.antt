-- Numbers of the program that are i64.
use Rattle.std.proofs.Common.{◌≡◌, ℤ, Bool, false, Option, Some, None, refl, ap, sym, ◌∙◌}
use Rattle.serde_json.specs.Data.{Num, unsigned, negative, float}
use Rattle.serde_json.specs.Find.{as_integer}
use Rattle.json_value.specs.View.{number_value}
use Rattle.example_defs.specs.Built.{is_i64, is_small}

abbrev of_option : Option ℤ → Bool
of_option (Some z) = is_i64 z
of_option None = false

seen : (d : Num) → of_option (as_integer d) ≡ is_small (number_value d)
seen (unsigned n) = refl
seen (negative z) = refl
seen (float x) = refl

pub whole : (d : Num) (z : ℤ) (b : Bool) → as_integer d ≡ Some z → b ≡ is_i64 z → b ≡ is_small (number_value d)
whole d z b e h = h ∙ ap of_option (sym e) ∙ seen d

pub no_whole : (d : Num) → as_integer d ≡ None → false ≡ is_small (number_value d)
no_whole d e = ap of_option (sym e) ∙ seen d
