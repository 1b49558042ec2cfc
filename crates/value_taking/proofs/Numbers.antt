-- Numbers of the program against a range.
use Rattle.std.proofs.Common.{◌≡◌, ℤ, Bool, false, Option, Some, None, refl, ap, sym, ◌∙◌}
use Rattle.serde_json.specs.Data.{Num, unsigned, negative, float}
use Rattle.serde_json.specs.Find.{as_integer}
use Rattle.json_value.specs.View.{number_value}
use Rattle.schema_defs.specs.Integers.{Range, in_range}
use Rattle.model_defs.specs.Layer.{is_in_range}

abbrev of_option : Range → Option ℤ → Bool
of_option g (Some z) = in_range z g
of_option g None = false

seen : (g : Range) (d : Num) → of_option g (as_integer d) ≡ is_in_range g (number_value d)
seen g (unsigned n) = refl
seen g (negative z) = refl
seen g (float x) = refl

pub whole : (g : Range) (d : Num) (z : ℤ) (b : Bool) → as_integer d ≡ Some z → b ≡ in_range z g → b ≡ is_in_range g (number_value d)
whole g d z b e h = h ∙ ap (of_option g) (sym e) ∙ seen g d

pub no_whole : (g : Range) (d : Num) → as_integer d ≡ None → false ≡ is_in_range g (number_value d)
no_whole g d e = ap (of_option g) (sym e) ∙ seen g d
