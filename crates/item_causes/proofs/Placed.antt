-- Places below a number.
use Rattle.std.proofs.Common.{◌≡◌, ℕ, ◌<◌, Bool, false, Option, Some, None, refl, sym, ap, ◌∙◌, arith}
use Rattle.std.specs.Prelude.{nat_lt}
use Rattle.std.proofs.lemmas.Bool.{le-ltb}
use Rattle.container_defs.specs.Forms.{holds}
use Rattle.item_models.specs.PlaceView.{IsPast}

pub nowhere : (count : ℕ) (o : Option ℕ) → o ≡ None → false ≡ holds (λ n. nat_lt n count) o
nowhere count o e = sym (ap (holds (λ n. nat_lt n count)) e)

pub there : (count n : ℕ) (o : Option ℕ) (b : Bool) → b ≡ nat_lt n count → o ≡ Some n → b ≡ holds (λ n. nat_lt n count) o
there count n o b h e = h ∙ sym (ap (holds (λ n. nat_lt n count)) e)

pub far : (count : ℕ) (o : Option ℕ) → count < 18446744073709551616 → IsPast o → false ≡ holds (λ n. nat_lt n count) o
far count o h p =
    let past = p.2 in
    sym (ap (holds (λ n. nat_lt n count)) p.1 ∙ le-ltb p.0 count (omega arith))
