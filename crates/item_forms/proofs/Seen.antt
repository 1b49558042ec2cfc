-- What is asked of optional parts, as they are seen.
use Rattle.std.proofs.Common.{◌≡◌, Bool, false, not, Option, Some, None, option_map, refl, sym, ap, ◌∙◌}
use Rattle.container_defs.specs.Forms.{holds, fails}

pub some_holding : {A : Type 0} (test : A → Bool) (a : A) (o : Option A) (b : Bool) → Some a ≡ o → b ≡ test a → b ≡ holds test o
some_holding test a o b e h = h ∙ ap (holds test) e

pub none_holding : {A : Type 0} (test : A → Bool) (o : Option A) → None ≡ o → false ≡ holds test o
none_holding test o e = ap (holds test) e

pub some_failing : {A : Type 0} (test : A → Bool) (a : A) (o : Option A) (b : Bool) → Some a ≡ o → b ≡ test a → not b ≡ fails test o
some_failing test a o b e h = ap not h ∙ ap (fails test) e

pub none_failing : {A : Type 0} (test : A → Bool) (o : Option A) → None ≡ o → false ≡ fails test o
none_failing test o e = ap (fails test) e
