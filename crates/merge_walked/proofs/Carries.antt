-- A schema that has a walk keeps it, and another takes the one that is given.
use Rattle.std.proofs.Common.{◌≡◌, Bool, true, false, Option, Some, None, is_some, unwrap_or, refl, sym, true≢false}
use Rattle.schema_defs.specs.Schema.{Schema, boolean, object}
use Rattle.merge_walks.specs.Carried.{Walk, on_walk, carried}
use Rattle.merge_walked.specs.Seen.{has_walk}

given : (w : Walk) (o : Option Walk) → is_some o ≡ true → o ≡ Some (unwrap_or o w)
given w (Some v) h = refl
given w None h = absurd (true≢false (sym h))

lacking : (w : Walk) (o : Option Walk) → is_some o ≡ false → Some w ≡ Some (unwrap_or o w)
lacking w None h = refl
lacking w (Some v) h = absurd (true≢false h)

pub keeps : (w : Walk) (s : Schema) → has_walk s ≡ true → s ≡ carried w s
keeps w (boolean b) h = refl
keeps w (object p ss ls ns) h = λ i. object (record p { walk = given w p.walk h i }) ss ls ns

pub takes : (w : Walk) (s : Schema) → has_walk s ≡ false → on_walk w s ≡ carried w s
takes w (boolean b) h = refl
takes w (object p ss ls ns) h = λ i. object (record p { walk = lacking w p.walk h i }) ss ls ns
