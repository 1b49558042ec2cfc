-- What is borrowed from an option.
use Rattle.std.proofs.Common.{◌≡◌, Bor, Option, Some, None, ap}
use Rattle.std.specs.Prelude.{option_map, option_copied}

pub seen : {A B : Type 0} (f : A → B) (o : Option (Bor A)) (x : Option A) → option_copied o ≡ x → option_map (λ t. f t.now) o ≡ option_map f x
seen f None x h = ap (option_map f) h
seen f (Some b) x h = ap (option_map f) h
