-- A schema of which nothing stands aside is the whole.
use Rattle.std.proofs.Common.{◌≡◌, refl}
use Rattle.schema_defs.specs.Schema.{Schema, boolean, object, no_named, named}
use Rattle.merge_apart.specs.Aside.{with_aside, nothing_aside}

pub nothing_stands : (s : Schema) → with_aside nothing_aside s ≡ s
nothing_stands (boolean b) = refl
nothing_stands (object p ss ls no_named) = refl
nothing_stands (object p ss ls (named ps qs x y c)) = refl
