-- The types of a tuple.
use Rattle.std.proofs.Common.{◌≡◌, List, [], ◌∷◌, refl, ap}
use Rattle.model_defs.specs.Types.{TypeModel, types, types_of}

-- the same types, one after another
pub each_back : (ts : List TypeModel) → types_of (types ts) ≡ ts
each_back [] = refl
each_back (t ∷ ts) = ap (λ us. t ∷ us) (each_back ts)
