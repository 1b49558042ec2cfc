-- The values of an input, in a list.
use Rattle.std.proofs.Common.{◌≡◌, refl, ap, List, [], ◌∷◌}
use Rattle.serde_json.specs.Data.{Data}
use Rattle.serde_json.specs.View.{items_of}
use Rattle.run_input.specs.Input.{data_of}

pub data_of_items : (ds : List Data) → data_of (items_of ds) ≡ ds
data_of_items [] = refl
data_of_items (d ∷ ds) = ap (λ es. d ∷ es) (data_of_items ds)
