-- Whether an item has the name.
use Rattle.std.specs.Prelude.{ℕ, List, [], Bool, is_some}
use Rattle.model_defs.specs.Model.{ContainerModel, ConversionsD, container_named}

abbrev pub is_among : List ContainerModel → List ℕ → Bool
is_among ms n = is_some (container_named n ms)

-- the rules of items matter to newtypes alone
abbrev pub no_conversions : ConversionsD
no_conversions = record { constraints = []; defaults = [] }
