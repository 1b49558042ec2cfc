-- What is emitted, where its parts are.
use Rattle.std.proofs.Common.{◌≡◌, ℕ, List, Bool, flat_map}
use Rattle.syntax_trees.specs.Syntax.{TyD}
use Rattle.syntax_trees.specs.Item.{ItemD}
use Rattle.json_value.specs.Value.{Value}
use Rattle.model_defs.specs.Model.{ConstraintD}
use Rattle.entry_defs.specs.Space.{Id, Space}
use Rattle.emit_defs.specs.Emission.{Emission}
use Rattle.space_defs.specs.Items.{items_at}
use Rattle.space_defs.specs.Types.{none_boxed, ty_at}
use Rattle.space_defs.specs.Trees.{shape_defaults_at, item_constraints_at, item_trees_at}
use Rattle.space_defs.specs.Emission.{emission_by}

abbrev of_parts : List ItemD → List ConstraintD → List Value → TyD → Emission
of_parts items constraints defaults root = record { items = items; conversions = record { constraints = constraints; defaults = defaults }; root = root }

pub made : (space : Space) (boxed : Id → Id → Bool) (leads : Id → Bool) (root : Id) (items : List ItemD) (constraints : List ConstraintD) (defaults : List Value) (t : TyD)
    → items ≡ item_trees_at space boxed leads 0 (items_at space) → constraints ≡ flat_map item_constraints_at (items_at space) → defaults ≡ flat_map (λ i. shape_defaults_at i.shape) (items_at space)
    → t ≡ ty_at space none_boxed root → of_parts items constraints defaults t ≡ emission_by space boxed leads root
made space boxed leads root items constraints defaults t a b c d = λ z. of_parts (a z) (b z) (c z) (d z)
