use Rattle.std.proofs.Common.{◌≡◌, drop, map}
use Rattle.syntax_trees.specs.Item.{item_view}
use Rattle.model_defs.specs.Types.{types}
use Rattle.value_types.specs.ShapeView.{type_in, types_in}
use Rattle.value_types.proofs.Sizes.{type_size, types_size}
use Rattle.container_defs.specs.Forms.{names_of}
use Rattle.item_names.proofs.Knows.{all_known}
use Rattle.item_names.proofs.known_types.+knows.Given as goal

abbrev pub decreases-knows : goal.decreases-knows
decreases-knows l = type_size (type_in l.ty.now)

abbrev pub decreases-know_all : goal.decreases-know_all
decreases-know_all l = types_size (types (types_in l.tys.now))

abbrev pub invariant-know_all-loop-ty : goal.invariant-know_all-loop-ty
invariant-know_all-loop-ty l =
    let items = names_of (map item_view l.names.items.now) in
    all_known items (drop l.ty-index l.tys) ≡ all_known items l.tys
