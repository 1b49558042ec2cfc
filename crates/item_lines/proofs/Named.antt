-- The name of the item at a place.
use Rattle.std.proofs.Common.{◌≡◌, ℕ, List, map, Bor, Option, option_map}
use Rattle.std.specs.List.{slice_get}
use Rattle.std.specs.Slice.{IsItemAt}
use Rattle.syntax_trees.specs.Item.{item_view}
use Rattle.syntax_trees.specs.declared.item.DeriveInput.{DeriveInput}
use Rattle.value_models.proofs.Tables.{item_behind}

pub at_place : (is : List DeriveInput) (i : ℕ) (o : Option (Bor DeriveInput)) → IsItemAt is i o → option_map (λ (d : Bor DeriveInput). item_view d.now) o ≡ slice_get (map item_view is) i
at_place is i o h = item_behind item_view is i o h
