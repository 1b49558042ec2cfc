-- What stands at a place, and what it is called.
use Rattle.std.proofs.Common.{◌≡◌, ℕ, List, map, Bor, Option, option_map}
use Rattle.std.specs.List.{slice_get}
use Rattle.std.specs.Slice.{IsItemAt}
use Rattle.syntax_trees.specs.Item.{item_view, variant_view}
use Rattle.syntax_trees.specs.declared.item.DeriveInput.{DeriveInput}
use Rattle.syntax_trees.specs.declared.item.Variant.{Variant}
use Rattle.value_models.proofs.Tables.{item_behind}

pub item_there : (is : List DeriveInput) (i : ℕ) (o : Option (Bor DeriveInput)) → IsItemAt is i o → option_map (λ (d : Bor DeriveInput). item_view d.now) o ≡ slice_get (map item_view is) i
item_there is i o h = item_behind item_view is i o h

pub variant_there : (vs : List Variant) (i : ℕ) (o : Option (Bor Variant)) → IsItemAt vs i o → option_map (λ (d : Bor Variant). variant_view d.now) o ≡ slice_get (map variant_view vs) i
variant_there vs i o h = item_behind variant_view vs i o h
