-- Items of entries.
use Rattle.std.proofs.Common.{◌≡◌, ℕ, List, None, refl, ap}
use Rattle.entry_defs.specs.Entry.{Entry, item, newtype_shape}
use Rattle.entry_defs.specs.Table.{ItemEntry}
use Rattle.convert_defs.specs.Convert.{as_item}
use Rattle.tree_types.specs.View.{atom_view, item_in, item_entry}
use Rattle.tree_types.specs.declared.tree.Atom.{Atom}
use Rattle.tree_types.specs.declared.tree.Atom.TheVariants as atoms

pub item_is : (e : Entry) (i : ItemEntry) → e ≡ item_entry i → item_in e ≡ i
item_is e i h = ap item_in h

pub atom_item : (n : List ℕ) (a : Atom) → item n (newtype_shape (atom_view a) None) ≡ item_entry (as_item n (atom_view a))
atom_item n atoms.Bool = refl
atom_item n (atoms.Integer g) = refl
atom_item n atoms.Text = refl
atom_item n (atoms.Native f) = refl
atom_item n atoms.Any = refl
atom_item n atoms.Unit = refl
atom_item n (atoms.Reference q) = refl
