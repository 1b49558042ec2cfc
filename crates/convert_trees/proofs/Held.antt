-- What a tree holds: of one without parts, itself.
use Rattle.std.proofs.Common.{◌≡◌, refl}
use Rattle.convert_defs.specs.Values.{inner_of}
use Rattle.tree_types.specs.View.{atom_view}
use Rattle.tree_types.specs.declared.tree.Atom.{Atom}
use Rattle.tree_types.specs.declared.tree.Atom.TheVariants as atoms

pub atom_held : (a : Atom) → atom_view a ≡ inner_of (atom_view a)
atom_held atoms.Bool = refl
atom_held (atoms.Integer g) = refl
atom_held atoms.Text = refl
atom_held (atoms.Native f) = refl
atom_held atoms.Any = refl
atom_held atoms.Unit = refl
atom_held (atoms.Reference q) = refl
