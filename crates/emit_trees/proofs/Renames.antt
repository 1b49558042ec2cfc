-- Names in JSON beside identifiers.
use Rattle.std.proofs.Common.{◌≡◌, ℕ, List, [], ◌∷◌, Bool, true, false, bytes_eq, ap}
use Rattle.std.specs.Prelude.{codes, if◌then◌else◌}
use Rattle.emit_defs.specs.Trees.{Carried, valued, rename_metas}

abbrev renamed : List ℕ → Bool → List Carried
renamed name same = if same then [] else valued (codes "rename") name ∷ []

pub same_name : (identifier name : List ℕ) → bytes_eq identifier name ≡ true → rename_metas identifier name ≡ []
same_name identifier name h = ap (renamed name) h

pub other_name : (identifier name : List ℕ) → bytes_eq identifier name ≡ false → rename_metas identifier name ≡ valued (codes "rename") name ∷ []
other_name identifier name h = ap (renamed name) h
