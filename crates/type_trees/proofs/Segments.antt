-- The segments of a path, its modules first.
use Rattle.std.proofs.Common.{◌≡◌, ℕ, List, [], ◌∷◌, ◌++◌, refl, ap}
use Rattle.syntax_trees.specs.Syntax.{ArgumentsD, segment, no_arguments}
use Rattle.emit_defs.specs.Trees.{name_at, segments_to}
use Rattle.type_trees.specs.RowView.{module_segments}

pub segments_joined : (ms : List (List ℕ)) (n : List ℕ) (a : ArgumentsD) → segments_to ms n a ≡ module_segments ms ++ segment (name_at n) a ∷ []
segments_joined [] n a = refl
segments_joined (m ∷ ms) n a = ap (λ ss. segment (name_at m) no_arguments ∷ ss) (segments_joined ms n a)
