-- The names of a path's segments.
use Rattle.std.specs.Prelude.{ℕ, List, map, Bool}
use Rattle.token_trees.specs.declared.symbol.Symbol.{Symbol}
use Rattle.syntax_trees.specs.Syntax.{has_no_arguments, segment_name}
use Rattle.syntax_trees.specs.View.{segment_view}
use Rattle.syntax_trees.specs.declared.tree.PathSegment.{PathSegment}

abbrev pub is_bare : PathSegment → Bool
is_bare s = has_no_arguments (segment_view s)

abbrev pub names_of : List PathSegment → List (List ℕ)
names_of ss = map (λ s. segment_name (segment_view s)) ss

abbrev pub symbols : List Symbol → List (List ℕ)
symbols ns = map (λ n. n.0.now) ns
