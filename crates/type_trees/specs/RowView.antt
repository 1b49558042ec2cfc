-- What a row of a path stands for.
use Rattle.std.specs.Prelude.{ℕ, List, [], ◌∷◌, map, Bool}
use Rattle.token_trees.specs.declared.symbol.Symbol.{Symbol}
use Rattle.syntax_trees.specs.Syntax.{TyD, ty_path, path, SegmentD, segment, ArgumentsD, no_arguments, no_qself, segments_of}
use Rattle.emit_defs.specs.Trees.{name_at, segments_to}
use Rattle.type_trees.specs.declared.built_in.Row.{Row}

abbrev pub symbols : List Symbol → List (List ℕ)
symbols ns = map (λ n. n.0.now) ns

abbrev pub module_segments : List (List ℕ) → List SegmentD
module_segments [] = []
module_segments (m ∷ ms) = segment (name_at m) no_arguments ∷ module_segments ms

pub record RowD : Type 0 where
  pub leading : Bool
  pub modules : List (List ℕ)
  pub name : List ℕ

abbrev pub row_view : Row → RowD
row_view r = record { leading = r.leading; modules = symbols r.modules.now; name = r.name.0.now }

-- the type at that path, with arguments
abbrev pub row_ty : RowD → ArgumentsD → TyD
row_ty r a = ty_path no_qself (path r.leading (segments_of (segments_to r.modules r.name a)))
