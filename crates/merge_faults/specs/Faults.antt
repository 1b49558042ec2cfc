-- What is told, as a fault, of what isn't merged and of a walk that has too many steps.
use Rattle.std.specs.Prelude.{◌≡◌, [], ◌∷◌}
use Rattle.merge_defs.specs.Outcome.{Unsupported, conditional, any_one, pattern_names, subtracting}
use Rattle.merge_walks.specs.Carried.{Walk}
use Rattle.schema_tree.specs.declared.fault.UnsupportedKind.{UnsupportedKind}
use Rattle.schema_tree.specs.declared.fault.UnsupportedKind.TheVariants as kind
use Rattle.schema_tree.specs.Fault.{FaultD, memory, depth}

abbrev pub unmerged_kind : Unsupported → UnsupportedKind
unmerged_kind conditional = kind.Conditional
unmerged_kind any_one = kind.AnyOne
unmerged_kind pattern_names = kind.Names
unmerged_kind subtracting = kind.Subtract

-- that walk; too few levels are want of memory
abbrev pub TellsDeep : Walk → FaultD → Type 0
TellsDeep [] told = told ≡ memory
TellsDeep (l ∷ w) told = told ≡ depth (l ∷ w)
