-- Worked examples: graphs of references.
use Rattle.std.specs.Prelude.{◌≡◌, Option, Some, option_map, [], ◌∷◌}
use Rattle.json_value.specs.Value.{Value}
use Rattle.schema_defs.specs.declared.Setting.TheVariants.{Strict}
use Rattle.schema_defs.specs.Read.{document_of}
use Rattle.schema_defs.specs.Build.{◌≔◌, obj, arr, ref}
use Rattle.reference_graph.specs.Graph.{Graph}
use Rattle.schema_guards.specs.Targets.{reference_graph_of}

abbrev pub graph : Value → Option Graph
graph v = option_map reference_graph_of (document_of Strict v)

-- the root is 0; the definitions under `$defs` come before those under `definitions`
pub record GraphExamples : Type 0 where
  pub root_by_itself : graph (ref "#") ≡ Some ((0 ∷ []) ∷ [])
  pub no_target : graph (ref "#/definitions/A") ≡ Some ((1 ∷ []) ∷ [])
  pub by_a_property : graph (obj ("properties" ≔ obj ("a" ≔ ref "#" ∷ []) ∷ [])) ≡ Some ([] ∷ [])
  pub both_keywords :
      graph (obj ("$defs" ≔ obj ("B" ≔ ref "#/definitions/A" ∷ []) ∷ "definitions" ≔ obj ("A" ≔ obj ("anyOf" ≔ arr (ref "#" ∷ ref "#/$defs/B" ∷ []) ∷ []) ∷ []) ∷ []))
      ≡ Some ([] ∷ (2 ∷ []) ∷ (0 ∷ 1 ∷ []) ∷ [])
