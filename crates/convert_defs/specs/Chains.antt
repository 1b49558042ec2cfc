-- Chains of made schemas: a schema that a row makes is converted in the place of the one that it is made of, and may make another.
use Rattle.std.specs.Prelude.{ℕ, zero, suc, List, [], ◌∷◌, ⊤}
use Rattle.schema_defs.specs.Texts.{Relations}
use Rattle.schema_defs.specs.Schema.{Schema, Document}
use Rattle.convert_defs.specs.Row.{Part, child, of_branch, lone, made, row_parts}
use Rattle.convert_defs.specs.Table.{row_of}
use Rattle.convert_defs.specs.Convert.{most_made}

-- what holds of each schema that a row makes
abbrev pub EachMade : (Schema → Type 0) → List Part → Type 0
EachMade P [] = ⊤
EachMade P (made s ∷ ps) = P s × EachMade P ps
EachMade P (child l s ∷ ps) = EachMade P ps
EachMade P (of_branch l s ∷ ps) = EachMade P ps
EachMade P (lone l s ∷ ps) = EachMade P ps

module _ (r : Relations) (d : Document) where
  -- each chain that begins with the schema has at most n schemas
  abbrev pub ChainsEndWithin : ℕ → Schema → Type 0
  ChainsEndWithin zero s = ⊥
  ChainsEndWithin (suc n) s = EachMade (ChainsEndWithin n) (row_parts (row_of r d s))

-- so the recursion that makes entries comes to the end of each chain
abbrev pub ChainsEnd : Type 0
ChainsEnd = (r : Relations) (d : Document) (s : Schema) → ChainsEndWithin r d most_made s
