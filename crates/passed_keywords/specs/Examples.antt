-- Worked examples: which keywords are passed over, and where.
use Rattle.std.specs.Prelude.{◌≡◌, List, [], ◌∷◌, codes}
use Rattle.json.specs.Print.{quoted}
use Rattle.schema_defs.specs.Build.{◌≔◌, str, num, yes, obj, arr}
use Rattle.schema_faults.specs.Examples.{◌!◌}
use Rattle.passed_keywords.specs.Passed.{passed_line, passed_places, said}

pub record PassedExamples : Type 0 where
  pub none : passed_places (obj ("type" ≔ str "string" ∷ [])) ≡ []
  pub at_the_root : passed_places (obj ("$id" ≔ str "x" ∷ "dependencies" ≔ obj [] ∷ [])) ≡ ([] ! "$id") ∷ ([] ! "dependencies") ∷ []
  pub inside : passed_places (obj ("properties" ≔ obj ("a" ≔ obj ("prefixItems" ≔ arr (yes ∷ []) ∷ []) ∷ []) ∷ [])) ≡ (("properties" ∷ "a" ∷ []) ! "prefixItems") ∷ []
  pub owner_first : passed_places (obj ("items" ≔ obj ("id" ≔ str "y" ∷ []) ∷ "minContains" ≔ num 1 ∷ [])) ≡ ([] ! "minContains") ∷ (("items" ∷ []) ! "id") ∷ []
  pub a_property_is_no_keyword : passed_places (obj ("properties" ≔ obj ("id" ≔ yes ∷ []) ∷ [])) ≡ []
  pub inside_what_is_passed_over : passed_places (obj ("prefixItems" ≔ arr (obj ("id" ≔ str "y" ∷ []) ∷ []) ∷ [])) ≡ ([] ! "prefixItems") ∷ []
  pub line : passed_line (("items" ∷ []) ! "id") ≡ said (quoted (codes "id")) (quoted (codes "#/items"))
