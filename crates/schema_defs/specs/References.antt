-- Whether a document is guarded, as a test: each walk of references at one value ends within as many as there are targets.
use Rattle.std.specs.Prelude.{ℕ, zero, suc, map, List, [], ◌∷◌, ◌++◌, Bool, true, Option, Some, None, is_none, option_to_list}
use Rattle.std.specs.List.{list_all}
use Rattle.schema_defs.specs.Schema.{Schema, boolean, object, Same, no_same, same_value, MaybeSchema, no_schema, the_schema, MaybeSchemas, no_list, the_list, Schemas, no_more, schema, Document}
use Rattle.schema_defs.specs.Admits.{target, allowed}

-- the references of a schema that judge the same value as it: its own, and those of its members of allOf, anyOf, oneOf and not
abbrev mutual
  pub same_references : Schema → List (List ℕ)
  same_references (boolean b) = []
  same_references (object p ss ls ns) = option_to_list p.reference ++ references_of_same ss

  pub references_of_same : Same → List (List ℕ)
  references_of_same no_same = []
  references_of_same (same_value all any one none conditional) = references_of_list all ++ references_of_list any ++ references_of_list one ++ references_of_maybe none

  pub references_of_list : MaybeSchemas → List (List ℕ)
  references_of_list no_list = []
  references_of_list (the_list ss) = references_of_all ss

  pub references_of_maybe : MaybeSchema → List (List ℕ)
  references_of_maybe no_schema = []
  references_of_maybe (the_schema s) = same_references s

  pub references_of_all : Schemas → List (List ℕ)
  references_of_all no_more = []
  references_of_all (schema s ss) = same_references s ++ references_of_all ss

abbrev pub none_or : {A : Type 0} → (A → Bool) → Option A → Bool
none_or f None = true
none_or f (Some x) = f x

-- each walk of references from a schema at one value has at most n targets
abbrev pub ends_within : Document → ℕ → Schema → Bool
ends_within d zero s = list_all (λ q. is_none (target d q)) (same_references s)
ends_within d (suc n) s = list_all (λ q. none_or (ends_within d n) (target d q)) (same_references s)

-- the root and the bodies of the definitions
abbrev pub targets : Document → List Schema
targets d = d.root ∷ map (λ e. e.body) d.definitions

-- each walk of references from there at one value has no more targets than there are
abbrev pub is_guarded : Document → Bool
is_guarded d = list_all (ends_within d (allowed d)) (targets d)
