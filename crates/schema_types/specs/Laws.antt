-- What holds of all schemas, documents and values.
use Rattle.std.specs.Prelude.{◌≡◌, ℕ, List, true, option_and_then}
use Rattle.json_value.specs.Value.{Value}
use Rattle.schema_defs.specs.Texts.{Relations}
use Rattle.schema_defs.specs.Schema.{Schema, Document}
use Rattle.schema_defs.specs.Admits.{admits, target, target_location}
use Rattle.schema_defs.specs.Children.{schema_at}
use Rattle.schema_types.specs.Shallow.{shallow_agrees}

-- a value that a schema admits agrees with its `type`, `enum` and `const`
abbrev pub ValidationIsShallow : Type 0
ValidationIsShallow = (r : Relations) (d : Document) (v : Value) (s : Schema) → admits r d v s ≡ true → shallow_agrees s v ≡ true

-- the target of a reference stands at the target's location, and one that has no target has no location
abbrev pub TargetsStand : Type 0
TargetsStand = (d : Document) (q : List ℕ) → option_and_then (schema_at d) (target_location d q) ≡ target d q
