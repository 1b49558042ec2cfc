-- What holds of faults, whatever the value.
use Rattle.std.specs.Prelude.{ℕ, List, Some, is_some, ◌≡◌, ◌↔◌, [], IsSome}
use Rattle.json_value.specs.Value.{Value}
use Rattle.schema_defs.specs.declared.Setting.{Setting}
use Rattle.schema_defs.specs.Read.{document_of, IsMalformed}
use Rattle.schema_defs.specs.Schema.{Document}
use Rattle.schema_defs.specs.Admits.{target}
use Rattle.schema_faults.specs.Faults.{first, leads, malformed_places, float_places, fraction_places}

-- a value is malformed exactly where it has a malformed place
abbrev pub MalformedHasAPlace : Type 0
MalformedHasAPlace = (v : Value) → IsMalformed v ↔ IsSome (first (malformed_places v))

-- a value has a reading as a document, whatever the setting, exactly where no place is malformed and no number that is kept is a fraction
abbrev pub ReadsWithoutFaults : Type 0
ReadsWithoutFaults = (setting : Setting) (v : Value) → IsSome (document_of setting v) ↔ ((malformed_places v ≡ []) × (fraction_places v ≡ []))

-- where no float stands, no fraction does; so what has neither a malformed place nor a float is read
abbrev pub FractionsAreFloats : Type 0
FractionsAreFloats = (v : Value) → float_places v ≡ [] → fraction_places v ≡ []

-- a reference leads somewhere exactly where it has a target in the document that was read
abbrev pub LeadsToTargets : Type 0
LeadsToTargets = (setting : Setting) (v : Value) (d : Document) → document_of setting v ≡ Some d → (q : List ℕ) → leads v q ≡ is_some (target d q)
