-- How a field is written, by its state.
use Rattle.std.proofs.Common.{◌≡◌, Bool, true, false, Option, refl}
use Rattle.json_value.specs.Value.{Value}
use Rattle.entry_defs.specs.Entry.{required, optional, stated}
use Rattle.entry_defs.specs.Space.{EntryAt}
use Rattle.emit_defs.specs.Models.{defaulted}
use Rattle.space_defs.specs.Trees.{manner_at, optional_manner_at}

pub of_optional : (b : Bool) (e : Option EntryAt) → manner_at b optional e ≡ optional_manner_at e
of_optional true e = refl
of_optional false e = refl

pub of_stated : (b : Bool) (v : Value) (e : Option EntryAt) → manner_at b (stated v) e ≡ defaulted
of_stated true v e = refl
of_stated false v e = refl
