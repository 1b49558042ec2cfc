-- What defaults come to beside what their entries take.
use Rattle.std.specs.Prelude.{◌≡◌, Bool, true, false, ⊤}
use Rattle.json_value.specs.Value.{Value}
use Rattle.schema_defs.specs.Texts.{Relations}
use Rattle.entry_defs.specs.Entry.{Entry}
use Rattle.entry_defs.specs.Table.{Table}
use Rattle.entry_defs.specs.Takes.{value_takes}
use Rattle.default_defs.specs.Found.{Found, refused, ended, endless}
use Rattle.default_defs.specs.Supplied.{value_read}

-- refused is what isn't taken, and ended is what is taken; of what never ends nothing is said
abbrev pub Agrees : Found → Bool → Type 0
Agrees refused b = b ≡ false
Agrees ended b = b ≡ true
Agrees endless b = ⊤

-- what is found agrees with what the entry takes, whatever the stated defaults come to
abbrev pub FoundIsTaken : Type 0
FoundIsTaken = (t : Table) (r : Relations) (missed : Entry → Value → Found) (v : Value) (e : Entry) → Agrees (value_read t r missed v e) (value_takes t r v e)
