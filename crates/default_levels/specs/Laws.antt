-- As many levels as are counted are enough: more change nothing, and what never ends within them never ends. What ends or is refused within fewer stays.
use Rattle.std.specs.Prelude.{◌≡◌, ◌+◌, ◌<◌, ℕ, suc}
use Rattle.json_value.specs.Value.{Value}
use Rattle.schema_defs.specs.Texts.{Relations}
use Rattle.entry_defs.specs.Entry.{Entry}
use Rattle.entry_defs.specs.Table.{Table}
use Rattle.default_defs.specs.Found.{refused, ended, endless}
use Rattle.default_defs.specs.Supplied.{stated_in, stated_in_targets, value_read, read_inside, supplied}

-- what ends or is refused within so many levels does so with one more
pub record StaysWithOneMore (t : Table) (r : Relations) (k : ℕ) (e : Entry) (v : Value) : Type 0 where
  pub of_ended : read_inside t r k e v ≡ ended → read_inside t r (suc k) e v ≡ ended
  pub of_refused : read_inside t r k e v ≡ refused → read_inside t r (suc k) e v ≡ refused

abbrev pub EndedStays : Type 0
EndedStays = (t : Table) (r : Relations) (k : ℕ) (e : Entry) (v : Value) → StaysWithOneMore t r k e v

-- more levels than there are stated defaults come to the same
abbrev pub MoreLevelsStay : Type 0
MoreLevelsStay = (t : Table) (r : Relations) (e : Entry) (v : Value) (k : ℕ) → stated_in_targets t.targets + stated_in e < k → read_inside t r k e v ≡ supplied t r e v

-- what is told as endless is so by any number of them
abbrev pub EndlessStays : Type 0
EndlessStays = (t : Table) (r : Relations) (e : Entry) (v : Value) → supplied t r e v ≡ endless → (k : ℕ) → read_inside t r k e v ≡ endless

-- what a value comes to is what is read where each stated default comes to what is told of it
abbrev pub SuppliedIsRead : Type 0
SuppliedIsRead = (t : Table) (r : Relations) (e : Entry) (v : Value) → supplied t r e v ≡ value_read t r (supplied t r) v e
