-- What an entry takes where so many references may be followed.
use Rattle.std.specs.Prelude.{ℕ, ◌+◌, Bool}
use Rattle.json_value.specs.Value.{Value}
use Rattle.schema_defs.specs.Texts.{Relations}
use Rattle.entry_defs.specs.Entry.{Entry}
use Rattle.entry_defs.specs.Table.{Table}
use Rattle.entry_defs.specs.Takes.{takes_within, parts_of}

-- a table, and how many references are followed at most
pub record Followed : Type 0 where
  pub table : Table
  pub most : ℕ

-- so many, and more
abbrev pub following : Table → ℕ → ℕ → Followed
following t left more = record { table = t; most = left + more }

unfoldable pub takes_in : Followed → Relations → Entry → Value → Bool
takes_in f r e v = takes_within f.table r v (parts_of f.table r v) f.most e
