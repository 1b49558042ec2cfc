-- What stands at the names of a map's members.
use Rattle.std.specs.Prelude.{List, String}
use Rattle.std.specs.Borrow.{Bor}
use Rattle.std.specs.declared.alloc.Global.{Global}
use Rattle.serde_json.specs.declared.value.Value as json
use Rattle.serde_json.specs.View.{view, members_view}
use Rattle.json_value.specs.View.{value_of, members_of}
use Rattle.schema_defs.specs.Read.{Reading, Readings, Lookup, lookup_of, reading, member_readings}

abbrev pub Entries : Type 0
Entries = List (String Global × json.Value)

-- the members, with what each may be read as
unfoldable pub readings : Entries → Readings
readings es = member_readings (members_of (members_view es))

unfoldable pub looked_up : Entries → Lookup
looked_up es = lookup_of (readings es)

-- what the value that is lent may be read as
abbrev pub read_now : Bor json.Value → Reading
read_now v = reading (value_of (view v.now))
