-- Each schema inside another stands where its steps lead to.
use Rattle.std.specs.Prelude.{◌≡◌, ◌++◌, true, Some, Contains}
use Rattle.schema_defs.specs.Location.{Location}
use Rattle.schema_defs.specs.Schema.{Schema, boolean, object, Named, no_named, named, Document}
use Rattle.schema_defs.specs.Children.{Child, children, schema_at}
use Rattle.enum_defs.specs.Words.{names_of}
use Rattle.convert_defs.specs.Apart.{differ}

-- no name stands twice in `properties`, and none in `patternProperties`
abbrev pub NamesDiffer : Named → Type 0
NamesDiffer no_named = Unit {0}
NamesDiffer (named props patterns others names rules) = (differ (names_of props) ≡ true) × (differ (names_of patterns) ≡ true)

abbrev pub HasNamesApart : Schema → Type 0
HasNamesApart (boolean b) = Unit {0}
HasNamesApart (object p ss ls ns) = NamesDiffer ns

abbrev pub EveryChildStands : Type 0
EveryChildStands = (d : Document) (l : Location) (s : Schema) (c : Child) → schema_at d l ≡ Some s → HasNamesApart s → Contains (children s) c → schema_at d (l ++ c.0) ≡ Some c.1
