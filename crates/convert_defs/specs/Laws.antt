-- What laws on conversion speak of: one way of what a schema and its entry say of a value, the notes of one way, and names that differ.
use Rattle.std.specs.Prelude.{◌≡◌, List, [], ◌∷◌, ◌&&◌, Bool, true, false}
use Rattle.schema_defs.specs.Schema.{Schema, boolean, object}
use Rattle.convert_defs.specs.Row.{Way, narrowed, widened, Note}
use Rattle.convert_defs.specs.Apart.{names_apart, branches_apart}

-- a is what the schema says, and b what the entry says
abbrev pub Keeps : Way → Bool → Bool → Type 0
Keeps narrowed a b = a ≡ true → b ≡ true
Keeps widened a b = b ≡ true → a ≡ true

abbrev pub same_way : Way → Way → Bool
same_way narrowed narrowed = true
same_way widened widened = true
same_way _ _ = false

-- no note of that way
abbrev pub Free : Way → List Note → Type 0
Free way [] = Unit {0}
Free way (n ∷ ns) = (same_way way n.way ≡ false) × Free way ns

abbrev pub HasNamesApart : Schema → Type 0
HasNamesApart (boolean b) = Unit {0}
HasNamesApart (object p ss ls ns) = (names_apart ns && branches_apart ss) ≡ true
