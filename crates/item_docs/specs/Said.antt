-- What a schema says of the item that it is converted to: its title and its description.
use Rattle.std.specs.Prelude.{ℕ, List, [], ◌++◌, Option, Some, None, bytes_eq, codes, if◌then◌else◌}
use Rattle.schema_defs.specs.Schema.{Schema, boolean, object}

abbrev pub stated : Option (List ℕ) → List ℕ
stated None = []
stated (Some s) = s

-- the name needn't be said again
abbrev pub other_than : List ℕ → Option (List ℕ) → List ℕ
other_than n None = []
other_than n (Some t) = if bytes_eq t n then [] else t

-- an empty line between the two
abbrev pub with_gap : List ℕ → List ℕ → List ℕ
with_gap t d = if bytes_eq t [] then d else if bytes_eq d [] then t else t ++ (codes "\n\n" ++ d)

-- the title and the description; the item has the name n
abbrev pub said_of : List ℕ → Schema → List ℕ
said_of n (boolean b) = []
said_of n (object p ss ls ns) = with_gap (other_than n p.title) (stated p.description)

abbrev pub said_where : List ℕ → Option Schema → List ℕ
said_where n None = []
said_where n (Some s) = said_of n s
