-- Small spaces, and what their ids take and refuse.
use Rattle.std.specs.Prelude.{◌≡◌, ℕ, List, [], ◌∷◌, Bool, true, false, None, codes}
use Rattle.json_value.specs.Value.{Value, null, text}
use Rattle.model_defs.specs.Examples.{texts, whole, one, two, list_of, no_members}
use Rattle.model_defs.specs.Model.{untagged}
use Rattle.entry_defs.specs.Entry.{u8, Target, State, required, optional, Entry}
use Rattle.entry_defs.specs.Space.{Id, FieldAt, ContentsAt, unit_at, newtype_at, VariantAt, struct_shape_at, enum_shape_at, newtype_shape_at, integer_at, text_at, option_at, vec_at, tuple_entry_at, reference_at, item_at, Space, Holds}
use Rattle.entry_defs.specs.Table.{Table}
use Rattle.space_defs.specs.Held.{HoldsTable}
use Rattle.entry_laws.specs.Ids.{takes_at}

abbrev pub a : List ℕ
a = codes "a"

abbrev pub b : List ℕ
b = codes "b"

abbrev pub next : List ℕ
next = codes "next"

abbrev pub field : List ℕ → Id → State → FieldAt
field n i s = record { identifier = n; name = n; entry = i; state = s }

abbrev pub variant : List ℕ → ContentsAt → VariantAt
variant n c = record { identifier = n; name = n; contents = c }

abbrev pub TakesAt : Space → Id → Value → Type 0
TakesAt s i v = takes_at s texts i v ≡ true

abbrev pub RefusesAt : Space → Id → Value → Type 0
RefusesAt s i v = takes_at s texts i v ≡ false

-- a struct whose second field holds a list of bytes, and its parts
abbrev pub pair : Space
pair =
    text_at
    ∷ integer_at u8
    ∷ vec_at 1
    ∷ item_at (codes "Pair") (struct_shape_at true (field a 0 optional ∷ field b 2 required ∷ []) None)
    ∷ tuple_entry_at (0 ∷ 3 ∷ [])
    ∷ []

-- a struct that leads to itself, and an option of it
abbrev pub chain : Space
chain = item_at (codes "Chain") (struct_shape_at true (field next 2 optional ∷ []) None) ∷ reference_at 0 ∷ option_at 1 ∷ []

-- an untagged enum of itself and null, at one value, and a newtype of itself alone
abbrev pub round : Space
round = item_at (codes "Round") (enum_shape_at true untagged (variant a (newtype_at 1) ∷ variant b unit_at ∷ [])) ∷ reference_at 0 ∷ item_at (codes "Lone") (newtype_shape_at 2 None) ∷ []

pub record Taking : Type 0 where
  pub a_part : TakesAt pair 0 (text a)
  pub a_part_alone : RefusesAt pair 0 null
  pub a_struct : TakesAt pair 3 (two a (text b) b (list_of (whole 1 ∷ [])))
  pub a_field_missing : TakesAt pair 3 (one b (list_of []))
  pub a_field_refused : RefusesAt pair 3 (one b (list_of (null ∷ [])))
  pub a_tuple : TakesAt pair 4 (list_of (text a ∷ one b (list_of []) ∷ []))
  pub a_short_tuple : RefusesAt pair 4 (list_of (text a ∷ []))
  pub behind_the_last : RefusesAt pair 5 null
  pub a_chain : TakesAt chain 0 (one next (one next no_members))
  pub a_chain_of_null : TakesAt chain 0 (one next null)
  pub a_broken_chain : RefusesAt chain 0 (one next (whole 1))
  pub by_its_reference : TakesAt chain 1 (one next no_members)
  pub by_the_other_variant : TakesAt round 0 null
  pub by_no_variant : RefusesAt round 0 (whole 1)
  pub of_itself_alone : RefusesAt round 2 null

-- ---- a space may hold a table, and have an id at which no tree stands: a reference that nothing leads to

abbrev pub stray : Space
stray = reference_at 0 ∷ []

abbrev pub none_leads : Target → Id → Bool
none_leads q j = false

abbrev pub no_table : Table
no_table = record { targets = []; trees = [] }

pub record StrayIds : Type 0 where
  pub holds : HoldsTable none_leads stray no_table
  pub treeless : (e : Entry) → Holds none_leads stray e 0 → ⊥
