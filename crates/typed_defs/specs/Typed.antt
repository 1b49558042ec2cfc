-- What a JSON value becomes once it is read as a type: serde's data model, in as far as the types of items come to it (serde.rs/data-model).
use Rattle.std.specs.Prelude.{ℕ, ℤ, List, [], ◌∷◌, Bool}
use Rattle.json_value.specs.Value.{Value}

-- a missing option is `none`; a struct has a value for each field in order, a variant its place among the variants and a value for each field.
-- A box has no mark of its own
mutual
  pub data Typed : Type 0 where
    unit : Typed
    boolean : Bool → Typed
    integer : ℤ → Typed
    text : List ℕ → Typed
    any : Value → Typed
    none : Typed
    some : Typed → Typed
    list : Typeds → Typed
    map_of : TypedPairs → Typed
    struct : Typeds → Typed
    variant : ℕ → Typeds → Typed
    newtype : Typed → Typed

  pub data Typeds : Type 0 where
    no_more : Typeds
    typed_then : Typed → Typeds → Typeds

  pub data TypedPairs : Type 0 where
    no_pairs : TypedPairs
    pair_then : Typed → Typed → TypedPairs → TypedPairs

-- ---- as lists

abbrev pub typeds_of : Typeds → List Typed
typeds_of no_more = []
typeds_of (typed_then x xs) = x ∷ typeds_of xs

abbrev pub typeds : List Typed → Typeds
typeds [] = no_more
typeds (x ∷ xs) = typed_then x (typeds xs)

abbrev pub pairs_of : TypedPairs → List (Typed × Typed)
pairs_of no_pairs = []
pairs_of (pair_then k x xs) = (k, x) ∷ pairs_of xs

abbrev pub pairs : List (Typed × Typed) → TypedPairs
pairs [] = no_pairs
pairs (e ∷ es) = pair_then e.0 e.1 (pairs es)
