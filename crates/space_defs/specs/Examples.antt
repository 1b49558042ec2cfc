-- Spaces that hold small tables.
use Rattle.std.specs.Prelude.{◌≡◌, ◌&&◌, ◌||◌, ◌==◌, ℕ, List, [], ◌∷◌, Bool, true, false, Option, Some, None, bytes_eq, codes}
use Rattle.json_value.specs.Value as value
use Rattle.json_value.specs.Value.{null}
use Rattle.model_defs.specs.Model.{external_tag, adjacent_tag, untagged}
use Rattle.entry_defs.specs.Entry.{u8, Target, the_root, definition, State, required, optional, stated}
use Rattle.entry_defs.specs.Space.{Id, FieldAt, RestAt, ContentsAt, unit_at, newtype_at, tuple_at, struct_at, VariantAt, struct_shape_at, enum_shape_at, newtype_shape_at, boolean_at, integer_at, text_at, null_at, option_at, vec_at, tuple_entry_at, reference_at, item_at, Space}
use Rattle.entry_defs.specs.Table.{Table, root_of}
use Rattle.emit_defs.specs.Emission.{emission}
use Rattle.emit_defs.specs.Examples as tables
use Rattle.space_defs.specs.Emission.{emission_at}
use Rattle.space_defs.specs.Held.{HoldsTable}

abbrev pub named : List ℕ → Id → State → FieldAt
named n j s = record { identifier = n; name = n; entry = j; state = s }

abbrev pub extra : Id → Option RestAt
extra j = Some (record { identifier = codes "extra"; entry = j })

abbrev pub variant : List ℕ → ContentsAt → VariantAt
variant n c = record { identifier = n; name = n; contents = c }

abbrev pub chain : Space
chain =
    item_at (codes "A") (struct_shape_at false (named (codes "next") 2 optional ∷ named (codes "all") 3 optional ∷ named (codes "other") 5 required ∷ []) (extra 2))
    ∷ item_at (codes "B") (newtype_shape_at 6 None)
    ∷ reference_at 0
    ∷ vec_at 2
    ∷ reference_at 1
    ∷ option_at 4
    ∷ option_at 2
    ∷ []

-- the ids of the items of its targets
abbrev pub chain_leads : Target → Id → Bool
chain_leads the_root j = false
chain_leads (definition k) j = (bytes_eq k (codes "a") && (j == 0)) || (bytes_eq k (codes "b") && (j == 1))

abbrev pub leading : Space
leading =
    item_at (codes "PhantomData") (newtype_shape_at 4 None)
    ∷ item_at (codes "X") (newtype_shape_at 5 None)
    ∷ item_at (codes "Root") (struct_shape_at false (named (codes "a") 5 required ∷ named (codes "b") 6 required ∷ named (codes "c") 6 optional ∷ []) None)
    ∷ text_at
    ∷ option_at 3
    ∷ reference_at 0
    ∷ reference_at 1
    ∷ []

-- one entry for three fields, and one for two places
abbrev pub alike : Space
alike =
    item_at (codes "Root") (struct_shape_at false (named (codes "a") 2 required ∷ named (codes "b") 2 required ∷ named (codes "c") 2 optional ∷ []) (extra 3))
    ∷ item_at (codes "Inner") (struct_shape_at false [] None)
    ∷ tuple_entry_at (1 ∷ 1 ∷ [])
    ∷ boolean_at
    ∷ []

abbrev pub enums : Space
enums =
    item_at (codes "Root") (enum_shape_at true external_tag (
    variant (codes "a") unit_at
    ∷ variant (codes "b") (newtype_at 1)
    ∷ variant (codes "c") (struct_at (named (codes "d") 2 (stated null) ∷ named (codes "e") 3 (stated (value.boolean true)) ∷ []))
    ∷ []))
    ∷ item_at (codes "Tagged") (enum_shape_at false (adjacent_tag (codes "t") (codes "c")) (record { identifier = codes "Variant0"; name = codes "1"; contents = unit_at } ∷ variant (codes "Y") (tuple_at (3 ∷ 4 ∷ [])) ∷ []))
    ∷ item_at (codes "Bare") (enum_shape_at false untagged (variant (codes "Variant0") (newtype_at 5) ∷ variant (codes "Variant1") unit_at ∷ []))
    ∷ boolean_at
    ∷ integer_at u8
    ∷ null_at
    ∷ []

abbrev pub Emits : Space → Id → Table → Type 0
Emits space root t = emission_at space root ≡ emission t (root_of t)

pub record EmittedAlike : Type 0 where
  pub of_chain : Emits chain 4 tables.chain
  -- the root at the id of its item, as where the document is what a reference of it leads to
  pub of_chain_item : Emits chain 1 tables.chain
  pub of_leading : Emits leading 2 tables.leading
  pub of_alike : Emits alike 0 tables.alike
  pub of_enums : Emits enums 0 tables.enums
  pub holds_chain : HoldsTable chain_leads chain tables.chain
