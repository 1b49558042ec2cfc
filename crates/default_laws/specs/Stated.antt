-- Which stated default stands at a place of the table of conversions that is emitted.
use Rattle.std.specs.Prelude.{◌≡◌, ◌⊎◌, ⊤, ℕ, ◌+◌, List, [], ◌∷◌, length}
use Rattle.std.specs.List.{AllByRecursion}
use Rattle.json_value.specs.Value.{Value}
use Rattle.model_defs.specs.Types.{TypeModel}
use Rattle.entry_defs.specs.Entry.{stated, Entry, Shape, struct_shape, enum_shape, newtype_shape, Contents, unit_contents, newtype_contents, tuple_contents, struct_contents, FieldEntry, VariantEntry, fields_of, variants_of}
use Rattle.entry_defs.specs.Table.{ItemEntry, Table, items_of}
use Rattle.emit_defs.specs.Setting.{Setting, setting_of}
use Rattle.emit_defs.specs.Models.{used_type, shape_defaults, after_state, after_contents}

-- `n` is the place, `e` the entry of the field, `w` its default and `ty` its type; `at` is the place of the next default
module _ (s : Setting) (n : ℕ) (e : Entry) (w : Value) (ty : TypeModel) where
  -- a field in the item `owner`
  abbrev pub StatedByField : List ℕ → ℕ → FieldEntry → Type 0
  StatedByField owner at f = (at ≡ n) × (f.state ≡ stated w) × (f.entry ≡ e) × (used_type s owner f.entry ≡ ty)

  abbrev pub StatedByFields : List ℕ → ℕ → List FieldEntry → Type 0
  StatedByFields owner at [] = ⊥
  StatedByFields owner at (f ∷ fs) = StatedByField owner at f ⊎ StatedByFields owner (after_state f.state at) fs

  abbrev pub StatedByContents : List ℕ → ℕ → Contents → Type 0
  StatedByContents owner at unit_contents = ⊥
  StatedByContents owner at (newtype_contents c) = ⊥
  StatedByContents owner at (tuple_contents cs) = ⊥
  StatedByContents owner at (struct_contents fs) = StatedByFields owner at (fields_of fs)

  abbrev pub StatedByVariants : List ℕ → ℕ → List VariantEntry → Type 0
  StatedByVariants owner at [] = ⊥
  StatedByVariants owner at (x ∷ xs) = StatedByContents owner at x.contents ⊎ StatedByVariants owner (after_contents x.contents at) xs

  abbrev pub StatedByShape : List ℕ → ℕ → Shape → Type 0
  StatedByShape owner at (struct_shape closed fs) = StatedByFields owner at (fields_of fs)
  StatedByShape owner at (enum_shape closed tag xs) = StatedByVariants owner at (variants_of xs)
  StatedByShape owner at (newtype_shape c rule) = ⊥

  abbrev pub StatedByItems : ℕ → List ItemEntry → Type 0
  StatedByItems at [] = ⊥
  StatedByItems at (i ∷ is) = StatedByShape i.name at i.shape ⊎ StatedByItems (at + length (shape_defaults i.shape)) is

-- of the table that is emitted for a table of entries
abbrev pub StatedAt : Table → ℕ → Entry → Value → TypeModel → Type 0
StatedAt t n e w ty = StatedByItems (setting_of t) n e w ty 0 (items_of t)

-- ---- what holds of each stated default of a table, and of the entry of its field

module _ (Holds : Entry → Value → Type 0) where
  abbrev pub HoldsOfField : FieldEntry → Type 0
  HoldsOfField f = (w : Value) → f.state ≡ stated w → Holds f.entry w

  abbrev pub HoldsOfContents : Contents → Type 0
  HoldsOfContents unit_contents = ⊤
  HoldsOfContents (newtype_contents c) = ⊤
  HoldsOfContents (tuple_contents cs) = ⊤
  HoldsOfContents (struct_contents fs) = AllByRecursion HoldsOfField (fields_of fs)

  abbrev pub HoldsOfShape : Shape → Type 0
  HoldsOfShape (struct_shape closed fs) = AllByRecursion HoldsOfField (fields_of fs)
  HoldsOfShape (enum_shape closed tag xs) = AllByRecursion (λ x. HoldsOfContents x.contents) (variants_of xs)
  HoldsOfShape (newtype_shape c rule) = ⊤

  abbrev pub HoldsOfStated : Table → Type 0
  HoldsOfStated t = AllByRecursion (λ i. HoldsOfShape i.shape) (items_of t)
