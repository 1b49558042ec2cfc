-- Emitted tables whose writings are read again.
use Rattle.std.specs.Prelude.{◌≡◌, ◌&&◌, not, List, [], ◌∷◌, Bool, true, bytes_eq}
use Rattle.std.specs.List.{list_all, AllByRecursion}
use Rattle.token_trees.specs.Token.{Name}
use Rattle.json_value.specs.Value.{Value, IsSmall}
use Rattle.schema_defs.specs.Texts.{Relations}
use Rattle.attr_parts.specs.declared.derive.Derive.{Derive}
use Rattle.attr_defs.specs.Renames.{Meaning}
use Rattle.attr_defs.specs.Texts.{lexed}
use Rattle.container_defs.specs.Reader.{item_models}
use Rattle.model_defs.specs.Types.{TypeModel}
use Rattle.model_defs.specs.Model.{TagModel, external_tag, internal_tag, adjacent_tag, untagged}
use Rattle.model_defs.specs.Reads.{reads}
use Rattle.model_defs.specs.Settled.{settled}
use Rattle.typed_defs.specs.Typed.{Typed}
use Rattle.typed_defs.specs.Written.{written}
use Rattle.reading_defs.specs.Proper.{has_json_numbers}
use Rattle.reading_defs.specs.Reading.{taken, reading}
use Rattle.reading_defs.specs.Laws.{defaults_are_sound}
use Rattle.writing_laws.specs.Kinds.{untagged_are_apart}
use Rattle.writing_laws.specs.Tables.{IsOrdered, AllOrdered, lists_scalars, IsReadBack}
use Rattle.entry_defs.specs.Entry.{Entry, Shape, struct_shape, enum_shape, newtype_shape, VariantEntry, Variants, variants_of}
use Rattle.entry_defs.specs.Table.{Table, items_of}
use Rattle.emit_defs.specs.Models.{conversions_of_items}
use Rattle.emit_defs.specs.Emission.{emission, models_of}
use Rattle.emit_defs.specs.Formed.{IsEmittable}

-- ---- names of variants that differ: an untagged enum writes none

abbrev pub variants_differ : List VariantEntry → Bool
variants_differ [] = true
variants_differ (w ∷ ws) = list_all (λ u. not (bytes_eq u.name w.name)) ws && variants_differ ws

abbrev pub tagged_differ : TagModel → Variants → Bool
tagged_differ external_tag ws = variants_differ (variants_of ws)
tagged_differ (internal_tag tag) ws = variants_differ (variants_of ws)
tagged_differ (adjacent_tag tag content) ws = variants_differ (variants_of ws)
tagged_differ untagged ws = true

abbrev pub variant_names_differ : Shape → Bool
variant_names_differ (struct_shape closed fs) = true
variant_names_differ (enum_shape closed tag ws) = tagged_differ tag ws
variant_names_differ (newtype_shape e rule) = true

-- ---- what is asked beside that the table can be emitted

pub record IsWrittenApart (t : Table) : Type 0 where
  pub variants : AllByRecursion (λ i. variant_names_differ i.shape ≡ true) (items_of t)
  pub kinds : untagged_are_apart (models_of t) ≡ true
  pub rules : list_all (λ c. lists_scalars c.rule) (conversions_of_items (items_of t)).constraints ≡ true
  pub numbers : list_all has_json_numbers (conversions_of_items (items_of t)).defaults ≡ true
  pub ordered : AllOrdered (conversions_of_items (items_of t)).defaults

-- ---- the laws

abbrev pub EmittedIsReadBack : Type 0
EmittedIsReadBack = (t : Table) → IsEmittable t → IsWrittenApart t → IsReadBack (models_of t) (conversions_of_items (items_of t))

abbrev pub EmittedIsWrittenBack : Type 0
EmittedIsWrittenBack =
    (t : Table) → IsEmittable t → IsWrittenApart t → (relations : Relations) (ty : TypeModel) (v : Value) (x : Typed) → has_json_numbers v ≡ true → IsOrdered v
    → reading (models_of t) (conversions_of_items (items_of t)) relations ty v ≡ taken x
    → reading (models_of t) (conversions_of_items (items_of t)) relations ty (written (models_of t) ty x) ≡ taken x

-- what a verdict says that a value is taken as, which is what it settles to, is read as the value is
abbrev pub EmittedSettledIsReadAlike : Type 0
EmittedSettledIsReadAlike =
    (t : Table) → IsEmittable t → IsWrittenApart t → (relations : Relations) → defaults_are_sound (models_of t) (conversions_of_items (items_of t)) relations ≡ true
    → (ty : TypeModel) (v : Value) → has_json_numbers v ≡ true → IsOrdered v → reads (models_of t) (conversions_of_items (items_of t)) relations ty v ≡ true
    → reading (models_of t) (conversions_of_items (items_of t)) relations ty (settled (models_of t) (conversions_of_items (items_of t)) relations ty v)
    ≡ reading (models_of t) (conversions_of_items (items_of t)) relations ty v

-- whatever a renamer makes of names, and for either derive
abbrev pub ItemsAreWrittenBack : Type 0
ItemsAreWrittenBack =
    (variant_name field_name : Meaning) (private : Name) (derive : Derive) (t : Table) → IsEmittable t → IsWrittenApart t → (e : Entry) (relations : Relations) (ty : TypeModel) (v : Value) (x : Typed)
    → has_json_numbers v ≡ true → IsOrdered v
    → reading (item_models lexed variant_name field_name private derive (emission t e).items) (emission t e).conversions relations ty v ≡ taken x
    → reading (item_models lexed variant_name field_name private derive (emission t e).items) (emission t e).conversions relations ty
    (written (item_models lexed variant_name field_name private derive (emission t e).items) ty x)
    ≡ taken x

-- values of which the headline speaks are such as these laws ask
abbrev pub SmallIsOrdered : Type 0
SmallIsOrdered = (v : Value) → IsSmall v → IsOrdered v
