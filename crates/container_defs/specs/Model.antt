-- What an item says to a derive as a container, and what is told of it, in order (serde.rs, attributes).
use Rattle.std.specs.Prelude.{ℕ, suc, ◌++◌, ◌&&◌, List, [], ◌∷◌, Bool, not, Option, Some, None, option_map}
use Rattle.std.specs.List.{list_any, flat_map}
use Rattle.token_trees.specs.Token.{Name}
use Rattle.syntax_trees.specs.Item.{FieldD, FieldsD, VariantD, BodyD, struct_body, enum_body, union_body, ItemD}
use Rattle.attr_parts.specs.declared.derive.Derive.{Derive}
use Rattle.attr_parts.specs.Diagnostics.{DiagnosticD, union_item, untagged_order}
use Rattle.attr_parts.specs.Places.{place_of, item_spans}
use Rattle.attr_defs.specs.Acts.{SettingD}
use Rattle.attr_defs.specs.Container.{container_diagnostics}
use Rattle.attr_defs.specs.Members.{variant_attrs, variant_diagnostics, field_diagnostics}
use Rattle.attr_defs.specs.Renames.{Meaning}
use Rattle.attr_defs.specs.Texts.{Lexing}
use Rattle.container_defs.specs.Checks.{told_if, checks_told, marked}
use Rattle.container_defs.specs.Container.{ReadContainer}
use Rattle.container_defs.specs.Reading.{each_of, container_of}

-- ---- what is told of attributes

module _ (lexing : Lexing) where
  abbrev pub fields_told_from : Option SettingD → ℕ → List FieldD → List DiagnosticD
  fields_told_from borrow index [] = []
  fields_told_from borrow index (f ∷ fs) = field_diagnostics lexing f index borrow ++ fields_told_from borrow (suc index) fs

  abbrev pub fields_told : Option SettingD → FieldsD → List DiagnosticD
  fields_told borrow fs = fields_told_from borrow 0 (each_of fs)

  -- a variant's attributes, and then its fields'
  abbrev pub variant_told : VariantD → List DiagnosticD
  variant_told v = variant_diagnostics lexing v ++ fields_told (variant_attrs lexing v).borrow v.fields

  abbrev pub variants_told : List VariantD → List DiagnosticD
  variants_told vs = flat_map variant_told vs

  abbrev pub is_untagged : VariantD → Bool
  is_untagged v = (variant_attrs lexing v).untagged

  -- each untagged variant that stands before a tagged one, at its name
  abbrev pub order_told : List VariantD → List DiagnosticD
  order_told [] = []
  order_told (v ∷ vs) = told_if (is_untagged v && list_any (λ w. not (is_untagged w)) vs) untagged_order v.name.span ++ order_told vs

  abbrev pub members_told : BodyD → List DiagnosticD
  members_told (struct_body fs at) = fields_told None fs
  members_told (enum_body vs at) = variants_told vs ++ order_told vs
  members_told (union_body fs at) = []

-- ---- items

-- what is told of a container by the checks; of what is none, that it is a union
abbrev pub told_at_last : Derive → ItemD → Option ReadContainer → List DiagnosticD
told_at_last derive i None = record { kind = union_item; span = place_of (item_spans i) } ∷ []
told_at_last derive i (Some c) = checks_told derive c

module _ (lexing : Lexing) (variant_name field_name : Meaning) (private : Name) where
  -- none of a union
  abbrev pub model_of : ItemD → Derive → Option ReadContainer
  model_of i derive = option_map (marked derive) (container_of lexing variant_name field_name private i)

  abbrev pub diagnostics_of : ItemD → Derive → List DiagnosticD
  diagnostics_of i derive =
      container_diagnostics lexing i ++ (members_told lexing i.body ++ told_at_last derive i (container_of lexing variant_name field_name private i))
