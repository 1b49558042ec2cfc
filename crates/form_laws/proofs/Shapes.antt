-- Variants that were read have as many fields as their styles say.
use Rattle.std.proofs.Common.{◌≡◌, ℕ, List, [], ◌∷◌, map, Bool, true, false, ◌&&◌, Option, Some, None, cond, refl, sym, ap, ◌∙◌}
use Rattle.std.specs.List.{list_all}
use Rattle.token_trees.specs.Token.{Name}
use Rattle.syntax_trees.specs.Item.{FieldD, FieldsD, named_fields, unnamed_fields, unit_fields, VariantD, BodyD, struct_body, enum_body, union_body, ItemD}
use Rattle.attr_parts.specs.declared.derive.Derive.{Derive}
use Rattle.attr_parts.specs.declared.rename.RenameAllRules.{RenameAllRules}
use Rattle.attr_parts.specs.Values.{TagD, DefaultD}
use Rattle.attr_parts.specs.Rules.{rules_or}
use Rattle.attr_defs.specs.Acts.{SettingD}
use Rattle.attr_defs.specs.Container.{ContainerAttrs, container_attrs}
use Rattle.attr_defs.specs.Members.{variant_attrs}
use Rattle.attr_defs.specs.Renames.{Meaning}
use Rattle.attr_defs.specs.Texts.{Lexing}
use Rattle.reading_defs.specs.Proper.{has_shape, body_has_shape}
use Rattle.container_defs.specs.declared.style.Style.{Style}
use Rattle.container_defs.specs.declared.style.Style.TheVariants.{Struct, Tuple, Newtype, Unit as NoFields}
use Rattle.container_defs.specs.Checks.{mark_in, marked}
use Rattle.container_defs.specs.Container.{ReadField, ReadData, read_enum, read_struct}
use Rattle.container_defs.specs.Reading.{style_of, unnamed_style, fields_of, fields_from, variant_of, data_of, name_field, name_variant, name_data, container_with, container_of}
use Rattle.container_defs.specs.Reader.{field_model, style_model, variant_model, body_model, reader_model}
use Rattle.form_laws.proofs.Fields.{both_true}

module _ (lexing : Lexing) (private : Name) (own : DefaultD) (variant_name field_name : Meaning) (borrow : Option SettingD) (rules : RenameAllRules) where
  unnamed_shape : (fs : List FieldD) → has_shape (style_model (unnamed_style fs)) (map field_model (map (name_field variant_name field_name rules) (fields_from lexing private own borrow 0 fs))) ≡ true
  unnamed_shape [] = refl
  unnamed_shape (f ∷ []) = refl
  unnamed_shape (f ∷ g ∷ fs) = refl

  fields_shape : (fs : FieldsD) → has_shape (style_model (style_of fs)) (map field_model (map (name_field variant_name field_name rules) (fields_of lexing private own borrow fs))) ≡ true
  fields_shape (named_fields fs) = refl
  fields_shape (unnamed_fields fs) = unnamed_shape fs
  fields_shape unit_fields = refl

module _ (lexing : Lexing) (variant_name field_name : Meaning) (private : Name) where
  module _ (c : ContainerAttrs) (own : DefaultD) where
    variants_shape : (vs : List VariantD) → list_all (λ w. has_shape w.style w.fields) (map variant_model (map (name_variant variant_name field_name c) (map (variant_of lexing private own) vs))) ≡ true
    variants_shape [] = refl
    variants_shape (v ∷ vs) =
        let rest = list_all (λ w. has_shape w.style w.fields) (map variant_model (map (name_variant variant_name field_name c) (map (variant_of lexing private own) vs))) in
        let rules = rules_or (variant_attrs lexing v).rename_all c.rename_all_fields in
        both_true (has_shape (style_model (style_of v.fields)) (map field_model (map (name_field variant_name field_name rules) (fields_of lexing private own (variant_attrs lexing v).borrow v.fields)))) rest
        (fields_shape lexing private own variant_name field_name (variant_attrs lexing v).borrow rules v.fields)
        (variants_shape vs)

    -- what is marked of a struct has a shape whatever it is
    marked_struct : (tag : TagD) (derive : Derive) (b : Bool) (s : Style) (fs : List ReadField) → body_has_shape (body_model tag (cond b (mark_in derive (read_struct s fs)) (read_struct s fs))) ≡ true
    marked_struct tag derive false s fs = refl
    marked_struct tag derive true Struct fs = refl
    marked_struct tag derive true Tuple fs = refl
    marked_struct tag derive true Newtype fs = refl
    marked_struct tag derive true NoFields fs = refl

    marked_enum : (tag : TagD) (derive : Derive) (b : Bool) (vs : List VariantD)
        → body_has_shape (body_model tag (cond b (mark_in derive (name_data variant_name field_name c (read_enum (map (variant_of lexing private own) vs)))) (name_data variant_name field_name c (read_enum (map (variant_of lexing private own) vs))))) ≡ true
    marked_enum tag derive true vs = variants_shape vs
    marked_enum tag derive false vs = variants_shape vs

  abbrev pub HasShape : Derive → ItemD → Option ReadData → Type 0
  HasShape derive i None = Unit {0}
  HasShape derive i (Some d) = body_has_shape (reader_model (marked derive (container_with lexing variant_name field_name private i d))).body ≡ true

  pub data_shape : (derive : Derive) (i : ItemD) (b : BodyD) → HasShape derive i (data_of lexing private (container_attrs lexing i).default b)
  data_shape derive i (struct_body fs at) =
      marked_struct (container_attrs lexing i) (container_attrs lexing i).default (container_attrs lexing i).tag derive (container_attrs lexing i).transparent (style_of fs) (map (name_field variant_name field_name (container_attrs lexing i).rename_all) (fields_of lexing private (container_attrs lexing i).default None fs))
  data_shape derive i (enum_body vs at) = marked_enum (container_attrs lexing i) (container_attrs lexing i).default (container_attrs lexing i).tag derive (container_attrs lexing i).transparent vs
  data_shape derive i (union_body fs at) = tt
