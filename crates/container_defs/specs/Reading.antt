-- What an item is read as, before the checks: its attributes, those of its variants and fields, and the names that rules give.
use Rattle.std.specs.Prelude.{ℕ, suc, List, [], ◌∷◌, map, Option, Some, None, option_map}
use Rattle.token_trees.specs.Token.{Name}
use Rattle.syntax_trees.specs.Syntax.{MemberD, named, unnamed}
use Rattle.syntax_trees.specs.Item.{FieldD, FieldsD, named_fields, unnamed_fields, unit_fields, VariantD, BodyD, struct_body, enum_body, union_body, ItemD}
use Rattle.attr_parts.specs.declared.rename.RenameAllRules.{RenameAllRules}
use Rattle.attr_parts.specs.Rules.{rules_or}
use Rattle.attr_parts.specs.Values.{DefaultD}
use Rattle.attr_defs.specs.Acts.{SettingD}
use Rattle.attr_defs.specs.Container.{ContainerAttrs, container_attrs}
use Rattle.attr_defs.specs.Members.{variant_attrs, field_attrs}
use Rattle.attr_defs.specs.Renames.{Meaning, variant_renamed, field_renamed}
use Rattle.attr_defs.specs.Texts.{Lexing}
use Rattle.container_defs.specs.declared.style.Style.{Style}
use Rattle.container_defs.specs.declared.style.Style.TheVariants.{Struct, Tuple, Newtype, Unit as NoFields}
use Rattle.container_defs.specs.Container.{ReadField, ReadVariant, ReadData, read_enum, read_struct, ReadContainer}

-- one field without a name is a newtype, any other number of them, none included, a tuple
abbrev pub unnamed_style : List FieldD → Style
unnamed_style [] = Tuple
unnamed_style (f ∷ []) = Newtype
unnamed_style (f ∷ g ∷ fs) = Tuple

abbrev pub style_of : FieldsD → Style
style_of (named_fields fs) = Struct
style_of (unnamed_fields fs) = unnamed_style fs
style_of unit_fields = NoFields

abbrev pub each_of : FieldsD → List FieldD
each_of (named_fields fs) = fs
each_of (unnamed_fields fs) = fs
each_of unit_fields = []

abbrev pub member_by : Option Name → ℕ → MemberD
member_by (Some n) index = named n
member_by None index = unnamed index

-- ---- fields and variants

module _ (lexing : Lexing) (private : Name) (container : DefaultD) where
  -- a field at its place from 0; what its variant borrows is handed on
  abbrev pub field_of : Option SettingD → ℕ → FieldD → ReadField
  field_of borrow index f = record { member = member_by f.name index; attrs = field_attrs lexing f index borrow container private; ty = f.ty; original = f }

  abbrev pub fields_from : Option SettingD → ℕ → List FieldD → List ReadField
  fields_from borrow index [] = []
  fields_from borrow index (f ∷ fs) = field_of borrow index f ∷ fields_from borrow (suc index) fs

  abbrev pub fields_of : Option SettingD → FieldsD → List ReadField
  fields_of borrow fs = fields_from borrow 0 (each_of fs)

  abbrev pub variant_of : VariantD → ReadVariant
  variant_of v = record {
    name = v.name;
    attrs = variant_attrs lexing v;
    style = style_of v.fields;
    fields = fields_of (variant_attrs lexing v).borrow v.fields;
    original = v;
  }

  -- a union is not read
  abbrev pub data_of : BodyD → Option ReadData
  data_of (struct_body fs at) = Some (read_struct (style_of fs) (fields_of None fs))
  data_of (enum_body vs at) = Some (read_enum (map variant_of vs))
  data_of (union_body fs at) = None

-- ---- names by rules

module _ (variant_name field_name : Meaning) where
  abbrev pub name_field : RenameAllRules → ReadField → ReadField
  name_field rules f = record f { attrs = field_renamed field_name rules f.attrs }

  -- a variant by the container's rules; its fields by its own, and where it has none by those that the container has for fields
  abbrev pub name_variant : ContainerAttrs → ReadVariant → ReadVariant
  name_variant c v = record v {
    attrs = variant_renamed variant_name c.rename_all v.attrs;
    fields = map (name_field (rules_or v.attrs.rename_all c.rename_all_fields)) v.fields;
  }

  abbrev pub name_data : ContainerAttrs → ReadData → ReadData
  name_data c (read_enum vs) = read_enum (map (name_variant c) vs)
  name_data c (read_struct s fs) = read_struct s (map (name_field c.rename_all) fs)

-- ---- items

module _ (lexing : Lexing) (variant_name field_name : Meaning) (private : Name) where
  abbrev pub container_with : ItemD → ReadData → ReadContainer
  container_with i d = record {
    name = i.name;
    attrs = container_attrs lexing i;
    body = name_data variant_name field_name (container_attrs lexing i) d;
    params = i.params;
    predicates = i.predicates;
    original = i;
  }

  -- the container that is checked
  abbrev pub container_of : ItemD → Option ReadContainer
  container_of i = option_map (container_with i) (data_of lexing private (container_attrs lexing i).default i.body)
