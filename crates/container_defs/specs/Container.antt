-- Containers: items with what their attributes say (serde.rs, container, variant and field attributes).
use Rattle.std.specs.Prelude.{List, Bool, is_some}
use Rattle.std.specs.List.{list_any, flat_map}
use Rattle.token_trees.specs.Token.{Name}
use Rattle.syntax_trees.specs.Syntax.{MemberD, TyD}
use Rattle.syntax_trees.specs.Item.{FieldD, VariantD, ParamD, PredicateD, ItemD}
use Rattle.attr_defs.specs.Container.{ContainerAttrs}
use Rattle.attr_defs.specs.Members.{VariantAttrs, FieldAttrs}
use Rattle.container_defs.specs.declared.style.Style.{Style}

-- a field: its name or its number, what its attributes say, its type, and the field as it is written
pub record ReadField : Type 0 where
  pub member : MemberD
  pub attrs : FieldAttrs
  pub ty : TyD
  pub original : FieldD

pub record ReadVariant : Type 0 where
  pub name : Name
  pub attrs : VariantAttrs
  pub style : Style
  pub fields : List ReadField
  pub original : VariantD

-- the variants of an enum, or the fields of a struct
pub data ReadData : Type 0 where
  read_enum : List ReadVariant → ReadData
  read_struct : Style → List ReadField → ReadData

-- a container: its name, what its attributes say, its variants or fields, its parameters with what is asked of them, and the
-- item as it is written
pub record ReadContainer : Type 0 where
  pub name : Name
  pub attrs : ContainerAttrs
  pub body : ReadData
  pub params : List ParamD
  pub predicates : List PredicateD
  pub original : ItemD

-- all fields; those of an enum variant by variant
abbrev pub all_fields : ReadData → List ReadField
all_fields (read_enum vs) = flat_map (λ v. v.fields) vs
all_fields (read_struct s fs) = fs

-- whether some field has a getter
abbrev pub has_getter : ReadData → Bool
has_getter d = list_any (λ f. is_some f.attrs.getter) (all_fields d)
