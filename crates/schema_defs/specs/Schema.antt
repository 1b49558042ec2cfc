-- A schema (JSON Schema Draft 7, in the profile that is read) and a document of schemas.
-- Keywords that hold no schema stand in records. Numbers, texts, lists and members each have a part, which is there where one of its keywords stands.
use Rattle.std.specs.Prelude.{ℕ, ℤ, List, [], ◌∷◌, Bool, Option}
use Rattle.json_value.specs.Value.{Value}
use Rattle.schema_defs.specs.declared.InstanceType.{InstanceType}
use Rattle.schema_defs.specs.declared.Setting.{Setting}
use Rattle.schema_defs.specs.Location.{Location}

-- `type`: a name, or a list of names
pub data Types : Type 0 where
  one_type : InstanceType → Types
  many_types : List InstanceType → Types

pub record Numbers : Type 0 where
  pub multiple_of : Option ℕ
  pub maximum : Option ℤ
  pub exclusive_maximum : Option ℤ
  pub minimum : Option ℤ
  pub exclusive_minimum : Option ℤ

-- the patterns are asked together
pub record Texts : Type 0 where
  pub max_length : Option ℕ
  pub min_length : Option ℕ
  pub patterns : List (List ℕ)

pub record ListRules : Type 0 where
  pub max_items : Option ℕ
  pub min_items : Option ℕ
  pub unique_items : Option Bool

-- the required names rise
pub record MemberRules : Type 0 where
  pub max_properties : Option ℕ
  pub min_properties : Option ℕ
  pub required : List (List ℕ)

-- what holds no schema; a walk is a list of locations
pub record Plain : Type 0 where
  pub title : Option (List ℕ)
  pub description : Option (List ℕ)
  pub default : Option Value
  pub const_value : Option Value
  pub types : Option Types
  pub format : Option (List ℕ)
  pub enum_values : Option (List Value)
  pub numbers : Option Numbers
  pub texts : Option Texts
  pub reference : Option (List ℕ)
  pub walk : Option (List Location)

mutual
  pub data Schema : Type 0 where
    boolean : Bool → Schema
    object : Plain → Same → Lists → Named → Schema

  -- allOf, anyOf, oneOf, not, and whether one of if, then and else stands
  pub data Same : Type 0 where
    no_same : Same
    same_value : MaybeSchemas → MaybeSchemas → MaybeSchemas → MaybeSchema → Bool → Same

  -- items, additionalItems, contains, and the sizes
  pub data Lists : Type 0 where
    no_lists : Lists
    lists : Places → MaybeSchema → MaybeSchema → ListRules → Lists

  -- properties, patternProperties, additionalProperties, propertyNames, and the counts and required names
  pub data Named : Type 0 where
    no_named : Named
    named : Properties → Properties → MaybeSchema → MaybeSchema → MemberRules → Named

  pub data MaybeSchema : Type 0 where
    no_schema : MaybeSchema
    the_schema : Schema → MaybeSchema

  pub data MaybeSchemas : Type 0 where
    no_list : MaybeSchemas
    the_list : Schemas → MaybeSchemas

  pub data Schemas : Type 0 where
    no_more : Schemas
    schema : Schema → Schemas → Schemas

  pub data Places : Type 0 where
    no_items : Places
    each_item : Schema → Places
    by_place : Schemas → Places

  pub data Properties : Type 0 where
    no_properties : Properties
    property : List ℕ → Schema → Properties → Properties

-- `under_defs` says that it stands under `$defs`, and not under `definitions`
pub record Definition : Type 0 where
  pub name : List ℕ
  pub under_defs : Bool
  pub body : Schema

-- the definitions stand in the order of their names; the setting says whether null may stand for an absent property
pub record Document : Type 0 where
  pub setting : Setting
  pub root : Schema
  pub definitions : List Definition

abbrev pub schema_list : Schemas → List Schema
schema_list no_more = []
schema_list (schema s ss) = s ∷ schema_list ss

abbrev pub property_list : Properties → List (List ℕ × Schema)
property_list no_properties = []
property_list (property k s ps) = (k, s) ∷ property_list ps

-- as lists, the other way
abbrev pub schemas : List Schema → Schemas
schemas [] = no_more
schemas (s ∷ ss) = schema s (schemas ss)

abbrev pub properties : List (List ℕ × Schema) → Properties
properties [] = no_properties
properties (p ∷ ps) = property p.0 p.1 (properties ps)
