-- What holds of each schema inside the parts of a row, and which schemas a row makes.
use Rattle.std.proofs.Common.{◌≡◌, List, [], ◌∷◌, ◌++◌, false, Some}
use Rattle.json_value.specs.Value.{Value}
use Rattle.schema_defs.specs.declared.InstanceType.{InstanceType}
use Rattle.schema_defs.specs.declared.InstanceType.TheVariants.{Object, Number, Text, Integer}
use Rattle.schema_defs.specs.Schema.{Plain, Named, no_named, ListRules}
use Rattle.each_schema.specs.Each.{EachSchema}
use Rattle.convert_defs.specs.Row.{Part, VariantRow, variants_parts, Row, row_parts}
use Rattle.convert_defs.specs.Standing.{of_type, less_types, less_enum, less_const, alone, no_keyword}
use Rattle.enum_defs.specs.Words.{same_type}
use Rattle.convert_defs.specs.Scalars.{without_nulls}
use Rattle.convert_defs.specs.Shapes.{Member}
use Rattle.convert_defs.specs.Table.{type_beside_null, beside_null, only_type}
use Rattle.convert_defs.proofs.Views.{schema_of, AllParts}

module _ (At : Plain → Named → Type 0) (sized : ListRules → Type 0) where
  abbrev pub In : Part → Type 0
  In p = EachSchema At sized (schema_of p)

  abbrev pub AllIn : Row → Type 0
  AllIn w = AllParts In (row_parts w)

  abbrev pub MembersIn : List Member → Type 0
  MembersIn [] = Unit {0}
  MembersIn (m ∷ ms) = EachSchema At sized m.1 × MembersIn ms

  abbrev pub VariantsIn : List VariantRow → Type 0
  VariantsIn ws = AllParts In (variants_parts ws)

  pub parts-both : (xs ys : List Part) → AllParts In xs → AllParts In ys → AllParts In (xs ++ ys)
  parts-both [] ys h g = g
  parts-both (x ∷ xs) ys h g = (h.0, parts-both xs ys h.1 g)

module _ (At : Plain → Named → Type 0) where
  -- the schemas that rows make have it
  pub record IsMadeToo : Type 0 where
    pub one : (k : InstanceType) → same_type Number k ≡ false → At (of_type k no_keyword) no_named
    pub of_objects : (p : Plain) (ns : Named) → At p ns → At (of_type Object no_keyword) ns
    pub of_integers : (p : Plain) (ns : Named) → At p ns → At (record (of_type Integer no_keyword) { numbers = p.numbers; format = p.format }) no_named
    pub of_texts : (p : Plain) (ns : Named) → At p ns → At (record (of_type Text no_keyword) { texts = p.texts; format = p.format }) no_named
    pub no_null : (p : Plain) (ns : Named) (k : InstanceType) → type_beside_null p.types ≡ Some k → At p ns → At (beside_null (of_type k p)) ns
    pub no_nulls : (vs : List Value) (p : Plain) (ns : Named) → At p ns → At (without_nulls vs p) no_named
    pub only : (p : Plain) (ns : Named) (k : InstanceType) → only_type p.types ≡ Some k → At p ns → At (of_type k p) ns
    pub no_types : (p : Plain) (ns : Named) → At p ns → At (less_types p) ns
    pub no_enum : (p : Plain) (ns : Named) → At p ns → At (less_enum p) ns
    pub no_const : (p : Plain) (ns : Named) → At p ns → At (less_const p) ns

module _ (At : Plain → Named → Type 0) (sized : ListRules → Type 0) (made_here : IsMadeToo At) where
  pub of-one-type : (k : InstanceType) → same_type Number k ≡ false → EachSchema At sized (alone (of_type k no_keyword))
  of-one-type k e = (made_here.one k e, tt, tt, tt)
