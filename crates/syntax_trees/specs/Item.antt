-- Items, as contracts see them.
use Rattle.std.specs.Prelude.{List, map, Option, option_map}
use Rattle.token_trees.specs.declared.token.Span.{Span}
use Rattle.token_trees.specs.Token.{Tok, Name}
use Rattle.token_trees.specs.View.{name_view, stream}
use Rattle.syntax_trees.specs.Syntax.{PathD, TyD, BoundD, LifetimeD}
use Rattle.syntax_trees.specs.View.{path_view, ty, bound_view, lifetime_view}
use Rattle.syntax_trees.specs.declared.item.Meta.{Meta}
use Rattle.syntax_trees.specs.declared.item.Meta.TheVariants as metas
use Rattle.syntax_trees.specs.declared.item.Attribute.{Attribute}
use Rattle.syntax_trees.specs.declared.item.Field.{Field}
use Rattle.syntax_trees.specs.declared.item.Fields.{Fields}
use Rattle.syntax_trees.specs.declared.item.Fields.TheVariants as fields
use Rattle.syntax_trees.specs.declared.item.Variant.{Variant}
use Rattle.syntax_trees.specs.declared.item.GenericParam.{GenericParam}
use Rattle.syntax_trees.specs.declared.item.GenericParam.TheVariants as params
use Rattle.syntax_trees.specs.declared.item.WherePredicate.{WherePredicate}
use Rattle.syntax_trees.specs.declared.item.WherePredicate.TheVariants as predicates
use Rattle.syntax_trees.specs.declared.item.Data.{Data}
use Rattle.syntax_trees.specs.declared.item.Data.TheVariants as bodies
use Rattle.syntax_trees.specs.declared.item.DeriveInput.{DeriveInput}

-- an attribute: a path, a path with a list and the list's span, or a path with a value
pub data MetaD : Type 0 where
  meta_path : PathD → MetaD
  meta_list : PathD → List Tok → Span → MetaD
  meta_value : PathD → List Tok → MetaD

pub record FieldD : Type 0 where
  pub attrs : List MetaD
  pub name : Option Name
  pub ty : TyD

pub data FieldsD : Type 0 where
  named_fields : List FieldD → FieldsD
  unnamed_fields : List FieldD → FieldsD
  unit_fields : FieldsD

pub record VariantD : Type 0 where
  pub attrs : List MetaD
  pub name : Name
  pub fields : FieldsD

pub data ParamD : Type 0 where
  param_ty : Name → List BoundD → ParamD
  param_lifetime : LifetimeD → ParamD
  param_const : Name → TyD → ParamD

pub data PredicateD : Type 0 where
  predicate_ty : TyD → List BoundD → PredicateD
  predicate_lifetime : LifetimeD → List LifetimeD → PredicateD

pub data BodyD : Type 0 where
  struct_body : FieldsD → Span → BodyD
  enum_body : List VariantD → Span → BodyD
  union_body : List FieldD → Span → BodyD

pub record ItemD : Type 0 where
  pub attrs : List MetaD
  pub name : Name
  pub params : List ParamD
  pub predicates : List PredicateD
  pub body : BodyD

abbrev pub path_of : MetaD → PathD
path_of (meta_path p) = p
path_of (meta_list p ts at) = p
path_of (meta_value p ts) = p

abbrev pub meta_view : Meta → MetaD
meta_view (metas.Path p) = meta_path (path_view p)
meta_view (metas.List p s at) = meta_list (path_view p) (stream s) at
meta_view (metas.NameValue p s) = meta_value (path_view p) (stream s)

abbrev pub attribute_view : Attribute → MetaD
attribute_view a = meta_view a.meta

abbrev pub attributes_view : List Attribute → List MetaD
attributes_view metas = map attribute_view metas

abbrev pub field_view : Field → FieldD
field_view f = record { attrs = map attribute_view f.attrs.items; name = option_map name_view f.ident; ty = ty f.ty }

abbrev pub fields_view : Fields → FieldsD
fields_view (fields.Named fs) = named_fields (map field_view fs.items)
fields_view (fields.Unnamed fs) = unnamed_fields (map field_view fs.items)
fields_view fields.Unit = unit_fields

abbrev pub variant_view : Variant → VariantD
variant_view v = record { attrs = map attribute_view v.attrs.items; name = name_view v.ident; fields = fields_view v.fields }

abbrev pub param_view : GenericParam → ParamD
param_view (params.Ty i bs) = param_ty (name_view i) (map bound_view bs.items)
param_view (params.Lifetime l) = param_lifetime (lifetime_view l)
param_view (params.Const i t) = param_const (name_view i) (ty t)

abbrev pub predicate_view : WherePredicate → PredicateD
predicate_view (predicates.Ty t bs) = predicate_ty (ty t) (map bound_view bs.items)
predicate_view (predicates.Lifetime l ls) = predicate_lifetime (lifetime_view l) (map lifetime_view ls.items)

abbrev pub body_view : Data → BodyD
body_view (bodies.Struct fs at) = struct_body (fields_view fs) at
body_view (bodies.Enum vs at) = enum_body (map variant_view vs.items) at
body_view (bodies.Union fs at) = union_body (map field_view fs.items) at

abbrev pub item_view : DeriveInput → ItemD
item_view d = record {
  attrs = map attribute_view d.attrs.items;
  name = name_view d.ident;
  params = map param_view d.generics.params.items;
  predicates = map predicate_view d.generics.where_clause.items;
  body = body_view d.body;
}
