-- The tokens that items and what they hold are printed as. A comma stands behind each field and each variant.
use Rattle.std.specs.Prelude.{List, [], ◌∷◌, ◌++◌, Bool, true, false, Option, Some, None, codes}
use Rattle.token_trees.specs.declared.token.Delimiter.TheVariants.{Parenthesis}
use Rattle.token_trees.specs.Token.{Tok, word, group, toks_of, Name}
use Rattle.syntax_trees.specs.Syntax.{BoundD, bounds_of}
use Rattle.syntax_trees.specs.Item.{MetaD, meta_path, meta_list, meta_value, FieldD, FieldsD, named_fields, unnamed_fields, unit_fields, VariantD, ParamD, param_ty, param_lifetime, param_const, PredicateD, BodyD, struct_body, enum_body, union_body, ItemD}
use Rattle.syntax_printing.specs.Print.{sign, keyword, within_parens, within_brackets, within_braces, print_name, print_lifetime, when, print_ty, print_bounds, print_path}
use Rattle.syntax_printing.specs.PrintPredicates.{print_predicates}

abbrev pub print_meta : MetaD → List Tok
print_meta (meta_path p) = print_path p
print_meta (meta_list p ts at) = print_path p ++ (group Parenthesis (toks_of ts) at ∷ [])
print_meta (meta_value p ts) = print_path p ++ (sign 61 ∷ ts)

abbrev pub print_attribute : MetaD → List Tok
print_attribute m = sign 35 ∷ within_brackets (print_meta m) ∷ []

abbrev pub print_attributes : List MetaD → List Tok
print_attributes [] = []
print_attributes (m ∷ ms) = print_attribute m ++ print_attributes ms

-- a field's name and its colon
abbrev pub print_label : Option Name → List Tok
print_label None = []
print_label (Some x) = print_name x ∷ sign 58 ∷ []

abbrev pub print_field : FieldD → List Tok
print_field f = print_attributes f.attrs ++ print_label f.name ++ print_ty f.ty

abbrev pub print_each_field : List FieldD → List Tok
print_each_field [] = []
print_each_field (f ∷ fs) = print_field f ++ (sign 44 ∷ print_each_field fs)

abbrev pub print_fields : FieldsD → List Tok
print_fields (named_fields fs) = within_braces (print_each_field fs) ∷ []
print_fields (unnamed_fields fs) = within_parens (print_each_field fs) ∷ []
print_fields unit_fields = []

abbrev pub print_variant : VariantD → List Tok
print_variant v = print_attributes v.attrs ++ (print_name v.name ∷ print_fields v.fields)

abbrev pub print_each_variant : List VariantD → List Tok
print_each_variant [] = []
print_each_variant (v ∷ vs) = print_variant v ++ (sign 44 ∷ print_each_variant vs)

-- a colon and the bounds, where there are some
abbrev pub print_bounded : List BoundD → List Tok
print_bounded [] = []
print_bounded (b ∷ bs) = sign 58 ∷ print_bounds false (bounds_of (b ∷ bs))

abbrev pub print_param : ParamD → List Tok
print_param (param_ty x bs) = print_name x ∷ print_bounded bs
print_param (param_lifetime l) = print_lifetime l
print_param (param_const x t) = keyword (codes "const") ∷ print_name x ∷ sign 58 ∷ print_ty t

-- Of a list, the Bool says whether a separator stands before the first too.
abbrev pub print_params : Bool → List ParamD → List Tok
print_params comma [] = []
print_params comma (p ∷ ps) = when comma (sign 44 ∷ []) ++ print_param p ++ print_params true ps

-- the parameters within `<` and `>`, where there are some
abbrev pub print_angle : List ParamD → List Tok
print_angle [] = []
print_angle (p ∷ ps) = sign 60 ∷ print_params false (p ∷ ps) ++ (sign 62 ∷ [])

-- the `where` clause, where there is one
abbrev pub print_where : List PredicateD → List Tok
print_where [] = []
print_where (p ∷ ps) = keyword (codes "where") ∷ print_predicates false (p ∷ ps)

-- the word that an item begins with
abbrev pub print_kind : BodyD → Tok
print_kind (struct_body fs at) = word (codes "struct") at
print_kind (enum_body vs at) = word (codes "enum") at
print_kind (union_body fs at) = word (codes "union") at

-- what follows the parameters of a struct: the `where` clause stands before named fields and behind others
abbrev pub print_struct_end : List PredicateD → FieldsD → List Tok
print_struct_end ps (named_fields fs) = print_where ps ++ print_fields (named_fields fs)
print_struct_end ps (unnamed_fields fs) = print_fields (unnamed_fields fs) ++ print_where ps ++ (sign 59 ∷ [])
print_struct_end ps unit_fields = print_where ps ++ (sign 59 ∷ [])

-- what follows the parameters of an item
abbrev pub print_end : List PredicateD → BodyD → List Tok
print_end ps (struct_body fs at) = print_struct_end ps fs
print_end ps (enum_body vs at) = print_where ps ++ (within_braces (print_each_variant vs) ∷ [])
print_end ps (union_body fs at) = print_where ps ++ (within_braces (print_each_field fs) ∷ [])

abbrev pub print_body : BodyD → List Tok
print_body b = print_kind b ∷ print_end [] b

abbrev pub print_item : ItemD → List Tok
print_item i = print_attributes i.attrs ++ (print_kind i.body ∷ print_name i.name ∷ print_angle i.params ++ print_end i.predicates i.body)
