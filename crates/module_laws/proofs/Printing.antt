-- Without `pub` and with the last comma an item is shown as it is printed.
use Rattle.std.proofs.Common.{◌≡◌, true, false, List, [], ◌∷◌, ◌++◌, refl, ap, ◌∙◌}
use Rattle.token_trees.specs.Token.{Tok}
use Rattle.syntax_trees.specs.Item.{FieldD, FieldsD, named_fields, unnamed_fields, unit_fields, VariantD, BodyD, struct_body, enum_body, union_body, ItemD}
use Rattle.syntax_printing.specs.Print.{sign, print_name, within_braces, within_parens}
use Rattle.rust_syntax.specs.PrintItem.{print_attributes, print_field, print_each_field, print_fields, print_variant, print_each_variant, print_kind, print_struct_end, print_end}
use Rattle.module_laws.specs.Shown.{shown_field, shown_each, shown_more, shown_places, shown_fields, shown_variant, shown_variants, shown_struct, shown_body, shown_item}

each : (fs : List FieldD) → shown_each false fs ≡ print_each_field fs
each [] = refl
each (f ∷ fs) = ap (λ z. print_field f ++ (sign 44 ∷ z)) (each fs)

more : (fs : List FieldD) → shown_more false true fs ≡ sign 44 ∷ print_each_field fs
more [] = refl
more (f ∷ fs) = ap (λ z. sign 44 ∷ (print_field f ++ z)) (more fs)

places : (fs : List FieldD) → shown_places false true fs ≡ print_each_field fs
places [] = refl
places (f ∷ fs) = ap (λ z. print_field f ++ z) (more fs)

fields : (fs : FieldsD) → shown_fields false true fs ≡ print_fields fs
fields (named_fields fs) = ap (λ z. within_braces z ∷ []) (each fs)
fields (unnamed_fields fs) = ap (λ z. within_parens z ∷ []) (places fs)
fields unit_fields = refl

variants : (vs : List VariantD) → shown_variants true vs ≡ print_each_variant vs
variants [] = refl
variants (v ∷ vs) = λ j. (print_attributes v.attrs ++ (print_name v.name ∷ fields v.fields j)) ++ (sign 44 ∷ variants vs j)

struct_end : (fs : FieldsD) → shown_struct false true fs ≡ print_struct_end [] fs
struct_end (named_fields fs) = fields (named_fields fs)
struct_end (unnamed_fields fs) = ap (λ z. z ++ (sign 59 ∷ [])) (fields (unnamed_fields fs))
struct_end unit_fields = refl

body : (b : BodyD) → shown_body false true b ≡ print_end [] b
body (struct_body fs at) = struct_end fs
body (enum_body vs at) = ap (λ z. within_braces z ∷ []) (variants vs)
body (union_body fs at) = ap (λ z. within_braces z ∷ []) (each fs)

pub shown_is_printed : (i : ItemD) → shown_item false true i ≡ print_attributes i.attrs ++ (print_kind i.body ∷ print_name i.name ∷ print_end [] i.body)
shown_is_printed i = ap (λ z. print_attributes i.attrs ++ (print_kind i.body ∷ print_name i.name ∷ z)) (body i.body)
