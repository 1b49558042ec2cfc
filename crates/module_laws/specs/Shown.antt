-- The tokens that an item without parameters has in a module: those that it is printed as, with `pub` before the item and before the fields of a struct or a union, and
-- no comma behind the last of the fields that have no names. Both are settings here: `seen` says whether `pub` stands there, `ended` whether that comma does.
use Rattle.std.specs.Prelude.{List, [], ◌∷◌, ◌++◌, Bool, false, codes}
use Rattle.token_trees.specs.Token.{Tok}
use Rattle.syntax_trees.specs.Item.{FieldD, FieldsD, named_fields, unnamed_fields, unit_fields, VariantD, BodyD, struct_body, enum_body, union_body, ItemD}
use Rattle.syntax_printing.specs.Print.{sign, keyword, within_parens, within_braces, print_name, when, print_ty}
use Rattle.rust_syntax.specs.PrintItem.{print_attributes, print_label, print_kind}

abbrev pub visible : Bool → List Tok
visible seen = when seen (keyword (codes "pub") ∷ [])

abbrev pub shown_field : Bool → FieldD → List Tok
shown_field seen f = (print_attributes f.attrs ++ (visible seen ++ print_label f.name)) ++ print_ty f.ty

-- with names, a comma behind each
abbrev pub shown_each : Bool → List FieldD → List Tok
shown_each seen [] = []
shown_each seen (f ∷ fs) = shown_field seen f ++ (sign 44 ∷ shown_each seen fs)

-- without, a comma before each but the first
abbrev pub shown_more : Bool → Bool → List FieldD → List Tok
shown_more seen ended [] = when ended (sign 44 ∷ [])
shown_more seen ended (f ∷ fs) = sign 44 ∷ (shown_field seen f ++ shown_more seen ended fs)

abbrev pub shown_places : Bool → Bool → List FieldD → List Tok
shown_places seen ended [] = []
shown_places seen ended (f ∷ fs) = shown_field seen f ++ shown_more seen ended fs

abbrev pub shown_fields : Bool → Bool → FieldsD → List Tok
shown_fields seen ended (named_fields fs) = within_braces (shown_each seen fs) ∷ []
shown_fields seen ended (unnamed_fields fs) = within_parens (shown_places seen ended fs) ∷ []
shown_fields seen ended unit_fields = []

-- the fields of variants have no visibility
abbrev pub shown_variant : Bool → VariantD → List Tok
shown_variant ended v = print_attributes v.attrs ++ (print_name v.name ∷ shown_fields false ended v.fields)

abbrev pub shown_variants : Bool → List VariantD → List Tok
shown_variants ended [] = []
shown_variants ended (v ∷ vs) = shown_variant ended v ++ (sign 44 ∷ shown_variants ended vs)

abbrev pub shown_struct : Bool → Bool → FieldsD → List Tok
shown_struct seen ended (named_fields fs) = shown_fields seen ended (named_fields fs)
shown_struct seen ended (unnamed_fields fs) = shown_fields seen ended (unnamed_fields fs) ++ (sign 59 ∷ [])
shown_struct seen ended unit_fields = sign 59 ∷ []

abbrev pub shown_body : Bool → Bool → BodyD → List Tok
shown_body seen ended (struct_body fs at) = shown_struct seen ended fs
shown_body seen ended (enum_body vs at) = within_braces (shown_variants ended vs) ∷ []
shown_body seen ended (union_body fs at) = within_braces (shown_each seen fs) ∷ []

abbrev pub shown_item : Bool → Bool → ItemD → List Tok
shown_item seen ended i = print_attributes i.attrs ++ (visible seen ++ (print_kind i.body ∷ print_name i.name ∷ shown_body seen ended i.body))
