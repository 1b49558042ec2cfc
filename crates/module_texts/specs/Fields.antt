-- Fields and variants, line by line. Each line is indented by the given spaces.
use Rattle.std.specs.Prelude.{ℕ, List, [], ◌∷◌, ◌++◌, length, Bool, nat_lt, chars, Option, Some, None, codes, if◌then◌else◌}
use Rattle.token_trees.specs.Token.{Name}
use Rattle.syntax_trees.specs.Item.{MetaD, FieldD, FieldsD, named_fields, unnamed_fields, unit_fields, VariantD}
use Rattle.module_texts.specs.Tokens.{attribute_text, type_text}
use Rattle.module_texts.specs.Attributes.{attribute_lines}

abbrev pub label : Option Name → List ℕ
label None = []
label (Some n) = n.text ++ codes ": "

-- with the type on the next line
abbrev pub broken_label : List ℕ → Option Name → List ℕ
broken_label indent None = []
broken_label indent (Some n) = n.text ++ (codes ":\n" ++ (indent ++ codes "    "))

-- ---- fields with names: `visibility` is `pub ` or nothing

abbrev pub plain_field : List ℕ → List ℕ → FieldD → List ℕ
plain_field indent visibility f = indent ++ (visibility ++ (label f.name ++ (type_text f.ty ++ codes ",\n")))

abbrev pub broken_field : List ℕ → List ℕ → FieldD → List ℕ
broken_field indent visibility f = indent ++ (visibility ++ (broken_label indent f.name ++ (type_text f.ty ++ codes ",\n")))

-- more than 100 characters, and the end of the line
abbrev pub is_wide_field : List ℕ → List ℕ → FieldD → Bool
is_wide_field indent visibility f = nat_lt 101 (length (chars (plain_field indent visibility f)))

abbrev pub declared_field : List ℕ → List ℕ → FieldD → List ℕ
declared_field indent visibility f = if is_wide_field indent visibility f then broken_field indent visibility f else plain_field indent visibility f

abbrev pub field_line : List ℕ → List ℕ → FieldD → List ℕ
field_line indent visibility f = attribute_lines indent f.attrs ++ declared_field indent visibility f

abbrev pub field_lines : List ℕ → List ℕ → List FieldD → List ℕ
field_lines indent visibility [] = []
field_lines indent visibility (f ∷ fs) = field_line indent visibility f ++ field_lines indent visibility fs

-- `inner` indents the fields
abbrev pub braced_text : List ℕ → List ℕ → List ℕ → List FieldD → List ℕ
braced_text indent inner visibility [] = codes " {}"
braced_text indent inner visibility (f ∷ fs) = codes " {\n" ++ (field_line inner visibility f ++ (field_lines inner visibility fs ++ (indent ++ codes "}")))

-- ---- fields without

abbrev pub attributes_inline : List MetaD → List ℕ
attributes_inline [] = []
attributes_inline (m ∷ ms) = (attribute_text m ++ codes " ") ++ attributes_inline ms

abbrev pub place_text : List ℕ → FieldD → List ℕ
place_text visibility f = attributes_inline f.attrs ++ (visibility ++ (label f.name ++ type_text f.ty))

abbrev pub more_places : List ℕ → List FieldD → List ℕ
more_places visibility [] = []
more_places visibility (f ∷ fs) = (codes ", " ++ place_text visibility f) ++ more_places visibility fs

abbrev pub places_text : List ℕ → List FieldD → List ℕ
places_text visibility [] = codes "()"
places_text visibility (f ∷ fs) = codes "(" ++ (place_text visibility f ++ (more_places visibility fs ++ codes ")"))

-- ---- variants

abbrev pub variant_fields : FieldsD → List ℕ
variant_fields (named_fields fs) = braced_text (codes "    ") (codes "        ") [] fs
variant_fields (unnamed_fields fs) = places_text [] fs
variant_fields unit_fields = []

abbrev pub variant_line : VariantD → List ℕ
variant_line v = attribute_lines (codes "    ") v.attrs ++ (codes "    " ++ (v.name.text ++ (variant_fields v.fields ++ codes ",\n")))

abbrev pub variant_lines : List VariantD → List ℕ
variant_lines [] = []
variant_lines (v ∷ vs) = variant_line v ++ variant_lines vs

abbrev pub variants_text : List VariantD → List ℕ
variants_text [] = codes " {}"
variants_text (v ∷ vs) = codes " {\n" ++ (variant_line v ++ (variant_lines vs ++ codes "}"))
