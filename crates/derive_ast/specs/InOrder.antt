-- The fields of a body, one after the other.
use Rattle.std.specs.Prelude.{ℕ, List, [], ◌∷◌, ◌++◌, drop}
use Rattle.std.specs.List.{flat_map}
use Rattle.derive_ast.specs.declared.container.Field.{Field}
use Rattle.derive_ast.specs.declared.container.Variant.{Variant}
use Rattle.derive_ast.specs.declared.container.Data.{Data}
use Rattle.derive_ast.specs.declared.container.Data.TheVariants.{Enum, Struct}

-- those of variants, variant by variant
abbrev pub rows : List Variant → List Field
rows vs = flat_map (λ v. v.fields.items) vs

-- all of a body, in order
abbrev pub fields_of : Data → List Field
fields_of (Enum vs) = rows vs.items
fields_of (Struct s fs) = fs.items

-- those of variants, of the first from a place on
abbrev pub rows_from : ℕ → List Variant → List Field
rows_from n [] = []
rows_from n (v ∷ vs) = drop n v.fields.items ++ rows vs

-- those of a body from a variant, and from a field of it, on
abbrev pub fields_left : Data → ℕ → ℕ → List Field
fields_left (Enum vs) variant field = rows_from field (drop variant vs.items)
fields_left (Struct s fs) variant field = drop field fs.items
