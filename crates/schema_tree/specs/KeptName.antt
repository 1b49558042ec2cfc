-- Which names an item, a field or a variant keeps as they are: identifiers that Rust doesn't reserve.
use Rattle.std.specs.Prelude.{ℕ, ◌==◌, ◌&&◌, ◌||◌, List, [], ◌∷◌, Bool, true, false, not, bytes_eq, codes, chars}
use Rattle.std.specs.List.{list_any, list_all}
use Rattle.unicode_ident.specs.Ident.{is_xid_start, is_xid_continue}

-- an identifier by its characters (Unicode Standard Annex 31), which `_` may begin too
abbrev pub spells_identifier : List ℕ → Bool
spells_identifier [] = false
spells_identifier (c ∷ cs) = (is_xid_start c || c == 95) && list_all is_xid_continue cs

-- the words of Rust that name no field
abbrev pub keywords : List (List ℕ)
keywords =
    codes "abstract" ∷ codes "as" ∷ codes "async" ∷ codes "await" ∷ codes "become" ∷ codes "box" ∷ codes "break" ∷ codes "const"
    ∷ codes "continue" ∷ codes "crate" ∷ codes "do" ∷ codes "dyn" ∷ codes "else" ∷ codes "enum" ∷ codes "extern" ∷ codes "false"
    ∷ codes "final" ∷ codes "fn" ∷ codes "for" ∷ codes "gen" ∷ codes "if" ∷ codes "impl" ∷ codes "in" ∷ codes "let" ∷ codes "loop"
    ∷ codes "macro" ∷ codes "match" ∷ codes "mod" ∷ codes "move" ∷ codes "mut" ∷ codes "override" ∷ codes "priv" ∷ codes "pub"
    ∷ codes "ref" ∷ codes "return" ∷ codes "self" ∷ codes "static" ∷ codes "struct" ∷ codes "super" ∷ codes "trait" ∷ codes "true"
    ∷ codes "try" ∷ codes "type" ∷ codes "typeof" ∷ codes "unsafe" ∷ codes "unsized" ∷ codes "use" ∷ codes "virtual" ∷ codes "where"
    ∷ codes "while" ∷ codes "yield" ∷ []

-- the primitive types of Rust
abbrev pub primitive_types : List (List ℕ)
primitive_types =
    codes "bool" ∷ codes "char" ∷ codes "str" ∷ codes "i8" ∷ codes "i16" ∷ codes "i32" ∷ codes "i64" ∷ codes "i128" ∷ codes "isize"
    ∷ codes "u8" ∷ codes "u16" ∷ codes "u32" ∷ codes "u64" ∷ codes "u128" ∷ codes "usize" ∷ codes "f32" ∷ codes "f64" ∷ []

abbrev pub is_one_of : List (List ℕ) → List ℕ → Bool
is_one_of words s = list_any (λ w. bytes_eq w s) words

abbrev pub is_reserved : List ℕ → Bool
is_reserved s = bytes_eq s (codes "_") || bytes_eq s (codes "Self") || is_one_of keywords s || is_one_of primitive_types s

-- a name that an item, a field or a variant keeps as it is
abbrev pub is_kept_name : List ℕ → Bool
is_kept_name s = spells_identifier (chars s) && not (is_reserved s)
