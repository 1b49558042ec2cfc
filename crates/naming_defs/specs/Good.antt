-- Names that an item, a field or a variant keeps: texts that spell identifiers, as Rust composes them, and aren't words of Rust's own.
use Rattle.std.specs.Prelude.{ℕ, ◌==◌, ◌&&◌, ◌||◌, not, List, [], ◌∷◌, Bool, false, bytes_eq, codes, chars}
use Rattle.std.specs.List.{list_any, list_all}
use Rattle.std.specs.Str.{is_utf8}
use Rattle.unicode_ident.specs.Ident.{is_xid_start, is_xid_continue}
use Rattle.unicode_normalization.specs.Forms.{is_nfc}
use Rattle.naming_defs.specs.Laws.{HasGoodNumbers}

-- an identifier by its characters (Unicode Standard Annex 31), which `_` may begin too
abbrev pub spells_identifier : List ℕ → Bool
spells_identifier [] = false
spells_identifier (c ∷ cs) = (is_xid_start c || c == 95) && list_all is_xid_continue cs

-- `_`, `Self`, and the keywords (https://doc.rust-lang.org/reference/keywords.html)
abbrev pub keywords : List (List ℕ)
keywords =
    codes "_" ∷ codes "Self" ∷ codes "abstract" ∷ codes "as" ∷ codes "async" ∷ codes "await" ∷ codes "become" ∷ codes "box" ∷ codes "break" ∷ codes "const"
    ∷ codes "continue" ∷ codes "crate" ∷ codes "do" ∷ codes "dyn" ∷ codes "else" ∷ codes "enum" ∷ codes "extern" ∷ codes "false"
    ∷ codes "final" ∷ codes "fn" ∷ codes "for" ∷ codes "gen" ∷ codes "if" ∷ codes "impl" ∷ codes "in" ∷ codes "let" ∷ codes "loop"
    ∷ codes "macro" ∷ codes "match" ∷ codes "mod" ∷ codes "move" ∷ codes "mut" ∷ codes "override" ∷ codes "priv" ∷ codes "pub"
    ∷ codes "ref" ∷ codes "return" ∷ codes "self" ∷ codes "static" ∷ codes "struct" ∷ codes "super" ∷ codes "trait" ∷ codes "true"
    ∷ codes "try" ∷ codes "type" ∷ codes "typeof" ∷ codes "unsafe" ∷ codes "unsized" ∷ codes "use" ∷ codes "virtual" ∷ codes "where"
    ∷ codes "while" ∷ codes "yield" ∷ []

-- the primitive types of Rust
abbrev pub primitive_types : List (List ℕ)
primitive_types =
    codes "bool" ∷ codes "char" ∷ codes "str" ∷ codes "i8" ∷ codes "i16" ∷ codes "i32" ∷ codes "i64" ∷ codes "i128" ∷ codes "isize"
    ∷ codes "u8" ∷ codes "u16" ∷ codes "u32" ∷ codes "u64" ∷ codes "u128" ∷ codes "usize" ∷ codes "f32" ∷ codes "f64" ∷ []

abbrev pub is_one_of : List (List ℕ) → List ℕ → Bool
is_one_of words n = list_any (λ w. bytes_eq w n) words

-- an identifier is what its characters compose to (NFC, Unicode Standard Annex 15), so that a text of another form is another name
abbrev pub is_composed : List ℕ → Bool
is_composed n = is_nfc (chars n)

-- bytes that are no UTF-8 spell nothing
abbrev pub is_good_name : List ℕ → Bool
is_good_name n = is_utf8 n && spells_identifier (chars n) && is_composed n && not (is_one_of keywords n) && not (is_one_of primitive_types n)

-- names that are numbered are good
abbrev pub NumberedNamesAreGood : Type 0
NumberedNamesAreGood = HasGoodNumbers is_good_name
