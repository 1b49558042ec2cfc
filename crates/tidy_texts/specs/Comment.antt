-- Texts as comments, and as doc comments.
use Rattle.std.specs.Prelude.{ℕ, List, [], ◌∷◌, ◌++◌, Bool, true, ◌==◌, cond, encode_utf8, chars, codes, if◌then◌else◌}

-- a character as it stands there: rustc refuses a return in doc comments, and in any comment the characters that turn the direction of what follows (Unicode Standard
-- Annex 9), so these are written as Rust escapes them
abbrev pub in_comment : ℕ → List ℕ
in_comment c =
    cond (c == 13) (codes "\\r")
    (cond (c == 8234) (codes "\\u{202a}")
    (cond (c == 8235) (codes "\\u{202b}")
    (cond (c == 8236) (codes "\\u{202c}")
    (cond (c == 8237) (codes "\\u{202d}")
    (cond (c == 8238) (codes "\\u{202e}")
    (cond (c == 8294) (codes "\\u{2066}")
    (cond (c == 8295) (codes "\\u{2067}")
    (cond (c == 8296) (codes "\\u{2068}")
    (cond (c == 8297) (codes "\\u{2069}") (encode_utf8 c))))))))))

-- two slashes and a space before each line; the Bool says whether a line begins here
abbrev pub commented : Bool → List ℕ → List ℕ
commented begins [] = []
commented begins (c ∷ cs) = (if begins then codes "// " else []) ++ (in_comment c ++ commented (c == 10) cs)

-- of a text in UTF-8
abbrev pub comment : List ℕ → List ℕ
comment text = commented true (chars text)

-- ---- doc comments: three slashes before each line, and a space where something stands on it

abbrev pub doc_start : Bool → ℕ → List ℕ
doc_start begins c = if begins then (if c == 10 then codes "///" else codes "/// ") else []

-- the last line ends too
abbrev pub doc_end : Bool → List ℕ
doc_end begins = if begins then [] else codes "\n"

abbrev pub documented : Bool → List ℕ → List ℕ
documented begins [] = doc_end begins
documented begins (c ∷ cs) = doc_start begins c ++ (in_comment c ++ documented (c == 10) cs)

-- of a text in UTF-8
abbrev pub doc_comment : List ℕ → List ℕ
doc_comment text = documented true (chars text)
