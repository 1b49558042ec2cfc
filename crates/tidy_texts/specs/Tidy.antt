-- The tokens of a type, a path or an attribute, which stand with one space between any two, with the spaces that rustfmt leaves on a line. Characters are given by their numbers.
use Rattle.std.specs.Prelude.{ℕ, List, [], ◌∷◌, ◌++◌, Bool, true, false, not, ◌&&◌, ◌||◌, ◌==◌, encode_utf8, chars, if◌then◌else◌}
use Rattle.tidy_texts.specs.declared.spot.Before.{Before}
use Rattle.tidy_texts.specs.declared.spot.Before.TheVariants.{Open, Name, Other, Literal, Escape}
use Rattle.tidy_texts.specs.declared.spot.Spot.{Spot}

-- `)`, `]`, `,`, `;`, `>` and `<` follow what stands before them at once
abbrev pub is_end : ℕ → Bool
is_end c = c == 41 || c == 93 || c == 44 || c == 59 || c == 62 || c == 60

-- `(`, `[` and `:` follow a name at once
abbrev pub is_call : ℕ → Bool
is_call c = c == 40 || c == 91 || c == 58

-- behind `(`, `[`, `<`, `:`, `#` and `&` the next token follows at once
abbrev pub is_opening : ℕ → Bool
is_opening c = c == 40 || c == 91 || c == 60 || c == 58 || c == 35 || c == 38

-- `)`, `]`, `>`, `,`, `;` and `=`
abbrev pub is_sign : ℕ → Bool
is_sign c = c == 41 || c == 93 || c == 62 || c == 44 || c == 59 || c == 61

-- what stands before the next character, outside of a string literal; a quote begins one
abbrev pub before_of : ℕ → Before
before_of c = if c == 34 then Literal else if is_opening c then Open else if is_sign c then Other else Name

abbrev pub is_inside : Before → Bool
is_inside Open = false
is_inside Name = false
is_inside Other = false
is_inside Literal = true
is_inside Escape = true

abbrev pub wants_space : Before → ℕ → Bool
wants_space Open c = false
wants_space Name c = not (is_end c || is_call c)
wants_space Other c = not (is_end c)
wants_space Literal c = false
wants_space Escape c = false

abbrev pub needs_space : Spot → ℕ → Bool
needs_space s c = s.space && (not (c == 32) && wants_space s.before c)

abbrev pub shows : Spot → ℕ → Bool
shows s c = is_inside s.before || not (c == 32)

abbrev pub spot : Before → Bool → Spot
spot b s = record { before = b; space = s }

-- behind a character of a string literal
abbrev pub inside_next : ℕ → Before
inside_next c = if c == 34 then Other else if c == 92 then Escape else Literal

abbrev pub outside_next : Spot → ℕ → Spot
outside_next s c = if c == 32 then spot s.before true else spot (before_of c) false

abbrev pub next_of : Before → Spot → ℕ → Spot
next_of Escape s c = spot Literal false
next_of Literal s c = spot (inside_next c) false
next_of Open s c = outside_next s c
next_of Name s c = outside_next s c
next_of Other s c = outside_next s c

abbrev pub next : Spot → ℕ → Spot
next s c = next_of s.before s c

abbrev pub start : Spot
start = spot Open false

-- one character with the space before it
abbrev pub character_text : Spot → ℕ → List ℕ
character_text s c = (if needs_space s c then 32 ∷ [] else []) ++ (if shows s c then encode_utf8 c else [])

abbrev pub tidied : Spot → List ℕ → List ℕ
tidied s [] = []
tidied s (c ∷ cs) = character_text s c ++ tidied (next s c) cs

-- of a text in UTF-8
abbrev pub tidy : List ℕ → List ℕ
tidy text = tidied start (chars text)
