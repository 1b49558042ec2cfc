-- How the worked examples are written: small items, whose tokens stand at numbered places.
use Rattle.std.specs.Prelude.{ℕ, ◌+◌, ◌&&◌, ◌||◌, nat_le, nat_eq, List, [], ◌∷◌, map, Bool, true, false, Some, None, cond, codes}
use Prim.Native.String.{String}
use Rattle.token_trees.specs.declared.token.Span.{Span}
use Rattle.token_trees.specs.declared.token.Spacing.{Spacing}
use Rattle.token_trees.specs.declared.token.Spacing.TheVariants.{Alone, Joint}
use Rattle.token_trees.specs.declared.token.Delimiter.TheVariants.{Parenthesis}
use Rattle.token_trees.specs.Token.{Tok, word, mark, fixed, group, toks_of, text, Name}
use Rattle.syntax_trees.specs.Syntax.{PathD, path, segment, more_segments, end_segments, ArgumentsD, no_arguments, angle, TyD, ty_path, no_qself, arg_ty, segments_of, generics_of}
use Rattle.syntax_trees.specs.Item.{MetaD, meta_list, FieldD, FieldsD, named_fields, unnamed_fields, unit_fields, VariantD, BodyD, struct_body, enum_body, ItemD}
use Rattle.attr_defs.specs.Texts.{Lexing}

-- ---- tokens

-- the nth place
abbrev pub at : ℕ → Span
at n = record { file = 0; lo = n; hi = n + 1 }

abbrev pub w : String → ℕ → Tok
w x n = word (codes x) (at n)

abbrev pub str : String → ℕ → Tok
str x n = fixed (text (codes x) []) (at n)

abbrev pub eq : ℕ → Tok
eq n = mark 61 Alone (at n)

abbrev pub comma : ℕ → Tok
comma n = mark 44 Alone (at n)

abbrev pub list : List Tok → ℕ → Tok
list ts n = group Parenthesis (toks_of ts) (at n)

-- `name = "text"`
abbrev pub says : String → String → List Tok
says x y = w x 1 ∷ eq 2 ∷ str y 3 ∷ []

abbrev pub flag : String → List Tok
flag x = w x 1 ∷ []

abbrev pub plain : String → ℕ → Name
plain x n = record { text = codes x; span = at n }

-- ---- texts: names, and marks between them

abbrev is_letter : ℕ → Bool
is_letter c = nat_le 48 c && nat_le c 57 || nat_le 65 c && nat_le c 90 || nat_le 97 c && nat_le c 122 || nat_eq c 95

abbrev spacing_before : List ℕ → Spacing
spacing_before [] = Alone
spacing_before (c ∷ cs) = cond (is_letter c) Alone Joint

abbrev with_letter : Span → ℕ → List Tok → List Tok
with_letter s c (word x at ∷ ts) = word (c ∷ x) s ∷ ts
with_letter s c ts = word (c ∷ []) s ∷ ts

abbrev with_front : Span → ℕ → List ℕ → List Tok → List Tok
with_front s c cs ts = cond (is_letter c) (with_letter s c ts) (mark c (spacing_before cs) s ∷ ts)

abbrev tokens_in : Span → List ℕ → List Tok
tokens_in s [] = []
tokens_in s (c ∷ cs) = with_front s c cs (tokens_in s cs)

abbrev pub words : Lexing
words cs s = Some (tokens_in s cs)

-- ---- trees

abbrev pub one_name : String → PathD
one_name x = path false (more_segments (segment (plain x 90) no_arguments) end_segments)

abbrev pub serde : List Tok → MetaD
serde ts = meta_list (one_name "serde") ts (at 91)

abbrev pub ty : String → TyD
ty x = ty_path no_qself (one_name x)

abbrev arguments : List TyD → ArgumentsD
arguments [] = no_arguments
arguments (t ∷ ts) = angle false (generics_of (map arg_ty (t ∷ ts)))

-- `::a::b::c<..>`
abbrev pub ty_of : String → String → String → List TyD → TyD
ty_of x y z ts = ty_path no_qself (path true (segments_of (segment (plain x 86) no_arguments ∷ segment (plain y 87) no_arguments ∷ segment (plain z 88) (arguments ts) ∷ [])))

abbrev pub field : String → List Tok → FieldD
field x ts = record { attrs = serde ts ∷ []; name = Some (plain x 85); ty = ty "u8" }

abbrev pub nameless : List Tok → FieldD
nameless ts = record { attrs = serde ts ∷ []; name = None; ty = ty "u8" }

abbrev pub variant : String → FieldsD → List Tok → VariantD
variant x fs ts = record { attrs = serde ts ∷ []; name = plain x 80; fields = fs }

abbrev pub item : BodyD → List Tok → ItemD
item body ts = record { attrs = serde ts ∷ []; name = plain "T" 92; params = []; predicates = []; body = body }

abbrev pub names : List FieldD → BodyD
names fs = struct_body (named_fields fs) (at 93)

abbrev pub places : List FieldD → BodyD
places fs = struct_body (unnamed_fields fs) (at 93)

abbrev pub nothing : BodyD
nothing = struct_body unit_fields (at 93)

abbrev pub variants : List VariantD → BodyD
variants vs = enum_body vs (at 93)
