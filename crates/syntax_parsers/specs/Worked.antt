-- Worked examples: the tokens of a text, and the tree or the error that reading them gives. Each token stands at `site`, the
-- group or literal round them at `around`.
use Rattle.std.specs.Prelude.{ℕ, List, [], ◌∷◌, true, false, Some, Result, Ok, Err, codes, ◌≡◌}
use Rattle.token_trees.specs.declared.token.Span.{Span}
use Rattle.token_trees.specs.declared.token.Delimiter.TheVariants.{Parenthesis, Bracket}
use Rattle.token_trees.specs.declared.token.Spacing.TheVariants.{Alone, Joint}
use Rattle.token_trees.specs.Token.{Tok, word, mark, fixed, digits, group, toks_of, site}
use Rattle.syntax_trees.specs.Syntax.{LifetimeD, TyD, ty_array, ty_macro, ty_paren, ty_path, ty_reference, ty_slice, ty_object, ty_tuple, PathD, path, SegmentD, segment, no_arguments, angle, parens, GenericD, arg_lifetime, arg_ty, arg_assoc_ty, arg_constraint, qself, ex_fixed, ex_path, ex_verbatim, expr_path, bound_trait, bound_lifetime, some_ty, no_qself, some_qself, tys_of, bounds_of, segments_of, generics_of}
use Rattle.syntax_trees.specs.declared.cursor.SyntaxKind.TheVariants.{ExpectedIdent, ExpectedType, ExpectedGt, ExpectedBound, UnexpectedToken}
use Rattle.syntax_trees.specs.declared.cursor.SyntaxError.{SyntaxError}
use Rattle.syntax_parsers.specs.Answer.{error}
use Rattle.syntax_parsers.specs.Grammar.{whole}
use Rattle.syntax_parsers.specs.Read.{levels}

abbrev pub around : Span
around = record { file = 0; lo = 7; hi = 9 }

abbrev pub name : List ℕ → Tok
name x = word x site

abbrev pub sign : ℕ → Tok
sign c = mark c Alone site

abbrev pub joint : ℕ → Tok
joint c = mark c Joint site

abbrev pub plain : List ℕ → SegmentD
plain x = segment (record { text = x; span = site }) no_arguments

abbrev pub path_of_one : SegmentD → PathD
path_of_one s = path false (segments_of (s ∷ []))

abbrev pub named : List ℕ → TyD
named x = ty_path no_qself (path_of_one (plain x))

abbrev pub with_args : List ℕ → List GenericD → TyD
with_args x gs = ty_path no_qself (path_of_one (segment (record { text = x; span = site }) (angle false (generics_of gs))))

abbrev pub life : List ℕ → LifetimeD
life x = record { name = record { text = x; span = site }; span = site }

-- all tokens as a type
abbrev pub type_of : List Tok → Result TyD SyntaxError
type_of ts = whole around ((levels 40).ty around ts)

abbrev pub within : List Tok → Tok
within ts = group Parenthesis (toks_of ts) site

-- `A() -> [B]`, as a segment
abbrev pub gives_slice : SegmentD
gives_slice = segment (record { text = codes "A"; span = site }) (parens (tys_of []) (some_ty (ty_slice (named (codes "B")))))

abbrev pub WorkedTypes : Type 0
WorkedTypes =
    -- `Vec<u8>`
    (type_of (name (codes "Vec") ∷ joint 60 ∷ name (codes "u8") ∷ sign 62 ∷ []) ≡ Ok (with_args (codes "Vec") (arg_ty (named (codes "u8")) ∷ [])))
    -- `Vec<u8,>`
    × (type_of (name (codes "Vec") ∷ sign 60 ∷ name (codes "u8") ∷ sign 44 ∷ sign 62 ∷ []) ≡ Ok (with_args (codes "Vec") (arg_ty (named (codes "u8")) ∷ [])))
    -- `Vec<u8`
    × (type_of (name (codes "Vec") ∷ sign 60 ∷ name (codes "u8") ∷ []) ≡ Err (error ExpectedGt around))
    -- no token
    × (type_of [] ≡ Err (error ExpectedType around))
    -- `&'a mut T`
    × (type_of (sign 38 ∷ joint 39 ∷ name (codes "a") ∷ name (codes "mut") ∷ name (codes "T") ∷ []) ≡ Ok (ty_reference (Some (life (codes "a"))) true (named (codes "T"))))
    -- `(T)`, `(T,)`, `()`
    × (type_of (within (name (codes "T") ∷ []) ∷ []) ≡ Ok (ty_paren (named (codes "T"))))
    × (type_of (within (name (codes "T") ∷ sign 44 ∷ []) ∷ []) ≡ Ok (ty_tuple (tys_of (named (codes "T") ∷ []))))
    × (type_of (within [] ∷ []) ≡ Ok (ty_tuple (tys_of [])))
    -- `[T]`, `[T; 4]`, `[T; N]`, `[T; N + 1]`
    × (type_of (group Bracket (toks_of (name (codes "T") ∷ [])) site ∷ []) ≡ Ok (ty_slice (named (codes "T"))))
    × (type_of (group Bracket (toks_of (name (codes "T") ∷ sign 59 ∷ fixed (digits (codes "4")) site ∷ [])) site ∷ []) ≡ Ok (ty_array (named (codes "T")) (ex_fixed (digits (codes "4")) site)))
    × (type_of (group Bracket (toks_of (name (codes "T") ∷ sign 59 ∷ name (codes "N") ∷ [])) site ∷ []) ≡ Ok (ty_array (named (codes "T")) (ex_path (expr_path no_qself (path_of_one (plain (codes "N")))))))
    × (type_of (group Bracket (toks_of (name (codes "T") ∷ sign 59 ∷ name (codes "N") ∷ sign 43 ∷ fixed (digits (codes "1")) site ∷ [])) site ∷ []) ≡ Ok (ty_array (named (codes "T")) (ex_verbatim (name (codes "N") ∷ sign 43 ∷ fixed (digits (codes "1")) site ∷ []))))
    -- `<T as A>::B`
    × (type_of (sign 60 ∷ name (codes "T") ∷ name (codes "as") ∷ name (codes "A") ∷ joint 62 ∷ joint 58 ∷ sign 58 ∷ name (codes "B") ∷ []) ≡ Ok (ty_path (some_qself (qself (named (codes "T")) 1)) (path false (segments_of (plain (codes "A") ∷ plain (codes "B") ∷ [])))))
    -- `dyn A + 'a +`: the trailing `+` belongs to the list
    × (type_of (name (codes "dyn") ∷ name (codes "A") ∷ sign 43 ∷ joint 39 ∷ name (codes "a") ∷ sign 43 ∷ []) ≡ Ok (ty_object (bounds_of (bound_trait (path_of_one (plain (codes "A"))) ∷ bound_lifetime (life (codes "a")) ∷ []))))
    -- `dyn`
    × (type_of (name (codes "dyn") ∷ []) ≡ Err (error ExpectedBound around))
    -- `dyn Fn() -> dyn A + + B`: the first `+` belongs to the inner list, and no bound stands behind it
    × (type_of (name (codes "dyn") ∷ name (codes "Fn") ∷ within [] ∷ joint 45 ∷ sign 62 ∷ name (codes "dyn") ∷ name (codes "A") ∷ sign 43 ∷ sign 43 ∷ name (codes "B") ∷ []) ≡ Err (error ExpectedBound site))
    -- `A + B`
    × (type_of (name (codes "A") ∷ sign 43 ∷ name (codes "B") ∷ []) ≡ Err (error UnexpectedToken site))
    -- `a: : b` is no path, and `a::` lacks a name
    × (type_of (name (codes "a") ∷ sign 58 ∷ sign 58 ∷ name (codes "b") ∷ []) ≡ Err (error UnexpectedToken site))
    × (type_of (name (codes "a") ∷ joint 58 ∷ sign 58 ∷ []) ≡ Err (error ExpectedIdent around))
    -- `Fn(A) -> B`
    × (type_of (name (codes "Fn") ∷ within (name (codes "A") ∷ []) ∷ joint 45 ∷ sign 62 ∷ name (codes "B") ∷ []) ≡ Ok (ty_path no_qself (path_of_one (segment (record { text = codes "Fn"; span = site }) (parens (tys_of (named (codes "A") ∷ [])) (some_ty (named (codes "B"))))))))
    -- `A() -> [B]::C` and `A() -> [B]!()`: the path goes on, as `[B]` takes neither
    × (type_of (name (codes "A") ∷ within [] ∷ joint 45 ∷ sign 62 ∷ group Bracket (toks_of (name (codes "B") ∷ [])) site ∷ joint 58 ∷ sign 58 ∷ name (codes "C") ∷ []) ≡ Ok (ty_path no_qself (path false (segments_of (gives_slice ∷ plain (codes "C") ∷ [])))))
    × (type_of (name (codes "A") ∷ within [] ∷ joint 45 ∷ sign 62 ∷ group Bracket (toks_of (name (codes "B") ∷ [])) site ∷ sign 33 ∷ within [] ∷ []) ≡ Ok (ty_macro (path_of_one gives_slice) (within [] ∷ [])))
    -- `m!(x)`
    × (type_of (name (codes "m") ∷ sign 33 ∷ within (name (codes "x") ∷ []) ∷ []) ≡ Ok (ty_macro (path_of_one (plain (codes "m"))) (within (name (codes "x") ∷ []) ∷ [])))
    -- `I<Item = T>`, `I<'a, Item: A>`
    × (type_of (name (codes "I") ∷ sign 60 ∷ name (codes "Item") ∷ sign 61 ∷ name (codes "T") ∷ sign 62 ∷ []) ≡ Ok (with_args (codes "I") (arg_assoc_ty (record { text = codes "Item"; span = site }) (named (codes "T")) ∷ [])))
    × (type_of (name (codes "I") ∷ sign 60 ∷ joint 39 ∷ name (codes "a") ∷ sign 44 ∷ name (codes "Item") ∷ sign 58 ∷ name (codes "A") ∷ sign 62 ∷ []) ≡ Ok (with_args (codes "I") (arg_lifetime (life (codes "a")) ∷ arg_constraint (record { text = codes "Item"; span = site }) (bounds_of (bound_trait (path_of_one (plain (codes "A"))) ∷ [])) ∷ [])))
    -- `fn`, a keyword that names no segment
    × (type_of (name (codes "let") ∷ []) ≡ Err (error ExpectedType site))
