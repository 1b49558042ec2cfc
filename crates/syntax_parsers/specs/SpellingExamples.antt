-- Worked examples of spelling: tokens, each at `site`, with a tree that they spell, or one that they don't.
use Rattle.std.specs.Prelude.{ℕ, List, [], ◌∷◌, true, false, Some, None, codes}
use Rattle.token_trees.specs.declared.token.Delimiter.TheVariants.{Bracket, Brace}
use Rattle.token_trees.specs.Token.{Tok, fixed, digits, group, toks_of, site, Name}
use Rattle.syntax_trees.specs.Syntax.{TyD, ty_array, ty_fn, ty_impl, ty_infer, ty_macro, ty_never, ty_paren, ty_path, ty_pointer, ty_reference, ty_slice, ty_object, ty_tuple, path, SegmentD, segment, angle, parens, arg_lifetime, arg_ty, arg_const, arg_assoc_ty, arg_assoc_const, arg_constraint, qself, ex_fixed, ex_path, ex_verbatim, expr_path, BoundD, bound_trait, bound_lifetime, MaybeTy, no_ty, some_ty, no_qself, some_qself, tys_of, bounds_of, segments_of, generics_of}
use Rattle.syntax_parsers.specs.Worked.{name, sign, joint, plain, path_of_one, named, with_args, life, within}
use Rattle.syntax_parsers.specs.SpellingForm.{SpellsTy}

abbrev pub bracketed : List Tok → Tok
bracketed ts = group Bracket (toks_of ts) site

abbrev pub number : List ℕ → Tok
number x = fixed (digits x) site

abbrev pub label : List ℕ → Name
label x = record { text = x; span = site }

abbrev pub bound : List ℕ → BoundD
bound x = bound_trait (path_of_one (plain x))

-- `A() -> T`, as a segment
abbrev pub giving : List ℕ → MaybeTy → SegmentD
giving x o = segment (label x) (parens (tys_of []) o)

-- `A() ->`
abbrev pub call : List ℕ → List Tok → List Tok
call x ts = name x ∷ within [] ∷ joint 45 ∷ sign 62 ∷ ts

abbrev pub a : List ℕ
a = codes "A"

abbrev pub b : List ℕ
b = codes "B"

abbrev pub t : List ℕ
t = codes "T"

-- `::B`
abbrev pub on_to_b : List Tok
on_to_b = joint 58 ∷ sign 58 ∷ name b ∷ []

-- `A() -> T::B` with the `::` outside T, and `A() -> T!()` with the `!` outside T
abbrev pub behind_b : TyD → TyD
behind_b u = ty_path no_qself (path false (segments_of (giving a (some_ty u) ∷ plain b ∷ [])))

abbrev pub macro_behind : TyD → TyD
macro_behind u = ty_macro (path_of_one (giving a (some_ty u))) (within [] ∷ [])

abbrev pub spelled : List (List Tok × TyD)
spelled =
    -- `Vec<A>`, `Vec<A,>`, `Vec<>`, `Vec::<A>`
    (name (codes "Vec") ∷ sign 60 ∷ name a ∷ sign 62 ∷ [], with_args (codes "Vec") (arg_ty (named a) ∷ []))
    ∷ (name (codes "Vec") ∷ sign 60 ∷ name a ∷ joint 44 ∷ sign 62 ∷ [], with_args (codes "Vec") (arg_ty (named a) ∷ []))
    ∷ (name (codes "Vec") ∷ joint 60 ∷ sign 62 ∷ [], with_args (codes "Vec") [])
    ∷ (name (codes "Vec") ∷ joint 58 ∷ joint 58 ∷ sign 60 ∷ name a ∷ sign 62 ∷ [], ty_path no_qself (path_of_one (segment (label (codes "Vec")) (angle true (generics_of (arg_ty (named a) ∷ []))))))
    -- `A<4>`, `A<-1>`, `A<{B}>`
    ∷ (name a ∷ sign 60 ∷ number (codes "4") ∷ sign 62 ∷ [], with_args a (arg_const (ex_fixed (digits (codes "4")) site) ∷ []))
    ∷ (name a ∷ sign 60 ∷ sign 45 ∷ number (codes "1") ∷ sign 62 ∷ [], with_args a (arg_const (ex_verbatim (sign 45 ∷ number (codes "1") ∷ [])) ∷ []))
    ∷ (name a ∷ sign 60 ∷ group Brace (toks_of (name b ∷ [])) site ∷ sign 62 ∷ [], with_args a (arg_const (ex_verbatim (group Brace (toks_of (name b ∷ [])) site ∷ [])) ∷ []))
    -- `A<'a, B>`, `A<B = T>`, `A<B = 4>`, `A<B: T + 'a>`, `A<B: >`
    ∷ (name a ∷ sign 60 ∷ joint 39 ∷ name (codes "a") ∷ sign 44 ∷ name b ∷ sign 62 ∷ [], with_args a (arg_lifetime (life (codes "a")) ∷ arg_ty (named b) ∷ []))
    ∷ (name a ∷ sign 60 ∷ name b ∷ sign 61 ∷ name t ∷ sign 62 ∷ [], with_args a (arg_assoc_ty (label b) (named t) ∷ []))
    ∷ (name a ∷ sign 60 ∷ name b ∷ sign 61 ∷ number (codes "4") ∷ sign 62 ∷ [], with_args a (arg_assoc_const (label b) (ex_fixed (digits (codes "4")) site) ∷ []))
    ∷ (name a ∷ sign 60 ∷ name b ∷ sign 58 ∷ name t ∷ sign 43 ∷ joint 39 ∷ name (codes "a") ∷ sign 62 ∷ [], with_args a (arg_constraint (label b) (bounds_of (bound t ∷ bound_lifetime (life (codes "a")) ∷ [])) ∷ []))
    ∷ (name a ∷ sign 60 ∷ name b ∷ sign 58 ∷ sign 62 ∷ [], with_args a (arg_constraint (label b) (bounds_of []) ∷ []))
    -- `A<B:::T>`: the `:` of the constraint, and a path with a leading `::`
    ∷ (name a ∷ sign 60 ∷ name b ∷ joint 58 ∷ joint 58 ∷ sign 58 ∷ name t ∷ sign 62 ∷ [], with_args a (arg_constraint (label b) (bounds_of (bound_trait (path true (segments_of (plain t ∷ []))) ∷ [])) ∷ []))
    -- `::A::B`
    ∷ (joint 58 ∷ sign 58 ∷ name a ∷ joint 58 ∷ sign 58 ∷ name b ∷ [], ty_path no_qself (path true (segments_of (plain a ∷ plain b ∷ []))))
    -- `<T as A>::B`, `<T>::B`
    ∷ (sign 60 ∷ name t ∷ name (codes "as") ∷ name a ∷ joint 62 ∷ joint 58 ∷ sign 58 ∷ name b ∷ [], ty_path (some_qself (qself (named t) 1)) (path false (segments_of (plain a ∷ plain b ∷ []))))
    ∷ (sign 60 ∷ name t ∷ joint 62 ∷ joint 58 ∷ sign 58 ∷ name b ∷ [], ty_path (some_qself (qself (named t) 0)) (path true (segments_of (plain b ∷ []))))
    -- `(T)`, `(T,)`, `()`, `(A, B)`, `(A, B,)`
    ∷ (within (name t ∷ []) ∷ [], ty_paren (named t))
    ∷ (within (name t ∷ sign 44 ∷ []) ∷ [], ty_tuple (tys_of (named t ∷ [])))
    ∷ (within [] ∷ [], ty_tuple (tys_of []))
    ∷ (within (name a ∷ sign 44 ∷ name b ∷ []) ∷ [], ty_tuple (tys_of (named a ∷ named b ∷ [])))
    ∷ (within (name a ∷ sign 44 ∷ name b ∷ sign 44 ∷ []) ∷ [], ty_tuple (tys_of (named a ∷ named b ∷ [])))
    -- `[T]`, `[T; 4]`, `[T; A]`, `[T; A + 1]`
    ∷ (bracketed (name t ∷ []) ∷ [], ty_slice (named t))
    ∷ (bracketed (name t ∷ sign 59 ∷ number (codes "4") ∷ []) ∷ [], ty_array (named t) (ex_fixed (digits (codes "4")) site))
    ∷ (bracketed (name t ∷ sign 59 ∷ name a ∷ []) ∷ [], ty_array (named t) (ex_path (expr_path no_qself (path_of_one (plain a)))))
    ∷ (bracketed (name t ∷ sign 59 ∷ name a ∷ sign 43 ∷ number (codes "1") ∷ []) ∷ [], ty_array (named t) (ex_verbatim (name a ∷ sign 43 ∷ number (codes "1") ∷ [])))
    -- `dyn A + 'a`, `dyn A + 'a +`, `impl A`
    ∷ (name (codes "dyn") ∷ name a ∷ sign 43 ∷ joint 39 ∷ name (codes "a") ∷ [], ty_object (bounds_of (bound a ∷ bound_lifetime (life (codes "a")) ∷ [])))
    ∷ (name (codes "dyn") ∷ name a ∷ sign 43 ∷ joint 39 ∷ name (codes "a") ∷ sign 43 ∷ [], ty_object (bounds_of (bound a ∷ bound_lifetime (life (codes "a")) ∷ [])))
    ∷ (name (codes "impl") ∷ name a ∷ [], ty_impl (bounds_of (bound a ∷ [])))
    -- `impl A() -> dyn B + T`: the `+` belongs to the inner list
    ∷ (name (codes "impl") ∷ call a (name (codes "dyn") ∷ name b ∷ sign 43 ∷ name t ∷ []), ty_impl (bounds_of (bound_trait (path_of_one (giving a (some_ty (ty_object (bounds_of (bound b ∷ bound t ∷ [])))))) ∷ [])))
    -- `A() -> B::T`, `A() -> B!()`: what stands behind a return type belongs to it
    ∷ (call a (name b ∷ joint 58 ∷ sign 58 ∷ name t ∷ []), ty_path no_qself (path_of_one (giving a (some_ty (ty_path no_qself (path false (segments_of (plain b ∷ plain t ∷ []))))))))
    ∷ (call a (name b ∷ sign 33 ∷ within [] ∷ []), ty_path no_qself (path_of_one (giving a (some_ty (ty_macro (path_of_one (plain b)) (within [] ∷ []))))))
    -- `A() -> _::B`, `A() -> ()::B`, `A() -> [T]::B`, `A() -> !::B`, `A() -> T!()::B`, `A() -> &_::B`, `A() -> fn()::B`: what takes no `::`
    ∷ (call a (name (codes "_") ∷ on_to_b), behind_b (ty_infer site))
    ∷ (call a (within [] ∷ on_to_b), behind_b (ty_tuple (tys_of [])))
    ∷ (call a (bracketed (name t ∷ []) ∷ on_to_b), behind_b (ty_slice (named t)))
    ∷ (call a (sign 33 ∷ on_to_b), behind_b (ty_never site))
    ∷ (call a (name t ∷ sign 33 ∷ within [] ∷ on_to_b), behind_b (ty_macro (path_of_one (plain t)) (within [] ∷ [])))
    ∷ (call a (sign 38 ∷ name (codes "_") ∷ on_to_b), behind_b (ty_reference None false (ty_infer site)))
    ∷ (call a (name (codes "fn") ∷ within [] ∷ on_to_b), behind_b (ty_fn (tys_of []) no_ty))
    -- `A() -> dyn 'a::B`, and `A() -> dyn 'a + ::B`, whose `::B` is a bound
    ∷ (call a (name (codes "dyn") ∷ joint 39 ∷ name (codes "a") ∷ on_to_b), behind_b (ty_object (bounds_of (bound_lifetime (life (codes "a")) ∷ []))))
    ∷ (call a (name (codes "dyn") ∷ joint 39 ∷ name (codes "a") ∷ sign 43 ∷ on_to_b), ty_path no_qself (path_of_one (giving a (some_ty (ty_object (bounds_of (bound_lifetime (life (codes "a")) ∷ bound_trait (path true (segments_of (plain b ∷ []))) ∷ [])))))))
    -- `A() -> _!()`, `A() -> dyn B!()`, `A() -> <T>::B!()`: what takes no `!`
    ∷ (call a (name (codes "_") ∷ sign 33 ∷ within [] ∷ []), macro_behind (ty_infer site))
    ∷ (call a (name (codes "dyn") ∷ name b ∷ sign 33 ∷ within [] ∷ []), macro_behind (ty_object (bounds_of (bound b ∷ []))))
    ∷ (call a (sign 60 ∷ name t ∷ joint 62 ∷ joint 58 ∷ sign 58 ∷ name b ∷ sign 33 ∷ within [] ∷ []), macro_behind (ty_path (some_qself (qself (named t) 0)) (path true (segments_of (plain b ∷ [])))))
    -- `[T; A() -> (T)::B]`: a length that is such a path
    ∷ (bracketed (name t ∷ sign 59 ∷ call a (within (name t ∷ []) ∷ on_to_b)) ∷ [], ty_array (named t) (ex_path (expr_path no_qself (path false (segments_of (giving a (some_ty (ty_paren (named t))) ∷ plain b ∷ []))))))
    -- `&T`, `&'a mut T`, `*const T`, `*mut T`, `!`, `_`
    ∷ (sign 38 ∷ name t ∷ [], ty_reference None false (named t))
    ∷ (sign 38 ∷ joint 39 ∷ name (codes "a") ∷ name (codes "mut") ∷ name t ∷ [], ty_reference (Some (life (codes "a"))) true (named t))
    ∷ (sign 42 ∷ name (codes "const") ∷ name t ∷ [], ty_pointer false (named t))
    ∷ (sign 42 ∷ name (codes "mut") ∷ name t ∷ [], ty_pointer true (named t))
    ∷ (sign 33 ∷ [], ty_never site)
    ∷ (name (codes "_") ∷ [], ty_infer site)
    -- `fn(A,) -> B`, `fn()`, `A!(B)`
    ∷ (name (codes "fn") ∷ within (name a ∷ sign 44 ∷ []) ∷ joint 45 ∷ sign 62 ∷ name b ∷ [], ty_fn (tys_of (named a ∷ [])) (some_ty (named b)))
    ∷ (name (codes "fn") ∷ within [] ∷ [], ty_fn (tys_of []) no_ty)
    ∷ (name a ∷ sign 33 ∷ within (name b ∷ []) ∷ [], ty_macro (path_of_one (plain a)) (within (name b ∷ []) ∷ []))
    ∷ []

abbrev pub unspelled : List (List Tok × TyD)
unspelled =
    -- `(T)` is no tuple, and `(T,)` no type in parentheses
    (within (name t ∷ []) ∷ [], ty_tuple (tys_of (named t ∷ [])))
    ∷ (within (name t ∷ sign 44 ∷ []) ∷ [], ty_paren (named t))
    -- a separator alone: `Vec<,>`
    ∷ (name (codes "Vec") ∷ sign 60 ∷ sign 44 ∷ sign 62 ∷ [], with_args (codes "Vec") [])
    -- the first `:` of `::` and the quote of a lifetime are joint: `A: :B`, `&' a T`
    ∷ (name a ∷ sign 58 ∷ sign 58 ∷ name b ∷ [], ty_path no_qself (path false (segments_of (plain a ∷ plain b ∷ []))))
    ∷ (sign 38 ∷ sign 39 ∷ name (codes "a") ∷ name t ∷ [], ty_reference (Some (life (codes "a"))) false (named t))
    -- what can be a type is held as one: `A<B>`
    ∷ (name a ∷ sign 60 ∷ name b ∷ sign 62 ∷ [], with_args a (arg_const (ex_path (expr_path no_qself (path_of_one (plain b)))) ∷ []))
    -- a length that is a path or a literal isn't held as tokens: `[T; A]`, `[T; 4]`
    ∷ (bracketed (name t ∷ sign 59 ∷ name a ∷ []) ∷ [], ty_array (named t) (ex_verbatim (name a ∷ [])))
    ∷ (bracketed (name t ∷ sign 59 ∷ number (codes "4") ∷ []) ∷ [], ty_array (named t) (ex_verbatim (number (codes "4") ∷ [])))
    -- `dyn` alone, a keyword as a path
    ∷ (name (codes "dyn") ∷ [], ty_object (bounds_of []))
    ∷ (name (codes "let") ∷ [], named (codes "let"))
    -- `dyn A() -> dyn B + T` is no list of two bounds, and `dyn A() -> dyn B + +` nothing
    ∷ (name (codes "dyn") ∷ call a (name (codes "dyn") ∷ name b ∷ sign 43 ∷ name t ∷ []), ty_object (bounds_of (bound_trait (path_of_one (giving a (some_ty (ty_object (bounds_of (bound b ∷ [])))))) ∷ bound t ∷ [])))
    ∷ (name (codes "dyn") ∷ call a (name (codes "dyn") ∷ name b ∷ sign 43 ∷ sign 43 ∷ []), ty_object (bounds_of (bound_trait (path_of_one (giving a (some_ty (ty_object (bounds_of (bound b ∷ [])))))) ∷ [])))
    -- `A() -> B::T` and `A() -> B!()`, with the `::` or the `!` outside the return type
    ∷ (call a (name b ∷ joint 58 ∷ sign 58 ∷ name t ∷ []), ty_path no_qself (path false (segments_of (giving a (some_ty (named b)) ∷ plain t ∷ []))))
    ∷ (call a (name b ∷ sign 33 ∷ within [] ∷ []), macro_behind (named b))
    -- the same at the end of what stands behind `->`: `A() -> &T::B`, `A() -> dyn T::B`, `A() -> fn() -> T!()`, `A() -> dyn 'a + ::B`
    ∷ (call a (sign 38 ∷ name t ∷ on_to_b), behind_b (ty_reference None false (named t)))
    ∷ (call a (name (codes "dyn") ∷ name t ∷ on_to_b), behind_b (ty_object (bounds_of (bound t ∷ []))))
    ∷ (call a (name (codes "fn") ∷ within [] ∷ joint 45 ∷ sign 62 ∷ name t ∷ sign 33 ∷ within [] ∷ []), macro_behind (ty_fn (tys_of []) (some_ty (named t))))
    ∷ (call a (name (codes "dyn") ∷ joint 39 ∷ name (codes "a") ∷ sign 43 ∷ on_to_b), behind_b (ty_object (bounds_of (bound_lifetime (life (codes "a")) ∷ []))))
    ∷ []

abbrev pub AllSpelled : List (List Tok × TyD) → Type 0
AllSpelled [] = Unit {0}
AllSpelled (e ∷ es) = SpellsTy e.0 e.1 × AllSpelled es

abbrev pub NoneSpelled : List (List Tok × TyD) → Type 0
NoneSpelled [] = Unit {0}
NoneSpelled (e ∷ es) = (SpellsTy e.0 e.1 → ⊥) × NoneSpelled es

abbrev pub WorkedSpellings : Type 0
WorkedSpellings = AllSpelled spelled × NoneSpelled unspelled
