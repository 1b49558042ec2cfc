-- The tokens that types, paths and expressions are printed as, in Rust's own grammar of types.
use Rattle.std.specs.Prelude.{ℕ, ◌-◌, List, [], ◌∷◌, ◌++◌, Bool, true, false, Option, Some, None, cond, codes, nat_eq}
use Rattle.std.specs.Fmt.{decimal}
use Rattle.token_trees.specs.declared.token.Span.{Span}
use Rattle.token_trees.specs.declared.token.Delimiter.TheVariants.{Parenthesis, Brace, Bracket, None as Bare}
use Rattle.token_trees.specs.declared.token.Spacing.TheVariants.{Alone, Joint}
use Rattle.token_trees.specs.Token.{Tok, word, mark, fixed, text, digits, group, Toks, toks_of, Name, site}
use Rattle.syntax_trees.specs.Syntax.{LifetimeD, LitStrD, MemberD, named, unnamed, TyD, ty_array, ty_fn, ty_group, ty_impl, ty_infer, ty_macro, ty_never, ty_paren, ty_path, ty_pointer, ty_reference, ty_slice, ty_object, ty_tuple, ty_verbatim, PathD, path, SegmentD, segment, ArgumentsD, no_arguments, angle, parens, GenericD, arg_lifetime, arg_ty, arg_const, arg_assoc_ty, arg_assoc_const, arg_constraint, QSelfD, qself, ExprD, ex_binary, ex_call, ex_cast, ex_field, ex_index, ex_fixed, ex_paren, ex_path, ex_unary, ex_verbatim, ExprPathD, expr_path, BoundD, bound_trait, bound_lifetime, MaybeTy, no_ty, some_ty, MaybeQSelf, no_qself, some_qself, Tys, end_tys, more_tys, Bounds, end_bounds, more_bounds, Segments, end_segments, more_segments, Generics, end_generics, more_generics, Exprs, end_exprs, more_exprs}

-- a character of the tree's own: it belongs to no other, and has no place
abbrev pub sign : ℕ → Tok
sign c = mark c Alone site

-- a word of the tree's own
abbrev pub keyword : List ℕ → Tok
keyword letters = word letters site

abbrev pub colons : List Tok
colons = mark 58 Joint site ∷ sign 58 ∷ []

abbrev pub arrow : List Tok
arrow = mark 45 Joint site ∷ sign 62 ∷ []

abbrev pub within_parens : List Tok → Tok
within_parens ts = group Parenthesis (toks_of ts) site

abbrev pub within_brackets : List Tok → Tok
within_brackets ts = group Bracket (toks_of ts) site

abbrev pub within_braces : List Tok → Tok
within_braces ts = group Brace (toks_of ts) site

abbrev pub print_name : Name → Tok
print_name n = word n.text n.span

abbrev pub print_lifetime : LifetimeD → List Tok
print_lifetime l = mark 39 Joint l.span ∷ print_name l.name ∷ []

abbrev pub print_maybe_lifetime : Option LifetimeD → List Tok
print_maybe_lifetime None = []
print_maybe_lifetime (Some l) = print_lifetime l

abbrev pub print_lit_str : LitStrD → Tok
print_lit_str l = fixed (text l.text l.suffix) l.span

-- a field by its name, or by its number
abbrev pub print_member : MemberD → Tok
print_member (named x) = print_name x
print_member (unnamed n) = fixed (digits (decimal n)) site

abbrev pub when : Bool → List Tok → List Tok
when true ts = ts
when false ts = []

abbrev pub any_ty : Tys → Bool
any_ty end_tys = false
any_ty (more_tys t ts) = true

-- how many segments lie before the `>`
abbrev pub position : MaybeQSelf → ℕ
position no_qself = 0
position (some_qself (qself t n)) = n

-- Of a list, the Bool says whether a separator stands before the first too.
abbrev mutual
  pub print_ty : TyD → List Tok
  print_ty (ty_array t e) = within_brackets (print_ty t ++ (sign 59 ∷ print_expr e)) ∷ []
  print_ty (ty_fn ts o) = keyword (codes "fn") ∷ within_parens (print_tys false ts) ∷ print_output o
  print_ty (ty_group t) = group Bare (toks_of (print_ty t)) site ∷ []
  print_ty (ty_impl bs) = keyword (codes "impl") ∷ print_bounds false bs
  print_ty (ty_infer s) = word (codes "_") s ∷ []
  print_ty (ty_macro p s) = print_path p ++ (sign 33 ∷ s)
  print_ty (ty_never s) = mark 33 Alone s ∷ []
  print_ty (ty_paren t) = within_parens (print_ty t) ∷ []
  print_ty (ty_path q p) = print_front q ++ print_behind (position q) p
  print_ty (ty_pointer m t) = sign 42 ∷ keyword (cond m (codes "mut") (codes "const")) ∷ print_ty t
  print_ty (ty_reference l m t) = sign 38 ∷ print_maybe_lifetime l ++ when m (keyword (codes "mut") ∷ []) ++ print_ty t
  print_ty (ty_slice t) = within_brackets (print_ty t) ∷ []
  print_ty (ty_object bs) = keyword (codes "dyn") ∷ print_bounds false bs
  print_ty (ty_tuple ts) = within_parens (print_tys false ts ++ when (any_ty ts) (sign 44 ∷ [])) ∷ []
  print_ty (ty_verbatim s) = s

  pub print_output : MaybeTy → List Tok
  print_output no_ty = []
  print_output (some_ty t) = arrow ++ print_ty t

  pub print_tys : Bool → Tys → List Tok
  print_tys comma end_tys = []
  print_tys comma (more_tys t ts) = when comma (sign 44 ∷ []) ++ print_ty t ++ print_tys true ts

  pub print_bound : BoundD → List Tok
  print_bound (bound_trait p) = print_path p
  print_bound (bound_lifetime l) = print_lifetime l

  pub print_bounds : Bool → Bounds → List Tok
  print_bounds plus end_bounds = []
  print_bounds plus (more_bounds b bs) = when plus (sign 43 ∷ []) ++ print_bound b ++ print_bounds true bs

  pub print_qself : QSelfD → List Tok
  print_qself (qself t n) = sign 60 ∷ print_ty t ++ (cond (nat_eq n 0) (sign 62) (keyword (codes "as")) ∷ [])

  -- `<T as` in front, or `<T>` where no segment lies before the `>`
  pub print_front : MaybeQSelf → List Tok
  print_front no_qself = []
  print_front (some_qself q) = print_qself q

  pub print_path : PathD → List Tok
  print_path (path l ss) = print_segments 0 l ss

  -- n segments lie before the `>`; none of it where n is 0
  pub print_behind : ℕ → PathD → List Tok
  print_behind n (path l ss) = print_segments n l ss

  pub print_expr_path : ExprPathD → List Tok
  print_expr_path (expr_path q p) = print_front q ++ print_behind (position q) p

  pub print_segments : ℕ → Bool → Segments → List Tok
  print_segments n between end_segments = []
  print_segments n between (more_segments s ss) = when between colons ++ print_segment s ++ when (nat_eq n 1) (sign 62 ∷ []) ++ print_segments (n - 1) true ss

  pub print_segment : SegmentD → List Tok
  print_segment (segment x a) = print_name x ∷ print_arguments a

  pub print_arguments : ArgumentsD → List Tok
  print_arguments no_arguments = []
  print_arguments (angle t gs) = when t colons ++ (sign 60 ∷ print_generics false gs ++ (sign 62 ∷ []))
  print_arguments (parens ts o) = within_parens (print_tys false ts) ∷ print_output o

  pub print_generics : Bool → Generics → List Tok
  print_generics comma end_generics = []
  print_generics comma (more_generics g gs) = when comma (sign 44 ∷ []) ++ print_generic g ++ print_generics true gs

  pub print_generic : GenericD → List Tok
  print_generic (arg_lifetime l) = print_lifetime l
  print_generic (arg_ty t) = print_ty t
  print_generic (arg_const e) = print_expr e
  print_generic (arg_assoc_ty x t) = print_name x ∷ sign 61 ∷ print_ty t
  print_generic (arg_assoc_const x e) = print_name x ∷ sign 61 ∷ print_expr e
  print_generic (arg_constraint x bs) = print_name x ∷ sign 58 ∷ print_bounds false bs

  pub print_expr : ExprD → List Tok
  print_expr (ex_binary a o b) = print_expr a ++ o ++ print_expr b
  print_expr (ex_call f xs) = print_expr f ++ (within_parens (print_exprs false xs) ∷ [])
  print_expr (ex_cast e t) = print_expr e ++ (keyword (codes "as") ∷ print_ty t)
  print_expr (ex_field e m) = print_expr e ++ (sign 46 ∷ print_member m ∷ [])
  print_expr (ex_index e i) = print_expr e ++ (within_brackets (print_expr i) ∷ [])
  print_expr (ex_fixed l s) = fixed l s ∷ []
  print_expr (ex_paren e) = within_parens (print_expr e) ∷ []
  print_expr (ex_path p) = print_expr_path p
  print_expr (ex_unary o e) = o ++ print_expr e
  print_expr (ex_verbatim s) = s

  pub print_exprs : Bool → Exprs → List Tok
  print_exprs comma end_exprs = []
  print_exprs comma (more_exprs e es) = when comma (sign 44 ∷ []) ++ print_expr e ++ print_exprs true es
