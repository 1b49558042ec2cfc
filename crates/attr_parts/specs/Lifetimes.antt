-- The lifetimes that stand in a type, in the order in which they are found (serde.rs, field attributes, `borrow`).
use Rattle.std.specs.Prelude.{◌≡◌, ℕ, ◌+◌, ◌&&◌, List, [], ◌∷◌, ◌++◌, Option, Some, None, cond, nat_eq, map}
use Rattle.std.specs.declared.cmp.Ordering.{Ordering}
use Rattle.std.specs.Ordering.{nat_cmp}
use Rattle.std.specs.Cmp.Lexicographic.{slice_cmp}
use Rattle.std.specs.BTreeSet.{BTreeSet, keys, insert_key}
use Rattle.token_trees.specs.declared.token.Span.{Span}
use Rattle.token_trees.specs.Token.{Tok, word, mark, fixed, group, Toks, no_toks, tok, toks_of}
use Rattle.syntax_trees.specs.Metas.{is_joint}
use Rattle.syntax_trees.specs.declared.tree.Lifetime.{Lifetime}
use Rattle.syntax_trees.specs.View.{lifetime_view}
use Rattle.syntax_trees.specs.Syntax.{LifetimeD, TyD, ty_array, ty_fn, ty_group, ty_impl, ty_infer, ty_macro, ty_never, ty_paren, ty_path, ty_pointer, ty_reference, ty_slice, ty_object, ty_tuple, ty_verbatim, PathD, path, SegmentD, segment, ArgumentsD, no_arguments, angle, parens, GenericD, arg_lifetime, arg_ty, arg_const, arg_assoc_ty, arg_assoc_const, arg_constraint, QSelfD, qself, MaybeQSelf, no_qself, some_qself, Tys, end_tys, more_tys, Segments, end_segments, more_segments, Generics, end_generics, more_generics}

-- where a quote that belongs to the next token stands
abbrev pub quote_at : Tok → Option Span
quote_at (word x s) = None
quote_at (mark c j s) = cond (nat_eq c 39 && is_joint j) (Some s) None
quote_at (fixed l s) = None
quote_at (group d ts s) = None

-- a quote and a name make a lifetime
abbrev pub quoted : Span → Tok → List LifetimeD
quoted at (word x s) = record { name = record { text = x; span = s }; span = at } ∷ []
quoted at (mark c j s) = []
quoted at (fixed l s) = []
quoted at (group d ts s) = []

-- whether such a quote stands before the token after this one; the Option says whether one stands before this one
abbrev pub quote_after : Option Span → Tok → Option Span
quote_after None t = quote_at t
quote_after (Some at) t = None

-- of tokens: groups are entered, but for one that a quote takes with it
abbrev mutual
  pub token_lifetimes : Tok → List LifetimeD
  token_lifetimes (word x s) = []
  token_lifetimes (mark c j s) = []
  token_lifetimes (fixed l s) = []
  token_lifetimes (group d ts s) = tokens_lifetimes None ts

  pub tokens_lifetimes : Option Span → Toks → List LifetimeD
  tokens_lifetimes None no_toks = []
  tokens_lifetimes (Some at) no_toks = []
  tokens_lifetimes None (tok t ts) = token_lifetimes t ++ tokens_lifetimes (quote_at t) ts
  tokens_lifetimes (Some at) (tok t ts) = quoted at t ++ tokens_lifetimes None ts

-- of a token, where a quote stands before or doesn't
abbrev pub next_lifetimes : Option Span → Tok → List LifetimeD
next_lifetimes None t = token_lifetimes t
next_lifetimes (Some at) t = quoted at t

-- how many tokens there are, groups with what is in them
abbrev mutual
  pub token_count : Tok → ℕ
  token_count (word x s) = 1
  token_count (mark c j s) = 1
  token_count (fixed l s) = 1
  token_count (group d ts s) = 1 + tokens_count ts

  pub tokens_count : Toks → ℕ
  tokens_count no_toks = 0
  tokens_count (tok t ts) = token_count t + tokens_count ts

abbrev pub maybe_lifetime : Option LifetimeD → List LifetimeD
maybe_lifetime None = []
maybe_lifetime (Some l) = l ∷ []

abbrev mutual
  pub lifetimes_of : TyD → List LifetimeD
  lifetimes_of (ty_array t e) = lifetimes_of t
  lifetimes_of (ty_fn ts o) = []
  lifetimes_of (ty_group t) = lifetimes_of t
  lifetimes_of (ty_impl bs) = []
  lifetimes_of (ty_infer s) = []
  lifetimes_of (ty_macro p ts) = tokens_lifetimes None (toks_of ts)
  lifetimes_of (ty_never s) = []
  lifetimes_of (ty_paren t) = lifetimes_of t
  lifetimes_of (ty_path q p) = maybe_qself_lifetimes q ++ path_lifetimes p
  lifetimes_of (ty_pointer m t) = lifetimes_of t
  lifetimes_of (ty_reference l m t) = maybe_lifetime l ++ lifetimes_of t
  lifetimes_of (ty_slice t) = lifetimes_of t
  lifetimes_of (ty_object bs) = []
  lifetimes_of (ty_tuple ts) = all_lifetimes ts
  lifetimes_of (ty_verbatim ts) = []

  pub all_lifetimes : Tys → List LifetimeD
  all_lifetimes end_tys = []
  all_lifetimes (more_tys t ts) = lifetimes_of t ++ all_lifetimes ts

  pub maybe_qself_lifetimes : MaybeQSelf → List LifetimeD
  maybe_qself_lifetimes no_qself = []
  maybe_qself_lifetimes (some_qself q) = qself_lifetimes q

  pub qself_lifetimes : QSelfD → List LifetimeD
  qself_lifetimes (qself t n) = lifetimes_of t

  pub path_lifetimes : PathD → List LifetimeD
  path_lifetimes (path leading ss) = segments_lifetimes ss

  pub segments_lifetimes : Segments → List LifetimeD
  segments_lifetimes end_segments = []
  segments_lifetimes (more_segments s ss) = segment_lifetimes s ++ segments_lifetimes ss

  pub segment_lifetimes : SegmentD → List LifetimeD
  segment_lifetimes (segment x a) = arguments_lifetimes a

  pub arguments_lifetimes : ArgumentsD → List LifetimeD
  arguments_lifetimes no_arguments = []
  arguments_lifetimes (angle t gs) = generics_lifetimes gs
  arguments_lifetimes (parens ts o) = []

  pub generics_lifetimes : Generics → List LifetimeD
  generics_lifetimes end_generics = []
  generics_lifetimes (more_generics g gs) = generic_lifetimes g ++ generics_lifetimes gs

  pub generic_lifetimes : GenericD → List LifetimeD
  generic_lifetimes (arg_lifetime l) = l ∷ []
  generic_lifetimes (arg_ty t) = lifetimes_of t
  generic_lifetimes (arg_const e) = []
  generic_lifetimes (arg_assoc_ty x t) = lifetimes_of t
  generic_lifetimes (arg_assoc_const x e) = []
  generic_lifetimes (arg_constraint x bs) = []

-- lifetimes are compared by their names
abbrev pub lifetime_cmp : LifetimeD → LifetimeD → Ordering
lifetime_cmp a b = slice_cmp nat_cmp a.name.text b.name.text

-- the lifetimes of a set, in order
abbrev pub lifetimes : BTreeSet Lifetime → List LifetimeD
lifetimes s = map lifetime_view (keys s)

-- a set with further lifetimes; one that it has by name stays as it is
abbrev pub added : List LifetimeD → List LifetimeD → List LifetimeD
added old [] = old
added old (l ∷ ls) = added (insert_key lifetime_cmp old l) ls

-- those lifetimes were added so far, and those are left
pub record AddsUpTo (old new wanted left : List LifetimeD) : Type 0 where
  pub done : List LifetimeD
  pub is_new : new ≡ added old done
  pub is_wanted : wanted ≡ done ++ left

-- a front of those lifetimes was added, and nothing else
pub record AddsFront (old new wanted : List LifetimeD) : Type 0 where
  pub front : List LifetimeD
  pub rest : List LifetimeD
  pub is_new : new ≡ added old front
  pub is_wanted : wanted ≡ front ++ rest
