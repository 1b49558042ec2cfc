-- The grammar gives no error of kind `Lex`.
use Rattle.std.proofs.Common.{◌≡◌, ◌≢◌, ℕ, zero, suc, ◌&&◌, List, [], ◌∷◌, Bool, true, false, Option, Some, None, cond, refl, sym, subst, codes}
use Rattle.std.specs.Prelude.{Result, Ok, Err}
use Rattle.token_trees.specs.declared.token.Span.{Span}
use Rattle.token_trees.specs.Token.{Tok, fixed, word, mark, group}
use Rattle.syntax_trees.specs.Syntax.{LifetimeD, TyD}
use Rattle.syntax_trees.specs.Item.{PredicateD}
use Rattle.syntax_trees.specs.Metas.{is_sign, is_joint_sign, is_word, sign_next}
use Rattle.syntax_trees.specs.declared.cursor.SyntaxKind.{SyntaxKind}
use Rattle.syntax_trees.specs.declared.cursor.SyntaxKind.TheVariants.{ExpectedPath, ExpectedComma, ExpectedParen, ExpectedValue, ExpectedIdent, ExpectedType, ExpectedGt, ExpectedLifetime, ExpectedPlus, ExpectedBound, UnexpectedToken, Lex}
use Rattle.syntax_trees.specs.declared.cursor.SyntaxError.{SyntaxError}
use Rattle.syntax_parsers.specs.Answer.{error, ◌>>=◌, with_front}
use Rattle.syntax_parsers.specs.Fronts.{is_parens, is_brackets, sign_front, colons_front, arrow_front, keyword_front, group_front, tree_front, lifetime_front, name_front, segment_front, path_next, bound_next, further_front, colon_front, angle_front, labelled}
use Rattle.syntax_parsers.specs.Grammar.{Readers, choose, required, whole, output_body, path_body, trait_body, behind_body, qualified_body, expr_path_body, length_body, bracketed_body, reference_body, pointer_body, signature_body, function_body, some_bounds, gives_segment, gives_path, path_ty, ty_body, tys_body, bound_body, bounds_body, arguments_body, segment_body, segments_body, constant_front, generic_body, generics_body, mut_front, maybe_lifetime_front}
use Rattle.syntax_parsers.specs.Lifetimes.{one_lifetime, lifetimes_of}
use Rattle.syntax_parsers.specs.Read.{stuck, level, levels}
use Rattle.syntax_parsers.specs.Where.{lifetime_predicate, type_predicate, predicate_body, behind_predicate, predicates_body, some_predicates}
use Rattle.syntax_parsers.specs.Whole.{room, type_of, path_of, expr_path_of, predicates_of}

abbrev pub NoLex : {A : Type 0} → Result A SyntaxError → Type 0
NoLex v = (e : SyntaxError) → v ≡ Err e → e.kind ≢ Lex

abbrev IsOther : SyntaxKind → Type 0
IsOther Lex = ⊥
IsOther k = Unit {0}

-- steps

abbrev pub failed : {A : Type 0} → SyntaxError → Result A SyntaxError
failed e = Err e

pub failed_same : {A : Type 0} → (s e : SyntaxError) → failed {A = A} s ≡ failed e → s ≡ e
failed_same s e q = cc

pub no_failure : {A : Type 0} → (x : A) (e : SyntaxError) → Ok x ≡ failed e → ⊥
no_failure x e q = cc

done : {A : Type 0} → (x : A) → NoLex (Ok x)
done x e q = absurd (no_failure x e q)

failing : {A : Type 0} → (k : SyntaxKind) (s : Span) → IsOther k → NoLex (failed {A = A} (error k s))
failing {A} k s h e q i = let same = failed_same {A = A} (error k s) e q in subst IsOther (subst (λ z. z.kind ≡ Lex) (sym same) i) h

binding : {A B : Type 0} → (r : Result A SyntaxError) (f : A → Result B SyntaxError) → NoLex r → ((x : A) → NoLex (f x)) → NoLex (r >>= f)
binding (Ok x) f h k = k x
binding {A} {B} (Err s) f h k = λ e q. h e (let same = failed_same {A = B} s e q in subst (λ z. failed {A = A} s ≡ failed z) same refl)

choosing : {A B : Type 0} → (o : Option A) (f : A → Result B SyntaxError) (r : Result B SyntaxError) → ((x : A) → NoLex (f x)) → NoLex r → NoLex (choose o f r)
choosing None f r h k = k
choosing (Some x) f r h k = h x

deciding : {A : Type 0} → (b : Bool) (v w : Result A SyntaxError) → NoLex v → NoLex w → NoLex (cond b v w)
deciding true v w h k = h
deciding false v w h k = k

requiring : {A : Type 0} → (o : Option A) (k : SyntaxKind) (at : Span) (ts : List Tok) → IsOther k → NoLex (required o k at ts)
requiring {A} None k at ts h = failing {A = A} k _ h
requiring (Some x) k at ts h = done x

ending : {A : Type 0} → (at : Span) (r : Result (A × List Tok) SyntaxError) → NoLex r → NoLex (whole at r)
ending {A} at (Err s) h = λ e q. h e (let same = failed_same {A = A} s e q in subst (λ z. failed {A = A × List Tok} s ≡ failed z) same refl)
ending at (Ok (x, [])) h = done x
ending {A} at (Ok (x, t ∷ ts)) h = failing {A = A} UnexpectedToken _ tt

fronting : {A : Type 0} → (xs : List A) (r : Result (List A) SyntaxError) → NoLex r → NoLex (with_front xs r)
fronting xs (Ok ys) h = done _
fronting xs (Err s) h = h

-- readers

record Told (r : Readers) : Type 0 where
  ty : (at : Span) (ts : List Tok) → NoLex (r.ty at ts)
  tys : (at : Span) (ts : List Tok) → NoLex (r.tys at ts)
  bounds : (at : Span) (ts : List Tok) → NoLex (r.bounds at ts)
  segments : (at : Span) (ts : List Tok) → NoLex (r.segments at ts)
  generics : (at : Span) (ts : List Tok) → NoLex (r.generics at ts)
  expr_path : (at : Span) (ts : List Tok) → NoLex (r.expr_path at ts)

output_told : (r : Readers) → Told r → (at : Span) (ts : List Tok) → NoLex (output_body r at ts)
unfolding output_body
output_told r s at ts = choosing (arrow_front ts) _ _ (λ rest. binding (r.ty at rest) _ (s.ty at rest) (λ t. done _)) (done _)

path_told : (r : Readers) → Told r → (at : Span) (ts : List Tok) → NoLex (path_body r at ts)
unfolding path_body
path_told r s at ts =
    choosing (colons_front ts) _ _ (λ rest. binding (r.segments at rest) _ (s.segments at rest) (λ x. done _))
    (binding (r.segments at ts) _ (s.segments at ts) (λ x. done _))

trait_told : (r : Readers) → Told r → (at : Span) (ts : List Tok) → NoLex (trait_body r at ts)
unfolding trait_body
trait_told r s at ts =
    choosing (colons_front ts) _ _ (λ rest. binding (r.segments at rest) _ (s.segments at rest) (λ x. done _))
    (binding (r.segments at ts) _ (s.segments at ts) (λ x. done _))

behind_told : (r : Readers) → Told r → (at : Span) (ts : List Tok) → NoLex (behind_body r at ts)
unfolding behind_body
behind_told r s at ts =
    binding (required (sign_front 62 ts) ExpectedGt at ts) _ (requiring (sign_front 62 ts) ExpectedGt at ts tt) (λ rest.
    binding (required (colons_front rest) ExpectedPath at rest) _ (requiring (colons_front rest) ExpectedPath at rest tt) (λ us. s.segments at us))

qualified_told : (r : Readers) → Told r → (at : Span) (ts : List Tok) → NoLex (qualified_body r at ts)
unfolding qualified_body
qualified_told r s at ts =
    binding (r.ty at ts) _ (s.ty at ts) (λ t.
    choosing (keyword_front (codes "as") t.1) _ _
    (λ rest. binding (trait_body r at rest) _ (trait_told r s at rest) (λ p. binding (behind_body r at p.2) _ (behind_told r s at p.2) (λ more. done _)))
    (binding (behind_body r at t.1) _ (behind_told r s at t.1) (λ more. done _)))

expr_path_told : (r : Readers) → Told r → (at : Span) (ts : List Tok) → NoLex (expr_path_body r at ts)
unfolding expr_path_body
expr_path_told r s at ts =
    choosing (sign_front 60 ts) _ _ (λ rest. qualified_told r s at rest) (binding (path_body r at ts) _ (path_told r s at ts) (λ p. done _))

length_told : (r : Readers) → Told r → (at : Span) (ts : List Tok) → NoLex (length_body r at ts)
unfolding length_body
length_told r s at [] = failing ExpectedValue _ tt
length_told r s at (fixed l p ∷ []) = done _
length_told r s at (fixed l p ∷ u ∷ us) = done _
length_told r s at (word x p ∷ ts) = done _
length_told r s at (mark c j p ∷ ts) = done _
length_told r s at (group d us p ∷ ts) = done _

bracketed_told : (r : Readers) → Told r → (at : Span) (ts : List Tok) → NoLex (bracketed_body r at ts)
unfolding bracketed_body
bracketed_told r s at ts =
    binding (r.ty at ts) _ (s.ty at ts) (λ t.
    choosing (sign_front 59 t.1) _ _ (λ rest. binding (length_body r at rest) _ (length_told r s at rest) (λ e. done _)) (ending at (Ok _) (done _)))

reference_told : (r : Readers) → Told r → (at : Span) (ts : List Tok) → NoLex (reference_body r at ts)
unfolding reference_body
reference_told r s at ts = let us = (mut_front (maybe_lifetime_front ts).1).1 in binding (r.ty at us) _ (s.ty at us) (λ t. done _)

pointer_told : (r : Readers) → Told r → (at : Span) (ts : List Tok) → NoLex (pointer_body r at ts)
unfolding pointer_body
pointer_told r s at ts =
    choosing (keyword_front (codes "mut") ts) _ _ (λ rest. binding (r.ty at rest) _ (s.ty at rest) (λ t. done _))
    (binding (required (keyword_front (codes "const") ts) UnexpectedToken at ts) _ (requiring (keyword_front (codes "const") ts) UnexpectedToken at ts tt)
    (λ rest. binding (r.ty at rest) _ (s.ty at rest) (λ t. done _)))

signature_told : (r : Readers) → Told r → (g : List Tok × Span × List Tok) (at : Span) → NoLex (signature_body r g at)
unfolding signature_body
signature_told r s g at = binding (r.tys g.1 g.0) _ (s.tys g.1 g.0) (λ us. binding (output_body r at g.2) _ (output_told r s at g.2) (λ o. done _))

function_told : (r : Readers) → Told r → (at : Span) (ts : List Tok) → NoLex (function_body r at ts)
unfolding function_body
function_told r s at ts =
    binding (required (group_front is_parens ts) ExpectedParen at ts) _ (requiring (group_front is_parens ts) ExpectedParen at ts tt)
    (λ g. binding (signature_body r g at) _ (signature_told r s g at) (λ f. done _))

some_bounds_told : (r : Readers) → Told r → (at : Span) (ts : List Tok) → NoLex (some_bounds r at ts)
unfolding some_bounds
some_bounds_told r s at ts = deciding (bound_next ts) _ _ (s.bounds at ts) (failing ExpectedBound _ tt)

path_ty_told : (r : Readers) → Told r → (at : Span) (ts : List Tok) → NoLex (path_ty r at ts)
unfolding path_ty
path_ty_told r s at ts = binding (path_body r at ts) _ (path_told r s at ts) (λ p. choosing (cond (gives_path p.0) None (choose (sign_front 33 p.1) tree_front None)) _ _ (λ g. done _) (done _))

ty_told : (r : Readers) → Told r → (at : Span) (ts : List Tok) → NoLex (ty_body r at ts)
unfolding ty_body
ty_told r s at ts =
    choosing (sign_front 38 ts) _ _ (reference_told r s at)
    (choosing (sign_front 42 ts) _ _ (pointer_told r s at)
    (choosing (sign_front 33 ts) _ _ (λ rest. done _)
    (choosing (sign_front 60 ts) _ _ (λ rest. binding (qualified_body r at rest) _ (qualified_told r s at rest) (λ p. done _))
    (choosing (group_front is_brackets ts) _ _ (λ g. binding (bracketed_body r g.1 g.0) _ (bracketed_told r s g.1 g.0) (λ t. done _))
    (choosing (group_front is_parens ts) _ _ (λ g. binding (r.tys g.1 g.0) _ (s.tys g.1 g.0) (λ us. done _))
    (choosing (keyword_front (codes "_") ts) _ _ (λ rest. done _)
    (choosing (keyword_front (codes "fn") ts) _ _ (function_told r s at)
    (choosing (keyword_front (codes "impl") ts) _ _ (λ rest. binding (some_bounds r at rest) _ (some_bounds_told r s at rest) (λ bs. done _))
    (choosing (keyword_front (codes "dyn") ts) _ _ (λ rest. binding (some_bounds r at rest) _ (some_bounds_told r s at rest) (λ bs. done _))
    (deciding (path_next ts) _ _ (path_ty_told r s at ts) (failing ExpectedType _ tt)))))))))))

-- behind the first type of a list
tys_behind_told : (r : Readers) → Told r → (at : Span) (u : Tok) (us : List Tok) (t : TyD) (ts : List Tok) → r.ty at (u ∷ us) ≡ Ok (t, ts) → NoLex (tys_body r at (u ∷ us))
unfolding tys_body
tys_behind_told r s at u us t [] q e h = let g = rw q at h in done (t ∷ [], false) e g
tys_behind_told r s at u us t (v ∷ []) q e h =
    let g = rw q at h in
    binding (required (sign_front 44 (v ∷ [])) ExpectedComma at (v ∷ [])) _ (requiring (sign_front 44 (v ∷ [])) ExpectedComma at (v ∷ []) tt) (λ rest. done (t ∷ [], true)) e g
tys_behind_told r s at u us t (v ∷ w ∷ ws) q e h =
    let g = rw q at h in
    binding (required (sign_front 44 (v ∷ w ∷ ws)) ExpectedComma at (v ∷ w ∷ ws)) _ (requiring (sign_front 44 (v ∷ w ∷ ws)) ExpectedComma at (v ∷ w ∷ ws) tt)
    (λ rest. binding (r.tys at rest) _ (s.tys at rest) (λ more. done (t ∷ more.0, more.1))) e g

tys_read_told : (r : Readers) → Told r → (at : Span) (u : Tok) (us : List Tok) (v : Result (TyD × List Tok) SyntaxError) → r.ty at (u ∷ us) ≡ v → NoLex (tys_body r at (u ∷ us))
unfolding tys_body
tys_read_told r s at u us (Ok (t, ts)) q = tys_behind_told r s at u us t ts q
tys_read_told r s at u us (Err x) q = λ e h.
    let g = rw q at h in
    s.ty at (u ∷ us) e (let same = failed_same {A = List TyD × Bool} x e g in subst (λ z. r.ty at (u ∷ us) ≡ failed z) same q)

tys_told : (r : Readers) → Told r → (at : Span) (ts : List Tok) → NoLex (tys_body r at ts)
unfolding tys_body
tys_told r s at [] = done _
tys_told r s at (u ∷ us) = tys_read_told r s at u us (r.ty at (u ∷ us)) refl

bound_told : (r : Readers) → Told r → (at : Span) (ts : List Tok) → NoLex (bound_body r at ts)
unfolding bound_body
bound_told r s at ts = choosing (lifetime_front ts) _ _ (λ l. done _) (binding (path_body r at ts) _ (path_told r s at ts) (λ p. done _))

bounds_told : (r : Readers) → Told r → (at : Span) (ts : List Tok) → NoLex (bounds_body r at ts)
unfolding bounds_body
bounds_told r s at ts =
    deciding (bound_next ts) _ _
    (binding (bound_body r at ts) _ (bound_told r s at ts) (λ b.
    choosing (sign_front 43 b.1) _ _ (λ rest. binding (r.bounds at rest) _ (s.bounds at rest) (λ more. done _)) (done _)))
    (deciding (sign_next 43 ts) _ _ (failing ExpectedBound _ tt) (done _))

arguments_told : (r : Readers) → Told r → (at : Span) (ts : List Tok) → NoLex (arguments_body r at ts)
unfolding arguments_body
arguments_told r s at ts =
    choosing (angle_front ts) _ _ (λ a. binding (r.generics at a.1) _ (s.generics at a.1) (λ gs. done _))
    (choosing (group_front is_parens ts) _ _ (λ g. binding (signature_body r g at) _ (signature_told r s g at) (λ f. done _)) (done _))

segment_told : (r : Readers) → Told r → (at : Span) (ts : List Tok) → NoLex (segment_body r at ts)
unfolding segment_body
segment_told r s at ts =
    binding (required (segment_front ts) ExpectedIdent at ts) _ (requiring (segment_front ts) ExpectedIdent at ts tt)
    (λ x. binding (arguments_body r at x.1) _ (arguments_told r s at x.1) (λ a. done _))

segments_told : (r : Readers) → Told r → (at : Span) (ts : List Tok) → NoLex (segments_body r at ts)
unfolding segments_body
segments_told r s at ts =
    binding (segment_body r at ts) _ (segment_told r s at ts) (λ x.
    choosing (cond (gives_segment x.0) None (further_front x.1)) _ _ (λ rest. binding (r.segments at rest) _ (s.segments at rest) (λ more. done _)) (done _))

generic_told : (r : Readers) → Told r → (at : Span) (ts : List Tok) → NoLex (generic_body r at ts)
unfolding generic_body
generic_told r s at ts =
    choosing (lifetime_front ts) _ _ (λ l. done _)
    (choosing (constant_front ts) _ _ (λ e. done _)
    (choosing (labelled (sign_front 61) (name_front ts)) _ _ (λ x. choosing (constant_front x.1) _ _ (λ e. done _) (binding (r.ty at x.1) _ (s.ty at x.1) (λ t. done _)))
    (choosing (labelled colon_front (name_front ts)) _ _ (λ x. binding (r.bounds at x.1) _ (s.bounds at x.1) (λ bs. done _))
    (binding (r.ty at ts) _ (s.ty at ts) (λ t. done _)))))

generics_told : (r : Readers) → Told r → (at : Span) (ts : List Tok) → NoLex (generics_body r at ts)
unfolding generics_body
generics_told r s at ts =
    choosing (sign_front 62 ts) _ _ (λ rest. done _)
    (binding (generic_body r at ts) _ (generic_told r s at ts) (λ g.
    choosing (sign_front 62 g.1) _ _ (λ rest. done _)
    (binding (required (sign_front 44 g.1) ExpectedGt at g.1) _ (requiring (sign_front 44 g.1) ExpectedGt at g.1 tt)
    (λ rest. binding (r.generics at rest) _ (s.generics at rest) (λ more. done _)))))

nothing_told : Told stuck
nothing_told = record {
  ty = λ at ts. failing UnexpectedToken _ tt;
  tys = λ at ts. failing UnexpectedToken _ tt;
  bounds = λ at ts. failing UnexpectedToken _ tt;
  segments = λ at ts. failing UnexpectedToken _ tt;
  generics = λ at ts. failing UnexpectedToken _ tt;
  expr_path = λ at ts. failing UnexpectedToken _ tt;
}

level_told : (r : Readers) → Told r → Told (level r)
level_told r s = record {
  ty = ty_told r s;
  tys = tys_told r s;
  bounds = bounds_told r s;
  segments = segments_told r s;
  generics = generics_told r s;
  expr_path = expr_path_told r s;
}

levels_told : (n : ℕ) → Told (levels n)
unfolding levels
levels_told zero = nothing_told
levels_told (suc n) = level_told (levels n) (levels_told n)

-- predicates

lifetime_predicate_told : (n : ℕ) (l : LifetimeD) (at : Span) (ts : List Tok) → NoLex (lifetime_predicate n l at ts)
unfolding lifetime_predicate
lifetime_predicate_told n l at ts = binding (required (colon_front ts) UnexpectedToken at ts) _ (requiring (colon_front ts) UnexpectedToken at ts tt) (λ rest. done _)

type_predicate_told : (r : Readers) → Told r → (at : Span) (ts : List Tok) → NoLex (type_predicate r at ts)
unfolding type_predicate
type_predicate_told r s at ts =
    binding (r.ty at ts) _ (s.ty at ts) (λ t.
    binding (required (colon_front t.1) UnexpectedToken at t.1) _ (requiring (colon_front t.1) UnexpectedToken at t.1 tt)
    (λ rest. binding (r.bounds at rest) _ (s.bounds at rest) (λ bs. done _)))

predicate_told : (n : ℕ) (r : Readers) → Told r → (at : Span) (ts : List Tok) → NoLex (predicate_body n r at ts)
unfolding predicate_body
predicate_told n r s at ts = choosing (lifetime_front ts) _ _ (λ l. lifetime_predicate_told n l.0 at l.1) (type_predicate_told r s at ts)

behind_predicate_told : (more : List Tok → Result (List PredicateD) SyntaxError) → ((ts : List Tok) → NoLex (more ts)) → (p : PredicateD) (at : Span) (ts : List Tok) → NoLex (behind_predicate more p at ts)
unfolding behind_predicate
behind_predicate_told more m p at [] = done _
behind_predicate_told more m p at (t ∷ ts) =
    binding (required (sign_front 44 (t ∷ ts)) ExpectedComma at (t ∷ ts)) _ (requiring (sign_front 44 (t ∷ ts)) ExpectedComma at (t ∷ ts) tt)
    (λ rest. fronting (p ∷ []) (more rest) (m rest))

predicates_told : (n : ℕ) (r : Readers) → Told r → (more : List Tok → Result (List PredicateD) SyntaxError) → ((ts : List Tok) → NoLex (more ts)) → (at : Span) (ts : List Tok) → NoLex (predicates_body n r more at ts)
unfolding predicates_body
predicates_told n r s more m at [] = done _
predicates_told n r s more m at (t ∷ ts) = binding (predicate_body n r at (t ∷ ts)) _ (predicate_told n r s at (t ∷ ts)) (λ p. behind_predicate_told more m p.0 at p.1)

some_predicates_told : (m n : ℕ) (r : Readers) → Told r → (at : Span) (ts : List Tok) → NoLex (some_predicates m n r at ts)
unfolding some_predicates
some_predicates_told zero n r s at ts = failing UnexpectedToken _ tt
some_predicates_told (suc m) n r s at ts = predicates_told n r s (some_predicates m n r at) (some_predicates_told m n r s at) at ts

-- lifetimes

one_lifetime_told : (t u : Tok) → NoLex (one_lifetime t u)
one_lifetime_told t u = deciding (is_joint_sign 39 t && is_word u) _ _ (done _) (failing ExpectedLifetime _ tt)

pub lifetimes_told : (at : Span) (ts : List Tok) → NoLex (lifetimes_of ts)
lifetimes_told at [] = done _
lifetimes_told at (t ∷ []) = failing ExpectedLifetime _ tt
lifetimes_told at (t ∷ u ∷ []) = binding (one_lifetime t u) _ (one_lifetime_told t u) (λ l. done _)
lifetimes_told at (t ∷ u ∷ v ∷ ts) =
    binding (one_lifetime t u) _ (one_lifetime_told t u) (λ l.
    deciding (is_sign 43 v) _ _ (fronting (l ∷ []) (lifetimes_of ts) (lifetimes_told at ts)) (failing ExpectedPlus _ tt))

-- whole readers

pub type_told : (at : Span) (ts : List Tok) → NoLex (type_of at ts)
unfolding type_of
type_told at ts = let n = room ts in ending at ((levels n).ty at ts) ((levels_told n).ty at ts)

pub whole_path_told : (at : Span) (ts : List Tok) → NoLex (path_of at ts)
unfolding path_of
whole_path_told at ts = let n = room ts in ending at (path_body (levels n) at ts) (path_told (levels n) (levels_told n) at ts)

pub whole_expr_path_told : (at : Span) (ts : List Tok) → NoLex (expr_path_of at ts)
unfolding expr_path_of
whole_expr_path_told at ts = let n = room ts in ending at ((levels n).expr_path at ts) ((levels_told n).expr_path at ts)

pub whole_predicates_told : (at : Span) (ts : List Tok) → NoLex (predicates_of at ts)
unfolding predicates_of
whole_predicates_told at ts = let n = room ts in some_predicates_told n n (levels n) (levels_told n) at ts
