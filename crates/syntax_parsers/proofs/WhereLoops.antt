-- Lists of lifetimes and predicates that loops read. `xs` was read before.
use Rattle.std.proofs.Common.{◌≡◌, ℕ, zero, suc, ◌-◌, ◌<◌, true, false, List, [], ◌∷◌, ◌++◌, Some, None, length, refl, ap, sym, ◌∙◌, append-nil, arith}
use Rattle.std.specs.Prelude.{Result, Ok, nat_eq}
use Rattle.token_trees.specs.declared.token.Span.{Span}
use Rattle.token_trees.specs.declared.token.TokenTree.{TokenTree}
use Rattle.token_trees.specs.Token.{Tok}
use Rattle.token_trees.specs.View.{tree, trees}
use Rattle.syntax_trees.specs.Syntax.{LifetimeD}
use Rattle.syntax_trees.specs.Item.{PredicateD}
use Rattle.syntax_trees.specs.declared.cursor.SyntaxKind.TheVariants.{ExpectedComma, UnexpectedToken}
use Rattle.syntax_trees.specs.declared.cursor.SyntaxError.{SyntaxError}
use Rattle.syntax_parsers.specs.declared.fault.ParseFault.{ParseFault}
use Rattle.syntax_parsers.specs.Answer.{Refuses, ◌>>=◌, with_front}
use Rattle.syntax_parsers.specs.Fronts.{sign_front, lifetime_front}
use Rattle.syntax_parsers.specs.Grammar.{Readers, missing, required}
use Rattle.syntax_parsers.specs.Where.{lifetimes_body, some_lifetimes, predicate_body, behind_predicate, predicates_body, some_predicates}
use Rattle.syntax_parsers.proofs.Refused.{refused_is, bind_refused, front_refused}
use Rattle.syntax_parsers.proofs.Steps.{front_step}
use Rattle.syntax_parsers.proofs.Loops.{no_length, none_is_some}

-- lifetimes

pub lifetimes_none : (n : ℕ) (ts : List Tok) → n ≡ 0 → some_lifetimes n ts ≡ ([], ts)
unfolding some_lifetimes
lifetimes_none n ts e = ap (λ m. some_lifetimes m ts) e

lifetimes_level : (n : ℕ) (ts : List Tok) → 0 < n → some_lifetimes n ts ≡ lifetimes_body (some_lifetimes (n - 1)) ts
unfolding some_lifetimes
lifetimes_level zero ts h = absurd (omega (arith, h))
lifetimes_level (suc n) ts h = let e : n ≡ suc n - 1 = omega arith in ap (λ m. lifetimes_body (some_lifetimes m) ts) e

over_body : (more : List Tok → List LifetimeD × List Tok) (ts : List Tok) → lifetime_front ts ≡ None → lifetimes_body more ts ≡ ([], ts)
unfolding lifetimes_body
over_body more ts e = rw e refl

end_body : (more : List Tok → List LifetimeD × List Tok) (ts rest : List Tok) (l : LifetimeD) → lifetime_front ts ≡ Some (l, rest) → sign_front 43 rest ≡ None → lifetimes_body more ts ≡ (l ∷ [], rest)
unfolding lifetimes_body
end_body more ts rest l e h = rw (e, h) refl

on_body : (more : List Tok → List LifetimeD × List Tok) (ts rest behind : List Tok) (l : LifetimeD) → lifetime_front ts ≡ Some (l, rest) → sign_front 43 rest ≡ Some behind → lifetimes_body more ts ≡ (l ∷ (more behind).0, (more behind).1)
unfolding lifetimes_body
on_body more ts rest behind l e h = rw (e, h) refl

pub lifetimes_over : (n : ℕ) (ts : List Tok) → 0 < n → None ≡ lifetime_front ts → some_lifetimes n ts ≡ ([], ts)
lifetimes_over n ts p e = lifetimes_level n ts p ∙ over_body (some_lifetimes (n - 1)) ts (sym e)

pub lifetimes_end : (n : ℕ) (ts rest : List Tok) (l : LifetimeD) → 0 < n → Some (l, rest) ≡ lifetime_front ts → None ≡ sign_front 43 rest → some_lifetimes n ts ≡ (l ∷ [], rest)
lifetimes_end n ts rest l p e h = lifetimes_level n ts p ∙ end_body (some_lifetimes (n - 1)) ts rest l (sym e) (sym h)

pub lifetimes_on : (n : ℕ) (ts rest behind : List Tok) (l : LifetimeD) → 0 < n → Some (l, rest) ≡ lifetime_front ts → Some behind ≡ sign_front 43 rest
    → some_lifetimes n ts ≡ (l ∷ (some_lifetimes (n - 1) behind).0, (some_lifetimes (n - 1) behind).1)
lifetimes_on n ts rest behind l p e h = lifetimes_level n ts p ∙ on_body (some_lifetimes (n - 1)) ts rest behind l (sym e) (sym h)

-- predicates

pub predicates_none : (m n : ℕ) (r : Readers) (at : Span) (ts : List Tok) → m ≡ 0 → some_predicates m n r at ts ≡ missing UnexpectedToken at ts
unfolding some_predicates
predicates_none m n r at ts e = ap (λ k. some_predicates k n r at ts) e

predicates_level : (m n : ℕ) (r : Readers) (at : Span) (ts : List Tok) → 0 < m → some_predicates m n r at ts ≡ predicates_body n r (some_predicates (m - 1) n r at) at ts
unfolding some_predicates
predicates_level zero n r at ts h = absurd (omega (arith, h))
predicates_level (suc m) n r at ts h = let e : m ≡ suc m - 1 = omega arith in ap (λ k. predicates_body n r (some_predicates k n r at) at ts) e

abbrev More : Type 0
More = List Tok → Result (List PredicateD) SyntaxError

nothing_body : (n : ℕ) (r : Readers) (more : More) (at : Span) → predicates_body n r more at [] ≡ Ok []
unfolding predicates_body
nothing_body n r more at = refl

last_body : (n : ℕ) (r : Readers) (more : More) (at : Span) (t : Tok) (ts : List Tok) (p : PredicateD) → predicate_body n r at (t ∷ ts) ≡ Ok (p, []) → predicates_body n r more at (t ∷ ts) ≡ Ok (p ∷ [])
unfolding predicates_body behind_predicate
last_body n r more at t ts p e = rw e refl

comma_body : (n : ℕ) (r : Readers) (more : More) (at : Span) (t : Tok) (ts : List Tok) (u : Tok) (us : List Tok) (p : PredicateD) → predicate_body n r at (t ∷ ts) ≡ Ok (p, u ∷ us)
    → predicates_body n r more at (t ∷ ts) ≡ (required (sign_front 44 (u ∷ us)) ExpectedComma at (u ∷ us) >>= λ rest. with_front (p ∷ []) (more rest))
unfolding predicates_body behind_predicate
comma_body n r more at t ts u us p e = rw e refl

stop_body : (n : ℕ) (r : Readers) (more : More) (at : Span) (t : Tok) (ts : List Tok) (f : ParseFault) → Refuses f (predicate_body n r at (t ∷ ts)) → Refuses f (predicates_body n r more at (t ∷ ts))
unfolding predicates_body
stop_body n r more at t ts f h = bind_refused f (predicate_body n r at (t ∷ ts)) _ h

pub predicates_over : (m n : ℕ) (r : Readers) (at : Span) (xs : List PredicateD) (left : List TokenTree) → 0 < m → nat_eq (length left) 0 ≡ true → with_front xs (some_predicates m n r at (trees left)) ≡ Ok xs
predicates_over m n r at xs [] p e = ap (with_front xs) (predicates_level m n r at [] p ∙ nothing_body n r (some_predicates (m - 1) n r at) at) ∙ ap (λ (ys : List PredicateD). Ok ys) (append-nil xs)
predicates_over m n r at xs (t ∷ left) p e = absurd (none_is_some left e)

pub predicates_end : (m n : ℕ) (r : Readers) (at : Span) (xs : List PredicateD) (left rest : List TokenTree) (x : PredicateD) → 0 < m → nat_eq (length left) 0 ≡ false → predicate_body n r at (trees left) ≡ Ok (x, trees rest) → nat_eq (length rest) 0 ≡ true
    → with_front xs (some_predicates m n r at (trees left)) ≡ Ok (xs ++ x ∷ [])
predicates_end m n r at xs [] rest x p a e h = absurd (no_length a)
predicates_end m n r at xs (u ∷ us) [] x p a e h = ap (with_front xs) (predicates_level m n r at (trees (u ∷ us)) p ∙ last_body n r (some_predicates (m - 1) n r at) at (tree u) (trees us) x e)
predicates_end m n r at xs (u ∷ us) (v ∷ vs) x p a e h = absurd (none_is_some vs h)

comma_level : (m n : ℕ) (r : Readers) (at : Span) (u v : TokenTree) (us vs : List TokenTree) (x : PredicateD) → 0 < m → predicate_body n r at (trees (u ∷ us)) ≡ Ok (x, trees (v ∷ vs))
    → some_predicates m n r at (trees (u ∷ us)) ≡ (required (sign_front 44 (trees (v ∷ vs))) ExpectedComma at (trees (v ∷ vs)) >>= λ rest. with_front (x ∷ []) (some_predicates (m - 1) n r at rest))
comma_level m n r at u v us vs x p e = predicates_level m n r at (trees (u ∷ us)) p ∙ comma_body n r (some_predicates (m - 1) n r at) at (tree u) (trees us) (tree v) (trees vs) x e

passed_comma : (q : Result (List Tok) SyntaxError) (more : More) (xs : List PredicateD) (x : PredicateD) (behind : List Tok) → q ≡ Ok behind → with_front xs (q >>= λ rest. with_front (x ∷ []) (more rest)) ≡ with_front (xs ++ x ∷ []) (more behind)
passed_comma q more xs x behind e = ap (λ (s : Result (List Tok) SyntaxError). with_front xs (s >>= λ rest. with_front (x ∷ []) (more rest))) e ∙ sym (front_step xs x (more behind))

pub predicates_on : (m n : ℕ) (r : Readers) (at : Span) (xs : List PredicateD) (left rest behind : List TokenTree) (x : PredicateD) → 0 < m → nat_eq (length left) 0 ≡ false → predicate_body n r at (trees left) ≡ Ok (x, trees rest) → nat_eq (length rest) 0 ≡ false
    → required (sign_front 44 (trees rest)) ExpectedComma at (trees rest) ≡ Ok (trees behind)
    → with_front xs (some_predicates m n r at (trees left)) ≡ with_front (xs ++ x ∷ []) (some_predicates (m - 1) n r at (trees behind))
predicates_on m n r at xs [] rest behind x p a e h k = absurd (no_length a)
predicates_on m n r at xs (u ∷ us) [] behind x p a e h k = absurd (no_length h)
predicates_on m n r at xs (u ∷ us) (v ∷ vs) behind x p a e h k =
    ap (with_front xs) (comma_level m n r at u v us vs x p e)
    ∙ passed_comma (required (sign_front 44 (trees (v ∷ vs))) ExpectedComma at (trees (v ∷ vs))) (some_predicates (m - 1) n r at) xs x (trees behind) k

pub predicates_refused : (m n : ℕ) (r : Readers) (at : Span) (xs : List PredicateD) (left : List TokenTree) (f : ParseFault) → 0 < m → nat_eq (length left) 0 ≡ false → Refuses f (predicate_body n r at (trees left))
    → Refuses f (with_front xs (some_predicates m n r at (trees left)))
predicates_refused m n r at xs [] f p a h = absurd (no_length a)
predicates_refused m n r at xs (u ∷ us) f p a h =
    front_refused f xs (some_predicates m n r at (trees (u ∷ us))) (refused_is f _ _ (predicates_level m n r at (trees (u ∷ us)) p) (stop_body n r (some_predicates (m - 1) n r at) at (tree u) (trees us) f h))

pub predicates_unended : (m n : ℕ) (r : Readers) (at : Span) (xs : List PredicateD) (left rest : List TokenTree) (x : PredicateD) (f : ParseFault) → 0 < m → nat_eq (length left) 0 ≡ false → predicate_body n r at (trees left) ≡ Ok (x, trees rest) → nat_eq (length rest) 0 ≡ false
    → Refuses f (required (sign_front 44 (trees rest)) ExpectedComma at (trees rest)) → Refuses f (with_front xs (some_predicates m n r at (trees left)))
predicates_unended m n r at xs [] rest x f p a e h k = absurd (no_length a)
predicates_unended m n r at xs (u ∷ us) [] x f p a e h k = absurd (no_length h)
predicates_unended m n r at xs (u ∷ us) (v ∷ vs) x f p a e h k =
    front_refused f xs (some_predicates m n r at (trees (u ∷ us))) (refused_is f _ _ (comma_level m n r at u v us vs x p e) (bind_refused f (required (sign_front 44 (trees (v ∷ vs))) ExpectedComma at (trees (v ∷ vs))) _ k))

-- what stands behind what was read before
pub rest_is : {A B : Type 0} → (p q : List A × B) (xs ys : List A) (z : B) → xs ++ p.0 ≡ q.0 → p ≡ (ys, z) → xs ++ ys ≡ q.0
rest_is {A} {B} p q xs ys z h e = ap (λ (w : List A × B). xs ++ w.0) (sym e) ∙ h

pub end_is : {A B : Type 0} → (p q : List A × B) (ys : List A) (z : B) → p.1 ≡ q.1 → p ≡ (ys, z) → z ≡ q.1
end_is {A} {B} p q ys z h e = ap (λ (w : List A × B). w.1) (sym e) ∙ h
