-- Lifetimes added to a set.
use Rattle.std.proofs.Common.{◌≡◌, ℕ, zero, suc, ◌+◌, ◌<◌, ◌≤◌, List, [], ◌∷◌, ◌++◌, map, drop, length, get_or, drop-cons, refl, ap, sym, ◌∙◌, append_assoc, append-nil, arith, subst}
use Rattle.std.specs.Prelude.{Option, Some, None, Result, Ok, Err, OnErr}
use Rattle.token_trees.specs.declared.token.Span.{Span}
use Rattle.token_trees.specs.Token.{Tok, Toks, tok, toks_of}
use Rattle.std.specs.declared.cmp.Ordering.{Ordering}
use Rattle.std.specs.declared.cmp.Ordering.TheVariants.{Less, Equal, Greater}
use Rattle.std.specs.Ordering.{match_ordering}
use Rattle.std.specs.String.{string_cmp}
use Rattle.std.specs.BTreeSet.{insert_key}
use Rattle.syntax_trees.specs.Syntax.{LifetimeD}
use Rattle.syntax_trees.specs.View.{lifetime_view}
use Rattle.syntax_trees.specs.declared.tree.Lifetime.{Lifetime}
use Rattle.attr_parts.specs.Lifetimes.{lifetime_cmp, added, AddsUpTo, AddsFront, tokens_lifetimes, next_lifetimes, quote_after, token_count, tokens_count}

abbrev pub by_name : Lifetime → Lifetime → Ordering
by_name a b = string_cmp a.ident.text b.ident.text

placed : (o : Ordering) (a b c : List Lifetime) (p q r : List LifetimeD) → map lifetime_view a ≡ p → map lifetime_view b ≡ q → map lifetime_view c ≡ r → map lifetime_view (match_ordering o a b c) ≡ match_ordering o p q r
placed Less a b c p q r e f g = e
placed Equal a b c p q r e f g = f
placed Greater a b c p q r e f g = g

pub inserted : (xs : List Lifetime) (l : Lifetime) → map lifetime_view (insert_key by_name xs l) ≡ insert_key lifetime_cmp (map lifetime_view xs) (lifetime_view l)
inserted [] l = refl
inserted (x ∷ xs) l = placed (by_name l x) (l ∷ x ∷ xs) (x ∷ xs) (x ∷ insert_key by_name xs l) _ _ _ refl refl (ap (λ ys. lifetime_view x ∷ ys) (inserted xs l))

pub added_append : (old a b : List LifetimeD) → added old (a ++ b) ≡ added (added old a) b
added_append old [] b = refl
added_append old (l ∷ a) b = added_append (insert_key lifetime_cmp old l) a b

pub adds_none : (old new wanted : List LifetimeD) → new ≡ old → AddsFront old new wanted
adds_none old new wanted e = record { front = []; rest = wanted; is_new = e; is_wanted = refl }

pub adds_all : (old new wanted : List LifetimeD) → new ≡ added old wanted → AddsFront old new wanted
adds_all old new wanted e = record { front = wanted; rest = []; is_new = e; is_wanted = sym (append-nil wanted) }

pub adds_first : (old new a b : List LifetimeD) → AddsFront old new a → AddsFront old new (a ++ b)
adds_first old new a b t = record {
  front = t.front;
  rest = t.rest ++ b;
  is_new = t.is_new;
  is_wanted = ap (λ l. l ++ b) t.is_wanted ∙ append_assoc t.front t.rest b;
}

pub adds_later : (old mid new a b : List LifetimeD) → mid ≡ added old a → AddsFront mid new b → AddsFront old new (a ++ b)
adds_later old mid new a b e t = record {
  front = a ++ t.front;
  rest = t.rest;
  is_new = t.is_new ∙ ap (λ l. added l t.front) e ∙ sym (added_append old a t.front);
  is_wanted = ap (λ l. a ++ l) t.is_wanted ∙ sym (append_assoc a t.front t.rest);
}

-- after what was added, more is, and the rest is left
pub added_more : (old mid new wanted left a rest : List LifetimeD) → AddsUpTo old mid wanted left → left ≡ a ++ rest → new ≡ added mid a → AddsUpTo old new wanted rest
added_more old mid new wanted left a rest u e n = record {
  done = u.done ++ a;
  is_new = n ∙ ap (λ l. added l a) u.is_new ∙ sym (added_append old u.done a);
  is_wanted = u.is_wanted ∙ ap (λ l. u.done ++ l) e ∙ sym (append_assoc u.done a rest);
}

-- after what was added, a front of the next is
pub added_front : (old mid new wanted left a rest : List LifetimeD) → AddsUpTo old mid wanted left → left ≡ a ++ rest → AddsFront mid new a → AddsFront old new wanted
added_front old mid new wanted left a rest u e n = record {
  front = u.done ++ n.front;
  rest = n.rest ++ rest;
  is_new = n.is_new ∙ ap (λ l. added l n.front) u.is_new ∙ sym (added_append old u.done n.front);
  is_wanted = u.is_wanted ∙ ap (λ l. u.done ++ l) (e ∙ ap (λ l. l ++ rest) n.is_wanted ∙ append_assoc n.front n.rest rest) ∙ sym (append_assoc u.done n.front (n.rest ++ rest));
}

-- the next of mapped elements, and the others
pub mapped_drop : {X Y : Type 0} → (f : X → Y) (xs : List X) (i : ℕ) (x : X) → i < length xs → x ≡ get_or xs i x → map f (drop i xs) ≡ f x ∷ map f (drop (i + 1) xs)
mapped_drop f xs i x h e =
    ap (map f) (drop-cons xs i x h) ∙ ap (λ y. f y ∷ map f (drop (suc i) xs)) (sym e) ∙ ap (λ n. f x ∷ map f (drop n xs)) (let k : suc i ≡ i + 1 = omega arith in k)

-- those of the next token, and those of the others
pub tokens_next : (before : Option Span) (t : Tok) (ts : Toks) → tokens_lifetimes before (tok t ts) ≡ next_lifetimes before t ++ tokens_lifetimes (quote_after before t) ts
tokens_next None t ts = refl
tokens_next (Some at) t ts = refl

-- one of the trees has no more tokens than all
pub count_within : {X : Type 0} → (f : X → Tok) (xs : List X) (i : ℕ) (x : X) → i < length xs → token_count (f (get_or xs i x)) ≤ tokens_count (toks_of (map f xs))
count_within f [] i x h = absurd (omega arith)
count_within f (y ∷ ys) zero x h = omega arith
count_within f (y ∷ ys) (suc i) x h = let k = count_within f ys i x (omega arith) in omega arith

pub item_count : {X : Type 0} → (f : X → Tok) (xs : List X) (i : ℕ) (x : X) → i < length xs → x ≡ get_or xs i x → token_count (f x) ≤ tokens_count (toks_of (map f xs))
item_count f xs i x h e = subst (λ y. token_count (f y) ≤ tokens_count (toks_of (map f xs))) (sym e) (count_within f xs i x h)

pub always_err : {T E : Type 0} → (r : Result T E) (P : Type 0) → P → OnErr r P
always_err (Ok x) P h = tt
always_err (Err e) P h = h
