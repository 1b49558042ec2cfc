-- Places that grow span by span.
use Rattle.std.proofs.Common.{◌≡◌, ℕ, ◌+◌, ◌<◌, List, [], ◌∷◌, ◌++◌, map, drop, length, get_or, Option, Some, None, refl, ap, sym, ◌∙◌}
use Rattle.std.specs.Prelude.{unwrap_or}
use Rattle.token_trees.specs.declared.token.Span.{Span}
use Rattle.token_trees.specs.Token.{Tok, word, mark, fixed, group, span_of, site}
use Rattle.attr_parts.proofs.Added.{mapped_drop}
use Rattle.attr_parts.specs.Places.{last_span, place_of, tok_spans, toks_spans, tokens_spans, joined, reached}

pub reached_append : (p : Option Span) (a b : List Span) → reached p (a ++ b) ≡ reached (reached p a) b
reached_append p [] b = refl
reached_append p (s ∷ a) b = reached_append (Some (joined p s)) a b

from_some : (p s : Span) (ss : List Span) → reached (Some (record { file = p.file; lo = p.lo; hi = s.hi })) ss ≡ Some (record { file = p.file; lo = p.lo; hi = (last_span s ss).hi })
from_some p s [] = refl
from_some p s (t ∷ ts) = from_some p t ts

-- what is reached from nothing is the place
pub reached_place : (ss : List Span) → unwrap_or (reached None ss) site ≡ place_of ss
reached_place [] = refl
reached_place (s ∷ ss) = ap (λ (o : Option Span). unwrap_or o site) (from_some s s ss)

again : (f l h : ℕ) (s : Span) (ss : List Span) → reached (Some (record { file = f; lo = l; hi = h })) (ss ++ s ∷ []) ≡ Some (record { file = f; lo = l; hi = s.hi })
again f l h s [] = refl
again f l h s (t ∷ ts) = again f l t.hi s ts

-- a span, others, and the span again: what is between doesn't count
pub reached_twice : (p : Option Span) (s : Span) (ss : List Span) → reached p (s ∷ (ss ++ s ∷ [])) ≡ Some (joined p s)
reached_twice None s ss = again s.file s.lo s.hi s ss
reached_twice (Some r) s ss = again r.file r.lo s.hi s ss

-- a tree's own span stands for all that it holds
reached_tok : (p : Option Span) (t : Tok) → reached p (tok_spans t) ≡ Some (joined p (span_of t))
reached_tok p (word x s) = refl
reached_tok p (mark c j s) = refl
reached_tok p (fixed l s) = refl
reached_tok p (group d ts s) = reached_twice p s (toks_spans ts)

pub reached_toks : (p : Option Span) (t : Tok) (ts : List Tok) → reached p (tokens_spans (t ∷ ts)) ≡ reached (Some (joined p (span_of t))) (tokens_spans ts)
reached_toks p t ts = reached_append p (tok_spans t) (tokens_spans ts) ∙ ap (λ (o : Option Span). reached o (tokens_spans ts)) (reached_tok p t)

-- what is reached by one part, and from there by another
pub then_reached : (p q r : Option Span) (a b : List Span) → q ≡ reached p a → r ≡ reached q b → r ≡ reached p (a ++ b)
then_reached p q r a b e f = f ∙ ap (λ (o : Option Span). reached o b) e ∙ sym (reached_append p a b)

-- the same of parts that are seen through references
pub two_reached : {A B : Type 0} → (f : A → List Span) (g : B → List Span) (p q r : Option Span) (a x : A) (b y : B) → a ≡ x → b ≡ y → q ≡ reached p (f a) → r ≡ reached q (g b) → r ≡ reached p (f x ++ g y)
two_reached f g p q r a x b y d e h k = then_reached p q r (f x) (g y) (h ∙ ap (λ z. reached p (f z)) d) (k ∙ ap (λ z. reached q (g z)) e)

-- a loop over items reaches by the next of them, and has the others left
pub next_reached : {X Y : Type 0} → (view : X → Y) (spans : List Y → List Span) (one : Y → List Span) → ((y : Y) (ys : List Y) → spans (y ∷ ys) ≡ one y ++ spans ys) → (p q r : Option Span) (xs : List X) (i : ℕ) (x : X) → i < length xs → x ≡ get_or xs i x → q ≡ reached p (one (view x)) → reached p (spans (map view (drop i xs))) ≡ r → reached q (spans (map view (drop (i + 1) xs))) ≡ r
next_reached view spans one split p q r xs i x h e n k =
    let rest = map view (drop (i + 1) xs) in
    ap (λ (o : Option Span). reached o (spans rest)) n
    ∙ sym (reached_append p (one (view x)) (spans rest))
    ∙ ap (reached p) (sym (split (view x) rest))
    ∙ ap (λ ys. reached p (spans ys)) (sym (mapped_drop view xs i x h e))
    ∙ k
