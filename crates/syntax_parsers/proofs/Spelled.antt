-- Exactly the lifetimes that are spelled are read.
use Rattle.std.proofs.Common.{◌≡◌, ◌&&◌, List, [], ◌∷◌, true, false, cond, refl, ap, sym, ◌∙◌, subst, inl, inr}
use Rattle.std.specs.Prelude.{ℕ, Ok, Err, nat_eq}
use Rattle.std.proofs.lemmas.Bool.{eqb-true}
use Rattle.token_trees.specs.declared.token.Span.{Span}
use Rattle.token_trees.specs.declared.token.Spacing.{Spacing}
use Rattle.token_trees.specs.declared.token.Spacing.TheVariants.{Alone, Joint}
use Rattle.token_trees.specs.Token.{Tok, word, mark, fixed, group, span_of}
use Rattle.syntax_trees.specs.Syntax.{LifetimeD}
use Rattle.syntax_trees.specs.Metas.{is_sign, is_joint, is_joint_sign, is_word}
use Rattle.syntax_trees.specs.declared.cursor.SyntaxKind.TheVariants.{ExpectedLifetime, ExpectedPlus}
use Rattle.syntax_parsers.specs.Answer.{error, ◌>>=◌, with_front}
use Rattle.syntax_parsers.specs.Lifetimes.{IsSign, IsLifetime, SpellsLifetimes, SpellsBehind, name_of, one_lifetime, lifetimes_of}
use Rattle.syntax_parsers.proofs.Results.{got, ok_same, and_true, bind_ok, cond_ok, front_ok}

lifetime_read : (l : LifetimeD) (t u : Tok) → IsLifetime l t u → one_lifetime t u ≡ Ok l
lifetime_read l t u h = ap (λ x. one_lifetime x u) h.0 ∙ ap (λ x. one_lifetime (mark 39 Joint l.span) x) h.1

more_read : (l : LifetimeD) (t u v : Tok) (ts : List Tok) (ls : List LifetimeD) → IsLifetime l t u → IsSign 43 v → lifetimes_of ts ≡ Ok ls → lifetimes_of (t ∷ u ∷ v ∷ ts) ≡ Ok (l ∷ ls)
more_read l t u v ts ls h sign r =
    ap (λ x. x >>= λ m. cond (is_sign 43 v) (with_front (m ∷ []) (lifetimes_of ts)) (Err (error ExpectedPlus (span_of v)))) (lifetime_read l t u h)
    ∙ ap (λ x. cond (is_sign 43 x) (with_front (l ∷ []) (lifetimes_of ts)) (Err (error ExpectedPlus (span_of v)))) sign.2
    ∙ ap (with_front (l ∷ [])) r

behind_read : (l : LifetimeD) (t u : Tok) (ts : List Tok) (ls : List LifetimeD) → IsLifetime l t u → SpellsBehind ts ls → lifetimes_of (t ∷ u ∷ ts) ≡ Ok (l ∷ ls)
behind_read l t u ts [] h (inl e) = ap (λ z. lifetimes_of (t ∷ u ∷ z)) e ∙ ap (λ x. x >>= λ m. Ok (m ∷ [])) (lifetime_read l t u h)
behind_read l t u ts [] h (inr k) = ap (λ z. lifetimes_of (t ∷ u ∷ z)) k.1 ∙ more_read l t u k.0 [] [] h k.2 refl
behind_read l t u ts (m ∷ ls) h k = ap (λ z. lifetimes_of (t ∷ u ∷ z)) k.4 ∙ more_read l t u k.0 (k.1 ∷ k.2 ∷ k.3) (m ∷ ls) h k.5 (behind_read m k.1 k.2 k.3 ls k.6 k.7)

pub spelled_read : (ts : List Tok) (ls : List LifetimeD) → SpellsLifetimes ts ls → lifetimes_of ts ≡ Ok ls
spelled_read ts [] e = ap lifetimes_of e
spelled_read ts (l ∷ ls) h = ap lifetimes_of h.3 ∙ behind_read l h.0 h.1 h.2 ls h.4 h.5

sign_spelled : (t : Tok) → is_sign 43 t ≡ true → IsSign 43 t
sign_spelled (word x s) h = absurd (cc)
sign_spelled (mark c j s) h = (j, s, ap (λ d. mark d j s) (sym (eqb-true 43 c h)))
sign_spelled (fixed l s) h = absurd (cc)
sign_spelled (group d us s) h = absurd (cc)

read_both : (t u : Tok) (l : LifetimeD) → one_lifetime t u ≡ Ok l → ((is_joint_sign 39 t && is_word u) ≡ true) × (Ok (record { name = name_of u; span = span_of t }) ≡ got l)
read_both t u l e = cond_ok (is_joint_sign 39 t && is_word u) (Ok (record { name = name_of u; span = span_of t })) (error ExpectedLifetime (span_of t)) l e

word_read : (t u : Tok) (l : LifetimeD) → one_lifetime t u ≡ Ok l → is_word u ≡ true
word_read t u l e = (and_true (is_joint_sign 39 t) (is_word u) (read_both t u l e).0).1

quote_read : (t u : Tok) (l : LifetimeD) → one_lifetime t u ≡ Ok l → is_joint_sign 39 t ≡ true
quote_read t u l e = (and_true (is_joint_sign 39 t) (is_word u) (read_both t u l e).0).0

false_not_true : false ≡ true → ⊥
false_not_true e = cc

joint_spelled : (c : ℕ) (j : Spacing) (s : Span) → (nat_eq 39 c && is_joint j) ≡ true → mark c j s ≡ mark 39 Joint s
joint_spelled c Joint s h = ap (λ d. mark d Joint s) (sym (eqb-true 39 c (and_true (nat_eq 39 c) true h).0))
joint_spelled c Alone s h = absurd (false_not_true (and_true (nat_eq 39 c) false h).1)

quote_spelled : (t : Tok) → is_joint_sign 39 t ≡ true → t ≡ mark 39 Joint (span_of t)
quote_spelled (word x s) h = absurd (cc)
quote_spelled (mark c j s) h = joint_spelled c j s h
quote_spelled (fixed l s) h = absurd (cc)
quote_spelled (group d us s) h = absurd (cc)

word_spelled : (u : Tok) → is_word u ≡ true → u ≡ word (name_of u).text (name_of u).span
word_spelled (word x s) h = refl
word_spelled (mark c j s) h = absurd (cc)
word_spelled (fixed l s) h = absurd (cc)
word_spelled (group d us s) h = absurd (cc)

lifetime_spelled : (t u : Tok) (l : LifetimeD) → one_lifetime t u ≡ Ok l → IsLifetime l t u
lifetime_spelled t u l e =
    let same = ok_same (record { name = name_of u; span = span_of t }) l (read_both t u l e).1 in
    subst (λ (m : LifetimeD). IsLifetime m t u) same (quote_spelled t (quote_read t u l e), word_spelled u (word_read t u l e))

behind_spelled : (v : Tok) (ts : List Tok) (ls : List LifetimeD) → IsSign 43 v → SpellsLifetimes ts ls → SpellsBehind (v ∷ ts) ls
behind_spelled v ts [] sign e = inr (v, ap (λ z. v ∷ z) e, sign)
behind_spelled v ts (m ∷ ms) sign h = (v, h.0, h.1, h.2, ap (λ z. v ∷ z) h.3, sign, h.4, h.5)

pub read_spelled : (ts : List Tok) (ls : List LifetimeD) → lifetimes_of ts ≡ Ok ls → SpellsLifetimes ts ls
read_spelled [] ls e = subst (SpellsLifetimes []) (ok_same [] ls e) refl
read_spelled (t ∷ []) ls e = absurd (cc)
read_spelled (t ∷ u ∷ []) ls e =
    let b = bind_ok (one_lifetime t u) (λ l. Ok (l ∷ [])) ls e in
    subst (SpellsLifetimes (t ∷ u ∷ [])) (ok_same (b.0 ∷ []) ls b.2) (t, u, [], refl, lifetime_spelled t u b.0 b.1, inl refl)
read_spelled (t ∷ u ∷ v ∷ ts) ls e =
    let b = bind_ok (one_lifetime t u) _ ls e in
    let c = cond_ok (is_sign 43 v) _ _ ls b.2 in
    let f = front_ok (b.0 ∷ []) (lifetimes_of ts) ls c.1 in
    subst (SpellsLifetimes (t ∷ u ∷ v ∷ ts)) f.2 (t, u, v ∷ ts, refl, lifetime_spelled t u b.0 b.1, behind_spelled v ts f.0 (sign_spelled v c.0) (read_spelled ts f.0 f.1))
