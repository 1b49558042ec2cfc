-- The tokens that predicates and lifetimes are printed as are a printing of them.
use Rattle.std.proofs.Common.{◌≡◌, List, [], ◌∷◌, ◌++◌, true, false, refl, ap, ◌∙◌, inl, inr, append_assoc}
use Rattle.token_trees.specs.declared.token.Spacing.TheVariants.{Alone, Joint}
use Rattle.token_trees.specs.Token.{Tok, word, mark, site}
use Rattle.syntax_trees.specs.Syntax.{LifetimeD, bounds_of}
use Rattle.syntax_trees.specs.Item.{PredicateD, predicate_ty, predicate_lifetime}
use Rattle.syntax_printing.specs.Print.{sign, print_lifetime, print_ty, print_bounds}
use Rattle.syntax_printing.specs.PrintPredicates.{print_lifetimes, print_predicate, print_predicates}
use Rattle.syntax_parsers.specs.Lifetimes.{SpellsLifetimes, SpellsBehind}
use Rattle.syntax_parsers.proofs.spelling.Printing.{ty_printed, bounds_printed}
use Rattle.syntax_laws.specs.Predicates.{LifetimesThen, LifetimesBehind, PredicateThen, PredicatesThen, PredicatesBehind, IsParsedPredicate, AreParsedPredicates}

behind_printed : (ls : List LifetimeD) (ts rest : List Tok) → ts ≡ print_lifetimes true ls ++ rest → LifetimesBehind ls ts rest
behind_printed [] ts rest h = inl h
behind_printed (l ∷ ls) ts rest h =
    let b = print_lifetimes true ls ++ rest in
    (print_lifetime l ++ b, b, (Alone, site, h), refl, behind_printed ls b rest refl)

pub lifetimes_printed : (ls : List LifetimeD) (ts rest : List Tok) → ts ≡ print_lifetimes false ls ++ rest → LifetimesThen ls ts rest
lifetimes_printed [] ts rest h = h
lifetimes_printed (l ∷ ls) ts rest h = let b = print_lifetimes true ls ++ rest in (b, h, behind_printed ls b rest refl)

predicate_printed : (p : PredicateD) (ts rest : List Tok) → IsParsedPredicate p → ts ≡ print_predicate p ++ rest → PredicateThen p ts rest
predicate_printed (predicate_ty t bs) ts rest f h =
    let b = print_bounds false (bounds_of bs) ++ rest in (
      sign 58 ∷ b,
      b,
      ty_printed t ts (sign 58 ∷ b) f.0.0 (h ∙ append_assoc (print_ty t) (sign 58 ∷ print_bounds false (bounds_of bs)) rest),
      (Alone, site, refl),
      bounds_printed (bounds_of bs) b rest f.1.0 refl,
    )
predicate_printed (predicate_lifetime l ls) ts rest f h =
    let b = print_lifetimes false ls ++ rest in
    (sign 58 ∷ b, b, h, (Alone, site, refl), lifetimes_printed ls b rest refl)

predicates_behind_printed : (ps : List PredicateD) (ts : List Tok) → AreParsedPredicates ps → ts ≡ print_predicates true ps → PredicatesBehind ps ts
predicates_behind_printed [] ts f h = inl h
predicates_behind_printed (p ∷ ps) ts f h =
    let b = print_predicates true ps in
    (print_predicate p ++ b, b, (Alone, site, h), predicate_printed p (print_predicate p ++ b) b f.0 refl, predicates_behind_printed ps b f.1 refl)

pub predicates_printed : (ps : List PredicateD) (ts : List Tok) → AreParsedPredicates ps → ts ≡ print_predicates false ps → PredicatesThen ps ts
predicates_printed [] ts f h = h
predicates_printed (p ∷ ps) ts f h =
    let b = print_predicates true ps in
    (b, predicate_printed p ts b f.0 h, predicates_behind_printed ps b f.1 refl)

-- lifetimes up to the end are spelled

behind_spelled : (ls : List LifetimeD) (ts : List Tok) → LifetimesBehind ls ts [] → SpellsBehind ts ls
behind_spelled [] ts (inl e) = inl e
behind_spelled [] ts (inr s) = inr (mark 43 s.0 s.1, s.2, (s.0, s.1, refl))
behind_spelled (l ∷ ls) ts h =
    let sign = mark 43 h.2.0 h.2.1 in
    (sign, mark 39 Joint l.span, word l.name.text l.name.span, h.1, h.2.2 ∙ ap (λ z. sign ∷ z) h.3, (h.2.0, h.2.1, refl), (refl, refl), behind_spelled ls h.1 h.4)

pub lifetimes_spelled : (ls : List LifetimeD) (ts : List Tok) → LifetimesThen ls ts [] → SpellsLifetimes ts ls
lifetimes_spelled [] ts h = h
lifetimes_spelled (l ∷ ls) ts h = (mark 39 Joint l.span, word l.name.text l.name.span, h.0, h.1, (refl, refl), behind_spelled ls h.0 h.2)
