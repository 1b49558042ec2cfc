-- Tokens with other spans spell predicates and lifetimes with other spans.
use Rattle.std.proofs.Common.{◌≡◌, List, [], ◌∷◌, map, refl, ap, sym, ◌∙◌, subst, inl, inr}
use Rattle.token_trees.specs.Token.{Tok, site}
use Rattle.syntax_trees.specs.Syntax.{LifetimeD, BoundD, Bounds, end_bounds, more_bounds, bounds_of}
use Rattle.syntax_trees.specs.Item.{PredicateD, predicate_ty, predicate_lifetime}
use Rattle.syntax_parsers.specs.Spelling.{SignThen, BoundsThen}
use Rattle.syntax_parsers.specs.SpellingAside.{lifetime_at, SameToks, SameBounds}
use Rattle.syntax_parsers.specs.SpellingForm.{IsParsedBounds}
use Rattle.syntax_parsers.proofs.spelling.Aside.{none_head, sign_moved, lifetime_moved, same_moved, ty_front_aside, bounds_front_aside}
use Rattle.syntax_laws.specs.Predicates.{LifetimesThen, LifetimesBehind, PredicateThen, PredicatesThen, PredicatesBehind, IsParsedPredicate, AreParsedPredicates}
use Rattle.syntax_laws.specs.PredicatesAside.{SameLifetime, SameLifetimes, SamePredicate, SamePredicates}

both_same : (l k : LifetimeD) (ls ks : List LifetimeD) → SameLifetime l k → SameLifetimes ls ks → SameLifetimes (l ∷ ls) (k ∷ ks)
both_same l k ls ks h i = ap (λ z. z ∷ map (lifetime_at site) ls) h ∙ ap (λ z. lifetime_at site k ∷ z) i

abbrev LifetimesMoved : (List LifetimeD → List Tok → List Tok → Type 0) → List LifetimeD → List Tok → List Tok → Type 0
LifetimesMoved P ls us rest = (ks : List LifetimeD) × (vs : List Tok) × P ks us vs × SameLifetimes ls ks × SameToks rest vs

behind_moved : (ls : List LifetimeD) (ts rest us : List Tok) → LifetimesBehind ls ts rest → SameToks ts us → LifetimesMoved LifetimesBehind ls us rest
behind_moved [] ts rest us (inl e) k = ([], us, inl refl, refl, same_moved ts rest us e k)
behind_moved [] ts rest us (inr s) k = let m = sign_moved 43 ts rest us s k in ([], m.0, inr m.1, refl, m.2)
behind_moved (l ∷ ls) ts rest us h k =
    let m = sign_moved 43 ts h.0 us h.2 k in
    let a = lifetime_moved l h.0 h.1 m.0 h.3 m.2 in
    let b = behind_moved ls h.1 rest a.1 h.4 a.4 in
    (a.0 ∷ b.0, b.1, (m.0, a.1, m.1, a.2, b.2), both_same l a.0 ls b.0 a.3 b.3, b.4)

pub lifetimes_moved : (ls : List LifetimeD) (ts rest us : List Tok) → LifetimesThen ls ts rest → SameToks ts us → LifetimesMoved LifetimesThen ls us rest
lifetimes_moved [] ts rest us h k = ([], us, refl, refl, same_moved ts rest us h k)
lifetimes_moved (l ∷ ls) ts rest us h k =
    let a = lifetime_moved l ts h.0 us h.1 k in
    let b = behind_moved ls h.0 rest a.1 h.2 a.4 in
    (a.0 ∷ b.0, b.1, (a.1, a.2, b.2), both_same l a.0 ls b.0 a.3 b.3, b.4)

pub lifetimes_aside : (ls : List LifetimeD) (ts us : List Tok) → LifetimesThen ls ts [] → SameToks ts us → (ks : List LifetimeD) × LifetimesThen ks us [] × SameLifetimes ls ks
lifetimes_aside ls ts us h k = let a = lifetimes_moved ls ts [] us h k in (a.0, subst (λ z. LifetimesThen a.0 us z) (none_head a.1 a.4) a.2, a.3)

bounds_listed : (bs : Bounds) → (cs : List BoundD) × (bounds_of cs ≡ bs)
bounds_listed end_bounds = ([], refl)
bounds_listed (more_bounds b bs) = let c = bounds_listed bs in (b ∷ c.0, ap (more_bounds b) c.1)

abbrev PredicateMoved : PredicateD → List Tok → List Tok → Type 0
PredicateMoved p us rest = (q : PredicateD) × (vs : List Tok) × IsParsedPredicate q × PredicateThen q us vs × SamePredicate p q × SameToks rest vs

predicate_moved : (p : PredicateD) (ts rest us : List Tok) → IsParsedPredicate p → PredicateThen p ts rest → SameToks ts us → PredicateMoved p us rest
predicate_moved (predicate_ty t bs) ts rest us f h k =
    let a = ty_front_aside ts h.0 us t f.0 h.2 k in
    let m = sign_moved 58 h.0 h.1 a.1 h.3 a.5 in
    let b = bounds_front_aside h.1 rest m.0 (bounds_of bs) f.1 h.4 m.2 in
    let c = bounds_listed b.0 in (
      predicate_ty a.0 c.0,
      b.1,
      (a.2, subst IsParsedBounds (sym c.1) b.2),
      (a.1, m.0, a.3, m.1, subst (λ z. BoundsThen z m.0 b.1) (sym c.1) b.3),
      (a.4, subst (SameBounds (bounds_of bs)) (sym c.1) b.4),
      b.5,
    )
predicate_moved (predicate_lifetime l ls) ts rest us f h k =
    let a = lifetime_moved l ts h.0 us h.2 k in
    let m = sign_moved 58 h.0 h.1 a.1 h.3 a.4 in
    let b = lifetimes_moved ls h.1 rest m.0 h.4 m.2 in
    (predicate_lifetime a.0 b.0, b.1, tt, (a.1, m.0, a.2, m.1, b.2), (a.3, b.3), b.4)

abbrev PredicatesMoved : (List PredicateD → List Tok → Type 0) → List PredicateD → List Tok → Type 0
PredicatesMoved P ps us = (qs : List PredicateD) × AreParsedPredicates qs × P qs us × SamePredicates ps qs

predicates_behind_moved : (ps : List PredicateD) (ts us : List Tok) → AreParsedPredicates ps → PredicatesBehind ps ts → SameToks ts us → PredicatesMoved PredicatesBehind ps us
predicates_behind_moved [] ts us f (inl e) k = ([], tt, inl (none_head us (same_moved ts [] us e k)), tt)
predicates_behind_moved [] ts us f (inr s) k =
    let m = sign_moved 44 ts [] us s k in
    ([], tt, inr (subst (λ z. SignThen 44 us z) (none_head m.0 m.2) m.1), tt)
predicates_behind_moved (p ∷ ps) ts us f h k =
    let m = sign_moved 44 ts h.0 us h.2 k in
    let a = predicate_moved p h.0 h.1 m.0 f.0 h.3 m.2 in
    let b = predicates_behind_moved ps h.1 a.1 f.1 h.4 a.5 in
    (a.0 ∷ b.0, (a.2, b.1), (m.0, a.1, m.1, a.3, b.2), (a.4, b.3))

pub predicates_aside : (ps : List PredicateD) (ts us : List Tok) → AreParsedPredicates ps → PredicatesThen ps ts → SameToks ts us → PredicatesMoved PredicatesThen ps us
predicates_aside [] ts us f h k = ([], tt, none_head us (same_moved ts [] us h k), tt)
predicates_aside (p ∷ ps) ts us f h k =
    let a = predicate_moved p ts h.0 us f.0 h.1 k in
    let b = predicates_behind_moved ps h.0 a.1 f.1 h.2 a.5 in
    (a.0 ∷ b.0, (a.2, b.1), (a.1, a.3, b.2), (a.4, b.3))
