-- Exactly the predicates that tokens spell are read.
use Rattle.std.proofs.Common.{◌≡◌, ◌⊎◌, ℕ, zero, suc, ◌+◌, ◌-◌, ◌*◌, ◌<◌, ◌≤◌, List, [], ◌∷◌, Bool, true, false, Some, None, cond, refl, ap, sym, ◌∙◌, subst, inl, inr, arith}
use Rattle.std.specs.Prelude.{◌↔◌, Option, Result, Ok, is_some}
use Rattle.token_trees.specs.declared.token.Span.{Span}
use Rattle.token_trees.specs.declared.token.Spacing.{Spacing}
use Rattle.token_trees.specs.declared.token.Spacing.TheVariants.{Joint}
use Rattle.token_trees.specs.Token.{Tok, word, mark, site}
use Rattle.syntax_trees.specs.Syntax.{LifetimeD, TyD, BoundD, end_bounds, bounds_of}
use Rattle.syntax_trees.specs.Item.{PredicateD, predicate_ty, predicate_lifetime}
use Rattle.syntax_trees.specs.declared.cursor.SyntaxKind.TheVariants.{UnexpectedToken}
use Rattle.syntax_trees.specs.declared.cursor.SyntaxError.{SyntaxError}
use Rattle.syntax_parsers.specs.Answer.{◌>>=◌, with_front}
use Rattle.syntax_parsers.specs.Fronts.{weight, sign_front, lifetime_front, colon_front, further_front}
use Rattle.syntax_parsers.specs.Grammar.{Readers, missing, ty_body}
use Rattle.syntax_parsers.specs.Read.{levels}
use Rattle.syntax_parsers.specs.Where.{some_lifetimes, lifetime_predicate, type_predicate, predicate_body, behind_predicate, predicates_body, some_predicates}
use Rattle.syntax_parsers.specs.Whole.{predicates_of}
use Rattle.syntax_parsers.specs.Spelling.{SignThen, LifetimeThen}
use Rattle.syntax_parsers.proofs.Results.{ok_same, bind_ok, front_ok}
use Rattle.syntax_parsers.proofs.WhereLoops.{lifetimes_none, lifetimes_over, lifetimes_end, lifetimes_on, predicates_none}
use Rattle.syntax_parsers.proofs.spelling.Stands.{required_ok, sign_stands, lifetime_stands}
use Rattle.syntax_parsers.proofs.spelling.Halts.{Halt, Shut, halt_end, shut_end, halt_comma, shut_comma, before_colon}
use Rattle.syntax_parsers.proofs.spelling.Begins.{colon_bounds}
use Rattle.syntax_parsers.proofs.spelling.Room.{ty_weight, bounds_weight}
use Rattle.syntax_parsers.proofs.spelling.Exact.{ty_front_exact, bounds_front_exact, once}
use Rattle.syntax_laws.specs.Predicates.{LifetimesThen, LifetimesBehind, PredicateThen, PredicatesThen, PredicatesBehind, IsParsedPredicate, AreParsedPredicates, SpellsPredicates}

-- what stands behind a predicate: the end, or a comma

abbrev pub AtEnd : List Tok → Type 0
AtEnd rest = (rest ≡ []) ⊎ ((end : List Tok) × SignThen 44 rest end)

at_end : (P : List Tok → Type 0) (rest : List Tok) → P [] → ((j : Spacing) (s : Span) (end : List Tok) → P (mark 44 j s ∷ end)) → AtEnd rest → P rest
at_end P rest n c (inl e) = subst P (sym e) n
at_end P rest n c (inr h) = subst P (sym h.1.2) (c h.1.0 h.1.1 h.0)

end_halt : (rest : List Tok) → AtEnd rest → Halt rest
end_halt rest = at_end Halt rest halt_end halt_comma

end_shut : (rest : List Tok) → AtEnd rest → Shut rest
end_shut rest = at_end Shut rest shut_end shut_comma

end_colon : (rest : List Tok) → AtEnd rest → sign_front 58 rest ≡ None
end_colon rest = at_end (λ z. sign_front 58 z ≡ None) rest refl (λ j s end. refl)

end_plus : (rest : List Tok) → AtEnd rest → sign_front 43 rest ≡ None
end_plus rest = at_end (λ z. sign_front 43 z ≡ None) rest refl (λ j s end. refl)

end_lifetime : (rest : List Tok) → AtEnd rest → lifetime_front rest ≡ None
end_lifetime rest = at_end (λ z. lifetime_front z ≡ None) rest refl (λ j s end. refl)

-- lifetimes

abbrev Lifetimes : List Tok → List LifetimeD × List Tok → Type 0
Lifetimes ts y = LifetimesThen y.0 ts y.1

lifetimes_behind : (ls : List LifetimeD) (a b rest : List Tok) → SignThen 43 a b → LifetimesThen ls b rest → LifetimesBehind ls a rest
lifetimes_behind [] a b rest s h = inr (s.0, s.1, s.2 ∙ ap (λ z. mark 43 s.0 s.1 ∷ z) h)
lifetimes_behind (l ∷ ls) a b rest s h = (b, h.0, s, h.1, h.2)

lifetime_next : (l : LifetimeD) (ts a : List Tok) → LifetimeThen l ts a → lifetime_front ts ≡ Some (l, a)
lifetime_next l ts a h = ap lifetime_front h

plus_next : (ts a : List Tok) → SignThen 43 ts a → sign_front 43 ts ≡ Some a
plus_next ts a h = ap (sign_front 43) h.2

plus_printed : (n : ℕ) (ts : List Tok) (l : LifetimeD × List Tok) (o : Option (List Tok)) → ((us : List Tok) → Lifetimes us (some_lifetimes n us)) → lifetime_front ts ≡ Some l → sign_front 43 l.1 ≡ o → Lifetimes ts (some_lifetimes (suc n) ts)
plus_printed n ts l None more e h =
    let p : 0 < suc n = omega arith in
    subst (Lifetimes ts) (sym (lifetimes_end (suc n) ts l.1 l.0 p (sym e) (sym h))) (l.1, lifetime_stands ts l e, inl refl)
plus_printed n ts l (Some b) more e h =
    let p : 0 < suc n = omega arith in
    let k : n ≡ suc n - 1 = omega arith in
    let y = some_lifetimes (suc n - 1) b in
    let m : Lifetimes b y = subst (λ i. Lifetimes b (some_lifetimes i b)) k (more b) in
    subst (Lifetimes ts) (sym (lifetimes_on (suc n) ts l.1 b l.0 p (sym e) (sym h))) (l.1, lifetime_stands ts l e, lifetimes_behind y.0 l.1 b y.1 (sign_stands 43 l.1 b h) m)

front_printed : (n : ℕ) (ts : List Tok) (o : Option (LifetimeD × List Tok)) → ((us : List Tok) → Lifetimes us (some_lifetimes n us)) → lifetime_front ts ≡ o → Lifetimes ts (some_lifetimes (suc n) ts)
front_printed n ts None more e =
    let p : 0 < suc n = omega arith in
    subst (Lifetimes ts) (sym (lifetimes_over (suc n) ts p (sym e))) refl
front_printed n ts (Some l) more e = plus_printed n ts l (sign_front 43 l.1) more e refl

lifetimes_printed : (n : ℕ) (ts : List Tok) → Lifetimes ts (some_lifetimes n ts)
lifetimes_printed zero ts = subst (Lifetimes ts) (sym (lifetimes_none 0 ts refl)) refl
lifetimes_printed (suc n) ts = front_printed n ts (lifetime_front ts) (lifetimes_printed n) refl

none_read : (n : ℕ) (rest : List Tok) → AtEnd rest → some_lifetimes n rest ≡ ([], rest)
none_read zero rest y = lifetimes_none 0 rest refl
none_read (suc n) rest y = let p : 0 < suc n = omega arith in lifetimes_over (suc n) rest p (sym (end_lifetime rest y))

one_read : (n : ℕ) (l : LifetimeD) (ts a rest : List Tok) → 0 < n → AtEnd rest → LifetimeThen l ts a → (a ≡ rest) ⊎ SignThen 43 a rest → some_lifetimes n ts ≡ (l ∷ [], rest)
one_read n l ts a rest p y h (inl e) = lifetimes_end n ts a l p (sym (lifetime_next l ts a h)) (sym (ap (sign_front 43) e ∙ end_plus rest y)) ∙ ap (λ (z : List Tok). (l ∷ [], z)) e
one_read n l ts a rest p y h (inr s) =
    lifetimes_on n ts a rest l p (sym (lifetime_next l ts a h)) (sym (plus_next a rest s)) ∙ ap (λ (z : List LifetimeD × List Tok). (l ∷ z.0, z.1)) (none_read (n - 1) rest y)

lifetimes_read : (ls : List LifetimeD) (n : ℕ) (ts rest : List Tok) → weight ts < n → AtEnd rest → LifetimesThen ls ts rest → some_lifetimes n ts ≡ (ls, rest)
lifetimes_read [] n ts rest m y h = none_read n ts (subst AtEnd (sym h) y) ∙ ap (λ (z : List Tok). ([], z)) h
lifetimes_read (l ∷ []) n ts rest m y h = let p : 0 < n = omega arith in one_read n l ts h.0 rest p y h.1 h.2
lifetimes_read (l ∷ k ∷ ls) n ts rest m y h =
    let p : 0 < n = omega arith in
    let v : weight ts ≡ 1 + (1 + weight h.0) = ap weight h.1 in
    let w : weight h.0 ≡ 1 + weight h.2.0 = ap weight h.2.2.2 in
    let less : weight h.2.0 < n - 1 = omega arith in
    lifetimes_on n ts h.0 h.2.0 l p (sym (lifetime_next l ts h.0 h.1)) (sym (plus_next h.0 h.2.0 h.2.2))
    ∙ ap (λ (z : List LifetimeD × List Tok). (l ∷ z.0, z.1)) (lifetimes_read (k ∷ ls) (n - 1) h.2.0 rest less y (h.2.1, h.2.3, h.2.4))

-- what a list of lifetimes begins with is no `:`
lifetimes_colon : (ls : List LifetimeD) (ts rest : List Tok) → AtEnd rest → LifetimesThen ls ts rest → sign_front 58 ts ≡ None
lifetimes_colon [] ts rest y h = ap (sign_front 58) h ∙ end_colon rest y
lifetimes_colon (l ∷ ls) ts rest y h = ap (sign_front 58) h.1

mutual
  lifetimes_weight : (ls : List LifetimeD) (ts rest : List Tok) → LifetimesThen ls ts rest → weight rest ≤ weight ts
  lifetimes_weight [] ts rest h = let w : weight ts ≡ weight rest = ap weight h in omega arith
  lifetimes_weight (l ∷ ls) ts rest h =
      let v : weight ts ≡ 1 + (1 + weight h.0) = ap weight h.1 in
      let w = behind_weight ls h.0 rest h.2 in
      omega (arith, v, w)

  behind_weight : (ls : List LifetimeD) (ts rest : List Tok) → LifetimesBehind ls ts rest → weight rest ≤ weight ts
  behind_weight [] ts rest (inl e) = let w : weight ts ≡ weight rest = ap weight e in omega arith
  behind_weight [] ts rest (inr s) = let w : weight ts ≡ 1 + weight rest = ap weight s.2 in omega arith
  behind_weight (l ∷ ls) ts rest h =
      let u : weight ts ≡ 1 + weight h.0 = ap weight h.2.2 in
      let v : weight h.0 ≡ 1 + (1 + weight h.1) = ap weight h.3 in
      let w = behind_weight ls h.1 rest h.4 in
      omega (arith, u, v, w)

-- no type begins with a lifetime

lifetime_no_ty : (n : ℕ) (at : Span) (l : LifetimeD) (rest : List Tok) (y : TyD × List Tok) → (levels n).ty at (mark 39 Joint l.span ∷ word l.name.text l.name.span ∷ rest) ≡ Ok y → ⊥
unfolding levels ty_body
lifetime_no_ty zero at l rest y e = cc
lifetime_no_ty (suc n) at l rest y e = cc

no_lifetime : (n : ℕ) (at : Span) (ts : List Tok) (y : TyD × List Tok) (o : Option (LifetimeD × List Tok)) → (levels n).ty at ts ≡ Ok y → lifetime_front ts ≡ o → lifetime_front ts ≡ None
no_lifetime n at ts y None e h = h
no_lifetime n at ts y (Some l) e h = absurd (lifetime_no_ty n at l.0 l.1 y (ap (λ z. (levels n).ty at z) (sym (lifetime_stands ts l h)) ∙ e))

-- the steps of a predicate's reading

unless_some : (b : Bool) (o : Option (List Tok)) (y : List Tok) → cond b None o ≡ Some y → o ≡ Some y
unless_some true o y e = absurd (cc)
unless_some false o y e = e

colon_stands : (ts rest : List Tok) → colon_front ts ≡ Some rest → SignThen 58 ts rest
colon_stands ts rest e = sign_stands 58 ts rest (unless_some (is_some (further_front ts)) (sign_front 58 ts) rest e)

lifetime_case : (n : ℕ) (r : Readers) (at : Span) (ts : List Tok) (l : LifetimeD × List Tok) → lifetime_front ts ≡ Some l → predicate_body n r at ts ≡ lifetime_predicate n l.0 at l.1
unfolding predicate_body
lifetime_case n r at ts l e = rw e refl

type_case : (n : ℕ) (r : Readers) (at : Span) (ts : List Tok) → lifetime_front ts ≡ None → predicate_body n r at ts ≡ type_predicate r at ts
unfolding predicate_body
type_case n r at ts e = rw e refl

lifetime_got : (n : ℕ) (l : LifetimeD) (at : Span) (ts rest : List Tok) → colon_front ts ≡ Some rest → lifetime_predicate n l at ts ≡ Ok (predicate_lifetime l (some_lifetimes n rest).0, (some_lifetimes n rest).1)
unfolding lifetime_predicate
lifetime_got n l at ts rest e = rw e refl

lifetime_ok : (n : ℕ) (l : LifetimeD) (at : Span) (ts : List Tok) (y : PredicateD × List Tok) → lifetime_predicate n l at ts ≡ Ok y
    → (rest : List Tok) × (colon_front ts ≡ Some rest) × ((predicate_lifetime l (some_lifetimes n rest).0, (some_lifetimes n rest).1) ≡ y)
unfolding lifetime_predicate
lifetime_ok n l at ts y e =
    let b = bind_ok _ _ y e in
    (b.0, required_ok _ _ _ _ b.0 b.1, ok_same (predicate_lifetime l (some_lifetimes n b.0).0, (some_lifetimes n b.0).1) y b.2)

type_got : (r : Readers) (at : Span) (ts a b rest : List Tok) (t : TyD) (bs : List BoundD) → r.ty at ts ≡ Ok (t, a) → colon_front a ≡ Some b → r.bounds at b ≡ Ok (bs, rest) → type_predicate r at ts ≡ Ok (predicate_ty t bs, rest)
unfolding type_predicate
type_got r at ts a b rest t bs e h k = rw (e, h, k) refl

type_ok : (r : Readers) (at : Span) (ts : List Tok) (y : PredicateD × List Tok) → type_predicate r at ts ≡ Ok y
    → (t : TyD × List Tok) × (rest : List Tok) × (bs : List BoundD × List Tok) × (r.ty at ts ≡ Ok t) × (colon_front t.1 ≡ Some rest) × (r.bounds at rest ≡ Ok bs) × ((predicate_ty t.0 bs.0, bs.1) ≡ y)
unfolding type_predicate
type_ok r at ts y e =
    let a = bind_ok (r.ty at ts) _ y e in
    let b = bind_ok _ _ y a.2 in
    let c = bind_ok (r.bounds at b.0) _ y b.2 in
    (a.0, b.0, c.0, a.1, required_ok _ _ _ _ b.0 b.1, c.1, ok_same (predicate_ty a.0.0 c.0.0, c.0.1) y c.2)

-- one predicate

abbrev OnePredicate : List Tok → PredicateD × List Tok → Type 0
OnePredicate ts y = IsParsedPredicate y.0 × PredicateThen y.0 ts y.1

lifetime_printed : (n : ℕ) (at : Span) (ts : List Tok) (l : LifetimeD × List Tok) (y : PredicateD × List Tok) → lifetime_front ts ≡ Some l → lifetime_predicate n l.0 at l.1 ≡ Ok y → OnePredicate ts y
lifetime_printed n at ts l y e h =
    let k = lifetime_ok n l.0 at l.1 y h in
    subst (OnePredicate ts) k.2 (tt, (l.1, k.0, lifetime_stands ts l e, colon_stands l.1 k.0 k.1, lifetimes_printed n k.0))

type_printed : (n : ℕ) (at : Span) (ts : List Tok) (y : PredicateD × List Tok) → 3 * weight ts < n → AtEnd y.1 → type_predicate (levels n) at ts ≡ Ok y → OnePredicate ts y
type_printed n at ts y m z h =
    let k = type_ok (levels n) at ts y h in
    let halts = before_colon k.0.1 k.1 k.4 in
    let t = (ty_front_exact n at ts k.0.1 k.0.0 m halts.0 halts.1).0 k.3 in
    let v = ty_weight k.0.0 ts k.0.1 t.0.0 t.1 in
    let c = colon_stands k.0.1 k.1 k.4 in
    let w : weight k.0.1 ≡ 1 + weight k.1 = ap weight c.2 in
    let less : 3 * weight k.1 < n = omega (arith, m, v, w) in
    let end : AtEnd k.2.1 = subst AtEnd (sym (ap (λ (q : PredicateD × List Tok). q.1) k.6)) z in
    let b = (bounds_front_exact n at k.1 k.2.1 k.2.0 less (end_halt k.2.1 end) (end_shut k.2.1 end)).0 k.5 in
    subst (OnePredicate ts) k.6 ((t.0, b.0), (k.0.1, k.1, t.1, c, b.1))

predicate_printed : (n k : ℕ) (at : Span) (ts : List Tok) (y : PredicateD × List Tok) (o : Option (LifetimeD × List Tok)) → 3 * weight ts < k → AtEnd y.1 → lifetime_front ts ≡ o → predicate_body n (levels k) at ts ≡ Ok y → OnePredicate ts y
predicate_printed n k at ts y None m z e h = type_printed k at ts y m z (sym (type_case n (levels k) at ts e) ∙ h)
predicate_printed n k at ts y (Some l) m z e h = lifetime_printed n at ts l y e (sym (lifetime_case n (levels k) at ts l e) ∙ h)

predicate_read : (p : PredicateD) (n k : ℕ) (at : Span) (ts rest : List Tok) → weight ts < n → 3 * weight ts < k → AtEnd rest → IsParsedPredicate p → PredicateThen p ts rest → predicate_body n (levels k) at ts ≡ Ok (p, rest)
predicate_read (predicate_ty t bs) n k at ts rest m w z f h =
    let c = subst (λ q. colon_front q ≡ Some h.1) (sym h.3.2) (colon_bounds (bounds_of bs) h.3.0 h.3.1 h.1 rest f.1.0 h.4 (end_colon rest z)) in
    let halts = before_colon h.0 h.1 c in
    let t_read = (ty_front_exact k at ts h.0 t w halts.0 halts.1).1 (f.0, h.2) in
    let v = ty_weight t ts h.0 f.0.0 h.2 in
    let u : weight h.0 ≡ 1 + weight h.1 = ap weight h.3.2 in
    let less : 3 * weight h.1 < k = omega (arith, w, v, u) in
    let b_read = (bounds_front_exact k at h.1 rest bs less (end_halt rest z) (end_shut rest z)).1 (f.1, h.4) in
    type_case n (levels k) at ts (no_lifetime k at ts (t, h.0) (lifetime_front ts) t_read refl) ∙ type_got (levels k) at ts h.0 h.1 rest t bs t_read c b_read
predicate_read (predicate_lifetime l ls) n k at ts rest m w z f h =
    let c = subst (λ q. colon_front q ≡ Some h.1) (sym h.3.2) (colon_bounds end_bounds h.3.0 h.3.1 h.1 h.1 tt refl (lifetimes_colon ls h.1 rest z h.4)) in
    let v : weight ts ≡ 1 + (1 + weight h.0) = ap weight h.2 in
    let u : weight h.0 ≡ 1 + weight h.1 = ap weight h.3.2 in
    let less : weight h.1 < n = omega (arith, m, v, u) in
    lifetime_case n (levels k) at ts (l, h.0) (lifetime_next l ts h.0 h.2)
    ∙ lifetime_got n l at h.0 h.1 c
    ∙ ap (λ (q : List LifetimeD × List Tok). Ok (predicate_lifetime l q.0, q.1)) (lifetimes_read ls n h.1 rest less z h.4)

predicate_weight : (p : PredicateD) (ts rest : List Tok) → IsParsedPredicate p → PredicateThen p ts rest → weight rest < weight ts
predicate_weight (predicate_ty t bs) ts rest f h =
    let v = ty_weight t ts h.0 f.0.0 h.2 in
    let u : weight h.0 ≡ 1 + weight h.1 = ap weight h.3.2 in
    let w = bounds_weight (bounds_of bs) h.1 rest f.1.0 h.4 in
    omega (arith, v, u, w)
predicate_weight (predicate_lifetime l ls) ts rest f h =
    let v : weight ts ≡ 1 + (1 + weight h.0) = ap weight h.2 in
    let u : weight h.0 ≡ 1 + weight h.1 = ap weight h.3.2 in
    let w = lifetimes_weight ls h.1 rest h.4 in
    omega (arith, v, u, w)

-- all predicates

predicates_behind : (ps : List PredicateD) (a b : List Tok) → SignThen 44 a b → PredicatesThen ps b → PredicatesBehind ps a
predicates_behind [] a b s h = inr (s.0, s.1, s.2 ∙ ap (λ z. mark 44 s.0 s.1 ∷ z) h)
predicates_behind (p ∷ ps) a b s h = (b, h.0, s, h.1, h.2)

behind_split : (ps : List PredicateD) (a : List Tok) → PredicatesBehind ps a → ((a ≡ []) × (ps ≡ [])) ⊎ ((b : List Tok) × SignThen 44 a b × PredicatesThen ps b)
behind_split [] a (inl e) = inl (e, refl)
behind_split [] a (inr s) = inr ([], s, refl)
behind_split (p ∷ ps) a h = inr (h.0, h.2, (h.1, h.3, h.4))

nothing_read : (m n : ℕ) (r : Readers) (at : Span) → some_predicates (suc m) n r at [] ≡ Ok []
unfolding some_predicates predicates_body
nothing_read m n r at = refl

step : (m n : ℕ) (r : Readers) (at : Span) (t : Tok) (ts : List Tok) → some_predicates (suc m) n r at (t ∷ ts) ≡ (predicate_body n r at (t ∷ ts) >>= λ p. behind_predicate (some_predicates m n r at) p.0 at p.1)
unfolding some_predicates predicates_body
step m n r at t ts = refl

abbrev More : Type 0
More = List Tok → Result (List PredicateD) SyntaxError

last_read : (more : More) (p : PredicateD) (at : Span) → behind_predicate more p at [] ≡ Ok (p ∷ [])
unfolding behind_predicate
last_read more p at = refl

comma_read : (more : More) (p : PredicateD) (at : Span) (j : Spacing) (s : Span) (b : List Tok) → behind_predicate more p at (mark 44 j s ∷ b) ≡ with_front (p ∷ []) (more b)
unfolding behind_predicate
comma_read more p at j s b = refl

abbrev BehindOk : More → PredicateD → List Tok → List PredicateD → Type 0
BehindOk more p a ps = ((a ≡ []) × (p ∷ [] ≡ ps)) ⊎ ((b : List Tok) × (qs : List PredicateD) × SignThen 44 a b × (more b ≡ Ok qs) × (p ∷ qs ≡ ps))

behind_ok : (more : More) (p : PredicateD) (at : Span) (a : List Tok) (ps : List PredicateD) → behind_predicate more p at a ≡ Ok ps → BehindOk more p a ps
unfolding behind_predicate
behind_ok more p at [] ps e = inl (refl, ok_same (p ∷ []) ps e)
behind_ok more p at (t ∷ ts) ps e =
    let b = bind_ok _ _ ps e in
    let q = front_ok (p ∷ []) (more b.0) ps b.2 in
    inr (b.0, q.0, sign_stands 44 (t ∷ ts) b.0 (required_ok _ _ _ _ b.0 b.1), q.1, q.2)

pub predicates_printed : (m n k : ℕ) (at : Span) (ts : List Tok) (ps : List PredicateD) → 3 * weight ts < k → some_predicates m n (levels k) at ts ≡ Ok ps → SpellsPredicates ts ps
predicates_printed zero n k at ts ps w e = absurd (none_ok at ts ps (sym (predicates_none 0 n (levels k) at ts refl) ∙ e))
  where
    none_ok : (at : Span) (ts : List Tok) (ps : List PredicateD) → missing UnexpectedToken at ts ≡ Ok ps → ⊥
    none_ok at ts ps e = cc
predicates_printed (suc m) n k at [] ps w e = subst (SpellsPredicates []) (ok_same [] ps (sym (nothing_read m n (levels k) at) ∙ e)) (tt, refl)
predicates_printed (suc m) n k at (t ∷ ts) ps w e =
    let a = bind_ok (predicate_body n (levels k) at (t ∷ ts)) _ ps (sym (step m n (levels k) at t ts) ∙ e) in
    elim (behind_ok (some_predicates m n (levels k) at) a.0.0 at a.0.1 ps a.2) [
      | inl h ↦
          let o = predicate_printed n k at (t ∷ ts) a.0 (lifetime_front (t ∷ ts)) w (inl h.0) refl a.1 in
          subst (SpellsPredicates (t ∷ ts)) h.1 ((o.0, tt), (a.0.1, o.1, inl h.0))
      | inr h ↦
          let o = predicate_printed n k at (t ∷ ts) a.0 (lifetime_front (t ∷ ts)) w (inr (h.0, h.2)) refl a.1 in
          let v = predicate_weight a.0.0 (t ∷ ts) a.0.1 o.0 o.1 in
          let u : weight a.0.1 ≡ 1 + weight h.0 = ap weight h.2.2 in
          let less : 3 * weight h.0 < k = omega (arith, w, v, u) in
          let more = predicates_printed m n k at h.0 h.1 less h.3 in
          subst (SpellsPredicates (t ∷ ts)) h.4 ((o.0, more.0), (a.0.1, o.1, predicates_behind h.1 a.0.1 h.0 h.2 more.1))
    ]

pub predicates_read : (ps : List PredicateD) (m n k : ℕ) (at : Span) (ts : List Tok) → weight ts < m → weight ts < n → 3 * weight ts < k → AreParsedPredicates ps → PredicatesThen ps ts → some_predicates m n (levels k) at ts ≡ Ok ps
predicates_read ps zero n k at ts w x y f h = absurd (omega (arith, w))
predicates_read [] (suc m) n k at ts w x y f h = ap (λ z. some_predicates (suc m) n (levels k) at z) h ∙ nothing_read m n (levels k) at
predicates_read (p ∷ ps) (suc m) n k at [] w x y f h = let v = predicate_weight p [] h.0 f.0 h.1 in absurd (omega (arith, v))
predicates_read (p ∷ ps) (suc m) n k at (t ∷ ts) w x y f h =
    step m n (levels k) at t ts ∙ elim (behind_split ps h.0 h.2) [
      | inl q ↦
          ap (λ (z : Result (PredicateD × List Tok) SyntaxError). z >>= λ p. behind_predicate (some_predicates m n (levels k) at) p.0 at p.1) (predicate_read p n k at (t ∷ ts) h.0 x y (inl q.0) f.0 h.1)
          ∙ ap (λ z. behind_predicate (some_predicates m n (levels k) at) p at z) q.0
          ∙ last_read (some_predicates m n (levels k) at) p at
          ∙ ap (λ (z : List PredicateD). Ok (p ∷ z)) (sym q.1)
      | inr q ↦
          let v = predicate_weight p (t ∷ ts) h.0 f.0 h.1 in
          let u : weight h.0 ≡ 1 + weight q.0 = ap weight q.1.2 in
          let w' : weight q.0 < m = omega (arith, w, v, u) in
          let x' : weight q.0 < n = omega (arith, x, v, u) in
          let y' : 3 * weight q.0 < k = omega (arith, y, v, u) in
          ap (λ (z : Result (PredicateD × List Tok) SyntaxError). z >>= λ p. behind_predicate (some_predicates m n (levels k) at) p.0 at p.1) (predicate_read p n k at (t ∷ ts) h.0 x y (inr (q.0, q.1)) f.0 h.1)
          ∙ ap (λ z. behind_predicate (some_predicates m n (levels k) at) p at z) q.1.2
          ∙ comma_read (some_predicates m n (levels k) at) p at q.1.0 q.1.1 q.0
          ∙ ap (with_front (p ∷ [])) (predicates_read ps m n k at q.0 w' x' y' f.1 q.2)
    ]

pub predicates_exact : (at : Span) (ts : List Tok) (ps : List PredicateD) → (predicates_of at ts ≡ Ok ps) ↔ SpellsPredicates ts ps
unfolding predicates_of
predicates_exact at ts ps = (
  λ e. let k : 3 * weight ts < 3 * weight ts + 3 = omega arith in predicates_printed (3 * weight ts + 3) (3 * weight ts + 3) (3 * weight ts + 3) at ts ps k e,
  λ h.
      let m : weight ts < 3 * weight ts + 3 = omega arith in
      let k : 3 * weight ts < 3 * weight ts + 3 = omega arith in
      predicates_read ps (3 * weight ts + 3) (3 * weight ts + 3) (3 * weight ts + 3) at ts m m k h.0 h.1,
)

pub predicates_once : (ts : List Tok) (ps qs : List PredicateD) → SpellsPredicates ts ps → SpellsPredicates ts qs → ps ≡ qs
predicates_once ts ps qs h k = once (predicates_of site ts) ps qs ((predicates_exact site ts ps).1 h) ((predicates_exact site ts qs).1 k)
