-- Where each token has the place of what holds them, the grammar gives errors there alone.
use Rattle.std.proofs.Common.{◌≡◌, ◌⊎◌, ℕ, zero, suc, ◌&&◌, List, [], ◌∷◌, Bool, true, false, Option, Some, None, cond, refl, subst, inl, inr, codes}
use Rattle.std.specs.Prelude.{Result, Ok, Err, option_map, is_some}
use Rattle.token_trees.specs.declared.token.Span.{Span}
use Rattle.token_trees.specs.declared.token.Delimiter.{Delimiter}
use Rattle.token_trees.specs.Token.{Tok, word, mark, fixed, group, Toks, no_toks, tok, toks_of, list_of, Fixed, Name, span_of}
use Rattle.rust_tokens.specs.Reading.{IsWritten, AreWritten}
use Rattle.syntax_trees.specs.Metas.{place, is_sign, is_joint_sign, is_word, sign_next}
use Rattle.syntax_trees.specs.Syntax.{LifetimeD, TyD, ExprD, ex_fixed, ex_verbatim}
use Rattle.syntax_trees.specs.Item.{PredicateD}
use Rattle.syntax_trees.specs.declared.cursor.SyntaxKind.{SyntaxKind}
use Rattle.syntax_trees.specs.declared.cursor.SyntaxKind.TheVariants.{ExpectedPath, ExpectedComma, ExpectedParen, ExpectedValue, ExpectedIdent, ExpectedType, ExpectedGt, ExpectedBound, UnexpectedToken}
use Rattle.syntax_trees.specs.declared.cursor.SyntaxError.{SyntaxError}
use Rattle.syntax_parsers.specs.Answer.{error, ◌>>=◌, with_front}
use Rattle.syntax_parsers.specs.Fronts.{is_parens, is_brackets, is_braces, sign_front, colons_front, arrow_front, keyword_front, literal_front, group_front, tree_front, lifetime_front, name_front, segment_front, path_next, bound_next, further_front, colon_front, angle_front, labelled}
use Rattle.syntax_parsers.specs.Grammar.{Readers, choose, missing, required, whole, output_body, path_body, trait_body, behind_body, qualified_body, expr_path_body, length_body, bracketed_body, reference_body, pointer_body, signature_body, function_body, some_bounds, gives_segment, gives_path, path_ty, ty_body, tys_body, bound_body, bounds_body, arguments_body, segment_body, segments_body, constant_front, generic_body, generics_body, mut_front, maybe_lifetime_front}
use Rattle.syntax_parsers.specs.Lifetimes.{one_lifetime, lifetimes_of}
use Rattle.syntax_parsers.specs.Read.{stuck, level, levels}
use Rattle.syntax_parsers.specs.Where.{lifetimes_body, some_lifetimes, lifetime_predicate, type_predicate, predicate_body, behind_predicate, predicates_body, some_predicates}
use Rattle.syntax_parsers.specs.Whole.{room, type_of, path_of, expr_path_of, predicates_of}
use Rattle.syntax_parsers.proofs.Results.{got, ok_same}
use Rattle.syntax_parsers.proofs.spelling.Stands.{some_same, if_some, sign_stands, pair_stands, keyword_stands, name_stands, segment_stands, literal_stands, lifetime_stands, tree_stands}
use Rattle.syntax_laws.proofs.TextsExact.{ok_not_err}
use Rattle.syntax_laws.proofs.KindsExact.{failed, failed_same, no_failure}

-- each token, at all levels, has that place
abbrev pub AllAt : Span → List Tok → Type 0
AllAt s ts = AreWritten s (toks_of ts)

abbrev Rest : {A : Type 0} → Span → A × List Tok → Type 0
Rest s y = AllAt s y.1

-- what is read is so, and an error stands there
abbrev Stays : {A : Type 0} → Span → (A → Type 0) → Result A SyntaxError → Type 0
Stays {A} s P v = ((x : A) → v ≡ Ok x → P x) × ((e : SyntaxError) → v ≡ Err e → e.span ≡ s)

abbrev Anything : {A : Type 0} → A → Type 0
Anything x = Unit {0}

held : (s : Span) (us : Toks) → AreWritten s us → AllAt s (list_of us)
held s no_toks h = tt
held s (tok t us) h = (h.0, held s us h.1)

span_is : (s : Span) (t : Tok) → IsWritten s t → span_of t ≡ s
span_is s (word x u) h = h
span_is s (mark c j u) h = h
span_is s (fixed l u) h = h
span_is s (group d us u) h = h.1

place_is : (s at : Span) (ts : List Tok) → at ≡ s → AllAt s ts → place at ts ≡ s
place_is s at [] i h = i
place_is s at (t ∷ ts) i h = span_is s t h.0

-- what stands in front

none_some : {A : Type 0} → (y : A) → None ≡ Some y → ⊥
none_some y e = cc

choose_some : {A B : Type 0} → (o : Option A) (f : A → Option B) (p : Option B) (y : B) → choose o f p ≡ Some y → ((x : A) × (o ≡ Some x) × (f x ≡ Some y)) ⊎ ((o ≡ None) × (p ≡ Some y))
choose_some None f p y e = inr (refl, e)
choose_some (Some x) f p y e = inl (x, refl, e)

unless : {A : Type 0} → (b : Bool) (o : Option A) (y : A) → cond b None o ≡ Some y → o ≡ Some y
unless true o y e = absurd (none_some y e)
unless false o y e = e

sign_rest : (s : Span) (c : ℕ) (ts us : List Tok) → AllAt s ts → sign_front c ts ≡ Some us → AllAt s us
sign_rest s c ts us h e = (subst (AllAt s) (sign_stands c ts us e).2 h).1

colons_rest : (s : Span) (ts us : List Tok) → AllAt s ts → colons_front ts ≡ Some us → AllAt s us
colons_rest s ts us h e = (subst (AllAt s) (pair_stands 58 58 ts us e).3 h).1.1

arrow_rest : (s : Span) (ts us : List Tok) → AllAt s ts → arrow_front ts ≡ Some us → AllAt s us
arrow_rest s ts us h e = (subst (AllAt s) (pair_stands 45 62 ts us e).3 h).1.1

keyword_rest : (s : Span) (k : List ℕ) (ts us : List Tok) → AllAt s ts → keyword_front k ts ≡ Some us → AllAt s us
keyword_rest s k ts us h e = (subst (AllAt s) (keyword_stands k ts us e).1 h).1

name_rest : (s : Span) (ts : List Tok) (y : Name × List Tok) → AllAt s ts → name_front ts ≡ Some y → AllAt s y.1
name_rest s ts y h e = (subst (AllAt s) (name_stands ts y e) h).1

segment_rest : (s : Span) (ts : List Tok) (y : Name × List Tok) → AllAt s ts → segment_front ts ≡ Some y → AllAt s y.1
segment_rest s ts y h e = (subst (AllAt s) (segment_stands ts y e).0 h).1

literal_rest : (s : Span) (ts : List Tok) (y : Fixed × Span × List Tok) → AllAt s ts → literal_front ts ≡ Some y → AllAt s y.2
literal_rest s ts y h e = (subst (AllAt s) (literal_stands ts y e) h).1

lifetime_rest : (s : Span) (ts : List Tok) (y : LifetimeD × List Tok) → AllAt s ts → lifetime_front ts ≡ Some y → AllAt s y.1
lifetime_rest s ts y h e = (subst (AllAt s) (lifetime_stands ts y e) h).1.1

tree_rest : (s : Span) (ts : List Tok) (y : Tok × List Tok) → AllAt s ts → tree_front ts ≡ Some y → AllAt s y.1
tree_rest s ts y h e = (subst (AllAt s) (tree_stands ts y e).5 h).1

abbrev GroupAt : Span → List Tok × Span × List Tok → Type 0
GroupAt s y = (y.1 ≡ s) × AllAt s y.0 × AllAt s y.2

group_rest : (s : Span) (p : Delimiter → Bool) (ts : List Tok) (y : List Tok × Span × List Tok) → AllAt s ts → group_front p ts ≡ Some y → GroupAt s y
group_rest s p [] y h e = absurd (cc)
group_rest s p (word x u ∷ ts) y h e = absurd (cc)
group_rest s p (mark c j u ∷ ts) y h e = absurd (cc)
group_rest s p (fixed l u ∷ ts) y h e = absurd (cc)
group_rest s p (group d us u ∷ ts) y h e = subst (GroupAt s) (if_some (p d) (list_of us, u, ts) y e).1 (h.0.1, held s us h.0.2, h.1)

further_rest : (s : Span) (ts us : List Tok) → AllAt s ts → further_front ts ≡ Some us → AllAt s us
further_rest s ts us h e = at (colons_front ts) refl e
  where
    at : (o : Option (List Tok)) → colons_front ts ≡ o → (elim o [ None ↦ None | Some vs ↦ cond (sign_next 58 vs) None (Some vs) ]) ≡ Some us → AllAt s us
    at None q e = absurd (none_some us e)
    at (Some vs) q e = subst (AllAt s) (some_same vs us (unless (sign_next 58 vs) (Some vs) us e)) (colons_rest s ts vs h q)

colon_rest : (s : Span) (ts us : List Tok) → AllAt s ts → colon_front ts ≡ Some us → AllAt s us
colon_rest s ts us h e = sign_rest s 58 ts us h (unless (is_some (further_front ts)) (sign_front 58 ts) us e)

angle_rest : (s : Span) (ts : List Tok) (y : Bool × List Tok) → AllAt s ts → angle_front ts ≡ Some y → AllAt s y.1
angle_rest s ts y h e = at (sign_front 60 ts) refl (colons_front ts) refl e
  where
    behind : (rest : List Tok) → colons_front ts ≡ Some rest → (o : Option (List Tok)) → sign_front 60 rest ≡ o → option_map (λ us. (true, us)) o ≡ Some y → AllAt s y.1
    behind rest q None k e = absurd (none_some y e)
    behind rest q (Some us) k e = subst (λ (z : Bool × List Tok). AllAt s z.1) (some_same (true, us) y e) (sign_rest s 60 rest us (colons_rest s ts rest h q) k)

    at : (o : Option (List Tok)) → sign_front 60 ts ≡ o → (p : Option (List Tok)) → colons_front ts ≡ p → (elim o [ Some rest ↦ Some (false, rest) | None ↦ elim p [ None ↦ None | Some rest ↦ option_map (λ us. (true, us)) (sign_front 60 rest) ] ]) ≡ Some y → AllAt s y.1
    at (Some rest) k p q e = subst (λ (z : Bool × List Tok). AllAt s z.1) (some_same (false, rest) y e) (sign_rest s 60 ts rest h k)
    at None k None q e = absurd (none_some y e)
    at None k (Some rest) q e = behind rest q (sign_front 60 rest) refl e

labelled_rest : (s : Span) (f : List Tok → Option (List Tok)) → ((ts us : List Tok) → AllAt s ts → f ts ≡ Some us → AllAt s us) → (ts : List Tok) (y : Name × List Tok) → AllAt s ts → labelled f (name_front ts) ≡ Some y → AllAt s y.1
labelled_rest s f is ts y h e = at (name_front ts) refl e
  where
    behind : (x : Name) (us : List Tok) → AllAt s us → (o : Option (List Tok)) → f us ≡ o → option_map (λ vs. (x, vs)) o ≡ Some y → AllAt s y.1
    behind x us k None q e = absurd (none_some y e)
    behind x us k (Some vs) q e = subst (λ (z : Name × List Tok). AllAt s z.1) (some_same (x, vs) y e) (is us vs k q)

    at : (o : Option (Name × List Tok)) → name_front ts ≡ o → labelled f o ≡ Some y → AllAt s y.1
    at None q e = absurd (none_some y e)
    at (Some (x, us)) q e = behind x us (name_rest s ts (x, us) h q) (f us) refl e

minus_rest : (s : Span) (ts : List Tok) (y : Fixed × Span × List Tok) → AllAt s ts → choose (sign_front 45 ts) literal_front None ≡ Some y → AllAt s y.2
minus_rest s ts y h e =
    elim (choose_some (sign_front 45 ts) literal_front None y e) [
      | inl k ↦ literal_rest s k.0 y (sign_rest s 45 ts k.0 h k.1) k.2
      | inr k ↦ absurd (none_some y k.1)
    ]

constant_rest : (s : Span) (ts : List Tok) (y : ExprD × List Tok) → AllAt s ts → constant_front ts ≡ Some y → AllAt s y.1
constant_rest s [] y h e = absurd (cc)
constant_rest s (t ∷ ts) y h e =
    elim (choose_some (literal_front (t ∷ ts)) _ _ y e) [
      | inl k ↦ subst (λ (z : ExprD × List Tok). AllAt s z.1) (some_same (ex_fixed k.0.0 k.0.1, k.0.2) y k.2) (literal_rest s (t ∷ ts) k.0 h k.1)
      | inr k1 ↦ elim (choose_some (group_front is_braces (t ∷ ts)) _ _ y k1.1) [
        | inl k ↦ subst (λ (z : ExprD × List Tok). AllAt s z.1) (some_same (ex_verbatim (t ∷ []), k.0.2) y k.2) (group_rest s is_braces (t ∷ ts) k.0 h k.1).2
        | inr k2 ↦ elim (choose_some (choose (sign_front 45 (t ∷ ts)) literal_front None) _ _ y k2.1) [
          | inl k ↦ subst (λ (z : ExprD × List Tok). AllAt s z.1) (some_same (ex_verbatim (t ∷ fixed k.0.0 k.0.1 ∷ []), k.0.2) y k.2) (minus_rest s (t ∷ ts) k.0 h k.1)
          | inr k ↦ absurd (none_some y k.1)
        ]
      ]
    ]

maybe_lifetime_rest : (s : Span) (ts : List Tok) → AllAt s ts → AllAt s (maybe_lifetime_front ts).1
maybe_lifetime_rest s ts h = at (lifetime_front ts) refl
  where
    at : (o : Option (LifetimeD × List Tok)) → lifetime_front ts ≡ o → AllAt s (choose {B = Option LifetimeD × List Tok} o (λ l. (Some l.0, l.1)) (None, ts)).1
    at None q = h
    at (Some l) q = lifetime_rest s ts l h q

mut_rest : (s : Span) (ts : List Tok) → AllAt s ts → AllAt s (mut_front ts).1
mut_rest s ts h = at (keyword_front (codes "mut") ts) refl
  where
    at : (o : Option (List Tok)) → keyword_front (codes "mut") ts ≡ o → AllAt s (choose {B = Bool × List Tok} o (λ rest. (true, rest)) (false, ts)).1
    at None q = h
    at (Some us) q = keyword_rest s (codes "mut") ts us h q

-- steps

done : {A : Type 0} {P : A → Type 0} → (s : Span) (x : A) → P x → Stays s P (got x)
done {A} {P} s x p = ((λ y e. subst P (ok_same x y e) p), λ e q. absurd (no_failure x e q))

lost : {A : Type 0} {P : A → Type 0} → (s : Span) (f : SyntaxError) → f.span ≡ s → Stays s P (failed f)
lost {A} {P} s f h = ((λ x q. absurd (ok_not_err x f q)), λ e q. subst (λ z. z.span ≡ s) (failed_same {A = A} f e q) h)

lacking : {A : Type 0} {P : A → Type 0} → (s : Span) (k : SyntaxKind) (at : Span) (ts : List Tok) → at ≡ s → AllAt s ts → Stays s P (missing k at ts)
lacking {A} {P} s k at ts i h = lost {P = P} s (error k (place at ts)) (place_is s at ts i h)

binding : {A B : Type 0} (P : A → Type 0) {Q : B → Type 0} → (s : Span) (r : Result A SyntaxError) (f : A → Result B SyntaxError) → Stays s P r → ((x : A) → P x → Stays s Q (f x)) → Stays s Q (r >>= f)
binding P s (Ok x) f h k = k x (h.0 x refl)
binding P {Q} s (Err e) f h k = lost {P = Q} s e (h.1 e refl)

choosing : {A B : Type 0} {Q : B → Type 0} → (s : Span) (o : Option A) (f : A → Result B SyntaxError) (r : Result B SyntaxError) → ((x : A) → o ≡ Some x → Stays s Q (f x)) → Stays s Q r → Stays s Q (choose o f r)
choosing s None f r h k = k
choosing s (Some x) f r h k = h x refl

deciding : {A : Type 0} {Q : A → Type 0} → (s : Span) (b : Bool) (v w : Result A SyntaxError) → Stays s Q v → Stays s Q w → Stays s Q (cond b v w)
deciding s true v w h k = h
deciding s false v w h k = k

requiring : {A : Type 0} {P : A → Type 0} → (s : Span) (o : Option A) (k : SyntaxKind) (at : Span) (ts : List Tok) → at ≡ s → AllAt s ts → ((x : A) → o ≡ Some x → P x) → Stays s P (required o k at ts)
requiring {A} {P} s None k at ts i h p = lacking {P = P} s k at ts i h
requiring {A} {P} s (Some x) k at ts i h p = done {P = P} s x (p x refl)

ending : {A : Type 0} → (s at : Span) (r : Result (A × List Tok) SyntaxError) → at ≡ s → Stays s (Rest s) r → Stays s Anything (whole at r)
ending s at (Err e) i h = lost s e (h.1 e refl)
ending s at (Ok (x, [])) i h = done s x tt
ending s at (Ok (x, t ∷ ts)) i h = lacking s UnexpectedToken at (t ∷ ts) i (h.0 (x, t ∷ ts) refl)

fronting : {A : Type 0} → (s : Span) (xs : List A) (r : Result (List A) SyntaxError) → Stays s Anything r → Stays s Anything (with_front xs r)
fronting s xs (Ok ys) h = done s _ tt
fronting s xs (Err e) h = lost s e (h.1 e refl)

-- readers

record Keeps (s : Span) (r : Readers) : Type 0 where
  ty : (at : Span) (ts : List Tok) → at ≡ s → AllAt s ts → Stays s (Rest s) (r.ty at ts)
  tys : (at : Span) (ts : List Tok) → at ≡ s → AllAt s ts → Stays s Anything (r.tys at ts)
  bounds : (at : Span) (ts : List Tok) → at ≡ s → AllAt s ts → Stays s (Rest s) (r.bounds at ts)
  segments : (at : Span) (ts : List Tok) → at ≡ s → AllAt s ts → Stays s (Rest s) (r.segments at ts)
  generics : (at : Span) (ts : List Tok) → at ≡ s → AllAt s ts → Stays s (Rest s) (r.generics at ts)
  expr_path : (at : Span) (ts : List Tok) → at ≡ s → AllAt s ts → Stays s (Rest s) (r.expr_path at ts)

output_kept : (s : Span) (r : Readers) → Keeps s r → (at : Span) (ts : List Tok) → at ≡ s → AllAt s ts → Stays s (Rest s) (output_body r at ts)
unfolding output_body
output_kept s r k at ts i h =
    choosing s (arrow_front ts) _ _ (λ rest e. binding (Rest s) s (r.ty at rest) _ (k.ty at rest i (arrow_rest s ts rest h e)) (λ t m. done s _ m)) (done s _ h)

path_kept : (s : Span) (r : Readers) → Keeps s r → (at : Span) (ts : List Tok) → at ≡ s → AllAt s ts → Stays s (Rest s) (path_body r at ts)
unfolding path_body
path_kept s r k at ts i h =
    choosing s (colons_front ts) _ _ (λ rest e. binding (Rest s) s (r.segments at rest) _ (k.segments at rest i (colons_rest s ts rest h e)) (λ x m. done s _ m))
    (binding (Rest s) s (r.segments at ts) _ (k.segments at ts i h) (λ x m. done s _ m))

abbrev LastRest : {A B : Type 0} → Span → A × B × List Tok → Type 0
LastRest s y = AllAt s y.2

trait_kept : (s : Span) (r : Readers) → Keeps s r → (at : Span) (ts : List Tok) → at ≡ s → AllAt s ts → Stays s (LastRest s) (trait_body r at ts)
unfolding trait_body
trait_kept s r k at ts i h =
    choosing s (colons_front ts) _ _ (λ rest e. binding (Rest s) s (r.segments at rest) _ (k.segments at rest i (colons_rest s ts rest h e)) (λ x m. done s _ m))
    (binding (Rest s) s (r.segments at ts) _ (k.segments at ts i h) (λ x m. done s _ m))

behind_kept : (s : Span) (r : Readers) → Keeps s r → (at : Span) (ts : List Tok) → at ≡ s → AllAt s ts → Stays s (Rest s) (behind_body r at ts)
unfolding behind_body
behind_kept s r k at ts i h =
    binding (AllAt s) s (required (sign_front 62 ts) ExpectedGt at ts) _ (requiring s (sign_front 62 ts) ExpectedGt at ts i h (λ us e. sign_rest s 62 ts us h e)) (λ rest m.
    binding (AllAt s) s (required (colons_front rest) ExpectedPath at rest) _ (requiring s (colons_front rest) ExpectedPath at rest i m (λ us e. colons_rest s rest us m e)) (λ us n. k.segments at us i n))

qualified_kept : (s : Span) (r : Readers) → Keeps s r → (at : Span) (ts : List Tok) → at ≡ s → AllAt s ts → Stays s (Rest s) (qualified_body r at ts)
unfolding qualified_body
qualified_kept s r k at ts i h =
    binding (Rest s) s (r.ty at ts) _ (k.ty at ts i h) (λ t m.
    choosing s (keyword_front (codes "as") t.1) _ _
    (λ rest e. binding (LastRest s) s (trait_body r at rest) _ (trait_kept s r k at rest i (keyword_rest s (codes "as") t.1 rest m e)) (λ p n.
    binding (Rest s) s (behind_body r at p.2) _ (behind_kept s r k at p.2 i n) (λ more o. done s _ o)))
    (binding (Rest s) s (behind_body r at t.1) _ (behind_kept s r k at t.1 i m) (λ more o. done s _ o)))

expr_path_kept : (s : Span) (r : Readers) → Keeps s r → (at : Span) (ts : List Tok) → at ≡ s → AllAt s ts → Stays s (Rest s) (expr_path_body r at ts)
unfolding expr_path_body
expr_path_kept s r k at ts i h =
    choosing s (sign_front 60 ts) _ _ (λ rest e. qualified_kept s r k at rest i (sign_rest s 60 ts rest h e))
    (binding (Rest s) s (path_body r at ts) _ (path_kept s r k at ts i h) (λ p m. done s _ m))

length_kept : (s : Span) (r : Readers) → (at : Span) (ts : List Tok) → at ≡ s → AllAt s ts → Stays s Anything (length_body r at ts)
unfolding length_body
length_kept s r at [] i h = lacking s ExpectedValue at [] i h
length_kept s r at (fixed l p ∷ []) i h = done s _ tt
length_kept s r at (fixed l p ∷ u ∷ us) i h = done s _ tt
length_kept s r at (word x p ∷ ts) i h = done s _ tt
length_kept s r at (mark c j p ∷ ts) i h = done s _ tt
length_kept s r at (group d us p ∷ ts) i h = done s _ tt

bracketed_kept : (s : Span) (r : Readers) → Keeps s r → (at : Span) (ts : List Tok) → at ≡ s → AllAt s ts → Stays s Anything (bracketed_body r at ts)
unfolding bracketed_body
bracketed_kept s r k at ts i h =
    binding (Rest s) s (r.ty at ts) _ (k.ty at ts i h) (λ t m.
    choosing s (sign_front 59 t.1) _ _ (λ rest e. binding Anything s (length_body r at rest) _ (length_kept s r at rest i (sign_rest s 59 t.1 rest m e)) (λ x n. done s _ tt))
    (ending s at (Ok _) i (done s _ m)))

reference_kept : (s : Span) (r : Readers) → Keeps s r → (at : Span) (ts : List Tok) → at ≡ s → AllAt s ts → Stays s (Rest s) (reference_body r at ts)
unfolding reference_body
reference_kept s r k at ts i h =
    let l = maybe_lifetime_front ts in
    let us = (mut_front l.1).1 in
    binding (Rest s) s (r.ty at us) _ (k.ty at us i (mut_rest s l.1 (maybe_lifetime_rest s ts h))) (λ t m. done s _ m)

pointer_kept : (s : Span) (r : Readers) → Keeps s r → (at : Span) (ts : List Tok) → at ≡ s → AllAt s ts → Stays s (Rest s) (pointer_body r at ts)
unfolding pointer_body
pointer_kept s r k at ts i h =
    choosing s (keyword_front (codes "mut") ts) _ _
    (λ rest e. binding (Rest s) s (r.ty at rest) _ (k.ty at rest i (keyword_rest s (codes "mut") ts rest h e)) (λ t m. done s _ m))
    (binding (AllAt s) s (required (keyword_front (codes "const") ts) UnexpectedToken at ts) _
    (requiring s (keyword_front (codes "const") ts) UnexpectedToken at ts i h (λ us e. keyword_rest s (codes "const") ts us h e))
    (λ rest n. binding (Rest s) s (r.ty at rest) _ (k.ty at rest i n) (λ t m. done s _ m)))

signature_kept : (s : Span) (r : Readers) → Keeps s r → (g : List Tok × Span × List Tok) (at : Span) → at ≡ s → GroupAt s g → Stays s (LastRest s) (signature_body r g at)
unfolding signature_body
signature_kept s r k g at i h =
    binding Anything s (r.tys g.1 g.0) _ (k.tys g.1 g.0 h.0 h.1) (λ us n. binding (Rest s) s (output_body r at g.2) _ (output_kept s r k at g.2 i h.2) (λ o m. done s _ m))

function_kept : (s : Span) (r : Readers) → Keeps s r → (at : Span) (ts : List Tok) → at ≡ s → AllAt s ts → Stays s (Rest s) (function_body r at ts)
unfolding function_body
function_kept s r k at ts i h =
    binding (GroupAt s) s (required (group_front is_parens ts) ExpectedParen at ts) _ (requiring s (group_front is_parens ts) ExpectedParen at ts i h (λ g e. group_rest s is_parens ts g h e)) (λ g n.
    binding (LastRest s) s (signature_body r g at) _ (signature_kept s r k g at i n) (λ f m. done s _ m))

some_bounds_kept : (s : Span) (r : Readers) → Keeps s r → (at : Span) (ts : List Tok) → at ≡ s → AllAt s ts → Stays s (Rest s) (some_bounds r at ts)
unfolding some_bounds
some_bounds_kept s r k at ts i h = deciding s (bound_next ts) _ _ (k.bounds at ts i h) (lacking s ExpectedBound at ts i h)

path_ty_kept : (s : Span) (r : Readers) → Keeps s r → (at : Span) (ts : List Tok) → at ≡ s → AllAt s ts → Stays s (Rest s) (path_ty r at ts)
unfolding path_ty
path_ty_kept s r k at ts i h =
    binding (Rest s) s (path_body r at ts) _ (path_kept s r k at ts i h) (λ p m.
    choosing s (cond (gives_path p.0) None (choose (sign_front 33 p.1) tree_front None)) _ _
    (λ g e. elim (choose_some (sign_front 33 p.1) tree_front None g (unless (gives_path p.0) (choose (sign_front 33 p.1) tree_front None) g e)) [
      | inl w ↦ done s _ (tree_rest s w.0 g (sign_rest s 33 p.1 w.0 m w.1) w.2)
      | inr w ↦ absurd (none_some g w.1)
    ])
    (done s _ m))

ty_kept : (s : Span) (r : Readers) → Keeps s r → (at : Span) (ts : List Tok) → at ≡ s → AllAt s ts → Stays s (Rest s) (ty_body r at ts)
unfolding ty_body
ty_kept s r k at ts i h =
    choosing s (sign_front 38 ts) _ _ (λ rest e. reference_kept s r k at rest i (sign_rest s 38 ts rest h e))
    (choosing s (sign_front 42 ts) _ _ (λ rest e. pointer_kept s r k at rest i (sign_rest s 42 ts rest h e))
    (choosing s (sign_front 33 ts) _ _ (λ rest e. done s _ (sign_rest s 33 ts rest h e))
    (choosing s (sign_front 60 ts) _ _ (λ rest e. binding (Rest s) s (qualified_body r at rest) _ (qualified_kept s r k at rest i (sign_rest s 60 ts rest h e)) (λ p m. done s _ m))
    (choosing s (group_front is_brackets ts) _ _ (λ g e. let n = group_rest s is_brackets ts g h e in binding Anything s (bracketed_body r g.1 g.0) _ (bracketed_kept s r k g.1 g.0 n.0 n.1) (λ t m. done s _ n.2))
    (choosing s (group_front is_parens ts) _ _ (λ g e. let n = group_rest s is_parens ts g h e in binding Anything s (r.tys g.1 g.0) _ (k.tys g.1 g.0 n.0 n.1) (λ us m. done s _ n.2))
    (choosing s (keyword_front (codes "_") ts) _ _ (λ rest e. done s _ (keyword_rest s (codes "_") ts rest h e))
    (choosing s (keyword_front (codes "fn") ts) _ _ (λ rest e. function_kept s r k at rest i (keyword_rest s (codes "fn") ts rest h e))
    (choosing s (keyword_front (codes "impl") ts) _ _ (λ rest e. binding (Rest s) s (some_bounds r at rest) _ (some_bounds_kept s r k at rest i (keyword_rest s (codes "impl") ts rest h e)) (λ bs m. done s _ m))
    (choosing s (keyword_front (codes "dyn") ts) _ _ (λ rest e. binding (Rest s) s (some_bounds r at rest) _ (some_bounds_kept s r k at rest i (keyword_rest s (codes "dyn") ts rest h e)) (λ bs m. done s _ m))
    (deciding s (path_next ts) _ _ (path_ty_kept s r k at ts i h) (lacking s ExpectedType at ts i h)))))))))))

-- behind the first type of a list
tys_behind_kept : (s : Span) (r : Readers) → Keeps s r → (at : Span) (u : Tok) (us : List Tok) (t : TyD) (ts : List Tok) → r.ty at (u ∷ us) ≡ Ok (t, ts) → at ≡ s → AllAt s ts → Stays s Anything (tys_body r at (u ∷ us))
unfolding tys_body
tys_behind_kept s r k at u us t [] q i h = rw q (done s (t ∷ [], false) tt)
tys_behind_kept s r k at u us t (v ∷ []) q i h =
    rw q (binding Anything s (required (sign_front 44 (v ∷ [])) ExpectedComma at (v ∷ [])) _ (requiring s (sign_front 44 (v ∷ [])) ExpectedComma at (v ∷ []) i h (λ x e. tt)) (λ rest m. done s (t ∷ [], true) tt))
tys_behind_kept s r k at u us t (v ∷ w ∷ ws) q i h =
    let ts = v ∷ w ∷ ws in
    rw q (binding (AllAt s) s (required (sign_front 44 ts) ExpectedComma at ts) _ (requiring s (sign_front 44 ts) ExpectedComma at ts i h (λ x e. sign_rest s 44 ts x h e))
    (λ rest m. binding Anything s (r.tys at rest) _ (k.tys at rest i m) (λ more n. done s (t ∷ more.0, more.1) tt)))

tys_read_kept : (s : Span) (r : Readers) → Keeps s r → (at : Span) (u : Tok) (us : List Tok) (v : Result (TyD × List Tok) SyntaxError) → r.ty at (u ∷ us) ≡ v → at ≡ s → AllAt s (u ∷ us) → Stays s Anything (tys_body r at (u ∷ us))
unfolding tys_body
tys_read_kept s r k at u us (Ok (t, ts)) q i h = tys_behind_kept s r k at u us t ts q i ((k.ty at (u ∷ us) i h).0 (t, ts) q)
tys_read_kept s r k at u us (Err x) q i h = rw q (lost s x ((k.ty at (u ∷ us) i h).1 x q))

tys_kept : (s : Span) (r : Readers) → Keeps s r → (at : Span) (ts : List Tok) → at ≡ s → AllAt s ts → Stays s Anything (tys_body r at ts)
unfolding tys_body
tys_kept s r k at [] i h = done s _ tt
tys_kept s r k at (u ∷ us) i h = tys_read_kept s r k at u us (r.ty at (u ∷ us)) refl i h

bound_kept : (s : Span) (r : Readers) → Keeps s r → (at : Span) (ts : List Tok) → at ≡ s → AllAt s ts → Stays s (Rest s) (bound_body r at ts)
unfolding bound_body
bound_kept s r k at ts i h =
    choosing s (lifetime_front ts) _ _ (λ l e. done s _ (lifetime_rest s ts l h e)) (binding (Rest s) s (path_body r at ts) _ (path_kept s r k at ts i h) (λ p m. done s _ m))

bounds_kept : (s : Span) (r : Readers) → Keeps s r → (at : Span) (ts : List Tok) → at ≡ s → AllAt s ts → Stays s (Rest s) (bounds_body r at ts)
unfolding bounds_body
bounds_kept s r k at ts i h =
    deciding s (bound_next ts) _ _
    (binding (Rest s) s (bound_body r at ts) _ (bound_kept s r k at ts i h) (λ b n.
    choosing s (sign_front 43 b.1) _ _ (λ rest e. binding (Rest s) s (r.bounds at rest) _ (k.bounds at rest i (sign_rest s 43 b.1 rest n e)) (λ more m. done s _ m)) (done s _ n)))
    (deciding s (sign_next 43 ts) _ _ (lacking s ExpectedBound at ts i h) (done s _ h))

arguments_kept : (s : Span) (r : Readers) → Keeps s r → (at : Span) (ts : List Tok) → at ≡ s → AllAt s ts → Stays s (Rest s) (arguments_body r at ts)
unfolding arguments_body
arguments_kept s r k at ts i h =
    choosing s (angle_front ts) _ _ (λ a e. binding (Rest s) s (r.generics at a.1) _ (k.generics at a.1 i (angle_rest s ts a h e)) (λ gs m. done s _ m))
    (choosing s (group_front is_parens ts) _ _ (λ g e. binding (LastRest s) s (signature_body r g at) _ (signature_kept s r k g at i (group_rest s is_parens ts g h e)) (λ f m. done s _ m)) (done s _ h))

segment_kept : (s : Span) (r : Readers) → Keeps s r → (at : Span) (ts : List Tok) → at ≡ s → AllAt s ts → Stays s (Rest s) (segment_body r at ts)
unfolding segment_body
segment_kept s r k at ts i h =
    binding (Rest s) s (required (segment_front ts) ExpectedIdent at ts) _ (requiring s (segment_front ts) ExpectedIdent at ts i h (λ x e. segment_rest s ts x h e)) (λ x n.
    binding (Rest s) s (arguments_body r at x.1) _ (arguments_kept s r k at x.1 i n) (λ a m. done s _ m))

segments_kept : (s : Span) (r : Readers) → Keeps s r → (at : Span) (ts : List Tok) → at ≡ s → AllAt s ts → Stays s (Rest s) (segments_body r at ts)
unfolding segments_body
segments_kept s r k at ts i h =
    binding (Rest s) s (segment_body r at ts) _ (segment_kept s r k at ts i h) (λ x n.
    choosing s (cond (gives_segment x.0) None (further_front x.1)) _ _
    (λ rest e. binding (Rest s) s (r.segments at rest) _ (k.segments at rest i (further_rest s x.1 rest n (unless (gives_segment x.0) (further_front x.1) rest e))) (λ more m. done s _ m))
    (done s _ n))

generic_kept : (s : Span) (r : Readers) → Keeps s r → (at : Span) (ts : List Tok) → at ≡ s → AllAt s ts → Stays s (Rest s) (generic_body r at ts)
unfolding generic_body
generic_kept s r k at ts i h =
    choosing s (lifetime_front ts) _ _ (λ l e. done s _ (lifetime_rest s ts l h e))
    (choosing s (constant_front ts) _ _ (λ x e. done s _ (constant_rest s ts x h e))
    (choosing s (labelled (sign_front 61) (name_front ts)) _ _
    (λ x e. let n = labelled_rest s (sign_front 61) (sign_rest s 61) ts x h e in
    choosing s (constant_front x.1) _ _ (λ y f. done s _ (constant_rest s x.1 y n f)) (binding (Rest s) s (r.ty at x.1) _ (k.ty at x.1 i n) (λ t m. done s _ m)))
    (choosing s (labelled colon_front (name_front ts)) _ _
    (λ x e. binding (Rest s) s (r.bounds at x.1) _ (k.bounds at x.1 i (labelled_rest s colon_front (colon_rest s) ts x h e)) (λ bs m. done s _ m))
    (binding (Rest s) s (r.ty at ts) _ (k.ty at ts i h) (λ t m. done s _ m)))))

generics_kept : (s : Span) (r : Readers) → Keeps s r → (at : Span) (ts : List Tok) → at ≡ s → AllAt s ts → Stays s (Rest s) (generics_body r at ts)
unfolding generics_body
generics_kept s r k at ts i h =
    choosing s (sign_front 62 ts) _ _ (λ rest e. done s _ (sign_rest s 62 ts rest h e))
    (binding (Rest s) s (generic_body r at ts) _ (generic_kept s r k at ts i h) (λ g n.
    choosing s (sign_front 62 g.1) _ _ (λ rest e. done s _ (sign_rest s 62 g.1 rest n e))
    (binding (AllAt s) s (required (sign_front 44 g.1) ExpectedGt at g.1) _ (requiring s (sign_front 44 g.1) ExpectedGt at g.1 i n (λ us e. sign_rest s 44 g.1 us n e))
    (λ rest o. binding (Rest s) s (r.generics at rest) _ (k.generics at rest i o) (λ more m. done s _ m)))))

nothing_kept : (s : Span) → Keeps s stuck
nothing_kept s = record {
  ty = λ at ts i h. lacking s UnexpectedToken at ts i h;
  tys = λ at ts i h. lacking s UnexpectedToken at ts i h;
  bounds = λ at ts i h. lacking s UnexpectedToken at ts i h;
  segments = λ at ts i h. lacking s UnexpectedToken at ts i h;
  generics = λ at ts i h. lacking s UnexpectedToken at ts i h;
  expr_path = λ at ts i h. lacking s UnexpectedToken at ts i h;
}

level_kept : (s : Span) (r : Readers) → Keeps s r → Keeps s (level r)
level_kept s r k = record {
  ty = ty_kept s r k;
  tys = tys_kept s r k;
  bounds = bounds_kept s r k;
  segments = segments_kept s r k;
  generics = generics_kept s r k;
  expr_path = expr_path_kept s r k;
}

levels_kept : (s : Span) (n : ℕ) → Keeps s (levels n)
unfolding levels
levels_kept s zero = nothing_kept s
levels_kept s (suc n) = level_kept s (levels n) (levels_kept s n)

-- predicates

abbrev Lifetimes : Type 0
Lifetimes = List LifetimeD × List Tok

lifetimes_step : (s : Span) (more : List Tok → Lifetimes) → ((ts : List Tok) → AllAt s ts → AllAt s (more ts).1) → (ts : List Tok) → AllAt s ts → AllAt s (lifetimes_body more ts).1
unfolding lifetimes_body
lifetimes_step s more m ts h = at (lifetime_front ts) refl
  where
    behind : (l : LifetimeD × List Tok) → AllAt s l.1 → (o : Option (List Tok)) → sign_front 43 l.1 ≡ o → AllAt s (choose {B = Lifetimes} o (λ rest. let ls = more rest in (l.0 ∷ ls.0, ls.1)) (l.0 ∷ [], l.1)).1
    behind l n None q = n
    behind l n (Some rest) q = m rest (sign_rest s 43 l.1 rest n q)

    at : (o : Option (LifetimeD × List Tok)) → lifetime_front ts ≡ o → AllAt s (choose {B = Lifetimes} o (λ l. choose {B = Lifetimes} (sign_front 43 l.1) (λ rest. let ls = more rest in (l.0 ∷ ls.0, ls.1)) (l.0 ∷ [], l.1)) ([], ts)).1
    at None q = h
    at (Some l) q = behind l (lifetime_rest s ts l h q) (sign_front 43 l.1) refl

lifetimes_kept : (s : Span) (n : ℕ) (ts : List Tok) → AllAt s ts → AllAt s (some_lifetimes n ts).1
unfolding some_lifetimes
lifetimes_kept s zero ts h = h
lifetimes_kept s (suc n) ts h = lifetimes_step s (some_lifetimes n) (lifetimes_kept s n) ts h

lifetime_predicate_kept : (s : Span) (n : ℕ) (l : LifetimeD) (at : Span) (ts : List Tok) → at ≡ s → AllAt s ts → Stays s (Rest s) (lifetime_predicate n l at ts)
unfolding lifetime_predicate
lifetime_predicate_kept s n l at ts i h =
    binding (AllAt s) s (required (colon_front ts) UnexpectedToken at ts) _ (requiring s (colon_front ts) UnexpectedToken at ts i h (λ us e. colon_rest s ts us h e)) (λ rest m. done s _ (lifetimes_kept s n rest m))

type_predicate_kept : (s : Span) (r : Readers) → Keeps s r → (at : Span) (ts : List Tok) → at ≡ s → AllAt s ts → Stays s (Rest s) (type_predicate r at ts)
unfolding type_predicate
type_predicate_kept s r k at ts i h =
    binding (Rest s) s (r.ty at ts) _ (k.ty at ts i h) (λ t n.
    binding (AllAt s) s (required (colon_front t.1) UnexpectedToken at t.1) _ (requiring s (colon_front t.1) UnexpectedToken at t.1 i n (λ us e. colon_rest s t.1 us n e))
    (λ rest o. binding (Rest s) s (r.bounds at rest) _ (k.bounds at rest i o) (λ bs m. done s _ m)))

predicate_kept : (s : Span) (n : ℕ) (r : Readers) → Keeps s r → (at : Span) (ts : List Tok) → at ≡ s → AllAt s ts → Stays s (Rest s) (predicate_body n r at ts)
unfolding predicate_body
predicate_kept s n r k at ts i h = choosing s (lifetime_front ts) _ _ (λ l e. lifetime_predicate_kept s n l.0 at l.1 i (lifetime_rest s ts l h e)) (type_predicate_kept s r k at ts i h)

abbrev MoreKept : Span → (List Tok → Result (List PredicateD) SyntaxError) → Type 0
MoreKept s more = (ts : List Tok) → AllAt s ts → Stays s Anything (more ts)

behind_predicate_kept : (s : Span) (more : List Tok → Result (List PredicateD) SyntaxError) → MoreKept s more → (p : PredicateD) (at : Span) (ts : List Tok) → at ≡ s → AllAt s ts → Stays s Anything (behind_predicate more p at ts)
unfolding behind_predicate
behind_predicate_kept s more m p at [] i h = done s _ tt
behind_predicate_kept s more m p at (t ∷ ts) i h =
    binding (AllAt s) s (required (sign_front 44 (t ∷ ts)) ExpectedComma at (t ∷ ts)) _ (requiring s (sign_front 44 (t ∷ ts)) ExpectedComma at (t ∷ ts) i h (λ us e. sign_rest s 44 (t ∷ ts) us h e))
    (λ rest n. fronting s (p ∷ []) (more rest) (m rest n))

predicates_kept : (s : Span) (n : ℕ) (r : Readers) → Keeps s r → (more : List Tok → Result (List PredicateD) SyntaxError) → MoreKept s more → (at : Span) (ts : List Tok) → at ≡ s → AllAt s ts → Stays s Anything (predicates_body n r more at ts)
unfolding predicates_body
predicates_kept s n r k more m at [] i h = done s _ tt
predicates_kept s n r k more m at (t ∷ ts) i h =
    binding (Rest s) s (predicate_body n r at (t ∷ ts)) _ (predicate_kept s n r k at (t ∷ ts) i h) (λ p o. behind_predicate_kept s more m p.0 at p.1 i o)

some_predicates_kept : (s : Span) (m n : ℕ) (r : Readers) → Keeps s r → (at : Span) (ts : List Tok) → at ≡ s → AllAt s ts → Stays s Anything (some_predicates m n r at ts)
unfolding some_predicates
some_predicates_kept s zero n r k at ts i h = lacking s UnexpectedToken at ts i h
some_predicates_kept s (suc m) n r k at ts i h = predicates_kept s n r k (some_predicates m n r at) (λ us o. some_predicates_kept s m n r k at us i o) at ts i h

-- lifetimes

one_lifetime_kept : (s : Span) (t u : Tok) → IsWritten s t → Stays s Anything (one_lifetime t u)
one_lifetime_kept s t u h = deciding s (is_joint_sign 39 t && is_word u) _ _ (done s _ tt) (lost s _ (span_is s t h))

all_lifetimes_kept : (s : Span) (ts : List Tok) → AllAt s ts → Stays s Anything (lifetimes_of ts)
all_lifetimes_kept s [] h = done s _ tt
all_lifetimes_kept s (t ∷ []) h = lost s _ (span_is s t h.0)
all_lifetimes_kept s (t ∷ u ∷ []) h = binding Anything s (one_lifetime t u) _ (one_lifetime_kept s t u h.0) (λ l m. done s _ tt)
all_lifetimes_kept s (t ∷ u ∷ v ∷ ts) h =
    binding Anything s (one_lifetime t u) _ (one_lifetime_kept s t u h.0) (λ l m.
    deciding s (is_sign 43 v) _ _ (fronting s (l ∷ []) (lifetimes_of ts) (all_lifetimes_kept s ts h.1.1.1)) (lost s _ (span_is s v h.1.1.0)))

-- whole readers

abbrev pub ErrsThere : {A : Type 0} → (Span → List Tok → Result A SyntaxError) → Type 0
ErrsThere read = (s : Span) (ts : List Tok) → AllAt s ts → (e : SyntaxError) → read s ts ≡ Err e → e.span ≡ s

pub type_there : ErrsThere type_of
unfolding type_of
type_there s ts h = let n = room ts in (ending s s ((levels n).ty s ts) refl ((levels_kept s n).ty s ts refl h)).1

pub path_there : ErrsThere path_of
unfolding path_of
path_there s ts h = let n = room ts in (ending s s (path_body (levels n) s ts) refl (path_kept s (levels n) (levels_kept s n) s ts refl h)).1

pub expr_path_there : ErrsThere expr_path_of
unfolding expr_path_of
expr_path_there s ts h = let n = room ts in (ending s s ((levels n).expr_path s ts) refl ((levels_kept s n).expr_path s ts refl h)).1

pub predicates_there : ErrsThere predicates_of
unfolding predicates_of
predicates_there s ts h = let n = room ts in (some_predicates_kept s n n (levels n) (levels_kept s n) s ts refl h).1

pub lifetimes_there : ErrsThere (λ _. lifetimes_of)
lifetimes_there s ts h = (all_lifetimes_kept s ts h).1
