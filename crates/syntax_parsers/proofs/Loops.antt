-- Lists that loops read: one element more, the last one, and what stops them. `xs` was read before.
use Rattle.std.proofs.Common.{◌≡◌, ℕ, suc, ◌-◌, ◌<◌, Bool, true, false, List, [], ◌∷◌, ◌++◌, Option, Some, None, length, cond, refl, ap, sym, ◌∙◌, append-nil, arith}
use Rattle.std.proofs.lemmas.Bool.{eqb-true}
use Rattle.std.specs.Prelude.{Result, Ok, Err, nat_eq, option_map, is_some}
use Rattle.token_trees.specs.declared.token.Span.{Span}
use Rattle.token_trees.specs.declared.token.TokenTree.{TokenTree}
use Rattle.token_trees.specs.Token.{Tok}
use Rattle.token_trees.specs.View.{tree, trees}
use Rattle.syntax_trees.specs.Syntax.{TyD, SegmentD, BoundD, GenericD}
use Rattle.syntax_trees.specs.Metas.{is_sign, sign_next}
use Rattle.syntax_trees.specs.declared.cursor.SyntaxKind.TheVariants.{ExpectedBound, ExpectedComma, ExpectedGt}
use Rattle.syntax_trees.specs.declared.cursor.SyntaxError.{SyntaxError}
use Rattle.syntax_parsers.specs.declared.fault.ParseFault.{ParseFault}
use Rattle.syntax_parsers.specs.Answer.{Refuses, ◌>>=◌, with_first}
use Rattle.syntax_parsers.specs.Fronts.{sign_front, bound_next, further_front}
use Rattle.syntax_parsers.specs.Grammar.{Readers, missing, required, gives_segment, generic_body, generics_body, bound_body, bounds_body, segment_body, segments_body, tys_body}
use Rattle.syntax_parsers.specs.Parts.{argument_body, named_generic, associated_body}
use Rattle.syntax_parsers.specs.Read.{levels}
use Rattle.syntax_parsers.proofs.Levels.{tys_level, bounds_level, segments_level, generics_level}
use Rattle.syntax_parsers.proofs.Refused.{refused_is, bind_refused, first_refused}
use Rattle.syntax_parsers.proofs.Steps.{first_step}

first_more : {A B : Type 0} → (x : A) (m : Result (List A × B) SyntaxError) → (m >>= λ more. Ok (x ∷ more.0, more.1)) ≡ with_first (x ∷ []) m
first_more x (Ok y) = refl
first_more x (Err e) = refl

-- segments

segments_here : (r : Readers) (at : Span) (ts rest behind : List Tok) (s : SegmentD) → segment_body r at ts ≡ Ok (s, rest) → cond (gives_segment s) None (further_front rest) ≡ Some behind → segments_body r at ts ≡ with_first (s ∷ []) (r.segments at behind)
unfolding segments_body
segments_here r at ts rest behind s e h = rw (e, h) (first_more s (r.segments at behind))

segments_last : (r : Readers) (at : Span) (ts rest : List Tok) (s : SegmentD) → segment_body r at ts ≡ Ok (s, rest) → cond (gives_segment s) None (further_front rest) ≡ None → segments_body r at ts ≡ Ok (s ∷ [], rest)
unfolding segments_body
segments_last r at ts rest s e h = rw (e, h) refl

segments_stop : (r : Readers) (at : Span) (ts : List Tok) (f : ParseFault) → Refuses f (segment_body r at ts) → Refuses f (segments_body r at ts)
unfolding segments_body
segments_stop r at ts f h = bind_refused f (segment_body r at ts) _ h

pub segments_on : (n : ℕ) (at : Span) (xs : List SegmentD) (ts rest behind : List Tok) (s : SegmentD) → 0 < n → segment_body (levels (n - 1)) at ts ≡ Ok (s, rest) → Some behind ≡ cond (gives_segment s) None (further_front rest)
    → with_first xs ((levels n).segments at ts) ≡ with_first (xs ++ s ∷ []) ((levels (n - 1)).segments at behind)
segments_on n at xs ts rest behind s p e h =
    ap (with_first xs) (segments_level n at ts p ∙ segments_here (levels (n - 1)) at ts rest behind s e (sym h))
    ∙ sym (first_step xs s ((levels (n - 1)).segments at behind))

pub segments_end : (n : ℕ) (at : Span) (xs : List SegmentD) (ts rest : List Tok) (s : SegmentD) → 0 < n → segment_body (levels (n - 1)) at ts ≡ Ok (s, rest) → None ≡ cond (gives_segment s) None (further_front rest)
    → with_first xs ((levels n).segments at ts) ≡ Ok (xs ++ s ∷ [], rest)
segments_end n at xs ts rest s p e h = ap (with_first xs) (segments_level n at ts p ∙ segments_last (levels (n - 1)) at ts rest s e (sym h))

pub segments_refused : (n : ℕ) (at : Span) (xs : List SegmentD) (ts : List Tok) (f : ParseFault) → 0 < n → Refuses f (segment_body (levels (n - 1)) at ts) → Refuses f (with_first xs ((levels n).segments at ts))
segments_refused n at xs ts f p h = first_refused f xs ((levels n).segments at ts) (refused_is f _ _ (segments_level n at ts p) (segments_stop (levels (n - 1)) at ts f h))

-- bounds

stands : {A : Type 0} → (view : A → List Tok) (b : Bool) (ts : List Tok) (r : Option A) → option_map view r ≡ cond b (Some ts) None → b ≡ is_some r
stands view true ts (Some x) e = refl
stands view true ts None e = cc
stands view false ts (Some x) e = cc
stands view false ts None e = refl

-- whether a character stands next, by what stands behind it
pub sign_stands : {A : Type 0} → (view : A → List Tok) (c : ℕ) (ts : List Tok) (r : Option A) → option_map view r ≡ sign_front c ts → sign_next c ts ≡ is_some r
sign_stands view c [] None e = refl
sign_stands view c [] (Some x) e = cc
sign_stands view c (t ∷ ts) r e = stands view (is_sign c t) ts r e

bounds_none : (r : Readers) (at : Span) (ts : List Tok) → bound_next ts ≡ false → sign_next 43 ts ≡ false → bounds_body r at ts ≡ Ok ([], ts)
unfolding bounds_body
bounds_none r at ts e s = rw (e, s) refl

bounds_extra : (r : Readers) (at : Span) (ts : List Tok) → bound_next ts ≡ false → sign_next 43 ts ≡ true → bounds_body r at ts ≡ missing ExpectedBound at ts
unfolding bounds_body
bounds_extra r at ts e s = rw (e, s) refl

bounds_here : (r : Readers) (at : Span) (ts rest behind : List Tok) (b : BoundD) → bound_next ts ≡ true → bound_body r at ts ≡ Ok (b, rest) → sign_front 43 rest ≡ Some behind → bounds_body r at ts ≡ with_first (b ∷ []) (r.bounds at behind)
unfolding bounds_body
bounds_here r at ts rest behind b n e h = rw (n, e, h) (first_more b (r.bounds at behind))

bounds_last : (r : Readers) (at : Span) (ts rest : List Tok) (b : BoundD) → bound_next ts ≡ true → bound_body r at ts ≡ Ok (b, rest) → sign_front 43 rest ≡ None → bounds_body r at ts ≡ Ok (b ∷ [], rest)
unfolding bounds_body
bounds_last r at ts rest b n e h = rw (n, e, h) refl

bounds_stop : (r : Readers) (at : Span) (ts : List Tok) (f : ParseFault) → bound_next ts ≡ true → Refuses f (bound_body r at ts) → Refuses f (bounds_body r at ts)
unfolding bounds_body
bounds_stop r at ts f n h = rw n (bind_refused f (bound_body r at ts) _ h)

pub bounds_over : (n : ℕ) (at : Span) (xs : List BoundD) (ts : List Tok) → 0 < n → bound_next ts ≡ false → sign_next 43 ts ≡ false → with_first xs ((levels n).bounds at ts) ≡ Ok (xs, ts)
bounds_over n at xs ts p e s = ap (with_first xs) (bounds_level n at ts p ∙ bounds_none (levels (n - 1)) at ts e s) ∙ ap (λ (ys : List BoundD). Ok (ys, ts)) (append-nil xs)

-- a further `+` where a bound may stand
pub bounds_plus : (n : ℕ) (at : Span) (xs : List BoundD) (ts : List Tok) → 0 < n → bound_next ts ≡ false → sign_next 43 ts ≡ true → with_first xs ((levels n).bounds at ts) ≡ missing ExpectedBound at ts
bounds_plus n at xs ts p e s = ap (with_first xs) (bounds_level n at ts p ∙ bounds_extra (levels (n - 1)) at ts e s)

pub bounds_on : (n : ℕ) (at : Span) (xs : List BoundD) (ts rest behind : List Tok) (b : BoundD) → 0 < n → bound_next ts ≡ true → bound_body (levels (n - 1)) at ts ≡ Ok (b, rest) → Some behind ≡ sign_front 43 rest
    → with_first xs ((levels n).bounds at ts) ≡ with_first (xs ++ b ∷ []) ((levels (n - 1)).bounds at behind)
bounds_on n at xs ts rest behind b p m e h =
    ap (with_first xs) (bounds_level n at ts p ∙ bounds_here (levels (n - 1)) at ts rest behind b m e (sym h))
    ∙ sym (first_step xs b ((levels (n - 1)).bounds at behind))

pub bounds_end : (n : ℕ) (at : Span) (xs : List BoundD) (ts rest : List Tok) (b : BoundD) → 0 < n → bound_next ts ≡ true → bound_body (levels (n - 1)) at ts ≡ Ok (b, rest) → None ≡ sign_front 43 rest
    → with_first xs ((levels n).bounds at ts) ≡ Ok (xs ++ b ∷ [], rest)
bounds_end n at xs ts rest b p m e h = ap (with_first xs) (bounds_level n at ts p ∙ bounds_last (levels (n - 1)) at ts rest b m e (sym h))

pub bounds_refused : (n : ℕ) (at : Span) (xs : List BoundD) (ts : List Tok) (f : ParseFault) → 0 < n → bound_next ts ≡ true → Refuses f (bound_body (levels (n - 1)) at ts) → Refuses f (with_first xs ((levels n).bounds at ts))
bounds_refused n at xs ts f p m h = first_refused f xs ((levels n).bounds at ts) (refused_is f _ _ (bounds_level n at ts p) (bounds_stop (levels (n - 1)) at ts f m h))

-- arguments

generic_pieces : (r : Readers) (at : Span) (ts : List Tok) → generic_body r at ts ≡ argument_body r at ts
unfolding generic_body argument_body named_generic associated_body
generic_pieces r at ts = refl

generics_none : (r : Readers) (at : Span) (ts rest : List Tok) → sign_front 62 ts ≡ Some rest → generics_body r at ts ≡ Ok ([], rest)
unfolding generics_body
generics_none r at ts rest e = rw e refl

generics_last : (r : Readers) (at : Span) (ts us rest : List Tok) (g : GenericD) → sign_front 62 ts ≡ None → generic_body r at ts ≡ Ok (g, us) → sign_front 62 us ≡ Some rest → generics_body r at ts ≡ Ok (g ∷ [], rest)
unfolding generics_body
generics_last r at ts us rest g n e h = rw (n, e, h) refl

generics_here : (r : Readers) (at : Span) (ts us rest : List Tok) (g : GenericD) → sign_front 62 ts ≡ None → generic_body r at ts ≡ Ok (g, us) → sign_front 62 us ≡ None
    → generics_body r at ts ≡ (required (sign_front 44 us) ExpectedGt at us >>= λ behind. r.generics at behind >>= λ more. Ok (g ∷ more.0, more.1))
unfolding generics_body
generics_here r at ts us rest g n e h = rw (n, e, h) refl

generics_stop : (r : Readers) (at : Span) (ts : List Tok) (f : ParseFault) → sign_front 62 ts ≡ None → Refuses f (generic_body r at ts) → Refuses f (generics_body r at ts)
unfolding generics_body
generics_stop r at ts f n h = rw n (bind_refused f (generic_body r at ts) _ h)

pub generics_over : (n : ℕ) (at : Span) (xs : List GenericD) (ts rest : List Tok) → 0 < n → Some rest ≡ sign_front 62 ts → with_first xs ((levels n).generics at ts) ≡ Ok (xs, rest)
generics_over n at xs ts rest p e = ap (with_first xs) (generics_level n at ts p ∙ generics_none (levels (n - 1)) at ts rest (sym e)) ∙ ap (λ (ys : List GenericD). Ok (ys, rest)) (append-nil xs)

pub generics_end : (n : ℕ) (at : Span) (xs : List GenericD) (ts us rest : List Tok) (g : GenericD) → 0 < n → None ≡ sign_front 62 ts → argument_body (levels (n - 1)) at ts ≡ Ok (g, us) → Some rest ≡ sign_front 62 us
    → with_first xs ((levels n).generics at ts) ≡ Ok (xs ++ g ∷ [], rest)
generics_end n at xs ts us rest g p m e h =
    ap (with_first xs) (generics_level n at ts p ∙ generics_last (levels (n - 1)) at ts us rest g (sym m) (generic_pieces (levels (n - 1)) at ts ∙ e) (sym h))

generics_comma : (n : ℕ) (at : Span) (ts us : List Tok) (g : GenericD) → 0 < n → None ≡ sign_front 62 ts → argument_body (levels (n - 1)) at ts ≡ Ok (g, us) → None ≡ sign_front 62 us
    → (levels n).generics at ts ≡ (required (sign_front 44 us) ExpectedGt at us >>= λ behind. (levels (n - 1)).generics at behind >>= λ more. Ok (g ∷ more.0, more.1))
generics_comma n at ts us g p m e h = generics_level n at ts p ∙ generics_here (levels (n - 1)) at ts us [] g (sym m) (generic_pieces (levels (n - 1)) at ts ∙ e) (sym h)

pub generics_on : (n : ℕ) (at : Span) (xs : List GenericD) (ts us rest : List Tok) (g : GenericD) → 0 < n → None ≡ sign_front 62 ts → argument_body (levels (n - 1)) at ts ≡ Ok (g, us) → None ≡ sign_front 62 us
    → required (sign_front 44 us) ExpectedGt at us ≡ Ok rest
    → with_first xs ((levels n).generics at ts) ≡ with_first (xs ++ g ∷ []) ((levels (n - 1)).generics at rest)
generics_on n at xs ts us rest g p m e h c =
    ap (with_first xs) (generics_comma n at ts us g p m e h ∙ rw c (first_more g ((levels (n - 1)).generics at rest)))
    ∙ sym (first_step xs g ((levels (n - 1)).generics at rest))

pub generics_refused : (n : ℕ) (at : Span) (xs : List GenericD) (ts : List Tok) (f : ParseFault) → 0 < n → None ≡ sign_front 62 ts → Refuses f (argument_body (levels (n - 1)) at ts) → Refuses f (with_first xs ((levels n).generics at ts))
generics_refused n at xs ts f p m h =
    first_refused f xs ((levels n).generics at ts) (refused_is f _ _ (generics_level n at ts p)
    (generics_stop (levels (n - 1)) at ts f (sym m) (refused_is f _ _ (generic_pieces (levels (n - 1)) at ts) h)))

pub generics_unended : (n : ℕ) (at : Span) (xs : List GenericD) (ts us : List Tok) (g : GenericD) (f : ParseFault) → 0 < n → None ≡ sign_front 62 ts → argument_body (levels (n - 1)) at ts ≡ Ok (g, us) → None ≡ sign_front 62 us
    → Refuses f (required (sign_front 44 us) ExpectedGt at us) → Refuses f (with_first xs ((levels n).generics at ts))
generics_unended n at xs ts us g f p m e h k =
    first_refused f xs ((levels n).generics at ts) (refused_is f _ _ (generics_comma n at ts us g p m e h) (bind_refused f (required (sign_front 44 us) ExpectedGt at us) _ k))

-- types

tys_none : (r : Readers) (at : Span) → tys_body r at [] ≡ Ok ([], false)
unfolding tys_body
tys_none r at = refl

tys_last : (r : Readers) (at : Span) (u : Tok) (us : List Tok) (t : TyD) → r.ty at (u ∷ us) ≡ Ok (t, []) → tys_body r at (u ∷ us) ≡ Ok (t ∷ [], false)
unfolding tys_body
tys_last r at u us t e = rw e refl

tys_comma : (r : Readers) (at : Span) (u : Tok) (us : List Tok) (v : Tok) (rest : List Tok) (t : TyD) → r.ty at (u ∷ us) ≡ Ok (t, v ∷ []) → required (sign_front 44 (v ∷ [])) ExpectedComma at (v ∷ []) ≡ Ok rest
    → tys_body r at (u ∷ us) ≡ Ok (t ∷ [], true)
unfolding tys_body
tys_comma r at u us v rest t e h = rw (e, h) refl

tys_here : (r : Readers) (at : Span) (u : Tok) (us : List Tok) (v w : Tok) (ws rest : List Tok) (t : TyD) → r.ty at (u ∷ us) ≡ Ok (t, v ∷ w ∷ ws)
    → required (sign_front 44 (v ∷ w ∷ ws)) ExpectedComma at (v ∷ w ∷ ws) ≡ Ok rest → tys_body r at (u ∷ us) ≡ with_first (t ∷ []) (r.tys at rest)
unfolding tys_body
tys_here r at u us v w ws rest t e h = rw (e, h) (first_more t (r.tys at rest))

tys_stop : (r : Readers) (at : Span) (u : Tok) (us : List Tok) (f : ParseFault) → Refuses f (r.ty at (u ∷ us)) → Refuses f (tys_body r at (u ∷ us))
unfolding tys_body
tys_stop r at u us f h = bind_refused f (r.ty at (u ∷ us)) _ h

tys_uncomma : (r : Readers) (at : Span) (u : Tok) (us : List Tok) (v : Tok) (vs : List Tok) (t : TyD) (f : ParseFault) → r.ty at (u ∷ us) ≡ Ok (t, v ∷ vs)
    → Refuses f (required (sign_front 44 (v ∷ vs)) ExpectedComma at (v ∷ vs)) → Refuses f (tys_body r at (u ∷ us))
unfolding tys_body
tys_uncomma r at u us v [] t f e h = rw e (bind_refused f (required (sign_front 44 (v ∷ [])) ExpectedComma at (v ∷ [])) _ h)
tys_uncomma r at u us v (w ∷ ws) t f e h = rw e (bind_refused f (required (sign_front 44 (v ∷ w ∷ ws)) ExpectedComma at (v ∷ w ∷ ws)) _ h)

-- what stands behind a comma
passed : (b : Bool) (at : Span) (ts vs behind : List Tok) → required (cond b (Some vs) None) ExpectedComma at ts ≡ Ok behind → vs ≡ behind
passed true at ts vs behind e = cc
passed false at ts vs behind e = absurd (cc)

pub no_length : true ≡ false → ⊥
no_length e = cc

pub none_is_some : {A : Type 0} → (xs : List A) → nat_eq (suc (length xs)) 0 ≡ true → ⊥
none_is_some xs e = let z : suc (length xs) ≡ 0 = eqb-true (suc (length xs)) 0 e in omega arith

cons_is_not_nil : (t : Tok) (ts : List Tok) → t ∷ ts ≡ [] → ⊥
cons_is_not_nil t ts e = cc

pub tys_over : (n : ℕ) (at : Span) (xs : List TyD) (left : List TokenTree) → 0 < n → nat_eq (length left) 0 ≡ true → with_first xs ((levels n).tys at (trees left)) ≡ Ok (xs, false)
tys_over n at xs [] p e = ap (with_first xs) (tys_level n at [] p ∙ tys_none (levels (n - 1)) at) ∙ ap (λ (ys : List TyD). Ok (ys, false)) (append-nil xs)
tys_over n at xs (t ∷ left) p e = absurd (none_is_some left e)

pub tys_end : (n : ℕ) (at : Span) (xs : List TyD) (left rest : List TokenTree) (t : TyD) → 0 < n → nat_eq (length left) 0 ≡ false → (levels (n - 1)).ty at (trees left) ≡ Ok (t, trees rest) → nat_eq (length rest) 0 ≡ true
    → with_first xs ((levels n).tys at (trees left)) ≡ Ok (xs ++ t ∷ [], false)
tys_end n at xs [] rest t p m e h = absurd (no_length m)
tys_end n at xs (u ∷ us) [] t p m e h = ap (with_first xs) (tys_level n at (trees (u ∷ us)) p ∙ tys_last (levels (n - 1)) at (tree u) (trees us) t e)
tys_end n at xs (u ∷ us) (v ∷ vs) t p m e h = absurd (none_is_some vs h)

pub tys_comma_end : (n : ℕ) (at : Span) (xs : List TyD) (left rest behind : List TokenTree) (t : TyD) → 0 < n → nat_eq (length left) 0 ≡ false → (levels (n - 1)).ty at (trees left) ≡ Ok (t, trees rest) → nat_eq (length rest) 0 ≡ false
    → required (sign_front 44 (trees rest)) ExpectedComma at (trees rest) ≡ Ok (trees behind) → nat_eq (length behind) 0 ≡ true
    → with_first xs ((levels n).tys at (trees left)) ≡ Ok (xs ++ t ∷ [], true)
tys_comma_end n at xs [] rest behind t p m e h k z = absurd (no_length m)
tys_comma_end n at xs (u ∷ us) [] behind t p m e h k z = absurd (no_length h)
tys_comma_end n at xs (u ∷ us) (v ∷ []) behind t p m e h k z =
    ap (with_first xs) (tys_level n at (trees (u ∷ us)) p ∙ tys_comma (levels (n - 1)) at (tree u) (trees us) (tree v) (trees behind) t e k)
tys_comma_end n at xs (u ∷ us) (v ∷ w ∷ ws) [] t p m e h k z = absurd (cons_is_not_nil (tree w) (trees ws) (passed (is_sign 44 (tree v)) at (trees (v ∷ w ∷ ws)) (trees (w ∷ ws)) [] k))
tys_comma_end n at xs (u ∷ us) (v ∷ w ∷ ws) (b ∷ bs) t p m e h k z = absurd (none_is_some bs z)

pub tys_on : (n : ℕ) (at : Span) (xs : List TyD) (left rest behind : List TokenTree) (t : TyD) → 0 < n → nat_eq (length left) 0 ≡ false → (levels (n - 1)).ty at (trees left) ≡ Ok (t, trees rest) → nat_eq (length rest) 0 ≡ false
    → required (sign_front 44 (trees rest)) ExpectedComma at (trees rest) ≡ Ok (trees behind) → nat_eq (length behind) 0 ≡ false
    → with_first xs ((levels n).tys at (trees left)) ≡ with_first (xs ++ t ∷ []) ((levels (n - 1)).tys at (trees behind))
tys_on n at xs [] rest behind t p m e h k z = absurd (no_length m)
tys_on n at xs (u ∷ us) [] behind t p m e h k z = absurd (no_length h)
tys_on n at xs (u ∷ us) (v ∷ []) [] t p m e h k z = absurd (no_length z)
tys_on n at xs (u ∷ us) (v ∷ []) (b ∷ bs) t p m e h k z = absurd (cons_is_not_nil (tree b) (trees bs) (sym (passed (is_sign 44 (tree v)) at (trees (v ∷ [])) [] (trees (b ∷ bs)) k)))
tys_on n at xs (u ∷ us) (v ∷ w ∷ ws) behind t p m e h k z =
    ap (with_first xs) (tys_level n at (trees (u ∷ us)) p ∙ tys_here (levels (n - 1)) at (tree u) (trees us) (tree v) (tree w) (trees ws) (trees behind) t e k)
    ∙ sym (first_step xs t ((levels (n - 1)).tys at (trees behind)))

pub tys_refused : (n : ℕ) (at : Span) (xs : List TyD) (left : List TokenTree) (f : ParseFault) → 0 < n → nat_eq (length left) 0 ≡ false → Refuses f ((levels (n - 1)).ty at (trees left)) → Refuses f (with_first xs ((levels n).tys at (trees left)))
tys_refused n at xs [] f p m h = absurd (no_length m)
tys_refused n at xs (u ∷ us) f p m h =
    first_refused f xs ((levels n).tys at (trees (u ∷ us))) (refused_is f _ _ (tys_level n at (trees (u ∷ us)) p) (tys_stop (levels (n - 1)) at (tree u) (trees us) f h))

pub tys_unended : (n : ℕ) (at : Span) (xs : List TyD) (left rest : List TokenTree) (t : TyD) (f : ParseFault) → 0 < n → nat_eq (length left) 0 ≡ false → (levels (n - 1)).ty at (trees left) ≡ Ok (t, trees rest) → nat_eq (length rest) 0 ≡ false
    → Refuses f (required (sign_front 44 (trees rest)) ExpectedComma at (trees rest)) → Refuses f (with_first xs ((levels n).tys at (trees left)))
tys_unended n at xs [] rest t f p m e h k = absurd (no_length m)
tys_unended n at xs (u ∷ us) [] t f p m e h k = absurd (no_length h)
tys_unended n at xs (u ∷ us) (v ∷ vs) t f p m e h k =
    first_refused f xs ((levels n).tys at (trees (u ∷ us))) (refused_is f _ _ (tys_level n at (trees (u ∷ us)) p) (tys_uncomma (levels (n - 1)) at (tree u) (trees us) (tree v) (trees vs) t f e k))
