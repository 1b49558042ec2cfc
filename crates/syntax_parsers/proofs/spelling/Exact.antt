-- Exactly what is spelled is read.
use Rattle.std.proofs.Common.{◌≡◌, Some, ℕ, ◌*◌, ◌<◌, List, [], ◌∷◌, refl, ap, sym, ◌∙◌, subst, arith}
use Rattle.std.specs.Prelude.{◌↔◌, true, false, Result, Ok, Err}
use Rattle.token_trees.specs.declared.token.Span.{Span}
use Rattle.token_trees.specs.Token.{Tok}
use Rattle.syntax_trees.specs.Syntax.{TyD, PathD, ExprPathD, BoundD, Bounds, bounds_of}
use Rattle.syntax_trees.specs.declared.cursor.SyntaxError.{SyntaxError}
use Rattle.syntax_parsers.specs.Fronts.{weight, sign_front}
use Rattle.syntax_parsers.specs.Grammar.{whole, path_body, takes_ty, takes_bounds}
use Rattle.syntax_parsers.specs.Read.{levels}
use Rattle.syntax_parsers.specs.Spelling.{TyThen, PathThen, ExprPathThen, BoundsThen}
use Rattle.syntax_parsers.specs.SpellingForm.{TyForm, PathForm, ExprPathForm, BoundsForm, TyLengths, PathLengths, ExprPathLengths, BoundsLengths, IsParsedTy, IsParsedBounds, SpellsTy, SpellsPath, SpellsExprPath, SpellsBounds}
use Rattle.syntax_parsers.specs.SpellingLaws.{ReadsTy, ReadsPath, ReadsExprPath, ReadsBounds}
use Rattle.syntax_parsers.proofs.Results.{got, ok_same}
use Rattle.syntax_parsers.proofs.spelling.Stands.{whole_ok, sign_stands}
use Rattle.syntax_parsers.proofs.spelling.Read.{levels_printed, path_read}
use Rattle.syntax_parsers.proofs.spelling.Halts.{Halt, Shut, halt_pauses, halt_end, shut_end, halt_comma, shut_comma}
use Rattle.syntax_parsers.proofs.spelling.Room.{ty_weight, path_weight, expr_path_weight, bounds_weight}
use Rattle.syntax_parsers.proofs.spelling.Reach.{TyGot, PathGot, ExprPathGot, BoundsGot, shut_over, levels_read, path_read_back}

-- types

ty_got : (n : ℕ) (at : Span) (ts : List Tok) (t : TyD) → 3 * weight ts < n → TyForm t → TyThen t ts [] → TyGot ((levels n).ty at ts) t []
ty_got n at ts t m f h = let w = ty_weight t ts [] f h in (levels_read n).ty at t ts [] (omega (arith, m, w)) f h (halt_pauses (takes_ty false t) (takes_ty true t) [] halt_end) (λ q. shut_end.plus)

pub ty_exact : (n : ℕ) (at : Span) (ts : List Tok) (t : TyD) → 3 * weight ts < n → ReadsTy n at ts t ↔ SpellsTy ts t
ty_exact n at ts t m = (read, spelled)
  where
    read : ReadsTy n at ts t → SpellsTy ts t
    read e =
        let q = whole_ok at ((levels n).ty at ts) t e in
        let k = (levels_printed n).ty at ts (t, []) q in
        let g = ty_got n at ts t m k.0 k.1 in
        let same = ok_same (g.0, []) (t, []) (sym g.1 ∙ q) in
        ((k.0, subst (λ (z : TyD × List Tok). TyLengths z.0) same g.3), k.1)

    spelled : SpellsTy ts t → ReadsTy n at ts t
    spelled h = let g = ty_got n at ts t m h.0.0 h.1 in ap (whole at) g.1 ∙ ap Ok (g.2 h.0.1)

-- paths

path_got : (n : ℕ) (at : Span) (ts : List Tok) (p : PathD) → 3 * weight ts < n → PathForm p → PathThen p ts [] → PathGot (path_body (levels n) at ts) p []
path_got n at ts p m f h = let w = path_weight p ts [] f h in path_read_back (levels n) n (levels_read n) at p ts [] (omega (arith, m, w)) f h (halt_end.stops, (λ q. halt_end.bang), λ q. shut_end.plus)

pub path_exact : (n : ℕ) (at : Span) (ts : List Tok) (p : PathD) → 3 * weight ts < n → ReadsPath n at ts p ↔ SpellsPath ts p
path_exact n at ts p m = (read, spelled)
  where
    read : ReadsPath n at ts p → SpellsPath ts p
    read e =
        let q = whole_ok at (path_body (levels n) at ts) p e in
        let k = path_read (levels n) (levels_printed n) at ts (p, []) q in
        let g = path_got n at ts p m k.0 k.1 in
        let same = ok_same (g.0, []) (p, []) (sym g.1 ∙ q) in
        ((k.0, subst (λ (z : PathD × List Tok). PathLengths z.0) same g.4), k.1)

    spelled : SpellsPath ts p → ReadsPath n at ts p
    spelled h = let g = path_got n at ts p m h.0.0 h.1 in ap (whole at) g.1 ∙ ap Ok (g.3 h.0.1)

-- paths of expressions

expr_path_got : (n : ℕ) (at : Span) (ts : List Tok) (p : ExprPathD) → 3 * weight ts < n → ExprPathForm p → ExprPathThen p ts [] → ExprPathGot ((levels n).expr_path at ts) p []
expr_path_got n at ts p m f h = let w = expr_path_weight p ts f h in (levels_read n).expr_path at p ts (omega (arith, m, w)) f h

pub expr_path_exact : (n : ℕ) (at : Span) (ts : List Tok) (p : ExprPathD) → 3 * weight ts < n → ReadsExprPath n at ts p ↔ SpellsExprPath ts p
expr_path_exact n at ts p m = (read, spelled)
  where
    read : ReadsExprPath n at ts p → SpellsExprPath ts p
    read e =
        let q = whole_ok at ((levels n).expr_path at ts) p e in
        let k = (levels_printed n).expr_path at ts (p, []) q in
        let g = expr_path_got n at ts p m k.0 k.1 in
        let same = ok_same (g.0, []) (p, []) (sym g.1 ∙ q) in
        ((k.0, subst (λ (z : ExprPathD × List Tok). ExprPathLengths z.0) same g.3), k.1)

    spelled : SpellsExprPath ts p → ReadsExprPath n at ts p
    spelled h = let g = expr_path_got n at ts p m h.0.0 h.1 in ap (whole at) g.1 ∙ ap Ok (g.2 h.0.1)

-- bounds

bounds_got : (n : ℕ) (at : Span) (ts : List Tok) (bs : Bounds) → 3 * weight ts < n → BoundsForm bs → BoundsThen bs ts [] → BoundsGot ((levels n).bounds at ts) bs []
bounds_got n at ts bs m f h = let w = bounds_weight bs ts [] f h in (levels_read n).bounds at bs ts [] (omega (arith, m, w)) f h (halt_pauses (takes_bounds false false bs) (takes_bounds true false bs) [] halt_end) (shut_over bs [] shut_end)

bounds_same : (bs cs : List BoundD) → bounds_of bs ≡ bounds_of cs → bs ≡ cs
bounds_same [] [] e = refl
bounds_same [] (c ∷ cs) e = absurd (cc)
bounds_same (b ∷ bs) [] e = absurd (cc)
bounds_same (b ∷ bs) (c ∷ cs) e =
    let h : b ≡ c = cc in
    let t : bounds_of bs ≡ bounds_of cs = cc in
    ap (λ z. z ∷ bs) h ∙ ap (λ z. c ∷ z) (bounds_same bs cs t)

pub bounds_exact : (n : ℕ) (at : Span) (ts : List Tok) (bs : List BoundD) → 3 * weight ts < n → ReadsBounds n at ts bs ↔ SpellsBounds ts (bounds_of bs)
bounds_exact n at ts bs m = (read, spelled)
  where
    read : ReadsBounds n at ts bs → SpellsBounds ts (bounds_of bs)
    read e =
        let q = whole_ok at ((levels n).bounds at ts) bs e in
        let k = (levels_printed n).bounds at ts (bs, []) q in
        let g = bounds_got n at ts (bounds_of bs) m k.0 k.1 in
        let same = ok_same (g.0, []) (bs, []) (sym g.1 ∙ q) in
        ((k.0, subst (λ (z : List BoundD × List Tok). BoundsLengths (bounds_of z.0)) same g.3), k.1)

    spelled : SpellsBounds ts (bounds_of bs) → ReadsBounds n at ts bs
    spelled h = let g = bounds_got n at ts (bounds_of bs) m h.0.0 h.1 in ap (whole at) g.1 ∙ ap Ok (bounds_same g.0 bs (g.2 h.0.1))

-- one tree at most, and errors

pub once : {A : Type 0} → (v : Result A SyntaxError) (x y : A) → v ≡ Ok x → v ≡ Ok y → x ≡ y
once v x y e h = ok_same x y (sym e ∙ h)

ok_not_err : {A : Type 0} → (x : A) (e : SyntaxError) → got x ≡ Err e → ⊥
ok_not_err x e q = cc

err_not_ok : {A : Type 0} → (x : A) (e : SyntaxError) → Err e ≡ got x → ⊥
err_not_ok x e q = cc

pub refused : {A : Type 0} {P : A → Type 0} → (v : Result A SyntaxError) → ((x : A) → (v ≡ Ok x) ↔ P x) → ((e : SyntaxError) × (v ≡ Err e)) ↔ ((x : A) → P x → ⊥)
refused (Ok x) h = ((λ e. absurd (ok_not_err x e.0 e.1)), λ n. absurd (n x ((h x).0 refl)))
refused (Err e) h = ((λ q x p. err_not_ok x e ((h x).1 p)), λ n. (e, refl))

-- in front of a rest

pub ty_front_exact : (n : ℕ) (at : Span) (ts rest : List Tok) (t : TyD) → 3 * weight ts < n → Halt rest → Shut rest → ((levels n).ty at ts ≡ Ok (t, rest)) ↔ (IsParsedTy t × TyThen t ts rest)
ty_front_exact n at ts rest t m y z = (read, printed)
  where
    got : TyForm t → TyThen t ts rest → TyGot ((levels n).ty at ts) t rest
    got f h = let w = ty_weight t ts rest f h in (levels_read n).ty at t ts rest (omega (arith, m, w)) f h (halt_pauses (takes_ty false t) (takes_ty true t) rest y) (λ q. z.plus)

    read : (levels n).ty at ts ≡ Ok (t, rest) → IsParsedTy t × TyThen t ts rest
    read q =
        let k = (levels_printed n).ty at ts (t, rest) q in
        let g = got k.0 k.1 in
        let same = ok_same (g.0, rest) (t, rest) (sym g.1 ∙ q) in
        ((k.0, subst (λ (z : TyD × List Tok). TyLengths z.0) same g.3), k.1)

    printed : IsParsedTy t × TyThen t ts rest → (levels n).ty at ts ≡ Ok (t, rest)
    printed h = let g = got h.0.0 h.1 in g.1 ∙ ap (λ z. Ok (z, rest)) (g.2 h.0.1)

pub bounds_front_exact : (n : ℕ) (at : Span) (ts rest : List Tok) (bs : List BoundD) → 3 * weight ts < n → Halt rest → Shut rest → ((levels n).bounds at ts ≡ Ok (bs, rest)) ↔ (IsParsedBounds (bounds_of bs) × BoundsThen (bounds_of bs) ts rest)
bounds_front_exact n at ts rest bs m y z = (read, printed)
  where
    got : BoundsForm (bounds_of bs) → BoundsThen (bounds_of bs) ts rest → BoundsGot ((levels n).bounds at ts) (bounds_of bs) rest
    got f h = let w = bounds_weight (bounds_of bs) ts rest f h in (levels_read n).bounds at (bounds_of bs) ts rest (omega (arith, m, w)) f h (halt_pauses (takes_bounds false false (bounds_of bs)) (takes_bounds true false (bounds_of bs)) rest y) (shut_over (bounds_of bs) rest z)

    read : (levels n).bounds at ts ≡ Ok (bs, rest) → IsParsedBounds (bounds_of bs) × BoundsThen (bounds_of bs) ts rest
    read q =
        let k = (levels_printed n).bounds at ts (bs, rest) q in
        let g = got k.0 k.1 in
        let same = ok_same (g.0, rest) (bs, rest) (sym g.1 ∙ q) in
        ((k.0, subst (λ (z : List BoundD × List Tok). BoundsLengths (bounds_of z.0)) same g.3), k.1)

    printed : IsParsedBounds (bounds_of bs) × BoundsThen (bounds_of bs) ts rest → (levels n).bounds at ts ≡ Ok (bs, rest)
    printed h = let g = got h.0.0 h.1 in g.1 ∙ ap (λ z. Ok (z, rest)) (bounds_same g.0 bs (g.2 h.0.1))

pub before_comma : (ts end : List Tok) → sign_front 44 ts ≡ Some end → Halt ts × Shut ts
before_comma ts end e = let m = sign_stands 44 ts end e in subst (λ z. Halt z × Shut z) (sym m.2) (halt_comma m.0 m.1 end, shut_comma m.0 m.1 end)
