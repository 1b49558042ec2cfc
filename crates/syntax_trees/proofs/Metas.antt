-- The fronts of metas, a token at a time.
use Rattle.std.proofs.Common.{◌≡◌, ℕ, ◌+◌, List, [], ◌∷◌, ◌++◌, true, false, cond, Some, None, take, drop, refl, zero, suc, ap, sym, ◌∙◌, arith, add-one}
use Rattle.std.specs.Prelude.{Option, option_map}
use Rattle.std.proofs.Math.Seq.{drop-nil}
use Rattle.std.proofs.lemmas.List.{take-append-drop, append_cancel_right}
use Rattle.token_trees.specs.declared.token.Span.{Span}
use Rattle.token_trees.specs.declared.token.Delimiter.{Delimiter}
use Rattle.token_trees.specs.declared.token.Delimiter.TheVariants.{Parenthesis, Bracket, Brace, None as Bare}
use Rattle.token_trees.specs.Token.{Tok, Toks, group}
use Rattle.syntax_trees.specs.Metas.{is_word, is_sign, sign_next, colons_next, names_len, no_name, rest_of, before_comma, from_comma, in_parens}

-- one name, and where `::` follows the next
pub names_len_cons : (t : Tok) (ts : List Tok) → names_len (t ∷ ts) ≡ cond (is_word t) (cond (colons_next ts) (option_map (λ n. n + 3) (names_len (rest_of (rest_of ts)))) (Some 1)) None
names_len_cons t [] = refl
names_len_cons t (u ∷ []) = refl
names_len_cons t (u ∷ v ∷ ts) = refl

pub no_name_cons : (t : Tok) (ts : List Tok) → no_name (t ∷ ts) ≡ cond (is_word t) (no_name (rest_of (rest_of ts))) (t ∷ ts)
no_name_cons t [] = refl
no_name_cons t (u ∷ []) = refl
no_name_cons t (u ∷ v ∷ ts) = refl

pub names_later : (p : ℕ) (o : Option ℕ) → option_map (λ n. n + p) (option_map (λ n. n + 3) o) ≡ option_map (λ n. n + (p + 3)) o
names_later p None = refl
names_later p (Some n) = let e : n + 3 + p ≡ n + (p + 3) = omega arith in ap Some e

-- a token more is passed
pub drop_one_more : {X : Type 0} → (n : ℕ) (xs : List X) (x : X) (ys : List X) → drop n xs ≡ x ∷ ys → drop (suc n) xs ≡ ys
drop_one_more {X = X} n [] x ys h = let e : ◌≡◌ {A = List X} (drop n []) [] = drop-nil n in let k : ◌≡◌ {A = List X} [] (x ∷ ys) = sym e ∙ h in cc
drop_one_more zero (y ∷ xs) x ys h = cc
drop_one_more (suc n) (y ∷ xs) x ys h = drop_one_more n xs x ys h

pub before_from : (ts : List Tok) → before_comma ts ++ from_comma ts ≡ ts
before_from [] = refl
before_from (t ∷ ts) = elim (is_sign 44 t) as (λ b. cond b [] (t ∷ before_comma ts) ++ cond b (t ∷ ts) (from_comma ts) ≡ t ∷ ts) [ true ↦ refl | false ↦ ap (λ us. t ∷ us) (before_from ts) ]

pub before_of : (n : ℕ) (ts : List Tok) → drop n ts ≡ from_comma ts → take n ts ≡ before_comma ts
before_of n ts e = append_cancel_right _ _ (from_comma ts) (ap (λ us. take n ts ++ us) (sym e) ∙ take-append-drop n ts ∙ sym (before_from ts))

pub drop_past : {X : Type 0} → (n : ℕ) (xs ts : List X) (x : X) (ys : List X) → drop n xs ≡ ts → ts ≡ x ∷ ys → drop (n + 1) xs ≡ ys
drop_past n xs ts x ys h e = rw add-one (drop_one_more n xs x ys (h ∙ e))

-- a token that is no comma is passed
pub comma_past : (ts : List Tok) (t : Tok) (us : List Tok) → ts ≡ t ∷ us → sign_next 44 ts ≡ false → from_comma ts ≡ from_comma us
comma_past ts t us e h =
    let k : is_sign 44 t ≡ false = sym (ap (sign_next 44) e) ∙ h in
    ap from_comma e ∙ ap (λ b. cond b (t ∷ us) (from_comma us)) k

rest_of_past : {X : Type 0} → (n : ℕ) (xs : List X) (x : X) (y : X) (ys : List X) → drop n xs ≡ x ∷ y ∷ ys → drop (suc (suc n)) xs ≡ ys
rest_of_past n xs x y ys h = drop_one_more (suc n) xs y ys (drop_one_more n xs x (y ∷ ys) h)

-- a name and two colons are passed
pub name_drop : (n : ℕ) (xs ts : List Tok) (t : Tok) (us : List Tok) → drop n xs ≡ ts → ts ≡ t ∷ us → colons_next us ≡ true → drop (n + 3) xs ≡ rest_of (rest_of us)
name_drop n xs ts t [] h e k = cc
name_drop n xs ts t (u ∷ []) h e k = cc
name_drop n xs ts t (u ∷ v ∷ us) h e k =
    let three : n + 3 ≡ suc (suc (suc n)) = omega arith in
    rw three (rest_of_past (suc n) xs u v us (drop_one_more n xs t (u ∷ v ∷ us) (h ∙ e)))

pub name_past : (ts : List Tok) (t : Tok) (us : List Tok) → ts ≡ t ∷ us → is_word t ≡ true → colons_next us ≡ true → names_len ts ≡ option_map (λ n. n + 3) (names_len (rest_of (rest_of us)))
name_past ts t us e w k = ap names_len e ∙ names_len_cons t us ∙ rw (w, k) refl

pub name_missing : (ts : List Tok) (t : Tok) (us : List Tok) → ts ≡ t ∷ us → is_word t ≡ true → no_name ts ≡ no_name (rest_of (rest_of us))
name_missing ts t us e w = ap no_name e ∙ no_name_cons t us ∙ rw w refl

-- brackets that are no parentheses
pub no_parens : (d : Delimiter) (ts : Toks) (s : Span) → (d ≡ Parenthesis → ⊥) → in_parens (group d ts s) ≡ None
no_parens Parenthesis ts s h = absurd (h refl)
no_parens Bracket ts s h = refl
no_parens Brace ts s h = refl
no_parens Bare ts s h = refl
