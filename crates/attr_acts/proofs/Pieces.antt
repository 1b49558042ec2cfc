-- The first piece of a list of metas, and the path in front of it.
use Rattle.std.proofs.Common.{◌≡◌, ℕ, ◌+◌, ◌≤◌, ◌&&◌, List, [], ◌∷◌, Bool, true, false, cond, Some, None, length, refl, ap, sym, ◌∙◌, arith, nat_eq}
use Rattle.std.specs.Prelude.{Option, option_map}
use Rattle.std.proofs.lemmas.Bool.Decides.{nat_tests}
use Rattle.token_trees.specs.declared.token.Span.{Span}
use Rattle.token_trees.specs.Token.{Tok, word, mark, fixed, group, span_of}
use Rattle.syntax_trees.specs.Metas.{is_word, is_sign, is_joint, is_joint_sign, colons_next, names_len, path_len, rest_of, before_comma, from_comma, place}
use Rattle.syntax_trees.proofs.Metas.{names_len_cons}
use Rattle.attr_defs.specs.Metas.{PieceD, pieces, with_front}

-- the first piece and the others
pub pieces_cons : (at : Span) (t : Tok) (us : List Tok) → pieces at (t ∷ us) ≡ record { tokens = before_comma (t ∷ us); end = place at (from_comma (t ∷ us)) } ∷ pieces at (rest_of (from_comma (t ∷ us)))
pieces_cons at t [] =
    elim (is_sign 44 t) as (λ b. ◌≡◌ {A = List PieceD} (cond b (record { tokens = []; end = span_of t } ∷ []) (record { tokens = t ∷ []; end = at } ∷ [])) (record { tokens = cond b [] (t ∷ []); end = place at (cond b (t ∷ []) []) } ∷ pieces at (rest_of (cond b (t ∷ []) [])))) [ true ↦ refl | false ↦ refl ]
pieces_cons at t (u ∷ us) =
    let e = pieces_cons at u us in
    elim (is_sign 44 t) as (λ b. ◌≡◌ {A = List PieceD} (cond b (record { tokens = []; end = span_of t } ∷ pieces at (u ∷ us)) (with_front at t (pieces at (u ∷ us)))) (record { tokens = cond b [] (t ∷ before_comma (u ∷ us)); end = place at (cond b (t ∷ u ∷ us) (from_comma (u ∷ us))) } ∷ pieces at (rest_of (cond b (t ∷ u ∷ us) (from_comma (u ∷ us)))))) [ true ↦ refl | false ↦ ap (with_front at t) e ]

and_left : (a b : Bool) → (a && b) ≡ true → a ≡ true
and_left true b h = refl
and_left false b h = cc

and_right : (a b : Bool) → (a && b) ≡ true → b ≡ true
and_right true b h = h
and_right false b h = cc

and_false : (a : Bool) → (a && false) ≡ false
and_false true = refl
and_false false = refl

apart : (c : ℕ) → nat_eq 44 c ≡ true → nat_eq 58 c ≡ false
apart c h = grind (arith, nat_tests)

comma_no_colon : (t : Tok) → is_sign 44 t ≡ true → is_sign 58 t ≡ false
comma_no_colon (word x s) h = refl
comma_no_colon (mark c j s) h = apart c h
comma_no_colon (fixed l s) h = refl
comma_no_colon (group d ts s) h = refl

comma_no_joint : (t : Tok) → is_sign 44 t ≡ true → is_joint_sign 58 t ≡ false
comma_no_joint (word x s) h = refl
comma_no_joint (mark c j s) h = ap (λ b. b && is_joint j) (apart c h)
comma_no_joint (fixed l s) h = refl
comma_no_joint (group d ts s) h = refl

colon_no_comma : (t : Tok) → is_sign 58 t ≡ true → is_sign 44 t ≡ false
colon_no_comma (word x s) h = refl
colon_no_comma (mark c j s) h = grind (arith, nat_tests)
colon_no_comma (fixed l s) h = refl
colon_no_comma (group d ts s) h = refl

joint_sign : (t : Tok) → is_joint_sign 58 t ≡ true → is_sign 58 t ≡ true
joint_sign (word x s) h = cc
joint_sign (mark c j s) h = and_left (nat_eq 58 c) (is_joint j) h
joint_sign (fixed l s) h = cc
joint_sign (group d ts s) h = cc

pub word_no_comma : (t : Tok) → is_word t ≡ true → is_sign 44 t ≡ false
word_no_comma (word x s) h = refl
word_no_comma (mark c j s) h = cc
word_no_comma (fixed l s) h = refl
word_no_comma (group d ts s) h = refl

comma_no_word : (t : Tok) → is_sign 44 t ≡ true → is_word t ≡ false
comma_no_word (word x s) h = cc
comma_no_word (mark c j s) h = refl
comma_no_word (fixed l s) h = refl
comma_no_word (group d ts s) h = refl

pub before_past : (t : Tok) (us : List Tok) → is_sign 44 t ≡ false → before_comma (t ∷ us) ≡ t ∷ before_comma us
before_past t us h = ap (λ b. cond b [] (t ∷ before_comma us)) h

pub from_past : (t : Tok) (us : List Tok) → is_sign 44 t ≡ false → from_comma (t ∷ us) ≡ from_comma us
from_past t us h = ap (λ b. cond b (t ∷ us) (from_comma us)) h

pub before_at : (t : Tok) (us : List Tok) → is_sign 44 t ≡ true → before_comma (t ∷ us) ≡ []
before_at t us h = ap (λ b. cond b [] (t ∷ before_comma us)) h

pub from_at : (t : Tok) (us : List Tok) → is_sign 44 t ≡ true → from_comma (t ∷ us) ≡ t ∷ us
from_at t us h = ap (λ b. cond b (t ∷ us) (from_comma us)) h

-- two colons in front are no commas
first_colon : (u v : Tok) (vs : List Tok) → colons_next (u ∷ v ∷ vs) ≡ true → is_sign 44 u ≡ false
first_colon u v vs h = colon_no_comma u (joint_sign u (and_left (is_joint_sign 58 u) (is_sign 58 v) h))

second_colon : (u v : Tok) (vs : List Tok) → colons_next (u ∷ v ∷ vs) ≡ true → is_sign 44 v ≡ false
second_colon u v vs h = colon_no_comma v (and_right (is_joint_sign 58 u) (is_sign 58 v) h)

pub two_before : (us : List Tok) → colons_next us ≡ true → rest_of (rest_of (before_comma us)) ≡ before_comma (rest_of (rest_of us))
two_before [] h = cc
two_before (u ∷ []) h = cc
two_before (u ∷ v ∷ vs) h =
    ap (λ ts. rest_of (rest_of ts)) (before_past u (v ∷ vs) (first_colon u v vs h))
    ∙ ap rest_of (before_past v vs (second_colon u v vs h))

pub two_from : (us : List Tok) → colons_next us ≡ true → from_comma us ≡ from_comma (rest_of (rest_of us))
two_from [] h = cc
two_from (u ∷ []) h = cc
two_from (u ∷ v ∷ vs) h = from_past u (v ∷ vs) (first_colon u v vs h) ∙ from_past v vs (second_colon u v vs h)

colons_before_by : (u v : Tok) (vs : List Tok) (a b : Bool) → is_sign 44 u ≡ a → is_sign 44 v ≡ b → colons_next (before_comma (u ∷ v ∷ vs)) ≡ colons_next (u ∷ v ∷ vs)
colons_before_by u v vs true b h k = ap colons_next (before_at u (v ∷ vs) h) ∙ sym (ap (λ c. c && is_sign 58 v) (comma_no_joint u h))
colons_before_by u v vs false true h k =
    ap colons_next (before_past u (v ∷ vs) h ∙ ap (λ ts. u ∷ ts) (before_at v vs k))
    ∙ sym (ap (λ c. is_joint_sign 58 u && c) (comma_no_colon v k) ∙ and_false (is_joint_sign 58 u))
colons_before_by u v vs false false h k = ap colons_next (before_past u (v ∷ vs) h ∙ ap (λ ts. u ∷ ts) (before_past v vs k))

colons_before_one : (u : Tok) (a : Bool) → is_sign 44 u ≡ a → colons_next (before_comma (u ∷ [])) ≡ false
colons_before_one u true h = ap colons_next (before_at u [] h)
colons_before_one u false h = ap colons_next (before_past u [] h)

pub colons_before : (us : List Tok) → colons_next (before_comma us) ≡ colons_next us
colons_before [] = refl
colons_before (u ∷ []) = colons_before_one u (is_sign 44 u) refl
colons_before (u ∷ v ∷ vs) = colons_before_by u v vs (is_sign 44 u) (is_sign 44 v) refl refl

-- a path lies in the first piece
no_word_no_names : (t : Tok) (us : List Tok) (b : Bool) → is_word t ≡ b → names_len (t ∷ us) ≡ cond (is_word t) (names_len (t ∷ us)) None
no_word_no_names t us true h = sym (ap (λ w. cond w (names_len (t ∷ us)) None) h)
no_word_no_names t us false h = names_len_cons t us ∙ ap (λ w. cond w (cond (colons_next us) (option_map (λ n. n + 3) (names_len (rest_of (rest_of us)))) (Some 1)) None) h ∙ sym (ap (λ w. cond w (names_len (t ∷ us)) None) h)

name_first_by : (t : Tok) (us : List Tok) (b : Bool) → is_sign 44 t ≡ b → names_len (before_comma (t ∷ us)) ≡ cond (is_word t) (names_len (t ∷ before_comma us)) None
name_first_by t us true h = ap names_len (before_at t us h) ∙ sym (ap (λ w. cond w (names_len (t ∷ before_comma us)) None) (comma_no_word t h))
name_first_by t us false h = ap names_len (before_past t us h) ∙ no_word_no_names t (before_comma us) (is_word t) refl

abbrev more_names : List Tok → Option ℕ
more_names us = cond (colons_next us) (option_map (λ n. n + 3) (names_len (rest_of (rest_of us)))) (Some 1)

more_before : (us : List Tok) (b : Bool) → colons_next us ≡ b → names_len (before_comma (rest_of (rest_of us))) ≡ names_len (rest_of (rest_of us)) → more_names (before_comma us) ≡ more_names us
more_before us true h e =
    ap (λ c. cond c (option_map (λ n. n + 3) (names_len (rest_of (rest_of (before_comma us))))) (Some 1)) (colons_before us ∙ h)
    ∙ ap (λ ts. option_map (λ n. n + 3) (names_len ts)) (two_before us h)
    ∙ ap (option_map (λ n. n + 3)) e
    ∙ sym (ap (λ c. cond c (option_map (λ n. n + 3) (names_len (rest_of (rest_of us)))) (Some 1)) h)
more_before us false h e =
    ap (λ c. cond c (option_map (λ n. n + 3) (names_len (rest_of (rest_of (before_comma us))))) (Some 1)) (colons_before us ∙ h)
    ∙ sym (ap (λ c. cond c (option_map (λ n. n + 3) (names_len (rest_of (rest_of us)))) (Some 1)) h)

cond_same : {X : Type 0} → (b : Bool) (x y z : X) → x ≡ y → cond b (cond b x z) z ≡ cond b y z
cond_same true x y z h = h
cond_same false x y z h = refl

names_step : (t : Tok) (us : List Tok) → names_len (before_comma (rest_of (rest_of us))) ≡ names_len (rest_of (rest_of us)) → names_len (before_comma (t ∷ us)) ≡ names_len (t ∷ us)
names_step t us e =
    name_first_by t us (is_sign 44 t) refl
    ∙ ap (λ o. cond (is_word t) o None) (names_len_cons t (before_comma us))
    ∙ cond_same (is_word t) _ _ None (more_before us (colons_next us) refl e)
    ∙ sym (names_len_cons t us)

pub names_len_before : (ts : List Tok) → names_len (before_comma ts) ≡ names_len ts
names_len_before [] = refl
names_len_before (t ∷ []) = names_step t [] refl
names_len_before (t ∷ u ∷ []) = names_step t (u ∷ []) refl
names_len_before (t ∷ u ∷ v ∷ ts) = names_step t (u ∷ v ∷ ts) (names_len_before ts)

path_len_by : (ts : List Tok) (b : Bool) → colons_next ts ≡ b → path_len (before_comma ts) ≡ path_len ts
path_len_by ts true h =
    ap (λ c. cond c (option_map (λ n. n + 2) (names_len (rest_of (rest_of (before_comma ts))))) (names_len (before_comma ts))) (colons_before ts ∙ h)
    ∙ ap (λ us. option_map (λ n. n + 2) (names_len us)) (two_before ts h)
    ∙ ap (option_map (λ n. n + 2)) (names_len_before (rest_of (rest_of ts)))
    ∙ sym (ap (λ c. cond c (option_map (λ n. n + 2) (names_len (rest_of (rest_of ts)))) (names_len ts)) h)
path_len_by ts false h =
    ap (λ c. cond c (option_map (λ n. n + 2) (names_len (rest_of (rest_of (before_comma ts))))) (names_len (before_comma ts))) (colons_before ts ∙ h)
    ∙ names_len_before ts
    ∙ sym (ap (λ c. cond c (option_map (λ n. n + 2) (names_len (rest_of (rest_of ts)))) (names_len ts)) h)

pub path_len_before : (ts : List Tok) → path_len (before_comma ts) ≡ path_len ts
path_len_before ts = path_len_by ts (colons_next ts) refl

-- how far a path reaches
mapped_some : (k : ℕ) (o : Option ℕ) (l : ℕ) (n : ℕ) → ((m : ℕ) → o ≡ Some m → (1 ≤ m) × (m ≤ l)) → option_map (λ m. m + k) o ≡ Some n → (1 ≤ n) × (n ≤ l + k)
mapped_some k None l n f h = cc
mapped_some k (Some m) l n f h = let e : m + k ≡ n = cc in let g = f m refl in (omega arith, omega arith)

rest_length : (us : List Tok) → colons_next us ≡ true → length (rest_of (rest_of us)) + 2 ≡ length us
rest_length [] h = cc
rest_length (u ∷ []) h = cc
rest_length (u ∷ v ∷ vs) h = omega arith

names_within_by : (t : Tok) (us : List Tok) (w c : Bool) → is_word t ≡ w → colons_next us ≡ c → (n : ℕ) → ((m : ℕ) → names_len (rest_of (rest_of us)) ≡ Some m → (1 ≤ m) × (m ≤ length (rest_of (rest_of us)))) → names_len (t ∷ us) ≡ Some n → (1 ≤ n) × (n ≤ length (t ∷ us))
names_within_by t us false c h k n f e = let z : None ≡ Some n = sym (names_len_cons t us ∙ ap (λ w. cond w (more_names us) None) h) ∙ e in cc
names_within_by t us true false h k n f e =
    let z : Some 1 ≡ Some n = sym (names_len_cons t us ∙ ap (λ w. cond w (more_names us) None) h ∙ ap (λ c. cond c (option_map (λ n. n + 3) (names_len (rest_of (rest_of us)))) (Some 1)) k) ∙ e in
    let o : 1 ≡ n = cc in (omega arith, omega arith)
names_within_by t us true true h k n f e =
    let z = sym (names_len_cons t us ∙ ap (λ w. cond w (more_names us) None) h ∙ ap (λ c. cond c (option_map (λ n. n + 3) (names_len (rest_of (rest_of us)))) (Some 1)) k) ∙ e in
    let g = mapped_some 3 (names_len (rest_of (rest_of us))) (length (rest_of (rest_of us))) n f z in
    let r : length (rest_of (rest_of us)) + 2 ≡ length us = rest_length us k in
    (g.0, omega (arith, g.1, r))

pub names_within : (ts : List Tok) (n : ℕ) → names_len ts ≡ Some n → (1 ≤ n) × (n ≤ length ts)
names_within [] n e = cc
names_within (t ∷ []) n e = names_within_by t [] (is_word t) false refl refl n (λ m h. cc) e
names_within (t ∷ u ∷ []) n e = names_within_by t (u ∷ []) (is_word t) false refl refl n (λ m h. cc) e
names_within (t ∷ u ∷ v ∷ ts) n e = names_within_by t (u ∷ v ∷ ts) (is_word t) (colons_next (u ∷ v ∷ ts)) refl refl n (λ m h. names_within ts m h) e

path_within_by : (ts : List Tok) (c : Bool) → colons_next ts ≡ c → (n : ℕ) → path_len ts ≡ Some n → (1 ≤ n) × (n ≤ length ts)
path_within_by ts false h n e = names_within ts n (sym (ap (λ c. cond c (option_map (λ n. n + 2) (names_len (rest_of (rest_of ts)))) (names_len ts)) h) ∙ e)
path_within_by ts true h n e =
    let z = sym (ap (λ c. cond c (option_map (λ n. n + 2) (names_len (rest_of (rest_of ts)))) (names_len ts)) h) ∙ e in
    let g = mapped_some 2 (names_len (rest_of (rest_of ts))) (length (rest_of (rest_of ts))) n (names_within (rest_of (rest_of ts))) z in
    let r : length (rest_of (rest_of ts)) + 2 ≡ length ts = rest_length ts h in
    (g.0, omega (arith, g.1, r))

pub path_within : (ts : List Tok) (n : ℕ) → path_len ts ≡ Some n → (1 ≤ n) × (n ≤ length ts)
path_within ts n e = path_within_by ts (colons_next ts) refl n e
