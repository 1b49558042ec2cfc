-- Tokens that a text has, and behind them those of another text: some text has them together.
use Rattle.std.proofs.Common.{◌≡◌, ◌+◌, ℕ, Bool, true, false, List, [], ◌∷◌, ◌++◌, cond, eqb, ◌&&◌, ◌||◌, drop, length, Some, refl, ap, sym, subst, ◌∙◌, add-one}
use Rattle.std.specs.Char.{is_whitespace}
use Rattle.std.specs.Str.{skip_leading_whitespace}
use Rattle.std.proofs.lemmas.Bool.{and_parts}
use Rattle.token_trees.specs.declared.token.Spacing.{Spacing}
use Rattle.token_trees.specs.declared.token.Spacing.TheVariants.{Alone, Joint}
use Rattle.token_trees.specs.Text.{Piece, name, sign, constant, opens, closes, is_joint}
use Rattle.rust_tokens.specs.Front.{begins_name, is_punctuation, spacing_of, front}
use Rattle.rust_tokens.specs.Reading.{Reads}
use Rattle.rust_tokens.proofs.Readings.{past_reads, reads_past}
use Rattle.rust_tokens.proofs.Whites.{or_case, punctuation_no_white, begins_no_white}
use Rattle.rust_tokens.proofs.Printing.{scalars_append, scalars_drop}
use Rattle.rust_tokens.proofs.Stable.{SignFits, Fits, printed, sign_joint}
use lib.Utf8.{scalar, scalars}

-- some characters are those tokens
pub record HasText (xs : List Piece) : Type 0 where
  pub codes : List ℕ
  pub scalar_values : scalars codes ≡ true
  pub reads : Reads codes xs []

-- ---- white space

abbrev past : List ℕ → List ℕ
past = skip_leading_whitespace

past_scalars_case : (c : ℕ) (cs : List ℕ) (b : Bool) → scalars (c ∷ cs) ≡ true → scalars (past cs) ≡ true → scalars (cond b (past cs) (c ∷ cs)) ≡ true
past_scalars_case c cs true h k = k
past_scalars_case c cs false h k = h

pub past_scalars : (cs : List ℕ) → scalars cs ≡ true → scalars (past cs) ≡ true
past_scalars [] h = refl
past_scalars (c ∷ cs) h = past_scalars_case c cs (is_whitespace c) h (past_scalars cs (and_parts (scalar c) (scalars cs) h).1)

past_head_case : (c : ℕ) (cs : List ℕ) (b : Bool) → is_whitespace c ≡ b → ((d : ℕ) (ds : List ℕ) → past cs ≡ d ∷ ds → is_whitespace d ≡ false) → (d : ℕ) (ds : List ℕ) → cond b (past cs) (c ∷ cs) ≡ d ∷ ds → is_whitespace d ≡ false
past_head_case c cs true e h d ds k = h d ds k
past_head_case c cs false e h d ds k = let same : c ≡ d = cc in sym (ap is_whitespace same) ∙ e

-- past white space stands none
past_head : (cs : List ℕ) (d : ℕ) (ds : List ℕ) → past cs ≡ d ∷ ds → is_whitespace d ≡ false
past_head [] d ds e = absurd (cc)
past_head (c ∷ cs) d ds e = past_head_case c cs (is_whitespace c) refl (past_head cs) d ds e

past_solid : (c : ℕ) (cs : List ℕ) → is_whitespace c ≡ false → past (c ∷ cs) ≡ c ∷ cs
past_solid c cs h = ap (λ b. cond b (past cs) (c ∷ cs)) h

-- a space, where none may be missing
abbrev apart : Bool → List ℕ → List ℕ
apart true ks = ks
apart false ks = 32 ∷ ks

apart_scalars : (b : Bool) (ks : List ℕ) → scalars ks ≡ true → scalars (apart b ks) ≡ true
apart_scalars true ks h = h
apart_scalars false ks h = h

apart_reads : (b : Bool) (xs : List Piece) (ks : List ℕ) → Reads ks xs [] → Reads (apart b ks) xs []
apart_reads true xs ks h = h
apart_reads false xs ks h = reads_past (32 ∷ ks) xs [] (past_reads ks xs [] h)

-- ---- joint characters

-- what comes first past white space comes first in the other characters
abbrev SameHead : List ℕ → List ℕ → Type 0
SameHead cs ks = (c : ℕ) × (ds : List ℕ) × (es : List ℕ) × (past cs ≡ c ∷ ds) × (ks ≡ c ∷ es)

abbrev Heads : List ℕ → List Piece → List ℕ → Type 0
Heads cs [] ks = Unit {0}
Heads cs (y ∷ ys) ks = SameHead cs ks

joint_case : (c d : ℕ) (b : Bool) → (is_punctuation d || ((eqb c 39) && begins_name d)) ≡ b → cond b Joint Alone ≡ Joint → is_whitespace d ≡ false
joint_case c d true e h =
    or_case (is_punctuation d) ((eqb c 39) && begins_name d) (is_whitespace d ≡ false) (punctuation_no_white d) (λ k. begins_no_white d (and_parts (eqb c 39) (begins_name d) k).1) e
joint_case c d false e h = absurd (cc)

-- after a joint character stands what makes it so, and no white space
joint_solid : (c d : ℕ) (ds : List ℕ) → spacing_of c (d ∷ ds) ≡ Joint → is_whitespace d ≡ false
joint_solid c d ds h = joint_case c d (is_punctuation d || ((eqb c 39) && begins_name d)) refl h

joint_tail : (c : ℕ) (ds : List ℕ) (xs : List Piece) (ks : List ℕ) → spacing_of c ds ≡ Joint → Reads ds xs [] → Heads ds xs ks → spacing_of c ks ≡ Joint
joint_tail c [] xs ks j r h = absurd (cc)
joint_tail c (d ∷ ds) [] ks j r h = absurd (let solid = past_solid d ds (joint_solid c d ds j) in let bad = r ∙ solid in cc)
joint_tail c (d ∷ ds) (y ∷ ys) ks j r h =
    let solid = past_solid d ds (joint_solid c d ds j) in
    let both : h.0 ∷ h.1 ≡ d ∷ ds = sym h.3 ∙ solid in
    let same : d ≡ h.0 = cc in
    ap (spacing_of c) h.4 ∙ ap (λ x. cond (is_punctuation x || ((eqb c 39) && begins_name x)) Joint Alone) (sym same) ∙ j

sign_tail : (c : ℕ) (j : Spacing) (ds : List ℕ) (xs : List Piece) (ks : List ℕ) → spacing_of c ds ≡ j → Reads ds xs [] → Heads ds xs ks → SignFits j c (apart (is_joint (sign c j)) ks)
sign_tail c Alone ds xs ks s r h = refl
sign_tail c Joint ds xs ks s r h = joint_tail c ds xs ks s r h

fits_tail : (x : Piece) (c : ℕ) (ds : List ℕ) (n : ℕ) (xs : List Piece) (ks : List ℕ) → front (c ∷ ds) ≡ Some (x, n) → Reads (drop n (c ∷ ds)) xs [] → Heads (drop n (c ∷ ds)) xs ks → Fits x c (apart (is_joint x) ks)
fits_tail (name v) c ds n xs ks e r h = refl
fits_tail (constant v) c ds n xs ks e r h = refl
fits_tail (opens d) c ds n xs ks e r h = refl
fits_tail (closes d) c ds n xs ks e r h = refl
fits_tail (sign s j) c ds n xs ks e r h =
    let is = sign_joint c ds s j n e in
    let R : ℕ → Type 0 = λ k. Reads (drop k (c ∷ ds)) xs [] in
    let H : ℕ → Type 0 = λ k. Heads (drop k (c ∷ ds)) xs ks in
    let P : ℕ → Type 0 = λ k. SignFits j c (apart (is_joint (sign k j)) ks) in
    subst P is.same (sign_tail c j ds xs ks is.spacing (subst R is.one r) (subst H is.one h))

-- ---- token by token

drop_all : (xs ys : List ℕ) → drop (length xs) (xs ++ ys) ≡ ys
drop_all [] ys = refl
drop_all (x ∷ xs) ys = drop_all xs ys

drop_own : (xs ys : List ℕ) (c : ℕ) → drop (length xs + 1) (c ∷ (xs ++ ys)) ≡ ys
drop_own xs ys c = ap (λ n. drop n (c ∷ (xs ++ ys))) (add-one (length xs)) ∙ drop_all xs ys

-- characters that begin as cs do, and are the first tokens and then the second
record Together (cs : List ℕ) (xs ys : List Piece) : Type 0 where
  pub codes : List ℕ
  pub scalar_values : scalars codes ≡ true
  pub reads : Reads codes (xs ++ ys) []
  pub heads : Heads cs xs codes

one_more : (cs : List ℕ) (x : Piece) (xs ys : List Piece) (n : ℕ) (c : ℕ) (ds : List ℕ) → past cs ≡ c ∷ ds → scalars (c ∷ ds) ≡ true → front (c ∷ ds) ≡ Some (x, n) → Reads (drop n (c ∷ ds)) xs []
    → Together (drop n (c ∷ ds)) xs ys → Together cs (x ∷ xs) ys
one_more cs x xs ys n c ds p h e r a =
    let one = printed c ds x n h e in
    let tail = apart (is_joint x) a.codes in
    let solid = past_solid c (one.more ++ tail) (past_head cs c ds p) in
    let R : List ℕ → Type 0 = λ q. Reads q (xs ++ ys) [] in
    let D : List ℕ → Type 0 = λ q. Reads (drop (length one.more + 1) q) (xs ++ ys) [] in
    record {
      codes = c ∷ (one.more ++ tail);
      scalar_values = scalars_append (c ∷ one.more) tail one.scalar_values (apart_scalars (is_joint x) a.codes a.scalar_values);
      reads = (
        length one.more + 1,
        ap front solid ∙ one.reads tail (fits_tail x c ds n xs a.codes e r a.heads),
        subst D (sym solid) (subst R (sym (drop_own one.more tail c)) (apart_reads (is_joint x) (xs ++ ys) a.codes a.reads)),
      );
      heads = (c, ds, one.more ++ tail, p, refl);
    }

by_characters : (cs : List ℕ) (x : Piece) (xs ys : List Piece) (n : ℕ) (q : List ℕ) → past cs ≡ q → scalars q ≡ true → front q ≡ Some (x, n) → Reads (drop n q) xs [] → ((ds : List ℕ) → scalars ds ≡ true → Reads ds xs [] → Together ds xs ys) → Together cs (x ∷ xs) ys
by_characters cs x xs ys n [] p h e r rec = absurd (cc)
by_characters cs x xs ys n (c ∷ ds) p h e r rec =
    one_more cs x xs ys n c ds p h e r (rec (drop n (c ∷ ds)) (scalars_drop n (c ∷ ds) h) r)

together : (xs ys : List Piece) (cs : List ℕ) → scalars cs ≡ true → Reads cs xs [] → HasText ys → Together cs xs ys
together [] ys cs h r t = record { codes = t.codes; scalar_values = t.scalar_values; reads = t.reads; heads = tt }
together (x ∷ xs) ys cs h r t =
    by_characters cs x xs ys r.0 (past cs) refl (past_scalars cs h) r.1 r.2 (λ ds k s. together xs ys ds k s t)

pub joined : (xs ys : List Piece) → HasText xs → HasText ys → HasText (xs ++ ys)
joined xs ys t u = let a = together xs ys t.codes t.scalar_values t.reads u in record { codes = a.codes; scalar_values = a.scalar_values; reads = a.reads }
