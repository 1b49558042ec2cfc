-- Tidying, character by character.
use Rattle.std.proofs.Common.{◌≡◌, ℕ, Bool, true, false, true≢false, List, [], ◌∷◌, ◌++◌, eqb, ◌&&◌, ◌||◌, refl, ap, ◌∙◌, arith, encode_utf8, encode_utf8_all}
use Rattle.std.specs.Prelude.{not, if◌then◌else◌}
use Rattle.std.proofs.lemmas.Bool.{and_parts}
use Rattle.std.proofs.lemmas.Str.{encode_ascii}
use Rattle.tidy_texts.specs.declared.spot.Before.{Before}
use Rattle.tidy_texts.specs.declared.spot.Before.TheVariants.{Open, Name, Other, Literal, Escape}
use Rattle.tidy_texts.specs.declared.spot.Spot.{Spot}
use Rattle.tidy_texts.specs.Tidy.{is_inside, wants_space, needs_space, shows, spot, before_of, next, tidied}
use lib.Utf8.{scalar, scalars}

abbrev pub lead : Bool → List ℕ
lead true = 32 ∷ []
lead false = []

abbrev shown : Bool → ℕ → List ℕ
shown true c = c ∷ []
shown false c = []

abbrev pub codes_from : Spot → List ℕ → List ℕ
codes_from s [] = []
codes_from s (c ∷ cs) = lead (needs_space s c) ++ (shown (shows s c) c ++ codes_from (next s c) cs)

-- ---- in UTF-8

bytes_case : (b d : Bool) (c : ℕ) (ks ts : List ℕ) → encode_utf8_all ks ≡ ts → encode_utf8_all (lead b ++ (shown d c ++ ks)) ≡ ((if b then 32 ∷ [] else []) ++ (if d then encode_utf8 c else [])) ++ ts
bytes_case true true c ks ts h = ap (λ l. l ++ (encode_utf8 c ++ encode_utf8_all ks)) (encode_ascii 32 (omega arith)) ∙ ap (λ z. 32 ∷ (encode_utf8 c ++ z)) h
bytes_case true false c ks ts h = ap (λ l. l ++ encode_utf8_all ks) (encode_ascii 32 (omega arith)) ∙ ap (λ z. 32 ∷ z) h
bytes_case false true c ks ts h = ap (λ z. encode_utf8 c ++ z) h
bytes_case false false c ks ts h = h

pub bytes_are : (s : Spot) (cs : List ℕ) → encode_utf8_all (codes_from s cs) ≡ tidied s cs
bytes_are s [] = refl
bytes_are s (c ∷ cs) = bytes_case (needs_space s c) (shows s c) c (codes_from (next s c) cs) (tidied (next s c) cs) (bytes_are (next s c) cs)

scalars_case : (b d : Bool) (c : ℕ) (ks : List ℕ) → scalar c ≡ true → scalars ks ≡ true → scalars (lead b ++ (shown d c ++ ks)) ≡ true
scalars_case true true c ks h k = ap (λ z. z && scalars ks) h ∙ k
scalars_case true false c ks h k = k
scalars_case false true c ks h k = ap (λ z. z && scalars ks) h ∙ k
scalars_case false false c ks h k = k

pub scalars_kept : (s : Spot) (cs : List ℕ) → scalars cs ≡ true → scalars (codes_from s cs) ≡ true
scalars_kept s [] h = refl
scalars_kept s (c ∷ cs) h =
    let p = and_parts (scalar c) (scalars cs) h in
    scalars_case (needs_space s c) (shows s c) c (codes_from (next s c) cs) p.0 (scalars_kept (next s c) cs p.1)

-- ---- outside of literals

abbrev at_test : Before → Bool → ℕ → List ℕ → Bool → List ℕ
at_test b g c cs z = lead (g && (not z && wants_space b c)) ++ (shown (is_inside b || not z) c ++ codes_from (if z then spot b true else spot (before_of c) false) cs)

-- a character that is no blank
pub step : (b : Before) → is_inside b ≡ false → (g : Bool) (c : ℕ) (cs : List ℕ) → eqb c 32 ≡ false
    → codes_from (spot b g) (c ∷ cs) ≡ lead (g && wants_space b c) ++ (c ∷ codes_from (spot (before_of c) false) cs)
step Open o g c cs h = ap (at_test Open g c cs) h
step Name o g c cs h = ap (at_test Name g c cs) h
step Other o g c cs h = ap (at_test Other g c cs) h
step Literal o g c cs h = absurd (true≢false o)
step Escape o g c cs h = absurd (true≢false o)

-- a blank
pub blank : (b : Before) → is_inside b ≡ false → (cs : List ℕ) → codes_from (spot b false) (32 ∷ cs) ≡ codes_from (spot b true) cs
blank Open o cs = refl
blank Name o cs = refl
blank Other o cs = refl
blank Literal o cs = absurd (true≢false o)
blank Escape o cs = absurd (true≢false o)
