-- The decimal digits of a place, from the last one.
use Rattle.std.proofs.Common.{◌≡◌, ◌≢◌, ℕ, zero, suc, ◌+◌, ◌/◌, ◌%◌, ◌<◌, List, [], ◌∷◌, ◌++◌, map, false, bytes_eq, refl, ap, ◌∙◌, lit≤, arith}
use Rattle.std.specs.Bool.{Decides, one_answer}
use Rattle.std.specs.Int.Digits.{digits_of}
use Rattle.std.proofs.lemmas.Bool.{ne_eqb}
use Rattle.std.proofs.lemmas.Int.Digits.{digits_of_step}
use Rattle.std.proofs.lemmas.List.{append_cancel_right, map-append}
use Rattle.std.proofs.lemmas.Slice.Eq.{bytes_eq-Decides}
use Rattle.schema_defs.specs.Location.{place}
use Rattle.schema_types.proofs.Lists.{not_both}

abbrev pub digits : ℕ → List ℕ
digits n = map (λ d. 48 + d) (digits_of 10 n)

pub digits_step : (n : ℕ) → 0 < n → digits n ≡ digits (n / 10) ++ (48 + n % 10) ∷ []
digits_step n h = ap (map (λ d. 48 + d)) (digits_of_step 10 n (lit≤ tt) h) ∙ map-append (λ d. 48 + d) (digits_of 10 (n / 10)) (n % 10 ∷ [])

none_left : (ds : List ℕ) (y : ℕ) → bytes_eq [] (ds ++ y ∷ []) ≡ false
none_left [] y = refl
none_left (d ∷ ds) y = refl

none_right : (ts : List ℕ) (x : ℕ) → bytes_eq (ts ++ x ∷ []) [] ≡ false
none_right [] x = refl
none_right (t ∷ ts) x = refl

last_differs : (ts ds : List ℕ) (x y : ℕ) → x ≢ y → bytes_eq (ts ++ x ∷ []) (ds ++ y ∷ []) ≡ false
last_differs [] [] x y h = rw (ne_eqb x y h) refl
last_differs [] (d ∷ ds) x y h = not_both _ _ (none_left ds y)
last_differs (t ∷ ts) [] x y h = not_both _ _ (none_right ts x)
last_differs (t ∷ ts) (d ∷ ds) x y h = not_both _ _ (last_differs ts ds x y h)

last_same : (ts ds : List ℕ) (x : ℕ) → bytes_eq (ts ++ x ∷ []) (ds ++ x ∷ []) ≡ bytes_eq ts ds
last_same ts ds x =
    let d = bytes_eq-Decides ts ds in
    let longer : Decides (bytes_eq ts ds) (ts ++ x ∷ [] ≡ ds ++ x ∷ []) = (λ e. ap (λ t. t ++ x ∷ []) (d.0 e), λ p. d.1 (append_cancel_right ts ds (x ∷ []) p)) in
    one_answer (bytes_eq (ts ++ x ∷ []) (ds ++ x ∷ [])) (bytes_eq ts ds) (bytes_eq-Decides (ts ++ x ∷ []) (ds ++ x ∷ [])) longer

-- a text that ends in the last digit
pub ends_alike : (text front : List ℕ) (last n : ℕ) → 0 < n → text ≡ front ++ last ∷ [] → last ≡ 48 + n % 10 → bytes_eq text (digits n) ≡ bytes_eq front (digits (n / 10))
ends_alike text front last n h e same = (λ i. bytes_eq (e i) (digits_step n h i)) ∙ ap (λ x. bytes_eq (front ++ x ∷ []) (digits (n / 10) ++ (48 + n % 10) ∷ [])) same ∙ last_same front (digits (n / 10)) (48 + n % 10)

-- a text that ends in another byte
pub ends_otherwise : (text front : List ℕ) (last n : ℕ) → 0 < n → text ≡ front ++ last ∷ [] → last ≢ 48 + n % 10 → bytes_eq text (digits n) ≡ false
ends_otherwise text front last n h e other = (λ i. bytes_eq (e i) (digits_step n h i)) ∙ last_differs front (digits (n / 10)) last (48 + n % 10) other

-- an empty text
pub ends_early : (n : ℕ) → 0 < n → bytes_eq [] (digits n) ≡ false
ends_early n h = ap (bytes_eq []) (digits_step n h) ∙ none_left (digits (n / 10)) (48 + n % 10)

pub place_zero : place 0 ≡ 48 ∷ []
unfolding place
place_zero = refl

pub place_digits : (n : ℕ) → 0 < n → place n ≡ digits n
unfolding place
place_digits zero h = absurd (omega arith)
place_digits (suc n) h = refl
