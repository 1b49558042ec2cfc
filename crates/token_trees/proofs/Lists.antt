-- Lists of token trees.
use Rattle.std.proofs.Common.{◌≡◌, ◌-◌, List, [], ◌∷◌, map, length, Some, refl, ap, sym, ◌∙◌, arith}
use Rattle.std.specs.List.{slice_get}
use Rattle.token_trees.specs.Token.{Tok, tok, Toks, no_toks, toks_of, list_of, last_of}

pub map_map : {A B C : Type 0} → (f : A → B) (g : B → C) (xs : List A) → map g (map f xs) ≡ map (λ x. g (f x)) xs
map_map f g [] = refl
map_map f g (x ∷ xs) = ap (λ ys. g (f x) ∷ ys) (map_map f g xs)

pub list_of_toks_of : (ts : List Tok) → list_of (toks_of ts) ≡ ts
list_of_toks_of [] = refl
list_of_toks_of (t ∷ ts) = ap (λ us. t ∷ us) (list_of_toks_of ts)

pub toks_of_list_of : (ts : Toks) → toks_of (list_of ts) ≡ ts
toks_of_list_of no_toks = refl
toks_of_list_of (tok t ts) = ap (λ us. tok t us) (toks_of_list_of ts)

last_of_from : {X : Type 0} → (f : X → Tok) (t : Tok) (x : X) (xs : List X) (l : X) → slice_get (x ∷ xs) (length xs) ≡ Some l → last_of t (map f (x ∷ xs)) ≡ f l
last_of_from f t x [] l h = let e : x ≡ l = cc in ap f e
last_of_from f t x (y ∷ ys) l h = last_of_from f (f x) y ys l h

-- the last tree, where the list has one
pub last_of_end : {X : Type 0} → (f : X → Tok) (t : Tok) (xs : List X) (l : X) → slice_get xs (length xs - 1) ≡ Some l → last_of t (map f xs) ≡ f l
last_of_end f t [] l h = cc
last_of_end f t (x ∷ xs) l h =
    let n : length (x ∷ xs) - 1 ≡ length xs = omega arith in
    last_of_from f t x xs l (ap (slice_get (x ∷ xs)) (sym n) ∙ h)
