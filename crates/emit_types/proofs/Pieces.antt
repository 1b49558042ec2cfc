-- Lists that are appended to.
use Rattle.std.proofs.Common.{◌≡◌, ◌+◌, suc, List, [], ◌∷◌, ◌++◌, map, length, length-append, append_assoc, refl, ap, arith}

pub assoc : {A : Type 0} (xs ys zs : List A) → (xs ++ ys) ++ zs ≡ xs ++ (ys ++ zs)
assoc xs ys zs = append_assoc xs ys zs

as_many : {A B : Type 0} (f : A → B) (xs : List A) → length (map f xs) ≡ length xs
as_many f [] = refl
as_many f (x ∷ xs) = ap suc (as_many f xs)

-- as many more as were appended
pub grown : {A B : Type 0} (f : A → B) (new old : List A) (xs : List B) → map f new ≡ map f old ++ xs → length new ≡ length old + length xs
grown f new old xs e =
    let a = as_many f new in
    let b = as_many f old in
    let c = length-append (map f old) xs in
    let d : length (map f new) ≡ length (map f old ++ xs) = ap length e in
    omega arith
