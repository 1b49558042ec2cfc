-- Places compared step by step.
use Rattle.std.proofs.Common.{◌≡◌, List, [], ◌∷◌, map, String, Global, string_bytes, string_cmp, nat_cmp, refl, ap}
use Rattle.std.specs.Ordering.{ordering_then}
use Rattle.std.specs.Cmp.Lexicographic.{slice_cmp}

pub mapped_cmp : (xs ys : List (String Global)) → slice_cmp string_cmp xs ys ≡ slice_cmp (slice_cmp nat_cmp) (map string_bytes xs) (map string_bytes ys)
mapped_cmp [] [] = refl
mapped_cmp [] (y ∷ ys) = refl
mapped_cmp (x ∷ xs) [] = refl
mapped_cmp (x ∷ xs) (y ∷ ys) = ap (ordering_then (slice_cmp nat_cmp (string_bytes x) (string_bytes y))) (mapped_cmp xs ys)
