-- The rows of tuples and arrays, by their places.
use Rattle.std.proofs.Common.{◌≡◌, ℕ, List, [], ◌∷◌, map, length, Bool, true, false, refl, sym, ap, ◌∙◌}
use Rattle.std.specs.Prelude.{◌==◌, if◌then◌else◌}
use Rattle.std.proofs.lemmas.Bool.{eq-eqb}
use Rattle.std.proofs.lemmas.List.{length-map}
use Rattle.model_defs.specs.Types.{TypeModel}
use Rattle.evolve_defs.specs.Steps as steps
use Rattle.evolve_defs.specs.Steps.{length_differs, each_to, to_each, reaches_if}
use Rattle.evolve_defs.specs.Walk.{Turn, stops, goes}
use Rattle.evolve_defs.specs.Spots.{Spots, of_type, type_spot, typed}
use Rattle.evolve_rows.specs.TurnView.{spots_of, to_one, from_one, by_place, by_lengths}
use Rattle.evolve_rows.proofs.Finding.{each_spots}

abbrev spots : List steps.Pair → List Spots
spots ps = map (λ p. (type_spot p.0, type_spot p.1)) ps

from_spots : (s : TypeModel) (ts : List TypeModel) → from_one (of_type s) (spots_of ts) ≡ spots (to_each s ts)
from_spots s [] = refl
from_spots s (t ∷ ts) = ap (λ ps. (of_type s, of_type t) ∷ ps) (from_spots s ts)

place_spots : (ss ts : List TypeModel) → by_place (spots_of ss) (spots_of ts) ≡ spots (steps.by_place ss ts)
place_spots [] ts = refl
place_spots (s ∷ ss) [] = refl
place_spots (s ∷ ss) (t ∷ ts) = ap (λ ps. (of_type s, of_type t) ∷ ps) (place_spots ss ts)

so_long : (b : Bool) (ps : List steps.Pair) (qs : List Spots) (x : Turn Spots) → b ≡ true → qs ≡ spots ps → x ≡ goes qs → x ≡ typed (reaches_if b length_differs ps)
so_long b ps qs x h e f = f ∙ ap goes e ∙ ap (λ c. typed (reaches_if c length_differs ps)) (sym h)

pub to_each_says : (s : TypeModel) (ts : List TypeModel) (n : ℕ) (x : Turn Spots) → n ≡ length ts → x ≡ goes (from_one (of_type s) (spots_of ts)) → x ≡ typed (reaches_if (n == length ts) length_differs (to_each s ts))
to_each_says s ts n x h e = so_long (n == length ts) (to_each s ts) (from_one (of_type s) (spots_of ts)) x (eq-eqb n (length ts) h) (from_spots s ts) e

pub each_to_says : (ss : List TypeModel) (t : TypeModel) (n : ℕ) (x : Turn Spots) → length ss ≡ n → x ≡ goes (to_one (spots_of ss) (of_type t)) → x ≡ typed (reaches_if (length ss == n) length_differs (each_to ss t))
each_to_says ss t n x h e = so_long (length ss == n) (each_to ss t) (to_one (spots_of ss) (of_type t)) x (eq-eqb (length ss) n h) (each_spots ss t) e

by_test : (b : Bool) (ps : List steps.Pair) (qs : List Spots) → qs ≡ spots ps → (if b then goes qs else stops length_differs) ≡ typed (reaches_if b length_differs ps)
by_test true ps qs e = ap goes e
by_test false ps qs e = refl

pub by_lengths_says : (ss ts : List TypeModel) → by_lengths (spots_of ss) (spots_of ts) ≡ typed (reaches_if (length ss == length ts) length_differs (steps.by_place ss ts))
by_lengths_says ss ts =
    (λ i. if length-map ss of_type i == length-map ts of_type i then goes (by_place (spots_of ss) (spots_of ts)) else stops length_differs)
    ∙ by_test (length ss == length ts) (steps.by_place ss ts) (by_place (spots_of ss) (spots_of ts)) (place_spots ss ts)
