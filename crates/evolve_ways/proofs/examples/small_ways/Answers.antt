use Rattle.std.proofs.Common.{◌≡◌, ℕ, zero, suc, List, [], ◌∷◌, Bool, true, false, Option, None, Some, bytes_eq, slice_get, refl, sym, ap, ◌∙◌, true≢false}
use Rattle.model_defs.specs.Types.{option_type, vec_type}
use Rattle.model_defs.specs.Examples.{a, b, byte, t}
use Rattle.evolve_defs.specs.Forms.{Node, a_type}
use Rattle.evolve_defs.specs.Steps.{Pair, reaches}
use Rattle.evolve_defs.specs.Examples.{long, short, lone}
use Rattle.evolve_ways.specs.Ways.{Told, field_mark, item_mark, IsStep, there, inside, onward}
use Rattle.evolve_ways.specs.Examples.{longs, shorts}
use Rattle.evolve_ways.proofs.examples.small_ways.Goals as goal

to_b : IsStep (lone longs) (lone shorts) (a_type t) (a_type t) (Some (field_mark b)) (a_type (vec_type (option_type long))) (a_type (vec_type (option_type short)))
to_b = record { number = 1; pairs = (a_type byte, a_type byte) ∷ (a_type (vec_type (option_type long)), a_type (vec_type (option_type short))) ∷ []; reached = refl; pair = refl; mark = refl }

to_item : IsStep (lone longs) (lone shorts) (a_type (vec_type (option_type long))) (a_type (vec_type (option_type short))) (Some item_mark) (a_type (option_type long)) (a_type (option_type short))
to_item = record { number = 0; pairs = (a_type (option_type long), a_type (option_type short)) ∷ []; reached = refl; pair = refl; mark = refl }

to_some : IsStep (lone longs) (lone shorts) (a_type (option_type long)) (a_type (option_type short)) None (a_type long) (a_type short)
to_some = record { number = 0; pairs = (a_type long, a_type short) ∷ []; reached = refl; pair = refl; mark = refl }

-- the two pairs that are reached
abbrev all : List Pair
all = (a_type byte, a_type byte) ∷ (a_type (vec_type (option_type long)), a_type (vec_type (option_type short))) ∷ []

reached_so : (ps : List Pair) → reaches all ≡ reaches ps → all ≡ ps
reached_so ps h = cc

abbrev is_vec : Node → Bool
is_vec (a_type (vec_type s)) = true
is_vec _ = false

abbrev old_is_vec : Option Pair → Bool
old_is_vec None = false
old_is_vec (Some p) = is_vec p.0

abbrev is_a : Option Told → Bool
is_a (Some (Some (field_mark n))) = bytes_eq n a
is_a _ = false

by_number : (k : ℕ) → slice_get (Some (field_mark a) ∷ Some (field_mark b) ∷ []) k ≡ Some (Some (field_mark a)) → slice_get all k ≡ Some (a_type (vec_type (option_type long)), a_type (vec_type (option_type short))) → ⊥
by_number zero m e = true≢false (sym (ap old_is_vec e))
by_number (suc zero) m e = true≢false (sym (ap is_a m))
by_number (suc (suc k)) m e = cc

pub returns : goal.returns
returns c = record {
  to_itself = there;
  to_a_field = onward _ _ _ _ _ _ to_b there;
  inside_an_item = onward _ _ _ _ _ _ to_b (onward _ _ _ _ _ _ to_item (inside _ _ _ _ _ to_some there));
  not_by_another = λ s. by_number s.number s.mark (ap (λ ps. slice_get ps s.number) (reached_so s.pairs s.reached) ∙ s.pair);
}
