-- The two tests of stated defaults, and what they say together.
use Rattle.std.proofs.Common.{◌≡◌, Bool, true, false, ◌&&◌, refl, sym, ap, ◌∙◌}
use Rattle.std.specs.List.{list_all}
use Rattle.reading_defs.specs.Proper.{has_json_numbers}
use Rattle.reading_defs.specs.Laws.{defaults_are_sound}
use Rattle.derive_model.specs.Laws.{TestedDefaultsAreSound}

pub first_true : (a b : Bool) → (a && b) ≡ true → a ≡ true
first_true true b h = refl
first_true false b h = cc

pub then_true : (a b : Bool) → (a && b) ≡ true → b ≡ true
then_true true b h = h
then_true false b h = cc

pub other_numbers : (a b c : Bool) → c ≡ a → c ≡ false → false ≡ (a && b)
other_numbers a b c e h = ap (λ d. d && b) (sym h ∙ e)

pub json_numbers_there : (a b c d : Bool) → c ≡ a → c ≡ true → d ≡ b → d ≡ (a && b)
json_numbers_there a b c d e h m = m ∙ ap (λ x. x && b) (sym h ∙ e)

pub tested : TestedDefaultsAreSound
tested ms cs r h = record {
  numbers = first_true (list_all has_json_numbers cs.defaults) (defaults_are_sound ms cs r) h;
  sound = then_true (list_all has_json_numbers cs.defaults) (defaults_are_sound ms cs r) h;
}
