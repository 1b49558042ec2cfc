-- The rows, where the new place takes any value, and where it doesn't.
use Rattle.std.proofs.Common.{◌≡◌, List, ℕ, [], Bool, true, false, sym, ◌∙◌, true≢false}
use Rattle.evolve_defs.specs.Forms.{Table, Form, any_form, unit_form, boolean_form, integer_form, text_form, native_form, option_form, list_form, tuple_form, array_form, map_form, struct_form, ruled_form, external_form, internal_form, adjacent_form, untagged_form, no_form}
use Rattle.evolve_defs.specs.Walk.{Turn, goes}
use Rattle.evolve_defs.specs.Spots.{Spot, Spots, old_turn, rows_turn}
use Rattle.evolve_rows.specs.FormView.{is_any_form}

module _ (old new : Table) (p q : Spot) (h k : List ℕ) (x : Form) where
  pub any_holds : (y : Form) (b : Bool) (t : Turn Spots) → b ≡ is_any_form y → b ≡ true → t ≡ goes [] → t ≡ rows_turn old new p q h k x y
  any_holds any_form b o known at leads = leads
  any_holds unit_form b o known at leads = absurd (true≢false (sym at ∙ known))
  any_holds boolean_form b o known at leads = absurd (true≢false (sym at ∙ known))
  any_holds (integer_form g) b o known at leads = absurd (true≢false (sym at ∙ known))
  any_holds text_form b o known at leads = absurd (true≢false (sym at ∙ known))
  any_holds (native_form f) b o known at leads = absurd (true≢false (sym at ∙ known))
  any_holds (option_form t) b o known at leads = absurd (true≢false (sym at ∙ known))
  any_holds (list_form e t) b o known at leads = absurd (true≢false (sym at ∙ known))
  any_holds (tuple_form ts) b o known at leads = absurd (true≢false (sym at ∙ known))
  any_holds (array_form t n) b o known at leads = absurd (true≢false (sym at ∙ known))
  any_holds (map_form l t) b o known at leads = absurd (true≢false (sym at ∙ known))
  any_holds (struct_form closed fs) b o known at leads = absurd (true≢false (sym at ∙ known))
  any_holds (ruled_form r t) b o known at leads = absurd (true≢false (sym at ∙ known))
  any_holds (external_form closed ws) b o known at leads = absurd (true≢false (sym at ∙ known))
  any_holds (internal_form closed tag ws) b o known at leads = absurd (true≢false (sym at ∙ known))
  any_holds (adjacent_form closed tag content ws) b o known at leads = absurd (true≢false (sym at ∙ known))
  any_holds (untagged_form closed ws) b o known at leads = absurd (true≢false (sym at ∙ known))
  any_holds no_form b o known at leads = absurd (true≢false (sym at ∙ known))

  pub not_any : (y : Form) (b : Bool) (t : Turn Spots) → b ≡ is_any_form y → b ≡ false → t ≡ old_turn old new p q h k x y → t ≡ rows_turn old new p q h k x y
  not_any any_form b o known at leads = absurd (true≢false (sym known ∙ at))
  not_any unit_form b o known at leads = leads
  not_any boolean_form b o known at leads = leads
  not_any (integer_form g) b o known at leads = leads
  not_any text_form b o known at leads = leads
  not_any (native_form f) b o known at leads = leads
  not_any (option_form t) b o known at leads = leads
  not_any (list_form e t) b o known at leads = leads
  not_any (tuple_form ts) b o known at leads = leads
  not_any (array_form t n) b o known at leads = leads
  not_any (map_form l t) b o known at leads = leads
  not_any (struct_form closed fs) b o known at leads = leads
  not_any (ruled_form r t) b o known at leads = leads
  not_any (external_form closed ws) b o known at leads = leads
  not_any (internal_form closed tag ws) b o known at leads = leads
  not_any (adjacent_form closed tag content ws) b o known at leads = leads
  not_any (untagged_form closed ws) b o known at leads = leads
  not_any no_form b o known at leads = leads
