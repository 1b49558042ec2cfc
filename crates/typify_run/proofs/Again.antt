-- The items of a report, read again: nothing is told of them, and none is outside the forms.
use Rattle.std.proofs.Common.{◌≡◌, ℕ, suc, ◌++◌, List, [], ◌∷◌, map, Bool, true, false, not, ◌&&◌, Some, None, refl}
use Rattle.std.specs.Prelude.{if◌then◌else◌}
use Rattle.std.specs.List.{AllByRecursion, list_all}
use Rattle.syntax_trees.specs.Item.{ItemD}
use Rattle.attr_parts.specs.declared.derive.Derive.{Derive}
use Rattle.attr_parts.specs.declared.derive.Derive.TheVariants.{Serialize, Deserialize}
use Rattle.attr_defs.specs.Renames.{Meaning}
use Rattle.attr_defs.specs.Texts.{lexed}
use Rattle.schema_tree.specs.Conversions.{conversions_view}
use Rattle.container_defs.specs.Forms.{names_of, leaves_forms, are_inside}
use Rattle.model_defs.specs.Model.{ConversionsD}
use Rattle.derive_model.specs.declared.errors.ModuleError.{ModuleError}
use Rattle.derive_model.specs.declared.errors.ModuleError.TheVariants.{Memory, Diagnostics, Form}
use Rattle.derive_model.specs.Items.{private, read_of, all_told, first_from, first_outside}
use Rattle.derive_model.specs.ModuleView.{IsWhy}
use Rattle.typify_run.specs.Headline.{Deriving, IsClean, items_of}
use Rattle.typify_run.specs.Laws.{ReportsAreModules}

module _ {A B : Type 0} (test : B → Bool) (read : A → B) where
  here : (b : Bool) (i : ℕ) (a : A) (xs : List A) → test (read a) ≡ b → (list_all (λ x. not (test (read x))) xs ≡ true → first_from test (suc i) (map read xs) ≡ None)
      → (not b && list_all (λ x. not (test (read x))) xs) ≡ true → (if b then Some i else first_from test (suc i) (map read xs)) ≡ None
  here true i a xs e rest h = cc
  here false i a xs e rest h = rest h

  none_first : (i : ℕ) (xs : List A) → list_all (λ x. not (test (read x))) xs ≡ true → first_from test i (map read xs) ≡ None
  none_first i [] h = refl
  none_first i (a ∷ xs) h = here (test (read a)) i a xs refl (none_first (suc i) xs) h

none_outside : (v f : Meaning) (k : ConversionsD) (is : List ItemD) → are_inside lexed v f private Deserialize k is ≡ true → first_outside v f k is ≡ None
none_outside v f k is h = none_first (leaves_forms (names_of is) k) (read_of v f) 0 is h

nothing_told : (v f : Meaning) (is : List ItemD) → AllByRecursion IsClean is → all_told v f is ≡ []
nothing_told v f [] h = refl
nothing_told v f (i ∷ is) h =
    let one = h.0 (how Serialize) in
    let two = h.0 (how Deserialize) in
    let rest = nothing_told v f is h.1 in
    (λ k. (one k ++ two k) ++ rest k)
  where
    how : Derive → Deriving
    how d = record { variant_name = v; field_name = f; private = private; derive = d }

memory_alone : (v f : Meaning) (k : ConversionsD) (is : List ItemD) → all_told v f is ≡ [] → first_outside v f k is ≡ None → (error : ModuleError) → IsWhy v f k is error → error ≡ Memory
memory_alone v f k is none inside Memory w = refl
memory_alone v f k is none inside (Diagnostics ds) w = absurd (w.1 none)
memory_alone v f k is none inside (Form i) w = cc

pub reports_are_modules : ReportsAreModules
reports_are_modules setting texts schema values report made judges v f error why =
    memory_alone v f (conversions_view report.conversions) (items_of report) (nothing_told v f (items_of report) made.clean)
    (none_outside v f (conversions_view report.conversions) (items_of report) (judges.inside (record { variant_name = v; field_name = f; private = private; derive = Deserialize }))) error why
