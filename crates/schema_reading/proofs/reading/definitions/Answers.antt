use Rattle.std.proofs.Common.{◌≡◌, [], List, Option, Some, None, true, false, option_map, subst, refl, sym, ap, ◌∙◌}
use Rattle.std.specs.Prelude.{IfOk, unwrap_or}
use Rattle.schema_defs.specs.Schema.{Definition, no_properties}
use Rattle.schema_types.specs.View.{properties_view}
use Rattle.schema_types.specs.DocumentView.{definitions_view}
use Rattle.schema_defs.specs.Read.{definitions_of, with_definitions}
use Rattle.schema_reading.specs.Reading.{looked_up}
use Rattle.schema_reading.proofs.Parts.{nothing}
use Rattle.schema_reading.proofs.Definitions.{definitions_is, none_joined}
use Rattle.schema_reading.proofs.reading.definitions.Goals as goal

pub returns-in_default : goal.returns-in_default
returns-in_default c =
    let lost = sym (rw c.in_default.is at c.in_ok-older.ensures) in
    rw (definitions_is (looked_up c.args.members.now.entries)) (simp (lost, nothing))

pub returns-in_default-2 : goal.returns-in_default-2
returns-in_default-2 c =
    let lost = sym (rw c.in_default-2.is at c.in_ok-newer.ensures) in
    rw (definitions_is (looked_up c.args.members.now.entries)) (simp lost)

pub returns-in_default-3 : goal.returns-in_default-3
returns-in_default-3 c =
    let older = unwrap_or (option_map (λ m. properties_view m.entries) c.in-Some.older) no_properties in
    let newer = unwrap_or (option_map (λ m. properties_view m.entries) c.in-Some-2.newer) no_properties in
    let lost : with_definitions false older (Some []) ≡ None =
    (λ i. with_definitions false (sym c.or_no_schemas.ensures i) (Some (definitions_view (sym c.new-none.ensures.empty i)))) ∙ sym (rw c.in_default-3.is at c.in_ok-first.ensures) in
    rw (
      definitions_is (looked_up c.args.members.now.entries),
      sym (rw c.in-Some.is at c.in_ok-older.ensures),
      sym (rw c.in-Some-2.is at c.in_ok-newer.ensures),
    ) (sym (ap (with_definitions true newer) lost ∙ none_joined true newer))

pub returns : goal.returns
returns c =
    let older = unwrap_or (option_map (λ m. properties_view m.entries) c.in-Some.older) no_properties in
    let newer = unwrap_or (option_map (λ m. properties_view m.entries) c.in-Some-2.newer) no_properties in
    let first : with_definitions false older (Some []) ≡ Some (definitions_view c.in-Some-3.first.entries) =
    (λ i. with_definitions false (sym c.or_no_schemas.ensures i) (Some (definitions_view (sym c.new-none.ensures.empty i)))) ∙ sym (rw c.in-Some-3.is at c.in_ok-first.ensures) in
    let whole : definitions_of (looked_up c.args.members.now.entries) ≡ with_definitions true newer (with_definitions false older (Some [])) =
    rw (
      definitions_is (looked_up c.args.members.now.entries),
      sym (rw c.in-Some.is at c.in_ok-older.ensures),
      sym (rw c.in-Some-2.is at c.in_ok-newer.ensures),
    ) refl in
    let read = (λ i. with_definitions true (c.or_no_schemas-2.ensures i) (sym first i)) ∙ sym whole in
    subst (λ (z : Option (List Definition)). IfOk c.joined-2.result (λ o. option_map (λ m. definitions_view m.entries) o ≡ z)) read c.joined-2.ensures
