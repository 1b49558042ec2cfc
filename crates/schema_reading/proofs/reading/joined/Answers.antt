use Rattle.std.proofs.Common.{◌≡◌, Some, None, true, false, sym, ap, ◌∙◌}
use Rattle.std.specs.Prelude.{is_some, if◌then◌else◌}
use Rattle.schema_defs.specs.Read.{with_definitions}
use Rattle.schema_types.specs.View.{properties_view}
use Rattle.schema_types.specs.DocumentView.{definitions_view}
use Rattle.schema_reading.proofs.Definitions.{placed_at, joined_next, none_joined}
use Rattle.schema_reading.proofs.reading.joined.Goals as goal

pub loop-entry-preserved : goal.loop-entry-preserved
loop-entry-preserved c =
    let b = c.args.under_defs in
    let ds = c.loop-entry.definitions.entries in
    let es = c.pop_last.new.self.entries in
    let e = c.in-Some.entry in
    let new : is_some (placed_at e.0 ds) ≡ false = ap is_some (sym c.in_ok-insert.ensures.old) ∙ sym c.is_some.ensures ∙ c.if-is_some.false in
    c.loop-entry.invariant
    ∙ ap (λ xs. with_definitions b (properties_view xs) (Some (definitions_view ds))) c.in-Some.ensures.removal
    ∙ joined_next b es e ds c.in_ok-insert.ensures.was_ordered
    ∙ (λ i. with_definitions b (properties_view es) (if new i then None else Some (definitions_view (sym c.in_ok-insert.ensures.entries i))))

pub returns-then-is_some : goal.returns-then-is_some
returns-then-is_some c =
    let b = c.args.under_defs in
    let ds = c.loop-entry.definitions.entries in
    let es = c.pop_last.new.self.entries in
    let e = c.in-Some.entry in
    let known : is_some (placed_at e.0 ds) ≡ true = ap is_some (sym c.in_ok-insert.ensures.old) ∙ sym c.is_some.ensures ∙ c.if-is_some.true in
    sym (c.loop-entry.invariant
    ∙ ap (λ xs. with_definitions b (properties_view xs) (Some (definitions_view ds))) c.in-Some.ensures.removal
    ∙ joined_next b es e ds c.in_ok-insert.ensures.was_ordered
    ∙ (λ i. with_definitions b (properties_view es) (if known i then None else Some (definitions_view (sym c.in_ok-insert.ensures.entries i))))
    ∙ none_joined b (properties_view es))
