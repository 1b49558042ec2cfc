use Rattle.std.proofs.Common.{◌||◌, option_map, sym, ap, ◌∙◌}
use Rattle.serde_json.specs.View.{members_view}
use Rattle.json_value.specs.View.{members_of}
use Rattle.default_reading.specs.Seen.{listed}
use Rattle.default_reading.specs.Steps.{has_others, is_other}
use Rattle.default_reading.proofs.parts.has_others.Goals as goal

pub loop-name-preserved : goal.loop-name-preserved
loop-name-preserved c =
    let p = option_map (λ q. q.now) c.args.passed in
    let ms = members_of (members_view c.next.new.self) in
    λ o. c.loop-name.invariant o ∙ ap (λ es. has_others p (listed c.args.fields.now o) (members_of (members_view es))) c.in-Some.ensures.steps
    ∙ ap (λ n. is_other p (listed c.args.fields.now o) n || has_others p (listed c.args.fields.now o) ms) (sym c.deref.ensures)
    ∙ ap (λ b. b || has_others p (listed c.args.fields.now o) ms) (sym (c.is_other.ensures o) ∙ c.if-is_other.false)

pub returns-then-is_other : goal.returns-then-is_other
returns-then-is_other c =
    let p = option_map (λ q. q.now) c.args.passed in
    let ms = members_of (members_view c.next.new.self) in
    λ o. sym (c.loop-name.invariant o ∙ ap (λ es. has_others p (listed c.args.fields.now o) (members_of (members_view es))) c.in-Some.ensures.steps
    ∙ ap (λ n. is_other p (listed c.args.fields.now o) n || has_others p (listed c.args.fields.now o) ms) (sym c.deref.ensures)
    ∙ ap (λ b. b || has_others p (listed c.args.fields.now o) ms) (sym (c.is_other.ensures o) ∙ c.if-is_other.true))

pub returns : goal.returns
returns c =
    let p = option_map (λ q. q.now) c.args.passed in
    λ o. sym (c.loop-name.invariant o ∙ ap (λ es. has_others p (listed c.args.fields.now o) (members_of (members_view es))) c.in-None.ensures.steps.0)
