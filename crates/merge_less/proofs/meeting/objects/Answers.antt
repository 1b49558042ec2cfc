use Rattle.std.proofs.Common.{◌∙◌, not, sym}
use Rattle.schema_types.specs.View.{object_view}
use Rattle.merge_defs.specs.Outcome.{and_then, both_ways, noted, note_if, of_subtract}
use Rattle.schema_sameness.specs.Parts.{named_in, same_in}
use Rattle.merge_steps.proofs.Ending.{memory_goes, off_goes, on_leads}
use Rattle.merge_steps.proofs.Leading.{led_goes, writes}
use Rattle.merge_sides.proofs.Going.{goes_here, goes_leads, handed_on, off_unit}
use Rattle.merge_less.specs.Rows.{behind_values, values_left}
use Rattle.merge_less.proofs.Rowing.{behind_seen}
use Rattle.merge_less.proofs.meeting.objects.Goals as goal

pub returns : goal.returns
returns c = λ join less.
    let s = object_view c.args.first in
    let t = object_view c.args.second in
    let due = note_if (not c.args.is_exact) (both_ways of_subtract) in
    let last = behind_values join less (named_in t) (same_in t) in
    led_goes (goes_leads _ (c.in_ok-refuse_in.ensures (noted due (and_then (values_left s t) last)) _))
    (led_goes (writes due (and_then (values_left s t) last) c.in_ok-note_both_ways.ensures)
    (led_goes (on_leads last _ (c.in_ok-object.ensures _)) (goes_here _ (sym (c.in_ok-taken.ensures join less ∙ behind_seen join less c.in_ok-object.object c.args.second)))))

pub returns-in_err-refuse_in : goal.returns-in_err-refuse_in
returns-in_err-refuse_in c = λ join less.
    let s = object_view c.args.first in
    let t = object_view c.args.second in
    let due = note_if (not c.args.is_exact) (both_ways of_subtract) in
    let last = behind_values join less (named_in t) (same_in t) in
    off_unit _ _ c.from_residual.ensures.1 (c.in_err-refuse_in.ensures (noted due (and_then (values_left s t) last)) _)

pub returns-in_err-note_both_ways : goal.returns-in_err-note_both_ways
returns-in_err-note_both_ways c = λ join less. memory_goes _ c.from_residual-in_err-note_both_ways.ensures.1

pub returns-in_err-object : goal.returns-in_err-object
returns-in_err-object c = λ join less.
    let s = object_view c.args.first in
    let t = object_view c.args.second in
    let due = note_if (not c.args.is_exact) (both_ways of_subtract) in
    let last = behind_values join less (named_in t) (same_in t) in
    led_goes (goes_leads _ (c.in_ok-refuse_in.ensures (noted due (and_then (values_left s t) last)) _))
    (led_goes (writes due (and_then (values_left s t) last) c.in_ok-note_both_ways.ensures) (handed_on _ _ c.from_residual-in_err-object.ensures.1 (off_goes last _ (c.in_err-object.ensures _))))

pub returns-in_err-taken : goal.returns-in_err-taken
returns-in_err-taken c = λ join less. memory_goes _ c.from_residual-in_err-taken.ensures.1
