use Rattle.std.proofs.Common.{sym}
use Rattle.json_value.specs.Value.{null}
use Rattle.schema_defs.specs.Admits.{counts_as_absent}
use Rattle.schema_types.specs.View.{object_view}
use Rattle.schema_types.specs.DocumentView.{document_view}
use Rattle.schema_sameness.specs.Parts.{plain_in}
use Rattle.merge_steps.proofs.Ending.{memory_goes}
use Rattle.merge_steps.proofs.Leading.{leads_by, led_goes}
use Rattle.merge_sides.specs.Leaves.{leaves_then}
use Rattle.merge_sides.specs.Referring.{walk_of_two}
use Rattle.merge_sides.specs.Behind.{behind_two}
use Rattle.merge_sides.proofs.Behinds.{objects_by}
use Rattle.merge_sides.proofs.Going.{goes_here, goes_leads, off_unit}
use Rattle.merge_sides.proofs.two_sides.bodies.Goals as goal

pub returns : goal.returns
returns c = λ join less.
    let d = document_view c.args.document.now in
    let s = object_view c.args.first in
    let t = object_view c.args.second in
    let last = behind_two d join less (walk_of_two s t) (counts_as_absent d.setting null) s t in
    led_goes (leads_by (objects_by d join less s t))
    (led_goes (goes_leads _ (c.in_ok-refuse_both.ensures (leaves_then (plain_in s) (plain_in t) last) _))
    (led_goes (goes_leads _ (c.in_ok-leaves.ensures last)) (goes_here _ (sym (c.in_ok-bodies.ensures join less)))))

pub returns-in_err-refuse_both : goal.returns-in_err-refuse_both
returns-in_err-refuse_both c = λ join less.
    let d = document_view c.args.document.now in
    let s = object_view c.args.first in
    let t = object_view c.args.second in
    let last = behind_two d join less (walk_of_two s t) (counts_as_absent d.setting null) s t in
    led_goes (leads_by (objects_by d join less s t)) (off_unit _ _ c.from_residual.ensures.1 (c.in_err-refuse_both.ensures (leaves_then (plain_in s) (plain_in t) last) _))

pub returns-in_err-leaves : goal.returns-in_err-leaves
returns-in_err-leaves c = λ join less.
    let d = document_view c.args.document.now in
    let s = object_view c.args.first in
    let t = object_view c.args.second in
    let last = behind_two d join less (walk_of_two s t) (counts_as_absent d.setting null) s t in
    led_goes (leads_by (objects_by d join less s t))
    (led_goes (goes_leads _ (c.in_ok-refuse_both.ensures (leaves_then (plain_in s) (plain_in t) last) _)) (off_unit _ _ c.from_residual-in_err-leaves.ensures.1 (c.in_err-leaves.ensures last)))

pub returns-in_err-bodies : goal.returns-in_err-bodies
returns-in_err-bodies c = λ join less. memory_goes _ c.from_residual-in_err-bodies.ensures.1
