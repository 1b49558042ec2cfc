use Rattle.std.proofs.Common.{refl, sym, ap, ◌∙◌}
use Rattle.merge_defs.specs.Outcome.{depth, unsupported}
use Rattle.merge_parts.specs.View.{unsupported_view}
use Rattle.merged_rows.specs.Starts.{spot_of}
use Rattle.merged_rows.specs.Told as merged
use Rattle.document_merges.specs.Merges.{end_view, refused}
use Rattle.convert_trees.proofs.Merged.{refused_so}
use Rattle.convert_trees.proofs.convert.refused_merge.Goals as goal

pub returns-in-Stands : goal.returns-in-Stands
returns-in-Stands c = λ r d most n h s o ns e. merged.no_memory refl

pub returns-in-Err : goal.returns-in-Err
returns-in-Err c = λ r d most n h s o ns e. merged.no_memory refl

pub returns-in-Ok : goal.returns-in-Ok
returns-in-Ok c = λ r d most n h s o ns e.
    c.merge_fault.ensures r d most n h o
    (record { told = refused_so (spot_of c.args.scope.now.start.now c.args.trail.now.items h) s (depth c.in-Ok.walk) o (ap (λ w. refused (depth w)) c.in-Ok.ensures ∙ ap (λ w. end_view w ns) (sym c.in-Deep.is) ∙ e) })

pub returns-in-Unsupported : goal.returns-in-Unsupported
returns-in-Unsupported c = λ r d most n h s o ns e.
    c.merge_fault-in-Unsupported.ensures r d most n h o
    (record { told = refused_so (spot_of c.args.scope.now.start.now c.args.trail.now.items h) s (unsupported (unsupported_view c.in-Unsupported.kind)) o (ap (λ w. end_view w ns) (sym c.in-Unsupported.is) ∙ e) })
