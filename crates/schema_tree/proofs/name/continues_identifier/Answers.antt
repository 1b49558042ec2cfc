use Rattle.std.proofs.Common.{arith}
use Rattle.std.proofs.lemmas.Grind.{common_steps}
use Rattle.std.proofs.lemmas.Str.{IsUtf8-past_char}
use Rattle.unicode_ident.specs.Ident.{is_xid_continue}
use Rattle.schema_tree.proofs.KeptNames.{all_past, all_of_none}
use Rattle.schema_tree.proofs.name.continues_identifier.Goals as goal

pub returns-then-not-is_xid_continue : goal.returns-then-not-is_xid_continue
returns-then-not-is_xid_continue c =
    grind (arith, common_steps, all_past is_xid_continue _ _ c.in-Some.c c.loop-c.invariant.0 c.in-Some.ensures.steps.0)

pub loop-c-preserved : goal.loop-c-preserved
loop-c-preserved c = (
  IsUtf8-past_char _ _ c.in-Some.c c.loop-c.invariant.0 c.in-Some.ensures.steps.0,
  grind (arith, common_steps, all_past is_xid_continue _ _ c.in-Some.c c.loop-c.invariant.0 c.in-Some.ensures.steps.0),
)

pub returns : goal.returns
returns c = grind (arith, common_steps, all_of_none is_xid_continue)
