use Rattle.std.proofs.Common.{refl}
use Rattle.attr_parts.proofs.Steps.{tells_later, tells_all}
use Rattle.derive_ast.proofs.Loops.{always_err}
use Rattle.derive_ast.proofs.Made.{told_both}
use Rattle.derive_ast.proofs.items.read_item.Goals as goal

pub returns-in_err-read_body-clause-err : goal.returns-in_err-read_body-clause-err
returns-in_err-read_body-clause-err g c = always_err _ _ (tells_later _ _ _ _ _ c.in_ok-attrs.ensures.told c.in_err-read_body.ensures.err)

pub returns-in_err-try_clone-in-Some-clause-err : goal.returns-in_err-try_clone-in-Some-clause-err
returns-in_err-try_clone-in-Some-clause-err g c = always_err _ _ (tells_all _ _ _ (told_both _ _ _ _ _ _ c.in_ok-attrs.ensures.told c.in_ok-read_body.ensures.told refl))
