use Rattle.std.proofs.Common.{rules, ◌<◌, length, ◌∙◌, arith}
use Rattle.std.proofs.lemmas.Grind.{common_steps}
use Rattle.derive_receiver.specs.View.{own_view}
use Rattle.derive_receiver.proofs.Walks.{instead_more}
use Rattle.derive_receiver.proofs.head.place_of.Goals as goal

pub returns : goal.returns
returns c =
    let h : 0 < length c.args.rest.items = first_of (search rules, grind (arith, common_steps)) in
    c.in_ok-place.ensures ∙ instead_more (own_view c.args.own.now) c.args.is_ty c.args.first c.args.rest.items h
