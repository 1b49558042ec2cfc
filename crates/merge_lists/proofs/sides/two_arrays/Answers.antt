use Rattle.merge_lists.proofs.Chained.{contains_stop, sizes_stop, all_go}
use Rattle.merge_lists.proofs.sides.two_arrays.Goals as goal

pub returns-in_err-contains : goal.returns-in_err-contains
returns-in_err-contains c = λ join. contains_stop join c.args.is_array c.args.first c.args.second _ _ _ c.in_err-contains.field-0.0 c.from_residual.ensures.1 c.in_err-contains.ensures

pub returns-in_err-sizes : goal.returns-in_err-sizes
returns-in_err-sizes c = λ join. sizes_stop join c.args.is_array c.args.first c.args.second _ _ _ _ _ c.in_err-sizes.field-0.0 c.from_residual-in_err-sizes.ensures.1 c.in_ok-contains.ensures c.in_err-sizes.ensures

pub returns : goal.returns
returns c = λ join. all_go join c.args.is_array c.args.first c.args.second _ _ _ _ _ _ c.in_ok-contains.ensures c.in_ok-sizes.ensures (c.two_places.ensures join)
