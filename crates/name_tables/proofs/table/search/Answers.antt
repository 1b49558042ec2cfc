use Rattle.std.proofs.Common.{◌≡◌, ◌+◌, ◌-◌, ◌*◌, ◌/◌, ◌^◌, ◌<◌, ◌≤◌, length, ℕ, sym, subst, arith}
use Rattle.name_tables.proofs.Names.{IsBetween, IsCheap, is_after_less, is_before_greater, one_more, middle_below, upper_half, lower_half, is_less, is_greater, is_equal}
use Rattle.name_tables.proofs.table.search.Goals as goal

pub halves-preserved-in-Less : goal.halves-preserved-in-Less
halves-preserved-in-Less g c =
    let low = c.halves.low in
    let high = c.halves.high in
    let below : low + (high - low) / 2 < high = middle_below low high c.halves-test.true in
    let long : low + (high - low) / 2 < length c.args.names.now = omega (arith, c.halves.invariant.between.in_range) in
    let less = is_less c.args.names.now c.args.name.now (low + (high - low) / 2) c.index-names-middle.result long c.index-names-middle.is c.in-Less.ensures.order in
    let some : 0 < high - low = omega (arith, c.halves-test.true) in record {
      between = is_after_less c.args.names.now c.requires c.args.name.now low high (low + (high - low) / 2) c.halves.invariant.between below less;
      cheap = subst (λ n. IsCheap (length c.args.names.now) c.args.steps.now n (high - (low + (high - low) / 2 + 1))) (sym c.in-Less.ensures.counted)
          (one_more (length c.args.names.now) c.args.steps.now c.halves.steps (high - low) (high - (low + (high - low) / 2 + 1)) c.halves.invariant.cheap (upper_half low high c.halves-test.true) some);
    }

pub returns-in-Equal-clause-found : goal.returns-in-Equal-clause-found
returns-in-Equal-clause-found g c =
    let low = c.halves.low in
    let high = c.halves.high in
    let below : low + (high - low) / 2 < high = middle_below low high c.halves-test.true in
    let long : low + (high - low) / 2 < length c.args.names.now = omega (arith, c.halves.invariant.between.in_range) in
    is_equal c.args.names.now c.args.name.now (low + (high - low) / 2) c.index-names-middle.result long c.index-names-middle.is c.in-Equal.ensures.order

pub returns-in-Equal-clause-cost : goal.returns-in-Equal-clause-cost
returns-in-Equal-clause-cost g c =
    let left = c.halves.high - c.halves.low in
    let some : 0 < left = omega (arith, c.halves-test.true) in
    let none : 2 * 0 ≤ left = omega arith in
    let more = one_more (length c.args.names.now) c.args.steps.now c.halves.steps left 0 c.halves.invariant.cheap none some in
    subst (λ n. 2 ^ (n - c.args.steps.now) ≤ 2 * length c.args.names.now + 1) (sym c.in-Equal.ensures.counted) more.so_far

pub halves-preserved : goal.halves-preserved
halves-preserved g c =
    let low = c.halves.low in
    let high = c.halves.high in
    let below : low + (high - low) / 2 < high = middle_below low high c.halves-test.true in
    let at_least : low ≤ low + (high - low) / 2 = omega arith in
    let long : low + (high - low) / 2 < length c.args.names.now = omega (arith, c.halves.invariant.between.in_range) in
    let greater = is_greater c.args.names.now c.args.name.now (low + (high - low) / 2) c.index-names-middle.result long c.index-names-middle.is c.in-Greater.ensures.order in
    let some : 0 < high - low = omega (arith, c.halves-test.true) in record {
      between = is_before_greater c.args.names.now c.requires c.args.name.now low high (low + (high - low) / 2) c.halves.invariant.between at_least below greater;
      cheap = subst (λ n. IsCheap (length c.args.names.now) c.args.steps.now n (low + (high - low) / 2 - low)) (sym c.in-Greater.ensures.counted)
          (one_more (length c.args.names.now) c.args.steps.now c.halves.steps (high - low) (low + (high - low) / 2 - low) c.halves.invariant.cheap (lower_half low high c.halves-test.true) some);
    }
