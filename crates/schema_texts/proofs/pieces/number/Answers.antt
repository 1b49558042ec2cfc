use Rattle.std.proofs.Common.{◌-◌, get_or, rules, arith}
use Rattle.schema_texts.proofs.Numbers.{digit_at, number_more, pow_step}
use Rattle.schema_texts.proofs.pieces.number.Goals as goal

pub loop-digit-preserved : goal.loop-digit-preserved
loop-digit-preserved c =
    let bounds = digit_at c.args.text.now c.loop-digit.digit-index c.loop-digit.invariant.digits (omega arith) in
    let more = number_more c.args.text.now c.loop-digit.digit-index (omega arith) in
    record {
      digits = search rules;
      few = search rules;
      value = omega (arith, more, c.loop-digit.invariant.value);
      small = omega (arith, pow_step c.loop-digit.digit-index c.loop-digit.value (get_or c.args.text.now c.loop-digit.digit-index 0 - 48) c.loop-digit.invariant.small (omega (arith, bounds.1)));
    }
