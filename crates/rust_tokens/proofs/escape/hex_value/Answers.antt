use Rattle.std.proofs.Common.{◌≤◌, ◌^◌, ◌<◌, arith}
use Rattle.std.proofs.Math.Nat.{pow-le-pow_right}
use Rattle.rust_tokens.proofs.escape.hex_value.Goals as goal

pub overflow_mul-value : goal.overflow_mul-value
overflow_mul-value c =
    let room : 0 < 16 = omega arith in
    let few : c.loop-digit.digit-index ≤ 5 = omega arith in
    let low : 16 ^ c.loop-digit.digit-index ≤ 16 ^ 5 = pow-le-pow_right room few in
    omega arith

pub overflow_add-value : goal.overflow_add-value
overflow_add-value c =
    let room : 0 < 16 = omega arith in
    let few : c.loop-digit.digit-index ≤ 5 = omega arith in
    let low : 16 ^ c.loop-digit.digit-index ≤ 16 ^ 5 = pow-le-pow_right room few in
    omega arith
