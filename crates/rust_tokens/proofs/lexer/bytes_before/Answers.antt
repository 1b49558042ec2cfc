use Rattle.std.proofs.Common.{◌-◌, ap, length, encode_utf8_all, arith}
use Rattle.rust_tokens.proofs.Bodies.{rest_from}
use Rattle.rust_tokens.proofs.Places.{encoded_end}
use Rattle.rust_tokens.proofs.lexer.bytes_before.Goals as goal

pub utf8_len-requires : goal.utf8_len-requires
utf8_len-requires c =
    let k = length c.args.chars.now - c.args.left in
    let slice = ap (λ l. length (encode_utf8_all l)) (rest_from k c.args.chars.now) in
    let low = encoded_end k c.args.chars.now in
    omega arith

pub overflow_sub-result : goal.overflow_sub-result
overflow_sub-result c =
    let k = length c.args.chars.now - c.args.left in
    let slice = ap (λ l. length (encode_utf8_all l)) (rest_from k c.args.chars.now) in
    let low = encoded_end k c.args.chars.now in
    omega arith

pub returns : goal.returns
returns c =
    let k = length c.args.chars.now - c.args.left in
    let slice = ap (λ l. length (encode_utf8_all l)) (rest_from k c.args.chars.now) in
    let low = encoded_end k c.args.chars.now in
    omega arith
