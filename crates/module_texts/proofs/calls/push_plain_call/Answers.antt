use Rattle.std.proofs.Common.{string_bytes}
use Rattle.module_texts.proofs.Parts.{then_more}
use Rattle.module_texts.proofs.calls.push_plain_call.Goals as goal

pub returns : goal.returns
returns c =
    let o = string_bytes c.args.out.now in
    let a = string_bytes c.push_str.new.self in
    let b = string_bytes c.push_str-2.new.self in
    let k = string_bytes c.push_str-3.new.self in
    let d = string_bytes c.push_str-4.new.self in
    let e = string_bytes c.push_str-5.new.self in
    then_more o a e _ _ (c.in_ok-push_str.ensures.bytes) (then_more a b e _ _ (c.in_ok-push_str-2.ensures.bytes) (then_more b k e _ _ (c.in_ok-push_str-3.ensures.bytes) (then_more k d e _ _ (c.in_ok-push_str-4.ensures.bytes) (c.in_ok-push_str-5.ensures.bytes))))
