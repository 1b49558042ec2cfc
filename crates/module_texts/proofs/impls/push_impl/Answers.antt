use Rattle.std.proofs.Common.{string_bytes}
use Rattle.module_texts.proofs.Parts.{then_more}
use Rattle.module_texts.proofs.impls.push_impl.Goals as goal

pub returns : goal.returns
returns c =
    let o = string_bytes c.args.out.now in
    let a = string_bytes c.push_str.new.self in
    let b = string_bytes c.push_type.new.out in
    let k = string_bytes c.push_str-2.new.self in
    let d = string_bytes c.push_str-3.new.self in
    let e = string_bytes c.push_str-4.new.self in
    let f = string_bytes c.push_type-2.new.out in
    let g = string_bytes c.push_str-5.new.self in
    let h = string_bytes c.push_rule.new.out in
    let i = string_bytes c.push_str-6.new.self in
    then_more o a i _ _ (c.in_ok-push_str.ensures.bytes) (then_more a b i _ _ (c.in_ok-push_type.ensures) (then_more b k i _ _ (c.in_ok-push_str-2.ensures.bytes) (then_more k d i _ _ (c.in_ok-push_str-3.ensures.bytes) (then_more d e i _ _ (c.in_ok-push_str-4.ensures.bytes) (then_more e f i _ _ (c.in_ok-push_type-2.ensures) (then_more f g i _ _ (c.in_ok-push_str-5.ensures.bytes) (then_more g h i _ _ (c.in_ok-push_rule.ensures) (c.in_ok-push_str-6.ensures.bytes))))))))
