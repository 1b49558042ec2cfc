use Rattle.std.proofs.Common.{◌∙◌, ◌++◌, string_bytes}
use Rattle.module_texts.specs.Items.{hash_where}
use Rattle.module_texts.proofs.Parts.{then_more}
use Rattle.module_texts.proofs.items.push_parts.Goals as goal

pub returns : goal.returns
returns c =
    let o = string_bytes c.args.out.now in
    let a = string_bytes c.push_str.new.self in
    let b = string_bytes c.push_if.new.out in
    let m = string_bytes c.push_doc_comment.new.out in
    let k = string_bytes c.push_head.new.out in
    let d = string_bytes c.push_body.new.out in
    let e = string_bytes c.push_str-2.new.self in
    let f = string_bytes c.push_hash_where.new.out in
    then_more o a f _ _ (c.in_ok-push_str.ensures.bytes) (then_more a b f _ _ (c.in_ok-push_if.ensures) (then_more b m f _ _ (c.in_ok-push_doc_comment.ensures) (then_more m k f _ _ (c.in_ok-push_head.ensures) (then_more k d f _ _ (c.in_ok-push_body.ensures) (then_more d e f _ _ (c.in_ok-push_str-2.ensures.bytes) (c.in_ok-push_hash_where.ensures ∙ (λ j. e ++ hash_where (c.needs_hash.ensures j) (c.deref.ensures j))))))))
