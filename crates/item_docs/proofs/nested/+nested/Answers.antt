use Rattle.std.proofs.Common.{rules, ◌≡◌, true}
use Rattle.item_docs.proofs.Added.{object_docs}
use Rattle.item_docs.proofs.nested.+nested.Goals as goal

pub push_object-returns : goal.push_object-returns
push_object-returns t c =
    let keeps : c.keeps_parts.result ≡ true = search rules in
    object_docs _ _ _ _ _ _ c.keeps_parts.ensures keeps c.form.ensures c.form-2.ensures _ _ _ _ c.in_ok-push_own.ensures c.in_ok-push_lists.ensures c.in_ok-push_named.ensures
