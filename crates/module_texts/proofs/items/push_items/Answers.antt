use Rattle.std.proofs.Common.{◌++◌, ◌∙◌, ap, map, string_bytes}
use Rattle.syntax_trees.specs.Item.{item_view}
use Rattle.syntax_trees.specs.declared.item.DeriveInput.{DeriveInput}
use Rattle.module_texts.specs.Impls.{impl_of, left_behind}
use Rattle.module_texts.specs.Docs.{doc_view, own_doc, docs_behind}
use Rattle.module_texts.specs.Items.{item_text}
use Rattle.module_texts.proofs.Parts.{item_turn}
use Rattle.module_texts.proofs.items.push_items.Goals as goal

pub loop-item-preserved : goal.loop-item-preserved
loop-item-preserved c =
    let r = c.item-item.result in
    let ds = map doc_view c.loop-item.docs_left.now in
    let cs = c.loop-item.left.now in
    let o = string_bytes c.loop-item.out in
    let m = string_bytes c.push_item.new.out in
    item_turn c.args.hashed c.args.items.now c.loop-item.item-index r ds (map doc_view c.docs_behind-docs_left.result.now) cs c.left_behind-left.result.now o m (string_bytes c.push_impl_of.new.out) _ c.loop-item-test.true
    (c.in_ok-push_item.ensures ∙ ap (λ (d : DeriveInput). o ++ item_text c.args.hashed (own_doc ds (item_view d).name.text) (item_view d)) c.item-item.is)
    (c.in_ok-push_impl_of.ensures ∙ ap (λ (d : DeriveInput). m ++ impl_of (item_view d) cs) c.item-item.is)
    (c.docs_behind-docs_left.ensures ∙ (λ j. docs_behind ds (c.deref.ensures j)) ∙ ap (λ (d : DeriveInput). docs_behind ds (item_view d).name.text) c.item-item.is)
    (c.left_behind-left.ensures ∙ (λ j. left_behind cs (c.deref-in-loop-item.ensures j)) ∙ ap (λ (d : DeriveInput). left_behind cs (item_view d).name.text) c.item-item.is)
    c.loop-item.invariant
