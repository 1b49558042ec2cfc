use Rattle.std.proofs.Common.{◌++◌, ◌∙◌, map, string_bytes}
use Rattle.syntax_trees.specs.Item.{item_view}
use Rattle.module_texts.specs.Docs.{doc_view, own_doc}
use Rattle.module_texts.specs.Items.{parts_text}
use Rattle.module_texts.proofs.items.push_item.Goals as goal

pub returns : goal.returns
returns c =
    c.in_ok-push_parts.ensures ∙ (λ j. string_bytes c.args.out.now ++ parts_text c.args.hashed (c.in_ok-holder.ensures j) (c.in_ok-long.ensures j) ((c.own_doc-doc.ensures ∙ (λ k. own_doc (map doc_view c.args.docs.now) (c.deref.ensures k))) j) (item_view c.args.item.now))
