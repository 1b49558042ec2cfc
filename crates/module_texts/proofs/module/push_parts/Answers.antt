use Rattle.std.proofs.Common.{◌++◌, ◌∙◌, ap, map, string_bytes}
use Rattle.serde_json.specs.View.{view}
use Rattle.syntax_trees.specs.Item.{item_view}
use Rattle.module_texts.specs.Helpers.{helpers_text}
use Rattle.module_texts.specs.Defaults.{defaults_text}
use Rattle.module_texts.specs.Docs.{doc_view}
use Rattle.module_texts.specs.Items.{items_text}
use Rattle.module_texts.proofs.Parts.{then_more}
use Rattle.module_texts.proofs.module.push_parts.Goals as goal

pub returns : goal.returns
returns c =
    let o = string_bytes c.args.out.now in
    let a = string_bytes c.push_root.new.out in
    let b = string_bytes c.push_helpers.new.out in
    let d = string_bytes c.push_defaults.new.out in
    let e = string_bytes c.push_items.new.out in
    then_more o a e _ _ c.in_ok-push_root.ensures
    (then_more a b e _ _ (c.in_ok-push_helpers.ensures ∙ ap (λ cs. a ++ helpers_text cs) c.deref.ensures.value)
    (then_more b d e _ _ (c.in_ok-push_defaults.ensures ∙ ap (λ vs. b ++ defaults_text (map view vs)) c.deref-2.ensures.value)
    (c.in_ok-push_items.ensures ∙ ap (λ cs. d ++ items_text c.args.hashed (map item_view c.args.items.now) (map doc_view c.args.docs.now) cs) c.deref-3.ensures.value)))
