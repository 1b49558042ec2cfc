use Rattle.std.proofs.Common.{◌++◌, ◌∙◌, ap, map, string_bytes}
use Rattle.syntax_trees.specs.View.{ty as ty_view}
use Rattle.syntax_trees.specs.Item.{item_view}
use Rattle.module_texts.specs.Docs.{doc_view}
use Rattle.module_texts.specs.Module.{module_text}
use Rattle.rust_run.proofs.printing.push_items.Goals as goal

pub returns : goal.returns
returns c =
    let r = c.args.report.now in
    c.in_ok-push_module.ensures ∙ (λ i. string_bytes c.args.out.now ++ module_text (map item_view (c.deref.ensures.value i)) ((ap (map doc_view) c.deref-2.ensures.value ∙ c.in_ok-docs.ensures) i) r.conversions (ty_view r.root))
