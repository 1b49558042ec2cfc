use Rattle.std.proofs.Common.{ap, sym, ◌∙◌}
use Rattle.token_trees.specs.Token.{group, toks_of}
use Rattle.token_trees.proofs.Views.{group_out, tree_made}
use Rattle.module_texts.proofs.attributes.copy_group.Goals as goal

pub returns : goal.returns
returns c =
    let g = c.args.group.now in
    tree_made (record { delimiter = g.delimiter; stream = c.in_ok-inner.inner; span = g.span }) ∙ ap (λ ts. group g.delimiter (toks_of ts) g.span) c.in_ok-inner.ensures ∙ sym (group_out g)
