use Rattle.std.proofs.Common.{◌≡◌, OnOk, [], ◌∷◌, ◌++◌, subst, ap, ◌∙◌}
use Rattle.token_trees.specs.Token.{group, toks_of, Tok}
use Rattle.token_trees.specs.View.{stream}
use Rattle.token_trees.proofs.Views.{tree_made}
use Rattle.token_trees.proofs.token.TokenStream.push_group.Goals as goal

pub returns-clause-ok : goal.returns-clause-ok
returns-clause-ok c =
    let d = c.args.delimiter in
    let inner = c.args.inner in
    subst (λ (t : Tok). OnOk c.push.result (stream c.push.new.self ≡ stream c.args.self.now ++ t ∷ []))
    (tree_made (record { delimiter = d; stream = inner; span = c.call_site.result }) ∙ ap (λ s. group d (toks_of (stream inner)) s) c.call_site.ensures)
    c.push.ensures.ok
