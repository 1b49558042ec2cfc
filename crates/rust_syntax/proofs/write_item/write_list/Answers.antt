use Rattle.std.proofs.Common.{◌≡◌, OnOk, [], ◌∷◌, ◌++◌, subst, ap, ◌∙◌}
use Rattle.token_trees.specs.Token.{group, toks_of, Tok}
use Rattle.token_trees.specs.View.{stream}
use Rattle.token_trees.specs.declared.token.Delimiter.TheVariants.{Parenthesis}
use Rattle.token_trees.proofs.Views.{tree_made}
use Rattle.rust_syntax.proofs.write_item.write_list.Goals as goal

pub returns : goal.returns
returns c =
    let at = c.args.at in
    let inner = c.in_ok-stream.stream in
    subst (λ (t : Tok). OnOk c.push.result (stream c.push.new.self ≡ stream c.args.out.now ++ t ∷ []))
    (tree_made (record { delimiter = Parenthesis; stream = inner; span = at }) ∙ ap (λ ts. group Parenthesis (toks_of ts) at) c.in_ok-stream.ensures)
    c.push.ensures.ok
