use Rattle.std.proofs.Common.{◌++◌, ◌∷◌, [], map, ap, ◌∙◌}
use Rattle.token_trees.specs.Token.{group, toks_of}
use Rattle.token_trees.specs.View.{stream, tree}
use Rattle.token_trees.proofs.Views.{tree_made}
use Rattle.token_trees.specs.declared.token.Group.{roll-Group}
use Rattle.token_trees.specs.declared.token.TokenTree.TheVariants.{Group as in_group}
use Rattle.rust_tokens.specs.Groups.{level}
use Rattle.rust_tokens.proofs.Levels.{levels_popped, popped_delimiter}
use Rattle.rust_tokens.proofs.groups.Groups.close.Goals as goal

pub returns-clause-closes : goal.returns-clause-closes
returns-clause-closes c =
    let g = c.in-Some.field-0 in
    let xs = c.args.self.now.unclosed.items in
    let ys = c.pop.new.self.items in
    let d = popped_delimiter xs ys g c.args.delimiter c.in-Some.ensures.items c.requires in
    let made = tree_made (record { delimiter = c.args.delimiter; stream = c.replace-stream.result; span = c.args.span }) in
    record {
      before = stream g.before;
      was = levels_popped xs ys g c.in-Some.ensures.items
          ∙ ap (λ e. map level ys ++ record { delimiter = e; before = stream g.before } ∷ []) d;
      now = c.in_ok-push-in-Some.ensures.ok
          ∙ ap (λ s. stream s ++ tree (in_group (roll-Group record { delimiter = c.args.delimiter; stream = c.replace-stream.result; span = c.args.span })) ∷ []) c.replace-stream.ensures.after
          ∙ ap (λ t. stream g.before ++ t ∷ [])
          (made ∙ ap (λ s. group c.args.delimiter (toks_of (stream s)) c.args.span) c.replace-stream.ensures.value);
    }
