use Rattle.std.proofs.Common.{◌≡◌, ◌++◌, ◌∷◌, [], refl, ap, sym, true, false, ◌∙◌}
use Rattle.std.specs.Prelude.{string_bytes}
use Rattle.token_trees.specs.Token.{word, mark, fixed}
use Rattle.token_trees.specs.View.{fixed_view}
use Rattle.rust_tokens.specs.Groups.{inner_trees}
use Rattle.rust_tokens.specs.Lexeme.{piece}
use Rattle.rust_tokens.proofs.Steps.{leaf_advances, open_advances, close_advances, close_refuses}
use Rattle.rust_tokens.proofs.lexer.place_token.Goals as goal

pub returns-then-not-closes-clause-stuck : goal.returns-then-not-closes-clause-stuck
returns-then-not-closes-clause-stuck c =
    close_refuses _ _ c.in-Close.delimiter (ap piece c.in-Close.is) (λ k. let yes : c.closes.result ≡ true = c.closes.ensures.1 k in let no : c.closes.result ≡ false = c.if-not-closes.true in cc)

pub returns-in_ok-enter-in-Open-clause-placed : goal.returns-in_ok-enter-in-Open-clause-placed
returns-in_ok-enter-in-Open-clause-placed c =
    let e = c.in_ok-enter-in-Open.ensures in
    open_advances _ _ _ _ _ _ _ _ _ c.in-Open.delimiter (ap piece c.in-Open.is) e.levels e.trees e.first

pub returns-in_ok-close-in-Close-clause-placed : goal.returns-in_ok-close-in-Close-clause-placed
returns-in_ok-close-in-Close-clause-placed c =
    close_advances _ _ _ _ _ _ _ _ _ c.in-Close.delimiter (ap piece c.in-Close.is) c.in_ok-close-in-Close.ensures.closes c.close.ensures.first

pub returns-in_ok-add-in-Name-clause-placed : goal.returns-in_ok-add-in-Name-clause-placed
returns-in_ok-add-in-Name-clause-placed c =
    let e = c.in_ok-add-in-Name.ensures in
    leaf_advances _ _ _ _ _ _ _ _ _ (word (string_bytes c.in-Name.text) c.args.span) (sym (ap (λ k. piece k ∷ []) c.in-Name.is)) refl c.add.ensures.levels
    (e.trees ∙ ap (λ t. inner_trees c.args.groups.now ++ t ∷ []) c.name_tree.ensures) c.add.ensures.first

pub returns-in_ok-add-in-Sign-clause-placed : goal.returns-in_ok-add-in-Sign-clause-placed
returns-in_ok-add-in-Sign-clause-placed c =
    let e = c.in_ok-add-in-Sign.ensures in
    leaf_advances _ _ _ _ _ _ _ _ _ (mark c.in-Sign.ch c.in-Sign.spacing c.args.span) (sym (ap (λ k. piece k ∷ []) c.in-Sign.is)) refl c.add-in-Sign.ensures.levels
    (e.trees ∙ ap (λ t. inner_trees c.args.groups.now ++ t ∷ []) c.sign_tree.ensures) c.add-in-Sign.ensures.first

pub returns-in_ok-add-in-Constant-clause-placed : goal.returns-in_ok-add-in-Constant-clause-placed
returns-in_ok-add-in-Constant-clause-placed c =
    let e = c.in_ok-add-in-Constant.ensures in
    leaf_advances _ _ _ _ _ _ _ _ _ (fixed (fixed_view c.in-Constant.lit) c.args.span) (sym (ap (λ k. piece k ∷ []) c.in-Constant.is)) refl c.add-in-Constant.ensures.levels
    (e.trees ∙ ap (λ t. inner_trees c.args.groups.now ++ t ∷ []) c.constant_tree.ensures) c.add-in-Constant.ensures.first
