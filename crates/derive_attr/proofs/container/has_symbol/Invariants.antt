use Rattle.std.proofs.Common.{◌≡◌, drop}
use Rattle.std.specs.List.{list_any}
use Rattle.token_trees.specs.View.{trees}
use Rattle.attr_defs.specs.Metas.{is_text}
use Rattle.derive_attr.proofs.container.has_symbol.Given as goal

abbrev pub invariant-loop-token : goal.invariant-loop-token
invariant-loop-token l = list_any (is_text l.symbol.0.now) (trees l.tokens) ≡ list_any (is_text l.symbol.0.now) (trees (drop l.token-index l.tokens))
