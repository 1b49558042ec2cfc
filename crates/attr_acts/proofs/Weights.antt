-- How deep groups lie in one another.
use Rattle.std.proofs.Common.{ℕ, ◌+◌}
use Rattle.token_trees.specs.Token.{Tok, word, mark, fixed, group, Toks, no_toks, tok}

-- tokens, and twice the groups
abbrev mutual
  pub weight : Tok → ℕ
  weight (word x s) = 1
  weight (mark c j s) = 1
  weight (fixed l s) = 1
  weight (group d ts s) = 3 + weights ts

  pub weights : Toks → ℕ
  weights no_toks = 0
  weights (tok t ts) = weight t + weights ts

-- what is in a group
abbrev pub inner : Tok → ℕ
inner (word x s) = 0
inner (mark c j s) = 0
inner (fixed l s) = 0
inner (group d ts s) = weights ts
