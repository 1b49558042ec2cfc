-- Answers that are those of the nodes that follow.
use Rattle.std.specs.Prelude.{◌≡◌, ℕ, ◌<◌, Bool, true, false, List, length, slice_index, slice_index_or}
use Rattle.use_graph.specs.declared.ends.Next.{Next}
use Rattle.use_graph.specs.declared.ends.Next.TheVariants.{Yes, No, To}
use Rattle.use_graph.specs.declared.ends.Answers.{Answers}
use Rattle.use_graph.specs.Ends.{next_at}

abbrev pub answer_at : Answers → ℕ → Bool
answer_at a i = slice_index_or a.answers.items i false

abbrev pub rank_at : Answers → ℕ → ℕ
rank_at a i = slice_index a.ranks.items i

-- the answer of a node that is this
abbrev pub IsFollowed : Answers → ℕ → Next → Type 0
IsFollowed a i Yes = answer_at a i ≡ true
IsFollowed a i No = answer_at a i ≡ false
IsFollowed a i (To j) = (answer_at a i ≡ answer_at a j) × (answer_at a i ≡ true → rank_at a j < rank_at a i)

pub record AreFollowed (ns : List Next) (a : Answers) : Type 0 where
  pub sized : length a.answers.items ≡ length ns
  pub each : (i : ℕ) → i < length ns → IsFollowed a i (next_at ns i)
