use Rattle.std.proofs.Common.{◌≡◌, ◌++◌, drop, string_bytes}
use Rattle.token_trees.specs.View.{trees}
use Rattle.attr_defs.specs.Metas.{path_text}
use Rattle.attr_acts.proofs.text.text_of_path.Given as goal

abbrev pub invariant-loop-token : goal.invariant-loop-token
invariant-loop-token l = path_text (trees l.path) ≡ string_bytes l.text ++ path_text (trees (drop l.token-index l.path))
