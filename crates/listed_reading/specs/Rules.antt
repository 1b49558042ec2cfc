-- The rule of keys.
use Rattle.std.specs.Prelude.{ℕ, List, [], None}
use Rattle.model_defs.specs.Model.{RuleD, text_rule}

-- to have one of the patterns
abbrev pub keys_rule : List (List ℕ) → RuleD
keys_rule ps = text_rule (record { least = None; most = None; all = []; any = ps })
