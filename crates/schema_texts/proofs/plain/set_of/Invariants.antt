-- The set has exactly the texts so far.
use Rattle.std.proofs.Common.{◌≡◌, ℕ, List, bytes_eq, string_bytes}
use Rattle.std.specs.List.{list_any}
use Rattle.std.specs.BTreeSet.{contains_text}
use Rattle.schema_texts.proofs.plain.set_of.Given as goal

abbrev pub invariant-loop-text : goal.invariant-loop-text
invariant-loop-text l = (s : List ℕ) → contains_text l.held s ≡ list_any (λ t. bytes_eq s (string_bytes t)) l.yielded
