use Rattle.std.proofs.Common.{◌≡◌, drop, bytes_eq}
use Rattle.std.specs.List.{list_any}
use Rattle.schema_faults.proofs.kind.is_among.Given as goal

abbrev pub invariant-loop-word : goal.invariant-loop-word
invariant-loop-word l = list_any (λ w. bytes_eq l.fn.name w.now) l.words ≡ list_any (λ w. bytes_eq l.fn.name w.now) (drop l.word-index l.words)
