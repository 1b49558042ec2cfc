-- Findings without notes of their own.
use Rattle.std.proofs.Common.{◌≡◌, List, ap}
use Rattle.std.proofs.lemmas.List.{append-nil}
use Rattle.convert_defs.specs.Row.{Note, Row, add_notes, noted, plainly}

pub plain_noted : (ns : List Note) (w : Row) → add_notes ns (plainly w) ≡ noted ns w
plain_noted ns w = ap (λ ms. noted ms w) (append-nil ns)
