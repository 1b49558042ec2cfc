use Rattle.std.proofs.Common.{◌≡◌, length, false, sym, rules}
use Rattle.std.specs.Prelude.{◌==◌}
use Rattle.schema_reading.proofs.Schemas.{filled_is}
use Rattle.schema_reading.proofs.schema.filled.Goals as goal

pub returns-else-is_empty : goal.returns-else-is_empty
returns-else-is_empty c =
    let some : (length c.in-Some.schemas.items == 0) ≡ false = search rules in
    rw c.in-Some.is (sym (filled_is c.in-Some.schemas.items some))
