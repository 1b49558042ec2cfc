use Rattle.std.proofs.Common.{◌≡◌, false, rules}
use Rattle.merged_rows.specs.Starts.{made_by}
use Rattle.merged_rows.proofs.Inside.{further_is}
use Rattle.merged_rows.proofs.spots.start_of_plain.Goals as goal

pub returns-then-not-is_made_at : goal.returns-then-not-is_made_at
returns-then-not-is_made_at c =
    let e : made_by c.args.start.now c.args.trail.now.items ≡ false = search rules in λ g h. further_is c.args.start.now c.args.trail.now.items c.args.steps c.args.is_boolean e g h
