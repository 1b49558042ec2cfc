-- So many groups stand before what is left, and each took a byte and a colon.
use Rattle.std.proofs.Common.{◌+◌, ◌≤◌, length}
use Rattle.schema_texts.proofs.Addresses.{Counted}
use Rattle.schema_texts.proofs.address.count_groups.Given as goal

abbrev pub invariant-loop-group : goal.invariant-loop-group
invariant-loop-group l = record {
  counted : Counted l.ipv4_allowed l.text l.rest l.count;
  room : l.count + l.count + length l.rest ≤ length l.text;
}

abbrev pub decreases-loop-group : goal.decreases-loop-group
decreases-loop-group l = length l.rest
