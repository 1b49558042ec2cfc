use Rattle.std.proofs.Common.{◌≡◌, length, reverse}
use Rattle.std.specs.Str.{skip_leading_whitespace}
use Rattle.rust_tokens.specs.Groups.{AreClosed}
use Rattle.rust_tokens.specs.Partners.{held, IsBarren}
use Rattle.rust_tokens.proofs.partners.are_closed.Given as goal

abbrev pub invariant-loop-partners : goal.invariant-loop-partners
invariant-loop-partners l = record {
  barren : IsBarren l.rest l.partners.barren;
  past : skip_leading_whitespace l.rest ≡ l.rest;
  onward : AreClosed (reverse l.fn.open_brackets.items) l.chars → AreClosed (held l.partners) l.rest;
  back : AreClosed (held l.partners) l.rest → AreClosed (reverse l.fn.open_brackets.items) l.chars;
}

abbrev pub decreases-loop-partners : goal.decreases-loop-partners
decreases-loop-partners l = length l.rest
