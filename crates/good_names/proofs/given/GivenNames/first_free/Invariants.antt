use Rattle.std.proofs.Common.{◌≡◌, ◌≤◌, ◌<◌, ◌||◌, ℕ, true, option_map}
use Rattle.naming_defs.specs.Names.{numbered}
use Rattle.good_names.specs.Given.{is_used, kept_off}
use Rattle.good_names.proofs.given.GivenNames.first_free.Given as goal

abbrev pub invariant-loop-number : goal.invariant-loop-number
invariant-loop-number l = (i : ℕ) → l.self.next ≤ i → i < l.number → (kept_off (option_map (λ o. o.now) l.items) (numbered l.prefix i) || is_used l.self (numbered l.prefix i)) ≡ true
