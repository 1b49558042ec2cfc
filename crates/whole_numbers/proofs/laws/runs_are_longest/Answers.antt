use Rattle.whole_numbers.specs.declared.place.Place.TheVariants.{Outside}
use Rattle.whole_numbers.proofs.Longest.{longest, same_bytes}
use Rattle.whole_numbers.proofs.laws.runs_are_longest.Goals as goal

pub returns : goal.returns
returns c = record { same = same_bytes Outside; longest = longest Outside }
