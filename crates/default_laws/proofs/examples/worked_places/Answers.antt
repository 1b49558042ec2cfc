use Rattle.std.proofs.Common.{refl, inl, inr}
use Rattle.default_laws.proofs.examples.worked_places.Goals as goal

pub returns : goal.returns
returns c = record {
  listed = refl;
  first = inl (inl (refl, refl, refl, refl));
  second = inr (inl (inl (refl, refl, refl, refl)));
  one_level = refl;
  two_levels = refl;
  comes_round = refl;
}
