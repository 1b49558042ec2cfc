-- Small tables are sound and formed.
use Rattle.std.proofs.Common.{ℕ, List, cond, refl, bytes_eq, codes}
use Rattle.std.specs.List.{IsDistinct}
use Rattle.entry_defs.proofs.Ranked.{ranked_tables_end}
use Rattle.entry_defs.specs.Sound.{IsSound}
use Rattle.emit_defs.specs.Formed.{IsFormed}
use Rattle.emit_defs.specs.Examples.{row_18, row_20, chain}

abbrev above : List ℕ → List ℕ → ℕ
above top n = cond (bytes_eq n top) 1 0

pub sound_18 : IsSound row_18
unfolding IsDistinct
sound_18 = record {
  distinct = ((refl, (refl, (refl, tt))), ((refl, (refl, tt)), ((refl, tt), (tt, tt))));
  trees = ((tt, (refl, ((_, refl), ((_, refl), tt)))), tt);
  targets = (tt, ((_, refl), (tt, tt)));
  acyclic = ranked_tables_end (above (codes "X")) row_18 refl;
}

pub formed_18 : IsFormed row_18
formed_18 = record { trees = (tt, tt); items = ((tt, tt), ((tt, tt), ((tt, tt), ((tt, (tt, (tt, tt))), tt)))) }

pub sound_20 : IsSound row_20
unfolding IsDistinct
sound_20 = record {
  distinct = ((refl, (refl, tt)), ((refl, tt), (tt, tt)));
  trees = ((tt, (refl, ((_, refl), (tt, (tt, ((_, refl), tt)))))), tt);
  targets = ((tt, ((refl, (tt, (tt, tt))), tt)), ((refl, (tt, tt)), tt));
  acyclic = ranked_tables_end (λ n. 0) row_20 refl;
}

pub formed_20 : IsFormed row_20
formed_20 = record {
  trees = (tt, tt);
  items = (((tt, (refl, tt)), (tt, ((refl, (tt, (tt, tt))), tt))), ((tt, (tt, tt)), ((tt, (tt, (tt, (tt, (tt, tt))))), tt)));
}

pub sound_chain : IsSound chain
unfolding IsDistinct
sound_chain = record {
  distinct = ((refl, tt), (tt, tt));
  trees = ((_, refl), tt);
  targets = ((refl, ((_, refl), ((_, refl), ((_, refl), (_, refl))))), ((_, refl), tt));
  acyclic = ranked_tables_end (above (codes "B")) chain refl;
}

pub formed_chain : IsFormed chain
formed_chain = record { trees = (tt, tt); items = (((refl, refl), (tt, (tt, (tt, tt)))), ((tt, tt), tt)) }
