-- Which of two notes comes first.
use Rattle.std.specs.Ordering.{nat_cmp, eq_by_cmp, on, then_cmp}
use Rattle.std.specs.declared.cmp.Ordering.{Ordering}
use Rattle.std.specs.Cmp.{IsTotalOrder, IsEquivalence}
use Rattle.std.specs.Cmp.Lexicographic.{slice_cmp}
use Rattle.std.proofs.lemmas.Cmp.{nat_cmp_total, nat_list_cmp_total, lists_total, on_total, then_total, eq_by_cmp_equiv}
use Rattle.convert_defs.specs.Order.{way_number}
use Rattle.convert_walks.specs.Told.{Note, note_number}

abbrev pub note_cmp : Note → Note → Ordering
note_cmp = then_cmp (on (λ n. n.place) (slice_cmp (slice_cmp nat_cmp))) (then_cmp (on (λ n. note_number n.name) nat_cmp) (on (λ n. way_number n.way) nat_cmp))

pub note_total : IsTotalOrder note_cmp
note_total =
    then_total (on_total (λ n. n.place) (lists_total nat_list_cmp_total))
    (then_total (on_total (λ n. note_number n.name) nat_cmp_total) (on_total (λ n. way_number n.way) nat_cmp_total))

pub note_equiv : IsEquivalence (eq_by_cmp note_cmp)
note_equiv = eq_by_cmp_equiv note_total
