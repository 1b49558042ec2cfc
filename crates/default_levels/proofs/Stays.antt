-- More levels change nothing once reading ends.
use Rattle.std.proofs.Common.{◌≡◌, ◌≤◌, ℕ, zero, suc, refl, sym, ap, subst, arith}
use Rattle.std.specs.Prelude.{⊤}
use Rattle.json_value.specs.Value.{Value}
use Rattle.schema_defs.specs.Texts.{Relations}
use Rattle.entry_defs.specs.Entry.{Entry}
use Rattle.entry_defs.specs.Table.{Table}
use Rattle.default_defs.specs.Found.{Found, refused, ended, endless, both, or_next, given}
use Rattle.default_defs.specs.Supplied.{read_inside}
use Rattle.default_levels.specs.Laws.{EndedStays}
use Rattle.default_levels.proofs.Pairs.{pairs, in_targets, everywhere}
use Rattle.default_levels.proofs.Related.{IsKept, Same, of_value}

-- what hasn't come to an end may come to anything, and all else stays
abbrev pub StaysAs : Found → Found → Type 0
StaysAs refused y = y ≡ refused
StaysAs ended y = y ≡ ended
StaysAs endless y = ⊤

alone : (x : Found) → StaysAs x x
alone refused = refl
alone ended = refl
alone endless = tt

together : (x y a b : Found) → StaysAs x a → StaysAs y b → StaysAs (both x y) (both a b)
together refused y a b h k = ap (λ z. both z b) h
together ended y a b h k = subst (λ z. StaysAs y (both z b)) (sym h) k
together endless y a b h k = tt

one_after : (x y a b : Found) → StaysAs x a → StaysAs y b → StaysAs (or_next x y) (or_next a b)
one_after refused y a b h k = subst (λ z. StaysAs y (or_next z b)) (sym h) k
one_after ended y a b h k = ap (λ z. or_next z b) h
one_after endless y a b h k = tt

as_default : (x a : Found) → StaysAs x a → StaysAs (given x) (given a)
as_default refused a h = ap given h
as_default ended a h = ap given h
as_default endless a h = tt

joined : IsKept StaysAs
joined = record { of_one = alone; of_both = together; of_next = one_after; of_given = as_default }

pub stays : (t : Table) (r : Relations) (k l : ℕ) → k ≤ l → (e : Entry) (v : Value) → StaysAs (read_inside t r k e v) (read_inside t r l e v)
stays t r zero l h e v = tt
stays t r (suc k) zero h e v = absurd (omega (arith, h))
stays t r (suc k) (suc l) h e v =
    let x = read_inside t r k in
    let y = read_inside t r l in
    let all = everywhere (Same StaysAs joined x y) (stays t r k l (omega (arith, h))) in
    of_value StaysAs joined x y t (all (in_targets t.targets)) r v e (all (pairs e))

pub ended_stays : EndedStays
ended_stays t r k e v =
    let h = stays t r k (suc k) (omega arith) e v in
    record {
      of_ended = λ p. subst (λ z. StaysAs z (read_inside t r (suc k) e v)) p h;
      of_refused = λ p. subst (λ z. StaysAs z (read_inside t r (suc k) e v)) p h;
    }
