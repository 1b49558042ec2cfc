-- A table is fit, whatever its trees are: where its items are, and each of its trees is.
use Rattle.std.proofs.Common.{◌≡◌, ℕ, zero, suc, List, None, subst}
use Rattle.std.specs.List.{AllByRecursion}
use Rattle.entry_defs.specs.Entry.{Shape, Entry}
use Rattle.entry_defs.specs.Table.{TargetEntry, Table, found}
use Rattle.entry_defs.specs.Sound.{Each, EachInShape, Leads}
use Rattle.entry_defs.specs.Ends.{AskedByShape, IfLed, EndsWithin, Ends}
use Rattle.naming_defs.specs.Laws.{IsFit}

module _ (ts : List TargetEntry) (xs ys : List Entry) where
  abbrev old : Table
  old = record { targets = ts; trees = xs }

  abbrev new : Table
  new = record { targets = ts; trees = ys }

  -- walks of references see no tree
  same-within : (k : ℕ) → EndsWithin old k ≡ EndsWithin new k
  same-within zero = λ i q. found q ts ≡ None
  same-within (suc k) = λ i q. IfLed (AskedByShape (same-within k i)) (found q ts)

  same-ends : Ends old ≡ Ends new
  same-ends = λ i n h. (k : ℕ) × AskedByShape (same-within k i) h

  pub fit-with : IsFit old → AllByRecursion (Each (Ends old) (Leads old)) ys → IsFit new
  fit-with f a = record {
    trees = subst (λ (E : List ℕ → Shape → Type 0). AllByRecursion (Each E (Leads old)) ys) same-ends a;
    targets = subst (λ (E : List ℕ → Shape → Type 0). AllByRecursion (λ x. E x.led_to.name x.led_to.shape × EachInShape E (Leads old) x.led_to.shape) ts) same-ends f.targets;
  }
