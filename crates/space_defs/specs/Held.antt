-- Where a space holds a table, what is emitted for the space is what is emitted for the table.
use Rattle.std.specs.Prelude.{◌≡◌, ◌⊎◌, map, Bool, true, Some, bytes_eq}
use Rattle.std.specs.List.{IsDistinct, AllByRecursion}
use Rattle.entry_defs.specs.Entry.{Target, Entry, reference, item}
use Rattle.entry_defs.specs.Space.{Id, Space, Holds}
use Rattle.entry_defs.specs.Table.{ItemEntry, Table, target_item, items_of}
use Rattle.emit_defs.specs.Emission.{emission}
use Rattle.space_defs.specs.Items.{items_at}
use Rattle.space_defs.specs.Ordered.{PartsAreLower}
use Rattle.space_defs.specs.Emission.{emission_at}

module _ (leads : Target → Id → Bool) (space : Space) where
  -- the item stands at some id
  abbrev pub ItemIsHeld : ItemEntry → Type 0
  ItemIsHeld x = (i : Id) × Holds leads space (item x.name x.shape) i

  -- the entry is there, or it is a reference and the id is that of what it leads to: there need be no entry that refers there
  abbrev pub Stands : Entry → Id → Type 0
  Stands e i = Holds leads space e i ⊎ ((q : Target) × (e ≡ reference q) × (leads q i ≡ true))

-- Each target's item and each tree stands at some id; references lead to the items of their targets; the items' names are those of the space's items
-- in the order of ids, and they differ.
pub record HoldsTable (leads : Target → Id → Bool) (space : Space) (t : Table) : Type 0 where
  pub targets : AllByRecursion (λ x. ItemIsHeld leads space x.led_to) t.targets
  pub trees : AllByRecursion (λ e. (i : Id) × Stands leads space e i) t.trees
  pub led : (q : Target) (j : Id) → leads q j ≡ true → (x : ItemEntry) × (target_item t q ≡ Some x) × Holds leads space (item x.name x.shape) j
  pub named : map (λ x. x.name) (items_at space) ≡ map (λ x. x.name) (items_of t)
  pub distinct : IsDistinct bytes_eq (map (λ x. x.name) (items_of t))
  pub lower : PartsAreLower space

abbrev pub SpacesEmitTables : Type 0
SpacesEmitTables = (leads : Target → Id → Bool) (space : Space) (t : Table) → HoldsTable leads space t
    → (e : Entry) (root : Id) → Stands leads space e root → emission_at space root ≡ emission t e
