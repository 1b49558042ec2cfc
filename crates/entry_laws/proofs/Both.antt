-- Two judges of one value that agree: one is asked trees, the other the ids at which they stand.
use Rattle.std.proofs.Common.{◌≡◌, List, [], Bool, None}
use Rattle.entry_defs.specs.Entry.{Target, Entry, text_entry, tuple_entry, item, Entries, struct_shape, Fields}
use Rattle.entry_defs.specs.Layer.{Judge}
use Rattle.entry_defs.specs.Space.{Id, FieldAt, Space, Holds, HoldsEntries, HoldsFields}
use Rattle.entry_laws.specs.Ids.{part_at, parts_at, fields_at}

module _ (leads : Target → Id → Bool) (space : Space) where
  pub record Agree (takes at_ids : Judge) : Type 0 where
    pub one : (e : Entry) (i : Id) → Holds leads space e i → takes e ≡ at_ids (part_at i)
    pub texts : takes text_entry ≡ at_ids text_entry
    pub several : (es : Entries) (js : List Id) → HoldsEntries leads space es js → takes (tuple_entry es) ≡ at_ids (tuple_entry (parts_at js))
    pub fields : (closed : Bool) (fs : Fields) (gs : List FieldAt) → HoldsFields leads space fs gs None
        → takes (item [] (struct_shape closed fs)) ≡ at_ids (item [] (struct_shape closed (fields_at gs None)))

  pub record Both : Type 0 where
    pub left : Judge
    pub right : Judge
    pub agree : Agree left right
