-- Schemas whose merges end.
use Rattle.std.specs.Prelude.{◌≡◌, ℕ, zero, suc, None}
use Rattle.schema_defs.specs.Schema.{Schema, boolean, object, no_same, Lists, no_lists, lists, Named, no_named, named, MaybeSchema, no_schema, the_schema, Schemas, no_more, schema, Places, no_items, each_item, by_place, Properties, no_properties, property, Document}
use Rattle.merge_defs.specs.Outcome.{Outcome, fault, depth}
use Rattle.merge_defs.specs.Merge.{join, less, merge_all, with_subschemas}

-- no reference, no subschemas and no names by pattern, and n steps to children at most; a list of items counts as a step
abbrev mutual
  pub IsBare : Schema → ℕ → Type 0
  IsBare (boolean b) n = Unit {0}
  IsBare (object p ss ls ns) n = (p.reference ≡ None) × (ss ≡ no_same) × BareLists ls n × BareNamed ns n

  pub BareLists : Lists → ℕ → Type 0
  BareLists no_lists n = Unit {0}
  BareLists (lists p a c r) n = BarePlaces p n × BareMaybe a n

  pub BareNamed : Named → ℕ → Type 0
  BareNamed no_named n = Unit {0}
  BareNamed (named p q a m r) n = BareProperties p n × (q ≡ no_properties) × BareMaybe a n × (m ≡ no_schema)

  pub BareMaybe : MaybeSchema → ℕ → Type 0
  BareMaybe no_schema n = Unit {0}
  BareMaybe (the_schema s) zero = ⊥
  BareMaybe (the_schema s) (suc n) = IsBare s n

  pub BareAll : Schemas → ℕ → Type 0
  BareAll no_more n = Unit {0}
  BareAll (schema s ss) n = IsBare s n × BareAll ss n

  pub BarePlaces : Places → ℕ → Type 0
  BarePlaces no_items n = Unit {0}
  BarePlaces (each_item s) zero = ⊥
  BarePlaces (each_item s) (suc n) = IsBare s n
  BarePlaces (by_place ss) zero = ⊥
  BarePlaces (by_place ss) (suc n) = BareAll ss n

  pub BareProperties : Properties → ℕ → Type 0
  BareProperties no_properties n = Unit {0}
  BareProperties (property k s ps) zero = ⊥
  BareProperties (property k s ps) (suc n) = IsBare s n × BareProperties ps (suc n)

-- an answer or never
abbrev pub HasNoFault : {A : Type 0} → Outcome A → Type 0
HasNoFault (fault f) = ⊥
HasNoFault _ = Unit {0}

-- neither Depth nor what is unsupported comes of two of them where so many steps may be taken
abbrev pub BareMergesEnd : Type 0
BareMergesEnd = (d : Document) (n : ℕ) (a b : Schema) → IsBare a n → IsBare b n → HasNoFault (join d n a b)

-- anything but Depth
abbrev pub HasNoDepth : {A : Type 0} → Outcome A → Type 0
HasNoDepth (fault (depth w)) = ⊥
HasNoDepth _ = Unit {0}

-- of each call: one of them or two merged, one without subschemas to merge it with, and one less another, which may be unsupported
pub record BareCalls (d : Document) (n : ℕ) (a b : Schema) : Type 0 where
  pub one : HasNoFault (merge_all d n (schema a no_more))
  pub two : HasNoFault (merge_all d n (schema a (schema b no_more)))
  pub alone : HasNoFault (with_subschemas d n a no_same)
  pub less_other : HasNoDepth (less d n a b)

abbrev pub BareCallsEnd : Type 0
BareCallsEnd = (d : Document) (n : ℕ) (a b : Schema) → IsBare a n → IsBare b n → BareCalls d n a b
