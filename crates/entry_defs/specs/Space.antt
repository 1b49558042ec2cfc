-- A space of entries with ids, seen through the trees that it holds: a tree stands at an id where the entry there has its form, and its parts stand at the ids there.
use Rattle.std.specs.Prelude.{◌≡◌, ℕ, zero, suc, List, [], ◌∷◌, ◌++◌, Bool, true, Option, Some, None, ⊤}
use Rattle.schema_defs.specs.declared.Format.{Format}
use Rattle.model_defs.specs.Model.{TagModel, RuleD}
use Rattle.entry_defs.specs.Entry.{IntegerName, Target, State, required, Entry, boolean_entry, integer_entry, text_entry, native_entry, any_entry, unit_entry, option_entry, vec_entry, set_entry, map_entry, tuple_entry, array_entry, reference, item, Entries, no_entries, entry_then, entry_again, Shape, struct_shape, enum_shape, newtype_shape, Fields, no_fields, field_then, field_again, rest_field, Variants, no_variants, variant_then, Contents, unit_contents, newtype_contents, tuple_contents, struct_contents}

-- ---- entries whose parts are ids

abbrev pub Id : Type 0
Id = ℕ

pub record FieldAt : Type 0 where
  pub identifier : List ℕ
  pub name : List ℕ
  pub entry : Id
  pub state : State

pub record RestAt : Type 0 where
  pub identifier : List ℕ
  pub entry : Id

pub data ContentsAt : Type 0 where
  unit_at : ContentsAt
  newtype_at : Id → ContentsAt
  tuple_at : List Id → ContentsAt
  struct_at : List FieldAt → ContentsAt

pub record VariantAt : Type 0 where
  pub identifier : List ℕ
  pub name : List ℕ
  pub contents : ContentsAt

pub data ShapeAt : Type 0 where
  struct_shape_at : Bool → List FieldAt → Option RestAt → ShapeAt
  enum_shape_at : Bool → TagModel → List VariantAt → ShapeAt
  newtype_shape_at : Id → Option RuleD → ShapeAt

pub data EntryAt : Type 0 where
  boolean_at : EntryAt
  integer_at : IntegerName → EntryAt
  text_at : EntryAt
  native_at : Format → EntryAt
  any_at : EntryAt
  null_at : EntryAt
  option_at : Id → EntryAt
  vec_at : Id → EntryAt
  set_at : Id → EntryAt
  map_at : Id → Id → EntryAt
  tuple_entry_at : List Id → EntryAt
  array_at : Id → ℕ → EntryAt
  reference_at : Id → EntryAt
  item_at : List ℕ → ShapeAt → EntryAt

abbrev pub Space : Type 0
Space = List EntryAt

abbrev pub entry_at : Space → Id → Option EntryAt
entry_at [] i = None
entry_at (e ∷ es) zero = Some e
entry_at (e ∷ es) (suc i) = entry_at es i

-- the id at the next place, and that of the next field, or of the rest
abbrev pub next_id : List Id → Option Id
next_id [] = None
next_id (j ∷ js) = Some j

abbrev pub rest_id : Option RestAt → Option Id
rest_id None = None
rest_id (Some p) = Some p.entry

abbrev pub next_field_id : List FieldAt → Option RestAt → Option Id
next_field_id [] p = rest_id p
next_field_id (g ∷ gs) p = Some g.entry

-- ---- the trees that a space holds; `leads` says at which ids the items stand that references lead to

module _ (leads : Target → Id → Bool) (space : Space) where
  abbrev mutual
    -- the tree stands at the id
    pub Holds : Entry → Id → Type 0
    Holds boolean_entry i = entry_at space i ≡ Some boolean_at
    Holds (integer_entry g) i = entry_at space i ≡ Some (integer_at g)
    Holds text_entry i = entry_at space i ≡ Some text_at
    Holds (native_entry f) i = entry_at space i ≡ Some (native_at f)
    Holds any_entry i = entry_at space i ≡ Some any_at
    Holds unit_entry i = entry_at space i ≡ Some null_at
    Holds (option_entry e) i = (j : Id) × (entry_at space i ≡ Some (option_at j)) × Holds e j
    Holds (vec_entry e) i = (j : Id) × (entry_at space i ≡ Some (vec_at j)) × Holds e j
    Holds (set_entry e) i = (j : Id) × (entry_at space i ≡ Some (set_at j)) × Holds e j
    Holds (map_entry k e) i = (l : Id) × (j : Id) × (entry_at space i ≡ Some (map_at l j)) × Holds k l × Holds e j
    Holds (tuple_entry es) i = (js : List Id) × (entry_at space i ≡ Some (tuple_entry_at js)) × HoldsEntries es js
    Holds (array_entry e n) i = (j : Id) × (entry_at space i ≡ Some (array_at j n)) × Holds e j
    Holds (reference t) i = (j : Id) × (entry_at space i ≡ Some (reference_at j)) × (leads t j ≡ true)
    Holds (item n h) i = (s : ShapeAt) × (entry_at space i ≡ Some (item_at n s)) × HoldsShape h s

    pub HoldsEntries : Entries → List Id → Type 0
    HoldsEntries no_entries [] = ⊤
    HoldsEntries (entry_then e es) (j ∷ js) = Holds e j × HoldsEntries es js
    HoldsEntries (entry_again es) (j ∷ js) = (next_id js ≡ Some j) × HoldsEntries es js
    HoldsEntries _ _ = ⊥

    pub HoldsShape : Shape → ShapeAt → Type 0
    HoldsShape (struct_shape closed fs) s = (gs : List FieldAt) × (p : Option RestAt) × (s ≡ struct_shape_at closed gs p) × HoldsFields fs gs p
    HoldsShape (enum_shape closed tag ws) s = (xs : List VariantAt) × (s ≡ enum_shape_at closed tag xs) × HoldsVariants ws xs
    HoldsShape (newtype_shape e rule) s = (j : Id) × (s ≡ newtype_shape_at j rule) × Holds e j

    pub HoldsFields : Fields → List FieldAt → Option RestAt → Type 0
    HoldsFields no_fields [] None = ⊤
    HoldsFields (field_then i n e s fs) (g ∷ gs) p = (g.identifier ≡ i) × (g.name ≡ n) × (g.state ≡ s) × Holds e g.entry × HoldsFields fs gs p
    HoldsFields (field_again i n fs) (g ∷ gs) p = (g.identifier ≡ i) × (g.name ≡ n) × (g.state ≡ required) × (next_field_id gs p ≡ Some g.entry) × HoldsFields fs gs p
    HoldsFields (rest_field i e) [] (Some p) = (p.identifier ≡ i) × Holds e p.entry
    HoldsFields _ _ _ = ⊥

    pub HoldsVariants : Variants → List VariantAt → Type 0
    HoldsVariants no_variants [] = ⊤
    HoldsVariants (variant_then i n c ws) (x ∷ xs) = (x.identifier ≡ i) × (x.name ≡ n) × HoldsContents c x.contents × HoldsVariants ws xs
    HoldsVariants _ _ = ⊥

    pub HoldsContents : Contents → ContentsAt → Type 0
    HoldsContents unit_contents c = c ≡ unit_at
    HoldsContents (newtype_contents e) c = (j : Id) × (c ≡ newtype_at j) × Holds e j
    HoldsContents (tuple_contents es) c = (js : List Id) × (c ≡ tuple_at js) × HoldsEntries es js
    HoldsContents (struct_contents fs) c = (gs : List FieldAt) × (c ≡ struct_at gs) × HoldsFields fs gs None

-- a tree stays where it stands when entries are added
abbrev pub TreesStay : Type 0
TreesStay = (leads : Target → Id → Bool) (space more : Space) (e : Entry) (i : Id) → Holds leads space e i → Holds leads (space ++ more) e i
