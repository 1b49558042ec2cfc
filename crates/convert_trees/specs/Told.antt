-- What conversion tells of nodes of a conversion tree: their notes, where none of them has a fault, or else the first fault.
use Rattle.std.specs.Prelude.{◌≡◌, ℕ, List, [], ◌∷◌, ◌++◌, map, Contains, Bool, true, false, Option, Some, None, if◌then◌else◌}
use Rattle.schema_defs.specs.Faults.{Rises}
use Rattle.json_value.specs.Value.{Value, null, text}
use Rattle.schema_defs.specs.Location.{Location}
use Rattle.schema_defs.specs.Texts.{Relations}
use Rattle.schema_defs.specs.Schema.{Schema, boolean, object, Document}
use Rattle.entry_defs.specs.Entry.{Entry}
use Rattle.convert_defs.specs.Row as row
use Rattle.convert_defs.specs.Row.{Row, leaf_row, as_it_is_row, option_row, ruled_row, vec_row, set_row, array_row, tuple_row, map_row, pattern_map_row, struct_row, enum_row, merged_row, refused_row, Part, Finding, plainly, Cause}
use Rattle.convert_defs.specs.Table.{finding_of}
use Rattle.convert_walks.specs.Tree.{Node}
use Rattle.convert_walks.specs.Told.{Reason, by_row, by_merge, too_deep, by_levels, notes_in, state_faults, faults_in}
use Rattle.row_findings.specs.declared.finding.Cause.{Cause as CodeCause}
use Rattle.row_findings.specs.View.{cause_view}
use Rattle.schema_tree.specs.declared.fault.InvalidKind.TheVariants as invalid
use Rattle.schema_tree.specs.declared.fault.UnsupportedKind.TheVariants as kind
use Rattle.schema_tree.specs.Fault.{FaultD, memory, depth, places, bad_value, invalid_schema, unsupported, texts}
use Rattle.merge_faults.specs.Faults.{unmerged_kind}
use Rattle.document_merges.specs.Merges.{MergeD, merges_in}
use Rattle.convert_trees.specs.Unread.{unread_of, unread_in}
use Rattle.convert_trees.specs.Keeping.{KeptD, with_unread}

-- ---- the fault that is told for a cause

-- a value that is neither a text nor null
abbrev pub is_odd : Value → Bool
is_odd null = false
is_odd (text s) = false
is_odd _ = true

abbrev pub first_odd : List Value → Value
first_odd [] = null
first_odd (v ∷ vs) = if is_odd v then v else first_odd vs

abbrev pub odd_or : Option Value → Value
odd_or None = null
odd_or (Some v) = v

abbrev pub odd_in : Option (List Value) → Value
odd_in None = null
odd_in (Some vs) = first_odd vs

abbrev pub odd_value : Schema → Value
odd_value (boolean b) = null
odd_value (object p ss ls ns) = odd_in p.enum_values

module _ (l : Location) (s : Schema) (f : Finding) where
  abbrev pub told_cause : Cause → FaultD
  told_cause row.conditional = unsupported l kind.Conditional
  told_cause row.mix = unsupported l kind.Mix
  told_cause row.mixed_enum = unsupported l kind.MixedEnum
  told_cause row.nested_enum = unsupported l kind.NestedEnum
  told_cause row.bad_not = unsupported l kind.Not
  told_cause row.names = unsupported l kind.Names
  told_cause row.places = places l f.places
  told_cause row.bad_value = bad_value l (odd_value s)
  told_cause row.bad_array = invalid_schema l invalid.Array
  told_cause row.bad_pattern = invalid_schema l invalid.Pattern
  told_cause row.too_deep = depth (l ∷ [])

-- want of memory, or a failure of the judge of texts, whose count rose, told at one of these places
pub data NoAnswer (ls : List Location) (old new : ℕ) (told : FaultD) : Type 0 where
  no_memory : told ≡ memory → NoAnswer ls old new told
  failed : (m : Location) → Contains ls m → told ≡ texts m → Rises old new → NoAnswer ls old new told

-- or what is told of the first of these causes
pub data RefusesBy (l : Location) (s : Schema) (f : Finding) (old new : ℕ) (cs : List Cause) (told : FaultD) : Type 0 where
  unanswered : NoAnswer (l ∷ []) old new told → RefusesBy l s f old new cs told
  by_cause : (c : Cause) (more : List Cause) → cs ≡ c ∷ more → told ≡ told_cause l s f c → RefusesBy l s f old new cs told

-- want of memory, or what is told of a row that is refused
pub data RowRefuses (l : Location) (s : Schema) (w : Row) (told : FaultD) : Type 0 where
  without_memory : told ≡ memory → RowRefuses l s w told
  by_refusal : (c : CodeCause) → w ≡ refused_row (cause_view c) → told ≡ told_cause l s (plainly (refused_row (cause_view c))) (cause_view c) → RowRefuses l s w told

-- ---- nodes

-- where they stand
abbrev pub places_of_nodes : List Node → List Location
places_of_nodes ts = map (λ t. t.spot.path) ts

module _ (r : Relations) (d : Document) (most n : ℕ) where
  pub record AreFine (ts : List Node) : Type 0 where
    pub faultless : faults_in r d most n ts ≡ []

  -- nothing to refuse, the notes, the first stated value that isn't read, and the merges that are left
  pub record IsTold (ts : List Node) (old new : KeptD) : Type 0 where
    pub fine : AreFine ts
    pub notes : new.notes ≡ old.notes ++ notes_in r d most n ts
    pub values : new.values ≡ with_unread (unread_in r old.values.known d ts) old.values
    pub merges : (rest : List MergeD) → old.merges ≡ merges_in ts ++ rest → new.merges ≡ rest

  -- the same of the parts of a schema, with the values that it states itself
  pub record IsToldOf (l : Location) (s : Schema) (w : Row) (e : Entry) (ts : List Node) (old new : KeptD) : Type 0 where
    pub fine : AreFine ts
    pub notes : new.notes ≡ old.notes ++ notes_in r d most n ts
    pub values : new.values ≡ with_unread (unread_of r old.values.known l s w e ++ unread_in r old.values.known d ts) old.values
    pub merges : (rest : List MergeD) → old.merges ≡ merges_in ts ++ rest → new.merges ≡ rest

  -- what is told of a reason at its place
  abbrev pub told_reason : Schema → Location → Reason → FaultD
  told_reason s l (by_row c) = told_cause l s (finding_of r d s) c
  told_reason s l (by_merge u) = unsupported l (unmerged_kind u)
  told_reason s l (too_deep w) = depth w
  told_reason s l by_levels = memory

  -- the first fault of a schema of the tree
  pub data TellsOf (t : Node) (f : FaultD) : Type 0 where
    of_reason : (l : Location) (why : Reason) (more : List (Location × Reason)) → state_faults r d most n t.spot t.schema t.state ≡ (l, why) ∷ more
        → f ≡ told_reason t.schema l why → TellsOf t f

  -- the first fault of all
  pub record Tells (ts : List Node) (f : FaultD) : Type 0 where
    pub before : List Node
    pub at : Node
    pub after : List Node
    pub split : ts ≡ before ++ at ∷ after
    pub fine : AreFine before
    pub told : TellsOf at f

  -- no answer, at the place of a schema of the tree, or the first fault
  pub data Refuses (old new : ℕ) (ts : List Node) (f : FaultD) : Type 0 where
    by_none : NoAnswer (places_of_nodes ts) old new f → Refuses old new ts f
    by_fault : Tells ts f → Refuses old new ts f

  -- the same of the parts of a schema, with no answer at its own place
  pub data RefusesOf (l : Location) (old new : ℕ) (ts : List Node) (f : FaultD) : Type 0 where
    at_schema : NoAnswer (l ∷ []) old new f → RefusesOf l old new ts f
    at_parts : Refuses old new ts f → RefusesOf l old new ts f

-- ---- the merges that are left

-- they begin with these
pub data Begins (left first : List MergeD) : Type 0 where
  begins : (rest : List MergeD) → left ≡ first ++ rest → Begins left first
