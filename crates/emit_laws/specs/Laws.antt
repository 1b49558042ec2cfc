-- Items that are emitted, as serde's derives read them: nothing is told of them, the reader of values reads them, and their containers are those that are meant.
use Rattle.std.specs.Prelude.{◌≡◌, [], true}
use Rattle.std.specs.List.{AllByRecursion}
use Rattle.token_trees.specs.Token.{Name}
use Rattle.json_value.specs.Value.{Value}
use Rattle.schema_defs.specs.Texts.{Relations}
use Rattle.attr_parts.specs.declared.derive.Derive.{Derive}
use Rattle.attr_defs.specs.Renames.{Meaning}
use Rattle.attr_defs.specs.Texts.{lexed}
use Rattle.container_defs.specs.Model.{diagnostics_of}
use Rattle.container_defs.specs.Reader.{item_models}
use Rattle.container_defs.specs.Forms.{is_known, names_of, are_inside}
use Rattle.type_spellings.specs.Types.{type_of}
use Rattle.model_defs.specs.Reads.{reads}
use Rattle.entry_defs.specs.Entry.{Entry}
use Rattle.entry_defs.specs.Table.{Table}
use Rattle.entry_defs.specs.Takes.{takes}
use Rattle.emit_defs.specs.Emission.{emission, models_of, type_outside}
use Rattle.emit_defs.specs.Law.{IsOf}
use Rattle.emit_defs.specs.Formed.{EntryIsFormed, IsEmittable}

-- An entry whose type can be written where the table's items are.
pub record IsRoot (t : Table) (e : Entry) : Type 0 where
  pub its_own : IsOf t e
  pub formed : EntryIsFormed e

-- Whatever serde's own module is called, whatever a renamer makes of names, and for either derive:

-- no item has a diagnostic,
abbrev pub NothingIsTold : Type 0
NothingIsTold =
    (variant_name field_name : Meaning) (private : Name) (derive : Derive) (t : Table) → IsEmittable t → (e : Entry)
    → AllByRecursion (λ i. diagnostics_of lexed variant_name field_name private i derive ≡ []) (emission t e).items

-- each is within the forms that the reader of values reads,
abbrev pub ItemsAreInside : Type 0
ItemsAreInside =
    (variant_name field_name : Meaning) (private : Name) (derive : Derive) (t : Table) → IsEmittable t → (e : Entry)
    → are_inside lexed variant_name field_name private derive (emission t e).conversions (emission t e).items ≡ true

-- and they are read as the containers that are meant;
abbrev pub ItemsAreRead : Type 0
ItemsAreRead =
    (variant_name field_name : Meaning) (private : Name) (derive : Derive) (t : Table) → IsEmittable t → (e : Entry)
    → item_models lexed variant_name field_name private derive (emission t e).items ≡ models_of t

-- the root's type is built of types that are known and of items, and is the type that is meant;
abbrev pub RootsAreRead : Type 0
RootsAreRead =
    (t : Table) → IsEmittable t → (e : Entry) → IsRoot t e
    → (is_known (names_of (emission t e).items) (type_of (emission t e).root) ≡ true) × (type_of (emission t e).root ≡ type_outside t e)

-- so what is read by the items' containers is what the entry takes.
abbrev pub ItemsMeanEntries : Type 0
ItemsMeanEntries =
    (variant_name field_name : Meaning) (private : Name) (derive : Derive) (t : Table) → IsEmittable t → (relations : Relations) (e : Entry) → IsRoot t e → (v : Value)
    → reads (item_models lexed variant_name field_name private derive (emission t e).items) (emission t e).conversions relations (type_of (emission t e).root) v ≡ takes t relations e v

-- Each tree of a table can be its root.
abbrev pub TreesAreRoots : Type 0
TreesAreRoots = (t : Table) → IsEmittable t → AllByRecursion (IsRoot t) t.trees
