-- Documents that were read, and their conversion where rows may merge: its premises are faults, notes and small values alone.
-- A walk has at most `most` steps, and there are n levels.
use Rattle.std.specs.Prelude.{ℕ, ◌≡◌, []}
use Rattle.token_trees.specs.Token.{Name}
use Rattle.json_value.specs.Value.{Value, IsSmall}
use Rattle.schema_defs.specs.Texts.{Relations, IsLawful}
use Rattle.schema_defs.specs.Schema.{Document}
use Rattle.schema_defs.specs.Admits.{admits}
use Rattle.attr_parts.specs.declared.derive.Derive.{Derive}
use Rattle.attr_defs.specs.Renames.{Meaning}
use Rattle.attr_defs.specs.Texts.{lexed}
use Rattle.container_defs.specs.Reader.{item_models}
use Rattle.type_spellings.specs.Types.{type_of}
use Rattle.model_defs.specs.Reads.{reads}
use Rattle.entry_defs.specs.Table.{Table, root_of}
use Rattle.entry_defs.specs.Takes.{takes}
use Rattle.naming_defs.specs.Names.{named_table}
use Rattle.naming_defs.specs.Good.{is_good_name}
use Rattle.naming_defs.specs.Laws.{IsFit}
use Rattle.emit_defs.specs.Formed.{IsShaped, IsEmittable}
use Rattle.emit_defs.specs.Emission.{emission, models_of, type_outside}
use Rattle.convert_defs.specs.Row.{Way}
use Rattle.convert_defs.specs.Laws.{Keeps}
use Rattle.merge_laws.specs.Laws.{ProperDocument}
use Rattle.convert_walks.specs.Tree.{table_of, document_tree}
use Rattle.convert_walks.specs.Told.{notes_of, faults_of}
use Rattle.merging_laws.specs.Conversion.{Free, AllNodes, Kept}
use Rattle.document_laws.specs.Laws.{WasRead, IsPlan}

-- a document that was read is fit for merging: `number` is named where all types are, and multiples are at least 1
abbrev pub ReadDocumentsMayMerge : Type 0
ReadDocumentsMayMerge = (d : Document) → WasRead d → ProperDocument d

-- without faults and without notes of one way
pub record IsClean (way : Way) (r : Relations) (d : Document) (most n : ℕ) : Type 0 where
  pub faultless : faults_of r d most n ≡ []
  pub noteless : Free way (notes_of r d most n)

abbrev pub ReadDocumentsAgree : Type 0
ReadDocumentsAgree =
    (way : Way) (r : Relations) → IsLawful r → (d : Document) (most n : ℕ) → WasRead d → IsClean way r d most n
    → (v : Value) → IsSmall v → AllNodes (Kept way r d most n v) (document_tree r d most n)

abbrev pub ReadRootsAgree : Type 0
ReadRootsAgree =
    (way : Way) (r : Relations) → IsLawful r → (d : Document) (most n : ℕ) → WasRead d → IsClean way r d most n
    → (v : Value) → IsSmall v → Keeps way (admits r d v d.root) (takes (table_of r d most n) r (root_of (table_of r d most n)) v)

abbrev pub ReadTablesAreFit : Type 0
ReadTablesAreFit = (r : Relations) (d : Document) (most n : ℕ) → WasRead d → IsFit (table_of r d most n)

-- ---- with names

-- the table that is emitted
abbrev pub plan_of : Relations → Document → ℕ → ℕ → Table
plan_of r d most n = named_table is_good_name (table_of r d most n)

abbrev pub ReadDocumentsArePlanned : Type 0
ReadDocumentsArePlanned = (r : Relations) (d : Document) (most n : ℕ) → WasRead d → IsPlan (plan_of r d most n)

-- what the root admits its tree in the named table takes
abbrev pub ReadPlansAgree : Type 0
ReadPlansAgree =
    (way : Way) (r : Relations) → IsLawful r → (d : Document) (most n : ℕ) → WasRead d → IsClean way r d most n
    → (v : Value) → IsSmall v → Keeps way (admits r d v d.root) (takes (plan_of r d most n) r (root_of (plan_of r d most n)) v)

-- ---- emission

-- the table of a document that was read is as emission asks, before names are given
abbrev pub ReadTablesAreShaped : Type 0
ReadTablesAreShaped = (r : Relations) (d : Document) (most n : ℕ) → WasRead d → IsShaped (table_of r d most n)

-- and with names it can be written
abbrev pub ReadPlansAreEmittable : Type 0
ReadPlansAreEmittable = (r : Relations) (d : Document) (most n : ℕ) → WasRead d → IsEmittable (plan_of r d most n)

-- the containers that are meant
abbrev pub DocumentsMeanModels : Type 0
DocumentsMeanModels =
    (way : Way) (r : Relations) → IsLawful r → (d : Document) (most n : ℕ) → WasRead d → IsClean way r d most n → (v : Value) → IsSmall v
    → let t = plan_of r d most n in
    Keeps way (admits r d v d.root) (reads (models_of t) (emission t (root_of t)).conversions r (type_outside t (root_of t)) v)

-- the containers that are read from the items as they are written, whatever serde's own module is called, whatever a renamer makes of names, and for either derive
abbrev pub DocumentsMeanItems : Type 0
DocumentsMeanItems =
    (variant_name field_name : Meaning) (private : Name) (derive : Derive)
    (way : Way) (r : Relations) → IsLawful r → (d : Document) (most n : ℕ) → WasRead d → IsClean way r d most n → (v : Value) → IsSmall v
    → let t = plan_of r d most n in
    Keeps way (admits r d v d.root) (reads (item_models lexed variant_name field_name private derive (emission t (root_of t)).items) (emission t (root_of t)).conversions r (type_of (emission t (root_of t)).root) v)
