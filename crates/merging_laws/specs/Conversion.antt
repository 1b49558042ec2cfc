-- The law of conversion where rows may merge: without narrowed notes each value that a schema of the conversion tree admits is one that its entry takes, and without
-- widened notes each value that its entry takes is one that the schema admits. Proved in conversion_laws.
use Rattle.std.specs.Prelude.{◌≡◌, ℕ, List, [], ◌∷◌, false}
use Rattle.json_value.specs.Value.{Value, IsSmall}
use Rattle.schema_defs.specs.Texts.{Relations, IsLawful}
use Rattle.schema_defs.specs.Schema.{Document}
use Rattle.schema_defs.specs.Walks.{IsGuarded}
use Rattle.schema_defs.specs.Admits.{admits}
use Rattle.entry_defs.specs.Table.{root_of}
use Rattle.entry_defs.specs.Takes.{takes}
use Rattle.convert_defs.specs.Row.{Way}
use Rattle.convert_defs.specs.Proper.{IsProperDocument}
use Rattle.convert_defs.specs.Laws.{Keeps, same_way}
use Rattle.merge_laws.specs.Laws.{ProperDocument}
use Rattle.convert_walks.specs.Tree.{Node, document_tree, table_of}
use Rattle.convert_walks.specs.Told.{Note, notes_of, faults_of}

-- no note of that way
abbrev pub Free : Way → List Note → Type 0
Free way [] = Unit {0}
Free way (n ∷ ns) = (same_way way n.way ≡ false) × Free way ns

abbrev pub AllNodes : (Node → Type 0) → List Node → Type 0
AllNodes P [] = Unit {0}
AllNodes P (t ∷ ts) = P t × AllNodes P ts

abbrev pub Kept : Way → Relations → Document → ℕ → ℕ → Value → Node → Type 0
Kept way r d most n v t = Keeps way (admits r d v t.schema) (takes (table_of r d most n) r t.entry v)

abbrev pub ConversionAgreesWithMerges : Type 0
ConversionAgreesWithMerges =
    (way : Way) (r : Relations) → IsLawful r → (d : Document) (most n : ℕ) → IsGuarded d → ProperDocument d → IsProperDocument d
    → faults_of r d most n ≡ [] → Free way (notes_of r d most n) → (v : Value) → IsSmall v → AllNodes (Kept way r d most n v) (document_tree r d most n)

abbrev pub RootAgreesWithMerges : Type 0
RootAgreesWithMerges =
    (way : Way) (r : Relations) → IsLawful r → (d : Document) (most n : ℕ) → IsGuarded d → ProperDocument d → IsProperDocument d
    → faults_of r d most n ≡ [] → Free way (notes_of r d most n) → (v : Value) → IsSmall v
    → Keeps way (admits r d v d.root) (takes (table_of r d most n) r (root_of (table_of r d most n)) v)
