-- What a report says of a document: the items are read back without a diagnostic, the containers take what the document admits, and the verdicts say so.
use Rattle.std.specs.Prelude.{◌≡◌, List, [], ◌∷◌, map, Bool, true, false, Some, ⊤}
use Rattle.std.specs.List.{AllByRecursion}
use Rattle.token_trees.specs.Token.{Name}
use Rattle.syntax_trees.specs.Item.{ItemD, item_view}
use Rattle.syntax_trees.specs.View.{ty}
use Rattle.serde_json.specs.Data.{Data}
use Rattle.json_value.specs.Value.{Value, IsSmall}
use Rattle.json_value.specs.View.{value_of}
use Rattle.schema_defs.specs.Location.{Location}
use Rattle.schema_defs.specs.declared.Setting.{Setting}
use Rattle.schema_defs.specs.Texts.{Relations, IsLawful}
use Rattle.schema_defs.specs.Schema.{Document}
use Rattle.schema_defs.specs.Admits.{admits}
use Rattle.schema_defs.specs.Read.{document_of}
use Rattle.attr_parts.specs.declared.derive.Derive.{Derive}
use Rattle.attr_defs.specs.Renames.{Meaning}
use Rattle.attr_defs.specs.Texts.{lexed}
use Rattle.container_defs.specs.Model.{diagnostics_of}
use Rattle.container_defs.specs.Reader.{item_models}
use Rattle.type_spellings.specs.Types.{type_of}
use Rattle.model_defs.specs.Types.{TypeModel}
use Rattle.model_defs.specs.Model.{ContainerModel}
use Rattle.model_defs.specs.Reads.{reads}
use Rattle.model_defs.specs.Refusals.{refused_at}
use Rattle.model_defs.specs.Settled.{settled}
use Rattle.reading_defs.specs.Laws.{defaults_are_sound}
use Rattle.schema_tree.specs.Conversions.{conversions_view}
use Rattle.emit_defs.specs.Emission.{Emission}
use Rattle.derive_model.specs.VerdictView.{VerdictD, taken, refused, verdict_view}
use Rattle.convert_document.specs.declared.note.Way.{Way}
use Rattle.convert_document.specs.declared.note.Way.TheVariants.{Narrowed, Widened}
use Rattle.convert_document.specs.declared.note.Note.{Note}
use Rattle.typify_run.specs.declared.report.Report.{Report}

-- how serde reads items: what rules make of names of variants and of fields, what its own module is called, and for which derive
pub record Deriving : Type 0 where
  pub variant_name : Meaning
  pub field_name : Meaning
  pub private : Name
  pub derive : Derive

-- the containers that items are read back as
abbrev pub read_of : Deriving → List ItemD → List ContainerModel
read_of how is = item_models lexed how.variant_name how.field_name how.private how.derive is

-- neither derive has a diagnostic, whatever serde's own module is called and however names are written
abbrev pub IsClean : ItemD → Type 0
IsClean i = (how : Deriving) → diagnostics_of lexed how.variant_name how.field_name how.private i how.derive ≡ []

abbrev pub items_of : Report → List ItemD
items_of r = map item_view r.items.items

-- what the report carries of what is emitted
abbrev pub emission_in : Report → Emission
emission_in r = record { items = items_of r; conversions = conversions_view r.conversions; root = ty r.root }

abbrev pub models_of : Deriving → Report → List ContainerModel
models_of how r = read_of how (items_of r)

abbrev pub root_of : Report → TypeModel
root_of r = type_of (ty r.root)

-- whether the containers read the value
abbrev pub report_reads : Relations → Report → Deriving → Value → Bool
report_reads texts r how v = reads (models_of how r) (conversions_view r.conversions) texts (root_of r) v

-- where reading stops in a value that they don't read
abbrev pub report_refuses : Relations → Report → Deriving → Value → Location
report_refuses texts r how v = refused_at (models_of how r) (conversions_view r.conversions) texts (root_of r) v

-- what a value that they read becomes
abbrev pub report_settles : Relations → Report → Deriving → Value → Value
report_settles texts r how v = settled (models_of how r) (conversions_view r.conversions) texts (root_of r) v

abbrev pub document_admits : Relations → Document → Value → Bool
document_admits texts d v = admits texts d v d.root

abbrev pub HasNone : (Way → Type 0) → List Note → Type 0
HasNone Is ns = AllByRecursion (λ n. Is n.way → ⊥) ns

abbrev pub IsNarrowed : Way → Type 0
IsNarrowed w = w ≡ Narrowed

abbrev pub IsWidened : Way → Type 0
IsWidened w = w ≡ Widened

-- taken exactly where it is read, and then written as it settles; else refused where reading stops
abbrev pub IsJudged : (Value → Bool) → (Value → Value) → (Value → Location) → Data → VerdictD → Type 0
IsJudged takes settles stops d (taken w) = (takes (value_of d) ≡ true) × (value_of w ≡ settles (value_of d))
IsJudged takes settles stops d (refused l) = (takes (value_of d) ≡ false) × (l ≡ stops (value_of d))

-- a verdict for each value
abbrev pub AreJudged : (Value → Bool) → (Value → Value) → (Value → Location) → List Data → List VerdictD → Type 0
AreJudged takes settles stops [] [] = ⊤
AreJudged takes settles stops (d ∷ ds) (v ∷ vs) = IsJudged takes settles stops d v × AreJudged takes settles stops ds vs
AreJudged takes settles stops [] (v ∷ vs) = ⊥
AreJudged takes settles stops (d ∷ ds) [] = ⊥

pub record IsReportOf (setting : Setting) (texts : Relations) (schema : Value) (values : List Data) (r : Report) : Type 0 where
  -- the schema is a document, under the setting
  pub document : Document
  pub is_read : document_of setting schema ≡ Some document
  -- the items have no diagnostic
  pub clean : AllByRecursion IsClean (items_of r)
  -- by lawful texts: without notes the containers read exactly the small values that the document admits, listed or not
  pub exact : IsLawful texts → r.notes.items ≡ [] → (how : Deriving) (v : Value) → IsSmall v → report_reads texts r how v ≡ document_admits texts document v
  -- without a note that they are narrower, they read each that is admitted; without one that they are wider, those alone
  pub not_narrower : IsLawful texts → HasNone IsNarrowed r.notes.items → (how : Deriving) (v : Value) → IsSmall v → document_admits texts document v ≡ true → report_reads texts r how v ≡ true
  pub not_wider : IsLawful texts → HasNone IsWidened r.notes.items → (how : Deriving) (v : Value) → IsSmall v → report_reads texts r how v ≡ true → document_admits texts document v ≡ true
  -- each default that the items state is sound: the type of its field reads it, and what it leaves out comes to an end
  pub sound : (how : Deriving) → defaults_are_sound (models_of how r) (conversions_view r.conversions) texts ≡ true
  -- the verdicts are those of the containers
  pub verdicts : (how : Deriving) → AreJudged (report_reads texts r how) (report_settles texts r how) (report_refuses texts r how) values (map verdict_view r.verdicts.items)
