-- What is answered of an input's values: whether the document that the schema is admits each of them, or why none is answered.
use Rattle.std.specs.Prelude.{◌≡◌, ◌⊎◌, ℕ, List, [], map, Bool, true}
use Rattle.serde_json.specs.Data.{Data}
use Rattle.schema_defs.specs.Faults.{Rises}
use Rattle.json_value.specs.Value.{Value}
use Rattle.json_value.specs.View.{value_of}
use Rattle.schema_defs.specs.declared.Setting.{Setting}
use Rattle.schema_defs.specs.Texts.{Relations}
use Rattle.schema_defs.specs.Schema.{Document}
use Rattle.schema_defs.specs.Admits.{admits}
use Rattle.schema_tree.specs.Document.{IsReadAs, IsAccepted, HasFault}
use Rattle.schema_tree.specs.Fault.{FaultD, memory, texts, value_number}
use Rattle.schema_tree.specs.Numbers.{are_i64, HasWideNumber}

-- whether the document's root admits the value (JSON Schema Draft 7)
abbrev pub document_admits : Relations → Document → Data → Bool
document_admits r d v = admits r d (value_of v) d.root

-- the same of several values, in order
abbrev pub verdicts_of : Relations → Document → List Data → List Bool
verdicts_of r d vs = map (document_admits r d) vs

-- the values' numbers are i64, and the answers are those of the document that the schema is under the setting
pub record AreVerdicts (setting : Setting) (r : Relations) (schema : Value) (values : List Data) (answers : List Bool) : Type 0 where
  pub numbers : are_i64 values ≡ true
  pub document : Document
  pub is_read : IsReadAs setting schema document
  pub exact : answers ≡ verdicts_of r document values

-- the cause of a fault, where the judge of texts had so many faults before and after: the first number of the values that is no i64; else the first fault of the document; else, told at the root, that the judge failed
abbrev pub IsCause : ℕ → ℕ → Value → List Data → FaultD → Type 0
IsCause before after schema values (value_number i l) = HasWideNumber values (value_number i l)
IsCause before after schema values (texts l) = (are_i64 values ≡ true) × IsAccepted schema × (l ≡ []) × Rises before after
IsCause before after schema values f = (are_i64 values ≡ true) × HasFault schema f

-- want of memory, or a fault with its cause
abbrev pub IsRefusal : ℕ → ℕ → Value → List Data → FaultD → Type 0
IsRefusal before after schema values f = (f ≡ memory) ⊎ IsCause before after schema values f

-- want of memory, or at the root a judge of texts that failed
abbrev pub IsUnjudged : ℕ → ℕ → FaultD → Type 0
IsUnjudged before after f = (f ≡ memory) ⊎ ((f ≡ texts []) × Rises before after)
