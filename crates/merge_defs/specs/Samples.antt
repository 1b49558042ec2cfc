-- Merges written short for the worked examples: schemas are JSON values, read.
use Rattle.std.specs.Prelude.{◌≡◌, ℕ, List, [], ◌∷◌, true, false, unwrap_or}
use Rattle.json_value.specs.Value.{Value}
use Rattle.schema_defs.specs.declared.Setting.{Setting}
use Rattle.schema_defs.specs.declared.Setting.TheVariants.{Strict, NullAbsent}
use Rattle.schema_defs.specs.Schema.{Schema, boolean, object, Same, no_same, Document}
use Rattle.schema_defs.specs.Read.{document_of, make_document, reading}
use Rattle.schema_defs.specs.Build.{◌≔◌, obj}
use Rattle.merge_defs.specs.Outcome.{answer, never, fault, Fault, Note}
use Rattle.merge_defs.specs.Merge.{join, less, with_subschemas}

abbrev pub read : Value → Schema
read v = unwrap_or (reading v).as_schema (boolean false)

abbrev pub document_under : Setting → List (List ℕ × Value) → Document
document_under setting ds = unwrap_or (document_of setting (obj ("definitions" ≔ obj ds ∷ []))) (make_document setting (boolean true) [])

abbrev pub document : List (List ℕ × Value) → Document
document = document_under Strict

-- under definitions
abbrev pub MakesIn : List (List ℕ × Value) → Value → Value → List Note → Value → Type 0
MakesIn ds a b ns c = join (document ds) 9 (read a) (read b) ≡ answer ns (read c)

abbrev pub Makes : Value → Value → List Note → Value → Type 0
Makes = MakesIn []

abbrev pub IsNever : Value → Value → List Note → Type 0
IsNever a b ns = join (document []) 9 (read a) (read b) ≡ never ns

abbrev pub IsFault : ℕ → Value → Value → Fault → Type 0
IsFault n a b f = join (document []) n (read a) (read b) ≡ fault f

abbrev pub Leaves : Value → Value → List Note → Value → Type 0
Leaves a b ns c = less (document []) 9 (read a) (read b) ≡ answer ns (read c)

abbrev pub LeavesNothing : Value → Value → List Note → Type 0
LeavesNothing a b ns = less (document []) 9 (read a) (read b) ≡ never ns

abbrev pub CannotLeave : Value → Value → Fault → Type 0
CannotLeave a b f = less (document []) 9 (read a) (read b) ≡ fault f

-- where null may stand for an absent member
abbrev pub MakesWithNull : Value → Value → List Note → Value → Type 0
MakesWithNull a b ns c = join (document_under NullAbsent []) 9 (read a) (read b) ≡ answer ns (read c)

abbrev pub IsNeverWithNull : Value → Value → List Note → Type 0
IsNeverWithNull a b ns = join (document_under NullAbsent []) 9 (read a) (read b) ≡ never ns

abbrev pub LeavesWithNull : Value → Value → List Note → Value → Type 0
LeavesWithNull a b ns c = less (document_under NullAbsent []) 9 (read a) (read b) ≡ answer ns (read c)

-- the subschemas of a schema
abbrev pub same_of : Schema → Same
same_of (boolean b) = no_same
same_of (object p ss ls ns) = ss

-- a body with the subschemas of the other
abbrev pub MakesWith : Value → Value → List Note → Value → Type 0
MakesWith a b ns c = with_subschemas (document []) 9 (read a) (same_of (read b)) ≡ answer ns (read c)
