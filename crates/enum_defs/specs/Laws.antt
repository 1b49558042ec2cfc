-- What shapes and kinds say of the values that schemas admit: whatever the document and its setting, the texts and the value.
use Rattle.std.specs.Prelude.{◌≡◌, ℕ, ◌≤◌, List, Bool, true, false, Option, Some, None, option_and_then, count_by}
use Rattle.json_value.specs.Value.{Value, null, text, same}
use Rattle.schema_defs.specs.Texts.{Relations}
use Rattle.schema_defs.specs.Schema.{Schema, Document}
use Rattle.schema_defs.specs.Admits.{admits, target, allowed}
use Rattle.schema_defs.specs.Walks.{IsGuarded}
use Rattle.enum_defs.specs.Words.{Name}
use Rattle.enum_defs.specs.Shapes.{is_null_schema, constant_text}
use Rattle.enum_defs.specs.Kinds.{has_kind, kinds_at, kinds_within, kinds, kinds_beyond, null_free}
use Rattle.enum_defs.specs.Exclusive.{reference_alone, led, exclusive}

-- each admitted value is of a kind that the schema leaves open
abbrev pub KindsAreSound : Type 0
KindsAreSound = (r : Relations) (d : Document) (v : Value) (s : Schema) → admits r d v s ≡ true → has_kind v (kinds d s) ≡ true

-- a null-free schema does not admit null
abbrev pub NullFreeIsSound : Type 0
NullFreeIsSound = (r : Relations) (d : Document) (s : Schema) → null_free d s ≡ true → admits r d null s ≡ false

-- of exclusive schemas at most one admits a value
abbrev pub ExclusiveIsSound : Type 0
ExclusiveIsSound = (r : Relations) (d : Document) (v : Value) (ss : List Schema) → exclusive d ss ≡ true → count_by (admits r d v) ss ≤ 1

-- a null schema admits null alone
abbrev pub NullSchemasAreNull : Type 0
NullSchemasAreNull = (r : Relations) (d : Document) (v : Value) (s : Schema) → is_null_schema s ≡ true → admits r d v s ≡ true → v ≡ null

-- a constant text admits that text alone
abbrev pub ConstantTextsAreTexts : Type 0
ConstantTextsAreTexts = (r : Relations) (d : Document) (v : Value) (s : Schema) (t : Name) → constant_text s ≡ Some t → admits r d v s ≡ same v (text t)

-- in a guarded document the references that may be followed are never spent: more change nothing
abbrev pub SpareReferencesOpenNothing : Type 0
SpareReferencesOpenNothing = (d : Document) → IsGuarded d → (n : ℕ) → allowed d ≤ n → (s : Schema) → kinds_within d n s ≡ kinds d s

-- and a reference leaves open what its target does
abbrev pub KindsUnfold : Type 0
KindsUnfold = (d : Document) → IsGuarded d → (s : Schema) → kinds d s ≡ kinds_at (kinds_beyond d) s

-- and references alone lead to what is no reference alone, or one to nothing
abbrev pub ReferencesLeadToTheEnd : Type 0
ReferencesLeadToTheEnd = (d : Document) → IsGuarded d → (s : Schema) → option_and_then (target d) (reference_alone (led d s)) ≡ None
