-- Lists of schemas and what is told of them, written short for the worked examples.
use Rattle.std.specs.Prelude.{◌≡◌, ℕ, List, [], ◌∷◌, map, Bool, true, false, Option, Some, None, is_some, option_map, option_and_then, codes}
use Prim.Native.String.{String}
use Rattle.json_value.specs.Value.{Value}
use Rattle.schema_defs.specs.declared.Setting.TheVariants.{Strict}
use Rattle.schema_defs.specs.Schema.{Schema, boolean, object, Same, no_same, same_value, MaybeSchemas, no_list, the_list, schema_list, Document}
use Rattle.schema_defs.specs.Read.{document_of}
use Rattle.schema_defs.specs.Build.{◌≔◌, str, yes, no, obj, arr, typed}
use Rattle.enum_defs.specs.declared.KindSet.{KindSet}
use Rattle.enum_defs.specs.Words.{Name}
use Rattle.enum_defs.specs.Shapes.{Case, InternalCase, InternalShape, AdjacentShape, is_null_schema, option_shape, constant_text, object_shape, external_shape, internal_shape, adjacent_shape}
use Rattle.enum_defs.specs.Kinds.{kinds, null_free}
use Rattle.enum_defs.specs.Exclusive.{exclusive}

-- ---- schemas

-- {"const": text}
abbrev pub only : String → Value
only t = obj ("const" ≔ str t ∷ [])

-- {"enum": values}
abbrev pub listed : List Value → Value
listed vs = obj ("enum" ≔ arr vs ∷ [])

abbrev pub texts : List String → List Value
texts ts = map str ts

-- {"properties": properties, "required": names, "type": "object"}
abbrev pub members : List (List ℕ × Value) → List String → Value
members ps required = obj ("properties" ≔ obj ps ∷ "required" ≔ arr (texts required) ∷ "type" ≔ str "object" ∷ [])

-- the same, and {"additionalProperties": rest}
abbrev pub members_and : Value → List (List ℕ × Value) → List String → Value
members_and rest ps required = obj ("additionalProperties" ≔ rest ∷ "properties" ≔ obj ps ∷ "required" ≔ arr (texts required) ∷ "type" ≔ str "object" ∷ [])

-- ---- the members of anyOf

abbrev pub members_in : MaybeSchemas → List Schema
members_in no_list = []
members_in (the_list ss) = schema_list ss

abbrev pub same_in : Same → List Schema
same_in no_same = []
same_in (same_value all any one none conditional) = members_in any

abbrev pub any_in : Schema → List Schema
any_in (boolean b) = []
any_in (object p ss ls ns) = same_in ss

-- {"anyOf": values, "definitions": definitions}
abbrev pub read_with : List (List ℕ × Value) → List Value → Option Document
read_with ds vs = document_of Strict (obj ("anyOf" ≔ arr vs ∷ "definitions" ≔ obj ds ∷ []))

abbrev pub told : {A : Type 0} → (List Schema → A) → List Value → Option A
told f vs = option_map (λ d. f (any_in d.root)) (read_with [] vs)

-- ---- what is told

-- a name, whether there is a content, and whether it is closed
abbrev pub Seen : Type 0
Seen = Name × Bool × Bool

abbrev pub case_seen : Case → Seen
case_seen c = (c.name, is_some c.content, c.closed)

abbrev pub unit_of : String → Seen
unit_of n = (codes n, false, false)

abbrev pub holds : String → Seen
holds n = (codes n, true, false)

abbrev pub closed : Seen → Seen
closed s = (s.0, s.1, true)

abbrev pub External : List Value → List Seen → Type 0
External vs cs = told (λ ss. option_map (map case_seen) (external_shape ss)) vs ≡ Some (Some cs)

abbrev pub NotExternal : List Value → Type 0
NotExternal vs = told external_shape vs ≡ Some None

-- the tag, and of each case its name and whether it is closed
abbrev pub SeenInternal : Type 0
SeenInternal = Name × List (Name × Bool)

abbrev pub internal_case_seen : InternalCase → Name × Bool
internal_case_seen c = (c.name, c.closed)

abbrev pub internal_seen : InternalShape → SeenInternal
internal_seen s = (s.tag, map internal_case_seen s.cases)

abbrev pub internal_with : String → List (Name × Bool) → SeenInternal
internal_with tag cs = (codes tag, cs)

abbrev pub Internal : List Value → String → List (Name × Bool) → Type 0
Internal vs tag cs = told (λ ss. option_map internal_seen (internal_shape ss)) vs ≡ Some (Some (internal_with tag cs))

abbrev pub NotInternal : List Value → Type 0
NotInternal vs = told internal_shape vs ≡ Some None

-- the tag, the content and the cases
abbrev pub SeenAdjacent : Type 0
SeenAdjacent = Name × Name × List Seen

abbrev pub adjacent_seen : AdjacentShape → SeenAdjacent
adjacent_seen s = (s.tag, s.content, map case_seen s.cases)

abbrev pub adjacent_with : String → String → List Seen → SeenAdjacent
adjacent_with tag content cs = (codes tag, codes content, cs)

abbrev pub Adjacent : List Value → String → String → List Seen → Type 0
Adjacent vs tag content cs = told (λ ss. option_map adjacent_seen (adjacent_shape ss)) vs ≡ Some (Some (adjacent_with tag content cs))

abbrev pub NotAdjacent : List Value → Type 0
NotAdjacent vs = told adjacent_shape vs ≡ Some None

abbrev pub IsOption : List Value → Type 0
IsOption vs = told (λ ss. is_some (option_shape ss)) vs ≡ Some true

abbrev pub NoOption : List Value → Type 0
NoOption vs = told option_shape vs ≡ Some None

abbrev pub Apart : List Value → Type 0
Apart vs = option_map (λ d. exclusive d (any_in d.root)) (read_with [] vs) ≡ Some true

abbrev pub NotApart : List Value → Type 0
NotApart vs = option_map (λ d. exclusive d (any_in d.root)) (read_with [] vs) ≡ Some false

-- the kinds of the first of the members
abbrev pub first_kinds : Document → List Schema → Option KindSet
first_kinds d [] = None
first_kinds d (s ∷ ss) = Some (kinds d s)

abbrev pub Opens : List (List ℕ × Value) → Value → KindSet → Type 0
Opens ds v k = option_and_then (λ d. first_kinds d (any_in d.root)) (read_with ds (v ∷ [])) ≡ Some k
