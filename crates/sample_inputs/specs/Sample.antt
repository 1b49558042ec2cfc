-- The sample of a number n: a document of n closed objects that lead to one another in a ring, and n values of it, each a nest of objects.
-- Members stand in the order of their names.
use Rattle.std.specs.Prelude.{ℕ, zero, suc, ◌+◌, ◌*◌, ◌%◌, ◌==◌, List, [], ◌∷◌, ◌++◌, map, Bool, codes, decimal, if◌then◌else◌}
use Rattle.json_value.specs.Value.{Value, text, items}
use Rattle.schema_defs.specs.Build.{◌≔◌, str, num, no, obj, arr, typed}
use Rattle.describe_defs.specs.Description.{in_order}
use Rattle.describe_defs.specs.Written.{formatted, places_value, nullable_value}
use Rattle.described_types.specs.Seen.{list_of, refers_to}

-- so many numbers, from the first on
abbrev pub numbers_from : ℕ → ℕ → List ℕ
numbers_from i zero = []
numbers_from i (suc m) = i ∷ numbers_from (suc i) m

-- ---- the document

-- `S` and the number of the definition
abbrev pub sample_name : ℕ → List ℕ
sample_name i = codes "S" ++ decimal i

abbrev pub leads_to : ℕ → Value
leads_to i = refers_to (codes "#/definitions/" ++ sample_name i)

-- {"type": "string", "enum": ["a", "b"]}
abbrev pub kind_value : Value
kind_value = obj ("enum" ≔ arr (str "a" ∷ str "b" ∷ []) ∷ "type" ≔ str "string" ∷ [])

-- a list of two places: a number from 0 to 255 and a text
abbrev pub pair_value : Value
pair_value = places_value 2 (items (formatted (codes "uint8") (str "integer") ∷ typed "string" ∷ []))

-- what each definition has, and one property more
abbrev pub with_kind : Value → List (List ℕ × Value)
with_kind next = "id" ≔ typed "integer" ∷ "kind" ≔ kind_value ∷ "next" ≔ next ∷ "tags" ≔ list_of (typed "string") ∷ []

abbrev pub with_owner : Value → List (List ℕ × Value)
with_owner next = "id" ≔ typed "integer" ∷ "next" ≔ next ∷ "owner" ≔ nullable_value (leads_to 0) ∷ "tags" ≔ list_of (typed "string") ∷ []

abbrev pub with_pair : Value → List (List ℕ × Value)
with_pair next = "id" ≔ typed "integer" ∷ "next" ≔ next ∷ "pair" ≔ pair_value ∷ "tags" ≔ list_of (typed "string") ∷ []

-- by the rest of its number by 3
abbrev pub properties_by : ℕ → Value → List (List ℕ × Value)
properties_by r next = if r == 0 then with_kind next else (if r == 1 then with_owner next else with_pair next)

-- a closed object that requires `id`
abbrev pub closed_value : Value → Value
closed_value properties = obj ("additionalProperties" ≔ no ∷ "properties" ≔ properties ∷ "required" ≔ arr (str "id" ∷ []) ∷ "type" ≔ str "object" ∷ [])

-- each leads to the next one, and the last one to the first
abbrev pub definition_value : ℕ → ℕ → Value
definition_value n i = closed_value (obj (properties_by (i % 3) (leads_to ((i + 1) % n))))

abbrev pub sample_entry : ℕ → ℕ → List ℕ × Value
sample_entry n i = (sample_name i, definition_value n i)

abbrev pub sample_schema : ℕ → Value
sample_schema n = obj ("$ref" ≔ text (codes "#/definitions/" ++ sample_name 0) ∷ "definitions" ≔ obj (in_order (map (sample_entry n) (numbers_from 0 n))) ∷ [])

-- steps from a definition to a schema of it: more than it has schemas
abbrev pub sample_depth : ℕ → ℕ
sample_depth n = 9 * n + 1

-- ---- the values

-- an object that is marked has a member which no definition has
abbrev pub innermost : ℕ → Bool → Value
innermost id marked = obj ("id" ≔ num id ∷ (if marked then "x" ≔ num 0 ∷ [] else []))

abbrev pub around : ℕ → Value → Value
around id inner = obj ("id" ≔ num id ∷ "next" ≔ inner ∷ [])

-- so many objects round the innermost one, the numbers of which rise by one; that one may be marked
abbrev pub nest : ℕ → ℕ → Bool → Value
nest zero id marked = innermost id marked
nest (suc levels) id marked = around id (nest levels (suc id) marked)

-- the outermost object has the value's number
abbrev pub sample_value : ℕ → Value
sample_value k = nest (k % 16) k (k % 5 == 4)

abbrev pub sample_values : ℕ → List Value
sample_values n = map sample_value (numbers_from 0 n)
