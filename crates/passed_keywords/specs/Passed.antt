-- Keywords that are passed over: in some draft of JSON Schema they bind values or name schemas, and they aren't read.
use Rattle.std.specs.Prelude.{◌≡◌, ℕ, List, [], ◌∷◌, ◌++◌, filter, Bool, codes, is_some}
use Rattle.std.specs.List.{flat_map}
use Rattle.json.specs.Print.{quoted}
use Rattle.json_value.specs.Value as value
use Rattle.json_value.specs.Value.{Value, Members, member_at}
use Rattle.schema_defs.specs.Location.{location_text}
use Rattle.schema_faults.specs.Faults.{Place, Told, told_of}

-- of Draft 4, Draft 7, 2019-09 and 2020-12, in the order of their bytes; `if`, `then` and `else` are told as a fault
abbrev pub passed_over : List (List ℕ)
passed_over =
    codes "$anchor"
    ∷ codes "$dynamicAnchor"
    ∷ codes "$dynamicRef"
    ∷ codes "$id"
    ∷ codes "$recursiveAnchor"
    ∷ codes "$recursiveRef"
    ∷ codes "contentEncoding"
    ∷ codes "contentMediaType"
    ∷ codes "contentSchema"
    ∷ codes "dependencies"
    ∷ codes "dependentRequired"
    ∷ codes "dependentSchemas"
    ∷ codes "divisibleBy"
    ∷ codes "extends"
    ∷ codes "id"
    ∷ codes "maxContains"
    ∷ codes "minContains"
    ∷ codes "prefixItems"
    ∷ codes "unevaluatedItems"
    ∷ codes "unevaluatedProperties"
    ∷ []

abbrev pub has_name : Members → List ℕ → Bool
has_name ms n = is_some (member_at n ms)

-- those that a schema has
abbrev pub passed_at : Told
passed_at at_root k (value.object ms) = filter (has_name ms) passed_over
passed_at at_root k _ = []

-- those of a document's schemas, in their order, each with the place of its schema
abbrev pub passed_places : Value → List Place
passed_places v = told_of passed_at v

abbrev pub said : List ℕ → List ℕ → List ℕ
said name at = codes "passed-over " ++ name ++ codes " " ++ at ++ codes "\n"

-- the keyword and the place
abbrev pub passed_line : Place → List ℕ
passed_line p = said (quoted p.1) (quoted (location_text p.0))

abbrev pub passed_text : Value → List ℕ
passed_text v = flat_map passed_line (passed_places v)
