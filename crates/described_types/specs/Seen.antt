-- A list of values, as it is seen, and the forms of schemas with few keywords.
use Rattle.std.specs.Prelude.{ℕ, List, [], ◌∷◌, ◌||◌, map, not, Bool}
use Rattle.serde_json.specs.declared.value.Value as value'
use Rattle.json_value.specs.Value.{Value, Items, text, items}
use Rattle.json_value.specs.View.{kept_view}
use Rattle.model_defs.specs.Model.{FieldModel}
use Rattle.schema_defs.specs.Build.{◌≔◌, str, obj}

abbrev pub kept_items : List value'.Value → Items
kept_items vs = items (map kept_view vs)

-- {"type": name}
abbrev pub of_kind : List ℕ → Value
of_kind n = obj ("type" ≔ text n ∷ [])

-- {"items": schema, "type": "array"}
abbrev pub list_of : Value → Value
list_of v = obj ("items" ≔ v ∷ "type" ≔ str "array" ∷ [])

-- {"additionalProperties": schema, "type": "object"}
abbrev pub map_of : Value → Value
map_of v = obj ("additionalProperties" ≔ v ∷ "type" ≔ str "object" ∷ [])

-- {"$ref": text}
abbrev pub refers_to : List ℕ → Value
refers_to q = obj ("$ref" ≔ text q ∷ [])

-- the fields that are properties: all, or those that are no rest
abbrev pub is_picked : Bool → FieldModel → Bool
is_picked all f = all || not f.is_rest
