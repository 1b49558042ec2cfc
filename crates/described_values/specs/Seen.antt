-- What maps and lists hold, as they are seen.
use Rattle.std.specs.Prelude.{ℕ, List, [], ◌∷◌, map, Option, Some, None, String, string_bytes}
use Rattle.std.specs.declared.alloc.Global.{Global}
use Rattle.serde_json.specs.declared.value.Value as value'
use Rattle.json_value.specs.Value.{Value}
use Rattle.json_value.specs.View.{kept_view}

abbrev pub kept_entry : String Global × value'.Value → List ℕ × Value
kept_entry e = (string_bytes e.0, kept_view e.1)

abbrev pub kept_entries : List (String Global × value'.Value) → List (List ℕ × Value)
kept_entries es = map kept_entry es

abbrev pub first_of : {A : Type 0} → List A → Option A
first_of [] = None
first_of (x ∷ xs) = Some x
