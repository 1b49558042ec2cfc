-- Lists and objects among values.
use Rattle.std.specs.Prelude.{Bool, true, false}
use Rattle.json_value.specs.Value.{Value, list, object}

abbrev pub is_list : Value → Bool
is_list (list xs) = true
is_list _ = false

abbrev pub is_object : Value → Bool
is_object (object ms) = true
is_object _ = false
