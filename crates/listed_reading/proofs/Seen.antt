-- What the values of serde_json stand for, read as lists and objects.
use Rattle.std.proofs.Common.{◌≡◌, refl}
use Rattle.std.specs.Prelude.{is_some}
use Rattle.serde_json.specs.Data as data'
use Rattle.serde_json.specs.Data.{Data, unsigned, negative, float}
use Rattle.serde_json.specs.Find.{as_array, as_object}
use Rattle.json_value.specs.View.{value_of}
use Rattle.listed_reading.specs.Owners.{is_list, is_object}

pub list_seen : (d : Data) → is_list (value_of d) ≡ is_some (as_array d)
list_seen data'.null = refl
list_seen (data'.boolean b) = refl
list_seen (data'.number (unsigned n)) = refl
list_seen (data'.number (negative z)) = refl
list_seen (data'.number (float x)) = refl
list_seen (data'.string s) = refl
list_seen (data'.array ds) = refl
list_seen (data'.object ms) = refl

pub object_seen : (d : Data) → is_object (value_of d) ≡ is_some (as_object d)
object_seen data'.null = refl
object_seen (data'.boolean b) = refl
object_seen (data'.number (unsigned n)) = refl
object_seen (data'.number (negative z)) = refl
object_seen (data'.number (float x)) = refl
object_seen (data'.string s) = refl
object_seen (data'.array ds) = refl
object_seen (data'.object ms) = refl
