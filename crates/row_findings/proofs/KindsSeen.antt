-- What the values of serde_json stand for, read by their kinds.
use Rattle.std.proofs.Common.{◌≡◌, ◌||◌, refl}
use Rattle.std.specs.Prelude.{is_some}
use Rattle.serde_json.specs.Data as data'
use Rattle.serde_json.specs.Data.{Data, unsigned, negative, float}
use Rattle.serde_json.specs.Find.{as_null, as_bool, as_str, as_array, as_object}
use Rattle.json_value.specs.View.{value_of}
use Rattle.model_defs.specs.Layer.{is_null, is_text, is_boolean}
use Rattle.convert_defs.specs.Scalars.{is_owner}
use Rattle.row_findings.specs.Kinds.{is_text_or_null}

pub null_seen : (d : Data) → is_null (value_of d) ≡ is_some (as_null d)
null_seen data'.null = refl
null_seen (data'.boolean b) = refl
null_seen (data'.number (unsigned n)) = refl
null_seen (data'.number (negative z)) = refl
null_seen (data'.number (float x)) = refl
null_seen (data'.string s) = refl
null_seen (data'.array ds) = refl
null_seen (data'.object ms) = refl

pub boolean_seen : (d : Data) → is_boolean (value_of d) ≡ is_some (as_bool d)
boolean_seen data'.null = refl
boolean_seen (data'.boolean b) = refl
boolean_seen (data'.number (unsigned n)) = refl
boolean_seen (data'.number (negative z)) = refl
boolean_seen (data'.number (float x)) = refl
boolean_seen (data'.string s) = refl
boolean_seen (data'.array ds) = refl
boolean_seen (data'.object ms) = refl

pub text_seen : (d : Data) → is_text (value_of d) ≡ is_some (as_str d)
text_seen data'.null = refl
text_seen (data'.boolean b) = refl
text_seen (data'.number (unsigned n)) = refl
text_seen (data'.number (negative z)) = refl
text_seen (data'.number (float x)) = refl
text_seen (data'.string s) = refl
text_seen (data'.array ds) = refl
text_seen (data'.object ms) = refl

pub owner_seen : (d : Data) → is_owner (value_of d) ≡ (is_some (as_array d) || is_some (as_object d))
owner_seen data'.null = refl
owner_seen (data'.boolean b) = refl
owner_seen (data'.number (unsigned n)) = refl
owner_seen (data'.number (negative z)) = refl
owner_seen (data'.number (float x)) = refl
owner_seen (data'.string s) = refl
owner_seen (data'.array ds) = refl
owner_seen (data'.object ms) = refl

pub text_or_null_seen : (d : Data) → is_text_or_null (value_of d) ≡ (is_some (as_str d) || is_some (as_null d))
text_or_null_seen data'.null = refl
text_or_null_seen (data'.boolean b) = refl
text_or_null_seen (data'.number (unsigned n)) = refl
text_or_null_seen (data'.number (negative z)) = refl
text_or_null_seen (data'.number (float x)) = refl
text_or_null_seen (data'.string s) = refl
text_or_null_seen (data'.array ds) = refl
text_or_null_seen (data'.object ms) = refl
