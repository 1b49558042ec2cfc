-- What the values of serde_json stand for, read as nulls and texts.
use Rattle.std.proofs.Common.{◌≡◌, refl}
use Rattle.std.specs.Prelude.{is_some}
use Rattle.serde_json.specs.Data as data'
use Rattle.serde_json.specs.Data.{Data, unsigned, negative, float}
use Rattle.serde_json.specs.Find.{as_null, as_str}
use Rattle.json_value.specs.View.{value_of}
use Rattle.enum_defs.specs.Words.{is_null, as_text}

pub text_seen : (d : Data) → as_text (value_of d) ≡ as_str d
text_seen data'.null = refl
text_seen (data'.boolean b) = refl
text_seen (data'.number (unsigned n)) = refl
text_seen (data'.number (negative z)) = refl
text_seen (data'.number (float x)) = refl
text_seen (data'.string s) = refl
text_seen (data'.array ds) = refl
text_seen (data'.object ms) = refl

pub null_seen : (d : Data) → is_null (value_of d) ≡ is_some (as_null d)
null_seen data'.null = refl
null_seen (data'.boolean b) = refl
null_seen (data'.number (unsigned n)) = refl
null_seen (data'.number (negative z)) = refl
null_seen (data'.number (float x)) = refl
null_seen (data'.string s) = refl
null_seen (data'.array ds) = refl
null_seen (data'.object ms) = refl
