-- Texts among values.
use Rattle.std.proofs.Common.{◌≡◌, refl}
use Rattle.serde_json.specs.Data as data'
use Rattle.serde_json.specs.Data.{Data, unsigned, negative, float}
use Rattle.serde_json.specs.Find.{as_str}
use Rattle.json_value.specs.View.{value_of}
use Rattle.enum_defs.specs.Words.{as_text}

pub text_seen : (d : Data) → as_text (value_of d) ≡ as_str d
text_seen data'.null = refl
text_seen (data'.boolean b) = refl
text_seen (data'.number (unsigned n)) = refl
text_seen (data'.number (negative z)) = refl
text_seen (data'.number (float x)) = refl
text_seen (data'.string s) = refl
text_seen (data'.array ds) = refl
text_seen (data'.object ms) = refl
