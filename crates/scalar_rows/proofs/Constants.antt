-- A constant text that is listed, or that others are listed beside alone.
use Rattle.std.proofs.Common.{◌≡◌, ℕ, List, [], ◌∷◌, ◌++◌, Bool, true, false, Option, Some, is_some, refl, ap}
use Rattle.json_value.specs.Value.{Value, text}
use Rattle.schema_defs.specs.Texts.{Relations}
use Rattle.schema_defs.specs.Schema.{Plain}
use Rattle.convert_defs.specs.Row.{leaf_row, here, widened, string_note, noted}
use Rattle.convert_defs.specs.IntegerRow.{note_if}
use Rattle.convert_defs.specs.Scalars.{enumerated, given_format, wanted_of, never_entry, listed_entry, kept_texts}
use Rattle.convert_defs.specs.Table.{constant_list, constant_finding}

pub constant_kept : (r : Relations) (p : Plain) (t : List ℕ) → constant_list t p.enum_values ≡ text t ∷ []
    → constant_finding r p (Some t) ≡ noted (note_if (is_some (given_format p)) (here widened string_note)) (leaf_row (listed_entry false (wanted_of p) (kept_texts r p.texts (text t ∷ []))))
constant_kept r p t h = ap (enumerated r p) h

pub constant_excluded : (r : Relations) (p : Plain) (t : List ℕ) → constant_list t p.enum_values ≡ []
    → constant_finding r p (Some t) ≡ noted (note_if (is_some (given_format p)) (here widened string_note)) (leaf_row (never_entry (wanted_of p)))
constant_excluded r p t h = ap (enumerated r p) h
