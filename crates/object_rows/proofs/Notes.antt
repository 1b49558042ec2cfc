-- Keywords of members taken part by part, and notes before those of a row.
use Rattle.std.proofs.Common.{◌≡◌, List, [], ◌∷◌, ◌++◌, Bool, true, false, ◌||◌, not, refl, sym, ap, ◌∙◌}
use Rattle.std.specs.Prelude.{if◌then◌else◌}
use Rattle.std.proofs.lemmas.List.{append_assoc}
use Rattle.schema_defs.specs.declared.Setting.{Setting}
use Rattle.schema_defs.specs.Schema.{Named, no_named, named}
use Rattle.schema_defs.specs.Layer.{is_given}
use Rattle.convert_defs.specs.Row.{Note, Row, Finding, add_notes, noted, asking, here, narrowed, widened, names_note}
use Rattle.convert_defs.specs.IntegerRow.{note_if}
use Rattle.convert_defs.specs.Owners.{object_finding, counts_notes, map_of, no_property, pattern_names, pattern_row, struct_of}
use Rattle.object_rows.specs.Parts.{props_in, patterns_in, rest_in, names_in, rules_in, is_map, is_pattern_map, map_found, patterns_found, struct_found, found_with, found_by_parts}

pub parts_seen : (setting : Setting) (ns : Named) → object_finding setting ns ≡ found_by_parts setting ns
parts_seen setting no_named = refl
parts_seen setting (named props patterns rest names_schema rules) = refl

module _ (setting : Setting) (ns : Named) (before : List Note) where
  abbrev counts : List Note
  counts = counts_notes (rules_in ns)

  abbrev rest_note : List Note
  rest_note = note_if (not (is_given (rest_in ns))) (here narrowed names_note)

  abbrev given_note : List Note
  given_note = note_if (is_given (names_in ns) || not (no_property (patterns_in ns))) (here widened names_note)

  abbrev patterns_note : List Note
  patterns_note = note_if (not (no_property (patterns_in ns))) (here narrowed names_note)

  abbrev fields : Row
  fields = struct_of setting (props_in ns) (rest_in ns) (rules_in ns)

  pub notes_before : found_with setting ns (before ++ counts_notes (rules_in ns)) ≡ add_notes before (found_by_parts setting ns)
  notes_before = by (is_map ns) (is_pattern_map ns)
    where
      by : (m q : Bool)
          → (if m then noted (before ++ counts) (map_of (rest_in ns) (names_in ns))
          else if q then asking (pattern_names (patterns_in ns)) (noted (before ++ counts ++ rest_note) (pattern_row (patterns_in ns)))
          else noted (before ++ counts ++ given_note ++ patterns_note) fields)
          ≡ add_notes before (if m then map_found ns else if q then patterns_found ns else struct_found setting ns)
      by true q = refl
      by false true = ap (λ ms. asking (pattern_names (patterns_in ns)) (noted ms (pattern_row (patterns_in ns)))) (append_assoc before counts rest_note)
      by false false = ap (λ ms. noted ms fields) (append_assoc (before ++ counts) given_note patterns_note ∙ append_assoc before counts (given_note ++ patterns_note))
