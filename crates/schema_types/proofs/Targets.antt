-- The target of a reference stands at the target's location.
use Rattle.std.proofs.Common.{◌≡◌, ℕ, List, [], ◌∷◌, Bool, true, false, Option, Some, None, option_map, bytes_eq, cond, refl, sym, ap, ◌∙◌}
use Rattle.std.specs.Prelude.{option_and_then}
use Rattle.std.proofs.lemmas.Slice.Eq.{bytes_eq-Decides}
use Rattle.json_value.specs.Value.{same_bool}
use Rattle.schema_defs.specs.Schema.{Definition, Document}
use Rattle.schema_defs.specs.Admits.{defined, defined_as, definition_name, definition_word, definition_location, is_root_reference}
use Rattle.schema_defs.specs.Children.{schema_at}
use Rattle.schema_defs.proofs.Guarded.{defined_named}
use Rattle.schema_types.specs.Laws.{TargetsStand}

itself : (a b : Bool) → a ≡ b → same_bool a b ≡ true
itself true true h = refl
itself false false h = refl
itself true false h = sym h
itself false true h = h

placed : (d : Document) (u : Bool) (e : Definition) → e.under_defs ≡ u → defined e.name d.definitions ≡ Some e → schema_at d (definition_word u ∷ e.name ∷ []) ≡ Some e.body
placed d true e under found = rw (found, itself e.under_defs true under) refl
placed d false e under found = rw (found, itself e.under_defs false under) refl

stands : (d : Document) (n : List ℕ) (o : Option Definition) → defined n d.definitions ≡ o → option_and_then (schema_at d) (option_map definition_location o) ≡ option_map (λ e. e.body) o
stands d n None found = refl
stands d n (Some e) found =
    let own : defined e.name d.definitions ≡ Some e = ap (λ k. defined k d.definitions) (sym (defined_named n d.definitions e found).0) ∙ found in
    placed d e.under_defs e refl own

targets : (d : Document) (b : Bool) (o : Option (List ℕ))
    → option_and_then (schema_at d) (cond b (Some []) (option_map definition_location (defined_as d o))) ≡ cond b (Some d.root) (option_map (λ e. e.body) (defined_as d o))
targets d true o = refl
targets d false None = refl
targets d false (Some n) = stands d n (defined n d.definitions) refl

pub targets_stand : TargetsStand
targets_stand d q = targets d (is_root_reference q) (definition_name q)
