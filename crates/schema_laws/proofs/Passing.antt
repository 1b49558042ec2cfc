-- A value in whose schemas each reference passes a test is read as a document in which each reference passes it.
use Rattle.std.proofs.Common.{◌≡◌, ℕ, List, [], ◌∷◌, Option, Some, None, option_map, Bool, true, false, true≢false, refl, sym, subst}
use Rattle.std.specs.Prelude.{not, filter, codes, if◌then◌else◌}
use Rattle.json_value.specs.Value as value
use Rattle.json_value.specs.Value.{Value, Members, null, number, fraction, text, list, member_at}
use Rattle.schema_defs.specs.Schema.{Plain}
use Rattle.schema_defs.specs.declared.Setting.{Setting}
use Rattle.schema_defs.specs.Read.{Lookup, lookup_of, reading, member_readings, optional, keyword, by_value, text_of, kept, kept_list, types_of, make_plain, numbers_of, texts_of, plain_of, document_of}
use Rattle.schema_defs.proofs.Unknown.{keywords_are_members}
use Rattle.schema_faults.specs.Schemas as nodes
use Rattle.schema_faults.specs.Faults.{Told, text_in, references_in}
use Rattle.schema_faults.proofs.Readings.{is_empty, quiet}
use Rattle.schema_laws.proofs.Options.{IfThere, tenth}
use Rattle.schema_laws.proofs.Fine.{Passes, FineDocument}
use Rattle.schema_laws.proofs.Reading.{document_has}

module _ (p : List ℕ → Bool) where
  -- the references that don't pass
  abbrev pub failing : Told
  failing at_root k v = filter (λ q. not (p q)) (references_in v)

  passing : (b : Bool) (s : List ℕ) → is_empty (if not b then s ∷ [] else []) ≡ true → b ≡ true
  passing true s h = refl
  passing false s h = absurd (true≢false (sym h))

  own_reference : (o : Option Value) → is_empty (filter (λ q. not (p q)) (text_in o)) ≡ true → IfThere (Passes p) (optional (by_value text_of) (option_map reading o))
  own_reference None h = tt
  own_reference (Some null) h = tt
  own_reference (Some (value.boolean b)) h = tt
  own_reference (Some (number z)) h = tt
  own_reference (Some fraction) h = tt
  own_reference (Some (text s)) h = passing (p s) s h
  own_reference (Some (list xs)) h = tt
  own_reference (Some (value.object ms)) h = tt

  module _ (f : Lookup) where
    plain_fine : IfThere (Passes p) (keyword (codes "$ref") (by_value text_of) f) → IfThere (λ r. Passes p r.reference) (plain_of f)
    unfolding plain_of
    plain_fine h =
        tenth (Passes p) (λ (r : Plain). Passes p r.reference) make_plain
        (keyword (codes "title") (by_value text_of) f) (keyword (codes "description") (by_value text_of) f) (keyword (codes "default") (by_value kept) f)
        (keyword (codes "const") (by_value kept) f) (keyword (codes "type") (by_value types_of) f) (keyword (codes "format") (by_value text_of) f)
        (keyword (codes "enum") (by_value kept_list) f) (numbers_of f) (texts_of f) (keyword (codes "$ref") (by_value text_of) f)
        (λ t d v c k m e n s q i. i) h

  own_keywords : (at_root : Bool) (k : List ℕ) (ms : Members) → is_empty (failing at_root k (value.object ms)) ≡ true → IfThere (λ r. Passes p r.reference) (plain_of (lookup_of (member_readings ms)))
  own_keywords at_root k ms h =
      plain_fine (lookup_of (member_readings ms))
      (subst (λ o. IfThere (Passes p) (optional (by_value text_of) o)) (sym (keywords_are_members (codes "$ref") ms)) (own_reference (member_at (codes "$ref") ms) h))

  -- where each reference of the schemas in a value passes, each of the document does
  pub document_fine : (setting : Setting) (v : Value) → quiet failing (nodes.schemas_of v) ≡ true → IfThere (FineDocument p) (document_of setting v)
  document_fine setting v q = document_has (λ r. Passes p r.reference) failing own_keywords setting v q
