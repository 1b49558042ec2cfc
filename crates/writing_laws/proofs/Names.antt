-- Variants by their names, and which place of an enum a variant has.
use Rattle.std.proofs.Common.{◌≡◌, ℕ, suc, List, [], ◌∷◌, drop, slice_get, Bool, true, false, ◌&&◌, ◌||◌, not, cond, refl, sym, ap, ◌∙◌, true≢false, bytes_eq, Some}
use Rattle.std.specs.List.{list_any, list_all}
use Rattle.std.proofs.lemmas.Slice.Eq.{bytes_eq-Decides}
use Rattle.schema_defs.specs.Location.{Location}
use Rattle.model_defs.specs.Model.{Style, struct_style, tuple_style, newtype_style, unit_style, FieldModel, VariantModel}
use Rattle.model_defs.specs.Layer.{is_unit, fields_content}
use Rattle.model_defs.proofs.Rising.{bytes_itself}
use Rattle.typed_defs.specs.Typed.{Typed}
use Rattle.typed_defs.specs.Written.{is_unit_style}
use Rattle.reading_defs.specs.Reading.{Read, taken, stopped, of_name}
use Rattle.reading_defs.proofs.Items.{head_at, tail_at}
use Rattle.writing_laws.specs.Tables.{reads_variant_name, variant_names_lead_back}
use Rattle.writing_laws.proofs.Taken.{never_stopped, and_left, and_right, not_false}
use Rattle.writing_laws.proofs.Back.{FieldsLead, ContentLeads}

pub unit_is : (w : VariantModel) → is_unit w ≡ is_unit_style w.style
unit_is w = by w.style
  where
    by : (s : Style) → let b : Bool = elim s [ unit_style ↦ true | struct_style ↦ false | tuple_style ↦ false | newtype_style ↦ false ] in b ≡ is_unit_style s
    by struct_style = refl
    by tuple_style = refl
    by newtype_style = refl
    by unit_style = refl

pub content_leads : (closed : Bool) (s : Style) (fs : List FieldModel) → FieldsLead fs → ContentLeads (fields_content closed s fs)
content_leads closed struct_style fs h = h
content_leads closed tuple_style fs h = tt
content_leads closed newtype_style [] h = tt
content_leads closed newtype_style (f ∷ []) h = tt
content_leads closed newtype_style (f ∷ g ∷ fs) h = tt
content_leads closed unit_style fs h = tt

-- ---- names

pub one_name : (s n : List ℕ) (ds : List (List ℕ)) → list_all (λ d. bytes_eq d n) ds ≡ true → list_any (bytes_eq s) ds ≡ true → s ≡ n
one_name s n [] h e = absurd (true≢false (sym e))
one_name s n (d ∷ ds) h e = by (bytes_eq s d) refl e (one_name s n ds (and_right (bytes_eq d n) (list_all (λ c. bytes_eq c n) ds) h))
  where
    by : (b : Bool) → bytes_eq s d ≡ b → (b || list_any (bytes_eq s) ds) ≡ true → (list_any (bytes_eq s) ds ≡ true → s ≡ n) → s ≡ n
    by true z y rec = (bytes_eq-Decides s d).0 z ∙ (bytes_eq-Decides d n).0 (and_left (bytes_eq d n) (list_all (λ c. bytes_eq c n) ds) h)
    by false z y rec = rec y

pub names_apart : (m n : List ℕ) → bytes_eq m n ≡ false → bytes_eq n m ≡ false
names_apart m n h = by (bytes_eq n m) refl
  where
    by : (b : Bool) → bytes_eq n m ≡ b → b ≡ false
    by true e = absurd (true≢false (sym (bytes_itself m) ∙ ap (bytes_eq m) (sym ((bytes_eq-Decides n m).0 e)) ∙ h))
    by false e = refl

-- ---- the variant that a name finds is found by the name that it is written under

pub record Named (found : ℕ → VariantModel → Read Typed) (ws : List VariantModel) (i : ℕ) (us : List VariantModel) (n : List ℕ) (x : Typed) : Type 0 where
  pub place : ℕ
  pub variant : VariantModel
  pub at : slice_get ws place ≡ Some variant
  pub named : reads_variant_name variant n ≡ true
  pub found_is : found place variant ≡ taken x
  pub among : (p : VariantModel → Bool) → list_all p us ≡ true → p variant ≡ true
  pub back : (again : ℕ → VariantModel → Read Typed) (missing : Read Typed) → of_name again missing i us variant.serialize_name ≡ again place variant

pub named_by : (found : ℕ → VariantModel → Read Typed) (l : Location) (ws : List VariantModel) (i : ℕ) (us : List VariantModel) (n : List ℕ) (x : Typed) → drop i ws ≡ us → variant_names_lead_back us ≡ true
    → of_name found (stopped l) i us n ≡ taken x → Named found ws i us n x
named_by found l ws i [] n x at h e = absurd (never_stopped x l e)
named_by found l ws i (w ∷ us) n x at h e =
    by (list_any (bytes_eq n) w.deserialize_names) refl e
    (named_by found l ws (suc i) us n x (tail_at ws i w us at) (and_right (reads_variant_name w w.serialize_name && list_all (λ u. not (reads_variant_name w u.serialize_name)) us) (variant_names_lead_back us) h))
  where
    firsts : (reads_variant_name w w.serialize_name && list_all (λ u. not (reads_variant_name w u.serialize_name)) us) ≡ true
    firsts = and_left (reads_variant_name w w.serialize_name && list_all (λ u. not (reads_variant_name w u.serialize_name)) us) (variant_names_lead_back us) h

    by : (b : Bool) → list_any (bytes_eq n) w.deserialize_names ≡ b → cond b (found i w) (of_name found (stopped l) (suc i) us n) ≡ taken x
        → (of_name found (stopped l) (suc i) us n ≡ taken x → Named found ws (suc i) us n x) → Named found ws i (w ∷ us) n x
    by true z g rec = record {
      place = i;
      variant = w;
      at = head_at ws i w us at;
      named = z;
      found_is = g;
      among = λ p a. and_left (p w) (list_all p us) a;
      back = λ again missing. ap (λ b. cond b (again i w) (of_name again missing (suc i) us w.serialize_name))
          (and_left (reads_variant_name w w.serialize_name) (list_all (λ u. not (reads_variant_name w u.serialize_name)) us) firsts);
    }
    by false z g rec =
        let k = rec g in
        record {
          place = k.place;
          variant = k.variant;
          at = k.at;
          named = k.named;
          found_is = k.found_is;
          among = λ p a. k.among p (and_right (p w) (list_all p us) a);
          back = λ again missing.
              ap (λ b. cond b (again i w) (of_name again missing (suc i) us k.variant.serialize_name))
              (not_false (reads_variant_name w k.variant.serialize_name)
              (k.among (λ u. not (reads_variant_name w u.serialize_name)) (and_right (reads_variant_name w w.serialize_name) (list_all (λ u. not (reads_variant_name w u.serialize_name)) us) firsts)))
              ∙ k.back again missing;
        }
