-- Whether all of a list pass, one after another; and what of fields, of variants and of models is asked.
use Rattle.std.proofs.Common.{◌≡◌, ℕ, suc, ◌+◌, ◌<◌, ◌≤◌, List, map, drop, drop-cons, length, get_or, Bool, true, false, ◌&&◌, sym, ap, ◌∙◌, arith}
use Rattle.std.specs.List.{list_all}
use Rattle.std.proofs.lemmas.List.{drop_all}
use Rattle.schema_defs.specs.Texts.{Relations}
use Rattle.model_defs.specs.Model.{FieldModel, VariantModel, ContainerModel, ConversionsD}
use Rattle.reading_defs.specs.Laws.{is_sound, fields_are_sound, body_is_sound}

module _ {X Y : Type 0} (view : X → Y) (test : Y → Bool) (xs : List X) (k : ℕ) where
  abbrev left : ℕ → Bool
  left n = list_all test (map view (drop n xs))

  module _ (x : X) (h : k < length xs) (e : x ≡ get_or xs k x) (b : Bool) (q : b ≡ test (view x)) where
    next : left k ≡ (b && left (k + 1))
    next =
        let later : suc k ≡ k + 1 = omega arith in
        ap (λ ys. list_all test (map view ys)) (drop-cons xs k x h)
        ∙ ap (λ y. test (view y) && left (suc k)) (sym e)
        ∙ (λ i. sym q i && left (later i))

    pub one_passes : (whole : Bool) → b ≡ true → left k ≡ whole → left (k + 1) ≡ whole
    one_passes whole p was = sym (next ∙ ap (λ c. c && left (k + 1)) p) ∙ was

    pub one_fails : (whole : Bool) → b ≡ false → left k ≡ whole → false ≡ whole
    one_fails whole p was = sym (next ∙ ap (λ c. c && left (k + 1)) p) ∙ was

  pub all_pass : (whole : Bool) → length xs ≤ k → left k ≡ whole → true ≡ whole
  all_pass whole h was = ap (λ ys. list_all test (map view ys)) (sym (drop_all k xs h)) ∙ was

module _ (ms : List ContainerModel) (cs : ConversionsD) (r : Relations) where
  abbrev pub field_sound : FieldModel → Bool
  field_sound f = is_sound ms cs r f.field_type f.default

  abbrev pub variant_sound : VariantModel → Bool
  variant_sound w = fields_are_sound ms cs r w.fields

  abbrev pub container_sound : ContainerModel → Bool
  container_sound m = body_is_sound ms cs r m.body
