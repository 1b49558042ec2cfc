-- Rounds and variants where a name finds them, and where none does.
use Rattle.std.proofs.Common.{◌≡◌, ℕ, List, cond, Bool, true, false, Option, Some, None, sym, ap, ◌∙◌}
use Rattle.model_defs.specs.Types.{TypeModel, outside_type}
use Rattle.model_defs.specs.Model.{FieldModel, VariantModel}
use Rattle.model_defs.specs.Layer.{may_be_missing, present_type}
use Rattle.example_parts.specs.Names.{names_of_fields, names_of_variants, name_found}
use Rattle.example_values.specs.Fewest.{Rounds, either, if_found, type_fewest, variant_fewest}
use Rattle.example_values.specs.Known.{field_fewest_at, variant_before}
use Rattle.example_values.specs.Ready.{ready_or_none, if_named, found_or_none}

module _ (item : List ℕ → Rounds) where
  pub present_there : (t u : TypeModel) (r : Rounds) → t ≡ u → r ≡ type_fewest item t → r ≡ type_fewest item u
  present_there t u r e k = k ∙ ap (type_fewest item) e

  pub present_nowhere : (u : TypeModel) → outside_type ≡ u → None ≡ type_fewest item u
  present_nowhere u e = ap (type_fewest item) e

module _ (leads : TypeModel → Bool) (item : List ℕ → Rounds) where
  pub field_missing : (fs : List FieldModel) (i : ℕ) (f : FieldModel) (b : Bool) → b ≡ may_be_missing leads f → b ≡ true → Some 0 ≡ field_fewest_at leads item fs i f
  field_missing fs i f b m t = ap (λ c. cond c (Some 0) (if_found (name_found (names_of_fields fs) i) (type_fewest item (present_type f)))) (sym t ∙ m)

  pub field_there : (fs : List FieldModel) (i : ℕ) (f : FieldModel) (b : Bool) (n : List ℕ) (r : Rounds) → b ≡ may_be_missing leads f → b ≡ false → Some n ≡ name_found (names_of_fields fs) i → r ≡ type_fewest item (present_type f)
      → r ≡ field_fewest_at leads item fs i f
  field_there fs i f b n r m t e k =
      k ∙ ap (λ o. if_found o (type_fewest item (present_type f))) e
      ∙ ap (λ c. cond c (Some 0) (if_found (name_found (names_of_fields fs) i) (type_fewest item (present_type f)))) (sym t ∙ m)

  pub field_nowhere : (fs : List FieldModel) (i : ℕ) (f : FieldModel) (b : Bool) → b ≡ may_be_missing leads f → b ≡ false → None ≡ name_found (names_of_fields fs) i → None ≡ field_fewest_at leads item fs i f
  field_nowhere fs i f b m t e =
      ap (λ o. if_found o (type_fewest item (present_type f))) e
      ∙ ap (λ c. cond c (Some 0) (if_found (name_found (names_of_fields fs) i) (type_fewest item (present_type f)))) (sym t ∙ m)

  pub variant_there : (ws : List VariantModel) (i : ℕ) (w : VariantModel) (n : List ℕ) (own behind r : Rounds) → Some n ≡ name_found (names_of_variants ws) i → own ≡ variant_fewest leads item w → r ≡ either own behind
      → r ≡ variant_before leads item ws i w behind
  variant_there ws i w n own behind r e k d = d ∙ (λ z. either (if_found (e z) (k z)) behind)

  pub variant_nowhere : (ws : List VariantModel) (i : ℕ) (w : VariantModel) (behind : Rounds) → None ≡ name_found (names_of_variants ws) i → behind ≡ variant_before leads item ws i w behind
  variant_nowhere ws i w behind e = ap (λ o. either (if_found o (variant_fewest leads item w)) behind) e

  module _ (n : ℕ) where
    pub ready_there : (ws : List VariantModel) (i : ℕ) (w : VariantModel) (m : List ℕ) (v : Option (List ℕ × VariantModel)) → Some m ≡ name_found (names_of_variants ws) i → v ≡ ready_or_none leads item n m w → v ≡ found_or_none leads item n ws i w
    ready_there ws i w m v e k = k ∙ ap (λ o. if_named leads item n o w) e

    pub ready_nowhere : (ws : List VariantModel) (i : ℕ) (w : VariantModel) → None ≡ name_found (names_of_variants ws) i → None ≡ found_or_none leads item n ws i w
    ready_nowhere ws i w e = ap (λ o. if_named leads item n o w) e
