-- Contents of variants.
use Rattle.std.proofs.Common.{◌≡◌, ℕ, suc, List, [], ◌∷◌, filter, length, Bool, true, ◌&&◌, refl, sym, ap, ◌∙◌}
use Rattle.std.specs.Prelude.{nat_le}
use Rattle.model_defs.specs.Model.{FieldModel, ContainerModel}
use Rattle.value_models.specs.declared.field.Field.{Field}
use Rattle.value_models.specs.FieldView.{fields_view}
use Rattle.describe_defs.specs.Plain.{several_places, types_in, greatest_length, are_plain_fields}
use Rattle.described_types.specs.Seen.{is_picked}
use Rattle.plain_tables.specs.Among.{no_conversions}

long : (fs : List Field) → length (types_in (fields_view fs)) ≡ length fs
long [] = refl
long (f ∷ fs) = ap suc (long fs)

pub several_are : (fs : List Field) (n : ℕ) (b : Bool) → n ≡ length fs → b ≡ (nat_le 2 n && nat_le n greatest_length) → b ≡ several_places (types_in (fields_view fs))
several_are fs n b e h = h ∙ ap (λ m. nat_le 2 m && nat_le m greatest_length) (e ∙ sym (long fs))

each_picked : (fs : List FieldModel) → filter (is_picked true) fs ≡ fs
each_picked [] = refl
each_picked (f ∷ fs) = ap (λ xs. f ∷ xs) (each_picked fs)

pub all_picked : (ms : List ContainerModel) (fs : List FieldModel) (b : Bool) → b ≡ are_plain_fields ms no_conversions (filter (is_picked true) fs) → b ≡ are_plain_fields ms no_conversions fs
all_picked ms fs b e = e ∙ ap (are_plain_fields ms no_conversions) (each_picked fs)
