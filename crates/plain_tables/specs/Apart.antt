-- Names and kinds that are apart from those that came before, and from one another.
use Rattle.std.specs.Prelude.{ℕ, ◌&&◌, ◌||◌, not, List, [], ◌∷◌, Bool, true, is_some}
use Rattle.std.specs.List.{list_all}
use Rattle.name_tables.specs.Names.{Names, place_of}
use Rattle.model_defs.specs.Model.{FieldModel, VariantModel, ContainerModel, ConversionsD}
use Rattle.model_defs.specs.Layer.{variant_content}
use Rattle.writing_laws.specs.Kinds.{Kind, every_kind, content_may_read, variants_are_apart}
use Rattle.describe_defs.specs.Plain.{stand_once, is_required, is_nullable, is_absent_or_held, is_empty_or_held, is_plain_rest}
use Rattle.value_kinds.specs.declared.type_kinds.TypeKinds.{TypeKinds}
use Rattle.value_kinds.specs.Kinds.{has}

-- ---- names

abbrev pub is_entered : List ℕ → Names → Bool
is_entered n t = is_some (place_of n t)

-- none was entered, and none comes twice
abbrev pub new_names : Names → List (List ℕ) → Bool
new_names t ns = list_all (λ m. not (is_entered m t)) ns && stand_once ns

-- ---- kinds

abbrev pub is_clear : List ContainerModel → Bool → TypeKinds → VariantModel → Bool
is_clear ms closed seen w = list_all (λ k. not (has seen k && content_may_read k ms (variant_content closed w))) every_kind

-- no variant may read a kind that was seen, and no two of them a kind in common
abbrev pub are_clear : List ContainerModel → Bool → TypeKinds → List VariantModel → Bool
are_clear ms closed seen ws = list_all (is_clear ms closed seen) ws && variants_are_apart ms closed ws

-- ---- rests

-- a rest stands once, and in an open struct
abbrev pub rests_pass : List ContainerModel → ConversionsD → Bool → Bool → List FieldModel → Bool
rests_pass ms cs closed seen [] = true
rests_pass ms cs closed seen (f ∷ fs) = (not seen && (not closed && is_plain_rest ms cs f)) && rests_pass ms cs closed true fs

-- ---- fields

abbrev pub is_one_of_four : List ContainerModel → ConversionsD → FieldModel → Bool
is_one_of_four ms cs f = is_required ms cs f || is_nullable ms cs f || is_absent_or_held ms cs f || is_empty_or_held ms cs f
