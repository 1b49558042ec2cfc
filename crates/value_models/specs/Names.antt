-- The names by which fields, variants and containers are looked up, each with its place; and that what stands at the place of a name is what a scan finds.
use Rattle.std.specs.Prelude.{◌≡◌, ℕ, zero, suc, List, [], ◌∷◌, ◌++◌, filter, slice_get, Bool, true, false, not, Option, Some, None, is_some, if◌then◌else◌}
use Rattle.model_defs.specs.Model.{FieldModel, VariantModel, ContainerModel, variant_named, container_named}
use Rattle.model_defs.specs.Refusals.{Seen}
use Rattle.model_defs.specs.Settled.{Part}
use Rattle.model_defs.specs.Layer.{Judge, MemberPart, own_members, other_members, unnamed_members}
use Rattle.name_tables.specs.Names.{Names, place_of}

-- each of the names, at one place
abbrev pub at_one_place : ℕ → List (List ℕ) → Names
at_one_place i [] = []
at_one_place i (n ∷ ns) = (n, i) ∷ at_one_place i ns

-- the deserialize names of a field; a rest is found by none
abbrev pub names_at : ℕ → FieldModel → Names
names_at i f = if f.is_rest then [] else at_one_place i f.deserialize_names

abbrev pub field_names : ℕ → List FieldModel → Names
field_names i [] = []
field_names i (f ∷ fs) = names_at i f ++ field_names (suc i) fs

abbrev pub variant_names : ℕ → List VariantModel → Names
variant_names i [] = []
variant_names i (w ∷ ws) = at_one_place i w.deserialize_names ++ variant_names (suc i) ws

abbrev pub container_names : ℕ → List ContainerModel → Names
container_names i [] = []
container_names i (m ∷ ms) = (m.name, i) ∷ container_names (suc i) ms

abbrev pub at_place : {A : Type 0} → List A → Option ℕ → Option A
at_place xs None = None
at_place xs (Some i) = slice_get xs i

abbrev pub is_same_place : ℕ → ℕ → Bool
is_same_place zero zero = true
is_same_place (suc i) (suc j) = is_same_place i j
is_same_place _ _ = false

abbrev pub is_place : ℕ → Option ℕ → Bool
is_place i None = false
is_place i (Some j) = is_same_place i j

module _ {J : Type 0} where
  -- the members that the field at a place takes, once the fields before it took theirs; a rest takes none
  abbrev pub own_at : ℕ → List FieldModel → List (MemberPart J) → List (MemberPart J)
  own_at i [] ms = []
  own_at zero (f ∷ fs) ms = if f.is_rest then [] else own_members f ms
  own_at (suc i) (f ∷ fs) ms = own_at i fs (if f.is_rest then ms else other_members f ms)

  -- the members whose name has the place
  abbrev pub members_at : ℕ → Names → List (MemberPart J) → List (MemberPart J)
  members_at i names ms = filter (λ m. is_place i (place_of m.name names)) ms

  abbrev pub members_without_place : Names → List (MemberPart J) → List (MemberPart J)
  members_without_place names ms = filter (λ m. not (is_some (place_of m.name names))) ms

-- by their places, members are told apart as the fields take them, one after another
pub record AreFound {J : Type 0} (fs : List FieldModel) (ms : List (MemberPart J)) : Type 0 where
  pub own : (i : ℕ) → own_at i fs ms ≡ members_at i (field_names 0 fs) ms
  pub unnamed : unnamed_members fs ms ≡ members_without_place (field_names 0 fs) ms

-- whatever is asked of the members
pub record FieldsAreFound : Type 0 where
  pub judging : (fs : List FieldModel) (ms : List (MemberPart Judge)) → AreFound fs ms
  pub refusing : (fs : List FieldModel) (ms : List (MemberPart Seen)) → AreFound fs ms
  pub writing : (fs : List FieldModel) (ms : List (MemberPart Part)) → AreFound fs ms

abbrev pub VariantsAreFound : Type 0
VariantsAreFound = (n : List ℕ) (ws : List VariantModel) → variant_named n ws ≡ at_place ws (place_of n (variant_names 0 ws))

abbrev pub ContainersAreFound : Type 0
ContainersAreFound = (n : List ℕ) (ms : List ContainerModel) → container_named n ms ≡ at_place ms (place_of n (container_names 0 ms))
