-- Which items an item reaches at one value: through newtypes, options, boxes and the variants of untagged enums.
use Rattle.std.specs.Prelude.{◌≡◌, ℕ, ◌≤◌, List, [], ◌∷◌, ◌++◌, length, Bool, true, Option, Some, None, bytes_eq}
use Rattle.std.specs.List.{list_any}
use Rattle.json_value.specs.Value.{Value}
use Rattle.schema_defs.specs.Texts.{Relations}
use Rattle.model_defs.specs.Types.{TypeModel, option_type, boxed_type, item_type}
use Rattle.model_defs.specs.Model.{untagged, VariantModel, BodyModel, struct_model, enum_model, ContainerModel, ConversionsD, container_named}
use Rattle.model_defs.specs.Layer.{Content, one_type, Judge, Parts, fields_content, variant_content}
use Rattle.model_defs.specs.Reads.{leads_within, item_reads}

-- the items that a type asks of the same value
abbrev pub asked : TypeModel → List (List ℕ)
asked (option_type t) = asked t
asked (boxed_type t) = asked t
asked (item_type n) = n ∷ []
asked _ = []

abbrev pub asked_by_content : Content → List (List ℕ)
asked_by_content (one_type t) = asked t
asked_by_content _ = []

abbrev pub asked_by_variants : Bool → List VariantModel → List (List ℕ)
asked_by_variants closed [] = []
asked_by_variants closed (w ∷ ws) = asked_by_content (variant_content closed w) ++ asked_by_variants closed ws

abbrev pub asked_by_body : Bool → BodyModel → List (List ℕ)
asked_by_body closed (struct_model style fs) = asked_by_content (fields_content closed style fs)
asked_by_body closed (enum_model untagged ws) = asked_by_variants closed ws
asked_by_body closed (enum_model _ ws) = []

abbrev pub asked_by : Option ContainerModel → List (List ℕ)
asked_by None = []
asked_by (Some m) = asked_by_body m.closed m.body

abbrev pub is_among : List ℕ → List (List ℕ) → Bool
is_among n ns = list_any (bytes_eq n) ns

abbrev pub Asks : List ContainerModel → List ℕ → List ℕ → Type 0
Asks models m n = is_among n (asked_by (container_named m models)) ≡ true

-- the first item reaches the second, in one step or more
pub data Reaches (models : List ContainerModel) : List ℕ → List ℕ → Type 0 where
  at_once : (m n : List ℕ) → Asks models m n → Reaches models m n
  further : (m n l : List ℕ) → Asks models m n → Reaches models n l → Reaches models m l

abbrev pub NoneReachesItself : List ContainerModel → Type 0
NoneReachesItself models = (n : List ℕ) → Reaches models n n → ⊥

-- where no item reaches itself at one value, as many items as the table has are enough: to allow more changes nothing
pub record SpareItems (models : List ContainerModel) : Type 0 where
  pub leading : (k : ℕ) (n : List ℕ) → length models ≤ k → leads_within models k n ≡ leads_within models (length models) n
  pub reading : (conversions : ConversionsD) (relations : Relations) (v : Value) (parts : Parts Judge) (k : ℕ) (n : List ℕ)
      → length models ≤ k → item_reads models conversions relations v parts k n ≡ item_reads models conversions relations v parts (length models) n

abbrev pub ItemsAreNeverSpent : Type 0
ItemsAreNeverSpent = (models : List ContainerModel) → NoneReachesItself models → SpareItems models
