-- Values that are the examples of contents, wherever those are built.
use Rattle.std.specs.Prelude.{◌≡◌, ℕ, suc, ◌==◌, ◌||◌, ◌&&◌, List, [], ◌∷◌, map, replicate, Bool, true, false, Option, Some, is_some, if◌then◌else◌}
use Rattle.std.specs.List.{list_all}
use Rattle.json_value.specs.Value.{Value, Members}
use Rattle.model_defs.specs.Types.{TypeModel, outside_type}
use Rattle.model_defs.specs.Model.{Style, enum_model, FieldModel, VariantModel, TagModel, BodyModel, ContainerModel, ConversionsD, container_named}
use Rattle.model_defs.specs.Layer.{Content, one_type, fields_content, may_be_missing, present_type}
use Rattle.model_defs.specs.Reads.{leads_to_option}
use Rattle.example_defs.specs.Built.{is_ready, fields_built, body_built, container_built, ruled_value, content_built_in}
use Rattle.example_defs.specs.Example.{put_named, members_made, variant_made, body_made, container_made, content_made_in}
use Rattle.example_defs.specs.Enough.{no_texts}
use Rattle.example_parts.specs.Names.{names_of_fields, name_found}

-- the type of one unnamed field
abbrev pub only_type : List FieldModel → TypeModel
only_type (f ∷ []) = f.field_type
only_type _ = outside_type

-- a test that holds after so many rounds, and not after one fewer
pub record IsFirst (test : ℕ → Bool) (n : ℕ) : Type 0 where
  pub now : test n ≡ true
  pub before : (k : ℕ) → suc k ≡ n → test k ≡ false

module _ (ms : List ContainerModel) (cs : ConversionsD) where
  abbrev pub built_in : ℕ → Content → Bool
  built_in n c = content_built_in ms cs no_texts n c

  abbrev pub made_in : ℕ → Content → Value
  made_in n c = content_made_in ms cs no_texts n c

  -- it is what is made of the content in any number of rounds in which it is built
  unfoldable pub IsMade : Content → Value → Type 0
  IsMade c v = (n : ℕ) → built_in n c ≡ true → v ≡ made_in n c

  -- so are all of these, of types one after another
  unfoldable pub AreMade : List TypeModel → List Value → Type 0
  AreMade ts vs = (n : ℕ) → list_all (λ t. built_in n (one_type t)) ts ≡ true → vs ≡ map (λ t. made_in n (one_type t)) ts

  -- so are so many of these, of one type
  unfoldable pub AreCopies : TypeModel → ℕ → List Value → Type 0
  AreCopies t k vs = (n : ℕ) → ((k == 0) || built_in n (one_type t)) ≡ true → vs ≡ replicate k (made_in n (one_type t))

  -- members that are the examples of fields, where all fields that must be present are built
  unfoldable pub AreMembers : List FieldModel → Members → Type 0
  AreMembers fs es = (n : ℕ) → fields_built (leads_to_option ms) (built_in n) [] fs ≡ true → es ≡ members_made (leads_to_option ms) (built_in n) (made_in n) [] fs

  -- the value of a variant of that name, where it is ready
  unfoldable pub IsVariantMade : TagModel → List ℕ → VariantModel → Value → Type 0
  IsVariantMade tag m w v =
      (closed : Bool) (n : ℕ) → is_ready (leads_to_option ms) (built_in n) closed w ≡ true → v ≡ variant_made (leads_to_option ms) (built_in n) (made_in n) closed tag m w

  -- that of fields, whether unknown members are refused or not
  unfoldable pub IsContentMade : Style → List FieldModel → Value → Type 0
  IsContentMade style fs v = (closed : Bool) (n : ℕ) → built_in n (fields_content closed style fs) ≡ true → v ≡ made_in n (fields_content closed style fs)

  -- the value of a body in the first round in which it is built
  unfoldable pub IsBodyMade : BodyModel → Value → Type 0
  IsBodyMade b v =
      (closed : Bool) (n : ℕ) → IsFirst (λ k. body_built (leads_to_option ms) (built_in k) closed b) n → v ≡ body_made (leads_to_option ms) (built_in n) (made_in n) closed b

  abbrev pub IsEnumMade : TagModel → List VariantModel → Value → Type 0
  IsEnumMade tag ws v = IsBodyMade (enum_model tag ws) v

  -- and that of an item, where there is one
  abbrev pub IsFoundMade : Option ContainerModel → Value → Type 0
  IsFoundMade o v =
      (n : ℕ) → IsFirst (λ k. container_built (leads_to_option ms) (built_in k) (ruled_value ms cs no_texts) o) n
      → v ≡ container_made (leads_to_option ms) (built_in n) (made_in n) (ruled_value ms cs no_texts) o

  unfoldable pub IsItemMade : ContainerModel → Value → Type 0
  IsItemMade m v = IsFoundMade (Some m) v

  unfoldable pub IsNamedMade : List ℕ → Value → Type 0
  IsNamedMade m v = IsFoundMade (container_named m ms) v

  -- ---- a field's member, before those of the fields behind it

  abbrev pub is_field_ready : ℕ → List FieldModel → ℕ → FieldModel → Bool
  is_field_ready n fs i f = f.is_rest || (may_be_missing (leads_to_option ms) f || (is_some (name_found (names_of_fields fs) i) && built_in n (one_type (present_type f))))

  abbrev pub member_before : ℕ → List FieldModel → ℕ → FieldModel → Members → Members
  member_before n fs i f later =
      if f.is_rest then later
      else if may_be_missing (leads_to_option ms) f then later
      else put_named (name_found (names_of_fields fs) i) (made_in n (one_type (present_type f))) later

  unfoldable pub IsMemberPut : List FieldModel → ℕ → FieldModel → Members → Members → Type 0
  IsMemberPut fs i f old new = (n : ℕ) → is_field_ready n fs i f ≡ true → new ≡ member_before n fs i f old
