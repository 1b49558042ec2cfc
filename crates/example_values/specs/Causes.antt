-- Why no example of a type is made, and what is answered.
use Rattle.std.specs.Prelude.{◌≡◌, ℕ, ◌<◌, List, [], ◌∷◌, Bool, true, Option, Some, None, Result, Ok, Err, slice_get, option_map}
use Rattle.serde_json.specs.declared.value.Value as value'
use Rattle.json_value.specs.View.{kept_view}
use Rattle.model_defs.specs.Types.{TypeModel}
use Rattle.model_defs.specs.Model.{ContainerModel, ConversionsD}
use Rattle.example_defs.specs.Enough.{no_texts, example_of}
use Rattle.example_defs.specs.Outside.{is_odd, AreInside, IsOutside}
use Rattle.item_uses.specs.Reached.{is_marked}
use Rattle.example_values.specs.declared.errors.ExampleError.{ExampleError}
use Rattle.example_values.specs.declared.errors.ExampleError.TheVariants.{Memory, Outside}
use Rattle.example_values.specs.declared.asking.Attempt.{Attempt}
use Rattle.example_values.specs.declared.asking.Attempt.TheVariants as tried

module _ (ms : List ContainerModel) (cs : ConversionsD) where
  -- the item at a place is marked and odd
  pub record IsMarkedOdd (flags : List Bool) (i : ℕ) : Type 0 where
    pub item : ContainerModel
    pub stands : slice_get ms i ≡ Some item
    pub marked : is_marked flags i ≡ true
    pub odd : is_odd ms cs item ≡ true

  -- the first such place, or none where there is none
  abbrev pub IsFirstOdd : List Bool → Option ℕ → Type 0
  IsFirstOdd flags None = (j : ℕ) → IsMarkedOdd flags j → ⊥
  IsFirstOdd flags (Some i) = IsMarkedOdd flags i × ((j : ℕ) → j < i → IsMarkedOdd flags j → ⊥)

  -- nothing keeps an example from being made, or that is the first cause
  abbrev pub IsCause : TypeModel → Option (Option ℕ) → Type 0
  IsCause t None = AreInside ms cs (t ∷ [])
  IsCause t (Some o) = IsOutside ms cs t o

  -- why there is no answer: want of memory, or the first cause
  abbrev pub IsExampleError : TypeModel → ExampleError → Type 0
  IsExampleError t Memory = Unit {0}
  IsExampleError t (Outside o) = IsOutside ms cs t o

  -- the defined example of a type that is inside, or the first cause
  abbrev pub IsAttempt : TypeModel → Attempt → Type 0
  IsAttempt t (tried.Made o) = AreInside ms cs (t ∷ []) × (option_map kept_view o ≡ example_of ms cs no_texts t)
  IsAttempt t (tried.Outside o) = IsOutside ms cs t o

abbrev pub cause_of : Option ℕ → Option (Option ℕ)
cause_of None = None
cause_of (Some i) = Some (Some i)

-- what was tried is answered
abbrev pub AnswersAs : Attempt → Result (Option value'.Value) ExampleError → Type 0
AnswersAs (tried.Made o) r = r ≡ Ok o
AnswersAs (tried.Outside o) r = r ≡ Err (Outside o)
