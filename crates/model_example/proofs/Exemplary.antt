-- What is made of a module's type is an example by any judge of texts.
use Rattle.std.proofs.Common.{◌≡◌, List, [], ◌∷◌, Option, sym, subst, ◌∙◌}
use Rattle.json_value.specs.Value.{Value}
use Rattle.schema_defs.specs.Texts.{Relations}
use Rattle.model_defs.specs.Types.{TypeModel}
use Rattle.model_defs.specs.Model.{ContainerModel, ConversionsD}
use Rattle.example_defs.specs.Enough.{no_texts, example_of}
use Rattle.example_defs.specs.Outside.{AreInside}
use Rattle.example_laws.specs.Fitted.{IsFitted}
use Rattle.example_laws.specs.Laws.{IsExample}
use Rattle.example_laws.proofs.Texts.{examples_are_any}
use Rattle.example_values.specs.Causes.{IsExampleError}
use Rattle.example_values.specs.declared.errors.ExampleError.{ExampleError}

pub is_example : (ms : List ContainerModel) (cs : ConversionsD) (t : TypeModel) (o : Option Value) → IsFitted ms cs → AreInside ms cs (t ∷ []) → o ≡ example_of ms cs no_texts t
    → (relations : Relations) → IsExample ms cs relations t o
is_example ms cs t o f i e relations = subst (IsExample ms cs relations t) (sym e) (examples_are_any ms cs f t i relations)

-- of tables that are the same
module _ (ms ns : List ContainerModel) (cs ks : ConversionsD) (t : TypeModel) (e : ms ≡ ns) (d : cs ≡ ks) where
  pub inside_same : AreInside ms cs (t ∷ []) → AreInside ns ks (t ∷ [])
  inside_same i = subst (λ (z : ConversionsD). AreInside ns z (t ∷ [])) d (subst (λ (z : List ContainerModel). AreInside z cs (t ∷ [])) e i)

  pub made_same : (o : Option Value) → o ≡ example_of ms cs no_texts t → o ≡ example_of ns ks no_texts t
  made_same o m = m ∙ (λ i. example_of (e i) (d i) no_texts t)

  pub error_same : (x : ExampleError) → IsExampleError ms cs t x → IsExampleError ns ks t x
  error_same x h = subst (λ (z : ConversionsD). IsExampleError ns z t x) d (subst (λ (z : List ContainerModel). IsExampleError z cs t x) e h)
