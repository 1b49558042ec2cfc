-- A verdict for each of several values, or why there are none.
use Rattle.std.specs.Prelude.{◌≡◌, ◌⊎◌, ℕ, List, [], ◌∷◌, ⊤}
use Rattle.schema_defs.specs.Faults.{Rises}
use Rattle.serde_json.specs.Data.{Data}
use Rattle.json_value.specs.View.{value_of}
use Rattle.schema_defs.specs.Texts.{Relations}
use Rattle.model_defs.specs.Types.{TypeModel}
use Rattle.model_defs.specs.Model.{ContainerModel, ConversionsD}
use Rattle.schema_tree.specs.Fault.{FaultD, memory, texts}
use Rattle.derive_model.specs.Judging.{IsVerdict}
use Rattle.derive_model.specs.VerdictView.{VerdictD}

abbrev pub AreVerdicts : List ContainerModel → ConversionsD → Relations → TypeModel → List Data → List VerdictD → Type 0
AreVerdicts ms cs r t [] [] = ⊤
AreVerdicts ms cs r t (d ∷ ds) (v ∷ vs) = IsVerdict ms cs r t (value_of d) v × AreVerdicts ms cs r t ds vs
AreVerdicts ms cs r t [] (v ∷ vs) = ⊥
AreVerdicts ms cs r t (d ∷ ds) [] = ⊥

-- want of memory, or at the root a judge of texts that failed, whose count rose
abbrev pub IsUnjudged : ℕ → ℕ → FaultD → Type 0
IsUnjudged before after f = (f ≡ memory) ⊎ ((f ≡ texts []) × Rises before after)
