-- An example by any judge of texts is one by this judge.
use Rattle.std.proofs.Common.{List, Option, Some, None}
use Rattle.json_value.specs.Value.{Value}
use Rattle.schema_defs.specs.Texts.{Relations}
use Rattle.model_defs.specs.Types.{TypeModel}
use Rattle.model_defs.specs.Model.{ContainerModel, ConversionsD}
use Rattle.example_laws.specs.Laws.{IsExample}
use Rattle.example_tries.specs.Tried.{IsExampleBy}

pub by_this : (ms : List ContainerModel) (cs : ConversionsD) (r : Relations) (t : TypeModel) (o : Option Value) → IsExample ms cs r t o → IsExampleBy ms cs r t o
by_this ms cs r t (Some v) h = h.1
by_this ms cs r t None h = h
