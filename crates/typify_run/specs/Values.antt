-- Values that are judged, as data.
use Rattle.std.specs.Prelude.{List, map}
use Rattle.serde_json.specs.Data.{Data}
use Rattle.serde_json.specs.View.{view}
use Rattle.typify_run.specs.declared.values.Judged.{Judged}
use Rattle.typify_run.specs.declared.values.Judged.TheVariants.{Lent, Given}

abbrev pub seen : Judged → List Data
seen (Lent vs) = map view vs.now
seen (Given vs) = map view vs.items
