use Rattle.std.proofs.Common.{◌≡◌, drop}
use Rattle.std.specs.List.{list_any}
use Rattle.schema_defs.specs.Layer.{is_kind}
use Rattle.json_value.specs.View.{kept_view}
use Rattle.schema_admission.proofs.plain.has_one_of.Given as goal

abbrev pub invariant-loop-kind : goal.invariant-loop-kind
invariant-loop-kind l = list_any (is_kind (kept_view l.value)) l.kinds.items ≡ list_any (is_kind (kept_view l.value)) (drop l.kind-index l.kinds.items)
