use Rattle.std.proofs.Common.{◌≡◌, drop}
use Rattle.std.specs.Prelude.{bytes_eq}
use Rattle.std.specs.List.{list_any}
use Rattle.conversion_table.specs.Conversions.{constraint_view}
use Rattle.container_defs.specs.Forms.{is_text_rule}
use Rattle.item_causes.proofs.Filtered.{left_of}
use Rattle.item_causes.proofs.rules.has_text_rule.Given as goal

abbrev pub invariant-loop-constraint : goal.invariant-loop-constraint
invariant-loop-constraint l = list_any (λ k. is_text_rule k.rule) (left_of constraint_view (λ k. bytes_eq k.item l.name) (drop l.constraint-index l.constraints)) ≡ list_any (λ k. is_text_rule k.rule) (left_of constraint_view (λ k. bytes_eq k.item l.name) l.constraints)
