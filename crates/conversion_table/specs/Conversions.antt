-- The table of conversions as the reader of values sees it.
use Rattle.std.specs.Prelude.{map, string_bytes}
use Rattle.model_defs.specs.Model.{RuleD, text_rule, allow_rule, deny_rule, ConstraintD, ConversionsD}
use Rattle.json_value.specs.View.{kept_view}
use Rattle.conversion_table.specs.declared.conversions.Rule.{Rule}
use Rattle.conversion_table.specs.declared.conversions.Rule.TheVariants.{Text, Allow, Deny}
use Rattle.conversion_table.specs.declared.conversions.Constraint.{Constraint}
use Rattle.conversion_table.specs.declared.conversions.Conversions.{Conversions}

abbrev pub rule_view : Rule → RuleD
rule_view (Text least most all any) = text_rule (record { least = least; most = most; all = map string_bytes all.items; any = map string_bytes any.items })
rule_view (Allow vs) = allow_rule (map kept_view vs.items)
rule_view (Deny vs) = deny_rule (map kept_view vs.items)

abbrev pub constraint_view : Constraint → ConstraintD
constraint_view c = record { item = string_bytes c.item; rule = rule_view c.rule }

abbrev pub conversions_view : Conversions → ConversionsD
conversions_view c = record { constraints = map constraint_view c.constraints.items; defaults = map kept_view c.defaults.items }
