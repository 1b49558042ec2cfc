-- What holds of rules and of types without groups.
use Rattle.std.specs.Prelude.{◌≡◌, ℕ, List, Some, codes}
use Rattle.syntax_trees.specs.Syntax.{TyD, ty_group}
use Rattle.attr_parts.specs.declared.rename.RenameRule.{RenameRule}
use Rattle.attr_parts.specs.declared.rename.RenameRule.TheVariants as rules
use Rattle.attr_parts.specs.declared.rename.RenameAllRules.{RenameAllRules}
use Rattle.attr_parts.specs.Rules.{rule_of, rules_or}
use Rattle.attr_parts.specs.Types.{ungrouped}

-- three pairs of rules may be joined from either end
abbrev pub OrIsAssociative : Type 0
OrIsAssociative = (a b c : RenameAllRules) → rules_or (rules_or a b) c ≡ rules_or a (rules_or b c)

abbrev pub no_rules : RenameAllRules
no_rules = record { serialize = rules.None; deserialize = rules.None }

-- a pair of no rules changes nothing, on either side
abbrev pub NoneIsUnit : Type 0
NoneIsUnit = (a : RenameAllRules) → (rules_or no_rules a ≡ a) × (rules_or a no_rules ≡ a)

-- each rule but none has its name
abbrev pub rule_name : RenameRule → List ℕ
rule_name rules.None = codes ""
rule_name rules.LowerCase = codes "lowercase"
rule_name rules.UpperCase = codes "UPPERCASE"
rule_name rules.PascalCase = codes "PascalCase"
rule_name rules.CamelCase = codes "camelCase"
rule_name rules.SnakeCase = codes "snake_case"
rule_name rules.ScreamingSnakeCase = codes "SCREAMING_SNAKE_CASE"
rule_name rules.KebabCase = codes "kebab-case"
rule_name rules.ScreamingKebabCase = codes "SCREAMING-KEBAB-CASE"

-- a rule is read from its own name
abbrev pub NamesAreRead : Type 0
NamesAreRead = (r : RenameRule) → (r ≡ rules.None → ⊥) → rule_of (rule_name r) ≡ Some r

-- what is inside all groups is no group
abbrev pub UngroupedIsNoGroup : Type 0
UngroupedIsNoGroup = (t u : TyD) → ungrouped t ≡ ty_group u → ⊥

-- to ungroup again changes nothing
abbrev pub UngroupedStays : Type 0
UngroupedStays = (t : TyD) → ungrouped (ungrouped t) ≡ ungrouped t
