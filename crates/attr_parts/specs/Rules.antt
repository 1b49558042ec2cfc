-- The rules by which names are written, by their own names (serde.rs, container attributes, `rename_all`).
use Rattle.std.specs.Prelude.{ℕ, List, Option, Some, None, cond, codes}
use Rattle.std.specs.Str.{bytes_eq}
use Rattle.attr_parts.specs.declared.rename.RenameRule.{RenameRule}
use Rattle.attr_parts.specs.declared.rename.RenameRule.TheVariants as rules
use Rattle.attr_parts.specs.declared.rename.RenameAllRules.{RenameAllRules}

-- the rule that a text names
abbrev pub rule_of : List ℕ → Option RenameRule
rule_of t =
    cond (bytes_eq t (codes "lowercase")) (Some rules.LowerCase)
    (cond (bytes_eq t (codes "UPPERCASE")) (Some rules.UpperCase)
    (cond (bytes_eq t (codes "PascalCase")) (Some rules.PascalCase)
    (cond (bytes_eq t (codes "camelCase")) (Some rules.CamelCase)
    (cond (bytes_eq t (codes "snake_case")) (Some rules.SnakeCase)
    (cond (bytes_eq t (codes "SCREAMING_SNAKE_CASE")) (Some rules.ScreamingSnakeCase)
    (cond (bytes_eq t (codes "kebab-case")) (Some rules.KebabCase)
    (cond (bytes_eq t (codes "SCREAMING-KEBAB-CASE")) (Some rules.ScreamingKebabCase)
    None)))))))

-- the first rule, or the second where the first is none
abbrev pub rule_or : RenameRule → RenameRule → RenameRule
rule_or rules.None b = b
rule_or rules.LowerCase b = rules.LowerCase
rule_or rules.UpperCase b = rules.UpperCase
rule_or rules.PascalCase b = rules.PascalCase
rule_or rules.CamelCase b = rules.CamelCase
rule_or rules.SnakeCase b = rules.SnakeCase
rule_or rules.ScreamingSnakeCase b = rules.ScreamingSnakeCase
rule_or rules.KebabCase b = rules.KebabCase
rule_or rules.ScreamingKebabCase b = rules.ScreamingKebabCase

abbrev pub rules_or : RenameAllRules → RenameAllRules → RenameAllRules
rules_or a b = record { serialize = rule_or a.serialize b.serialize; deserialize = rule_or a.deserialize b.deserialize }
