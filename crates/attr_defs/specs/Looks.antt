-- What the value of a slot says.
use Rattle.std.specs.Prelude.{ℕ, List, Bool, Option, Some, None, is_some, unwrap_or}
use Rattle.token_trees.specs.Token.{Name}
use Rattle.syntax_trees.specs.Syntax.{TyD, PathD, ExprPathD, LifetimeD}
use Rattle.syntax_trees.specs.Item.{PredicateD}
use Rattle.attr_parts.specs.declared.rename.RenameRule.{RenameRule}
use Rattle.attr_parts.specs.declared.rename.RenameRule.TheVariants as rules
use Rattle.attr_parts.specs.declared.rename.RenameAllRules.{RenameAllRules}
use Rattle.attr_parts.specs.Values.{DefaultD}
use Rattle.attr_defs.specs.Acts.{ValueD, is_plain, is_name, is_rule, is_default, are_predicates, is_ty, is_path, is_function, are_lifetimes, SettingD, Values}
use Rattle.attr_defs.specs.Owners.{written, read}

abbrev pub plain_of : ValueD → Option (List ℕ)
plain_of (is_plain x) = Some x
plain_of _ = None

abbrev pub name_of : ValueD → Option Name
name_of (is_name x) = Some x
name_of _ = None

abbrev pub rule_of : ValueD → Option RenameRule
rule_of (is_rule x) = Some x
rule_of _ = None

abbrev pub default_of : ValueD → Option DefaultD
default_of (is_default x) = Some x
default_of _ = None

abbrev pub predicates_of : ValueD → Option (List PredicateD)
predicates_of (are_predicates x) = Some x
predicates_of _ = None

abbrev pub ty_of : ValueD → Option TyD
ty_of (is_ty x) = Some x
ty_of _ = None

abbrev pub path_of : ValueD → Option PathD
path_of (is_path x) = Some x
path_of _ = None

abbrev pub function_of : ValueD → Option ExprPathD
function_of (is_function x) = Some x
function_of _ = None

abbrev pub lifetimes_of : ValueD → Option (List LifetimeD)
lifetimes_of (are_lifetimes x) = Some x
lifetimes_of _ = None

-- what the setting of a slot is, where it has one of that kind
abbrev pub look : {A : Type 0} → (ValueD → Option A) → Option SettingD → Option A
look f None = None
look f (Some s) = f s.value

abbrev pub is_set : Option SettingD → Bool
is_set o = is_some o

abbrev pub rules_at : Values → List ℕ → RenameAllRules
rules_at v name = record { serialize = unwrap_or (look rule_of (v (written name))) rules.None; deserialize = unwrap_or (look rule_of (v (read name))) rules.None }
