-- Laws of rules and of types without groups.
use Rattle.std.proofs.Common.{◌≡◌, refl, ap, ◌∙◌}
use Rattle.syntax_trees.specs.Syntax.{ty_array, ty_fn, ty_group, ty_impl, ty_infer, ty_macro, ty_never, ty_paren, ty_path, ty_pointer, ty_reference, ty_slice, ty_object, ty_tuple, ty_verbatim}
use Rattle.attr_parts.specs.declared.rename.RenameRule.{RenameRule}
use Rattle.attr_parts.specs.declared.rename.RenameRule.TheVariants as rules
use Rattle.attr_parts.specs.declared.rename.RenameAllRules.{RenameAllRules}
use Rattle.attr_parts.specs.Rules.{rule_or}
use Rattle.attr_parts.specs.Laws.{OrIsAssociative, NoneIsUnit, NamesAreRead, UngroupedIsNoGroup, UngroupedStays}

or_assoc : (a b c : RenameRule) → rule_or (rule_or a b) c ≡ rule_or a (rule_or b c)
or_assoc rules.None b c = refl
or_assoc rules.LowerCase b c = refl
or_assoc rules.UpperCase b c = refl
or_assoc rules.PascalCase b c = refl
or_assoc rules.CamelCase b c = refl
or_assoc rules.SnakeCase b c = refl
or_assoc rules.ScreamingSnakeCase b c = refl
or_assoc rules.KebabCase b c = refl
or_assoc rules.ScreamingKebabCase b c = refl

abbrev pair : RenameRule → RenameRule → RenameAllRules
pair a b = record { serialize = a; deserialize = b }

pub or_is_associative : OrIsAssociative
or_is_associative a b c =
    ap (λ r. pair r (rule_or (rule_or a.deserialize b.deserialize) c.deserialize)) (or_assoc a.serialize b.serialize c.serialize)
    ∙ ap (λ r. pair (rule_or a.serialize (rule_or b.serialize c.serialize)) r) (or_assoc a.deserialize b.deserialize c.deserialize)

or_none : (a : RenameRule) → rule_or a rules.None ≡ a
or_none rules.None = refl
or_none rules.LowerCase = refl
or_none rules.UpperCase = refl
or_none rules.PascalCase = refl
or_none rules.CamelCase = refl
or_none rules.SnakeCase = refl
or_none rules.ScreamingSnakeCase = refl
or_none rules.KebabCase = refl
or_none rules.ScreamingKebabCase = refl

pub none_is_unit : NoneIsUnit
none_is_unit a = (refl, ap (λ r. pair r (rule_or a.deserialize rules.None)) (or_none a.serialize) ∙ ap (λ r. pair a.serialize r) (or_none a.deserialize))

pub names_are_read : NamesAreRead
names_are_read rules.None h = absurd (h refl)
names_are_read rules.LowerCase h = refl
names_are_read rules.UpperCase h = refl
names_are_read rules.PascalCase h = refl
names_are_read rules.CamelCase h = refl
names_are_read rules.SnakeCase h = refl
names_are_read rules.ScreamingSnakeCase h = refl
names_are_read rules.KebabCase h = refl
names_are_read rules.ScreamingKebabCase h = refl

pub ungrouped_is_no_group : UngroupedIsNoGroup
ungrouped_is_no_group (ty_array t e) u h = cc
ungrouped_is_no_group (ty_fn ts o) u h = cc
ungrouped_is_no_group (ty_group t) u h = ungrouped_is_no_group t u h
ungrouped_is_no_group (ty_impl bs) u h = cc
ungrouped_is_no_group (ty_infer s) u h = cc
ungrouped_is_no_group (ty_macro p ts) u h = cc
ungrouped_is_no_group (ty_never s) u h = cc
ungrouped_is_no_group (ty_paren t) u h = cc
ungrouped_is_no_group (ty_path q p) u h = cc
ungrouped_is_no_group (ty_pointer m t) u h = cc
ungrouped_is_no_group (ty_reference l m t) u h = cc
ungrouped_is_no_group (ty_slice t) u h = cc
ungrouped_is_no_group (ty_object bs) u h = cc
ungrouped_is_no_group (ty_tuple ts) u h = cc
ungrouped_is_no_group (ty_verbatim ts) u h = cc

pub ungrouped_stays : UngroupedStays
ungrouped_stays (ty_array t e) = refl
ungrouped_stays (ty_fn ts o) = refl
ungrouped_stays (ty_group t) = ungrouped_stays t
ungrouped_stays (ty_impl bs) = refl
ungrouped_stays (ty_infer s) = refl
ungrouped_stays (ty_macro p ts) = refl
ungrouped_stays (ty_never s) = refl
ungrouped_stays (ty_paren t) = refl
ungrouped_stays (ty_path q p) = refl
ungrouped_stays (ty_pointer m t) = refl
ungrouped_stays (ty_reference l m t) = refl
ungrouped_stays (ty_slice t) = refl
ungrouped_stays (ty_object bs) = refl
ungrouped_stays (ty_tuple ts) = refl
ungrouped_stays (ty_verbatim ts) = refl
