-- The causes that ask the table of conversions, which no other item decides: as in container_defs, without the items' names.
use Rattle.std.specs.Prelude.{ℕ, ◌&&◌, List, filter, Bool, false, not, Option, Some, None, is_some, bytes_eq, nat_lt}
use Rattle.std.specs.List.{list_any}
use Rattle.syntax_trees.specs.Syntax.{ExprPathD, TyD}
use Rattle.attr_parts.specs.Values.{DefaultD, no_default, own_default, path_default}
use Rattle.type_spellings.specs.Types.{type_of}
use Rattle.model_defs.specs.Types.{TypeModel, outside_type}
use Rattle.model_defs.specs.Model.{ConstraintD, ConversionsD}
use Rattle.container_defs.specs.Checks.{is_one}
use Rattle.container_defs.specs.Container.{ReadField, ReadContainer}
use Rattle.container_defs.specs.Reader.{default_place}
use Rattle.container_defs.specs.Forms.{same_type, newtype_type, is_text, is_text_rule, holds, fails}

abbrev pub or_outside : Option TypeModel → TypeModel
or_outside None = outside_type
or_outside (Some t) = t

module _ (k : ConversionsD) where
  abbrev pub rules_for : ReadContainer → List ConstraintD
  rules_for c = filter (λ r. bytes_eq r.item c.name.text) k.constraints

  abbrev pub converted : ReadContainer → TyD → Bool
  converted c t = same_type (newtype_type c.body) (type_of t) && is_one (rules_for c)

  abbrev pub odd_try_from : ReadContainer → Bool
  odd_try_from c = fails (converted c) c.attrs.type_try_from

  abbrev pub text_rule_elsewhere : ReadContainer → Bool
  text_rule_elsewhere c = is_some c.attrs.type_try_from && list_any (λ r. is_text_rule r.rule) (rules_for c) && not (is_text (newtype_type c.body))

abbrev pub is_at : ℕ → ExprPathD → Bool
is_at count p = holds (λ n. nat_lt n count) (default_place p)

-- a default at a path that is none of so many places
abbrev pub stated_elsewhere : ℕ → DefaultD → Bool
stated_elsewhere count no_default = false
stated_elsewhere count own_default = false
stated_elsewhere count (path_default p) = not (is_at count p)

abbrev pub is_misplaced : ℕ → ReadField → Bool
is_misplaced count f = stated_elsewhere count f.attrs.default
