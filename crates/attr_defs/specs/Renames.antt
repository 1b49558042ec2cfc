-- Names by rules (serde.rs, `rename_all`): each half that no attribute names takes the renamer's text, and the name that is
-- read then joins the others that are read.
use Rattle.std.specs.Prelude.{ℕ, List, Bool, true, false}
use Rattle.std.specs.BTreeSet.{insert_key}
use Rattle.token_trees.specs.Token.{Name}
use Rattle.attr_parts.specs.declared.rename.RenameRule.{RenameRule}
use Rattle.attr_parts.specs.declared.rename.RenameRule.TheVariants as rules
use Rattle.attr_parts.specs.declared.rename.RenameAllRules.{RenameAllRules}
use Rattle.attr_parts.specs.Names.{MultiNameD}
use Rattle.attr_defs.specs.Members.{names_cmp, VariantAttrs, FieldAttrs}

-- what a renamer makes of a name by a rule
abbrev pub Meaning : Type 0
Meaning = RenameRule → List ℕ → List ℕ

-- no rule leaves a name as it is, whatever the renamer
abbrev pub by_rule : Meaning → RenameRule → List ℕ → List ℕ
by_rule f rules.None n = n
by_rule f rules.LowerCase n = f rules.LowerCase n
by_rule f rules.UpperCase n = f rules.UpperCase n
by_rule f rules.PascalCase n = f rules.PascalCase n
by_rule f rules.CamelCase n = f rules.CamelCase n
by_rule f rules.SnakeCase n = f rules.SnakeCase n
by_rule f rules.ScreamingSnakeCase n = f rules.ScreamingSnakeCase n
by_rule f rules.KebabCase n = f rules.KebabCase n
by_rule f rules.ScreamingKebabCase n = f rules.ScreamingKebabCase n

-- a half that an attribute names keeps its name
abbrev pub half_renamed : Meaning → RenameRule → Bool → Name → Name
half_renamed f r true n = n
half_renamed f r false n = record n { text = by_rule f r n.text }

abbrev pub renamed : Meaning → RenameAllRules → MultiNameD → MultiNameD
renamed f rs m =
    let written : Name = half_renamed f rs.serialize m.serialize_renamed m.serialize in
    let read : Name = half_renamed f rs.deserialize m.deserialize_renamed m.deserialize in
    record m { serialize = written; deserialize = read; aliases = insert_key names_cmp m.aliases read }

abbrev pub variant_renamed : Meaning → RenameAllRules → VariantAttrs → VariantAttrs
variant_renamed f rs a = record a { name = renamed f rs a.name }

abbrev pub field_renamed : Meaning → RenameAllRules → FieldAttrs → FieldAttrs
field_renamed f rs a = record a { name = renamed f rs a.name }
