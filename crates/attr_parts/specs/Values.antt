-- What attributes are set to, as contracts see it (serde.rs, container and field attributes).
use Rattle.std.specs.Prelude.{ℕ, List, Bool, true, false, string_bytes}
use Rattle.syntax_trees.specs.Syntax.{ExprPathD}
use Rattle.syntax_trees.specs.View.{expr_path_view}
use Rattle.attr_parts.specs.declared.values.Identifier.{Identifier}
use Rattle.attr_parts.specs.declared.values.Identifier.TheVariants as identifiers
use Rattle.tag_kinds.specs.declared.tag.TagType.{TagType}
use Rattle.tag_kinds.specs.declared.tag.TagType.TheVariants as tags
use Rattle.attr_parts.specs.declared.values.Default.{Default}
use Rattle.attr_parts.specs.declared.values.Default.TheVariants as defaults

-- how an enum's variant is told: outside, in a member, in one member beside another, or not at all
pub data TagD : Type 0 where
  external : TagD
  internal : List ℕ → TagD
  adjacent : List ℕ → List ℕ → TagD
  untagged : TagD

abbrev pub tag_view : TagType → TagD
tag_view tags.External = external
tag_view (tags.Internal t) = internal (string_bytes t)
tag_view (tags.Adjacent t c) = adjacent (string_bytes t) (string_bytes c)
tag_view tags.None = untagged

-- what stands for a value that is left out: nothing, the type's own default, or what a function answers
pub data DefaultD : Type 0 where
  no_default : DefaultD
  own_default : DefaultD
  path_default : ExprPathD → DefaultD

abbrev pub default_view : Default → DefaultD
default_view defaults.None = no_default
default_view defaults.Default = own_default
default_view (defaults.Path p) = path_default (expr_path_view p)

abbrev pub lacks_default : DefaultD → Bool
lacks_default no_default = true
lacks_default own_default = false
lacks_default (path_default p) = false

abbrev pub is_identifier : Identifier → Bool
is_identifier identifiers.No = false
is_identifier identifiers.Field = true
is_identifier identifiers.Variant = true
