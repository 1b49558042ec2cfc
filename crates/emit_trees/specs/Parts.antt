-- What is written of parts, as trees of entries have it.
use Rattle.std.specs.Prelude.{ℕ, List, [], ◌∷◌, ◌++◌, Bool, Option, Some, None, codes, string_bytes}
use Rattle.syntax_trees.specs.Syntax.{TyD}
use Rattle.syntax_trees.specs.Item.{FieldD, FieldsD, VariantD, BodyD, ItemD}
use Rattle.model_defs.specs.Model.{TagModel, external_tag, internal_tag, adjacent_tag, untagged}
use Rattle.tag_kinds.specs.declared.tag.TagType.{TagType}
use Rattle.tag_kinds.specs.declared.tag.TagType.TheVariants as tags
use Rattle.emit_defs.specs.Models.{Manner}
use Rattle.emit_defs.specs.Trees.{Carried, flag, valued, name_at, serde, when, rename_metas, manner_metas, manner_ty, tag_metas, map_ty, text_ty}

abbrev pub tag_model : TagType → TagModel
tag_model tags.External = external_tag
tag_model (tags.Internal t) = internal_tag (string_bytes t)
tag_model (tags.Adjacent t c) = adjacent_tag (string_bytes t) (string_bytes c)
tag_model tags.None = untagged

-- the text of the type whose values are tried
abbrev pub try_from_part : Option (List ℕ) → List Carried
try_from_part None = []
try_from_part (Some t) = valued (codes "try_from") t ∷ []

-- how a variant is told, whether the item is what it holds, the type whose values are tried, and whether unknown members are refused
abbrev pub item_parts : TagModel → Bool → Option (List ℕ) → Bool → List Carried
item_parts tag transparent try_from closed =
    tag_metas tag ++ when transparent (flag (codes "transparent")) ++ try_from_part try_from ++ when closed (flag (codes "deny_unknown_fields"))

-- a field by its identifier, its name, the place of its default, its manner and its type
abbrev pub field_part : List ℕ → List ℕ → ℕ → Manner → TyD → FieldD
field_part identifier name n m t = record { attrs = serde (rename_metas identifier name ++ manner_metas n m); name = Some (name_at identifier); ty = manner_ty m t }

-- what keeps the members that no field names
abbrev pub rest_part : List ℕ → TyD → FieldD
rest_part identifier t = record { attrs = serde (flag (codes "flatten") ∷ []); name = Some (name_at identifier); ty = map_ty text_ty t }

abbrev pub variant_part : List ℕ → List ℕ → FieldsD → VariantD
variant_part identifier name fs = record { attrs = serde (rename_metas identifier name); name = name_at identifier; fields = fs }

-- an item by its name, what it carries and its body
abbrev pub item_part : List ℕ → List Carried → BodyD → ItemD
item_part name ms b = record { attrs = serde ms; name = name_at name; params = []; predicates = []; body = b }
