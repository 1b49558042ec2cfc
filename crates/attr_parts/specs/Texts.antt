-- What is printed of a diagnostic, in serde_derive's words; nothing is said of texts in quotes that aren't ASCII.
use Rattle.std.specs.Prelude.{ℕ, List, ◌++◌, Option, Some, codes}
use Rattle.std.specs.Fmt.{decimal, debug_str, ◌++?◌}
use Rattle.syntax_trees.specs.declared.cursor.SyntaxKind.{SyntaxKind}
use Rattle.syntax_trees.specs.declared.cursor.SyntaxKind.TheVariants.{ExpectedArguments, ExpectedPath, ExpectedComma, ExpectedEq, ExpectedEqOrParen, ExpectedParen, ExpectedValue, ExpectedIdent, ExpectedType, ExpectedGt, ExpectedLifetime, ExpectedPlus, ExpectedBound, UnexpectedToken, Lex}
use Rattle.attr_parts.specs.Diagnostics.{KindD, duplicate, unknown_container, unknown_variant, unknown_field, unknown_rule, rename_fields_place, untagged_place, default_unit, default_place, default_path_unit, default_path_place, tag_place, content_place, tag_tuple, untagged_tag, content_alone, untagged_content, untagged_both, two_identifiers, field_id_place, variant_id_place, borrow_place, no_lifetimes, lacks_lifetime, halves, expected_string, bad_suffix, bad_path, bad_type, bad_lifetimes, repeated_lifetime, no_lifetime_given, bad_syntax, union_item, untagged_order, default_order, remote_generic, getter_enum, getter_remote, flatten_tuple, flatten_newtype, other_identifier, other_untagged, other_last, other_unit, newtype_last, field_id_unit, variant_id_unit, skip_ser, skip_ser_field, skip_if_field, skip_de, skip_de_field, tag_conflict, same_tags, transparent_from, transparent_try_from, transparent_into, transparent_enum, transparent_unit, transparent_many, transparent_none_ser, transparent_none_de, from_conflict}

-- a kind of syntax error has its own name
abbrev pub kind_text : SyntaxKind → List ℕ
kind_text ExpectedArguments = codes "ExpectedArguments"
kind_text ExpectedPath = codes "ExpectedPath"
kind_text ExpectedComma = codes "ExpectedComma"
kind_text ExpectedEq = codes "ExpectedEq"
kind_text ExpectedEqOrParen = codes "ExpectedEqOrParen"
kind_text ExpectedParen = codes "ExpectedParen"
kind_text ExpectedValue = codes "ExpectedValue"
kind_text ExpectedIdent = codes "ExpectedIdent"
kind_text ExpectedType = codes "ExpectedType"
kind_text ExpectedGt = codes "ExpectedGt"
kind_text ExpectedLifetime = codes "ExpectedLifetime"
kind_text ExpectedPlus = codes "ExpectedPlus"
kind_text ExpectedBound = codes "ExpectedBound"
kind_text UnexpectedToken = codes "UnexpectedToken"
kind_text Lex = codes "Lex"

-- of a text that names no rule
abbrev pub no_rule_text : List ℕ → Option (List ℕ)
no_rule_text t = Some (codes "unknown rename rule `rename_all = ") ++? debug_str t ++? Some (codes "`, expected one of \"lowercase\", \"UPPERCASE\", \"PascalCase\", \"camelCase\", \"snake_case\", \"SCREAMING_SNAKE_CASE\", \"kebab-case\", \"SCREAMING-KEBAB-CASE\"")

-- of a variant with an attribute that stands beside something
abbrev pub front_text : List ℕ → List ℕ → List ℕ
front_text v x = codes "variant `" ++ (v ++ (codes "` cannot have both #[serde(" ++ (x ++ codes ")] and ")))

-- of a member with an attribute
abbrev pub mark_text : List ℕ → List ℕ → List ℕ
mark_text m y = codes "a field " ++ (m ++ (codes " marked with #[serde(" ++ (y ++ codes ")]")))

abbrev pub text_of : KindD → Option (List ℕ)
text_of (duplicate a) = Some (codes "duplicate serde attribute `" ++ a ++ codes "`")
text_of (unknown_container a) = Some (codes "unknown serde container attribute `" ++ a ++ codes "`")
text_of (unknown_variant a) = Some (codes "unknown serde variant attribute `" ++ a ++ codes "`")
text_of (unknown_field a) = Some (codes "unknown serde field attribute `" ++ a ++ codes "`")
text_of (unknown_rule a) = no_rule_text a
text_of rename_fields_place = Some (codes "#[serde(rename_all_fields)] can only be used on enums")
text_of untagged_place = Some (codes "#[serde(untagged)] can only be used on enums")
text_of default_unit = Some (codes "#[serde(default)] can only be used on structs that have fields")
text_of default_place = Some (codes "#[serde(default)] can only be used on structs")
text_of default_path_unit = Some (codes "#[serde(default = \"...\")] can only be used on structs that have fields")
text_of default_path_place = Some (codes "#[serde(default = \"...\")] can only be used on structs")
text_of tag_place = Some (codes "#[serde(tag = \"...\")] can only be used on enums and structs with named fields")
text_of content_place = Some (codes "#[serde(content = \"...\")] can only be used on enums")
text_of tag_tuple = Some (codes "#[serde(tag = \"...\")] cannot be used with tuple variants")
text_of untagged_tag = Some (codes "enum cannot be both untagged and internally tagged")
text_of content_alone = Some (codes "#[serde(tag = \"...\", content = \"...\")] must be used together")
text_of untagged_content = Some (codes "untagged enum cannot have #[serde(content = \"...\")]")
text_of untagged_both = Some (codes "untagged enum cannot have #[serde(tag = \"...\", content = \"...\")]")
text_of two_identifiers = Some (codes "#[serde(field_identifier)] and #[serde(variant_identifier)] cannot both be set")
text_of field_id_place = Some (codes "#[serde(field_identifier)] can only be used on an enum")
text_of variant_id_place = Some (codes "#[serde(variant_identifier)] can only be used on an enum")
text_of borrow_place = Some (codes "#[serde(borrow)] may only be used on newtype variants")
text_of (no_lifetimes a) = Some (codes "field `" ++ a ++ codes "` has no lifetimes to borrow")
text_of (lacks_lifetime a b) = Some (codes "field `" ++ (a ++ (codes "` does not have lifetime " ++ b)))
text_of (halves a) = Some (codes "malformed " ++ (a ++ (codes " attribute, expected `" ++ (a ++ codes "(serialize = ..., deserialize = ...)`"))))
text_of (expected_string a b) = Some (codes "expected serde " ++ (a ++ (codes " attribute to be a string: `" ++ (b ++ codes " = \"...\"`"))))
text_of (bad_suffix a) = Some (codes "unexpected suffix `" ++ a ++ codes "` on string literal")
text_of (bad_path a) = Some (codes "failed to parse path: ") ++? debug_str a
text_of (bad_type a b) = Some (codes "failed to parse type: " ++ a ++ codes " = ") ++? debug_str b
text_of (bad_lifetimes a) = Some (codes "failed to parse borrowed lifetimes: ") ++? debug_str a
text_of (repeated_lifetime a) = Some (codes "duplicate borrowed lifetime `" ++ a ++ codes "`")
text_of no_lifetime_given = Some (codes "at least one lifetime must be borrowed")
text_of (bad_syntax a) = Some (kind_text a)
text_of union_item = Some (codes "Serde does not support derive for unions")
text_of untagged_order = Some (codes "all variants with the #[serde(untagged)] attribute must be placed at the end of the enum")
text_of (default_order a) = Some (codes "field must have #[serde(default)] because previous field " ++ decimal a ++ codes " has #[serde(default)]")
text_of remote_generic = Some (codes "remove generic parameters from this path")
text_of getter_enum = Some (codes "#[serde(getter = \"...\")] is not allowed in an enum")
text_of getter_remote = Some (codes "#[serde(getter = \"...\")] can only be used in structs that have #[serde(remote = \"...\")]")
text_of flatten_tuple = Some (codes "#[serde(flatten)] cannot be used on tuple structs")
text_of flatten_newtype = Some (codes "#[serde(flatten)] cannot be used on newtype structs")
text_of other_identifier = Some (codes "#[serde(other)] may not be used on a variant identifier")
text_of other_untagged = Some (codes "#[serde(other)] cannot appear on untagged enum")
text_of other_last = Some (codes "#[serde(other)] must be on the last variant")
text_of other_unit = Some (codes "#[serde(other)] must be on a unit variant")
text_of (newtype_last a) = Some (codes "`" ++ a ++ codes "` must be the last variant")
text_of field_id_unit = Some (codes "#[serde(field_identifier)] may only contain unit variants")
text_of variant_id_unit = Some (codes "#[serde(variant_identifier)] may only contain unit variants")
text_of (skip_ser a) = Some (codes "variant `" ++ a ++ codes "` cannot have both #[serde(serialize_with)] and #[serde(skip_serializing)]")
text_of (skip_ser_field a b) = Some (front_text a (codes "serialize_with") ++ mark_text b (codes "skip_serializing"))
text_of (skip_if_field a b) = Some (front_text a (codes "serialize_with") ++ mark_text b (codes "skip_serializing_if"))
text_of (skip_de a) = Some (codes "variant `" ++ a ++ codes "` cannot have both #[serde(deserialize_with)] and #[serde(skip_deserializing)]")
text_of (skip_de_field a b) = Some (front_text a (codes "deserialize_with") ++ mark_text b (codes "skip_deserializing"))
text_of (tag_conflict a) = Some (codes "variant field name `" ++ a ++ codes "` conflicts with internal tag")
text_of (same_tags a) = Some (codes "enum tags `" ++ a ++ codes "` for type and content conflict with each other")
text_of transparent_from = Some (codes "#[serde(transparent)] is not allowed with #[serde(from = \"...\")]")
text_of transparent_try_from = Some (codes "#[serde(transparent)] is not allowed with #[serde(try_from = \"...\")]")
text_of transparent_into = Some (codes "#[serde(transparent)] is not allowed with #[serde(into = \"...\")]")
text_of transparent_enum = Some (codes "#[serde(transparent)] is not allowed on an enum")
text_of transparent_unit = Some (codes "#[serde(transparent)] is not allowed on a unit struct")
text_of transparent_many = Some (codes "#[serde(transparent)] requires struct to have at most one transparent field")
text_of transparent_none_ser = Some (codes "#[serde(transparent)] requires at least one field that is not skipped")
text_of transparent_none_de = Some (codes "#[serde(transparent)] requires at least one field that is neither skipped nor has a default")
text_of from_conflict = Some (codes "#[serde(from = \"...\")] and #[serde(try_from = \"...\")] conflict with each other")
