-- The keywords of lists and of members that hold no schema.
use Rattle.std.specs.Prelude.{map, string_bytes, Bool, true, false, Option, Some, None}
use Rattle.schema_defs.specs.Schema.{ListRules, MemberRules, Lists, no_lists, lists, Named, no_named, named, MaybeSchema, no_schema, the_schema, no_items, Properties, no_properties, property}
use Rattle.merge_defs.specs.Arrays.{no_list_rules}
use Rattle.merge_defs.specs.Objects.{no_member_rules}
use Rattle.merge_leaves.specs.declared.lists.ListSizes.{ListSizes}
use Rattle.merge_leaves.specs.declared.members.MemberSizes.{MemberSizes}
use Rattle.merge_leaves.specs.declared.members.MergedSizes.{MergedSizes}

abbrev pub list_sizes_view : ListSizes → ListRules
list_sizes_view s = record { max_items = s.max_items; min_items = s.min_items; unique_items = s.unique_items }

abbrev pub member_sizes_view : MemberSizes → MemberRules
member_sizes_view s = record { max_properties = s.max_properties; min_properties = s.min_properties; required = map string_bytes s.required.now.keys }

abbrev pub merged_sizes_view : MergedSizes → MemberRules
merged_sizes_view s = record { max_properties = s.max_properties; min_properties = s.min_properties; required = map string_bytes s.required.keys }

-- those of a part of a schema
abbrev pub rules_of_lists : Lists → Option ListRules
rules_of_lists no_lists = None
rules_of_lists (lists p x a c) = Some c

abbrev pub rules_of_named : Named → Option MemberRules
rules_of_named no_named = None
rules_of_named (named p q a n c) = Some c

-- a part without a keyword
abbrev pub says_nothing_of_lists : Lists → Bool
says_nothing_of_lists (lists no_items no_schema no_schema c) = no_list_rules c
says_nothing_of_lists _ = false

abbrev pub says_nothing_of_named : Named → Bool
says_nothing_of_named (named no_properties no_properties no_schema no_schema c) = no_member_rules c
says_nothing_of_named _ = false

-- only counts and required names
abbrev pub holds_no_schema : Named → Bool
holds_no_schema (named no_properties no_properties no_schema no_schema c) = true
holds_no_schema _ = false

abbrev pub names_none : Properties → Bool
names_none no_properties = true
names_none (property n s ps) = false

abbrev pub is_missing : MaybeSchema → Bool
is_missing no_schema = true
is_missing (the_schema s) = false
