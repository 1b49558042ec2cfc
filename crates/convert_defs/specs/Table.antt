-- The table of conversion: of its rows the first that fits is taken.
use Rattle.std.specs.Prelude.{ℕ, ◌&&◌, ◌||◌, not, nat_eq, List, [], ◌∷◌, ◌++◌, map, filter, length, Bool, true, false, Option, Some, None, is_none, is_some, option_map, option_and_then, codes, if◌then◌else◌}
use Rattle.std.specs.List.{list_any, list_all}
use Rattle.json_value.specs.Value.{Value, text}
use Rattle.schema_defs.specs.Layer.{is_listed}
use Rattle.schema_defs.specs.declared.InstanceType.{InstanceType}
use Rattle.schema_defs.specs.declared.InstanceType.TheVariants.{Null, Boolean, Object, Array, Number, Text, Integer}
use Rattle.schema_defs.specs.Texts.{Relations}
use Rattle.schema_defs.specs.Schema.{Types, one_type, many_types, Plain, Schema, boolean, object, Same, no_same, same_value, Lists, no_lists, Named, no_named, no_schema, the_schema, no_list, the_list, Document}
use Rattle.schema_defs.specs.Admits.{target, definition_name, is_root_reference}
use Rattle.model_defs.specs.Model.{external_tag, internal_tag, adjacent_tag, untagged, allow_rule, deny_rule}
use Rattle.model_defs.specs.Layer.{is_null, is_text, is_boolean}
use Rattle.entry_defs.specs.Entry.{Target, the_root, definition, integer_entry, any_entry, unit_entry, reference}
use Rattle.convert_defs.specs.Row.{Part, child, lone, made, Row, leaf_row, as_it_is_row, option_row, ruled_row, enum_row, merged_row, refused_row, VariantRow, part_body, by_shape, by_contents, conditional, mix, bad_not, nested_enum, Cause, Note, here, narrowed, widened, untyped_note, null_note, const_note, string_note, open_branch_note, mixed_branches_note, tag_alone_note, type_note, overlap_note, not_note, Finding, noted, plainly, add_notes, asking, branching}
use Rattle.convert_defs.specs.Standing.{is_untyped, has_conditional, less_types, less_enum, less_const, less_reference, of_type, no_keyword, alone}
use Rattle.enum_defs.specs.Words.{as_text, same_type, has_type, without_same, without_lists, without_named, is_bare}
use Rattle.convert_defs.specs.IntegerRow.{integer_of, integer_notes, note_if}
use Rattle.convert_defs.specs.Scalars.{string_finding, enumerated, boolean_finding, listed_alone, never_entry, wanted_of, patterns_in, less_null, non_null, is_owner, is_number}
use Rattle.convert_defs.specs.Owners.{array_finding, object_finding}
use Rattle.enum_defs.specs.Shapes.{is_null_schema, text_cases, ObjectShape, object_shape}
use Rattle.convert_defs.specs.Shapes.{Member, members_from, schemas_of, is_odd_null, option_member, external_members, adjacent_members, internal_members, TaggedShape}
use Rattle.enum_defs.specs.Exclusive.{exclusive}
use Rattle.enum_defs.specs.Kinds.{null_free}

-- ---- the parts of the table

abbrev pub target_of : List ℕ → Option Target
target_of q = if is_root_reference q then Some the_root else option_map definition (definition_name q)

-- two types, with null: the other, or null
abbrev pub type_beside_null : Option Types → Option InstanceType
type_beside_null (Some (many_types (Null ∷ k ∷ []))) = Some k
type_beside_null (Some (many_types (k ∷ Null ∷ []))) = Some k
type_beside_null _ = None

-- without nulls among the listed values; a default that is null is the option's alone
abbrev pub beside_null : Plain → Plain
beside_null p = record p { enum_values = option_map non_null p.enum_values; default = less_null p.default }

abbrev pub lists_only_nulls : Option (List Value) → Bool
lists_only_nulls None = false
lists_only_nulls (Some vs) = list_all is_null vs

abbrev pub lists_no_null : Option (List Value) → Bool
lists_no_null None = false
lists_no_null (Some vs) = not (list_any is_null vs)

abbrev pub is_type : InstanceType → Option InstanceType → Bool
is_type k None = false
is_type k (Some l) = same_type k l

abbrev pub nullable : Plain → Same → Lists → Named → Option InstanceType → Row
nullable p ss ls ns None = refused_row mix
nullable p ss ls ns (Some k) =
    if lists_only_nulls p.enum_values || same_type Null k then leaf_row unit_entry
    else option_row (made (object (beside_null (of_type k p)) ss ls ns))

abbrev pub nullable_notes : Plain → Same → List Note
nullable_notes p ss = note_if (is_some p.const_value || is_some p.reference || not (without_same ss) || lists_no_null p.enum_values) (here widened null_note)

abbrev pub listed : Option (List Value) → List Value
listed None = []
listed (Some vs) = vs

-- the schema without its `enum`, and then the rule
abbrev pub allowed_row : Part → List Value → Row
allowed_row part vs = if list_any is_owner vs then refused_row nested_enum else ruled_row part (allow_rule vs)

abbrev pub has_one_type : Option Types → Bool
has_one_type (Some (one_type k)) = true
has_one_type _ = false

abbrev pub many_of : Option Types → Option (List InstanceType)
many_of (Some (many_types ks)) = Some ks
many_of _ = None

abbrev pub type_among : InstanceType → Option Types → Bool
type_among k (Some (many_types ks)) = list_any (same_type k) ks
type_among k _ = false

abbrev pub every_type : List InstanceType
every_type = Null ∷ Boolean ∷ Object ∷ Array ∷ Number ∷ Text ∷ Integer ∷ []

abbrev pub only_type : Option Types → Option InstanceType
only_type (Some (many_types (k ∷ []))) = Some k
only_type _ = None

abbrev pub with_type : Plain → Same → Lists → Named → Option InstanceType → Row
with_type p ss ls ns None = refused_row mix
with_type p ss ls ns (Some k) = as_it_is_row (made (object (of_type k p) ss ls ns))

-- the same types in the same order
abbrev pub same_lists : List InstanceType → List InstanceType → Bool
same_lists [] [] = true
same_lists (k ∷ ks) (l ∷ ls) = same_type k l && same_lists ks ls
same_lists _ _ = false

abbrev pub same_types : Option Types → Option Types → Bool
same_types (Some (one_type k)) (Some (one_type l)) = same_type k l
same_types (Some (many_types ks)) (Some (many_types ls)) = same_lists ks ls
same_types _ _ = false

abbrev pub types_of_schema : Option Schema → Option Types
types_of_schema (Some (object p ss ls ns)) = p.types
types_of_schema _ = None

abbrev pub row_of_target : Option Target → Row
row_of_target None = refused_row mix
row_of_target (Some t) = leaf_row (reference t)

abbrev pub reference_row : Option (List ℕ) → Row
reference_row None = refused_row mix
reference_row (Some q) = row_of_target (target_of q)

abbrev pub target_types : Document → Option (List ℕ) → Option Types
target_types d None = None
target_types d (Some q) = types_of_schema (target d q)

abbrev pub schema_part : Option Schema → List Part
schema_part None = []
schema_part (Some s) = made s ∷ []

-- what a reference leads to, to be merged
abbrev pub target_part : Document → Option (List ℕ) → List Part
target_part d None = []
target_part d (Some q) = schema_part (target d q)

-- no part with keywords of numbers, texts, lists or members, no format
abbrev pub no_ranges : Plain → Lists → Named → Bool
no_ranges p ls ns = is_none p.format && is_none p.numbers && is_none p.texts && without_lists ls && without_named ns

-- no keyword but those of the same value
abbrev pub no_others : Plain → Lists → Named → Bool
no_others p ls ns = is_none p.enum_values && is_none p.const_value && is_none p.reference && no_ranges p ls ns

-- ---- subschemas alone

abbrev pub member_part : Member → Part
member_part m = child m.0 m.1

abbrev pub lone_part : Member → Part
lone_part m = lone m.0 m.1

abbrev pub untagged_variant : Member → VariantRow
untagged_variant m = record { name = []; body = part_body (member_part m) }

abbrev pub untagged_row : List Member → Row
untagged_row ms = enum_row untagged by_contents (map untagged_variant ms)

abbrev pub is_open_shape : Option ObjectShape → Bool
is_open_shape None = false
is_open_shape (Some o) = not o.closed

abbrev pub is_open_object : Member → Bool
is_open_object m = is_open_shape (object_shape m.1)

abbrev pub open_branches : List Member → List Note
open_branches ms = map (λ m. record { way = narrowed; kind = open_branch_note; place = m.0 }) (filter is_open_object ms)

-- texts that are listed beside keywords of texts
abbrev pub has_text_keywords : Schema → Bool
has_text_keywords (boolean b) = false
has_text_keywords (object p ss ls ns) = is_some p.texts

abbrev pub is_ruled_text : Member → Bool
is_ruled_text m = is_some (text_cases m.1) && has_text_keywords m.1

abbrev pub text_branches : List Member → List Note
text_branches ms = map (λ m. record { way = widened; kind = string_note; place = m.0 }) (filter is_ruled_text ms)

abbrev pub mixed_notes : TaggedShape → List Note
mixed_notes t = note_if t.mixed (here narrowed mixed_branches_note) ++ note_if t.alone (here narrowed tag_alone_note)

abbrev pub adjacent_row : TaggedShape → Row
adjacent_row t = enum_row (adjacent_tag t.tag t.content) (by_shape t.closed) t.variants

abbrev pub internal_row : TaggedShape → Row
internal_row t = enum_row (internal_tag t.tag) (by_shape t.closed) t.variants

abbrev pub only_member : List Member → Option Member
only_member (m ∷ []) = Some m
only_member _ = None

abbrev pub odd_nulls : List Member → List Note
odd_nulls ms = note_if (list_any is_odd_null ms) (here widened null_note)

-- option, external, adjacent, internal, the only member, untagged, in this order
abbrev pub one_of_only : Document → List Member → Option Member → Finding
one_of_only d ms (Some m) = plainly (as_it_is_row (lone_part m))
one_of_only d ms None = noted (note_if (not (exclusive d (schemas_of ms))) (here widened overlap_note)) (untagged_row ms)

abbrev pub one_of_internal : Document → List Member → Option TaggedShape → Finding
one_of_internal d ms (Some t) = branching ms (noted (mixed_notes t) (internal_row t))
one_of_internal d ms None = one_of_only d ms (only_member ms)

abbrev pub one_of_adjacent : Document → List Member → Option TaggedShape → Finding
one_of_adjacent d ms (Some t) = branching ms (noted (mixed_notes t) (adjacent_row t))
one_of_adjacent d ms None = one_of_internal d ms (internal_members d.setting ms)

abbrev pub one_of_external : Document → List Member → Option (List VariantRow) → Finding
one_of_external d ms (Some ws) = branching ms (noted (open_branches ms ++ text_branches ms) (enum_row external_tag by_contents ws))
one_of_external d ms None = one_of_adjacent d ms (adjacent_members ms)

abbrev pub one_null_member : List Member → Bool
one_null_member ms = nat_eq (length (filter (λ n. is_null_schema n.1) ms)) 1

abbrev pub one_of_option : Document → List Member → Option Member → Finding
one_of_option d ms (Some m) = noted (odd_nulls ms ++ note_if (not (null_free d m.1) || not (one_null_member ms)) (here widened null_note)) (option_row (member_part m))
one_of_option d ms None = one_of_external d ms (external_members ms)

abbrev pub one_of_finding : Document → List ℕ → List Member → Finding
one_of_finding d name ms = one_of_option d ms (option_member ms)

-- where no member but one is null
abbrev pub any_of_others : Document → List ℕ → List Member → Option Member → Finding
any_of_others d name ms (Some m) = noted (odd_nulls ms) (option_row (member_part m))
any_of_others d name ms None = if exclusive d (schemas_of ms) then one_of_finding d name ms else plainly (untagged_row ms)

abbrev pub any_of_finding : Document → List ℕ → List Member → Finding
any_of_finding d name [] = plainly (leaf_row (never_entry name))
any_of_finding d name (m ∷ ms) = any_of_others d name (m ∷ ms) (option_member (m ∷ ms))

abbrev pub all_of_finding : List Member → Finding
all_of_finding (m ∷ []) = plainly (as_it_is_row (lone_part m))
all_of_finding ms = plainly (merged_row (map member_part ms))

abbrev pub deny : Part → List Value → Finding
deny part vs = if list_any is_owner vs then plainly (refused_row nested_enum) else noted (here narrowed not_note ∷ []) (ruled_row part (deny_rule vs))

-- the one type of listed values
abbrev pub type_of_listed : List Value → Option InstanceType
type_of_listed [] = None
type_of_listed (v ∷ vs) =
    if list_all is_text (v ∷ vs) then Some Text else if list_all is_boolean (v ∷ vs) then Some Boolean else if list_all is_number (v ∷ vs) then Some Integer else None

abbrev pub not_denied : List Value → Cause
not_denied vs = if list_any is_owner vs then nested_enum else bad_not

abbrev pub denied : Option InstanceType → List Value → Finding
denied None vs = plainly (refused_row (not_denied vs))
denied (Some k) vs = deny (made (alone (of_type k no_keyword))) vs

-- the schema under `not`, less its `enum`
abbrev pub under_not : Schema → Part
under_not s = child (codes "not" ∷ []) s

abbrev pub not_finding : List ℕ → Schema → Finding
not_finding name (boolean true) = plainly (leaf_row (never_entry name))
not_finding name (boolean false) = plainly (leaf_row any_entry)
not_finding name (object p ss ls ns) =
    if is_none p.types && no_others p ls ns && without_same ss then plainly (leaf_row (never_entry name))
    else if has_one_type p.types && is_some p.enum_values then deny (under_not (object (less_enum p) ss ls ns)) (listed p.enum_values)
    else if is_none p.types && is_some p.enum_values && no_others (less_enum p) ls ns && without_same ss then denied (type_of_listed (listed p.enum_values)) (listed p.enum_values)
    else plainly (refused_row bad_not)

-- the members of the one subschema keyword that stands
abbrev pub subschema_finding : Document → List ℕ → Same → Option Finding
subschema_finding d name (same_value (the_list ss) no_list no_list no_schema false) = Some (all_of_finding (members_from (codes "allOf") 0 ss))
subschema_finding d name (same_value no_list (the_list ss) no_list no_schema false) = Some (any_of_finding d name (members_from (codes "anyOf") 0 ss))
subschema_finding d name (same_value no_list no_list (the_list ss) no_schema false) = Some (one_of_finding d name (members_from (codes "oneOf") 0 ss))
subschema_finding d name (same_value no_list no_list no_list (the_schema s) false) = Some (not_finding name s)
subschema_finding d name _ = None

-- ---- a text that is constant, as a list of one

abbrev pub constant_of : Plain → Option (List ℕ)
constant_of p = option_and_then as_text p.const_value

abbrev pub constant_list : List ℕ → Option (List Value) → List Value
constant_list s None = text s ∷ []
constant_list s (Some vs) = if is_listed (text s) vs then text s ∷ [] else []

abbrev pub constant_finding : Relations → Plain → Option (List ℕ) → Finding
constant_finding r p None = plainly (refused_row mix)
constant_finding r p (Some s) = enumerated r p (constant_list s p.enum_values)

-- ---- the rows

pub record Line : Type 0 where
  pub fits : Bool
  pub finding : Finding

abbrev pub first_line : List Line → Finding
first_line [] = plainly (refused_row mix)
first_line (l ∷ ls) = if l.fits then l.finding else first_line ls

abbrev pub finding_or : Option Finding → Finding
finding_or None = plainly (refused_row mix)
finding_or (Some f) = f

infix 30 ◌⇒◌
abbrev pub ◌⇒◌ : Bool → Finding → Line
b ⇒ f = record { fits = b; finding = f }

abbrev pub untyped : List Note
untyped = here narrowed untyped_note ∷ []

abbrev pub of_kinds : Plain → Lists → Named → InstanceType → Schema
of_kinds p ls ns Null = alone (of_type Null no_keyword)
of_kinds p ls ns Boolean = alone (of_type Boolean no_keyword)
of_kinds p ls ns Object = object (of_type Object no_keyword) no_same no_lists ns
of_kinds p ls ns Array = object (of_type Array no_keyword) no_same ls no_named
of_kinds p ls ns Integer = alone (record (of_type Integer no_keyword) { numbers = p.numbers; format = p.format })
of_kinds p ls ns Number = alone (of_type Number no_keyword)
of_kinds p ls ns Text = alone (record (of_type Text no_keyword) { texts = p.texts; format = p.format })

abbrev pub variant_order : List InstanceType
variant_order = Null ∷ Boolean ∷ Object ∷ Array ∷ Integer ∷ Text ∷ []

abbrev pub type_variant : Plain → Lists → Named → InstanceType → VariantRow
type_variant p ls ns k = record { name = []; body = part_body (made (of_kinds p ls ns k)) }

abbrev pub type_variants : Plain → Lists → Named → List VariantRow
type_variants p ls ns = map (type_variant p ls ns) (filter (λ k. type_among k p.types) variant_order)

module _ (r : Relations) (d : Document) (p : Plain) (ss : Same) (ls : Lists) (ns : Named) where
  abbrev pub lines : List Line
  lines =
      -- if, then or else
      (has_conditional ss ⇒ plainly (refused_row conditional))
      -- two types, with null
      ∷ (is_some (type_beside_null p.types) ⇒ noted (nullable_notes p ss) (nullable p ss ls ns (type_beside_null p.types)))
      -- texts
      ∷ (has_type Text p.types && is_bare p ss ⇒ asking (patterns_in p) (string_finding p))
      ∷ (is_none p.types && is_some p.texts && is_none p.numbers && is_bare p ss && without_lists ls && without_named ns ⇒ asking (patterns_in p) (add_notes untyped (string_finding p)))
      ∷ (has_type Text p.types && is_some p.enum_values && is_none p.const_value && is_none p.reference && without_same ss ⇒ asking (patterns_in p) (enumerated r p (listed p.enum_values)))
      ∷ (is_some (constant_of p) && (is_none p.types || has_type Text p.types) && is_none p.reference && without_same ss ⇒ asking (patterns_in p) (constant_finding r p (constant_of p)))
      -- whole numbers and booleans
      ∷ (has_type Integer p.types && is_bare p ss ⇒ noted (integer_notes p) (leaf_row (integer_entry (integer_of p))))
      ∷ (has_type Boolean p.types && is_none p.format && is_none p.const_value && is_none p.reference && without_same ss ⇒ boolean_finding p.enum_values)
      -- objects and arrays
      ∷ (has_type Object p.types && is_none p.format && is_bare p ss ⇒ object_finding d.setting ns)
      ∷ (is_untyped p && is_bare p ss && without_lists ls && not (without_named ns) ⇒ add_notes untyped (object_finding d.setting ns))
      ∷ (has_type Array p.types && is_none p.format && is_bare p ss ⇒ array_finding ls)
      ∷ (is_untyped p && is_bare p ss && without_named ns && not (without_lists ls) ⇒ add_notes untyped (array_finding ls))
      -- no keyword, and null
      ∷ (is_untyped p && is_bare p ss && without_lists ls && without_named ns ⇒ plainly (leaf_row any_entry))
      ∷ (has_type Null p.types && is_bare p ss ⇒ plainly (leaf_row unit_entry))
      -- references
      ∷ (is_some p.reference && is_none p.types && no_others (less_reference p) ls ns && without_same ss ⇒ plainly (reference_row p.reference))
      ∷ (is_some p.reference && same_types p.types (target_types d p.reference) && no_others (less_reference p) ls ns && without_same ss ⇒ plainly (reference_row p.reference))
      ∷ (is_some p.reference ⇒ plainly (merged_row (target_part d p.reference ++ made (object (less_reference p) ss ls ns) ∷ [])))
      -- listed values
      ∷ (has_one_type p.types && is_some p.enum_values
      ⇒ plainly (allowed_row (made (object (less_enum p) ss ls ns)) (listed p.enum_values)))
      ∷ (is_some p.enum_values && is_none p.types && no_others (less_enum p) ls ns && without_same ss ⇒ listed_alone p (listed p.enum_values))
      -- subschemas
      ∷ (is_some (subschema_finding d (wanted_of p) ss) && no_others p ls ns
      ⇒ add_notes (note_if (is_some p.types) (here widened type_note)) (finding_or (subschema_finding d (wanted_of p) ss)))
      ∷ (not (without_same ss) ⇒ plainly (merged_row (made (object p no_same ls ns) ∷ made (object no_keyword ss no_lists no_named) ∷ [])))
      -- a constant
      ∷ (is_some p.const_value ⇒ noted (here widened const_note ∷ []) (as_it_is_row (made (object (less_const p) ss ls ns))))
      -- lists of types
      ∷ (list_all (λ k. type_among k p.types) every_type ⇒ plainly (as_it_is_row (made (object (less_types p) ss ls ns))))
      ∷ (is_some (only_type p.types) ⇒ plainly (with_type p ss ls ns (only_type p.types)))
      ∷ (is_some (many_of p.types) && is_bare p ss && not (type_among Number p.types) ⇒ plainly (enum_row untagged by_contents (type_variants p ls ns)))
      ∷ []

abbrev pub finding_of : Relations → Document → Schema → Finding
finding_of r d (boolean true) = plainly (leaf_row any_entry)
finding_of r d (boolean false) = plainly (leaf_row (never_entry []))
finding_of r d (object p ss ls ns) = first_line (lines r d p ss ls ns)

abbrev pub row_of : Relations → Document → Schema → Row
row_of r d s = (finding_of r d s).row

abbrev pub notes_at : Relations → Document → Schema → List Note
notes_at r d s = (finding_of r d s).notes
