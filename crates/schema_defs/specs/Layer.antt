-- One value against one schema, where it is known what each part of the value and each reference says (JSON Schema Draft 7 validation, section 6).
use Rattle.std.specs.Prelude.{ℕ, suc, int_rem, ◌==◌, ◌&&◌, ◌||◌, not, ℤ, pos, int_lt, int_le, nat_le, List, [], ◌∷◌, length, Bool, true, false, Option, Some, None, bytes_eq, codes, chars, if◌then◌else◌}
use Rattle.std.specs.List.{list_any, list_all}
use Rattle.std.specs.Ordering.{int_eq}
use Rattle.json_value.specs.Value as value
use Rattle.json_value.specs.Value.{Value, Items, Members, same, null, number, fraction, text, list, item, no_items as end_items, member, no_members, item_count, member_count, has_name, is_among}
use Rattle.schema_defs.specs.declared.InstanceType.{InstanceType}
use Rattle.schema_defs.specs.declared.InstanceType.TheVariants.{Null, Boolean, Object, Array, Number, Text, Integer}
use Rattle.schema_defs.specs.declared.Format.{Format}
use Rattle.schema_defs.specs.declared.Format.TheVariants.{Uuid, Date, DateTime, Ip, Ipv4, Ipv6}
use Rattle.schema_defs.specs.Texts.{Relations}
use Rattle.schema_defs.specs.Integers.{range_of, in_range}
use Rattle.schema_defs.specs.Schema.{Types, one_type, many_types, Numbers, Texts, ListRules, MemberRules, Plain, Schema, boolean, object, Same, no_same, same_value, Lists, no_lists, lists, Named, no_named, named, MaybeSchema, no_schema, the_schema, MaybeSchemas, no_list, the_list, Schemas, no_more, schema, Places, no_items, each_item, by_place, Properties, no_properties, property}

abbrev pub Judge : Type 0
Judge = Schema → Bool

-- a member of an object: its name, whether its value may stand for its absence, and what its value says of any schema
pub record MemberPart : Type 0 where
  pub name : List ℕ
  pub as_absent : Bool
  pub says : Judge

-- what the parts of a value say of any schema; a name is judged as a text
pub record Parts : Type 0 where
  pub items : List Judge
  pub members : List MemberPart
  pub name : List ℕ → Judge

-- a keyword that does not stand agrees
abbrev pub if_given : {A : Type 0} → (A → Bool) → Option A → Bool
if_given p None = true
if_given p (Some x) = p x

-- ---- type, enum, const

-- a whole number is both an integer and a number
abbrev pub is_kind : Value → InstanceType → Bool
is_kind null Null = true
is_kind (value.boolean b) Boolean = true
is_kind (number z) Number = true
is_kind (number z) Integer = true
is_kind fraction Number = true
is_kind (text s) Text = true
is_kind (list xs) Array = true
is_kind (value.object ms) Object = true
is_kind _ _ = false

abbrev pub types_agree : Value → Types → Bool
types_agree v (one_type k) = is_kind v k
types_agree v (many_types ks) = list_any (is_kind v) ks

abbrev pub is_listed : Value → List Value → Bool
is_listed v vs = list_any (same v) vs

-- ---- numbers

abbrev pub numbers_agree : ℤ → Numbers → Bool
numbers_agree z n =
    if_given (λ m. int_eq (int_rem z (pos m)) (pos 0)) n.multiple_of
    && if_given (λ b. int_le z b) n.maximum
    && if_given (λ b. int_lt z b) n.exclusive_maximum
    && if_given (λ b. int_le b z) n.minimum
    && if_given (λ b. int_lt b z) n.exclusive_minimum

-- an integer format is a range; another format says nothing of numbers
abbrev pub number_format_agrees : ℤ → List ℕ → Bool
number_format_agrees z f = if_given (in_range z) (range_of f)

-- ---- texts

abbrev pub format_of : List ℕ → Option Format
format_of f =
    if bytes_eq f (codes "uuid") then Some Uuid
    else if bytes_eq f (codes "date") then Some Date
    else if bytes_eq f (codes "date-time") then Some DateTime
    else if bytes_eq f (codes "ip") then Some Ip
    else if bytes_eq f (codes "ipv4") then Some Ipv4
    else if bytes_eq f (codes "ipv6") then Some Ipv6
    else None

abbrev pub within : Option ℕ → Option ℕ → ℕ → Bool
within least most n = if_given (λ m. nat_le m n) least && if_given (λ m. nat_le n m) most

-- lengths count characters, and not bytes
abbrev pub texts_agree : Relations → List ℕ → Texts → Bool
texts_agree r s t = within t.min_length t.max_length (length (chars s)) && list_all (λ p. r.matches p s) t.patterns

abbrev pub text_format_agrees : Relations → List ℕ → List ℕ → Bool
text_format_agrees r s f = if_given (λ k. r.has_format k s) (format_of f)

-- ---- keywords that hold no schema

abbrev pub of_kind_agrees : Relations → Plain → Value → Bool
of_kind_agrees r p (number z) = if_given (numbers_agree z) p.numbers && if_given (number_format_agrees z) p.format
of_kind_agrees r p (text s) = if_given (texts_agree r s) p.texts && if_given (text_format_agrees r s) p.format
of_kind_agrees r p _ = true

abbrev pub plain_agrees : Relations → Plain → Value → Bool
plain_agrees r p v =
    if_given (types_agree v) p.types
    && if_given (is_listed v) p.enum_values
    && if_given (same v) p.const_value
    && of_kind_agrees r p v

-- ---- lists

abbrev pub maybe : Judge → MaybeSchema → Bool
maybe j no_schema = true
maybe j (the_schema s) = j s

-- the schemas bind by position, and `rest` binds what comes after them
abbrev pub by_places : List Judge → Schemas → MaybeSchema → Bool
by_places [] ss rest = true
by_places (j ∷ js) no_more rest = maybe j rest && by_places js no_more rest
by_places (j ∷ js) (schema s ss) rest = j s && by_places js ss rest

abbrev pub items_agree : List Judge → Places → MaybeSchema → Bool
items_agree js no_items rest = true
items_agree js (each_item s) rest = list_all (λ j. j s) js
items_agree js (by_place ss) rest = by_places js ss rest

abbrev pub contains_agrees : List Judge → MaybeSchema → Bool
contains_agrees js no_schema = true
contains_agrees js (the_schema s) = list_any (λ j. j s) js

abbrev pub all_distinct : Items → Bool
all_distinct end_items = true
all_distinct (item v vs) = not (is_among v vs) && all_distinct vs

abbrev pub list_rules_agree : Items → ListRules → Bool
list_rules_agree xs c = within c.min_items c.max_items (item_count xs) && if_given (λ u. not u || all_distinct xs) c.unique_items

abbrev pub lists_agree : Items → List Judge → Lists → Bool
lists_agree xs js no_lists = true
lists_agree xs js (lists places rest contains rules) = items_agree js places rest && contains_agrees js contains && list_rules_agree xs rules

-- ---- members

-- the schema that a list of named schemas has at a name
abbrev pub property_at : List ℕ → Properties → MaybeSchema
property_at n no_properties = no_schema
property_at n (property k s ps) = if bytes_eq n k then the_schema s else property_at n ps

abbrev pub is_given : MaybeSchema → Bool
is_given no_schema = false
is_given (the_schema s) = true

-- each schema whose pattern the name has
abbrev pub patterns_agree : (List ℕ → Bool) → Judge → Properties → Bool
patterns_agree has j no_properties = true
patterns_agree has j (property k s ps) = (not (has k) || j s) && patterns_agree has j ps

abbrev pub has_any : (List ℕ → Bool) → Properties → Bool
has_any has no_properties = false
has_any has (property k s ps) = has k || has_any has ps

-- `properties` passes over a member that may stand for its absence and that `required` doesn't list
abbrev pub is_passed_over : List (List ℕ) → MemberPart → Bool
is_passed_over required m = m.as_absent && not (list_any (bytes_eq m.name) required)

-- `rest` binds a member that neither `properties` nor a pattern names; `names` binds the name as a text
abbrev pub member_agrees : Relations → (List ℕ → Judge) → Properties → Properties → MaybeSchema → MaybeSchema → List (List ℕ) → MemberPart → Bool
member_agrees r name props patterns rest names required m =
    (is_passed_over required m || maybe m.says (property_at m.name props))
    && patterns_agree (λ q. r.matches q m.name) m.says patterns
    && (is_given (property_at m.name props) || has_any (λ q. r.matches q m.name) patterns || maybe m.says rest)
    && maybe (name m.name) names

abbrev pub member_rules_agree : Members → MemberRules → Bool
member_rules_agree ms c = within c.min_properties c.max_properties (member_count ms) && list_all (λ n. has_name n ms) c.required

abbrev pub named_agree : Relations → Members → Parts → Named → Bool
named_agree r ms parts no_named = true
named_agree r ms parts (named props patterns rest names rules) =
    list_all (member_agrees r parts.name props patterns rest names rules.required) parts.members && member_rules_agree ms rules

-- a keyword of one kind says nothing of another
abbrev pub parts_agree : Relations → Value → Parts → Lists → Named → Bool
parts_agree r (list xs) parts ls ns = lists_agree xs parts.items ls
parts_agree r (value.object ms) parts ls ns = named_agree r ms parts ns
parts_agree r _ parts ls ns = true

-- ---- keywords of the same value

module _ (r : Relations) (v : Value) (parts : Parts) (follows : List ℕ → Bool) where
  abbrev mutual
    -- `follows` is what the reference says; what stands beside it counts
    pub judge : Schema → Bool
    judge (boolean b) = b
    judge (object p ss ls ns) = plain_agrees r p v && if_given follows p.reference && parts_agree r v parts ls ns && judge_same ss

    pub judge_same : Same → Bool
    judge_same no_same = true
    judge_same (same_value all any one none conditional) = judge_all_of all && judge_any_of any && judge_one_of one && judge_not none

    pub judge_all_of : MaybeSchemas → Bool
    judge_all_of no_list = true
    judge_all_of (the_list ss) = judge_all ss

    pub judge_any_of : MaybeSchemas → Bool
    judge_any_of no_list = true
    judge_any_of (the_list ss) = judge_any ss

    pub judge_one_of : MaybeSchemas → Bool
    judge_one_of no_list = true
    judge_one_of (the_list ss) = judge_count ss == 1

    pub judge_not : MaybeSchema → Bool
    judge_not no_schema = true
    judge_not (the_schema s) = not (judge s)

    pub judge_all : Schemas → Bool
    judge_all no_more = true
    judge_all (schema s ss) = judge s && judge_all ss

    pub judge_any : Schemas → Bool
    judge_any no_more = false
    judge_any (schema s ss) = judge s || judge_any ss

    pub judge_count : Schemas → ℕ
    judge_count no_more = 0
    judge_count (schema s ss) = if judge s then suc (judge_count ss) else judge_count ss
