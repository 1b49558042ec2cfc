-- The steps of judging, each in the words of admission.
use Rattle.std.specs.Prelude.{ℕ, zero, suc, ℤ, nat_lt, ◌==◌, ◌&&◌, List, [], ◌∷◌, length, chars, Bool, true, Option, Some, None, if◌then◌else◌}
use Rattle.json_value.specs.Value.{Value, Items, item, no_items, Members, number, text}
use Rattle.schema_defs.specs.Schema.{Numbers, Texts, Schema, boolean, object, Same, MaybeSchema, no_schema, the_schema, MaybeSchemas, Schemas, no_more, schema, Named, no_named, named, Document}
use Rattle.schema_defs.specs.Texts.{Relations}
use Rattle.schema_defs.specs.Integers.{in_range}
use Rattle.schema_defs.specs.Layer.{Judge, MemberPart, maybe, if_given, numbers_agree, number_format_agrees, texts_agree, text_format_agrees, within, plain_agrees, member_agrees, member_rules_agree, judge_same, judge_all_of, judge_any_of, judge_one_of, judge_not, judge_count}
use Rattle.schema_defs.specs.Admits.{counts_as_absent, admits, follows, parts_of, name_admits}
use Rattle.schema_types.specs.View.{schema_view}
use Rattle.schema_types.specs.declared.schema.Schema as tree
use Rattle.schema_admission.specs.declared.wanted.Wanted.{Wanted}
use Rattle.schema_admission.specs.declared.wanted.Wanted.TheVariants.{All, Any, One}

abbrev pub number_agrees : ℤ → Option Numbers → Option (List ℕ) → Bool
number_agrees z numbers format = if_given (numbers_agree z) numbers && if_given (number_format_agrees z) format

abbrev pub text_length : List ℕ → Texts → Bool
text_length s t = within t.min_length t.max_length (length (chars s))

-- the keywords of one kind of value that hold no schema
abbrev pub kind_agrees : Relations → Option Numbers → Option Texts → Option (List ℕ) → Value → Bool
kind_agrees r numbers texts format (number z) = number_agrees z numbers format
kind_agrees r numbers texts format (text s) = if_given (texts_agree r s) texts && if_given (text_format_agrees r s) format
kind_agrees r numbers texts format _ = true

abbrev pub lies_in : ℤ → ℤ → ℤ → Bool
lies_in least greatest z = in_range z (record { least = least; greatest = greatest })

-- what a count says of a list of so many schemas
abbrev pub count_agrees : Wanted → ℕ → ℕ → Bool
count_agrees All n most = n == most
count_agrees Any n most = nat_lt 0 n
count_agrees One n most = n == 1

-- what the keywords of an object schema say that hold no schema
abbrev pub plain_part : Relations → Value → Schema → Bool
plain_part r v (boolean b) = true
plain_part r v (object p ss ls ns) = plain_agrees r p v

module _ (r : Relations) (d : Document) where
  -- what a reference says, with n still allowed at the value
  abbrev pub reference_agrees : ℕ → Value → Option (List ℕ) → Bool
  reference_agrees n v q = if_given (follows r d v (parts_of r d v) n) q

  -- what the schemas of the same value say
  abbrev pub same_agrees : ℕ → Value → Same → Bool
  same_agrees n v ss = judge_same r v (parts_of r d v) (follows r d v (parts_of r d v) n) ss

  -- what `not` says
  abbrev pub negation_agrees : ℕ → Value → MaybeSchema → Bool
  negation_agrees n v s = judge_not r v (parts_of r d v) (follows r d v (parts_of r d v) n) s

  -- what `allOf`, `anyOf` and `oneOf` say
  abbrev pub list_agrees : Wanted → ℕ → Value → MaybeSchemas → Bool
  list_agrees All n v ss = judge_all_of r v (parts_of r d v) (follows r d v (parts_of r d v) n) ss
  list_agrees Any n v ss = judge_any_of r v (parts_of r d v) (follows r d v (parts_of r d v) n) ss
  list_agrees One n v ss = judge_one_of r v (parts_of r d v) (follows r d v (parts_of r d v) n) ss

  -- how many of the schemas admit the value
  abbrev pub admitting_count : ℕ → Value → Schemas → ℕ
  admitting_count n v ss = judge_count r v (parts_of r d v) (follows r d v (parts_of r d v) n) ss

  -- how many of the items the schema admits
  abbrev pub admitted_count : Schema → Items → ℕ
  admitted_count s no_items = 0
  admitted_count s (item v vs) = if admits r d v s then suc (admitted_count s vs) else admitted_count s vs

  -- a member of that name with that value
  abbrev pub member_part : List ℕ → Value → MemberPart
  member_part n v = record { name = n; as_absent = counts_as_absent d.setting v; says = admits r d v }

  -- what the keywords of objects say of one member
  abbrev pub named_member : Named → MemberPart → Bool
  named_member no_named m = true
  named_member (named props patterns rest names rules) m = member_agrees r (name_admits r d) props patterns rest names rules.required m

-- the counts and the required names
abbrev pub rules_part : Members → Named → Bool
rules_part ms no_named = true
rules_part ms (named props patterns rest names rules) = member_rules_agree ms rules

-- a schema that may be missing
abbrev pub maybe_seen : Option tree.Schema → MaybeSchema
maybe_seen None = no_schema
maybe_seen (Some s) = the_schema (schema_view s)

-- the schema at a place: one of the list, and after the list the last
abbrev pub place_schema : Schemas → MaybeSchema → ℕ → MaybeSchema
place_schema no_more rest n = rest
place_schema (schema s ss) rest zero = the_schema s
place_schema (schema s ss) rest (suc n) = place_schema ss rest n

-- the schemas bind by place from a place on, and the last binds what comes after them
abbrev pub places_from : List Judge → Schemas → MaybeSchema → ℕ → Bool
places_from [] ss rest n = true
places_from (j ∷ js) ss rest n = maybe j (place_schema ss rest n) && places_from js ss rest (suc n)
