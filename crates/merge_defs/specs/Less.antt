-- What is left of a schema where another is taken away.
use Rattle.std.specs.Prelude.{ℕ, ◌+◌, ◌&&◌, not, filter, List, [], ◌∷◌, Bool, true, false, Option, Some, None, is_some, if◌then◌else◌}
use Rattle.json_value.specs.Value.{Value}
use Rattle.schema_defs.specs.Schema.{Types, Plain, MemberRules, Schema, boolean, Same, no_same, same_value, Lists, Named, named, MaybeSchema, no_schema, the_schema, MaybeSchemas, no_list, the_list, Schemas, no_more, schema, Properties, no_properties, property, Document}
use Rattle.schema_defs.specs.Layer.{is_listed, property_at}
use Rattle.schema_defs.specs.Counts.{is_list, is_schema, one_if}
use Rattle.enum_defs.specs.Words.{has_type, is_name, names_of, without_lists, without_named, without_same}
use Rattle.merge_defs.specs.Outcome.{Outcome, answer, never, fault, and_then, noted, mapped, or_else, turned}
use Rattle.merge_defs.specs.Alike.{is_absent}
use Rattle.enum_defs.specs.Kinds.{kinds}
use Rattle.enum_defs.specs.Exclusive.{is_disjoint}
use Rattle.schema_defs.specs.declared.InstanceType.TheVariants.{Object}
use Rattle.merge_defs.specs.Objects.{all_names, is_false}

-- ---- listed values

abbrev pub left_values : Plain → List Value → Outcome Plain
left_values p [] = never []
left_values p vs = answer [] (record p { enum_values = Some vs })

abbrev pub less_values : Plain → Option (List Value) → Option (List Value) → Outcome Plain
less_values p (Some vs) (Some ws) = left_values p (filter (λ v. not (is_listed v ws)) vs)
less_values p _ _ = answer [] p

-- ---- properties

module _ (less : Schema → Schema → Outcome Schema) where
  -- at a name: both, s alone, n alone
  abbrev pub less_property : MaybeSchema → MaybeSchema → Outcome Schema
  less_property (the_schema s) (the_schema t) = or_else (boolean false) (less s t)
  less_property (the_schema s) no_schema = answer [] s
  less_property no_schema t = answer [] (boolean false)

  -- a required name without a property is taken away whole
  abbrev pub less_name : Bool → MaybeSchema → MaybeSchema → Outcome Schema
  less_name true s no_schema = answer [] (boolean false)
  less_name _ s t = less_property s t

  abbrev pub less_properties : Properties → Properties → List (List ℕ) → List (List ℕ) → Outcome Properties
  less_properties ps qs needed [] = answer [] no_properties
  less_properties ps qs needed (n ∷ ns) =
      and_then (less_name (is_name n needed) (property_at n ps) (property_at n qs)) (λ s. mapped (property n s) (less_properties ps qs needed ns))

  -- a required property that is false makes never
  abbrev pub unless_needed : List (List ℕ) → Properties → Outcome Properties
  unless_needed needed no_properties = answer [] no_properties
  unless_needed needed (property n s ps) = if is_false s && is_name n needed then never [] else mapped (property n s) (unless_needed needed ps)

  abbrev pub less_named : Named → Named → Outcome Named
  less_named (named ps pp x xn c) (named qs qq y yn d) =
      mapped (λ props. named props pp x xn c)
      (and_then (less_properties ps qs d.required (all_names (names_of ps) (all_names (names_of qs) d.required))) (unless_needed c.required))
  less_named os _ = answer [] os

-- ---- subschemas

abbrev pub turned_outcome : {A : Type 0} → Outcome A → Outcome A
turned_outcome (fault f) = fault f
turned_outcome (never ns) = never (turned ns)
turned_outcome (answer ns a) = answer (turned ns) a

module _ (join less : Schema → Schema → Outcome Schema) where
  abbrev pub merge_from : Schema → Schemas → Outcome Schema
  merge_from s no_more = answer [] s
  merge_from s (schema t ts) = and_then (join s t) (λ m. merge_from m ts)

  abbrev pub merge_schemas : Schemas → Outcome Schema
  merge_schemas no_more = answer [] (boolean true)
  merge_schemas (schema s ss) = merge_from s ss

  abbrev pub less_each : Schemas → Schema → Outcome Schema
  less_each no_more s = answer [] s
  less_each (schema t ts) s = and_then (less s t) (less_each ts)

  -- where the merge is never, nothing is taken away
  abbrev pub less_merged : Schema → Outcome Schema → Outcome Schema
  less_merged s (fault f) = fault f
  less_merged s (never ns) = answer ns s
  less_merged s (answer ns m) = noted ns (less s m)

  abbrev pub less_any : MaybeSchemas → Schema → Outcome Schema
  less_any no_list s = answer [] s
  less_any (the_list ss) s = less_each ss s

  abbrev pub less_not : MaybeSchema → Schema → Outcome Schema
  less_not no_schema s = answer [] s
  less_not (the_schema t) s = join s t

  abbrev pub less_all : MaybeSchemas → Schema → Outcome Schema
  less_all no_list s = answer [] s
  less_all (the_list ss) s = less_merged s (turned_outcome (merge_schemas ss))

  -- at most one of them stands
  abbrev pub less_same : Same → Schema → Outcome Schema
  less_same no_same s = answer [] s
  less_same (same_value all any one none c) s = and_then (less_any any s) (λ t. and_then (less_not none t) (less_all all))

-- ---- marks

-- how many of allOf, anyOf, oneOf and not stand
abbrev pub subschema_count : Same → ℕ
subschema_count no_same = 0
subschema_count (same_value all any one none c) = one_if (is_list all) + one_if (is_list any) + one_if (is_list one) + one_if (is_schema none)

abbrev pub is_conditional : Same → Bool
is_conditional no_same = false
is_conditional (same_value all any one none c) = c

-- neither const, format, numbers, texts nor a reference
abbrev pub no_leaves : Plain → Bool
no_leaves q = is_absent q.const_value && (is_absent q.format && (is_absent q.numbers && (is_absent q.texts && is_absent q.reference)))

-- both list values, and nothing else is taken away
abbrev pub values_alone : Plain → Plain → Same → Lists → Named → Bool
values_alone p q tt' ms os =
    (is_some p.enum_values && is_some q.enum_values) && (is_absent q.types && (no_leaves q && (without_same tt' && (without_lists ms && without_named os))))

abbrev pub is_one_name : List (List ℕ) → Bool
is_one_name (n ∷ []) = true
is_one_name _ = false

abbrev pub no_sizes : MemberRules → Bool
no_sizes c = is_absent c.max_properties && is_absent c.min_properties

-- one required name and no other keyword of members
abbrev pub one_required : Named → Bool
one_required (named no_properties no_properties no_schema no_schema c) = no_sizes c && is_one_name c.required
one_required _ = false

abbrev pub object_or_none : Option Types → Bool
object_or_none None = true
object_or_none t = has_type Object t

-- one required name, at most beside type object, from what has type object and keywords of members
abbrev pub one_name_alone : Plain → Named → Plain → Same → Lists → Named → Bool
one_name_alone p ns q tt' ms os =
    (has_type Object p.types && not (without_named ns)) && (one_required os && (object_or_none q.types && (is_absent q.enum_values && (no_leaves q && (without_same tt' && without_lists ms)))))

abbrev pub kinds_apart : Document → Schema → Schema → Plain → Same → Named → Bool
kinds_apart d s n q tt' os = is_disjoint (kinds d s) (kinds d n) && (is_absent q.enum_values && (without_named os && without_same tt'))

-- one of anyOf, not and allOf
abbrev pub is_one_subschema : Same → Bool
is_one_subschema (same_value (the_list ss) no_list no_list no_schema c) = true
is_one_subschema (same_value no_list (the_list ss) no_list no_schema c) = true
is_one_subschema (same_value no_list no_list no_list (the_schema s) c) = true
is_one_subschema _ = false

abbrev pub subschema_alone : Plain → Same → Lists → Named → Bool
subschema_alone q tt' ms os = is_one_subschema tt' && (is_absent q.types && (is_absent q.enum_values && (no_leaves q && (without_lists ms && without_named os))))
