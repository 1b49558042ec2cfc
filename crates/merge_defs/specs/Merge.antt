-- The merge of two schemas, and what is left of one where another is taken away, with so many steps to children and along references.
use Rattle.std.specs.Prelude.{ℕ, zero, suc, ◌&&◌, ◌||◌, not, filter, List, [], Bool, true, false, Option, Some, None, nat_le, bytes_eq, if◌then◌else◌}
use Rattle.json_value.specs.Value.{Value, null, same}
use Rattle.schema_defs.specs.declared.InstanceType.TheVariants.{Object, Array, Text, Integer}
use Rattle.schema_defs.specs.Schema.{Plain, Schema, boolean, object, Same, no_same, Lists, no_lists, Named, no_named, Schemas, Document}
use Rattle.schema_defs.specs.Layer.{if_given, types_agree}
use Rattle.schema_defs.specs.Admits.{target, counts_as_absent}
use Rattle.enum_defs.specs.Words.{without_lists, without_named, without_same}
use Rattle.merge_defs.specs.Outcome.{Outcome, answer, never, fault, depth, unsupported, subtracting, conditional, and_then, noted, note_if, both_ways, mapped, where_both, of_subtract}
use Rattle.merge_defs.specs.Alike.{roughly, nothing_beside}
use Rattle.merge_defs.specs.Leaves.{two_types, two_formats, two_numbers, two_texts, two_lists, values_of, is_only}
use Rattle.merge_defs.specs.Arrays.{two_lists_parts}
use Rattle.merge_defs.specs.Objects.{two_named, names_mix, unless_mixed, no_plain}
use Rattle.merge_defs.specs.Members.{with_same, refused, loses, lost_sizes}
use Rattle.merge_defs.specs.Less.{less_values, less_named, less_same, merge_schemas, values_alone, one_name_alone, kinds_apart, subschema_alone, subschema_count, is_conditional}

-- ---- references

abbrev pub reference_to : List ℕ → Schema
reference_to q = object (record no_plain { reference = Some q }) no_same no_lists no_named

-- what stands beside a reference is dropped
abbrev pub drops_siblings : Plain → Same → Lists → Named → Bool
drops_siblings p ss ls ns = not (nothing_beside p && (without_same ss && (without_lists ls && without_named ns)))

-- a reference stands for a merge that is roughly its target
abbrev pub stands_for_target : List ℕ → Schema → Schema → Outcome Schema
stands_for_target q t m = if roughly m t then answer (lost_sizes (loses m t)) (reference_to q) else answer [] m

abbrev pub target_merged : List ℕ → Option Schema → (Schema → Outcome Schema) → Outcome Schema
target_merged q None with_it = never []
target_merged q (Some t) with_it = and_then (with_it t) (stands_for_target q t)

-- ---- listed values that the rest refuses

abbrev pub refuses_by_type : Plain → Value → Bool
refuses_by_type p v = not (if_given (types_agree v) p.types && if_given (same v) p.const_value)

abbrev pub tidied_values : Plain → Option (List Value) → Option (List Value)
tidied_values p None = None
tidied_values p (Some vs) = Some (filter (λ v. not (refuses_by_type p v)) vs)

abbrev pub tidied : Schema → Schema
tidied (boolean b) = boolean b
tidied (object p ss ls ns) = object (record p { enum_values = tidied_values p p.enum_values }) ss ls ns

module _ (d : Document) (join less : Schema → Schema → Outcome Schema) where
  -- ---- a body, of the keywords that are no subschemas

  abbrev pub body : Plain → Lists → Named → Plain → Lists → Named → Outcome Schema
  body p ls ns q ms os =
      and_then (where_both two_types p.types q.types) (λ types.
      and_then (where_both two_formats p.format q.format) (λ format.
      and_then (where_both (two_numbers (is_only Integer types)) p.numbers q.numbers) (λ numbers.
      and_then (where_both (two_texts (is_only Text types)) p.texts q.texts) (λ texts.
      and_then (two_lists_parts join (is_only Array types) ls ms) (λ lists.
      and_then (two_named join (counts_as_absent d.setting null) (is_only Object types) ns os) (λ named.
      mapped (λ values. object (record no_plain { types = types; format = format; numbers = numbers; texts = texts; enum_values = values }) no_same lists named)
      (where_both two_lists (values_of p) (values_of q))))))))

  -- what is unsupported is told first, whatever else clashes
  abbrev pub two_objects : Plain → Same → Lists → Named → Plain → Same → Lists → Named → Outcome Schema
  two_objects p ss ls ns q tt' ms os =
      refused ss (refused tt' (unless_mixed (names_mix ns os)
      (and_then (body p ls ns q ms os) (λ b.
      and_then (with_same d join less ss b) (λ b'.
      mapped tidied (with_same d join less tt' b'))))))

  -- a body with subschemas
  abbrev pub with_subschemas_layer : Schema → Same → Outcome Schema
  with_subschemas_layer b ss = refused ss (mapped tidied (with_same d join less ss b))

  abbrev pub by_references : Plain → Same → Lists → Named → Plain → Same → Lists → Named → Option (List ℕ) → Option (List ℕ) → Outcome Schema
  by_references p ss ls ns q tt' ms os None None = two_objects p ss ls ns q tt' ms os
  by_references p ss ls ns q tt' ms os None (Some g) =
      noted (lost_sizes (drops_siblings q tt' ms os)) (target_merged g (target d g) (λ t. join t (object p ss ls ns)))
  by_references p ss ls ns q tt' ms os (Some f) None =
      noted (lost_sizes (drops_siblings p ss ls ns)) (target_merged f (target d f) (λ t. join t (object q tt' ms os)))
  by_references p ss ls ns q tt' ms os (Some f) (Some g) =
      if bytes_eq f g
      then answer (lost_sizes (drops_siblings p ss ls ns || drops_siblings q tt' ms os)) (reference_to f)
      else noted (lost_sizes (drops_siblings p ss ls ns)) (target_merged f (target d f) (λ t. join t (object q tt' ms os)))

  abbrev pub join_layer : Schema → Schema → Outcome Schema
  join_layer (boolean false) b = never []
  join_layer (boolean true) b = answer [] b
  join_layer (object p ss ls ns) (boolean false) = never []
  join_layer (object p ss ls ns) (boolean true) = answer [] (object p ss ls ns)
  join_layer (object p ss ls ns) (object q tt' ms os) = by_references p ss ls ns q tt' ms os p.reference q.reference

  -- ---- taking away

  -- where nothing is lost; a required name is lost where null may stand for an absent member
  abbrev pub is_exact : Plain → Named → Schema → Plain → Same → Lists → Named → Schema → Bool
  is_exact p ns s q tt' ms os n =
      values_alone p q tt' ms os || ((not (counts_as_absent d.setting null) && one_name_alone p ns q tt' ms os) || (kinds_apart d s n q tt' os || subschema_alone q tt' ms os))

  abbrev pub less_object : Plain → Same → Lists → Named → Plain → Same → Lists → Named → Outcome Schema
  less_object p ss ls ns q tt' ms os =
      and_then (less_values p p.enum_values q.enum_values) (λ p'.
      and_then (less_named less ns os) (λ ns'.
      less_same join less tt' (object p' ss ls ns')))

  abbrev pub less_layer : Schema → Schema → Outcome Schema
  less_layer s (boolean true) = never []
  less_layer s (boolean false) = answer [] s
  less_layer (boolean false) (object q tt' ms os) = never []
  less_layer (boolean true) (object q tt' ms os) = fault (unsupported subtracting)
  less_layer (object p ss ls ns) (object q tt' ms os) =
      if is_conditional ss || is_conditional tt' then fault (unsupported conditional)
      else if nat_le 2 (subschema_count tt') then fault (unsupported subtracting)
      else noted (note_if (not (is_exact p ns (object p ss ls ns) q tt' ms os (object q tt' ms os))) (both_ways of_subtract))
      (less_object p ss ls ns q tt' ms os)

-- ---- with so many steps left

pub record Merger : Type 0 where
  pub join : Schema → Schema → Outcome Schema
  pub less : Schema → Schema → Outcome Schema

abbrev pub spent : Schema → Schema → Outcome Schema
spent a b = fault (depth [])

-- what merges the parts, where n steps are left at the whole
abbrev pub below : Document → ℕ → Merger
below d zero = record { join = spent; less = spent }
below d (suc n) = record { join = λ a b. join_layer d (below d n).join (below d n).less a b; less = λ a b. less_layer d (below d n).join (below d n).less a b }

abbrev pub join : Document → ℕ → Schema → Schema → Outcome Schema
join d n = join_layer d (below d n).join (below d n).less

abbrev pub less : Document → ℕ → Schema → Schema → Outcome Schema
less d n = less_layer d (below d n).join (below d n).less

-- several, from the left
abbrev pub merge_all : Document → ℕ → Schemas → Outcome Schema
merge_all d n = merge_schemas (join d n) (less d n)

-- a body with subschemas
abbrev pub with_subschemas : Document → ℕ → Schema → Same → Outcome Schema
with_subschemas d n = with_subschemas_layer d (below d n).join (below d n).less
