-- Merging the keywords of members.
use Rattle.std.specs.Prelude.{ℕ, ◌&&◌, ◌||◌, not, min, max, List, [], ◌∷◌, ◌++◌, Bool, true, false, None, if◌then◌else◌}
use Rattle.std.specs.List.{list_any}
use Rattle.std.specs.Ordering.{nat_cmp, match_ordering}
use Rattle.std.specs.Cmp.Lexicographic.{slice_cmp}
use Rattle.schema_defs.specs.Schema.{MemberRules, Plain, Schema, boolean, object, same_value, no_lists, Named, no_named, named, MaybeSchema, no_schema, the_schema, no_list, the_list, no_more, schema, Properties, no_properties, property}
use Rattle.schema_defs.specs.Layer.{property_at, is_given}
use Rattle.enum_defs.specs.Words.{is_name, names_of}
use Rattle.merge_defs.specs.Outcome.{Outcome, answer, fault, Note, less_than, more_than, never_unless, of_clash, of_names, of_absent, either, and_then, noted, note_if, both_ways, mapped, or_else, unsupported, pattern_names}
use Rattle.merge_defs.specs.Alike.{is_absent}
use Rattle.merge_defs.specs.Leaves.{sizes_cross}

-- ---- names, rising, each once

abbrev pub is_below : List ℕ → List ℕ → Bool
is_below n m = match_ordering (slice_cmp nat_cmp n m) true false false

-- before the first that is greater
abbrev pub put_before : List ℕ → List (List ℕ) → List (List ℕ)
put_before n [] = n ∷ []
put_before n (m ∷ ms) = if is_below n m then n ∷ m ∷ ms else m ∷ put_before n ms

abbrev pub put_name : List ℕ → List (List ℕ) → List (List ℕ)
put_name n ms = if is_name n ms then ms else put_before n ms

abbrev pub put_names : List (List ℕ) → List (List ℕ) → List (List ℕ)
put_names [] ms = ms
put_names (n ∷ ns) ms = put_name n (put_names ns ms)

-- of two lists of names all, rising, each once
abbrev pub all_names : List (List ℕ) → List (List ℕ) → List (List ℕ)
all_names ns ms = put_names ns (put_names ms [])

-- ---- one property

abbrev pub no_plain : Plain
no_plain = record { title = None; description = None; default = None; const_value = None; types = None; format = None; enum_values = None; numbers = None; texts = None; reference = None; walk = None }

-- allOf of both
abbrev pub all_of_two : Schema → Schema → Schema
all_of_two s t = object no_plain (same_value (the_list (schema s (schema t no_more))) no_list no_list no_schema false) no_lists no_named

-- a property of one side, beside the other's `additionalProperties`
abbrev pub beside : Schema → MaybeSchema → Schema
beside s no_schema = s
beside s (the_schema (boolean true)) = s
beside s (the_schema (boolean false)) = boolean false
beside s (the_schema (object p ss ls ns)) = all_of_two (object p ss ls ns) s

abbrev pub is_false : Schema → Bool
is_false (boolean b) = not b
is_false _ = false

abbrev pub no_rest : MaybeSchema → Bool
no_rest no_schema = false
no_rest (the_schema s) = is_false s

-- a name: left out, with a schema, or such that nothing is admitted; `unsaid` is noted where it is left out
abbrev pub put_property : Bool → Bool → Bool → List Note → List ℕ → Schema → Outcome Properties → Outcome Properties
put_property object_type needed closed unsaid n s after =
    if is_false s && needed then and_then after (λ ps. never_unless object_type of_clash)
    else if is_false s && closed then noted unsaid after
    else mapped (property n s) after

-- ---- where null may stand for an absent member

-- a side that closes, and does not name it
abbrev pub shuts_out : List ℕ → Properties → MaybeSchema → Bool
shuts_out n ps x = not (is_given (property_at n ps)) && no_rest x

-- what is noted of a name that is left out
abbrev pub unsaid_at : Bool → Properties → MaybeSchema → Properties → MaybeSchema → List ℕ → List Note
unsaid_at nulls ps x qs y n = note_if (nulls && not (shuts_out n ps x || shuts_out n qs y)) (less_than of_absent ∷ [])

-- a name that one side requires, and that the other has as a property and does not require
abbrev pub needs_more : List (List ℕ) → Properties → List (List ℕ) → Bool
needs_more needed qs others = list_any (λ n. is_given (property_at n qs) && not (is_name n others)) needed

abbrev pub is_object_schema : MaybeSchema → Bool
is_object_schema (the_schema (object p ss ls ns)) = true
is_object_schema _ = false

-- a property of one side alone that neither requires, where the rest of the other is an object schema
abbrev pub forgets_rest : List (List ℕ) → Properties → Properties → MaybeSchema → Bool
forgets_rest needed ps qs y = is_object_schema y && list_any (λ n. not (is_given (property_at n qs)) && not (is_name n needed)) (names_of ps)

abbrev pub absent_notes : Properties → MaybeSchema → MemberRules → Properties → MaybeSchema → MemberRules → List Note
absent_notes ps x c qs y d =
    note_if (needs_more c.required qs d.required || needs_more d.required ps c.required) (less_than of_absent ∷ [])
    ++ note_if (forgets_rest (all_names c.required d.required) ps qs y || forgets_rest (all_names c.required d.required) qs ps x) (more_than of_absent ∷ [])

module _ (join : Schema → Schema → Outcome Schema) where
  -- never as false
  abbrev pub or_false : Schema → Schema → Outcome Schema
  or_false s t = or_else (boolean false) (join s t)

  abbrev pub two_rests : MaybeSchema → MaybeSchema → Outcome MaybeSchema
  two_rests no_schema y = answer [] y
  two_rests (the_schema s) no_schema = answer [] (the_schema s)
  two_rests (the_schema s) (the_schema t) = mapped the_schema (or_false s t)

  -- what binds a name of either side: the properties there, and what binds the names without one
  abbrev pub schema_of_both : MaybeSchema → MaybeSchema → MaybeSchema → MaybeSchema → Outcome Schema
  schema_of_both no_schema x no_schema y = answer [] (boolean true)
  schema_of_both (the_schema s) x no_schema y = answer [] (beside s y)
  schema_of_both no_schema x (the_schema t) y = answer [] (beside t x)
  schema_of_both (the_schema s) x (the_schema t) y = or_false s t

  module _ (ps : Properties) (x : MaybeSchema) (qs : Properties) (y : MaybeSchema) (nulls object_type closed : Bool) (needed : List (List ℕ)) where
    -- each name, with what both say of it
    abbrev pub properties_of : List (List ℕ) → Outcome Properties
    properties_of [] = answer [] no_properties
    properties_of (n ∷ ns) =
        and_then (schema_of_both (property_at n ps) x (property_at n qs) y) (λ s. put_property object_type (is_name n needed) closed (unsaid_at nulls ps x qs y n) n s (properties_of ns))

abbrev pub joined_members : MemberRules → MemberRules → MemberRules
joined_members x y = record { max_properties = either min x.max_properties y.max_properties; min_properties = either max x.min_properties y.min_properties; required = all_names x.required y.required }

abbrev pub two_member_rules : Bool → MemberRules → MemberRules → Outcome MemberRules
two_member_rules object_type x y =
    if sizes_cross (joined_members x y).min_properties (joined_members x y).max_properties then never_unless object_type of_clash else answer [] (joined_members x y)

-- ---- names by pattern

abbrev pub has_patterns : Properties → MaybeSchema → Bool
has_patterns no_properties no_schema = false
has_patterns _ _ = true

-- patterns on one side, and on the other a property that it does not name
abbrev pub mixes_names : Properties → Properties → MaybeSchema → Properties → Bool
mixes_names ps patterns names qs = has_patterns patterns names && list_any (λ n. not (is_given (property_at n ps))) (names_of qs)

abbrev pub unless_mixed : {A : Type 0} → Bool → Outcome A → Outcome A
unless_mixed b o = if b then fault (unsupported pattern_names) else o

-- whether two parts of members mix so
abbrev pub names_mix : Named → Named → Bool
names_mix (named ps pp x xn c) (named qs qq y yn d) = mixes_names ps pp xn qs || mixes_names qs qq yn ps
names_mix _ _ = false

abbrev pub no_member_rules : MemberRules → Bool
no_member_rules c = is_absent c.max_properties && (is_absent c.min_properties && is_none_named c.required)
  where
    is_none_named : List (List ℕ) → Bool
    is_none_named [] = true
    is_none_named ns = false

-- a part whose last keyword is gone is absent
abbrev pub kept_named : Named → Named
kept_named (named no_properties no_properties no_schema no_schema c) = if no_member_rules c then no_named else named no_properties no_properties no_schema no_schema c
kept_named os = os

abbrev pub kept_if : Bool → Named → Named
kept_if dropped os = if dropped then kept_named os else os

-- `nulls` says that null may stand for an absent member; what binds the rest, then the properties, all with their notes, and the counts last; the two keywords of names by pattern are dropped
abbrev pub two_named : (Schema → Schema → Outcome Schema) → Bool → Bool → Named → Named → Outcome Named
two_named join nulls object_type no_named os = answer [] os
two_named join nulls object_type (named ps pp x xn c) no_named = answer [] (named ps pp x xn c)
two_named join nulls object_type (named ps pp x xn c) (named qs qq y yn d) =
    noted (note_if nulls (absent_notes ps x c qs y d))
    (noted (note_if (has_patterns pp xn || has_patterns qq yn) (both_ways of_names))
    (mapped (kept_if (has_patterns pp xn || has_patterns qq yn))
    (and_then (two_rests join x y) (λ rest.
    and_then (properties_of join ps x qs y nulls object_type (no_rest rest) (joined_members c d).required (all_names (names_of ps) (names_of qs))) (λ props.
    mapped (λ rules. named props no_properties rest no_schema rules) (two_member_rules object_type c d))))))
