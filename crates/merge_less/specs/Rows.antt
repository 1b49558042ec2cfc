-- The rows of subtraction, by what is asked of both sides beforehand.
use Rattle.std.specs.Prelude.{◌||◌, ◌&&◌, not, nat_le, [], Bool, true, false, if◌then◌else◌}
use Rattle.json_value.specs.Value.{null}
use Rattle.schema_defs.specs.Schema.{Plain, Schema, boolean, object, Same, Lists, Named, Document}
use Rattle.schema_defs.specs.Admits.{counts_as_absent}
use Rattle.enum_defs.specs.Words.{without_lists, without_named, without_same}
use Rattle.merge_defs.specs.Alike.{is_absent}
use Rattle.merge_defs.specs.Outcome.{Outcome, answer, never, fault, and_then, noted, note_if, both_ways, mapped, of_subtract, unsupported, conditional, subtracting}
use Rattle.merge_defs.specs.Less.{less_values, less_named, less_same, values_alone, one_name_alone, kinds_apart, subschema_alone, subschema_count, is_conditional, no_leaves}
use Rattle.schema_sameness.specs.Parts.{plain_in, same_in, lists_in, named_in}
use Rattle.merge_less.specs.Taking.{with_named}

-- ---- where nothing is lost

-- neither listed values nor other leaves, subschemas and lists
abbrev pub members_alone : Plain → Same → Lists → Bool
members_alone q ss ls = is_absent q.enum_values && (no_leaves q && (without_same ss && without_lists ls))

-- neither subschemas, lists nor members
abbrev pub plain_alone : Same → Lists → Named → Bool
plain_alone ss ls ns = without_same ss && (without_lists ls && without_named ns)

-- s without n, whose parts are those of a and b
abbrev pub exact_by : Document → Schema → Schema → Schema → Schema → Bool
exact_by d s n a b =
    values_alone (plain_in a) (plain_in b) (same_in b) (lists_in b) (named_in b)
    || ((not (counts_as_absent d.setting null) && one_name_alone (plain_in a) (named_in a) (plain_in b) (same_in b) (lists_in b) (named_in b))
    || (kinds_apart d s n (plain_in b) (same_in b) (named_in b) || subschema_alone (plain_in b) (same_in b) (lists_in b) (named_in b)))

-- of two objects
abbrev pub exact_in : Document → Schema → Schema → Bool
exact_in d (object p ss ls ns) (object q tt' ms os) = exact_by d (object p ss ls ns) (object q tt' ms os) (object p ss ls ns) (object q tt' ms os)
exact_in d _ _ = false

-- ---- two objects

-- what is unsupported comes first
abbrev pub refusing : {A : Type 0} → Same → Same → Outcome A → Outcome A
refusing ss tt' o =
    if is_conditional ss || is_conditional tt' then fault (unsupported conditional)
    else if nat_le 2 (subschema_count tt') then fault (unsupported subtracting)
    else o

-- an object with these keywords that hold no schema
abbrev pub with_plain : Schema → Plain → Schema
with_plain s p = object p (same_in s) (lists_in s) (named_in s)

-- with the listed values that are left
abbrev pub values_left : Schema → Schema → Outcome Schema
values_left s t = mapped (with_plain s) (less_values (plain_in s) (plain_in s).enum_values (plain_in t).enum_values)

module _ (join less : Schema → Schema → Outcome Schema) where
  -- what comes behind the listed values
  abbrev pub behind_values : Named → Same → Schema → Outcome Schema
  behind_values os tt' s = and_then (less_named less (named_in s) os) (λ ns. less_same join less tt' (with_named s ns))

  abbrev pub objects_outcome : Bool → Schema → Schema → Outcome Schema
  objects_outcome exact s t =
      refusing (same_in s) (same_in t) (noted (note_if (not exact) (both_ways of_subtract)) (and_then (values_left s t) (behind_values (named_in t) (same_in t))))

  -- two sides, where `exact` says whether nothing is lost of objects
  abbrev pub rows : Bool → Schema → Schema → Outcome Schema
  rows exact s (boolean true) = never []
  rows exact s (boolean false) = answer [] s
  rows exact (boolean false) (object q tt' ms os) = never []
  rows exact (boolean true) (object q tt' ms os) = fault (unsupported subtracting)
  rows exact (object p ss ls ns) (object q tt' ms os) = objects_outcome exact (object p ss ls ns) (object q tt' ms os)
