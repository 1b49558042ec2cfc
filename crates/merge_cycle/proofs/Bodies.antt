-- Two objects whose leaves are merged, step by step.
use Rattle.std.proofs.Common.{◌≡◌, ℕ, List, Some, sym}
use Rattle.std.specs.Prelude.{Option, option_map, Result, Ok, Err}
use Rattle.schema_defs.specs.Schema.{Schema, Document, Same, Lists, Named}
use Rattle.schema_types.specs.declared.schema.Schema as tree
use Rattle.schema_types.specs.declared.schema.ArrayValidation.{ArrayValidation}
use Rattle.schema_types.specs.declared.schema.ObjectValidation.{ObjectValidation}
use Rattle.schema_types.specs.View.{schema_view, subschemas_view, same_of}
use Rattle.merge_defs.specs.Outcome.{Note, Outcome, and_then, mapped}
use Rattle.merge_defs.specs.Arrays.{two_lists_parts}
use Rattle.merge_defs.specs.Objects.{two_named}
use Rattle.merge_defs.specs.Members.{with_same}
use Rattle.merge_defs.specs.Merge.{tidied}
use Rattle.merge_walks.specs.Made.{settled}
use Rattle.merge_steps.specs.declared.stop.Stop.{Stop}
use Rattle.merge_steps.specs.Ends.{Ends, Leads}
use Rattle.merge_steps.proofs.Leading.{led, leads_by, leads_on, mapped_leads}
use Rattle.merge_steps.proofs.Ending.{ends_as, maps_off}
use Rattle.merge_lists.specs.Plans.{maybe_array}
use Rattle.merge_members.specs.Plans.{maybe_members}
use Rattle.merge_sides.specs.Leaves.{leaves_view}
use Rattle.merge_sides.specs.declared.met.Bodies.{Bodies}
use Rattle.merge_sides.specs.Met.{bodies_outcome, body_outcome}
use Rattle.merge_cycle.specs.declared.how.How.TheVariants.{Join, Less}
use Rattle.merge_cycle.specs.Within.{join_within, less_within, asked}
use Rattle.merge_cycle.proofs.Levels.{asked_join, asked_less}
use Rattle.merge_cycle.proofs.Steps.{ends_leads, on_mapped, off_mapped}

module _ (d : Document) (most n : ℕ) (b : Bodies) where
  abbrev join : Schema → Schema → Outcome Schema
  join = asked d most n (Some b.walk) Join

  abbrev less : Schema → Schema → Outcome Schema
  less = asked d most n (Some b.walk) Less

  abbrev first : Same
  first = same_of (option_map subschemas_view b.subschemas)

  abbrev second : Same
  second = same_of (option_map subschemas_view b.other_subschemas)

  abbrev total : Outcome Schema
  total = bodies_outcome d (join_within d most n) (less_within d most n) b

  -- ---- what is left at each step

  abbrev after_first : Schema → Outcome Schema
  after_first x = mapped tidied (with_same d join less second x)

  abbrev after_body : Schema → Outcome Schema
  after_body x = and_then (with_same d join less first x) after_first

  abbrev after_named : Lists → Named → Outcome Schema
  after_named ls ns = and_then (body_outcome (leaves_view b.leaves) ls ns) after_body

  abbrev after_lists : Lists → Outcome Schema
  after_lists ls = and_then (two_named join b.has_nulls b.is_object (maybe_members b.members) (maybe_members b.other_members)) (after_named ls)

  -- for any merge and any subtraction on the walk
  abbrev by : (Schema → Schema → Outcome Schema) → (Schema → Schema → Outcome Schema) → Outcome Schema
  by f g =
      mapped (settled b.walk)
      (and_then (two_lists_parts f b.is_array (maybe_array b.array) (maybe_array b.other_array)) (λ lists.
      and_then (two_named f b.has_nulls b.is_object (maybe_members b.members) (maybe_members b.other_members)) (λ named.
      and_then (body_outcome (leaves_view b.leaves) lists named) (λ body.
      and_then (with_same d f g first body) (λ body'.
      mapped tidied (with_same d f g second body'))))))

  begins : total ≡ by join less
  begins = (λ i. by (sym (asked_join d most n b.walk) i) (sym (asked_less d most n b.walk) i))

  abbrev ListsEnd : List Note → List Note → Result (Option ArrayValidation) Stop → Type 0
  ListsEnd n0 n1 r = Ends maybe_array n0 n1 (two_lists_parts join b.is_array (maybe_array b.array) (maybe_array b.other_array)) r

  abbrev NamedEnd : List Note → List Note → Result (Option ObjectValidation) Stop → Type 0
  NamedEnd n0 n1 r = Ends maybe_members n0 n1 (two_named join b.has_nulls b.is_object (maybe_members b.members) (maybe_members b.other_members)) r

  pub off_lists : (n0 n1 : List Note) (e : Stop) → ListsEnd n0 n1 (Err e) → Ends schema_view n0 n1 total (Err e)
  off_lists n0 n1 e s = led (leads_by begins) (off_mapped (settled b.walk) after_lists e s)

  module _ (n0 n1 : List Note) (array : Option ArrayValidation) (s : ListsEnd n0 n1 (Ok array)) where
    to_named : Leads n0 n1 total (mapped (settled b.walk) (after_lists (maybe_array array)))
    to_named = leads_on (leads_by begins) (on_mapped (settled b.walk) after_lists array s)

    pub off_named : (n2 : List Note) (e : Stop) → NamedEnd n1 n2 (Err e) → Ends schema_view n0 n2 total (Err e)
    off_named n2 e t = led to_named (off_mapped (settled b.walk) (after_named (maybe_array array)) e t)

    module _ (n2 : List Note) (members : Option ObjectValidation) (t : NamedEnd n1 n2 (Ok members)) where
      abbrev body : Outcome Schema
      body = body_outcome (leaves_view b.leaves) (maybe_array array) (maybe_members members)

      to_body : Leads n0 n2 total (mapped (settled b.walk) (after_named (maybe_array array) (maybe_members members)))
      to_body = leads_on to_named (on_mapped (settled b.walk) (after_named (maybe_array array)) members t)

      pub off_body : (n3 : List Note) (e : Stop) → Ends schema_view n2 n3 body (Err e) → Ends schema_view n0 n3 total (Err e)
      off_body n3 e u = led to_body (off_mapped (settled b.walk) after_body e u)

      module _ (n3 : List Note) (x : tree.Schema) (u : Ends schema_view n2 n3 body (Ok x)) where
        to_first : Leads n0 n3 total (mapped (settled b.walk) (after_body (schema_view x)))
        to_first = leads_on to_body (on_mapped (settled b.walk) after_body x u)

        pub off_first : (n4 : List Note) (e : Stop) → Ends schema_view n3 n4 (with_same d join less first (schema_view x)) (Err e) → Ends schema_view n0 n4 total (Err e)
        off_first n4 e v = led to_first (off_mapped (settled b.walk) after_first e v)

        module _ (n4 : List Note) (y : tree.Schema) (v : Ends schema_view n3 n4 (with_same d join less first (schema_view x)) (Ok y)) where
          to_second : Leads n0 n4 total (mapped (settled b.walk) (after_first (schema_view y)))
          to_second = leads_on to_first (on_mapped (settled b.walk) after_first y v)

          pub off_second : (n5 : List Note) (e : Stop) → Ends schema_view n4 n5 (with_same d join less second (schema_view y)) (Err e) → Ends schema_view n0 n5 total (Err e)
          off_second n5 e w =
              let inner : Ends schema_view n4 n5 (after_first (schema_view y)) (Err e) = maps_off tidied e w in
              led to_second (maps_off (settled b.walk) e inner)

          pub to_end : (n5 : List Note) (z s' : tree.Schema) → Ends schema_view n4 n5 (with_same d join less second (schema_view y)) (Ok z) → schema_view s' ≡ settled b.walk (tidied (schema_view z)) → Ends schema_view n0 n5 total (Ok s')
          to_end n5 z s' w e = led (leads_on to_second (mapped_leads (settled b.walk) (mapped_leads tidied (ends_leads z w)))) (ends_as s' e)
