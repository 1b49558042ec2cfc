-- The keywords of lists of both sides: contains first, then the sizes, then the items.
use Rattle.std.proofs.Common.{◌≡◌, List, Bool, sym, subst}
use Rattle.std.specs.Prelude.{Result, Ok, Err, IsErrAnd, option_map}
use Rattle.schema_defs.specs.Schema.{ListRules, Schema, Lists, MaybeSchema, Places}
use Rattle.schema_types.specs.declared.schema.ArrayValidation.{ArrayValidation, out-ArrayValidation}
use Rattle.schema_types.specs.View.{array_view, items_view, maybe_view, places_of}
use Rattle.merge_defs.specs.Outcome.{Note, Outcome, and_then, mapped}
use Rattle.merge_defs.specs.Arrays.{two_contains, two_lists_parts, two_places, two_rules, with_front}
use Rattle.merge_leaves.proofs.Seen.{array_seen}
use Rattle.merge_steps.specs.declared.stop.Stop.{Stop}
use Rattle.merge_steps.specs.Ends.{Ends, Goes}
use Rattle.merge_steps.proofs.Leading.{leads_on, led_goes}
use Rattle.merge_steps.proofs.Ending.{off_goes, on_leads, same_error}
use Rattle.merge_lists.specs.declared.plan.ListPlan.{ListPlan}
use Rattle.merge_lists.specs.Plans.{list_outcome}

abbrev rules_of : ArrayValidation → ListRules
rules_of o = record { max_items = (out-ArrayValidation o).max_items; min_items = (out-ArrayValidation o).min_items; unique_items = (out-ArrayValidation o).unique_items }

abbrev items_of : ArrayValidation → Places
items_of o = places_of (option_map items_view (out-ArrayValidation o).items)

abbrev rest_in : ArrayValidation → MaybeSchema
rest_in o = maybe_view (out-ArrayValidation o).additional_items

module _ (join : Schema → Schema → Outcome Schema) (array : Bool) (o q : ArrayValidation) (old new : List Note) (r : Result ListPlan Stop) where
  -- what comes after contains, and after the sizes
  abbrev sized : MaybeSchema → ListRules → Outcome Lists
  sized contains sizes = mapped (with_front contains sizes) (two_places join array sizes (items_of o) (rest_in o) (items_of q) (rest_in q))

  abbrev contained : MaybeSchema → Outcome Lists
  contained contains = and_then (two_rules array (rules_of o) (rules_of q)) (sized contains)

  abbrev whole : Outcome Lists
  whole = and_then (two_contains (maybe_view (out-ArrayValidation o).contains) (maybe_view (out-ArrayValidation q).contains)) contained

  both_seen : whole ≡ two_lists_parts join array (array_view o) (array_view q)
  both_seen = λ i. two_lists_parts join array (sym (array_seen o) i) (sym (array_seen q) i)

  seen : Goes (list_outcome join) old new whole r → Goes (list_outcome join) old new (two_lists_parts join array (array_view o) (array_view q)) r
  seen g = subst (λ (p : Outcome Lists). Goes (list_outcome join) old new p r) both_seen g

  pub contains_stop : {X : Type 0} {v : X → MaybeSchema} (e : Stop) → IsErrAnd r (λ f. f ≡ e)
      → Ends v old new (two_contains (maybe_view (out-ArrayValidation o).contains) (maybe_view (out-ArrayValidation q).contains)) (Err e)
      → Goes (list_outcome join) old new (two_lists_parts join array (array_view o) (array_view q)) r
  contains_stop e h s = seen (same_error (λ p. Goes (list_outcome join) old new whole p) r e h (off_goes contained e s))

  pub sizes_stop : {X Y : Type 0} {v : X → MaybeSchema} {w : Y → ListRules} (mid : List Note) (x : X) (e : Stop) → IsErrAnd r (λ f. f ≡ e)
      → Ends v old mid (two_contains (maybe_view (out-ArrayValidation o).contains) (maybe_view (out-ArrayValidation q).contains)) (Ok x)
      → Ends w mid new (two_rules array (rules_of o) (rules_of q)) (Err e)
      → Goes (list_outcome join) old new (two_lists_parts join array (array_view o) (array_view q)) r
  sizes_stop {X} {Y} {v} {w} mid x e h s t =
      seen (same_error (λ p. Goes (list_outcome join) old new whole p) r e h (led_goes (on_leads contained x s) (off_goes (sized (v x)) e t)))

  pub all_go : {X Y : Type 0} {v : X → MaybeSchema} {w : Y → ListRules} (mid : List Note) (x : X) (y : Y)
      → Ends v old mid (two_contains (maybe_view (out-ArrayValidation o).contains) (maybe_view (out-ArrayValidation q).contains)) (Ok x)
      → Ends w mid new (two_rules array (rules_of o) (rules_of q)) (Ok y)
      → ((ns : List Note) → Goes (list_outcome join) ns ns (mapped (with_front (v x) (w y)) (two_places join array (w y) (items_of o) (rest_in o) (items_of q) (rest_in q))) r)
      → Goes (list_outcome join) old new (two_lists_parts join array (array_view o) (array_view q)) r
  all_go {X} {Y} {v} {w} mid x y s t g =
      seen (led_goes (leads_on (on_leads contained x s) (on_leads (sized (v x)) y t)) (g new))

-- the keywords are seen as something equal
pub at_arrays : (join : Schema → Schema → Outcome Schema) (array : Bool) (old new : List Note) (r : Result ListPlan Stop) (m n m' n' : Lists) → m ≡ m' → n ≡ n'
    → Goes (list_outcome join) old new (two_lists_parts join array m' n') r → Goes (list_outcome join) old new (two_lists_parts join array m n) r
at_arrays join array old new r m n m' n' e h k = subst (λ t. t) (λ i. Goes (list_outcome join) old new (two_lists_parts join array (sym e i) (sym h i)) r) k
