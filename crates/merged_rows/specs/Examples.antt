-- Worked examples of where a conversion stands.
use Rattle.std.specs.Prelude.{◌≡◌, List, [], ◌∷◌, true, false, Some, None, codes}
use Prim.Native.String.{String}
use Rattle.schema_defs.specs.Location.{Location}
use Rattle.schema_defs.specs.Schema.{Schema, boolean}
use Rattle.schema_defs.specs.Build.{typed}
use Rattle.merge_defs.specs.Samples.{read}
use Rattle.merge_walks.specs.Carried.{Walk, has_more_steps, on_walk}
use Rattle.convert_walks.specs.Spot.{spot_inside}
use Rattle.row_findings.specs.View.{steps_view}
use Rattle.row_findings.specs.declared.part.Keyword.TheVariants.{AllOf, Not}
use Rattle.row_findings.specs.declared.part.Steps.TheVariants.{Under, Placed}
use Rattle.merged_rows.specs.declared.start.Start.{Start}
use Rattle.merged_rows.specs.Starts.{spot_of, spot_behind, walk_by, walked_spot}

abbrev pub at : List String → Location
at [] = []
at (n ∷ ns) = codes n ∷ at ns

-- a definition, and a schema in its place that a merge made
abbrev pub written : Start
written = record { path = at ("a" ∷ []); walk = at ("a" ∷ []) ∷ []; made = false }

abbrev pub merged : Start
merged = record { path = at ("a" ∷ []); walk = at ("a" ∷ []) ∷ at ("b" ∷ []) ∷ []; made = true }

abbrev pub texts : Schema
texts = read (typed "string")

abbrev pub made_walk : Walk
made_walk = at ("a" ∷ []) ∷ at ("c" ∷ []) ∷ at ("c" ∷ []) ∷ []

abbrev pub taken_walk : Walk
taken_walk = at ("a" ∷ []) ∷ at ("c" ∷ []) ∷ []

-- a schema that is taken over from there
abbrev pub taken : Start
taken = record { path = at ("c" ∷ []); walk = taken_walk; made = false }

-- the same in what a merge made, and a boolean there
abbrev pub plain_start : Start
plain_start = record { path = at ("a" ∷ []); walk = at ("a" ∷ []) ∷ at ("b" ∷ []) ∷ at ("b" ∷ "not" ∷ []) ∷ []; made = false }

abbrev pub boolean_start : Start
boolean_start = record { path = at ("a" ∷ []); walk = at ("a" ∷ []) ∷ at ("b" ∷ []) ∷ []; made = false }

pub record SpotExamples : Type 0 where
  pub at_the_start : spot_of written [] None ≡ record { handed = None; path = at ("a" ∷ []); walk = at ("a" ∷ []) ∷ []; in_made = false }
  pub a_step_further : spot_of written (Under Not ∷ []) None ≡ record { handed = None; path = at ("a" ∷ "not" ∷ []); walk = at ("a" ∷ []) ∷ at ("a" ∷ "not" ∷ []) ∷ []; in_made = false }
  pub two_steps : (spot_of written (Placed AllOf 1 ∷ Under Not ∷ []) None).walk ≡ at ("a" ∷ []) ∷ at ("a" ∷ "allOf" ∷ "1" ∷ []) ∷ at ("a" ∷ "allOf" ∷ "1" ∷ "not" ∷ []) ∷ []
  pub without_a_walk : spot_behind written [] (Under Not) None None ≡ spot_inside (spot_of written [] None) None (steps_view (Under Not)) texts
  pub taken_over : spot_behind merged [] (Under Not) (Some taken) None ≡ spot_inside (spot_of merged [] None) None (steps_view (Under Not)) (on_walk taken_walk texts)
  pub made_inside : walked_spot (spot_of merged [] None) None made_walk ≡ spot_inside (spot_of merged [] None) None (steps_view (Under Not)) (on_walk made_walk texts)
  pub plain_inside : spot_behind merged [] (Under Not) (Some plain_start) None ≡ spot_inside (spot_of merged [] None) None (steps_view (Under Not)) texts
  pub a_boolean_inside : spot_behind merged [] (Under Not) (Some boolean_start) None ≡ spot_inside (spot_of merged [] None) None (steps_view (Under Not)) (boolean true)
  pub as_many_steps : has_more_steps 2 (walk_by merged.walk (Under Not ∷ [])) ≡ false
  pub too_many : has_more_steps 1 (walk_by merged.walk (Under Not ∷ [])) ≡ true
