-- What new fields find of the old ones, one new field after another.
use Rattle.std.specs.Prelude.{◌&&◌, ◌||◌, not, List, [], ◌∷◌, ◌++◌, map, Bool, true, Option, Some, None, if◌then◌else◌}
use Rattle.std.specs.Borrow.{Bor}
use Rattle.std.specs.List.{list_any}
use Rattle.model_defs.specs.Types.{TypeModel}
use Rattle.model_defs.specs.Model.{FieldModel}
use Rattle.model_defs.specs.Layer.{present_type, may_be_missing}
use Rattle.value_models.specs.declared.field.Field.{Field}
use Rattle.value_models.specs.FieldView.{field_view}
use Rattle.evolve_defs.specs.Steps.{Broken, missing, unknown, twice, rest_taken, finds, own_fields, other_fields, at_most_one, written_type, map_value}
use Rattle.evolve_defs.specs.Walk.{Turn, stops, goes}
use Rattle.evolve_defs.specs.Spots.{Spot, Spots, of_type}
use Rattle.evolve_rows.specs.TurnView.{pairs_view, to_one}
use Rattle.evolve_rows.specs.declared.fields.Pick.{Pick}
use Rattle.evolve_rows.specs.declared.fields.Pick.TheVariants.{Plain, Rest, Own, Other}
use Rattle.evolve_rows.specs.declared.fields.Found.{Found}

pub record FoundD : Type 0 where
  pub left : List FieldModel
  pub once : Bool
  pub present : Bool
  pub pairs : List Spots

abbrev pub refs_view : List (Bor Field) → List FieldModel
refs_view fs = map (λ f. field_view f.now) fs

abbrev pub found_view : Found → FoundD
found_view f = record { left = refs_view f.left.items; once = f.once; present = f.present; pairs = pairs_view f.pairs.items }

abbrev pub passes : Pick → FieldModel → Bool
passes Plain f = not f.is_rest
passes Rest f = f.is_rest
passes (Own g) f = finds (field_view g.now) f
passes (Other g) f = not (finds (field_view g.now) f)

-- before any new field is looked at
abbrev pub start : List FieldModel → FoundD
start fs = record { left = fs; once = true; present = true; pairs = [] }

abbrev pub written_spots : List FieldModel → List Spot
written_spots fs = map (λ f. of_type (written_type f)) fs

abbrev pub rest_spots : List FieldModel → List Spot
rest_spots fs = map (λ f. of_type (map_value f.field_type)) fs

module _ (leads : TypeModel → Bool) where
  abbrev pub found_by : FieldModel → FoundD → FoundD
  found_by g s = record {
    left = other_fields g s.left;
    once = s.once && at_most_one (own_fields g s.left);
    present = s.present && (may_be_missing leads g || list_any (λ f. not f.skip) (own_fields g s.left));
    pairs = s.pairs ++ to_one (written_spots (own_fields g s.left)) (of_type (present_type g));
  }

  abbrev pub gathered : List FieldModel → FoundD → FoundD
  gathered [] s = s
  gathered (g ∷ gs) s = gathered gs (found_by g s)

abbrev pub broken_by : Bool → Bool → Bool → Bool → Option Broken
broken_by lost once present taken =
    if lost then Some unknown
    else if not once then Some twice
    else if not present then Some missing
    else if taken then Some rest_taken
    else None

-- each of the spots with what each rest holds
abbrev pub with_rests : List Spot → List FieldModel → List Spots
with_rests ss [] = []
with_rests ss (g ∷ gs) = to_one ss (of_type (map_value g.field_type)) ++ with_rests ss gs

abbrev pub turn_of : Option Broken → List Spots → Turn Spots
turn_of None ps = goes ps
turn_of (Some e) ps = stops e
