-- What stands beside a tag.
use Rattle.std.proofs.Common.{◌≡◌, ℕ, suc, List, [], ◌∷◌, ◌++◌, length, map, Bool, true, false, cond, refl, arith}
use Rattle.std.specs.Prelude.{◌↔◌, IsTrue, bytes_eq, if◌then◌else◌}
use Rattle.schema_defs.specs.declared.Setting.{Setting}
use Rattle.schema_defs.specs.Location.{Location}
use Rattle.schema_defs.specs.Schema.{Schema, Properties, property}
use Rattle.convert_defs.specs.Row.{FieldRow, unit_body, fields_body}
use Rattle.convert_defs.specs.Shapes.{less_property, placed_field, body_of_fields}
use Rattle.convert_defs.specs.Owners.{property_fields, is_empty}
use Rattle.object_rows.specs.Parts.{field_of}

pub body_seen : (fs : List FieldRow) → body_of_fields fs ≡ (if is_empty fs then unit_body else fields_body fs)
body_seen [] = refl
body_seen (f ∷ fs) = refl

no_more_than_none : (n : ℕ) → suc n ≡ 0 → ⊥
no_more_than_none n h = omega arith

pub none_there : {X Y : Type 0} (f : X → Y) (b : Bool) (xs : List X) → (IsTrue b ↔ (length xs ≡ 0)) → b ≡ is_empty (map f xs)
none_there f b [] h = h.1 refl
none_there f true (x ∷ xs) h = absurd (no_more_than_none (length xs) (h.0 refl))
none_there f false (x ∷ xs) h = refl

module _ (setting : Setting) (required : List (List ℕ)) (l : Location) (tag : List ℕ) where
  abbrev pub placed : Properties → List FieldRow
  placed ps = map (placed_field l) (property_fields setting required ps)

  pub field_step : (k : List ℕ) (s : Schema) (ps : Properties)
      → placed (less_property tag (property k s ps)) ≡ (if bytes_eq tag k then [] else placed_field l (field_of setting required k s) ∷ []) ++ placed (less_property tag ps)
  field_step k s ps = by (bytes_eq tag k)
    where
      by : (b : Bool) → placed (if b then less_property tag ps else property k s (less_property tag ps)) ≡ (if b then [] else placed_field l (field_of setting required k s) ∷ []) ++ placed (less_property tag ps)
      by true = refl
      by false = refl
