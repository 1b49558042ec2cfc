-- Lists of schemas of different lengths aren't alike.
use Rattle.std.proofs.Common.{◌≡◌, suc, List, [], ◌∷◌, length, Bool, false, refl, ap}
use Rattle.schema_defs.specs.Schema.{schemas}
use Rattle.schema_types.specs.View.{schemas_view}
use Rattle.schema_types.specs.declared.schema.Schema.{Schema}
use Rattle.schema_types.proofs.Lists.{not_both}
use Rattle.merge_defs.specs.Alike.{Look, alike_all}

pub other_length : (k : Look) (ss ts : List Schema) → (length ss ≡ length ts → ⊥) → alike_all k (schemas (schemas_view ss)) (schemas (schemas_view ts)) ≡ false
other_length k [] [] h = absurd (h refl)
other_length k [] (t ∷ ts) h = refl
other_length k (s ∷ ss) [] h = refl
other_length k (s ∷ ss) (t ∷ ts) h = not_both _ _ (other_length k ss ts (λ e. h (ap suc e)))
