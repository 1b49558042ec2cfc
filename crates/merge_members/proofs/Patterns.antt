-- Whether there are keywords of names by pattern.
use Rattle.std.proofs.Common.{◌≡◌, List, [], ◌∷◌, Bool, true, false, not, Option, length, Box, String, Global, true≢false, refl, sym}
use Rattle.std.specs.Prelude.{◌↔◌, IsTrue}
use Rattle.schema_types.specs.declared.schema.Schema as tree
use Rattle.schema_types.specs.View.{maybe_view, properties_view}
use Rattle.merge_defs.specs.Objects.{has_patterns}

pub patterns_some : (b : Bool) (es : List (String Global × tree.Schema)) (x : Option (Box tree.Schema Global)) → (IsTrue b ↔ (length es ≡ 0)) → b ≡ false → not b ≡ has_patterns (properties_view es) (maybe_view x)
patterns_some true es x h e = absurd (true≢false e)
patterns_some false [] x h e = absurd (true≢false (sym (h.1 refl)))
patterns_some false (p ∷ es) x h e = refl
