-- The entries of a map, without their keys.
use Rattle.std.proofs.Common.{◌≡◌, List, [], ◌∷◌, map, refl, ap}
use Rattle.entry_types.specs.View.{entry_view}
use Rattle.entry_types.specs.declared.entry.TypeEntry.{TypeEntry}
use Rattle.entry_space.specs.declared.key.Key.{Key}

pub seen_values : (es : List (Key × TypeEntry)) → map entry_view (map (λ p. p.1) es) ≡ map (λ p. entry_view p.1) es
seen_values [] = refl
seen_values (e ∷ es) = ap (λ xs. entry_view e.1 ∷ xs) (seen_values es)
