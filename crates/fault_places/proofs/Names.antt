-- The lines of one name more.
use Rattle.std.proofs.Common.{◌≡◌, ℕ, List, ◌∷◌, ◌++◌, append_assoc, string_bytes, ap, ◌∙◌}
use Rattle.serde_json.specs.View.{members_view}
use Rattle.serde_json.proofs.Views.{Entry}
use Rattle.fault_places.specs.Stops.{names_lines, pattern_lines}

pub one_more : (start out whole : List ℕ) (e : Entry) (es : List Entry) → out ≡ start ++ pattern_lines (string_bytes e.0) → start ++ names_lines (members_view (e ∷ es)) ≡ whole
    → out ++ names_lines (members_view es) ≡ whole
one_more start out whole e es w h =
    ap (λ o. o ++ names_lines (members_view es)) w ∙ append_assoc start (pattern_lines (string_bytes e.0)) (names_lines (members_view es)) ∙ h
