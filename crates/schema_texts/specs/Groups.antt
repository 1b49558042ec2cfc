-- What the readers of addresses count: groups between colons (RFC 4291, 2.2).
use Rattle.std.specs.Prelude.{ℕ, suc, ◌&&◌, List, [], ◌∷◌, Bool, Option, Some, None, option_map, if◌then◌else◌}
use Rattle.schema_defs.specs.Formats.{is_group, is_ipv4}

-- how many groups the pieces make, where the last may be an ipv4 text, which makes two, if that is allowed
abbrev pub groups_in : Bool → List (List ℕ) → Option ℕ
groups_in ipv4_allowed [] = None
groups_in ipv4_allowed (p ∷ []) = if is_group p then Some 1 else (if ipv4_allowed && is_ipv4 p then Some 2 else None)
groups_in ipv4_allowed (p ∷ q ∷ ps) = if is_group p then option_map suc (groups_in ipv4_allowed (q ∷ ps)) else None
