-- Notes at members, one member after the other.
use Rattle.std.proofs.Common.{◌≡◌, List, [], ◌∷◌, ◌++◌, map, filter, Bool, true, false, cond, refl}
use Rattle.std.specs.Prelude.{if◌then◌else◌}
use Rattle.convert_defs.specs.Row.{Note}
use Rattle.convert_defs.specs.Shapes.{Member}
use Rattle.convert_defs.specs.Table.{is_open_object, open_branches, has_text_keywords}
use Rattle.member_rows.specs.Members.{open_note, ruled_note, ruled_branches}

kept : (note : Member → Note) (b : Bool) (m : Member) (ms : List Member) → map note (cond b (m ∷ ms) ms) ≡ (if b then note m ∷ [] else []) ++ map note ms
kept note true m ms = refl
kept note false m ms = refl

pub open_step : (m : Member) (ms : List Member) → open_branches (m ∷ ms) ≡ (if is_open_object m then open_note m ∷ [] else []) ++ open_branches ms
open_step m ms = kept open_note (is_open_object m) m (filter is_open_object ms)

pub ruled_step : (m : Member) (ms : List Member) → ruled_branches (m ∷ ms) ≡ (if has_text_keywords m.1 then ruled_note m ∷ [] else []) ++ ruled_branches ms
ruled_step m ms = kept ruled_note (has_text_keywords m.1) m (filter (λ n. has_text_keywords n.1) ms)
