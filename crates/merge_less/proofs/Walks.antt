-- The walk of what is left, by whether a reference stands there.
use Rattle.std.proofs.Common.{◌≡◌, true, false, ap, sym, ◌∙◌}
use Rattle.std.specs.Prelude.{if◌then◌else◌}
use Rattle.schema_defs.specs.Schema.{Schema}
use Rattle.merge_walks.specs.Carried.{Walk}
use Rattle.merge_walks.specs.Made.{longer}
use Rattle.merge_walks.specs.Walked.{walk_of, has_reference, walk_left}

pub keeps_own : (s t : Schema) (w : Walk) → has_reference s ≡ true → w ≡ walk_of s → w ≡ walk_left s t
keeps_own s t w h e = e ∙ ap (λ b. if b then walk_of s else longer (walk_of s) (walk_of t)) (sym h)

pub takes_longer : (s t : Schema) (w : Walk) → has_reference s ≡ false → w ≡ longer (walk_of s) (walk_of t) → w ≡ walk_left s t
takes_longer s t w h e = e ∙ ap (λ b. if b then walk_of s else longer (walk_of s) (walk_of t)) (sym h)
