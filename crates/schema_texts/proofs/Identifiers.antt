-- The texts that crate `uuid` parses are those that have the format.
use Rattle.std.proofs.Common.{◌≡◌, ◌∙◌, ◌↔◌, sym, ap, ℕ, List, Bool, true, Option, Some, None, is_some, refl, true≢false}
use Rattle.schema_defs.specs.Formats.{is_uuid}
use Rattle.uuid.specs.Text.{parsed}
use Rattle.format_laws.proofs.Bools.{same_bools}
use Rattle.format_laws.proofs.Forms.{uuid_same}

what_is_there : {A : Type 0} (o : Option A) → is_some o ≡ true → (x : A) × (o ≡ Some x)
what_is_there None h = absurd (true≢false (sym h))
what_is_there (Some x) h = (x, refl)

pub identified : (b : Bool) (s : List ℕ) → (b ≡ true ↔ ((u : List ℕ) × (parsed s ≡ Some u))) → b ≡ is_uuid s
identified b s reads =
    same_bools b (is_uuid s) (λ h. sym (uuid_same s) ∙ ap is_some (reads.0 h).1) (λ h. reads.1 (what_is_there (parsed s) (uuid_same s ∙ h)))
