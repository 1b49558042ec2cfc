-- Why a call of a space fails.
use Rattle.std.specs.Prelude.{◌≡◌, ◌⊎◌, List, ◌∷◌, Option, Some, None}
use Rattle.schema_tree.specs.Fault.{FaultD, memory, invalid_value}
use Rattle.convert_document.specs.Unread.{At}

-- want of memory, the fault with which the space refused before, or a cause that this call comes to
abbrev pub IsRefusal : Option FaultD → (FaultD → Type 0) → FaultD → Type 0
IsRefusal before Cause f = (f ≡ memory) ⊎ ((before ≡ Some f) ⊎ ((before ≡ None) × Cause f))

-- the first stated value that isn't read
abbrev pub IsUnread : List At → FaultD → Type 0
IsUnread us f = (at : At) × (more : List At) × (us ≡ at ∷ more) × (f ≡ invalid_value at.0 at.1)

-- ---- faults that are told again

-- that fault, or want of memory
abbrev pub IsOrMemory : FaultD → FaultD → Type 0
IsOrMemory before f = (f ≡ memory) ⊎ (f ≡ before)

-- nothing, where nothing was refused
abbrev pub IsToldAgain : Option FaultD → Option FaultD → Type 0
IsToldAgain None found = found ≡ None
IsToldAgain (Some before) found = (f : FaultD) × (found ≡ Some f) × IsOrMemory before f

-- ---- the first stated value that isn't read, by itself

abbrev pub IsFirstUnread : Option At → FaultD → Type 0
IsFirstUnread o f = (at : At) × (o ≡ Some at) × (f ≡ invalid_value at.0 at.1)
