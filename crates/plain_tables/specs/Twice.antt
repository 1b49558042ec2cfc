-- Names that come twice, counted one after another.
use Rattle.std.specs.Prelude.{◌≡◌, ℕ, ◌≤◌, ◌||◌, not, List, Bool, false, Option, Some, None, IfSome, eqb, bytes_eq, filter, if◌then◌else◌}
use Rattle.name_tables.specs.Names.{Names}
use Rattle.model_defs.specs.Model.{ContainerModel}
use Rattle.describe_defs.specs.Plain.{has_none}
use Rattle.describe_defs.specs.NotPlain.{has_two, names_of, comes_twice}
use Rattle.plain_tables.specs.Apart.{is_entered}

pub record AreTwice (ms : List ContainerModel) (again : Names) : Type 0 where
  pub twice : (n : List ℕ) → is_entered n again ≡ comes_twice ms n

-- whether a name comes twice, where it is known whether it was seen, and seen again, before these
abbrev pub is_counted : Bool → Bool → List (List ℕ) → Bool
is_counted seen again ns = again || (if seen then not (has_none ns) else has_two ns)

pub record AreCounted (ms : List ContainerModel) (seen again : Names) (left : List ContainerModel) : Type 0 where
  pub counted : (n : List ℕ) → comes_twice ms n ≡ is_counted (is_entered n seen) (is_entered n again) (filter (bytes_eq n) (names_of left))

-- ---- the first that reaches itself

abbrev pub is_there : Option ℕ → ℕ → Bool
is_there None i = false
is_there (Some s) i = eqb s i

-- none before the place
abbrev pub IsBefore : Option ℕ → ℕ → Type 0
IsBefore first i = IfSome first (λ s. i ≤ s)
