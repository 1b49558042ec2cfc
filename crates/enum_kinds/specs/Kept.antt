-- What was kept of what references leave open.
use Rattle.std.specs.Prelude.{◌≡◌, ℕ, List, Option, Some, None}
use Rattle.std.specs.BTreeMap.{BTreeMap, get_by_text}
use Rattle.std.specs.declared.string.String.{String}
use Rattle.schema_defs.specs.Schema.{Document}
use Rattle.enum_defs.specs.declared.KindSet.{KindSet}
use Rattle.enum_defs.specs.Kinds.{kinds_beyond}

abbrev pub kept_of : {Y : Type 0} → Option (BTreeMap (String Y) KindSet) → List ℕ → Option KindSet
kept_of None q = None
kept_of (Some m) q = get_by_text m q

-- it is what they leave open
abbrev pub AreKept : {Y : Type 0} → Document → Option (BTreeMap (String Y) KindSet) → Type 0
AreKept d m = (q : List ℕ) (k : KindSet) → kept_of m q ≡ Some k → kinds_beyond d q ≡ k
