-- Worked examples: patterns with lookaheads and lookbehinds at their ends, and those that have them elsewhere.
use Rattle.std.specs.Prelude.{◌≡◌, ℕ, List, [], ◌∷◌, Bool, true, false, Option, Some, None, codes}
use Rattle.plain_patterns.specs.Ends.{Searched, rewritten, stop_of}

abbrev written : List ℕ → List (List ℕ × Bool) → Option Searched
written own beside = Some (record { own = own; beside = beside })

pub record EndsExamples : Type 0 where
  pub denied : rewritten (codes "^(?!aws:).+$") ≡ written (codes "^[^\\n\\r\\x{2028}\\x{2029}]+$") ((codes "^(?:aws\\:)", true) ∷ [])
  pub asked : rewritten (codes "^(?=.{1,64}$)[a-z]+") ≡ written (codes "^[a-z]+") ((codes "^(?:[^\\n\\r\\x{2028}\\x{2029}]{1,64}$)", false) ∷ [])
  pub several : rewritten (codes "^(?=a)(?!b)c$") ≡ written (codes "^c$") ((codes "^(?:a)", false) ∷ (codes "^(?:b)", true) ∷ [])
  pub before_the_end : rewritten (codes "^a*(?<!-)$") ≡ written (codes "^a*$") ((codes "(?:\\-)$", true) ∷ [])
  pub no_start : rewritten (codes "a(?<=b|a)$") ≡ written (codes "a$") ((codes "(?:b|a)$", false) ∷ [])
  pub both_ends : rewritten (codes "^(?! )a+(?<! )(?<=a)$") ≡ written (codes "^a+$") ((codes "^(?: )", true) ∷ (codes "(?: )$", true) ∷ (codes "(?:a)$", false) ∷ [])
  pub nothing_between : rewritten (codes "^(?=a)(?<=b)$") ≡ written (codes "^$") ((codes "^(?:a)", false) ∷ (codes "(?:b)$", false) ∷ [])
  pub nothing_inside : rewritten (codes "^(?!)") ≡ written (codes "^") ((codes "^(?:)", true) ∷ [])
  pub groups_inside : rewritten (codes "^(?!(a|b)*$)c") ≡ written (codes "^c") ((codes "^(?:(a|b)*$)", true) ∷ [])
  pub bar_in_group : rewritten (codes "^(?=a)(b|c)$") ≡ written (codes "^(b|c)$") ((codes "^(?:a)", false) ∷ [])
  pub in_unicode_mode : rewritten (codes "^(?!\\p{L})[]") ≡ written (codes "^[^\\x{0}-\\x{10FFFF}]") ((codes "^(?:\\p{gc=L})", true) ∷ [])

pub record OtherEndsExamples : Type 0 where
  pub no_start : rewritten (codes "(?=a)a") ≡ None
  pub bar : rewritten (codes "^(?=a)b|c") ≡ None
  pub bar_before : rewritten (codes "a|b(?<=b)$") ≡ None
  pub within : rewritten (codes "^a(?=b)c") ≡ None
  pub in_group : rewritten (codes "^((?=a)b)$") ≡ None
  pub not_at_end : rewritten (codes "^a(?<=b)c$") ≡ None
  pub no_end : rewritten (codes "^a(?<=a)") ≡ None
  pub behind_start : rewritten (codes "^(?<=a)b") ≡ None
  pub before_end : rewritten (codes "^a(?=b)$") ≡ None
  pub repeated : rewritten (codes "^(?=a)*b") ≡ None
  pub repeated_before_end : rewritten (codes "^a(?<=a)?$") ≡ None
  pub one_in_another : rewritten (codes "^(?=(?!a)b)b") ≡ None
  pub one_behind_another : rewritten (codes "^(?=a(?<=a))a") ≡ None
  pub not_closed : rewritten (codes "^(?=a") ≡ None
  pub closed_twice : rewritten (codes "^(?=a))b") ≡ None
  pub modes_apart : rewritten (codes "^(?=\\p{L})\\-") ≡ None

pub record StoppedEndsExamples : Type 0 where
  pub plain : stop_of (codes "^(?=a)b") ≡ None
  pub bar : stop_of (codes "^(?=a)b|c") ≡ Some (7, codes "|c")
  pub one_in_another : stop_of (codes "^(?=a(?=b))c") ≡ Some (5, codes "(?=b))c")
  pub not_closed : stop_of (codes "^(?=a") ≡ Some (5, codes "")
  pub behind_lookaheads : stop_of (codes "^(?!a)(?=b)(?<=c)d") ≡ Some (11, codes "(?<=c)d")
  pub not_at_end : stop_of (codes "^a(?<=b)c$") ≡ Some (2, codes "(?<=b)c$")
  pub bar_before : stop_of (codes "a|b(?<=b)$") ≡ Some (3, codes "(?<=b)$")
