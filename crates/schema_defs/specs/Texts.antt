-- What a judge of texts answers. The pattern comes first, then the text.
use Rattle.std.specs.Prelude.{ℕ, List, Bool, IsTrue}
use Rattle.schema_defs.specs.declared.Format.{Format}
use Rattle.schema_defs.specs.declared.Format.TheVariants.{Ip, Ipv4, Ipv6}

pub record Relations : Type 0 where
  pub is_pattern : List ℕ → Bool
  pub matches : List ℕ → List ℕ → Bool
  pub has_format : Format → List ℕ → Bool

-- ipv4 texts and ipv6 texts are ip texts
pub record IsLawful (r : Relations) : Type 0 where
  pub ipv4_is_ip : (s : List ℕ) → IsTrue (r.has_format Ipv4 s) → IsTrue (r.has_format Ip s)
  pub ipv6_is_ip : (s : List ℕ) → IsTrue (r.has_format Ipv6 s) → IsTrue (r.has_format Ip s)
