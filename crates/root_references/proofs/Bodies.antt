-- What stands at the name of a definition.
use Rattle.std.proofs.Common.{◌≡◌, Bool, false, refl, sym, ap, ◌∙◌}
use Rattle.std.specs.Prelude.{Option, Some, None, option_map}
use Rattle.schema_defs.specs.Schema.{Schema, Definition}
use Rattle.convert_defs.specs.RootReference.{has_root}
use Rattle.root_references.specs.Named.{body_has_root}

abbrev schema_has_root : Option Schema → Bool
schema_has_root None = false
schema_has_root (Some s) = has_root s

by_body : (o : Option Definition) → schema_has_root (option_map (λ e. e.body) o) ≡ body_has_root o
by_body None = refl
by_body (Some e) = refl

pub has_root_in : (o : Option Schema) (e : Option Definition) → o ≡ option_map (λ e. e.body) e → schema_has_root o ≡ body_has_root e
has_root_in o e h = ap schema_has_root h ∙ by_body e
