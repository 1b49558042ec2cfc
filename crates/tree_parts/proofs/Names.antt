-- What references name.
use Rattle.std.proofs.Common.{◌≡◌, ℕ, List, true, false, Some, None, option_map, codes, refl, ap, ◌∙◌}
use Rattle.schema_defs.specs.Location.{unescaped}
use Rattle.schema_defs.specs.Admits.{first_of, without_prefix, is_root_reference}
use Rattle.entry_defs.specs.Entry.{the_root, definition}
use Rattle.convert_defs.specs.Table.{target_of}

pub root_named : (q : List ℕ) → is_root_reference q ≡ true → Some the_root ≡ target_of q
root_named q h = rw h refl

pub definition_named : (q w s : List ℕ) → is_root_reference q ≡ false → Some w ≡ first_of (without_prefix (codes "#/definitions/") q) (without_prefix (codes "#/$defs/") q) → s ≡ unescaped w → Some (definition s) ≡ target_of q
definition_named q w s h k e = rw h (ap (λ n. Some (definition n)) e ∙ ap (λ o. option_map definition (option_map unescaped o)) k)

pub none_named : (q : List ℕ) → is_root_reference q ≡ false → None ≡ first_of (without_prefix (codes "#/definitions/") q) (without_prefix (codes "#/$defs/") q) → None ≡ target_of q
none_named q h k = rw h (ap (λ o. option_map definition (option_map unescaped o)) k)
