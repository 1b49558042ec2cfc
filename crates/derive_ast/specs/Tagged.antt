-- Variants that are tagged, and untagged ones before them.
use Rattle.std.specs.Prelude.{ℕ, suc, ◌-◌, ◌++◌, ◌&&◌, List, [], ◌∷◌, not, cond}
use Rattle.std.specs.List.{list_any}
use Rattle.attr_parts.specs.Diagnostics.{DiagnosticD, untagged_order}
use Rattle.container_defs.specs.Checks.{told_if}
use Rattle.container_defs.specs.Container.{ReadVariant}

-- how many are tagged
abbrev pub tagged_number : List ReadVariant → ℕ
tagged_number [] = 0
tagged_number (v ∷ vs) = cond v.attrs.untagged (tagged_number vs) (suc (tagged_number vs))

-- how many of them stand behind the first
abbrev pub left_behind : ℕ → ReadVariant → ℕ
left_behind n v = cond v.attrs.untagged n (n - 1)

-- each untagged variant that stands before a tagged one, at its name
abbrev pub order_of : List ReadVariant → List DiagnosticD
order_of [] = []
order_of (v ∷ vs) = told_if (v.attrs.untagged && list_any (λ w. not w.attrs.untagged) vs) untagged_order v.name.span ++ order_of vs
