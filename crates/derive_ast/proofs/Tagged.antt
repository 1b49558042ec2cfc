-- Untagged variants before tagged ones: counting those that are left finds them.
use Rattle.std.proofs.Common.{◌≡◌, ℕ, suc, ◌-◌, List, [], ◌∷◌, ◌++◌, ◌&&◌, ◌||◌, Bool, true, false, not, cond, map, refl, ap, ◌∙◌, arith}
use Rattle.std.specs.Prelude.{nat_lt}
use Rattle.std.specs.List.{list_any}
use Rattle.std.proofs.lemmas.Bool.Decides.{nat_tests}
use Rattle.token_trees.specs.Token.{Name}
use Rattle.syntax_trees.specs.Item.{VariantD}
use Rattle.attr_parts.specs.Diagnostics.{untagged_order}
use Rattle.attr_parts.specs.Values.{DefaultD}
use Rattle.attr_defs.specs.Container.{ContainerAttrs}
use Rattle.attr_defs.specs.Renames.{Meaning}
use Rattle.attr_defs.specs.Texts.{Lexing}
use Rattle.container_defs.specs.Checks.{told_if}
use Rattle.container_defs.specs.Container.{ReadVariant}
use Rattle.container_defs.specs.Model.{order_told, is_untagged}
use Rattle.container_defs.specs.Reading.{variant_of, name_variant}
use Rattle.derive_ast.specs.Tagged.{tagged_number, left_behind, order_of}

any_on : (b r : Bool) (n : ℕ) → r ≡ nat_lt 0 n → (not b || r) ≡ nat_lt 0 (cond b n (suc n))
any_on true r n h = h
any_on false r n h = grind (arith, nat_tests)

any_by_number : (vs : List ReadVariant) → list_any (λ w. not w.attrs.untagged) vs ≡ nat_lt 0 (tagged_number vs)
any_by_number [] = refl
any_by_number (v ∷ vs) = any_on v.attrs.untagged _ _ (any_by_number vs)

and_on : (b r : Bool) (n : ℕ) → r ≡ nat_lt 0 n → (b && r) ≡ (b && nat_lt 0 (cond b n (suc n)))
and_on true r n h = h
and_on false r n h = refl

-- what is told of the first, and of the others
pub first_order : (v : ReadVariant) (vs : List ReadVariant)
    → order_of (v ∷ vs) ≡ told_if (v.attrs.untagged && nat_lt 0 (tagged_number (v ∷ vs))) untagged_order v.name.span ++ order_of vs
first_order v vs = ap (λ b. told_if b untagged_order v.name.span ++ order_of vs) (and_on v.attrs.untagged _ _ (any_by_number vs))

behind_by : (b : Bool) (m n : ℕ) → n ≡ cond b m (suc m) → cond b n (n - 1) ≡ m
behind_by true m n e = e
behind_by false m n e = let k : suc m - 1 ≡ m = omega arith in ap (λ i. i - 1) e ∙ k

-- how many stand behind the first
pub behind_first : (v : ReadVariant) (vs : List ReadVariant) (n : ℕ) → n ≡ tagged_number (v ∷ vs) → left_behind n v ≡ tagged_number vs
behind_first v vs n e = behind_by v.attrs.untagged (tagged_number vs) n e

-- ---- of variants that are read

module _ (lexing : Lexing) (variant_name field_name : Meaning) (container : ContainerAttrs) (private : Name) (default : DefaultD) where
  abbrev all_read : List VariantD → List ReadVariant
  all_read vs = map (name_variant variant_name field_name container) (map (variant_of lexing private default) vs)

  read_tagged : (vs : List VariantD) → list_any (λ w. not w.attrs.untagged) (all_read vs) ≡ list_any (λ w. not (is_untagged lexing w)) vs
  read_tagged [] = refl
  read_tagged (v ∷ vs) = ap (λ b. not (is_untagged lexing v) || b) (read_tagged vs)

  pub read_order : (vs : List VariantD) → order_of (all_read vs) ≡ order_told lexing vs
  read_order [] = refl
  read_order (v ∷ vs) =
      ap (λ b. told_if (is_untagged lexing v && b) untagged_order v.name.span ++ order_of (all_read vs)) (read_tagged vs)
      ∙ ap (λ ds. told_if (is_untagged lexing v && list_any (λ w. not (is_untagged lexing w)) vs) untagged_order v.name.span ++ ds) (read_order vs)
