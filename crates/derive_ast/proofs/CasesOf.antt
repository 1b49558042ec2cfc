-- What is wrong with a variant, by whether it stands for all others.
use Rattle.std.proofs.Common.{◌≡◌, ℕ, List, Bool, true, false, refl, ap, sym, ◌∙◌}
use Rattle.std.specs.Prelude.{Option}
use Rattle.attr_parts.specs.declared.values.Identifier.{Identifier}
use Rattle.attr_parts.specs.declared.values.Identifier.TheVariants as identifiers
use Rattle.attr_parts.specs.Diagnostics.{KindD}
use Rattle.attr_parts.specs.Values.{TagD, external, internal, adjacent, untagged}
use Rattle.container_defs.specs.declared.style.Style.{Style}
use Rattle.container_defs.specs.declared.style.Style.TheVariants.{Struct, Tuple, Newtype, Unit as NoFields}
use Rattle.container_defs.specs.Checks.{is_untagged, identifier_case}
use Rattle.derive_ast.specs.Cases.{other_case, plain_case}

other_is : (i : Identifier) (tag : TagD) (is_last : Bool) (s : Style) (name : List ℕ) → identifier_case i tag is_last true s name ≡ other_case i (is_untagged tag) is_last s
other_is identifiers.No external is_last Struct name = refl
other_is identifiers.No external is_last Tuple name = refl
other_is identifiers.No external is_last Newtype name = refl
other_is identifiers.No external is_last NoFields name = refl
other_is identifiers.No (internal t) is_last Struct name = refl
other_is identifiers.No (internal t) is_last Tuple name = refl
other_is identifiers.No (internal t) is_last Newtype name = refl
other_is identifiers.No (internal t) is_last NoFields name = refl
other_is identifiers.No (adjacent t k) is_last Struct name = refl
other_is identifiers.No (adjacent t k) is_last Tuple name = refl
other_is identifiers.No (adjacent t k) is_last Newtype name = refl
other_is identifiers.No (adjacent t k) is_last NoFields name = refl
other_is identifiers.No untagged is_last Struct name = refl
other_is identifiers.No untagged is_last Tuple name = refl
other_is identifiers.No untagged is_last Newtype name = refl
other_is identifiers.No untagged is_last NoFields name = refl
other_is identifiers.Field external is_last Struct name = refl
other_is identifiers.Field external is_last Tuple name = refl
other_is identifiers.Field external is_last Newtype name = refl
other_is identifiers.Field external is_last NoFields name = refl
other_is identifiers.Field (internal t) is_last Struct name = refl
other_is identifiers.Field (internal t) is_last Tuple name = refl
other_is identifiers.Field (internal t) is_last Newtype name = refl
other_is identifiers.Field (internal t) is_last NoFields name = refl
other_is identifiers.Field (adjacent t k) is_last Struct name = refl
other_is identifiers.Field (adjacent t k) is_last Tuple name = refl
other_is identifiers.Field (adjacent t k) is_last Newtype name = refl
other_is identifiers.Field (adjacent t k) is_last NoFields name = refl
other_is identifiers.Field untagged is_last Struct name = refl
other_is identifiers.Field untagged is_last Tuple name = refl
other_is identifiers.Field untagged is_last Newtype name = refl
other_is identifiers.Field untagged is_last NoFields name = refl
other_is identifiers.Variant tag is_last s name = refl

plain_is : (i : Identifier) (tag : TagD) (is_last : Bool) (s : Style) (name : List ℕ) → identifier_case i tag is_last false s name ≡ plain_case i is_last s name
plain_is identifiers.No tag is_last Struct name = refl
plain_is identifiers.No tag is_last Tuple name = refl
plain_is identifiers.No tag is_last Newtype name = refl
plain_is identifiers.No tag is_last NoFields name = refl
plain_is identifiers.Field tag is_last Struct name = refl
plain_is identifiers.Field tag is_last Tuple name = refl
plain_is identifiers.Field tag is_last Newtype name = refl
plain_is identifiers.Field tag is_last NoFields name = refl
plain_is identifiers.Variant tag is_last Struct name = refl
plain_is identifiers.Variant tag is_last Tuple name = refl
plain_is identifiers.Variant tag is_last Newtype name = refl
plain_is identifiers.Variant tag is_last NoFields name = refl

-- one that does
pub other_known : (i : Identifier) (tag : TagD) (is_last is_other of_none : Bool) (s : Style) (name : List ℕ) (k : Option KindD)
    → is_other ≡ true → of_none ≡ is_untagged tag → k ≡ other_case i of_none is_last s → k ≡ identifier_case i tag is_last is_other s name
other_known i tag is_last is_other of_none s name k o u e =
    e ∙ ap (λ b. other_case i b is_last s) u ∙ sym (other_is i tag is_last s name) ∙ ap (λ b. identifier_case i tag is_last b s name) (sym o)

-- any other
pub plain_known : (i : Identifier) (tag : TagD) (is_last is_other : Bool) (s : Style) (name : List ℕ) (k : Option KindD)
    → is_other ≡ false → k ≡ plain_case i is_last s name → k ≡ identifier_case i tag is_last is_other s name
plain_known i tag is_last is_other s name k o e = e ∙ sym (plain_is i tag is_last s name) ∙ ap (λ b. identifier_case i tag is_last b s name) (sym o)
