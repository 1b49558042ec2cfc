-- The cases of variants, apart by whether a variant stands for all others.
use Rattle.std.specs.Prelude.{ℕ, ◌&&◌, List, Bool, true, false, not, Option, Some, None, cond}
use Rattle.attr_parts.specs.declared.values.Identifier.{Identifier}
use Rattle.attr_parts.specs.Diagnostics.{KindD, other_identifier, other_untagged, other_last, other_unit, newtype_last, field_id_unit, variant_id_unit}
use Rattle.attr_parts.specs.Values.{is_identifier}
use Rattle.container_defs.specs.declared.style.Style.{Style}
use Rattle.container_defs.specs.Checks.{is_unit, is_newtype, is_variant_identifier}

abbrev pub unless : Bool → KindD → Option KindD
unless true k = None
unless false k = Some k

abbrev pub other_case : Identifier → Bool → Bool → Style → Option KindD
other_case i untagged is_last s =
    cond (is_variant_identifier i) (Some other_identifier)
    (cond (untagged && not (is_identifier i)) (Some other_untagged)
    (cond (is_unit s) (unless is_last other_last) (Some other_unit)))

abbrev pub plain_case : Identifier → Bool → Style → List ℕ → Option KindD
plain_case i is_last s name =
    cond (is_unit s) None
    (cond (not (is_identifier i)) None
    (cond (is_variant_identifier i) (Some variant_id_unit)
    (cond (is_newtype s) (unless is_last (newtype_last name)) (Some field_id_unit))))
