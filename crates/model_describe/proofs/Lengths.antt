-- Rules, one after another, whose lengths are sizes.
use Rattle.std.proofs.Common.{◌≡◌, ℕ, ◌+◌, ◌<◌, ◌≤◌, List, map, drop, length, get_or, Bool, true, ◌&&◌, sym, ap, ◌∙◌}
use Rattle.std.specs.List.{list_all}
use Rattle.std.proofs.lemmas.List.{drop_all}
use Rattle.attr_parts.proofs.Added.{mapped_drop}
use Rattle.conversion_table.specs.Conversions.{constraint_view, rule_view}
use Rattle.conversion_table.specs.declared.conversions.Constraint.{Constraint}
use Rattle.model_defs.specs.Model.{ConstraintD}
use Rattle.describe_defs.specs.Written.{has_sizes}

abbrev pub all_sizes : List Constraint → Bool
all_sizes cs = list_all (λ c. has_sizes c.rule) (map constraint_view cs)

pub one_sized : (cs : List Constraint) (i : ℕ) (c : Constraint) (w : Bool) → i < length cs → c ≡ get_or cs i c → has_sizes (rule_view c.rule) ≡ true → all_sizes (drop i cs) ≡ w → all_sizes (drop (i + 1) cs) ≡ w
one_sized cs i c w h e k was =
    ap (λ b. b && all_sizes (drop (i + 1) cs)) (sym k) ∙ ap (list_all (λ c. has_sizes c.rule)) (sym (mapped_drop constraint_view cs i c h e)) ∙ was

pub all_sized : (cs : List Constraint) (i : ℕ) (w : Bool) → length cs ≤ i → all_sizes (drop i cs) ≡ w → w ≡ true
all_sized cs i w h was = sym was ∙ ap all_sizes (drop_all i cs h)
