-- The first kind that fits bounds.
use Rattle.std.proofs.Common.{◌≡◌, ℤ, Bool, true, false, ◌&&◌, List, Option, Some, None, is_none, refl, sym, ap, ◌∙◌}
use Rattle.std.specs.Prelude.{if◌then◌else◌}
use Rattle.entry_defs.specs.Entry.{i64}
use Rattle.convert_defs.specs.IntegerRow.{Kind, kinds, first_kind, name_or, by_bounds, least_is}
use Rattle.integer_rows.specs.Bounds.{kind_fits}

and_true : (b : Bool) → b ≡ (b && true)
and_true true = refl
and_true false = refl

pub by_bounds_seen : (a b : Option ℤ) → by_bounds a b ≡ (if is_none a && is_none b then i64 else name_or i64 (first_kind (kind_fits a b) kinds))
by_bounds_seen (Some a) (Some b) = refl
by_bounds_seen (Some a) None = λ i. name_or i64 (first_kind (λ k. and_true (least_is a k) i) kinds)
by_bounds_seen None (Some b) = refl
by_bounds_seen None None = refl
