-- Of each pair that a row reaches something is told, so each reached pair has a way.
use Rattle.std.proofs.Common.{◌≡◌, ◌≤◌, ◌<◌, ◌+◌, ℕ, zero, suc, List, [], ◌∷◌, ◌++◌, map, length, length-append, slice_get, Bool, true, false, ◌&&◌, ◌||◌, not, cond, if◌then◌else◌, bytes_eq, Option, Some, None, refl, subst, arith}
use Rattle.std.specs.Prelude.{⊤}
use Rattle.std.proofs.lemmas.List.{length-map}
use Rattle.model_defs.specs.Types.{TypeModel}
use Rattle.model_defs.specs.Model.{FieldModel, VariantModel, RuleD, variant_named}
use Rattle.model_defs.specs.Layer.{is_unit, present_type}
use Rattle.model_defs.specs.Reads.{leads_to_option}
use Rattle.evolve_defs.specs.Forms.{Table, Node, a_type, contents, Form, any_form, unit_form, boolean_form, integer_form, text_form, native_form, option_form, list_form, tuple_form, array_form, map_form, struct_form, ruled_form, external_form, internal_form, adjacent_form, untagged_form, form_of}
use Rattle.evolve_defs.specs.Kinds.{kinds_meet}
use Rattle.evolve_defs.specs.Rules.{given_rule_implies}
use Rattle.evolve_defs.specs.Steps as steps
use Rattle.evolve_defs.specs.Steps.{Broken, Pair, Verdict, fails, reaches, both, holds_if, reaches_if, each_to, to_each, by_place, array_items, written_type, own_fields, other_fields, lost_fields, found_pairs, to_rests, map_value, plain_fields, rests, none_twice, none_missing, names_within, is_none, members_verdict, units_verdict, variant_verdict, beside_verdict, variants_verdict, besides_verdict, is_scalar, unknown, twice, missing, rest_taken, tag_differs, plain_row, to_option, to_untagged, to_ruled, rows, step}
use Rattle.evolve_defs.specs.Covers.{Reached, roots, further, IsAmong, first, later}
use Rattle.evolve_ways.specs.Ways.{Mark, Told, field_marks, rest_marks, variant_marks, with_contents, place_marks, place_mark, item_mark, found_marks, each_rest, members_marks, plain_marks, from_ruled, by_new, marks, marks_at, IsStep, Leads, there, inside, onward, WhatIsReachedIsLedTo}

-- at least as much is told as is reached
abbrev Level : Verdict → List Told → Type 0
Level (fails e) ms = ⊤
Level (reaches ps) ms = length ps ≤ length ms

-- ---- lists

joined : (ps qs : List Pair) (ms ns : List Told) → length ps ≤ length ms → length qs ≤ length ns → length (ps ++ qs) ≤ length (ms ++ ns)
joined ps qs ms ns h g = let a = length-append ps qs in let b = length-append ms ns in omega (arith, h, g, a, b)

if_level : (b : Bool) (e : Broken) (ps : List Pair) (ms : List Told) → length ps ≤ length ms → Level (reaches_if b e ps) ms
if_level true e ps ms h = h
if_level false e ps ms h = tt

holds_level : (b : Bool) (e : Broken) (ms : List Told) → Level (holds_if b e) ms
holds_level true e ms = omega arith
holds_level false e ms = tt

either_level : (b : Bool) (v w : Verdict) (ms : List Told) → Level v ms → Level w ms → Level (if b then v else w) ms
either_level true v w ms h g = h
either_level false v w ms h g = g

both_level : (v w : Verdict) (ms ns : List Told) → Level v ms → Level w ns → Level (both v w) (ms ++ ns)
both_level (fails e) w ms ns h g = tt
both_level (reaches ps) (fails e) ms ns h g = tt
both_level (reaches ps) (reaches qs) ms ns h g = joined ps qs ms ns h g

so_many : (n : ℕ) → length (place_marks n) ≡ n
so_many zero = refl
so_many (suc n) = let a = length-append (place_marks n) (Some (place_mark n) ∷ []) in let b = so_many n in omega (arith, a, b)

each_level : (ss : List TypeModel) (t : TypeModel) → length (each_to ss t) ≤ length (place_marks (length ss))
each_level ss t = let a = so_many (length ss) in let b : length (each_to ss t) ≡ length ss = length-map ss (λ s. (a_type s, a_type t)) in omega (arith, a, b)

from_level : (s : TypeModel) (ts : List TypeModel) → length (to_each s ts) ≤ length (place_marks (length ts))
from_level s ts = let a = so_many (length ts) in let b : length (to_each s ts) ≡ length ts = length-map ts (λ t. (a_type s, a_type t)) in omega (arith, a, b)

by_place_within : (ss ts : List TypeModel) → length (by_place ss ts) ≤ length ss
by_place_within [] ts = omega arith
by_place_within (s ∷ ss) [] = omega arith
by_place_within (s ∷ ss) (t ∷ ts) = let rec = by_place_within ss ts in omega (arith, rec)

by_place_level : (ss ts : List TypeModel) → length (by_place ss ts) ≤ length (place_marks (length ss))
by_place_level ss ts = let a = so_many (length ss) in let b = by_place_within ss ts in omega (arith, a, b)

items_level : (s t : TypeModel) (n : ℕ) (m : Told) → length (array_items s t n) ≤ length (m ∷ [])
items_level s t zero m = omega arith
items_level s t (suc n) m = omega arith

-- ---- fields

mapped_level : (f : FieldModel → Pair) (g : FieldModel → Told) (fs : List FieldModel) → length (map f fs) ≤ length (map g fs)
mapped_level f g fs = let a = length-map fs f in let b = length-map fs g in omega (arith, a, b)

found_level : (gs fs : List FieldModel) → length (found_pairs gs fs) ≤ length (found_marks gs fs)
found_level [] fs = omega arith
found_level (g ∷ gs) fs =
    joined (map (λ f. (a_type (written_type f), a_type (present_type g))) (own_fields g fs)) (found_pairs gs (other_fields g fs)) (field_marks (own_fields g fs)) (found_marks gs (other_fields g fs))
    (mapped_level _ _ (own_fields g fs)) (found_level gs (other_fields g fs))

rests_level : (ss : List TypeModel) (ms : List Told) → length ss ≤ length ms → (gs : List FieldModel) → length (to_rests ss gs) ≤ length (each_rest ms gs)
rests_level ss ms h [] = omega arith
rests_level ss ms h (g ∷ gs) =
    let t = map_value g.field_type in
    let one : length (each_to ss t) ≡ length ss = length-map ss (λ s. (a_type s, a_type t)) in
    let within : length (each_to ss t) ≤ length ms = omega (arith, one, h) in
    joined (each_to ss t) (to_rests ss gs) ms (each_rest ms gs) within (rests_level ss ms h gs)

typed_level : (f : FieldModel → TypeModel) (g : FieldModel → Told) (fs : List FieldModel) → length (map f fs) ≤ length (map g fs)
typed_level f g fs = let a = length-map fs f in let b = length-map fs g in omega (arith, a, b)

members_level : (leads : TypeModel → Bool) (closed : Bool) (fs rs gs qs : List FieldModel) → Level (members_verdict leads closed fs rs gs qs) (members_marks fs rs gs qs)
members_level leads closed fs rs gs qs =
    let ms = members_marks fs rs gs qs in
    let lost = to_rests (map written_type (lost_fields gs fs)) qs in
    let held = to_rests (map (λ f. map_value f.field_type) rs) qs in
    either_level (closed && not (is_none (lost_fields gs fs))) (fails unknown) _ ms tt
    (either_level (not (none_twice gs fs)) (fails twice) _ ms tt
    (either_level (not (none_missing leads gs fs)) (fails missing) _ ms tt
    (either_level (not (is_none rs) && (closed || not (names_within fs gs))) (fails rest_taken) _ ms tt
    (joined (found_pairs gs fs) (lost ++ held) (found_marks gs fs) (each_rest (field_marks (lost_fields gs fs)) qs ++ each_rest (rest_marks rs) qs) (found_level gs fs)
    (joined lost held (each_rest (field_marks (lost_fields gs fs)) qs) (each_rest (rest_marks rs) qs) (rests_level (map written_type (lost_fields gs fs)) (field_marks (lost_fields gs fs)) (typed_level written_type _ (lost_fields gs fs)) qs)
    (rests_level (map (λ f. map_value f.field_type) rs) (rest_marks rs) (typed_level (λ f. map_value f.field_type) _ rs) qs))))))

-- ---- variants

module _ (closed d : Bool) (us : List VariantModel) where
  -- a variant comes before others
  one_level : (b c : Bool) (p : Pair) (w : VariantModel) (v : Verdict) (ws : List VariantModel) → Level v (variant_marks ws) → Level (both (units_verdict b c p) v) (variant_marks (cond (not b) (w ∷ ws) ws))
  one_level true true p w (fails e) ws h = tt
  one_level true true p w (reaches ps) ws h = h
  one_level false false p w (fails e) ws h = tt
  one_level false false p w (reaches ps) ws h = omega (arith, h)
  one_level true false p w v ws h = tt
  one_level false true p w v ws h = tt

  variant_level : (w : VariantModel) (o : Option VariantModel) (v : Verdict) (ws : List VariantModel) → Level v (variant_marks ws)
      → Level (both (variant_verdict closed d w o) v) (variant_marks (cond (not (is_unit w)) (w ∷ ws) ws))
  variant_level w None v ws h = tt
  variant_level w (Some u) v ws h = one_level (is_unit w) (is_unit u) (contents closed w, contents d u) w v ws h

  variants_level : (ws : List VariantModel) → Level (variants_verdict closed d ws us) (variant_marks (with_contents ws))
  variants_level [] = omega arith
  variants_level (w ∷ ws) = variant_level w (variant_named w.serialize_name us) (variants_verdict closed d ws us) (with_contents ws) (variants_level ws)

  beside_level : (w : VariantModel) (o : Option VariantModel) (v : Verdict) (ms : List Told) (m : Told) → Level v ms → Level (both (beside_verdict closed d w o) v) (m ∷ ms)
  beside_level w None v ms m h = tt
  beside_level w (Some u) (fails e) ms m h = tt
  beside_level w (Some u) (reaches ps) ms m h = omega (arith, h)

  besides_level : (ws : List VariantModel) → Level (besides_verdict closed d ws us) (variant_marks ws)
  besides_level [] = omega arith
  besides_level (w ∷ ws) = beside_level w (variant_named w.serialize_name us) (besides_verdict closed d ws us) (variant_marks ws) _ (besides_level ws)

-- ---- the rows

module _ (old new : Table) where
  plain_level : (x y : Form) → Level (plain_row old new x y) (plain_marks x y)
  plain_level (external_form closed ws) (external_form d us) = variants_level closed d us ws
  plain_level (internal_form closed tag ws) (internal_form d tag' us) = either_level (bytes_eq tag tag') (besides_verdict closed d ws us) (fails tag_differs) _ (besides_level closed d us ws) tt
  plain_level (adjacent_form closed tag content ws) (adjacent_form d tag' content' us) =
      either_level (bytes_eq tag tag' && bytes_eq content content') (variants_verdict closed d ws us) (fails tag_differs) _ (variants_level closed d us ws) tt
  plain_level boolean_form boolean_form = omega arith
  plain_level unit_form unit_form = omega arith
  plain_level (integer_form a) (integer_form b) = holds_level _ _ _
  plain_level text_form text_form = omega arith
  plain_level (native_form f) text_form = omega arith
  plain_level (external_form closed ws) text_form = holds_level _ _ _
  plain_level (native_form a) (native_form b) = holds_level _ _ _
  plain_level (list_form e s) (list_form e' t) = omega arith
  plain_level (tuple_form ss) (list_form e t) = each_level ss t
  plain_level (array_form s n) (list_form e t) = omega arith
  plain_level (tuple_form ss) (tuple_form ts) = if_level _ _ _ _ (by_place_level ss ts)
  plain_level (tuple_form ss) (array_form t n) = if_level _ _ _ _ (each_level ss t)
  plain_level (array_form s n) (tuple_form ts) = if_level _ _ _ _ (from_level s ts)
  plain_level (array_form s n) (array_form t m) = if_level _ _ _ _ (items_level s t n (Some item_mark))
  plain_level (map_form a s) (map_form b t) = omega arith
  plain_level (struct_form closed fs) (struct_form d gs) = members_level (leads_to_option new.models) d (plain_fields fs) (rests fs) (plain_fields gs) (rests gs)
  plain_level (external_form closed ws) (internal_form d tag us) = tt
  plain_level (external_form closed ws) (adjacent_form d tag content us) = tt
  plain_level (internal_form closed tag ws) (external_form d us) = tt
  plain_level (internal_form closed tag ws) (adjacent_form d tag' content us) = tt
  plain_level (adjacent_form closed tag content ws) (external_form d us) = tt
  plain_level (adjacent_form closed tag content ws) (internal_form d tag' us) = tt
  plain_level _ _ = tt

  module _ (a b : Node) where
    option_level : (x : Form) (t : TypeModel) → Level (to_option old new a b x t) (None ∷ [])
    option_level (option_form s) t = omega arith
    option_level unit_form t = omega arith
    option_level _ t = omega arith

    untagged_level : (closed : Bool) (us : List VariantModel) → Level (to_untagged old new a b closed us) (None ∷ [])
    untagged_level closed [] = tt
    untagged_level closed (u ∷ us) = either_level (kinds_meet old new a (contents closed u)) (reaches ((a, contents closed u) ∷ [])) (to_untagged old new a b closed us) (None ∷ []) (omega arith) (untagged_level closed us)

    ruled_level : (x : Form) (c : Option RuleD) (t : TypeModel) → Level (to_ruled old new a b x c t) (None ∷ [])
    ruled_level (ruled_form r s) c t = either_level (given_rule_implies r c && is_scalar old.models s) (reaches ((a_type s, a_type t) ∷ [])) (fails steps.rule) (None ∷ []) (omega arith) tt
    ruled_level _ c t = tt

    from_ruled_level : (x y : Form) → Level (steps.from_ruled old new a b x y) (from_ruled x y)
    from_ruled_level (ruled_form r s) y = omega arith
    from_ruled_level x y = plain_level x y

    new_level : (x y : Form) → Level (steps.by_new old new a b x y) (by_new x y)
    new_level x (option_form t) = option_level x t
    new_level x (untagged_form closed us) = untagged_level closed us
    new_level x (ruled_form c t) = ruled_level x c t
    new_level x y = from_ruled_level x y

    each_variant : (closed : Bool) (ws : List VariantModel) → length {A = Pair} (map (λ w. (contents closed w, b)) ws) ≤ length (variant_marks ws)
    each_variant closed [] = omega arith
    each_variant closed (w ∷ ws) = let rec = each_variant closed ws in omega (arith, rec)

    old_level : (x y : Form) → Level (steps.by_old old new a b x y) (marks x y)
    old_level (untagged_form closed ws) y = each_variant closed ws
    old_level x y = new_level x y

    rows_level : (x y : Form) → Level (rows old new a b x y) (marks x y)
    rows_level x any_form = omega arith
    rows_level x y = old_level x y

  step_level : (a b : Node) → Level (step old new a b) (marks_at old new a b)
  step_level a b = rows_level a b (form_of old a) (form_of new b)

  -- ---- ways

  reaches_level : (v : Verdict) (ps : List Pair) (ms : List Told) → v ≡ reaches ps → Level v ms → length ps ≤ length ms
  reaches_level (fails e) ps ms h l = cc
  reaches_level (reaches qs) ps ms h l = let same : qs ≡ ps = cc in subst (λ z. length z ≤ length ms) same l

  told_at : (ms : List Told) (k : ℕ) → k < length ms → (m : Told) × (slice_get ms k ≡ Some m)
  told_at [] k h = absurd (omega (arith, h))
  told_at (m ∷ ms) zero h = (m, refl)
  told_at (m ∷ ms) (suc k) h = let less : k < length ms = omega (arith, h) in told_at ms k less

  number_of : (p : Pair) (ps : List Pair) → IsAmong p ps → (k : ℕ) × (k < length ps) × (slice_get ps k ≡ Some p)
  number_of p _ (first ps) = (0, omega arith, refl)
  number_of p _ (later q ps i) = let r = number_of p ps i in let less = r.1 in (suc r.0, omega (arith, less), r.2)

  told_step : (a b c d : Node) (ps : List Pair) → step old new a b ≡ reaches ps → IsAmong (c, d) ps → (m : Told) × IsStep old new a b m c d
  told_step a b c d ps e i =
      let n = number_of (c, d) ps i in
      let within = reaches_level (step old new a b) ps (marks_at old new a b) e (step_level a b) in
      let less = n.1 in
      let here : n.0 < length (marks_at old new a b) = omega (arith, less, within) in
      let t = told_at (marks_at old new a b) n.0 here in
      (t.0, record { number = n.0; pairs = ps; reached = e; pair = n.2; mark = t.1 })

  abbrev HasWay : Node → Node → Node → Node → Type 0
  HasWay c d a b = (ms : List Mark) × Leads old new c d a b ms

  one_step : (a b c d : Node) (m : Told) → IsStep old new a b m c d → HasWay c d a b
  one_step a b c d None s = ([], inside a b c d [] s there)
  one_step a b c d (Some m) s = (m ∷ [], onward a b c d m [] s there)

  one_more : (c d e f : Node) (m : Told) → IsStep old new c d m e f → (a b : Node) (ms : List Mark) → Leads old new c d a b ms → HasWay e f a b
  one_more c d e f m s _ _ _ there = one_step c d e f m s
  one_more c d e f m s _ _ _ (inside a b x y ms t l) = let r = one_more c d e f m s x y ms l in (r.0, inside a b x y r.0 t r.1)
  one_more c d e f m s _ _ _ (onward a b x y n ms t l) = let r = one_more c d e f m s x y ms l in (n ∷ r.0, onward a b x y n r.0 t r.1)

  has_way : (a b c d : Node) → Reached old new a b c d → HasWay c d a b
  has_way a b _ _ roots = ([], there)
  has_way a b _ _ (further x y c d ps r e i) = let w = has_way a b x y r in let t = told_step x y c d ps e i in one_more x y c d t.0 t.1 a b w.0 w.1

pub reached_led : WhatIsReachedIsLedTo
reached_led old new a b c d r = has_way old new a b c d r
