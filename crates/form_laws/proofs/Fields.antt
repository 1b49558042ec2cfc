-- Fields within the forms have fit models.
use Rattle.std.proofs.Common.{◌≡◌, ℕ, List, [], ◌∷◌, map, Bool, true, false, not, ◌&&◌, ◌||◌, Option, Some, None, is_some, refl, sym, ap, ◌∙◌}
use Rattle.std.specs.Prelude.{if◌then◌else◌}
use Rattle.std.specs.List.{list_any, list_all}
use Rattle.syntax_trees.specs.Syntax.{ExprPathD}
use Rattle.attr_parts.specs.Values.{DefaultD, no_default, own_default, path_default, lacks_default}
use Rattle.model_defs.specs.Types.{TypeModel, boolean_type, integer_type, text_type, native_type, any_type, unit_type, option_type, boxed_type, vec_type, set_type, map_type, tuple_type, array_type, item_type, outside_type}
use Rattle.model_defs.specs.Model as model
use Rattle.model_defs.specs.Model.{FieldModel, some_helper, whole_helper, no_helper}
use Rattle.typed_defs.specs.Fit.{may_be_empty, is_rest_type, has_default, is_default_fit, is_helper_fit, has_no_helper, is_field_fit, are_fields_fit}
use Rattle.container_defs.specs.Container.{ReadField}
use Rattle.container_defs.specs.Reader.{default_at, default_place, default_model, helper_of, field_model, reads_some, reads_whole}
use Rattle.container_defs.specs.Forms.{holds, empties, is_own, is_option, is_text_map, has_odd_emptiness, has_odd_some, has_odd_whole, is_odd_rest, field_type}

-- ---- Booleans

pub first_false : (a b : Bool) → (a || b) ≡ false → a ≡ false
first_false true b h = cc
first_false false b h = refl

pub then_false : (a b : Bool) → (a || b) ≡ false → b ≡ false
then_false true b h = cc
then_false false b h = h

pub true_of_not : (a : Bool) → not a ≡ false → a ≡ true
true_of_not true h = refl
true_of_not false h = cc

pub both_true : (a b : Bool) → a ≡ true → b ≡ true → (a && b) ≡ true
both_true true b h k = k
both_true false b h k = cc

-- ---- defaults

emptied_may : (t : TypeModel) (p : ExprPathD) → empties t p ≡ true → may_be_empty t ≡ true
emptied_may boolean_type p h = cc
emptied_may (integer_type r) p h = cc
emptied_may text_type p h = cc
emptied_may (native_type f) p h = cc
emptied_may any_type p h = cc
emptied_may unit_type p h = cc
emptied_may (option_type t) p h = refl
emptied_may (boxed_type t) p h = cc
emptied_may (vec_type t) p h = refl
emptied_may (set_type t) p h = refl
emptied_may (map_type k t) p h = refl
emptied_may (tuple_type ts) p h = cc
emptied_may (array_type t n) p h = cc
emptied_may (item_type n) p h = cc
emptied_may outside_type p h = cc

placed_fit : (o : Option ℕ) (m : FieldModel) → is_default_fit (default_at o) m ≡ not m.skip
placed_fit None m = refl
placed_fit (Some n) m = refl

abbrev odd : DefaultD → Option ExprPathD → TypeModel → Bool
odd d s t = (is_own d || is_some s) && not (is_own d && holds (empties t) s)

default_fits : (d : DefaultD) (s : Option ExprPathD) (t : TypeModel) (m : FieldModel) → m.skip ≡ is_some s → m.field_type ≡ t → odd d s t ≡ false → is_default_fit (default_model d) m ≡ true
default_fits no_default None t m e g h = ap not e
default_fits no_default (Some p) t m e g h = cc
default_fits own_default None t m e g h = cc
default_fits own_default (Some p) t m e g h = both_true m.skip (may_be_empty m.field_type) e (ap may_be_empty g ∙ emptied_may t p (true_of_not (empties t p) h))
default_fits (path_default q) None t m e g h = placed_fit (default_place q) m ∙ ap not e
default_fits (path_default q) (Some p) t m e g h = cc

-- ---- helpers

nothing_given : (d : DefaultD) → lacks_default d ≡ true → has_default (default_model d) ≡ false
nothing_given no_default h = refl
nothing_given own_default h = cc
nothing_given (path_default q) h = cc

helper_by : (a b : Bool) (d : DefaultD) (t : TypeModel) (m : FieldModel) → m.field_type ≡ t → m.default ≡ default_model d → (a && not (is_option t)) ≡ false → (b && not (lacks_default d)) ≡ false
    → is_helper_fit (if a then some_helper else if b then whole_helper else no_helper) m ≡ true
helper_by true b d t m e g h k = ap is_option e ∙ true_of_not (is_option t) h
helper_by false true d t m e g h k = ap (λ x. not (has_default x)) g ∙ ap not (nothing_given d (true_of_not (lacks_default d) k))
helper_by false false d t m e g h k = refl

helper_fits : (w : Option ExprPathD) (d : DefaultD) (t : TypeModel) (m : FieldModel) → m.field_type ≡ t → m.default ≡ default_model d → (holds reads_some w && not (is_option t)) ≡ false → (holds reads_whole w && not (lacks_default d)) ≡ false
    → is_helper_fit (helper_of w) m ≡ true
helper_fits None d t m e g h k = refl
helper_fits (Some p) d t m e g h k = helper_by (reads_some p) (reads_whole p) d t m e g h k

-- ---- rests

rest_fits : (flatten : Bool) (w : Option ExprPathD) (t : TypeModel) → (flatten && (is_some w || not (is_text_map t))) ≡ false → (not flatten || (is_rest_type t && has_no_helper (helper_of w))) ≡ true
rest_fits false w t h = refl
rest_fits true None t h = both_true (is_rest_type t) true (true_of_not (is_text_map t) h) refl
rest_fits true (Some p) t h = cc

-- ---- fields

pub field_fits : (f : ReadField) → has_odd_emptiness f ≡ false → has_odd_some f ≡ false → has_odd_whole f ≡ false → is_odd_rest f ≡ false → is_field_fit (field_model f) ≡ true
field_fits f e s w r =
    let m = field_model f in
    let d = default_fits f.attrs.default f.attrs.skip_serializing_if (field_type f) m refl refl e in
    let h = helper_fits f.attrs.deserialize_with f.attrs.default (field_type f) m refl refl s w in
    both_true (is_default_fit m.default m && is_helper_fit m.helper m) (not m.is_rest || (is_rest_type m.field_type && has_no_helper m.helper)) (both_true (is_default_fit m.default m) (is_helper_fit m.helper m) d h) (rest_fits f.attrs.flatten f.attrs.deserialize_with (field_type f) r)

-- no field of those is odd in one of four ways
pub record NoneOdd (fs : List ReadField) : Type 0 where
  pub emptiness : list_any has_odd_emptiness fs ≡ false
  pub some : list_any has_odd_some fs ≡ false
  pub whole : list_any has_odd_whole fs ≡ false
  pub rest : list_any is_odd_rest fs ≡ false

pub fields_fit : (fs : List ReadField) → NoneOdd fs → are_fields_fit (map field_model fs) ≡ true
fields_fit [] n = refl
fields_fit (f ∷ fs) n =
    both_true (is_field_fit (field_model f)) (are_fields_fit (map field_model fs))
    (field_fits f (first_false (has_odd_emptiness f) (list_any has_odd_emptiness fs) n.emptiness) (first_false (has_odd_some f) (list_any has_odd_some fs) n.some) (first_false (has_odd_whole f) (list_any has_odd_whole fs) n.whole)
    (first_false (is_odd_rest f) (list_any is_odd_rest fs) n.rest))
    (fields_fit fs (record {
      emptiness = then_false (has_odd_emptiness f) (list_any has_odd_emptiness fs) n.emptiness;
      some = then_false (has_odd_some f) (list_any has_odd_some fs) n.some;
      whole = then_false (has_odd_whole f) (list_any has_odd_whole fs) n.whole;
      rest = then_false (is_odd_rest f) (list_any is_odd_rest fs) n.rest;
    }))
