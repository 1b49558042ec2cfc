-- Types that are known, one level deep.
use Rattle.std.proofs.Common.{◌≡◌, ℕ, suc, ◌+◌, ◌<◌, ◌&&◌, List, drop, drop-cons, length, get_or, Bool, true, false, Option, Some, None, is_some, refl, sym, ap, ◌∙◌, arith}
use Rattle.syntax_trees.specs.declared.tree.Ty.{Ty}
use Rattle.type_spellings.specs.Types.{tuple_of, array_of}
use Rattle.model_defs.specs.Types.{TypeModel, TypeModels, no_types, type_then, types}
use Rattle.value_types.specs.declared.rows.Plain.{Plain}
use Rattle.value_types.specs.declared.rows.Plain.TheVariants.{Boolean, Whole, Signed, Text, Native, Any}
use Rattle.value_types.specs.declared.rows.Holder.{Holder}
use Rattle.value_types.specs.declared.rows.Holder.TheVariants as holders
use Rattle.value_types.specs.RowView.{plain_view, held}
use Rattle.value_types.specs.ShapeView.{type_in, types_in}
use Rattle.container_defs.specs.Forms.{is_known, are_known}

module _ (items : List (List ℕ)) where
  pub plain_known : (p : Plain) (m : TypeModel) → plain_view p ≡ m → true ≡ is_known items m
  plain_known Boolean m e = ap (is_known items) e
  plain_known (Whole l g) m e = ap (is_known items) e
  plain_known (Signed b g) m e = ap (is_known items) e
  plain_known Text m e = ap (is_known items) e
  plain_known (Native f) m e = ap (is_known items) e
  plain_known Any m e = ap (is_known items) e

  pub held_known : (h : Holder) (t m : TypeModel) (b : Bool) → held h t ≡ m → b ≡ is_known items t → b ≡ is_known items m
  held_known holders.Optional t m b e k = k ∙ ap (is_known items) e
  held_known holders.Boxed t m b e k = k ∙ ap (is_known items) e
  held_known holders.List t m b e k = k ∙ ap (is_known items) e
  held_known holders.Set t m b e k = k ∙ ap (is_known items) e

  tuple_known_by : (ts : TypeModels) → are_known items ts ≡ is_known items (tuple_of ts)
  tuple_known_by no_types = refl
  tuple_known_by (type_then t ts) = refl

  pub tuple_known : (ts : TypeModels) (m : TypeModel) (b : Bool) → tuple_of ts ≡ m → b ≡ are_known items ts → b ≡ is_known items m
  tuple_known ts m b e k = k ∙ tuple_known_by ts ∙ ap (is_known items) e

  array_known_by : (t : TypeModel) (o : Option ℕ) → (is_some o && is_known items t) ≡ is_known items (array_of t o)
  array_known_by t None = refl
  array_known_by t (Some n) = refl

  pub array_known : (t m : TypeModel) (o : Option ℕ) → array_of t o ≡ m → (is_some o && is_known items t) ≡ is_known items m
  array_known t m o e = array_known_by t o ∙ ap (is_known items) e

  -- ---- the parts of a tuple

  abbrev pub all_known : List Ty → Bool
  all_known ts = are_known items (types (types_in ts))

  module _ (ts : List Ty) (k : ℕ) (x : Ty) (h : k < length ts) (e : x ≡ get_or ts k x) where
    next : all_known (drop k ts) ≡ (is_known items (type_in x) && all_known (drop (k + 1) ts))
    next =
        let more : suc k ≡ k + 1 = omega arith in
        ap all_known (drop-cons ts k x h) ∙ ap (λ y. is_known items (type_in y) && all_known (drop (suc k) ts)) (sym e) ∙ ap (λ m. is_known items (type_in x) && all_known (drop m ts)) more

    pub known_turn : (w : Bool) → is_known items (type_in x) ≡ true → all_known (drop k ts) ≡ w → all_known (drop (k + 1) ts) ≡ w
    known_turn w q was = ap (λ b. b && all_known (drop (k + 1) ts)) (sym q) ∙ sym next ∙ was

    pub unknown_turn : (w : Bool) → is_known items (type_in x) ≡ false → all_known (drop k ts) ≡ w → false ≡ w
    unknown_turn w q was = ap (λ b. b && all_known (drop (k + 1) ts)) (sym q) ∙ sym next ∙ was
