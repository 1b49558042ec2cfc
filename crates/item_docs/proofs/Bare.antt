-- Types that hold no type, or whose number of places isn't known.
use Rattle.std.proofs.Common.{◌≡◌, ℕ, Bool, true, false, true≢false, List, [], ◌∷◌, Option, Some, None, is_some, refl, sym, ap, ◌∙◌}
use Rattle.syntax_trees.specs.Item.{ItemD}
use Rattle.type_spellings.specs.Types.{array_of, tuple_of}
use Rattle.model_defs.specs.Types.{TypeModel, item_type, types, types_of}
use Rattle.value_types.specs.RowView.{plain_view, held}
use Rattle.value_types.specs.declared.rows.Plain.{Plain}
use Rattle.value_types.specs.declared.rows.Plain.TheVariants.{Boolean, Whole, Signed, Text, Native, Any}
use Rattle.value_types.specs.declared.rows.Holder.{Holder}
use Rattle.value_types.specs.declared.rows.Holder.TheVariants as holders
use Rattle.item_docs.specs.Forms.{bare, item_in, item_at, Form, each_form, places_form, other_form, item_form, held_in, held_or, behind, form_of, form}

-- ---- bare types

bare_plain : (p : Plain) → plain_view p ≡ bare (plain_view p)
bare_plain Boolean = refl
bare_plain (Whole l g) = refl
bare_plain (Signed b g) = refl
bare_plain Text = refl
bare_plain (Native f) = refl
bare_plain Any = refl

bare_tuple : (ts : List TypeModel) → tuple_of (types ts) ≡ bare (tuple_of (types ts))
bare_tuple [] = refl
bare_tuple (t ∷ ts) = refl

bare_array : (t : TypeModel) (o : Option ℕ) → array_of t o ≡ bare (array_of t o)
bare_array t None = refl
bare_array t (Some n) = refl

bare_as : (t u : TypeModel) → u ≡ t → u ≡ bare u → t ≡ bare t
bare_as t u e h = sym e ∙ h ∙ ap bare e

pub plain_is_bare : (p : Plain) (t : TypeModel) → plain_view p ≡ t → t ≡ bare t
plain_is_bare p t e = bare_as t _ e (bare_plain p)

pub tuple_is_bare : (ts : List TypeModel) (t : TypeModel) → tuple_of (types ts) ≡ t → t ≡ bare t
tuple_is_bare ts t e = bare_as t _ e (bare_tuple ts)

pub array_is_bare : (u : TypeModel) (o : Option ℕ) (t : TypeModel) → array_of u o ≡ t → t ≡ bare t
array_is_bare u o t e = bare_as t _ e (bare_array u o)

-- ---- no items

plain_none : (p : Plain) → None ≡ item_in (plain_view p)
plain_none Boolean = refl
plain_none (Whole l g) = refl
plain_none (Signed b g) = refl
plain_none Text = refl
plain_none (Native f) = refl
plain_none Any = refl

held_none : (h : Holder) (t : TypeModel) → None ≡ item_in (held h t)
held_none holders.Optional t = refl
held_none holders.Boxed t = refl
held_none holders.List t = refl
held_none holders.Set t = refl

tuple_none : (ts : List TypeModel) → None ≡ item_in (tuple_of (types ts))
tuple_none [] = refl
tuple_none (t ∷ ts) = refl

array_none : (t : TypeModel) (o : Option ℕ) → None ≡ item_in (array_of t o)
array_none t None = refl
array_none t (Some n) = refl

pub plain_is_no_item : (p : Plain) (t : TypeModel) → plain_view p ≡ t → None ≡ item_in t
plain_is_no_item p t e = plain_none p ∙ ap item_in e

pub held_is_no_item : (h : Holder) (u t : TypeModel) → held h u ≡ t → None ≡ item_in t
held_is_no_item h u t e = held_none h u ∙ ap item_in e

pub tuple_is_no_item : (ts : List TypeModel) (t : TypeModel) → tuple_of (types ts) ≡ t → None ≡ item_in t
tuple_is_no_item ts t e = tuple_none ts ∙ ap item_in e

pub array_is_no_item : (u : TypeModel) (o : Option ℕ) (t : TypeModel) → array_of u o ≡ t → None ≡ item_in t
array_is_no_item u o t e = array_none u o ∙ ap item_in e

-- ---- forms

types_back : (ts : List TypeModel) → types_of (types ts) ≡ ts
types_back [] = refl
types_back (t ∷ ts) = ap (λ us. t ∷ us) (types_back ts)

module _ (is : List ItemD) where
  plain_other : (p : Plain) → other_form ≡ form_of is (plain_view p)
  plain_other Boolean = refl
  plain_other (Whole l g) = refl
  plain_other (Signed b g) = refl
  plain_other Text = refl
  plain_other (Native f) = refl
  plain_other Any = refl

  tuple_places : (ts : List TypeModel) → places_form ts ≡ form_of is (tuple_of (types ts))
  tuple_places [] = refl
  tuple_places (t ∷ ts) = sym (ap places_form (types_back (t ∷ ts)))

  pub plain_form : (p : Plain) (t : TypeModel) → plain_view p ≡ t → other_form ≡ form_of is t
  plain_form p t e = plain_other p ∙ ap (form_of is) e

  pub tuple_form : (ts : List TypeModel) (t : TypeModel) → tuple_of (types ts) ≡ t → places_form ts ≡ form_of is t
  tuple_form ts t e = tuple_places ts ∙ ap (form_of is) e

  pub array_of_each : (t : TypeModel) (o : Option ℕ) (b : Bool) → b ≡ is_some o → b ≡ true → each_form t ≡ form_of is (array_of t o)
  array_of_each t None b e h = absurd (true≢false (sym h ∙ e))
  array_of_each t (Some n) b e h = refl

  pub array_of_none : (t : TypeModel) (o : Option ℕ) (b : Bool) → b ≡ is_some o → b ≡ false → other_form ≡ form_of is (array_of t o)
  array_of_none t None b e h = refl
  array_of_none t (Some n) b e h = absurd (true≢false (sym e ∙ h))

  -- ---- behind an item

  pub behind_one : (n : List ℕ) (i : Option ItemD) (t : TypeModel) (f : Form) → i ≡ item_at is n → Some t ≡ held_in i → f ≡ form_of is (bare (behind is (behind is t))) → f ≡ form is (item_type n)
  behind_one n i t f e h g = g ∙ ap (λ o. form_of is (bare (behind is (behind is (held_or (item_type n) o))))) (h ∙ ap held_in e)

  pub behind_none : (n : List ℕ) (i : Option ItemD) (f : Form) → i ≡ item_at is n → None ≡ held_in i → f ≡ item_form i → f ≡ form is (item_type n)
  behind_none n i f e h g =
      let once : item_type n ≡ behind is (item_type n) = ap (held_or (item_type n)) (h ∙ ap held_in e) in
      g ∙ ap item_form e ∙ ap (λ t. form_of is (bare t)) (once ∙ ap (behind is) (once ∙ ap (behind is) once))
