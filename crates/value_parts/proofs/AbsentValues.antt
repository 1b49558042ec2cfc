-- What an absence is, by what its type asks.
use Rattle.std.proofs.Common.{◌≡◌, ℕ, List, [], ◌∷◌, Option, Some, None, option_map, Bool, true, false, cond, refl, sym, ap, ◌∙◌}
use Rattle.model_defs.specs.Types.{TypeModel, boolean_type, integer_type, text_type, native_type, any_type, unit_type, option_type, boxed_type, vec_type, set_type, map_type, tuple_type, array_type, item_type, outside_type}
use Rattle.model_defs.specs.Model.{Style, newtype_style, struct_style, tuple_style, unit_style, FieldModel, BodyModel, struct_model, enum_model, ContainerModel}
use Rattle.typed_defs.specs.Typed as typed
use Rattle.typed_defs.specs.Typed.{Typed}
use Rattle.reading_defs.specs.Reading.{type_absent, body_absent, container_absent}
use Rattle.value_parts.specs.Leaves.{Absence, absence, an_option, of_item, no_absence}
use Rattle.value_parts.specs.Absences.{newtype_of, inner_of}

module _ (item_absent : List ℕ → Option Typed) where
  abbrev pub answer : Absence → Option Typed
  answer an_option = Some typed.none
  answer (of_item n) = item_absent n
  answer no_absence = None

  answered : (t : TypeModel) → answer (absence t) ≡ type_absent item_absent t
  answered boolean_type = refl
  answered (integer_type g) = refl
  answered text_type = refl
  answered (native_type f) = refl
  answered any_type = refl
  answered unit_type = refl
  answered (option_type t) = refl
  answered (boxed_type t) = answered t
  answered (vec_type t) = refl
  answered (set_type t) = refl
  answered (map_type k t) = refl
  answered (tuple_type ts) = refl
  answered (array_type t n) = refl
  answered (item_type n) = refl
  answered outside_type = refl

  pub by_option : (t : TypeModel) → an_option ≡ absence t → Some typed.none ≡ type_absent item_absent t
  by_option t h = ap answer h ∙ answered t

  pub by_nothing : (t : TypeModel) → no_absence ≡ absence t → None ≡ type_absent item_absent t
  by_nothing t h = ap answer h ∙ answered t

  pub by_item : (t : TypeModel) (n : List ℕ) (o : Option Typed) → of_item n ≡ absence t → o ≡ item_absent n → o ≡ type_absent item_absent t
  by_item t n o h e = e ∙ ap answer h ∙ answered t

  abbrev held : Option TypeModel → Option Typed
  held None = None
  held (Some t) = option_map typed.newtype (type_absent item_absent t)

  of_body : (b : BodyModel) → held (newtype_of b) ≡ body_absent item_absent b
  of_body (struct_model struct_style fs) = refl
  of_body (struct_model tuple_style fs) = refl
  of_body (struct_model unit_style fs) = refl
  of_body (struct_model newtype_style []) = refl
  of_body (struct_model newtype_style (f ∷ [])) = refl
  of_body (struct_model newtype_style (f ∷ g ∷ fs)) = refl
  of_body (enum_model tag ws) = refl

  of_container : (m : ContainerModel) (b : Bool) → m.transparent ≡ b → held (cond b (newtype_of m.body) None) ≡ cond b (body_absent item_absent m.body) None
  of_container m true h = of_body m.body
  of_container m false h = refl

  inner_held : (m : ContainerModel) → held (inner_of m) ≡ container_absent item_absent (Some m)
  inner_held m = of_container m m.transparent refl

  pub inside : (m : ContainerModel) (t : TypeModel) (o p : Option Typed) → Some t ≡ inner_of m → p ≡ type_absent item_absent t → o ≡ option_map typed.newtype p → o ≡ container_absent item_absent (Some m)
  inside m t o p h e g = g ∙ ap (option_map typed.newtype) e ∙ ap held h ∙ inner_held m

  pub not_inside : (m : ContainerModel) → None ≡ inner_of m → None ≡ container_absent item_absent (Some m)
  not_inside m h = ap held h ∙ inner_held m
