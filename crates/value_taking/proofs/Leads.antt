-- Whether a type leads to an option, by what it asks.
use Rattle.std.proofs.Common.{◌≡◌, ℕ, List, [], ◌∷◌, Option, Some, None, Bool, true, false, cond, ◌&&◌, refl, ap, ◌∙◌}
use Rattle.model_defs.specs.Types.{TypeModel, boolean_type, integer_type, text_type, native_type, any_type, unit_type, option_type, boxed_type, vec_type, set_type, map_type, tuple_type, array_type, item_type, outside_type}
use Rattle.model_defs.specs.Model.{struct_style, tuple_style, newtype_style, unit_style, BodyModel, struct_model, enum_model, ContainerModel}
use Rattle.model_defs.specs.Reads.{type_leads, body_leads, container_leads}
use Rattle.value_parts.specs.Leaves.{Absence, absence, an_option, of_item, no_absence}
use Rattle.value_parts.specs.Absences.{newtype_of, inner_of}

module _ (item_leads : List ℕ → Bool) where
  abbrev answer : Absence → Bool
  answer an_option = true
  answer (of_item n) = item_leads n
  answer no_absence = false

  answered : (t : TypeModel) → answer (absence t) ≡ type_leads item_leads t
  answered boolean_type = refl
  answered (integer_type g) = refl
  answered text_type = refl
  answered (native_type f) = refl
  answered any_type = refl
  answered unit_type = refl
  answered (option_type t) = refl
  answered (boxed_type t) = answered t
  answered (vec_type t) = refl
  answered (set_type t) = refl
  answered (map_type k t) = refl
  answered (tuple_type ts) = refl
  answered (array_type t n) = refl
  answered (item_type n) = refl
  answered outside_type = refl

  pub by_option : (t : TypeModel) → an_option ≡ absence t → true ≡ type_leads item_leads t
  by_option t h = ap answer h ∙ answered t

  pub by_nothing : (t : TypeModel) → no_absence ≡ absence t → false ≡ type_leads item_leads t
  by_nothing t h = ap answer h ∙ answered t

  pub by_item : (t : TypeModel) (n : List ℕ) (b : Bool) → of_item n ≡ absence t → b ≡ item_leads n → b ≡ type_leads item_leads t
  by_item t n b h e = e ∙ ap answer h ∙ answered t

  abbrev held : Option TypeModel → Bool
  held None = false
  held (Some t) = type_leads item_leads t

  of_body : (b : BodyModel) → held (newtype_of b) ≡ body_leads item_leads b
  of_body (struct_model struct_style fs) = refl
  of_body (struct_model tuple_style fs) = refl
  of_body (struct_model unit_style fs) = refl
  of_body (struct_model newtype_style []) = refl
  of_body (struct_model newtype_style (f ∷ [])) = refl
  of_body (struct_model newtype_style (f ∷ g ∷ fs)) = refl
  of_body (enum_model tag ws) = refl

  of_container : (b : Bool) (x : BodyModel) → held (cond b (newtype_of x) None) ≡ (b && body_leads item_leads x)
  of_container true x = of_body x
  of_container false x = refl

  pub inside : (m : ContainerModel) (t : TypeModel) (b : Bool) → Some t ≡ inner_of m → b ≡ type_leads item_leads t → b ≡ container_leads item_leads (Some m)
  inside m t b h e = e ∙ ap held h ∙ of_container m.transparent m.body

  pub not_inside : (m : ContainerModel) → None ≡ inner_of m → false ≡ container_leads item_leads (Some m)
  not_inside m h = ap held h ∙ of_container m.transparent m.body
