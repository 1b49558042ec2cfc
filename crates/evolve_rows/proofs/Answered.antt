-- What is asked of a type is what its definition says.
use Rattle.std.proofs.Common.{◌≡◌, ℕ, zero, suc, List, [], ◌∷◌, ◌&&◌, not, Bool, true, false, cond, Option, Some, None, refl, sym, ap, ◌∙◌}
use Rattle.model_defs.specs.Types.{TypeModel, boolean_type, integer_type, text_type, native_type, any_type, unit_type, option_type, boxed_type, vec_type, set_type, map_type, tuple_type, array_type, item_type, outside_type}
use Rattle.model_defs.specs.Model.{struct_style, tuple_style, newtype_style, unit_style, BodyModel, struct_model, enum_model, ContainerModel, container_named}
use Rattle.model_defs.specs.Reads.{allowed, type_leads, body_leads, container_leads, leads_within, leads_to_option}
use Rattle.evolve_defs.specs.Steps as steps
use Rattle.evolve_defs.specs.Steps.{is_scalar_in, body_scalar, container_scalar, is_scalar}
use Rattle.evolve_rows.specs.Asking.{newtype_of}
use Rattle.evolve_rows.specs.Questions.{type_answer, inner_answer, container_answer, item_answer}
use Rattle.evolve_rows.specs.declared.question.Question.{Question}
use Rattle.evolve_rows.specs.declared.question.Question.TheVariants.{Optional, Scalar}

-- an item that may be entered answers what its container does
pub answer_entered : (q : Question) (ms : List ContainerModel) (k left : ℕ) (n : List ℕ) (m : ContainerModel) (b : Bool) → left ≡ suc k → Some m ≡ container_named n ms
    → b ≡ container_answer q (item_answer q ms k) (Some m) → b ≡ item_answer q ms left n
answer_entered q ms k left n m b h e f = f ∙ ap (container_answer q (item_answer q ms k)) e ∙ ap (λ j. item_answer q ms j n) (sym h)

-- ---- leading to an option

module _ (f g : List ℕ → Bool) (same : (n : List ℕ) → f n ≡ g n) where
  type_leads_so : (t : TypeModel) → type_answer Optional f t ≡ type_leads g t
  type_leads_so boolean_type = refl
  type_leads_so (integer_type r) = refl
  type_leads_so text_type = refl
  type_leads_so (native_type x) = refl
  type_leads_so any_type = refl
  type_leads_so unit_type = refl
  type_leads_so (option_type t) = refl
  type_leads_so (boxed_type t) = type_leads_so t
  type_leads_so (vec_type t) = refl
  type_leads_so (set_type t) = refl
  type_leads_so (map_type k t) = refl
  type_leads_so (tuple_type ts) = refl
  type_leads_so (array_type t n) = refl
  type_leads_so (item_type n) = same n
  type_leads_so outside_type = refl

  body_leads_so : (b : BodyModel) → inner_answer Optional f (newtype_of b) ≡ body_leads g b
  body_leads_so (struct_model struct_style fs) = refl
  body_leads_so (struct_model tuple_style fs) = refl
  body_leads_so (struct_model unit_style fs) = refl
  body_leads_so (struct_model newtype_style []) = refl
  body_leads_so (struct_model newtype_style (x ∷ [])) = type_leads_so x.field_type
  body_leads_so (struct_model newtype_style (x ∷ y ∷ fs)) = refl
  body_leads_so (enum_model tag ws) = refl

  inner_leads_so : (b : Bool) (d : BodyModel) → inner_answer Optional f (cond (not b) None (newtype_of d)) ≡ (b && body_leads g d)
  inner_leads_so true d = body_leads_so d
  inner_leads_so false d = refl

  container_leads_so : (o : Option ContainerModel) → container_answer Optional f o ≡ container_leads g o
  container_leads_so None = refl
  container_leads_so (Some m) = inner_leads_so m.transparent m.body

item_leads_so : (ms : List ContainerModel) (k : ℕ) (n : List ℕ) → item_answer Optional ms k n ≡ leads_within ms k n
item_leads_so ms zero n = refl
item_leads_so ms (suc k) n = container_leads_so (item_answer Optional ms k) (leads_within ms k) (item_leads_so ms k) (container_named n ms)

pub leads : (ms : List ContainerModel) (t : TypeModel) (b : Bool) → b ≡ type_answer Optional (item_answer Optional ms (allowed ms)) t → b ≡ leads_to_option ms t
leads ms t b h = h ∙ type_leads_so (item_answer Optional ms (allowed ms)) (leads_within ms (allowed ms)) (item_leads_so ms (allowed ms)) t

-- ---- scalars

module _ (f g : List ℕ → Bool) (same : (n : List ℕ) → f n ≡ g n) where
  type_scalar_so : (t : TypeModel) → type_answer Scalar f t ≡ is_scalar_in g t
  type_scalar_so boolean_type = refl
  type_scalar_so (integer_type r) = refl
  type_scalar_so text_type = refl
  type_scalar_so (native_type x) = refl
  type_scalar_so any_type = refl
  type_scalar_so unit_type = refl
  type_scalar_so (option_type t) = refl
  type_scalar_so (boxed_type t) = type_scalar_so t
  type_scalar_so (vec_type t) = refl
  type_scalar_so (set_type t) = refl
  type_scalar_so (map_type k t) = refl
  type_scalar_so (tuple_type ts) = refl
  type_scalar_so (array_type t n) = refl
  type_scalar_so (item_type n) = same n
  type_scalar_so outside_type = refl

  body_scalar_so : (b : BodyModel) → inner_answer Scalar f (newtype_of b) ≡ body_scalar g b
  body_scalar_so (struct_model struct_style fs) = refl
  body_scalar_so (struct_model tuple_style fs) = refl
  body_scalar_so (struct_model unit_style fs) = refl
  body_scalar_so (struct_model newtype_style []) = refl
  body_scalar_so (struct_model newtype_style (x ∷ [])) = type_scalar_so x.field_type
  body_scalar_so (struct_model newtype_style (x ∷ y ∷ fs)) = refl
  body_scalar_so (enum_model tag ws) = refl

  container_scalar_so : (o : Option ContainerModel) → container_answer Scalar f o ≡ container_scalar g o
  container_scalar_so None = refl
  container_scalar_so (Some m) = body_scalar_so m.body

item_scalar_so : (ms : List ContainerModel) (k : ℕ) (n : List ℕ) → item_answer Scalar ms k n ≡ steps.item_scalar ms k n
item_scalar_so ms zero n = refl
item_scalar_so ms (suc k) n = container_scalar_so (item_answer Scalar ms k) (steps.item_scalar ms k) (item_scalar_so ms k) (container_named n ms)

pub scalar : (ms : List ContainerModel) (t : TypeModel) (b : Bool) → b ≡ type_answer Scalar (item_answer Scalar ms (allowed ms)) t → b ≡ is_scalar ms t
scalar ms t b h = h ∙ type_scalar_so (item_answer Scalar ms (allowed ms)) (steps.item_scalar ms (allowed ms)) (item_scalar_so ms (allowed ms)) t
