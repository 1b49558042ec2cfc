-- What is seen at a type, by what it asks for, and at an item, by what it holds.
use Rattle.std.proofs.Common.{◌≡◌, ◌+◌, ℕ, suc, List, [], ◌∷◌, Bool, Option, Some, None, refl, sym, ap, ◌∙◌, Vec, Global}
use Rattle.model_defs.specs.Types.{TypeModel, boolean_type, integer_type, text_type, native_type, any_type, unit_type, option_type, boxed_type, vec_type, set_type, map_type, tuple_type, array_type, item_type, outside_type, types, types_of}
use Rattle.model_defs.specs.Model.{struct_style, tuple_style, newtype_style, unit_style, FieldModel, external_tag, internal_tag, adjacent_tag, untagged, BodyModel, struct_model, enum_model, ContainerModel, RuleD, container_named}
use Rattle.model_defs.specs.Reads.{allowed}
use Rattle.value_models.specs.TypeView.{type_step, type_view, types_view}
use Rattle.value_models.specs.declared.value_type.ValueType.{ValueType, fold-roll-ValueType}
use Rattle.value_models.specs.declared.value_type.ValueType.TheOpen.{ValueType-F}
use Rattle.value_models.specs.declared.value_type.ValueType.TheVariants as types'
use Rattle.evolve_defs.specs.Forms.{Table, Form, no_form, tuple_form, type_form, contents_form, newtype_form, body_form, container_form, item_form}
use Rattle.evolve_defs.specs.Spots.{type_home, contents_home, newtype_home, body_home, container_home, item_home}
use Rattle.evolve_rows.specs.Asking.{Asked, of_item, known, form_asked, newtype_of, plain_form, plain_home}

types_back : (ts : List TypeModel) → types_of (types ts) ≡ ts
types_back [] = refl
types_back (t ∷ ts) = ap (λ us. t ∷ us) (types_back ts)

tuple_known : (ts : List TypeModel) (t : TypeModel) → tuple_type (types ts) ≡ t → known (tuple_form ts) ≡ form_asked t
tuple_known ts t h = ap (λ us. known (tuple_form us)) (sym (types_back ts)) ∙ ap form_asked h

tuple_seen : (ts : Vec ValueType Global) → type_view (types'.Tuple ts) ≡ tuple_type (types (types_view ts.items))
tuple_seen ts = ap type_view (sym (types'.rolls-Tuple ts)) ∙ fold-roll-ValueType TypeModel type_step (ValueType-F.Tuple ts)

pub tuple_asked : (t : ValueType) (us : Vec ValueType Global) (ts : List ValueType) → t ≡ types'.Tuple us → ts ≡ us.items → known (tuple_form (types_view ts)) ≡ form_asked (type_view t)
tuple_asked t us ts e i = tuple_known (types_view ts) (type_view t) (ap (λ xs. tuple_type (types (types_view xs))) i ∙ sym (ap type_view e ∙ tuple_seen us))

-- an item that may be entered is what its container is
pub form_entered : (t : Table) (k left : ℕ) (n : List ℕ) (m : ContainerModel) (x : Form) → left ≡ suc k → Some m ≡ container_named n t.models
    → x ≡ container_form (item_form t k) t.conversions (Some m) → x ≡ item_form t left n
form_entered t k left n m x h e f = f ∙ ap (container_form (item_form t k) t.conversions) e ∙ ap (λ j. item_form t j n) (sym h)

pub home_entered : (ms : List ContainerModel) (k left : ℕ) (n : List ℕ) (m : ContainerModel) (x : List ℕ) → left ≡ suc k → Some m ≡ container_named n ms
    → x ≡ container_home (item_home ms k) n (Some m) → x ≡ item_home ms left n
home_entered ms k left n m x h e f = f ∙ ap (container_home (item_home ms k) n) e ∙ ap (λ j. item_home ms j n) (sym h)

-- as many items as the table has, and one more
pub form_fresh : (t : Table) (s : TypeModel) (k : ℕ) (x : Form) → k + 1 ≡ allowed t.models → x ≡ type_form (item_form t (k + 1)) s → x ≡ type_form (item_form t (allowed t.models)) s
form_fresh t s k x h e = e ∙ ap (λ j. type_form (item_form t j) s) h

pub home_fresh : (ms : List ContainerModel) (s : TypeModel) (k : ℕ) (x : List ℕ) → k + 1 ≡ allowed ms → x ≡ type_home (item_home ms (k + 1)) s → x ≡ type_home (item_home ms (allowed ms)) s
home_fresh ms s k x h e = e ∙ ap (λ j. type_home (item_home ms j) s) h

module _ (f : List ℕ → Form) where
  abbrev alone : Option TypeModel → Form
  alone None = no_form
  alone (Some t) = type_form f t

  alone_seen : (closed : Bool) (fs : List FieldModel) → alone (newtype_of (struct_model newtype_style fs)) ≡ contents_form f closed newtype_style fs
  alone_seen closed [] = refl
  alone_seen closed (g ∷ []) = refl
  alone_seen closed (g ∷ h ∷ fs) = refl

  pub form_alone : (closed : Bool) (fs : List FieldModel) (t : TypeModel) (x : Form) → Some t ≡ newtype_of (struct_model newtype_style fs) → x ≡ type_form f t → x ≡ contents_form f closed newtype_style fs
  form_alone closed fs t x h e = e ∙ ap alone h ∙ alone_seen closed fs

  pub form_not_alone : (closed : Bool) (fs : List FieldModel) → None ≡ newtype_of (struct_model newtype_style fs) → no_form ≡ contents_form f closed newtype_style fs
  form_not_alone closed fs h = ap alone h ∙ alone_seen closed fs

  abbrev form_answer : Asked Form → Form
  form_answer (of_item n) = f n
  form_answer (known x) = x

  form_answered : (t : TypeModel) → form_answer (form_asked t) ≡ type_form f t
  form_answered boolean_type = refl
  form_answered (integer_type g) = refl
  form_answered text_type = refl
  form_answered (native_type x) = refl
  form_answered any_type = refl
  form_answered unit_type = refl
  form_answered (option_type t) = refl
  form_answered (boxed_type t) = form_answered t
  form_answered (vec_type t) = refl
  form_answered (set_type t) = refl
  form_answered (map_type k t) = refl
  form_answered (tuple_type ts) = refl
  form_answered (array_type t n) = refl
  form_answered (item_type n) = refl
  form_answered outside_type = refl

  pub form_by_item : (t : TypeModel) (n : List ℕ) (x : Form) → of_item n ≡ form_asked t → x ≡ f n → x ≡ type_form f t
  form_by_item t n x h e = e ∙ ap form_answer h ∙ form_answered t

  pub form_known : (t : TypeModel) (x : Form) → known x ≡ form_asked t → x ≡ type_form f t
  form_known t x h = ap form_answer h ∙ form_answered t

  module _ (closed try_from : Bool) (rule : Option RuleD) where
    abbrev form_inside : Option TypeModel → BodyModel → Form
    form_inside None b = plain_form closed b
    form_inside (Some t) b = newtype_form f try_from rule t

    seen_inside : (b : BodyModel) → form_inside (newtype_of b) b ≡ body_form f closed try_from rule b
    seen_inside (struct_model struct_style fs) = refl
    seen_inside (struct_model tuple_style fs) = refl
    seen_inside (struct_model unit_style fs) = refl
    seen_inside (struct_model newtype_style []) = refl
    seen_inside (struct_model newtype_style (g ∷ [])) = refl
    seen_inside (struct_model newtype_style (g ∷ h ∷ fs)) = refl
    seen_inside (enum_model external_tag ws) = refl
    seen_inside (enum_model (internal_tag tag) ws) = refl
    seen_inside (enum_model (adjacent_tag tag content) ws) = refl
    seen_inside (enum_model untagged ws) = refl

    pub form_of_newtype : (b : BodyModel) (t : TypeModel) (x : Form) → Some t ≡ newtype_of b → x ≡ newtype_form f try_from rule t → x ≡ body_form f closed try_from rule b
    form_of_newtype b t x h e = e ∙ ap (λ o. form_inside o b) h ∙ seen_inside b

    pub form_of_plain : (b : BodyModel) (x : Form) → None ≡ newtype_of b → x ≡ plain_form closed b → x ≡ body_form f closed try_from rule b
    form_of_plain b x h e = e ∙ ap (λ o. form_inside o b) h ∙ seen_inside b

module _ (f : List ℕ → List ℕ) where
  abbrev alone_home : Option TypeModel → List ℕ
  alone_home None = []
  alone_home (Some t) = type_home f t

  alone_home_seen : (fs : List FieldModel) → alone_home (newtype_of (struct_model newtype_style fs)) ≡ contents_home f newtype_style fs
  alone_home_seen [] = refl
  alone_home_seen (g ∷ []) = refl
  alone_home_seen (g ∷ h ∷ fs) = refl

  pub home_alone : (fs : List FieldModel) (t : TypeModel) (x : List ℕ) → Some t ≡ newtype_of (struct_model newtype_style fs) → x ≡ type_home f t → x ≡ contents_home f newtype_style fs
  home_alone fs t x h e = e ∙ ap alone_home h ∙ alone_home_seen fs

  pub home_not_alone : (fs : List FieldModel) → None ≡ newtype_of (struct_model newtype_style fs) → [] ≡ contents_home f newtype_style fs
  home_not_alone fs h = ap alone_home h ∙ alone_home_seen fs

  abbrev home_answer : Asked Form → List ℕ
  home_answer (of_item n) = f n
  home_answer (known x) = []

  home_answered : (t : TypeModel) → home_answer (form_asked t) ≡ type_home f t
  home_answered boolean_type = refl
  home_answered (integer_type g) = refl
  home_answered text_type = refl
  home_answered (native_type x) = refl
  home_answered any_type = refl
  home_answered unit_type = refl
  home_answered (option_type t) = refl
  home_answered (boxed_type t) = home_answered t
  home_answered (vec_type t) = refl
  home_answered (set_type t) = refl
  home_answered (map_type k t) = refl
  home_answered (tuple_type ts) = refl
  home_answered (array_type t n) = refl
  home_answered (item_type n) = refl
  home_answered outside_type = refl

  pub home_by_item : (t : TypeModel) (n h : List ℕ) → of_item n ≡ form_asked t → h ≡ f n → h ≡ type_home f t
  home_by_item t n h k e = e ∙ ap home_answer k ∙ home_answered t

  pub home_known : (t : TypeModel) (x : Form) (h : List ℕ) → known x ≡ form_asked t → h ≡ [] → h ≡ type_home f t
  home_known t x h k e = e ∙ ap home_answer k ∙ home_answered t

  module _ (n : List ℕ) (try_from : Bool) where
    abbrev home_inside : Option TypeModel → BodyModel → List ℕ
    home_inside None b = plain_home n b
    home_inside (Some t) b = newtype_home f try_from t

    home_seen : (b : BodyModel) → home_inside (newtype_of b) b ≡ body_home f n try_from b
    home_seen (struct_model struct_style fs) = refl
    home_seen (struct_model tuple_style fs) = refl
    home_seen (struct_model unit_style fs) = refl
    home_seen (struct_model newtype_style []) = refl
    home_seen (struct_model newtype_style (g ∷ [])) = refl
    home_seen (struct_model newtype_style (g ∷ h ∷ fs)) = refl
    home_seen (enum_model tag ws) = refl

    pub home_of_newtype : (b : BodyModel) (t : TypeModel) (h : List ℕ) → Some t ≡ newtype_of b → h ≡ newtype_home f try_from t → h ≡ body_home f n try_from b
    home_of_newtype b t h k e = e ∙ ap (λ o. home_inside o b) k ∙ home_seen b

    pub home_of_plain : (b : BodyModel) (h : List ℕ) → None ≡ newtype_of b → h ≡ plain_home n b → h ≡ body_home f n try_from b
    home_of_plain b h k e = e ∙ ap (λ o. home_inside o b) k ∙ home_seen b
