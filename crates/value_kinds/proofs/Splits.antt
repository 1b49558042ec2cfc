-- What may be read is what is read without items, or by some item that is asked.
use Rattle.std.proofs.Common.{◌≡◌, ℕ, List, [], ◌∷◌, ◌++◌, Bool, true, false, ◌&&◌, ◌||◌, not, refl, sym, ap, ◌∙◌}
use Rattle.std.specs.Bool.{beq}
use Rattle.std.specs.List.{list_all, list_any}
use Rattle.model_defs.specs.Types.{TypeModel, boolean_type, integer_type, text_type, native_type, any_type, unit_type, option_type, boxed_type, vec_type, set_type, map_type, tuple_type, array_type, item_type, outside_type}
use Rattle.model_defs.specs.Model.{Style, struct_style, tuple_style, newtype_style, unit_style, FieldModel, VariantModel, TagModel, external_tag, internal_tag, adjacent_tag, untagged, BodyModel, struct_model, enum_model, ContainerModel}
use Rattle.model_defs.specs.Layer.{Content, one_type, places, named_fields, fields_content, variant_content}
use Rattle.model_defs.specs.Reads.{allowed}
use Rattle.model_defs.specs.Reach.{asked, asked_by_content, asked_by_variants, asked_by_body}
use Rattle.writing_laws.specs.Kinds.{Kind, nulls, booleans, numbers, texts, lists, objects, same_kind, type_may, content_may, enum_may, body_may, may_within, content_may_read}
use Rattle.value_kinds.specs.Claims.{no_item, claim_of, fields_claim}
use Rattle.value_kinds.specs.Kinds.{has, kinds_where}
use Rattle.value_kinds.specs.Rounds.{claimed_kinds}
use Rattle.value_kinds.specs.declared.type_kinds.TypeKinds.{TypeKinds}

pub has_where : (test : Kind → Bool) (k : Kind) → has (kinds_where test) k ≡ test k
has_where test nulls = refl
has_where test booleans = refl
has_where test numbers = refl
has_where test texts = refl
has_where test lists = refl
has_where test objects = refl

pub or_false : (b : Bool) → b ≡ (b || false)
or_false true = refl
or_false false = refl

or_after : (a b c : Bool) → (a || (b || c)) ≡ ((a || b) || c)
or_after true b c = refl
or_after false b c = refl

or_crossed : (a b c d : Bool) → ((a || b) || (c || d)) ≡ ((a || c) || (b || d))
or_crossed true b c d = refl
or_crossed false true true d = refl
or_crossed false true false d = refl
or_crossed false false c d = refl

any_after : {X : Type 0} (test : X → Bool) (xs ys : List X) → list_any test (xs ++ ys) ≡ (list_any test xs || list_any test ys)
any_after test [] ys = refl
any_after test (x ∷ xs) ys = ap (λ b. test x || b) (any_after test xs ys) ∙ or_after (test x) (list_any test xs) (list_any test ys)

module _ (k : Kind) (f : List ℕ → Bool) where
  pub type_split : (t : TypeModel) → type_may k f t ≡ (type_may k no_item t || list_any f (asked t))
  type_split boolean_type = or_false (same_kind k booleans)
  type_split (integer_type g) = or_false (same_kind k numbers)
  type_split text_type = or_false (same_kind k texts)
  type_split (native_type g) = or_false (same_kind k texts)
  type_split any_type = refl
  type_split unit_type = or_false (same_kind k nulls)
  type_split (option_type t) = ap (λ b. same_kind k nulls || b) (type_split t) ∙ or_after (same_kind k nulls) (type_may k no_item t) (list_any f (asked t))
  type_split (boxed_type t) = type_split t
  type_split (vec_type t) = or_false (same_kind k lists)
  type_split (set_type t) = or_false (same_kind k lists)
  type_split (map_type n t) = or_false (same_kind k objects)
  type_split (tuple_type ts) = or_false (same_kind k lists)
  type_split (array_type t n) = or_false (same_kind k lists)
  type_split (item_type n) = or_false (f n)
  type_split outside_type = refl

  pub content_split : (c : Content) → content_may k f c ≡ (content_may k no_item c || list_any f (asked_by_content c))
  content_split (one_type t) = type_split t
  content_split (places ts) = or_false (same_kind k lists)
  content_split (named_fields closed fs) = or_false (same_kind k objects)

  variants_split : (closed : Bool) (ws : List VariantModel)
      → list_any (λ w. content_may k f (variant_content closed w)) ws ≡ (list_any (λ w. content_may k no_item (variant_content closed w)) ws || list_any f (asked_by_variants closed ws))
  variants_split closed [] = refl
  variants_split closed (w ∷ ws) =
      let c = variant_content closed w in
      let own = list_any (λ w. content_may k no_item (variant_content closed w)) ws in
      (λ i. content_split c i || variants_split closed ws i)
      ∙ or_crossed (content_may k no_item c) (list_any f (asked_by_content c)) own (list_any f (asked_by_variants closed ws))
      ∙ ap (λ b. (content_may k no_item c || own) || b) (sym (any_after f (asked_by_content c) (asked_by_variants closed ws)))

  pub body_split : (closed : Bool) (b : BodyModel) → body_may k f closed b ≡ (body_may k no_item closed b || list_any f (asked_by_body closed b))
  body_split closed (struct_model struct_style fs) = or_false (same_kind k objects)
  body_split closed (struct_model newtype_style []) = refl
  body_split closed (struct_model newtype_style (x ∷ [])) = type_split x.field_type
  body_split closed (struct_model newtype_style (x ∷ y ∷ fs)) = refl
  body_split closed (struct_model tuple_style fs) = refl
  body_split closed (struct_model unit_style fs) = refl
  body_split closed (enum_model external_tag ws) = or_false (enum_may k f closed external_tag ws)
  body_split closed (enum_model (internal_tag t) ws) = or_false (same_kind k objects)
  body_split closed (enum_model (adjacent_tag t c) ws) = or_false (same_kind k objects)
  body_split closed (enum_model untagged ws) = variants_split closed ws

-- ---- claims

pub claimed : (ms : List ContainerModel) (c : Content) → claimed_kinds ms (claim_of c) ≡ kinds_where (λ k. content_may_read k ms c)
claimed ms c = λ i. kinds_where (λ k. sym (content_split k (may_within k ms (allowed ms)) c) i)

-- whether unknown members are refused changes nothing
pub fields_alike : (closed : Bool) (s : Style) (fs : List FieldModel) → fields_claim s fs ≡ claim_of (fields_content closed s fs)
fields_alike closed struct_style fs = refl
fields_alike closed tuple_style fs = refl
fields_alike closed newtype_style [] = refl
fields_alike closed newtype_style (x ∷ []) = refl
fields_alike closed newtype_style (x ∷ y ∷ fs) = refl
fields_alike closed unit_style fs = refl

pub variants_alike : (closed : Bool) (ws : List VariantModel) → asked_by_variants false ws ≡ asked_by_variants closed ws
variants_alike closed [] = refl
variants_alike closed (w ∷ ws) =
    let one = ap (λ d. d.asked) (fields_alike closed w.style w.fields) in
    let rest = variants_alike closed ws in
    λ i. one i ++ rest i

pub enums_alike : (k : Kind) (closed : Bool) (tag : TagModel) (ws : List VariantModel) → enum_may k no_item false tag ws ≡ enum_may k no_item closed tag ws
enums_alike k closed external_tag ws = refl
enums_alike k closed (internal_tag t) ws = refl
enums_alike k closed (adjacent_tag t c) ws = refl
enums_alike k closed untagged [] = refl
enums_alike k closed untagged (w ∷ ws) =
    let one = sym (has_where (λ k. content_may k no_item (variant_content false w)) k) ∙ ap (λ d. has d.own k) (fields_alike closed w.style w.fields) ∙ has_where (λ k. content_may k no_item (variant_content closed w)) k in
    let rest = enums_alike k closed untagged ws in
    λ i. one i || rest i

pub bodies_alike : (k : Kind) (closed : Bool) (b : BodyModel) → body_may k no_item false b ≡ body_may k no_item closed b
bodies_alike k closed (struct_model struct_style fs) = refl
bodies_alike k closed (struct_model newtype_style []) = refl
bodies_alike k closed (struct_model newtype_style (x ∷ [])) = refl
bodies_alike k closed (struct_model newtype_style (x ∷ y ∷ fs)) = refl
bodies_alike k closed (struct_model tuple_style fs) = refl
bodies_alike k closed (struct_model unit_style fs) = refl
bodies_alike k closed (enum_model tag ws) = enums_alike k closed tag ws

-- an item that is claimed
pub claims_item : (ms : List ContainerModel) (own x y : TypeKinds) (n : List ℕ) → x ≡ kinds_where (λ k. may_within k ms (allowed ms) n) → y ≡ kinds_where (λ k. has own k || has x k)
    → y ≡ claimed_kinds ms (record { own = own; asked = n ∷ [] })
claims_item ms own x y n e h =
    h ∙ ap (λ x. kinds_where (λ k. has own k || has x k)) e ∙ (λ i. kinds_where (λ k. has own k || or_false (may_within k ms (allowed ms) n) i))

-- ---- kinds apart

pub none_meet : (test : Kind → Bool) (ks : List Kind) → not (list_any test ks) ≡ list_all (λ k. not (test k)) ks
none_meet test [] = refl
none_meet test (k ∷ ks) = not_either (test k) (list_any test ks) ∙ ap (λ b. not (test k) && b) (none_meet test ks)
  where
    not_either : (a b : Bool) → not (a || b) ≡ (not a && not b)
    not_either true b = refl
    not_either false b = refl

-- ---- kinds compared

left_true : (a b : Bool) → (a && b) ≡ true → a ≡ true
left_true true b h = refl
left_true false b h = h

right_true : (a b : Bool) → (a && b) ≡ true → b ≡ true
right_true true b h = h
right_true false b h = cc

alike : (a b : Bool) → beq a b ≡ true → a ≡ b
alike true true h = refl
alike true false h = cc
alike false true h = cc
alike false false h = refl

pub same_kinds : (x y : TypeKinds) (r : Bool)
    → r ≡ (beq x.null y.null && (beq x.boolean y.boolean && (beq x.number y.number && (beq x.string y.string && (beq x.array y.array && beq x.object y.object))))) → r ≡ true → x ≡ y
same_kinds x y r e h =
    let first = sym e ∙ h in
    let second = right_true (beq x.null y.null) (beq x.boolean y.boolean && (beq x.number y.number && (beq x.string y.string && (beq x.array y.array && beq x.object y.object)))) first in
    let third = right_true (beq x.boolean y.boolean) (beq x.number y.number && (beq x.string y.string && (beq x.array y.array && beq x.object y.object))) second in
    let fourth = right_true (beq x.number y.number) (beq x.string y.string && (beq x.array y.array && beq x.object y.object)) third in
    let fifth = right_true (beq x.string y.string) (beq x.array y.array && beq x.object y.object) fourth in
    let null = alike x.null y.null (left_true (beq x.null y.null) (beq x.boolean y.boolean && (beq x.number y.number && (beq x.string y.string && (beq x.array y.array && beq x.object y.object)))) first) in
    let boolean = alike x.boolean y.boolean (left_true (beq x.boolean y.boolean) (beq x.number y.number && (beq x.string y.string && (beq x.array y.array && beq x.object y.object))) second) in
    let number = alike x.number y.number (left_true (beq x.number y.number) (beq x.string y.string && (beq x.array y.array && beq x.object y.object)) third) in
    let string = alike x.string y.string (left_true (beq x.string y.string) (beq x.array y.array && beq x.object y.object) fourth) in
    let array = alike x.array y.array (left_true (beq x.array y.array) (beq x.object y.object) fifth) in
    let object = alike x.object y.object (right_true (beq x.array y.array) (beq x.object y.object) fifth) in
    λ i. record { null = null i; boolean = boolean i; number = number i; string = string i; array = array i; object = object i }
