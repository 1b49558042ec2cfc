-- One more turn of each loop of writing, and its end.
use Rattle.std.proofs.Common.{◌≡◌, ℕ, zero, suc, ◌+◌, ◌<◌, ◌≤◌, List, [], ◌∷◌, ◌++◌, map, drop, length, get_or, slice_get, refl, sym, ap, ◌∙◌, arith, append_assoc, drop-cons, String, string_bytes}
use Rattle.std.specs.declared.alloc.Global.{Global}
use Rattle.std.specs.declared.vec.Vec.{Vec}
use Rattle.std.proofs.lemmas.List.{drop_all, append-nil, map-append}
use Rattle.serde_json.specs.declared.value.Value as value'
use Rattle.serde_json.specs.declared.value.Value.TheVariants as values'
use Rattle.serde_json.proofs.Views.{view-Array}
use Rattle.json_value.specs.View.{value_of, kept_view}
use Rattle.json_value.specs.Value as value
use Rattle.json_value.specs.Value.{Value, Members, items}
use Rattle.model_defs.specs.Types.{TypeModel}
use Rattle.model_defs.specs.Model.{FieldModel, TagModel, ContainerModel}
use Rattle.model_defs.specs.Settled.{put, put_all, text_of}
use Rattle.typed_defs.specs.Typed as typed
use Rattle.typed_defs.specs.Typed.{typeds}
use Rattle.typed_defs.specs.Written.{FieldPart, written, fields_of, fields_write, rests_write, variant_writes, chosen_writes}
use Rattle.value_models.specs.declared.typed.Typed.{Typed}
use Rattle.value_models.specs.declared.value_type.ValueType.{ValueType}
use Rattle.value_models.specs.declared.field.Field.{Field}
use Rattle.value_models.specs.TypeView.{type_view, types_view}
use Rattle.value_models.specs.TypedView.{typed_view, typeds_view, pairs_view}
use Rattle.value_models.specs.declared.variant.Variant.{Variant}
use Rattle.value_models.specs.VariantView.{variant_view, variants_view}
use Rattle.value_models.specs.FieldView.{field_view, fields_view}
use Rattle.value_writing.specs.Seen.{kept_members}
use Rattle.value_writing.specs.Pieces.{pairs_written, placed_written, unnamed_written, field_put, rest_put}
use Rattle.value_writing.proofs.Parts.{kept_items}

mapped_drop : {X Y : Type 0} → (f : X → Y) (xs : List X) (i : ℕ) (x : X) → i < length xs → x ≡ get_or xs i x → map f (drop i xs) ≡ f x ∷ map f (drop (i + 1) xs)
mapped_drop f xs i x h e =
    ap (map f) (drop-cons xs i x h) ∙ ap (λ y. f y ∷ map f (drop (suc i) xs)) (sym e) ∙ ap (λ n. f x ∷ map f (drop n xs)) (let k : suc i ≡ i + 1 = omega arith in k)

mapped_past : {X Y : Type 0} → (f : X → Y) (xs : List X) (i : ℕ) → length xs ≤ i → map f (drop i xs) ≡ []
mapped_past f xs i h = ap (map f) (drop_all i xs h)

-- a value more, and one of those wanted less
more_kept : (old new : List value'.Value) (v : value'.Value) (y : Value) (rest w : List Value) → kept_view v ≡ y → new ≡ old ++ v ∷ [] → map kept_view old ++ y ∷ rest ≡ w → map kept_view new ++ rest ≡ w
more_kept old new v y rest w e n was =
    ap (λ vs. map kept_view vs ++ rest) n ∙ ap (λ ys. ys ++ rest) (map-append kept_view old (v ∷ [])) ∙ append_assoc (map kept_view old) (kept_view v ∷ []) rest
    ∙ ap (λ z. map kept_view old ++ z ∷ rest) e ∙ was

-- the list that is done
pub list_done : (vs : Vec value'.Value Global) (rest w : List Value) → rest ≡ [] → map kept_view vs.items ++ rest ≡ w → kept_view (values'.Array vs) ≡ value.list (items w)
list_done vs rest w e was =
    ap value_of (view-Array vs) ∙ ap value.list (kept_items vs.items ∙ ap items (sym (append-nil (map kept_view vs.items)) ∙ ap (λ r. map kept_view vs.items ++ r) (sym e) ∙ was))

module _ (ms : List ContainerModel) where
  pub item_turn : (t : ValueType) (xs : List Typed) (i : ℕ) (x : Typed) (old new : List value'.Value) (v : value'.Value) (w : List Value)
      → i < length xs → x ≡ get_or xs i x → kept_view v ≡ written ms (type_view t) (typed_view x) → new ≡ old ++ v ∷ []
      → map kept_view old ++ map (λ y. written ms (type_view t) y) (typeds_view (drop i xs)) ≡ w
      → map kept_view new ++ map (λ y. written ms (type_view t) y) (typeds_view (drop (i + 1) xs)) ≡ w
  item_turn t xs i x old new v w h e k n was =
      more_kept old new v (written ms (type_view t) (typed_view x)) (map (λ y. written ms (type_view t) y) (typeds_view (drop (i + 1) xs))) w k n
      (ap (λ ys. map kept_view old ++ map (λ y. written ms (type_view t) y) ys) (sym (mapped_drop typed_view xs i x h e)) ∙ was)

  pub items_end : (t : ValueType) (xs : List Typed) (i : ℕ) (vs : Vec value'.Value Global) (w : List Value) → length xs ≤ i
      → map kept_view vs.items ++ map (λ y. written ms (type_view t) y) (typeds_view (drop i xs)) ≡ w → kept_view (values'.Array vs) ≡ value.list (items w)
  items_end t xs i vs w h was = list_done vs (map (λ y. written ms (type_view t) y) (typeds_view (drop i xs))) w (ap (map (λ y. written ms (type_view t) y)) (mapped_past typed_view xs i h)) was

  pub place_turn : (ts : List ValueType) (xs : List Typed) (i : ℕ) (t : ValueType) (x : Typed) (old new : List value'.Value) (v : value'.Value) (w : List Value)
      → i < length xs → x ≡ get_or xs i x → i < length ts → t ≡ get_or ts i t → kept_view v ≡ written ms (type_view t) (typed_view x) → new ≡ old ++ v ∷ []
      → map kept_view old ++ placed_written ms (types_view (drop i ts)) (typeds_view (drop i xs)) ≡ w
      → map kept_view new ++ placed_written ms (types_view (drop (i + 1) ts)) (typeds_view (drop (i + 1) xs)) ≡ w
  place_turn ts xs i t x old new v w h e l g k n was =
      more_kept old new v (written ms (type_view t) (typed_view x)) (placed_written ms (types_view (drop (i + 1) ts)) (typeds_view (drop (i + 1) xs))) w k n
      (sym (λ j. map kept_view old ++ placed_written ms (mapped_drop type_view ts i t l g j) (mapped_drop typed_view xs i x h e j)) ∙ was)

  pub place_skip : (ts : List ValueType) (xs : List Typed) (i : ℕ) (old : List value'.Value) (w : List Value)
      → length ts ≤ i → map kept_view old ++ placed_written ms (types_view (drop i ts)) (typeds_view (drop i xs)) ≡ w
      → map kept_view old ++ placed_written ms (types_view (drop (i + 1) ts)) (typeds_view (drop (i + 1) xs)) ≡ w
  place_skip ts xs i old w h was =
      let past : length ts ≤ i + 1 = omega arith in
      ap (λ us. map kept_view old ++ placed_written ms us (typeds_view (drop (i + 1) xs))) (mapped_past type_view ts (i + 1) past)
      ∙ ap (λ us. map kept_view old ++ placed_written ms us (typeds_view (drop i xs))) (sym (mapped_past type_view ts i h)) ∙ was

  pub places_end : (ts : List ValueType) (xs : List Typed) (i : ℕ) (vs : Vec value'.Value Global) (w : List Value) → length xs ≤ i
      → map kept_view vs.items ++ placed_written ms (types_view (drop i ts)) (typeds_view (drop i xs)) ≡ w → kept_view (values'.Array vs) ≡ value.list (items w)
  places_end ts xs i vs w h was =
      list_done vs (placed_written ms (types_view (drop i ts)) (typeds_view (drop i xs))) w
      (ap (placed_written ms (types_view (drop i ts))) (mapped_past typed_view xs i h) ∙ none_placed (types_view (drop i ts))) was
    where
      none_placed : (us : List TypeModel) → placed_written ms us [] ≡ []
      none_placed [] = refl
      none_placed (u ∷ us) = refl

  pub pair_turn : (k t : ValueType) (es : List (Typed × Typed)) (i : ℕ) (e : Typed × Typed) (n v : Value) (old new w : Members)
      → i < length es → e ≡ get_or es i e → n ≡ written ms (type_view k) (typed_view e.0) → v ≡ written ms (type_view t) (typed_view e.1) → new ≡ put (text_of [] n) v old
      → put_all (pairs_written ms (type_view k) (type_view t) (pairs_view (drop i es))) old ≡ w
      → put_all (pairs_written ms (type_view k) (type_view t) (pairs_view (drop (i + 1) es))) new ≡ w
  pair_turn k t es i e n v old new w h is a b c was =
      let rest = pairs_written ms (type_view k) (type_view t) (pairs_view (drop (i + 1) es)) in
      ap (put_all rest) (c ∙ (λ j. put (text_of [] (a j)) (b j) old))
      ∙ ap (λ ds. put_all (pairs_written ms (type_view k) (type_view t) ds) old) (sym (mapped_drop (λ d. (typed_view d.0, typed_view d.1)) es i e h is)) ∙ was

  pub pairs_end : (k t : ValueType) (es : List (Typed × Typed)) (i : ℕ) (old w : Members) → length es ≤ i
      → put_all (pairs_written ms (type_view k) (type_view t) (pairs_view (drop i es))) old ≡ w → old ≡ w
  pairs_end k t es i old w h was = ap (λ ds. put_all (pairs_written ms (type_view k) (type_view t) ds) old) (sym (mapped_past (λ d. (typed_view d.0, typed_view d.1)) es i h)) ∙ was

  pub field_turn : (fs : List Field) (xs : List Typed) (i : ℕ) (f : Field) (x : Typed) (old new w : Members)
      → i < length xs → x ≡ get_or xs i x → i < length fs → f ≡ get_or fs i f → new ≡ field_put ms (field_view f) (typed_view x) old
      → fields_write (fields_view (drop i fs)) (fields_of ms (typeds (typeds_view (drop i xs)))) old ≡ w
      → fields_write (fields_view (drop (i + 1) fs)) (fields_of ms (typeds (typeds_view (drop (i + 1) xs)))) new ≡ w
  field_turn fs xs i f x old new w h e l g n was =
      ap (fields_write (fields_view (drop (i + 1) fs)) (fields_of ms (typeds (typeds_view (drop (i + 1) xs))))) n
      ∙ sym (λ j. fields_write (mapped_drop field_view fs i f l g j) (fields_of ms (typeds (mapped_drop typed_view xs i x h e j))) old) ∙ was

  pub rest_turn : (fs : List Field) (xs : List Typed) (i : ℕ) (f : Field) (x : Typed) (old new w : Members)
      → i < length xs → x ≡ get_or xs i x → i < length fs → f ≡ get_or fs i f → new ≡ rest_put ms (field_view f) (typed_view x) old
      → rests_write (fields_view (drop i fs)) (fields_of ms (typeds (typeds_view (drop i xs)))) old ≡ w
      → rests_write (fields_view (drop (i + 1) fs)) (fields_of ms (typeds (typeds_view (drop (i + 1) xs)))) new ≡ w
  rest_turn fs xs i f x old new w h e l g n was =
      ap (rests_write (fields_view (drop (i + 1) fs)) (fields_of ms (typeds (typeds_view (drop (i + 1) xs))))) n
      ∙ sym (λ j. rests_write (mapped_drop field_view fs i f l g j) (fields_of ms (typeds (mapped_drop typed_view xs i x h e j))) old) ∙ was

  no_fields : (ps : List FieldPart) (old : Members) → fields_write [] ps old ≡ old
  no_fields [] old = refl
  no_fields (p ∷ ps) old = refl

  no_values : (fs : List FieldModel) (old : Members) → fields_write fs [] old ≡ old
  no_values [] old = refl
  no_values (f ∷ fs) old = refl

  no_rests : (ps : List FieldPart) (old : Members) → rests_write [] ps old ≡ old
  no_rests [] old = refl
  no_rests (p ∷ ps) old = refl

  no_rest_values : (fs : List FieldModel) (old : Members) → rests_write fs [] old ≡ old
  no_rest_values [] old = refl
  no_rest_values (f ∷ fs) old = refl

  pub field_skip : (fs : List Field) (xs : List Typed) (i : ℕ) (old w : Members) → length fs ≤ i
      → fields_write (fields_view (drop i fs)) (fields_of ms (typeds (typeds_view (drop i xs)))) old ≡ w
      → fields_write (fields_view (drop (i + 1) fs)) (fields_of ms (typeds (typeds_view (drop (i + 1) xs)))) old ≡ w
  field_skip fs xs i old w h was =
      let past : length fs ≤ i + 1 = omega arith in
      ap (λ gs. fields_write gs (fields_of ms (typeds (typeds_view (drop (i + 1) xs)))) old) (mapped_past field_view fs (i + 1) past)
      ∙ no_fields (fields_of ms (typeds (typeds_view (drop (i + 1) xs)))) old
      ∙ sym (no_fields (fields_of ms (typeds (typeds_view (drop i xs)))) old)
      ∙ ap (λ gs. fields_write gs (fields_of ms (typeds (typeds_view (drop i xs)))) old) (sym (mapped_past field_view fs i h)) ∙ was

  pub rest_skip : (fs : List Field) (xs : List Typed) (i : ℕ) (old w : Members) → length fs ≤ i
      → rests_write (fields_view (drop i fs)) (fields_of ms (typeds (typeds_view (drop i xs)))) old ≡ w
      → rests_write (fields_view (drop (i + 1) fs)) (fields_of ms (typeds (typeds_view (drop (i + 1) xs)))) old ≡ w
  rest_skip fs xs i old w h was =
      let past : length fs ≤ i + 1 = omega arith in
      ap (λ gs. rests_write gs (fields_of ms (typeds (typeds_view (drop (i + 1) xs)))) old) (mapped_past field_view fs (i + 1) past)
      ∙ no_rests (fields_of ms (typeds (typeds_view (drop (i + 1) xs)))) old
      ∙ sym (no_rests (fields_of ms (typeds (typeds_view (drop i xs)))) old)
      ∙ ap (λ gs. rests_write gs (fields_of ms (typeds (typeds_view (drop i xs)))) old) (sym (mapped_past field_view fs i h)) ∙ was

  pub fields_end : (fs : List Field) (xs : List Typed) (i : ℕ) (old w : Members) → length xs ≤ i
      → fields_write (fields_view (drop i fs)) (fields_of ms (typeds (typeds_view (drop i xs)))) old ≡ w → old ≡ w
  fields_end fs xs i old w h was =
      sym (no_values (fields_view (drop i fs)) old) ∙ ap (λ ys. fields_write (fields_view (drop i fs)) (fields_of ms (typeds ys)) old) (sym (mapped_past typed_view xs i h)) ∙ was

  pub rests_end : (fs : List Field) (xs : List Typed) (i : ℕ) (old w : Members) → length xs ≤ i
      → rests_write (fields_view (drop i fs)) (fields_of ms (typeds (typeds_view (drop i xs)))) old ≡ w → old ≡ w
  rests_end fs xs i old w h was =
      sym (no_rest_values (fields_view (drop i fs)) old) ∙ ap (λ ys. rests_write (fields_view (drop i fs)) (fields_of ms (typeds ys)) old) (sym (mapped_past typed_view xs i h)) ∙ was

  pub unnamed_turn : (fs : List Field) (xs : List Typed) (i : ℕ) (f : Field) (x : Typed) (old new : List value'.Value) (v : value'.Value) (w : List Value)
      → i < length xs → x ≡ get_or xs i x → i < length fs → f ≡ get_or fs i f → kept_view v ≡ written ms (type_view f.field_type) (typed_view x) → new ≡ old ++ v ∷ []
      → map kept_view old ++ unnamed_written ms (fields_view (drop i fs)) (typeds_view (drop i xs)) ≡ w
      → map kept_view new ++ unnamed_written ms (fields_view (drop (i + 1) fs)) (typeds_view (drop (i + 1) xs)) ≡ w
  unnamed_turn fs xs i f x old new v w h e l g k n was =
      more_kept old new v (written ms (type_view f.field_type) (typed_view x)) (unnamed_written ms (fields_view (drop (i + 1) fs)) (typeds_view (drop (i + 1) xs))) w k n
      (sym (λ j. map kept_view old ++ unnamed_written ms (mapped_drop field_view fs i f l g j) (mapped_drop typed_view xs i x h e j)) ∙ was)

  pub unnamed_skip : (fs : List Field) (xs : List Typed) (i : ℕ) (old : List value'.Value) (w : List Value)
      → length fs ≤ i → map kept_view old ++ unnamed_written ms (fields_view (drop i fs)) (typeds_view (drop i xs)) ≡ w
      → map kept_view old ++ unnamed_written ms (fields_view (drop (i + 1) fs)) (typeds_view (drop (i + 1) xs)) ≡ w
  unnamed_skip fs xs i old w h was =
      let past : length fs ≤ i + 1 = omega arith in
      ap (λ gs. map kept_view old ++ unnamed_written ms gs (typeds_view (drop (i + 1) xs))) (mapped_past field_view fs (i + 1) past)
      ∙ ap (λ gs. map kept_view old ++ unnamed_written ms gs (typeds_view (drop i xs))) (sym (mapped_past field_view fs i h)) ∙ was

  pub unnamed_end : (fs : List Field) (xs : List Typed) (i : ℕ) (vs : Vec value'.Value Global) (w : List Value) → length xs ≤ i
      → map kept_view vs.items ++ unnamed_written ms (fields_view (drop i fs)) (typeds_view (drop i xs)) ≡ w → kept_view (values'.Array vs) ≡ value.list (items w)
  unnamed_end fs xs i vs w h was =
      list_done vs (unnamed_written ms (fields_view (drop i fs)) (typeds_view (drop i xs))) w
      (ap (unnamed_written ms (fields_view (drop i fs))) (mapped_past typed_view xs i h) ∙ none_unnamed (fields_view (drop i fs))) was
    where
      none_unnamed : (gs : List FieldModel) → unnamed_written ms gs [] ≡ []
      none_unnamed [] = refl
      none_unnamed (g ∷ gs) = refl

-- the variant of a place, where it stands
pub chosen_there : (tag : TagModel) (ws : List Variant) (i : ℕ) (w : Variant) (ps : List FieldPart) (v : Value) → i < length ws → w ≡ get_or ws i w
    → v ≡ variant_writes tag (variant_view w) ps → v ≡ chosen_writes tag (slice_get (variants_view ws) i) ps
chosen_there tag [] i w ps v h e g = absurd (omega (arith, h))
chosen_there tag (x ∷ ws) zero w ps v h e g = g ∙ ap (λ y. variant_writes tag (variant_view y) ps) e
chosen_there tag (x ∷ ws) (suc i) w ps v h e g = chosen_there tag ws i w ps v (omega (arith, h)) e g

pub chosen_past : (tag : TagModel) (ws : List Variant) (i : ℕ) (ps : List FieldPart) → length ws ≤ i → value.null ≡ chosen_writes tag (slice_get (variants_view ws) i) ps
chosen_past tag [] i ps h = refl
chosen_past tag (x ∷ ws) zero ps h = absurd (omega (arith, h))
chosen_past tag (x ∷ ws) (suc i) ps h = chosen_past tag ws i ps (omega (arith, h))
