-- A type that may not read values of a kind stops at each of them, at the value itself.
use Rattle.std.proofs.Common.{◌≡◌, ℕ, zero, suc, ◌≤◌, List, [], ◌∷◌, Bool, true, false, ◌&&◌, ◌||◌, not, cond, refl, sym, ap, ◌∙◌, true≢false, Option, Some, None, bytes_eq, arith}
use Rattle.std.specs.List.{list_any}
use Rattle.json_value.specs.Value as value
use Rattle.json_value.specs.Value.{Value, Members, null, number, fraction, text, list, object, member, no_members}
use Rattle.schema_defs.specs.declared.Format.{Format}
use Rattle.schema_defs.specs.Integers.{Range}
use Rattle.schema_defs.specs.Texts.{Relations}
use Rattle.model_defs.specs.Types.{TypeModel, boolean_type, integer_type, text_type, native_type, any_type, unit_type, option_type, boxed_type, vec_type, set_type, map_type, tuple_type, array_type, item_type, outside_type, types_of}
use Rattle.model_defs.specs.Model.{struct_style, tuple_style, newtype_style, unit_style, FieldModel, VariantModel, external_tag, internal_tag, adjacent_tag, untagged, BodyModel, struct_model, enum_model, ContainerModel, ConversionsD, container_named}
use Rattle.model_defs.specs.Layer.{Content, one_type, places, named_fields, MemberPart, is_null, is_unit, variant_content}
use Rattle.model_defs.specs.Refusals.{tag_value}
use Rattle.typed_defs.specs.Typed as typed
use Rattle.typed_defs.specs.Typed.{Typed, typeds}
use Rattle.typed_defs.specs.Written.{written}
use Rattle.reading_defs.specs.Reading.{Read, Reader, taken, stopped, read_map, under, or_next, kept_if, boolean_read, integer_read, text_read, native_read, unit_read, list_read, array_read, tuple_read, object_read, struct_read, keep_apart, absent, of_name, unit_named, unit_of, variant_of, contents_read, external_read, after_tag, variant_read, untagged_read, body_read, container_read, rule_holds, content_read, type_within, item_reading, readers_of, value_reader}
use Rattle.writing_laws.specs.Kinds.{Kind, nulls, booleans, numbers, texts, lists, objects, kind_of, same_kind, type_may, content_may, body_may, container_may, may_within}

or_first : (a b : Bool) → (a || b) ≡ false → a ≡ false
or_first true b h = h
or_first false b h = refl

or_second : (a b : Bool) → (a || b) ≡ false → b ≡ false
or_second true b h = absurd (true≢false h)
or_second false b h = h

not_true : (a : Bool) → not a ≡ false → a ≡ true
not_true true h = refl
not_true false h = absurd (true≢false h)

null_kind : (v : Value) → same_kind (kind_of v) nulls ≡ false → is_null v ≡ false
null_kind null h = h
null_kind _ h = refl

-- ---- scalars, lists and objects

boolean_out : (v : Value) → same_kind (kind_of v) booleans ≡ false → boolean_read v ≡ stopped []
boolean_out (value.boolean b) h = absurd (true≢false h)
boolean_out _ h = refl

integer_out : (g : Range) (v : Value) → same_kind (kind_of v) numbers ≡ false → integer_read g v ≡ stopped []
integer_out g (number z) h = absurd (true≢false h)
integer_out g _ h = refl

text_out : (v : Value) → same_kind (kind_of v) texts ≡ false → text_read v ≡ stopped []
text_out (text s) h = absurd (true≢false h)
text_out _ h = refl

native_out : (r : Relations) (f : Format) (v : Value) → same_kind (kind_of v) texts ≡ false → native_read r f v ≡ stopped []
native_out r f (text s) h = absurd (true≢false h)
native_out r f _ h = refl

unit_out : (v : Value) → same_kind (kind_of v) nulls ≡ false → unit_read v ≡ stopped []
unit_out null h = absurd (true≢false h)
unit_out _ h = refl

-- the first variant of a name, where each that may be found stops
name_out : (t : VariantModel → Bool) (found : ℕ → VariantModel → Read Typed) → ((i : ℕ) (w : VariantModel) → t w ≡ false → found i w ≡ stopped [])
    → (i : ℕ) (ws : List VariantModel) (n : List ℕ) → list_any t ws ≡ false → of_name found (stopped []) i ws n ≡ stopped []
name_out t found h i [] n e = refl
name_out t found h i (w ∷ ws) n e =
    by (list_any (bytes_eq n) w.deserialize_names) (h i w (or_first (t w) (list_any t ws) e)) (name_out t found h (suc i) ws n (or_second (t w) (list_any t ws) e))
  where
    by : (b : Bool) → found i w ≡ stopped [] → of_name found (stopped []) (suc i) ws n ≡ stopped [] → cond b (found i w) (of_name found (stopped []) (suc i) ws n) ≡ stopped []
    by true g k = g
    by false g k = k

module _ (models : List ContainerModel) (cs : ConversionsD) (r : Relations) (q : ℕ → TypeModel → Read Typed) where
  list_out : (t : TypeModel) (v : Value) → same_kind (kind_of v) lists ≡ false → list_read t (readers_of models cs r q v) ≡ stopped []
  list_out t (list vs) h = absurd (true≢false h)
  list_out t _ h = refl

  array_out : (t : TypeModel) (n : ℕ) (v : Value) → same_kind (kind_of v) lists ≡ false → array_read t n (readers_of models cs r q v) ≡ stopped []
  array_out t n (list vs) h = absurd (true≢false h)
  array_out t n _ h = refl

  tuple_out : (ts : List TypeModel) (v : Value) → same_kind (kind_of v) lists ≡ false → tuple_read ts (readers_of models cs r q v) ≡ stopped []
  tuple_out ts (list vs) h = absurd (true≢false h)
  tuple_out ts _ h = refl

  object_out : (k t : TypeModel) (v : Value) → same_kind (kind_of v) objects ≡ false → object_read k t (readers_of models cs r q v) ≡ stopped []
  object_out k t (object ms) h = absurd (true≢false h)
  object_out k t _ h = refl

  struct_out : (closed : Bool) (fs : List FieldModel) (v : Value) → same_kind (kind_of v) objects ≡ false → struct_read q (absent models) closed fs (readers_of models cs r q v) ≡ stopped []
  struct_out closed fs (object ms) h = absurd (true≢false h)
  struct_out closed fs _ h = refl

  -- ---- tagged enums

  unit_stops : (i : ℕ) (w : VariantModel) → is_unit w ≡ false → unit_named i w ≡ stopped []
  unit_stops i w e = ap (λ b. cond b (taken (unit_of i [])) (stopped [])) e

  external_out : (closed : Bool) (ws : List VariantModel) (v : Value)
      → ((same_kind (kind_of v) texts && list_any is_unit ws) || (same_kind (kind_of v) objects && list_any (λ w. not (is_unit w)) ws)) ≡ false
      → external_read closed ws v (readers_of models cs r q v) ≡ stopped []
  external_out closed ws (text s) h = name_out is_unit unit_named unit_stops 0 ws s (or_first (list_any is_unit ws) false h)
  external_out closed ws (object no_members) h = refl
  external_out closed ws (object (member n v no_members)) h =
      let m : MemberPart Reader = record { name = n; key = value_reader models cs r q (text n); value = value_reader models cs r q v } in
      name_out (λ w. not (is_unit w)) (contents_read closed m)
      (λ i w e. ap (λ b. cond b (stopped []) (under n (read_map (variant_of i) ((value_reader models cs r q v).as_content (variant_content closed w))))) (not_true (is_unit w) e)) 0 ws n h
  external_out closed ws (object (member n v (member l u ms))) h = refl
  external_out closed ws null h = refl
  external_out closed ws (value.boolean b) h = refl
  external_out closed ws (number z) h = refl
  external_out closed ws fraction h = refl
  external_out closed ws (list xs) h = refl

  tag_out : (tag : List ℕ) (ws : List VariantModel) (found : ℕ → VariantModel → Read Typed) (v : Value) → same_kind (kind_of v) objects ≡ false → after_tag tag ws found (tag_value tag v) ≡ stopped []
  tag_out tag ws found (object ms) h = absurd (true≢false h)
  tag_out tag ws found _ h = refl

  -- ---- types, contents and items, with so many items that may be entered

  module _ (v : Value) where
    abbrev R : ℕ → TypeModel → Read Typed
    R k t = type_within models cs r q v (readers_of models cs r q v) k t

    abbrev C : ℕ → Content → Read (List Typed)
    C k c = content_read q (absent models) r cs v (readers_of models cs r q v) (R k) c

    abbrev May : ℕ → List ℕ → Bool
    May k = may_within (kind_of v) models k

    abbrev ItemsOut : ℕ → Type 0
    ItemsOut k = (n : List ℕ) → May k n ≡ false → item_reading models cs r q v (readers_of models cs r q v) k n ≡ stopped []

    type_out : (k : ℕ) → ItemsOut k → (t : TypeModel) → type_may (kind_of v) (May k) t ≡ false → R k t ≡ stopped []
    type_out k h boolean_type e = boolean_out v e
    type_out k h (integer_type g) e = integer_out g v e
    type_out k h text_type e = text_out v e
    type_out k h (native_type f) e = native_out r f v e
    type_out k h any_type e = absurd (true≢false e)
    type_out k h unit_type e = unit_out v e
    type_out k h (option_type t) e =
        let rec = type_out k h t (or_second (same_kind (kind_of v) nulls) (type_may (kind_of v) (May k) t) e) in
        (λ i. cond (null_kind v (or_first (same_kind (kind_of v) nulls) (type_may (kind_of v) (May k) t) e) i) (taken typed.none) (read_map typed.some (rec i)))
    type_out k h (boxed_type t) e = type_out k h t e
    type_out k h (vec_type t) e = ap (read_map (λ xs. typed.list (typeds xs))) (list_out t v e)
    type_out k h (set_type t) e = ap (read_map (λ xs. typed.list (typeds (keep_apart (written models t) [] xs)))) (list_out t v e)
    type_out k h (map_type n t) e = object_out n t v e
    type_out k h (tuple_type ts) e = ap (read_map (λ xs. typed.list (typeds xs))) (tuple_out (types_of ts) v e)
    type_out k h (array_type t n) e = ap (read_map (λ xs. typed.list (typeds xs))) (array_out t n v e)
    type_out k h (item_type n) e = h n e
    type_out k h outside_type e = refl

    content_out : (k : ℕ) → ItemsOut k → (c : Content) → content_may (kind_of v) (May k) c ≡ false → C k c ≡ stopped []
    content_out k h (one_type t) e = ap (read_map (λ x. x ∷ [])) (type_out k h t e)
    content_out k h (places ts) e = tuple_out ts v e
    content_out k h (named_fields closed fs) e = struct_out closed fs v e

    variant_out : (k : ℕ) → ItemsOut k → (closed : Bool) (i : ℕ) (w : VariantModel) → content_may (kind_of v) (May k) (variant_content closed w) ≡ false
        → variant_read q (absent models) r cs v (readers_of models cs r q v) (R k) closed i w ≡ stopped []
    variant_out k h closed i w e =
        let rec = content_out k h (variant_content closed w) e in
        by (is_unit w) (ap (read_map (unit_of i)) rec) (ap (read_map (variant_of i)) rec)
      where
        by : (b : Bool) → read_map (unit_of i) (C k (variant_content closed w)) ≡ stopped [] → read_map (variant_of i) (C k (variant_content closed w)) ≡ stopped []
            → cond b (read_map (unit_of i) (C k (variant_content closed w))) (read_map (variant_of i) (C k (variant_content closed w))) ≡ stopped []
        by true f g = f
        by false f g = g

    untagged_out : (k : ℕ) → ItemsOut k → (closed : Bool) (i : ℕ) (ws : List VariantModel) → list_any (λ w. content_may (kind_of v) (May k) (variant_content closed w)) ws ≡ false
        → untagged_read q (absent models) r cs v (readers_of models cs r q v) (R k) closed i ws ≡ stopped []
    untagged_out k h closed i [] e = refl
    untagged_out k h closed i (w ∷ ws) e =
        let a = content_may (kind_of v) (May k) (variant_content closed w) in
        let b = list_any (λ u. content_may (kind_of v) (May k) (variant_content closed u)) ws in
        ap (λ z. or_next z (untagged_read q (absent models) r cs v (readers_of models cs r q v) (R k) closed (suc i) ws)) (variant_out k h closed i w (or_first a b e))
        ∙ untagged_out k h closed (suc i) ws (or_second a b e)

    body_out : (k : ℕ) → ItemsOut k → (closed : Bool) (b : BodyModel) → body_may (kind_of v) (May k) closed b ≡ false
        → body_read q (absent models) r cs v (readers_of models cs r q v) (R k) closed b ≡ stopped []
    body_out k h closed (struct_model struct_style fs) e = ap (read_map (λ xs. typed.struct (typeds xs))) (struct_out closed fs v e)
    body_out k h closed (struct_model newtype_style []) e = refl
    body_out k h closed (struct_model newtype_style (f ∷ [])) e = ap (read_map typed.newtype) (type_out k h f.field_type e)
    body_out k h closed (struct_model newtype_style (f ∷ g ∷ fs)) e = refl
    body_out k h closed (struct_model tuple_style fs) e = refl
    body_out k h closed (struct_model unit_style fs) e = refl
    body_out k h closed (enum_model external_tag ws) e = external_out closed ws v e
    body_out k h closed (enum_model (internal_tag tag) ws) e = tag_out tag ws _ v e
    body_out k h closed (enum_model (adjacent_tag tag content) ws) e = tag_out tag ws _ v e
    body_out k h closed (enum_model untagged ws) e = untagged_out k h closed 0 ws e

    container_out : (k : ℕ) → ItemsOut k → (o : Option ContainerModel) → container_may (kind_of v) (May k) o ≡ false
        → container_read q (absent models) r cs v (readers_of models cs r q v) (R k) o ≡ stopped []
    container_out k h None e = refl
    container_out k h (Some m) e = ap (kept_if (rule_holds q (absent models) r cs v (readers_of models cs r q v) (R k) m)) (body_out k h m.closed m.body e)

    item_out : (k : ℕ) → ItemsOut k
    item_out zero n e = refl
    item_out (suc k) n e = container_out k (item_out k) (container_named n models) e

    pub variant_stops : (k : ℕ) (closed : Bool) (i : ℕ) (w : VariantModel) → content_may (kind_of v) (May k) (variant_content closed w) ≡ false
        → variant_read q (absent models) r cs v (readers_of models cs r q v) (R k) closed i w ≡ stopped []
    variant_stops k closed i w e = variant_out k (item_out k) closed i w e

    pub content_stops : (k : ℕ) (c : Content) → content_may (kind_of v) (May k) c ≡ false → C k c ≡ stopped []
    content_stops k c e = content_out k (item_out k) c e

-- ---- with more items that may be entered a type reads no fewer kinds

module _ (k : Kind) where
  or_grows : (a b c d : Bool) → (a ≡ true → c ≡ true) → (b ≡ true → d ≡ true) → (a || b) ≡ true → (c || d) ≡ true
  or_grows true b c d f g h = ap (λ z. z || d) (f refl)
  or_grows false b true d f g h = refl
  or_grows false b false d f g h = g h

  module _ (f g : List ℕ → Bool) (grow : (n : List ℕ) → f n ≡ true → g n ≡ true) where
    type_grows : (t : TypeModel) → type_may k f t ≡ true → type_may k g t ≡ true
    type_grows (option_type t) e = or_grows (same_kind k nulls) (type_may k f t) (same_kind k nulls) (type_may k g t) (λ z. z) (type_grows t) e
    type_grows (boxed_type t) e = type_grows t e
    type_grows (item_type n) e = grow n e
    type_grows _ e = e

    content_grows : (c : Content) → content_may k f c ≡ true → content_may k g c ≡ true
    content_grows (one_type t) e = type_grows t e
    content_grows (places ts) e = e
    content_grows (named_fields closed fs) e = e

    variants_grow : (closed : Bool) (ws : List VariantModel) → list_any (λ w. content_may k f (variant_content closed w)) ws ≡ true → list_any (λ w. content_may k g (variant_content closed w)) ws ≡ true
    variants_grow closed [] e = e
    variants_grow closed (w ∷ ws) e =
        or_grows (content_may k f (variant_content closed w)) (list_any (λ u. content_may k f (variant_content closed u)) ws) (content_may k g (variant_content closed w)) (list_any (λ u. content_may k g (variant_content closed u)) ws)
        (content_grows (variant_content closed w)) (variants_grow closed ws) e

    body_grows : (closed : Bool) (b : BodyModel) → body_may k f closed b ≡ true → body_may k g closed b ≡ true
    body_grows closed (struct_model struct_style fs) e = e
    body_grows closed (struct_model newtype_style []) e = e
    body_grows closed (struct_model newtype_style (h ∷ [])) e = type_grows h.field_type e
    body_grows closed (struct_model newtype_style (h ∷ i ∷ fs)) e = e
    body_grows closed (struct_model tuple_style fs) e = e
    body_grows closed (struct_model unit_style fs) e = e
    body_grows closed (enum_model external_tag ws) e = e
    body_grows closed (enum_model (internal_tag tag) ws) e = e
    body_grows closed (enum_model (adjacent_tag tag content) ws) e = e
    body_grows closed (enum_model untagged ws) e = variants_grow closed ws e

    container_grows : (o : Option ContainerModel) → container_may k f o ≡ true → container_may k g o ≡ true
    container_grows None e = e
    container_grows (Some m) e = body_grows m.closed m.body e

  item_grows : (ms : List ContainerModel) (i j : ℕ) → i ≤ j → (n : List ℕ) → may_within k ms i n ≡ true → may_within k ms j n ≡ true
  item_grows ms zero j h n e = absurd (true≢false (sym e))
  item_grows ms (suc i) zero h n e = absurd (omega arith)
  item_grows ms (suc i) (suc j) h n e = container_grows (may_within k ms i) (may_within k ms j) (item_grows ms i j (omega arith)) (container_named n ms) e

  pub content_may_grow : (ms : List ContainerModel) (i j : ℕ) → i ≤ j → (c : Content) → content_may k (may_within k ms i) c ≡ true → content_may k (may_within k ms j) c ≡ true
  content_may_grow ms i j h c e = content_grows (may_within k ms i) (may_within k ms j) (item_grows ms i j h) c e
