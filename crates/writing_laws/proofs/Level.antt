-- One value, with so many items that may be entered: what is written of what its types and items read is read again.
use Rattle.std.proofs.Common.{◌≡◌, ℕ, zero, suc, ◌≤◌, ℤ, pos, negsuc, List, [], ◌∷◌, map, drop, slice_get, Bool, true, false, ◌&&◌, ◌||◌, not, cond, refl, sym, ap, ◌∙◌, subst, true≢false, ⊎_elim, Option, Some, None, bytes_eq, arith}
use Rattle.std.specs.List.{list_all}
use Rattle.json_value.specs.Value as value
use Rattle.json_value.specs.Value.{Value, Items, Members, null, number, fraction, text, list, object, items, no_members}
use Rattle.schema_defs.specs.declared.Format.{Format}
use Rattle.schema_defs.specs.Integers.{Range, in_range}
use Rattle.schema_defs.specs.Texts.{Relations}
use Rattle.model_defs.specs.Types.{TypeModel, boolean_type, integer_type, text_type, native_type, any_type, unit_type, option_type, boxed_type, vec_type, set_type, map_type, tuple_type, array_type, item_type, outside_type, types_of}
use Rattle.model_defs.specs.Model.{Style, struct_style, tuple_style, newtype_style, unit_style, FieldModel, VariantModel, TagModel, external_tag, internal_tag, adjacent_tag, untagged, BodyModel, struct_model, enum_model, ContainerModel, ConversionsD, container_named, rule_of}
use Rattle.model_defs.specs.Layer.{Content, one_type, places, named_fields, is_null, is_unit, fields_content, variant_content, given_rule_agrees}
use Rattle.model_defs.specs.Reads.{allowed}
use Rattle.typed_defs.specs.Typed as typed
use Rattle.typed_defs.specs.Typed.{Typed, typeds, pairs}
use Rattle.typed_defs.specs.Written.{written, writes, json_number, by_places, fields_of, members_written, is_unit_style, content_writes, body_writes, item_writes, parts_of}
use Rattle.typed_defs.specs.Fit.{is_variant_fit, is_body_fit}
use Rattle.reading_defs.specs.Proper.{is_json_number, has_json_numbers}
use Rattle.reading_defs.specs.Reading.{Read, taken, stopped, read_map, or_next, kept_if, boolean_read, integer_read, text_read, native_read, unit_read, object_read, pairs_read, tuple_read, struct_read, absent, unit_of, variant_of, variant_read, untagged_read, body_read, container_read, content_read, type_within, readers_of, member_readers}
use Rattle.reading_defs.proofs.Items.{head_at, tail_at}
use Rattle.reading_defs.proofs.Rows.{boxed_written, item_written, each_mapped}
use Rattle.writing_laws.specs.Kinds.{Kind, nulls, booleans, numbers, texts, lists, objects, kind_of, every_kind, content_may, may_within, content_may_read, are_apart, variants_are_apart, body_is_apart}
use Rattle.writing_laws.specs.Tables.{fields_lead_back, tag_leads_back, body_leads_back, container_leads_back, IsReadBack}
use Rattle.writing_laws.proofs.Taken.{one_taken, never_stopped, map_taken, kept_taken, next_taken, if_taken, and_left, and_right, not_false, never_both}
use Rattle.writing_laws.proofs.Members.{those_all, all_pass}
use Rattle.writing_laws.proofs.Alike.{Alike, alike_null, alike_kind, null_is, rule_scalars, alike_given}
use Rattle.writing_laws.proofs.Back.{ReadsAgain, PartsBack, BackAs, FieldsLead, ContentLeads, content_written}
use Rattle.writing_laws.proofs.Lists.{vec_back, set_back, array_back, tuple_back, only_lists}
use Rattle.writing_laws.proofs.Pairs.{pairs_each, pairs_again, pairs_put_is}
use Rattle.writing_laws.proofs.Outside.{variant_stops, content_may_grow, content_stops}
use Rattle.writing_laws.proofs.Structs.{Passing, struct_back}
use Rattle.writing_laws.proofs.Names.{unit_is, content_leads}
use Rattle.writing_laws.proofs.Enums.{written_by, variant_is, contents_are, not_outside, external_back, internal_back, adjacent_back}

json_is : (z : ℤ) → is_json_number z ≡ true → json_number z ≡ number z
json_is (pos n) h = ap (λ b. cond b (number (pos n)) null) h
json_is (negsuc n) h = ap (λ b. cond b (number (negsuc n)) null) h

alike_itself : (v : Value) → Alike v v
alike_itself null = refl
alike_itself (value.boolean b) = refl
alike_itself (number z) = refl
alike_itself fraction = refl
alike_itself (text s) = refl
alike_itself (list xs) = tt
alike_itself (object ms) = tt

after_two : (p : Kind → Bool) → list_all p every_kind ≡ true → list_all p (numbers ∷ texts ∷ lists ∷ objects ∷ []) ≡ true
after_two p h = and_right (p booleans) (list_all p (numbers ∷ texts ∷ lists ∷ objects ∷ [])) (and_right (p nulls) (list_all p (booleans ∷ numbers ∷ texts ∷ lists ∷ objects ∷ [])) h)

pick : (p : Kind → Bool) → list_all p every_kind ≡ true → (k : Kind) → p k ≡ true
pick p h nulls = and_left (p nulls) (list_all p (booleans ∷ numbers ∷ texts ∷ lists ∷ objects ∷ [])) h
pick p h booleans = and_left (p booleans) (list_all p (numbers ∷ texts ∷ lists ∷ objects ∷ [])) (and_right (p nulls) (list_all p (booleans ∷ numbers ∷ texts ∷ lists ∷ objects ∷ [])) h)
pick p h numbers = and_left (p numbers) (list_all p (texts ∷ lists ∷ objects ∷ [])) (after_two p h)
pick p h texts = and_left (p texts) (list_all p (lists ∷ objects ∷ [])) (and_right (p numbers) (list_all p (texts ∷ lists ∷ objects ∷ [])) (after_two p h))
pick p h lists = and_left (p lists) (list_all p (objects ∷ [])) (and_right (p texts) (list_all p (lists ∷ objects ∷ [])) (and_right (p numbers) (list_all p (texts ∷ lists ∷ objects ∷ [])) (after_two p h)))
pick p h objects =
    and_left (p objects) true
    (and_right (p lists) (list_all p (objects ∷ [])) (and_right (p texts) (list_all p (lists ∷ objects ∷ [])) (and_right (p numbers) (list_all p (texts ∷ lists ∷ objects ∷ [])) (after_two p h))))

-- a kind that one of two contents apart may read the other may not
kind_apart : (ms : List ContainerModel) (k : Kind) (c d : Content) → are_apart ms c d ≡ true → content_may_read k ms d ≡ true → content_may_read k ms c ≡ false
kind_apart ms k c d h e = by (content_may_read k ms c) (content_may_read k ms d) (not_false (content_may_read k ms c && content_may_read k ms d) (pick (λ j. not (content_may_read j ms c && content_may_read j ms d)) h k)) e
  where
    by : (a b : Bool) → (a && b) ≡ false → b ≡ true → a ≡ false
    by true b g f = absurd (true≢false (sym f ∙ g))
    by false b g f = refl

every_passes : (p : FieldModel → Bool) (fs : List FieldModel) → Passing (λ n. true) fs
every_passes p [] = tt
every_passes p (f ∷ fs) = ((λ e. refl), every_passes p fs)

-- what a variant is made of its contents
abbrev pub made : Bool → ℕ → List Typed → Typed
made true i xs = unit_of i xs
made false i xs = variant_of i xs

pub made_taken : (b : Bool) (i : ℕ) (c : Read (List Typed)) (x : Typed) → cond b (read_map (unit_of i) c) (read_map (variant_of i) c) ≡ taken x → (xs : List Typed) × (c ≡ taken xs) × (made b i xs ≡ x)
made_taken true i c x e = map_taken (unit_of i) c x e
made_taken false i c x e = map_taken (variant_of i) c x e

made_again : (b : Bool) (i : ℕ) (c : Read (List Typed)) (xs : List Typed) → c ≡ taken xs → cond b (read_map (unit_of i) c) (read_map (variant_of i) c) ≡ taken (made b i xs)
made_again true i c xs e = ap (read_map (unit_of i)) e
made_again false i c xs e = ap (read_map (variant_of i)) e

module _ (models : List ContainerModel) (cs : ConversionsD) (r : Relations) (q q' : ℕ → TypeModel → Read Typed) (p : IsReadBack models cs)
    (sound : (n : ℕ) (t : TypeModel) (x : Typed) → q n t ≡ taken x → ReadsAgain models cs r q q' t x) where
  module _ (v : Value) (numbers : has_json_numbers v ≡ true) (inside : PartsBack models cs r q q' v) where
    -- as first read, and as read again
    abbrev R : ℕ → TypeModel → Read Typed
    R k t = type_within models cs r q v (readers_of models cs r q v) k t

    abbrev R' : Value → ℕ → TypeModel → Read Typed
    R' w k t = type_within models cs r q' w (readers_of models cs r q' w) k t

    abbrev C : ℕ → Content → Read (List Typed)
    C k c = content_read q (absent models) r cs v (readers_of models cs r q v) (R k) c

    abbrev C' : Value → ℕ → Content → Read (List Typed)
    C' w k c = content_read q' (absent models) r cs w (readers_of models cs r q' w) (R' w k) c

    abbrev Back : ℕ → TypeModel → Typed → Value → Type 0
    Back k t x w = BackAs models cs r q q' k v t x w

    kept : (k : ℕ) (t : TypeModel) (y x : Typed) → taken y ≡ taken x → written models t y ≡ v → R' v k t ≡ taken y → Back k t x (written models t x)
    kept k t y x e w a = subst (λ z. Back k t z (written models t z)) (one_taken y x e) (subst (Back k t y) (sym w) (a, alike_itself v))

    -- ---- maps

    map_back : (k : ℕ) (n t : TypeModel) (u : Value) → PartsBack models cs r q q' u → (x : Typed) → object_read n t (readers_of models cs r q u) ≡ taken x
        → BackAs models cs r q q' k u (map_type n t) x (written models (map_type n t) x)
    map_back k n t (object ms) b x e =
        let g = map_taken (λ es. typed.map_of (pairs es)) (pairs_read n t (member_readers models cs r q ms)) x e in
        let each = pairs_each models cs r q q' n t ms g.0 b.0 g.1 in
        subst (λ z. BackAs models cs r q q' k (object ms) (map_type n t) z (written models (map_type n t) z)) g.2
        (subst (λ w. BackAs models cs r q q' k (object ms) (map_type n t) (typed.map_of (pairs g.0)) (object w)) (sym (pairs_put_is models cs r q q' n t g.0 ms each b.1))
        (ap (read_map (λ es. typed.map_of (pairs es))) (pairs_again models cs r q q' n t g.0 ms each), tt))
    map_back k n t _ b x e = absurd (never_stopped x [] e)

    -- ---- types, where it is known of the items that are asked

    abbrev pub ItemsBack : ℕ → Type 0
    ItemsBack k = (n : List ℕ) (x : Typed) → R k (item_type n) ≡ taken x → Back k (item_type n) x (written models (item_type n) x)

    boolean_row : (k : ℕ) (u : Value) (x : Typed) → boolean_read u ≡ taken x → BackAs models cs r q q' k u boolean_type x (written models boolean_type x)
    boolean_row k (value.boolean b) x e = subst (λ z. BackAs models cs r q q' k (value.boolean b) boolean_type z (written models boolean_type z)) (one_taken (typed.boolean b) x e) (refl, refl)
    boolean_row k _ x e = absurd (never_stopped x [] e)

    integer_row : (k : ℕ) (g : Range) (u : Value) → has_json_numbers u ≡ true → (x : Typed) → integer_read g u ≡ taken x → BackAs models cs r q q' k u (integer_type g) x (written models (integer_type g) x)
    integer_row k g (number z) h x e =
        let f = if_taken (in_range z g) (taken (typed.integer z)) x e in
        subst (λ y. BackAs models cs r q q' k (number z) (integer_type g) y (written models (integer_type g) y)) (one_taken (typed.integer z) x f.1)
        (subst (BackAs models cs r q q' k (number z) (integer_type g) (typed.integer z)) (sym (json_is z h)) (ap (λ b. cond b (taken (typed.integer z)) (stopped [])) f.0, refl))
    integer_row k g _ h x e = absurd (never_stopped x [] e)

    text_row : (k : ℕ) (u : Value) (x : Typed) → text_read u ≡ taken x → BackAs models cs r q q' k u text_type x (written models text_type x)
    text_row k (text s) x e = subst (λ z. BackAs models cs r q q' k (text s) text_type z (written models text_type z)) (one_taken (typed.text s) x e) (refl, refl)
    text_row k _ x e = absurd (never_stopped x [] e)

    native_row : (k : ℕ) (f : Format) (u : Value) (x : Typed) → native_read r f u ≡ taken x → BackAs models cs r q q' k u (native_type f) x (written models (native_type f) x)
    native_row k f (text s) x e =
        let g = if_taken (r.has_format f s) (taken (typed.text s)) x e in
        subst (λ z. BackAs models cs r q q' k (text s) (native_type f) z (written models (native_type f) z)) (one_taken (typed.text s) x g.1) (ap (λ b. cond b (taken (typed.text s)) (stopped [])) g.0, refl)
    native_row k f _ x e = absurd (never_stopped x [] e)

    unit_row : (k : ℕ) (u : Value) (x : Typed) → unit_read u ≡ taken x → BackAs models cs r q q' k u unit_type x (written models unit_type x)
    unit_row k null x e = subst (λ z. BackAs models cs r q q' k null unit_type z (written models unit_type z)) (one_taken typed.unit x e) (refl, refl)
    unit_row k _ x e = absurd (never_stopped x [] e)

    option_row : (k : ℕ) (t : TypeModel) (x : Typed) → ((y : Typed) → R k t ≡ taken y → Back k t y (written models t y)) → (b : Bool) → is_null v ≡ b → cond b (taken typed.none) (read_map typed.some (R k t)) ≡ taken x
        → Back k (option_type t) x (written models (option_type t) x)
    option_row k t x h true n e = kept k (option_type t) typed.none x e (null_is v n) (ap (λ b. cond b (taken typed.none) (read_map typed.some (R' v k t))) n)
    option_row k t x h false n e =
        let g = map_taken typed.some (R k t) x e in
        let back = h g.0 g.1 in
        subst (λ z. Back k (option_type t) z (written models (option_type t) z)) g.2
        (ap (λ b. cond b (taken typed.none) (read_map typed.some (R' (written models t g.0) k t))) (alike_null v (written models t g.0) back.1 ∙ n) ∙ ap (read_map typed.some) back.0, back.1)

    pub type_back : (k : ℕ) → ItemsBack k → (t : TypeModel) (x : Typed) → R k t ≡ taken x → Back k t x (written models t x)
    type_back k h boolean_type x e = boolean_row k v x e
    type_back k h (integer_type g) x e = integer_row k g v numbers x e
    type_back k h text_type x e = text_row k v x e
    type_back k h (native_type f) x e = native_row k f v x e
    type_back k h any_type x e = kept k any_type (typed.any v) x e refl refl
    type_back k h unit_type x e = unit_row k v x e
    type_back k h (option_type t) x e = option_row k t x (λ y g. type_back k h t y g) (is_null v) refl e
    type_back k h (boxed_type t) x e = subst (Back k t x) (sym (boxed_written models t x)) (type_back k h t x e)
    type_back k h (vec_type t) x e = vec_back models cs r q q' k t v x inside e
    type_back k h (set_type t) x e = set_back models cs r q q' k t v x inside e
    type_back k h (map_type n t) x e = map_back k n t v inside x e
    type_back k h (tuple_type ts) x e =
        let g = map_taken (λ xs. typed.list (typeds xs)) (tuple_read (types_of ts) (readers_of models cs r q v)) x e in
        let put : Value = list (items (by_places (types_of ts) (map (writes models) g.0))) in
        subst (λ z. Back k (tuple_type ts) z (written models (tuple_type ts) z)) g.2
        (subst (Back k (tuple_type ts) (typed.list (typeds g.0))) (sym (ap (λ ws. list (items (by_places (types_of ts) ws))) (each_mapped models g.0)))
        (ap (read_map (λ xs. typed.list (typeds xs))) (tuple_back models cs r q q' (types_of ts) v g.0 inside g.1), only_lists models cs r q q' (types_of ts) v g.0 g.1 (λ u. Alike u put) (λ vs. tt)))
    type_back k h (array_type t n) x e = array_back models cs r q q' k t n v x inside e
    type_back k h (item_type n) x e = h n x e
    type_back k h outside_type x e = absurd (never_stopped x [] e)

    -- ---- contents

    abbrev ContentIs : ℕ → Content → List Typed → Type 0
    ContentIs k c xs = (C' (content_written models cs r q q' c xs) k c ≡ taken xs) × Alike v (content_written models cs r q q' c xs)

    struct_row : (k : ℕ) (closed : Bool) (fs : List FieldModel) → FieldsLead fs → (u : Value) → PartsBack models cs r q q' u → (xs : List Typed) → struct_read q (absent models) closed fs (readers_of models cs r q u) ≡ taken xs
        → (struct_read q' (absent models) closed fs (readers_of models cs r q' (object (members_written fs (fields_of models (typeds xs))))) ≡ taken xs) × Alike u (object (members_written fs (fields_of models (typeds xs))))
    struct_row k closed fs l (object ms) b xs e =
        let M = members_written fs (fields_of models (typeds xs)) in (
          ap (λ z. struct_read q' (absent models) closed fs (readers_of models cs r q' (object z))) (sym (those_all (λ n. true) M (all_pass M)))
              ∙ struct_back models cs r q q' p.names sound closed fs ms xs (λ n. true) l b.0 b.1 (all_pass ms) (every_passes (λ f. true) fs) e,
          tt,
        )
    struct_row k closed fs l _ b xs e = absurd (never_stopped xs [] e)

    content_back : (k : ℕ) → ItemsBack k → (c : Content) → ContentLeads c → (xs : List Typed) → C k c ≡ taken xs → ContentIs k c xs
    content_back k h (one_type t) l xs e =
        let g = map_taken (λ x. x ∷ []) (R k t) xs e in
        let back = type_back k h t g.0 g.1 in
        subst (ContentIs k (one_type t)) g.2 (ap (read_map (λ x. x ∷ [])) back.0, back.1)
    content_back k h (places ts) l xs e =
        (tuple_back models cs r q q' ts v xs inside e, only_lists models cs r q q' ts v xs e (λ u. Alike u (content_written models cs r q q' (places ts) xs)) (λ vs. tt))
    content_back k h (named_fields closed fs) l xs e = struct_row k closed fs l v inside xs e

    -- ---- untagged enums

    -- the variant that takes the value, and that it is the one that takes what is written
    pub record Chosen (k : ℕ) (closed : Bool) (ws : List VariantModel) (i : ℕ) (us : List VariantModel) (x : Typed) : Type 0 where
      pub place : ℕ
      pub variant : VariantModel
      pub contents : List Typed
      pub at : slice_get ws place ≡ Some variant
      pub is : made (is_unit variant) place contents ≡ x
      pub content_is : C k (variant_content closed variant) ≡ taken contents
      pub among : (t : VariantModel → Bool) → list_all t us ≡ true → t variant ≡ true
      pub again : (w : Value) → kind_of w ≡ kind_of v → C' w k (variant_content closed variant) ≡ taken contents
          → untagged_read q' (absent models) r cs w (readers_of models cs r q' w) (R' w k) closed i us ≡ taken x

    may_here : (k : ℕ) → k ≤ allowed models → (c : Content) (xs : List Typed) → C k c ≡ taken xs → content_may_read (kind_of v) models c ≡ true
    may_here k h c xs e = by (content_may (kind_of v) (may_within (kind_of v) models k) c) refl
      where
        by : (b : Bool) → content_may (kind_of v) (may_within (kind_of v) models k) c ≡ b → content_may_read (kind_of v) models c ≡ true
        by true z = content_may_grow (kind_of v) models k (allowed models) h c z
        by false z = absurd (never_stopped xs [] (sym (content_stops models cs r q v k c z) ∙ e))

    stays_out : (k : ℕ) → k ≤ allowed models → (w : Value) → kind_of w ≡ kind_of v → (c : Content) → content_may_read (kind_of v) models c ≡ false → content_may (kind_of w) (may_within (kind_of w) models k) c ≡ false
    stays_out k h w e c out =
        subst (λ z. content_may z (may_within z models k) c ≡ false) (sym e) (by (content_may (kind_of v) (may_within (kind_of v) models k) c) refl)
      where
        by : (b : Bool) → content_may (kind_of v) (may_within (kind_of v) models k) c ≡ b → content_may (kind_of v) (may_within (kind_of v) models k) c ≡ false
        by true z = never_both (content_may_read (kind_of v) models c) (content_may (kind_of v) (may_within (kind_of v) models k) c ≡ false) (content_may_grow (kind_of v) models k (allowed models) h c z) out
        by false z = z

    choose : (k : ℕ) → k ≤ allowed models → (closed : Bool) (ws : List VariantModel) (i : ℕ) (us : List VariantModel) (x : Typed) → drop i ws ≡ us → variants_are_apart models closed us ≡ true
        → untagged_read q (absent models) r cs v (readers_of models cs r q v) (R k) closed i us ≡ taken x → Chosen k closed ws i us x
    choose k h closed ws i [] x at a e = absurd (never_stopped x [] e)
    choose k h closed ws i (w ∷ us) x at a e =
        ⊎_elim here (λ g. later g.2 (choose k h closed ws (suc i) us x (tail_at ws i w us at) (and_right (list_all (λ u. are_apart models (variant_content closed w) (variant_content closed u)) us) (variants_are_apart models closed us) a) g.2))
        (next_taken (variant_read q (absent models) r cs v (readers_of models cs r q v) (R k) closed i w) (untagged_read q (absent models) r cs v (readers_of models cs r q v) (R k) closed (suc i) us) x e)
      where
        apart : list_all (λ u. are_apart models (variant_content closed w) (variant_content closed u)) us ≡ true
        apart = and_left (list_all (λ u. are_apart models (variant_content closed w) (variant_content closed u)) us) (variants_are_apart models closed us) a

        here : variant_read q (absent models) r cs v (readers_of models cs r q v) (R k) closed i w ≡ taken x → Chosen k closed ws i (w ∷ us) x
        here g =
            let m = made_taken (is_unit w) i (C k (variant_content closed w)) x g in
            record {
              place = i;
              variant = w;
              contents = m.0;
              at = head_at ws i w us at;
              is = m.2;
              content_is = m.1;
              among = λ t z. and_left (t w) (list_all t us) z;
              again = λ u same z.
                  ap (λ y. or_next y (untagged_read q' (absent models) r cs u (readers_of models cs r q' u) (R' u k) closed (suc i) us))
                  (made_again (is_unit w) i (C' u k (variant_content closed w)) m.0 z ∙ ap taken m.2);
            }

        later : untagged_read q (absent models) r cs v (readers_of models cs r q v) (R k) closed (suc i) us ≡ taken x → Chosen k closed ws (suc i) us x → Chosen k closed ws i (w ∷ us) x
        later g m = record {
          place = m.place;
          variant = m.variant;
          contents = m.contents;
          at = m.at;
          is = m.is;
          content_is = m.content_is;
          among = λ t z. m.among t (and_right (t w) (list_all t us) z);
          again = λ u same z.
              ap (λ y. or_next y (untagged_read q' (absent models) r cs u (readers_of models cs r q' u) (R' u k) closed (suc i) us))
              (variant_stops models cs r q' u k closed i w (stays_out k h u same (variant_content closed w)
              (kind_apart models (kind_of v) (variant_content closed w) (variant_content closed m.variant) (m.among (λ c. are_apart models (variant_content closed w) (variant_content closed c)) apart)
              (may_here k h (variant_content closed m.variant) m.contents m.content_is))))
              ∙ m.again u same z;
        }

    unit_null : (u : Value) (x : Typed) → unit_read u ≡ taken x → written models unit_type x ≡ null
    unit_null null x e = ap (written models unit_type) (sym (one_taken typed.unit x e))
    unit_null _ x e = absurd (never_stopped x [] e)

    -- what a variant's contents, where nothing is wrapped round them
    made_written : (k : ℕ) (closed : Bool) (w : VariantModel) (i : ℕ) (ws : List VariantModel) (xs : List Typed) → slice_get ws i ≡ Some w → C k (variant_content closed w) ≡ taken xs
        → written_by models cs r q q' p.names sound untagged ws (made (is_unit w) i xs) ≡ content_written models cs r q q' (variant_content closed w) xs
    made_written k closed w i ws xs at e = by (is_unit w) refl
      where
        units : (s : Style) → is_unit_style s ≡ true → C k (fields_content closed s w.fields) ≡ taken xs → content_writes s w.fields [] ≡ content_written models cs r q q' (fields_content closed s w.fields) xs
        units unit_style u h =
            let g = map_taken (λ x. x ∷ []) (unit_read v) xs h in
            subst (λ ys. null ≡ content_written models cs r q q' (one_type unit_type) ys) g.2 (sym (unit_null v g.0 g.1))
        units _ u h = absurd (true≢false (sym u))

        by : (b : Bool) → is_unit w ≡ b → written_by models cs r q q' p.names sound untagged ws (made b i xs) ≡ content_written models cs r q q' (variant_content closed w) xs
        by true u = variant_is models cs r q q' p.names sound untagged ws i w [] at ∙ units w.style (sym (unit_is w) ∙ u) e
        by false u =
            variant_is models cs r q q' p.names sound untagged ws i w xs at
            ∙ contents_are models cs r q q' p.names sound closed w.style w.fields xs (not_outside models cs r q q' p.names sound v (readers_of models cs r q v) k (variant_content closed w) xs e) (sym (unit_is w) ∙ u)

    -- ---- bodies, containers and items

    abbrev BodyIs : ℕ → Bool → BodyModel → Typed → Type 0
    BodyIs k closed b x =
        (body_read q' (absent models) r cs (body_writes b (parts_of models x)) (readers_of models cs r q' (body_writes b (parts_of models x))) (R' (body_writes b (parts_of models x)) k) closed b ≡ taken x)
        × Alike v (body_writes b (parts_of models x))

    enum_back : (k : ℕ) → k ≤ allowed models → ItemsBack k → (closed : Bool) (tag : TagModel) (ws : List VariantModel) → is_body_fit (enum_model tag ws) ≡ true → body_leads_back (enum_model tag ws) ≡ true → body_is_apart models closed (enum_model tag ws) ≡ true
        → (x : Typed) → body_read q (absent models) r cs v (readers_of models cs r q v) (R k) closed (enum_model tag ws) ≡ taken x → BodyIs k closed (enum_model tag ws) x
    enum_back k h i closed external_tag ws f l a x e =
        external_back models cs r q q' p.names sound closed ws (f, and_right (tag_leads_back external_tag ws) (list_all (λ w. fields_lead_back w.fields) ws) l) (and_left (tag_leads_back external_tag ws) (list_all (λ w. fields_lead_back w.fields) ws) l) v inside x e
    enum_back k h i closed (internal_tag t) ws f l a x e =
        internal_back models cs r q q' p.names sound closed t ws (f, and_right (tag_leads_back (internal_tag t) ws) (list_all (λ w. fields_lead_back w.fields) ws) l) (and_left (tag_leads_back (internal_tag t) ws) (list_all (λ w. fields_lead_back w.fields) ws) l) v inside x e
    enum_back k h i closed (adjacent_tag t c) ws f l a x e =
        adjacent_back models cs r q q' p.names sound closed t c ws (f, and_right (tag_leads_back (adjacent_tag t c) ws) (list_all (λ w. fields_lead_back w.fields) ws) l) (and_left (tag_leads_back (adjacent_tag t c) ws) (list_all (λ w. fields_lead_back w.fields) ws) l) v inside x e
    enum_back k h i closed untagged ws f l a x e =
        let m = choose k h closed ws 0 ws x refl a e in
        let w = m.variant in
        let lead = content_leads closed w.style w.fields (m.among is_variant_fit f, m.among (λ u. fields_lead_back u.fields) (and_right true (list_all (λ u. fields_lead_back u.fields) ws) l)) in
        let back = content_back k i (variant_content closed w) lead m.contents m.content_is in
        let cw = content_written models cs r q q' (variant_content closed w) m.contents in
        let was : body_writes (enum_model untagged ws) (parts_of models x) ≡ cw = ap (λ y. body_writes (enum_model untagged ws) (parts_of models y)) (sym m.is) ∙ made_written k closed w m.place ws m.contents m.at m.content_is in
        subst (λ u. (untagged_read q' (absent models) r cs u (readers_of models cs r q' u) (R' u k) closed 0 ws ≡ taken x) × Alike v u) (sym was) (m.again cw (alike_kind v cw back.1) back.0, back.1)

    body_back : (k : ℕ) → k ≤ allowed models → ItemsBack k → (closed : Bool) (b : BodyModel) → is_body_fit b ≡ true → body_leads_back b ≡ true → body_is_apart models closed b ≡ true
        → (x : Typed) → body_read q (absent models) r cs v (readers_of models cs r q v) (R k) closed b ≡ taken x → BodyIs k closed b x
    body_back k h i closed (enum_model tag ws) f l a x e = enum_back k h i closed tag ws f l a x e
    body_back k h i closed (struct_model struct_style fs) f l a x e =
        let g = map_taken (λ xs. typed.struct (typeds xs)) (struct_read q (absent models) closed fs (readers_of models cs r q v)) x e in
        let back = struct_row k closed fs (f, l) v inside g.0 g.1 in
        subst (BodyIs k closed (struct_model struct_style fs)) g.2 (ap (read_map (λ xs. typed.struct (typeds xs))) back.0, back.1)
    body_back k h i closed (struct_model newtype_style []) f l a x e = absurd (never_stopped x [] e)
    body_back k h i closed (struct_model newtype_style (g ∷ [])) f l a x e =
        let m = map_taken typed.newtype (R k g.field_type) x e in
        let back = type_back k i g.field_type m.0 m.1 in
        subst (BodyIs k closed (struct_model newtype_style (g ∷ []))) m.2 (ap (read_map typed.newtype) back.0, back.1)
    body_back k h i closed (struct_model newtype_style (g ∷ d ∷ fs)) f l a x e = absurd (never_stopped x [] e)
    body_back k h i closed (struct_model tuple_style fs) f l a x e = absurd (never_stopped x [] e)
    body_back k h i closed (struct_model unit_style fs) f l a x e = absurd (never_stopped x [] e)

    -- what is known of a container of the table
    pub record Known (m : ContainerModel) : Type 0 where
      pub fit : is_body_fit m.body ≡ true
      pub names : container_leads_back m ≡ true
      pub kinds : body_is_apart models m.closed m.body ≡ true

    abbrev GivenKnown : Option ContainerModel → Type 0
    GivenKnown None = Unit {0}
    GivenKnown (Some m) = Known m

    known : (n : List ℕ) (ms : List ContainerModel) → list_all (λ m. is_body_fit m.body) ms ≡ true → list_all container_leads_back ms ≡ true → list_all (λ m. body_is_apart models m.closed m.body) ms ≡ true
        → GivenKnown (container_named n ms)
    known n [] f l a = tt
    known n (m ∷ ms) f l a =
        by (bytes_eq n m.name) (record {
          fit = and_left (is_body_fit m.body) (list_all (λ u. is_body_fit u.body) ms) f;
          names = and_left (container_leads_back m) (list_all container_leads_back ms) l;
          kinds = and_left (body_is_apart models m.closed m.body) (list_all (λ u. body_is_apart models u.closed u.body) ms) a;
        }) (known n ms (and_right (is_body_fit m.body) (list_all (λ u. is_body_fit u.body) ms) f) (and_right (container_leads_back m) (list_all container_leads_back ms) l)
        (and_right (body_is_apart models m.closed m.body) (list_all (λ u. body_is_apart models u.closed u.body) ms) a))
      where
        by : (b : Bool) → Known m → GivenKnown (container_named n ms) → GivenKnown (cond b (Some m) (container_named n ms))
        by true g h = g
        by false g h = h

    abbrev ContainerIs : ℕ → Option ContainerModel → Typed → Type 0
    ContainerIs k o x =
        (container_read q' (absent models) r cs (item_writes o (parts_of models x)) (readers_of models cs r q' (item_writes o (parts_of models x))) (R' (item_writes o (parts_of models x)) k) o ≡ taken x)
        × Alike v (item_writes o (parts_of models x))

    container_back : (k : ℕ) → k ≤ allowed models → ItemsBack k → (o : Option ContainerModel) → GivenKnown o → (x : Typed)
        → container_read q (absent models) r cs v (readers_of models cs r q v) (R k) o ≡ taken x → ContainerIs k o x
    container_back k h i None g x e = absurd (never_stopped x [] e)
    container_back k h i (Some m) g x e =
        let rule = rule_of m.name cs.constraints in
        let b = kept_taken (not m.try_from || given_rule_agrees r v rule) (body_read q (absent models) r cs v (readers_of models cs r q v) (R k) m.closed m.body) x e in
        let back = body_back k h i m.closed m.body g.fit (and_left (body_leads_back m.body) (not (m.transparent && m.try_from)) g.names) g.kinds x b.1 in
        let w = body_writes m.body (parts_of models x) in
        let holds = alike_given r rule (rule_scalars m.name cs.constraints p.rules) v w back.1 in (
          ap (λ z. kept_if (not m.try_from || z) (body_read q' (absent models) r cs w (readers_of models cs r q' w) (R' w k) m.closed m.body)) holds
              ∙ ap (λ z. kept_if z (body_read q' (absent models) r cs w (readers_of models cs r q' w) (R' w k) m.closed m.body)) b.0 ∙ ap (kept_if true) back.0,
          back.1,
        )

    pub items_back : (k : ℕ) → k ≤ allowed models → ItemsBack k
    items_back zero h n x e = absurd (never_stopped x [] e)
    items_back (suc k) h n x e =
        subst (Back (suc k) (item_type n) x) (sym (item_written models n x))
        (container_back k (omega arith) (items_back k (omega arith)) (container_named n models) (known n models p.fit p.names p.kinds) x e)

    pub level_type : (t : TypeModel) (x : Typed) → R (allowed models) t ≡ taken x → Back (allowed models) t x (written models t x)
    level_type t x e = type_back (allowed models) (items_back (allowed models) (omega arith)) t x e

    pub level_content : (c : Content) → ContentLeads c → (xs : List Typed) → C (allowed models) c ≡ taken xs → C' (content_written models cs r q q' c xs) (allowed models) c ≡ taken xs
    level_content c l xs e = (content_back (allowed models) (items_back (allowed models) (omega arith)) c l xs e).0
