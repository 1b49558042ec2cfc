-- One value, with so many items that may be entered: what its types and items read is typed values of them.
use Rattle.std.proofs.Common.{◌≡◌, ℕ, zero, suc, ◌==◌, ◌≤◌, List, [], ◌∷◌, drop, length, slice_get, Bool, true, false, ◌&&◌, ◌||◌, not, cond, refl, sym, ap, ◌∙◌, subst, true≢false, ⊎_elim, Option, Some, None, bytes_eq, arith}
use Rattle.std.specs.List.{list_all}
use Rattle.json_value.specs.Value as value
use Rattle.json_value.specs.Value.{Value, Members, null, number, fraction, text, list, object, member, no_members, member_at}
use Rattle.schema_defs.specs.declared.Format.{Format}
use Rattle.schema_defs.specs.Integers.{Range, in_range}
use Rattle.schema_defs.specs.Texts.{Relations}
use Rattle.model_defs.specs.Types.{TypeModel, boolean_type, integer_type, text_type, native_type, any_type, unit_type, option_type, boxed_type, vec_type, set_type, map_type, tuple_type, array_type, item_type, outside_type, types_of}
use Rattle.model_defs.specs.Model.{Style, struct_style, tuple_style, newtype_style, unit_style, FieldModel, VariantModel, TagModel, external_tag, internal_tag, adjacent_tag, untagged, BodyModel, struct_model, enum_model, ContainerModel, ConversionsD, container_named, rule_of}
use Rattle.model_defs.specs.Layer.{Content, one_type, places, named_fields, MemberPart, is_null, is_unit, without, named, members_in, fields_content, variant_content, given_rule_agrees}
use Rattle.model_defs.specs.Refusals.{tag_value}
use Rattle.model_defs.specs.Reads.{allowed}
use Rattle.model_defs.specs.Flat.{MembersRise}
use Rattle.typed_defs.specs.Typed as typed
use Rattle.typed_defs.specs.Typed.{Typed, typeds, pairs}
use Rattle.typed_defs.specs.Written.{written, writes, field_types, is_unit_style}
use Rattle.typed_defs.specs.Fit.{are_fields_fit, is_variant_fit, is_body_fit}
use Rattle.typed_defs.specs.IsTyped.{Held, fields, chosen, inner, in_places, content_is_of, variant_is_of, is_typed}
use Rattle.reading_defs.specs.Proper.{has_json_numbers}
use Rattle.reading_defs.specs.Reading.{Read, taken, stopped, Reader, read_map, under, boolean_read, integer_read, text_read, native_read, unit_read, list_read, array_read, object_read, items_read, pairs_read, tuple_read, struct_read, members_read, keep_apart, absent, unit_of, variant_of, unit_named, contents_read, external_read, content_beside, adjacent_read, internal_read, after_tag, variant_read, untagged_read, body_read, container_read, content_read, type_within, readers_of, value_reader, item_readers, member_readers}
use Rattle.reading_defs.proofs.Items.{head_at, tail_at}
use Rattle.writing_laws.specs.Tables.{fields_lead_back, variant_names_lead_back, tag_leads_back, body_leads_back, container_leads_back, IsReadBack}
use Rattle.writing_laws.proofs.Taken.{one_taken, never_stopped, map_taken, under_taken, kept_taken, next_taken, if_taken, unless_taken, and_left, and_right}
use Rattle.writing_laws.proofs.Members.{those, those_rise}
use Rattle.writing_laws.proofs.Alike.{rule_scalars, alike_given}
use Rattle.writing_laws.proofs.Back.{ReadsAgain, MembersBack, PartsBack, ContentLeads}
use Rattle.writing_laws.proofs.Pairs.{pairs_each}
use Rattle.writing_laws.proofs.Fields.{reader_is}
use Rattle.writing_laws.proofs.Structs.{back_those}
use Rattle.writing_laws.proofs.Names.{unit_is, content_leads, named_by}
use Rattle.writing_laws.proofs.Enums.{tag_taken, without_is, named_is, beside_taken, by_style}
use Rattle.writing_laws.proofs.Level.{made, made_taken, type_back, items_back}
use Rattle.typed_laws.proofs.Parts.{Is, held, content_is, MembersTyped, PartsTyped, items_are, all_are, held_length, kept_are, kept_differ, tuple_is, pairs_are, pairs_rise}
use Rattle.typed_laws.proofs.Fields.{boxed_is, of_body, typed_those, struct_is}

module _ (models : List ContainerModel) (cs : ConversionsD) (r : Relations) (q : ℕ → TypeModel → Read Typed) (p : IsReadBack models cs)
    (sound : (n : ℕ) (t : TypeModel) (x : Typed) → q n t ≡ taken x → ReadsAgain models cs r q q t x) (typed_so : (n : ℕ) (t : TypeModel) (x : Typed) → q n t ≡ taken x → Is models cs r q t x) where
  -- ---- contents of variants

  abbrev IsInside : Content → Type 0
  IsInside (one_type outside_type) = ⊥
  IsInside _ = Unit {0}

  contents_is_of : (closed : Bool) (s : Style) (fs : List FieldModel) (xs : List Typed) → IsInside (fields_content closed s fs) → is_unit_style s ≡ false → content_is models cs r q (fields_content closed s fs) xs ≡ true
      → content_is_of s fs (held models cs r q xs) ≡ true
  contents_is_of closed struct_style fs xs i u h = h
  contents_is_of closed tuple_style fs xs i u h = h
  contents_is_of closed newtype_style [] xs i u h = absurd i
  contents_is_of closed newtype_style (f ∷ []) xs i u h = h
  contents_is_of closed newtype_style (f ∷ g ∷ fs) xs i u h = absurd i
  contents_is_of closed unit_style fs xs i u h = absurd (true≢false u)

  unit_is_of : (s : Style) (fs : List FieldModel) → is_unit_style s ≡ true → content_is_of s fs [] ≡ true
  unit_is_of unit_style fs u = refl
  unit_is_of _ fs u = absurd (true≢false (sym u))

  -- a typed value of an enum: a variant, and its fields
  abbrev EnumIs : List VariantModel → Typed → Type 0
  EnumIs ws x = (i : ℕ) × (xs : List Typed) × (variant_of i xs ≡ x) × (variant_is_of (slice_get ws i) (held models cs r q xs) ≡ true)

  of_unit : (ws : List VariantModel) (i : ℕ) (w : VariantModel) (xs : List Typed) (x : Typed) → slice_get ws i ≡ Some w → is_unit w ≡ true → unit_of i xs ≡ x → EnumIs ws x
  of_unit ws i w xs x e u h = (i, [], h, ap (λ o. variant_is_of o (held models cs r q [])) e ∙ unit_is_of w.style w.fields (sym (unit_is w) ∙ u))

  of_contents : (closed : Bool) (ws : List VariantModel) (i : ℕ) (w : VariantModel) (xs : List Typed) (x : Typed) → slice_get ws i ≡ Some w → is_unit w ≡ false → IsInside (variant_content closed w)
      → content_is models cs r q (variant_content closed w) xs ≡ true → variant_of i xs ≡ x → EnumIs ws x
  of_contents closed ws i w xs x e u inside c h =
      (i, xs, h, ap (λ o. variant_is_of o (held models cs r q xs)) e ∙ contents_is_of closed w.style w.fields xs inside (sym (unit_is w) ∙ u) c)

  read_inside : (v : Value) (c : Content) (xs : List Typed) → (value_reader models cs r q v).as_content c ≡ taken xs → IsInside c
  read_inside v (one_type outside_type) xs e = never_stopped xs [] (sym (ap (λ z. z.as_content (one_type outside_type)) (reader_is models cs r q v)) ∙ e)
  read_inside v _ xs e = tt

  abbrev VariantsLead : List VariantModel → Type 0
  VariantsLead ws = (list_all is_variant_fit ws ≡ true) × (list_all (λ w. fields_lead_back w.fields) ws ≡ true)

  at_place : (t : VariantModel → Bool) (ws : List VariantModel) (i : ℕ) (w : VariantModel) → list_all t ws ≡ true → slice_get ws i ≡ Some w → t w ≡ true
  at_place t [] i w h e = cc
  at_place t (u ∷ ws) zero w h e = let same : u ≡ w = cc in sym (ap t same) ∙ and_left (t u) (list_all t ws) h
  at_place t (u ∷ ws) (suc i) w h e = at_place t ws i w (and_right (t u) (list_all t ws) h) e

  -- ---- tagged enums

  external_is : (closed : Bool) (ws : List VariantModel) → VariantsLead ws → variant_names_lead_back ws ≡ true → (v : Value) → PartsTyped models cs r q v → (x : Typed)
      → external_read closed ws v (readers_of models cs r q v) ≡ taken x → EnumIs ws x
  external_is closed ws l h (text s) b x e =
      let k = named_by unit_named [] ws 0 ws s x refl h e in
      let g = if_taken (is_unit k.variant) (taken (unit_of k.place [])) x k.found_is in
      of_unit ws k.place k.variant [] x k.at g.0 (one_taken (unit_of k.place []) x g.1)
  external_is closed ws l h (object no_members) b x e = absurd (never_stopped x [] e)
  external_is closed ws l h (object (member n v no_members)) b x e =
      let m : MemberPart Reader = record { name = n; key = value_reader models cs r q (text n); value = value_reader models cs r q v } in
      let k = named_by (contents_read closed m) [] ws 0 ws n x refl h e in
      let w = k.variant in
      let c = variant_content closed w in
      let read = (value_reader models cs r q v).as_content c in
      let g = unless_taken (is_unit w) (under n (read_map (variant_of k.place) read)) [] x k.found_is in
      let is = map_taken (variant_of k.place) read x (under_taken n (read_map (variant_of k.place) read) x g.1) in
      let lead = content_leads closed w.style w.fields (k.among is_variant_fit l.0, k.among (λ u. fields_lead_back u.fields) l.1) in
      of_contents closed ws k.place w is.0 x k.at g.0 (read_inside v c is.0 is.1) (b.0.1.as_content c is.0 lead is.1) is.2
  external_is closed ws l h (object (member n v (member m u ms))) b x e = absurd (never_stopped x [] e)
  external_is closed ws l h null b x e = absurd (never_stopped x [] e)
  external_is closed ws l h (value.boolean c) b x e = absurd (never_stopped x [] e)
  external_is closed ws l h (number z) b x e = absurd (never_stopped x [] e)
  external_is closed ws l h fraction b x e = absurd (never_stopped x [] e)
  external_is closed ws l h (list xs) b x e = absurd (never_stopped x [] e)

  style_is : (closed : Bool) (fs : List FieldModel) → are_fields_fit fs ≡ true → (ms : Members) → MembersTyped models cs r q ms → MembersBack models cs r q q ms → MembersRise ms → (s : Style) (i : ℕ) (x : Typed)
      → by_style models cs r q q p.names sound q closed fs s i (member_readers models cs r q ms) ≡ taken x → (xs : List Typed) × (variant_of i xs ≡ x) × (content_is_of s fs (held models cs r q xs) ≡ true)
  style_is closed fs f ms b back rise struct_style i x e =
      let g = map_taken (variant_of i) (members_read q (absent models) closed fs (member_readers models cs r q ms)) x e in
      (g.0, g.2, struct_is models cs r q p.names sound typed_so closed fs ms g.0 f b back rise g.1)
  style_is closed fs f ms b back rise unit_style i x e =
      let g = map_taken (unit_of i) (members_read q (absent models) closed [] (member_readers models cs r q ms)) x e in
      ([], g.2, refl)
  style_is closed fs f ms b back rise tuple_style i x e = absurd (never_stopped x [] e)
  style_is closed fs f ms b back rise newtype_style i x e = absurd (never_stopped x [] e)

  internal_is : (closed : Bool) (tag : List ℕ) (ws : List VariantModel) → VariantsLead ws → variant_names_lead_back ws ≡ true → (v : Value) → PartsTyped models cs r q v → (x : Typed)
      → after_tag tag ws (internal_read q (absent models) closed (without tag (members_in (readers_of models cs r q v)))) (tag_value tag v) ≡ taken x → EnumIs ws x
  internal_is closed tag ws l h (object ms) b x e =
      let t = tag_taken models cs r q q p.names sound tag ws (internal_read q (absent models) closed (without tag (member_readers models cs r q ms))) (member_at tag ms) x h e in
      let k = t.1 in
      let w = k.variant in
      let o : List ℕ → Bool = λ n. not (bytes_eq tag n) in
      let g = style_is closed w.fields (k.among is_variant_fit l.0) (those o ms) (typed_those models cs r q p.names sound typed_so o ms b.0) (back_those models cs r q q p.names sound o ms b.1) (those_rise o ms b.2) w.style k.place x
      (sym (ap (λ js. by_style models cs r q q p.names sound q closed w.fields w.style k.place js) (without_is models cs r q q p.names sound q tag ms)) ∙ k.found_is) in
      (k.place, g.0, g.1, ap (λ u. variant_is_of u (held models cs r q g.0)) k.at ∙ g.2)
  internal_is closed tag ws l h _ b x e = absurd (never_stopped x [] e)

  beside_is : (closed : Bool) (ws : List VariantModel) (ms : Members) → MembersTyped models cs r q ms → (i : ℕ) (w : VariantModel) (x : Typed) → slice_get ws i ≡ Some w → ContentLeads (variant_content closed w)
      → content_beside closed (member_readers models cs r q ms) i w ≡ taken x → EnumIs ws x
  beside_is closed ws no_members b i w x at l e =
      let g = if_taken (is_unit w) (taken (unit_of i [])) x e in
      of_unit ws i w [] x at g.0 (one_taken (unit_of i []) x g.1)
  beside_is closed ws (member n v ms) b i w x at l e =
      let c = variant_content closed w in
      let read = (value_reader models cs r q v).as_content c in
      let g = unless_taken (is_unit w) (under n (read_map (variant_of i) read)) (n ∷ []) x e in
      let is = map_taken (variant_of i) read x (under_taken n (read_map (variant_of i) read) x g.1) in
      of_contents closed ws i w is.0 x at g.0 (read_inside v c is.0 is.1) (b.1.as_content c is.0 l is.1) is.2

  adjacent_is : (closed : Bool) (tag content : List ℕ) (ws : List VariantModel) → VariantsLead ws → variant_names_lead_back ws ≡ true → (v : Value) → PartsTyped models cs r q v → (x : Typed)
      → after_tag tag ws (adjacent_read closed (without content (without tag (members_in (readers_of models cs r q v)))) (named content (members_in (readers_of models cs r q v)))) (tag_value tag v) ≡ taken x → EnumIs ws x
  adjacent_is closed tag content ws l h (object ms) b x e =
      let os = without content (without tag (member_readers models cs r q ms)) in
      let t = tag_taken models cs r q q p.names sound tag ws (adjacent_read closed os (named content (member_readers models cs r q ms))) (member_at tag ms) x h e in
      let k = t.1 in
      let w = k.variant in
      let lead = content_leads closed w.style w.fields (k.among is_variant_fit l.0, k.among (λ u. fields_lead_back u.fields) l.1) in
      beside_is closed ws (those (bytes_eq content) ms) (typed_those models cs r q p.names sound typed_so (bytes_eq content) ms b.0) k.place w x k.at lead
      (sym (ap (λ js. content_beside closed js k.place w) (named_is models cs r q q p.names sound q content ms))
      ∙ beside_taken models cs r q q p.names sound closed os (named content (member_readers models cs r q ms)) k.place w x k.found_is)
  adjacent_is closed tag content ws l h _ b x e = absurd (never_stopped x [] e)

  -- ---- one value

  module _ (v : Value) (numbers : has_json_numbers v ≡ true) (inside : PartsBack models cs r q q v) (typed' : PartsTyped models cs r q v) where
    abbrev R : ℕ → TypeModel → Read Typed
    R k t = type_within models cs r q v (readers_of models cs r q v) k t

    abbrev C : ℕ → Content → Read (List Typed)
    C k c = content_read q (absent models) r cs v (readers_of models cs r q v) (R k) c

    abbrev I : TypeModel → Typed → Type 0
    I t x = Is models cs r q t x

    boolean_row : (u : Value) (x : Typed) → boolean_read u ≡ taken x → I boolean_type x
    boolean_row (value.boolean b) x e = subst (I boolean_type) (one_taken (typed.boolean b) x e) refl
    boolean_row _ x e = absurd (never_stopped x [] e)

    integer_row : (g : Range) (u : Value) (x : Typed) → integer_read g u ≡ taken x → I (integer_type g) x
    integer_row g (number z) x e =
        let f = if_taken (in_range z g) (taken (typed.integer z)) x e in
        subst (I (integer_type g)) (one_taken (typed.integer z) x f.1) f.0
    integer_row g _ x e = absurd (never_stopped x [] e)

    text_row : (u : Value) (x : Typed) → text_read u ≡ taken x → I text_type x
    text_row (text s) x e = subst (I text_type) (one_taken (typed.text s) x e) refl
    text_row _ x e = absurd (never_stopped x [] e)

    native_row : (f : Format) (u : Value) (x : Typed) → native_read r f u ≡ taken x → I (native_type f) x
    native_row f (text s) x e =
        let g = if_taken (r.has_format f s) (taken (typed.text s)) x e in
        subst (I (native_type f)) (one_taken (typed.text s) x g.1) g.0
    native_row f _ x e = absurd (never_stopped x [] e)

    unit_row : (u : Value) (x : Typed) → unit_read u ≡ taken x → I unit_type x
    unit_row null x e = subst (I unit_type) (one_taken typed.unit x e) refl
    unit_row _ x e = absurd (never_stopped x [] e)

    option_row : (k : ℕ) (t : TypeModel) (x : Typed) → ((y : Typed) → R k t ≡ taken y → I t y) → (b : Bool) → cond b (taken typed.none) (read_map typed.some (R k t)) ≡ taken x → I (option_type t) x
    option_row k t x h true e = subst (I (option_type t)) (one_taken typed.none x e) refl
    option_row k t x h false e = let g = map_taken typed.some (R k t) x e in subst (I (option_type t)) g.2 (h g.0 g.1)

    vec_row : (t : TypeModel) (u : Value) → PartsTyped models cs r q u → (x : Typed) → read_map (λ xs. typed.list (typeds xs)) (list_read t (readers_of models cs r q u)) ≡ taken x → I (vec_type t) x
    vec_row t (list vs) b x e =
        let g = map_taken (λ xs. typed.list (typeds xs)) (items_read 0 t (item_readers models cs r q vs)) x e in
        subst (I (vec_type t)) g.2 (all_are models cs r q t g.0 ((items_are models cs r q t 0 vs g.0 b g.1).0))
    vec_row t _ b x e = absurd (never_stopped x [] e)

    set_row : (t : TypeModel) (u : Value) → PartsTyped models cs r q u → (x : Typed) → read_map (λ xs. typed.list (typeds (keep_apart (written models t) [] xs))) (list_read t (readers_of models cs r q u)) ≡ taken x → I (set_type t) x
    set_row t (list vs) b x e =
        let g = map_taken (λ xs. typed.list (typeds (keep_apart (written models t) [] xs))) (items_read 0 t (item_readers models cs r q vs)) x e in
        let each = kept_are models cs r q t [] g.0 ((items_are models cs r q t 0 vs g.0 b g.1).0) in
        let all = all_are models cs r q t (keep_apart (written models t) [] g.0) each in
        let apart = kept_differ models cs r q t [] g.0 in
        subst (I (set_type t)) g.2 (λ i. all i && apart i)
    set_row t _ b x e = absurd (never_stopped x [] e)

    array_row : (t : TypeModel) (n : ℕ) (u : Value) → PartsTyped models cs r q u → (x : Typed) → read_map (λ xs. typed.list (typeds xs)) (array_read t n (readers_of models cs r q u)) ≡ taken x → I (array_type t n) x
    array_row t n (list vs) b x e =
        let first = item_readers models cs r q vs in
        let g = map_taken (λ xs. typed.list (typeds xs)) (cond (length first == n) (items_read 0 t first) (stopped [])) x e in
        let h = if_taken (length first == n) (items_read 0 t first) g.0 g.1 in
        let each = items_are models cs r q t 0 vs g.0 b h.1 in
        let all = all_are models cs r q t g.0 each.0 in
        let long : (length (held models cs r q g.0) == n) ≡ true = ap (λ l. l == n) (held_length models cs r q g.0 ∙ each.1) ∙ h.0 in
        subst (I (array_type t n)) g.2 (λ i. long i && all i)
    array_row t n _ b x e = absurd (never_stopped x [] e)

    map_row : (k t : TypeModel) (u : Value) → PartsTyped models cs r q u → (x : Typed) → object_read k t (readers_of models cs r q u) ≡ taken x → I (map_type k t) x
    map_row k t (object ms) b x e =
        let g = map_taken (λ es. typed.map_of (pairs es)) (pairs_read k t (member_readers models cs r q ms)) x e in
        let all = pairs_are models cs r q k t ms g.0 b.0 g.1 in
        let names = pairs_rise models cs r q k t g.0 ms (pairs_each models cs r q q k t ms g.0 b.1 g.1) b.2 in
        subst (I (map_type k t)) g.2 (λ i. all i && names i)
    map_row k t _ b x e = absurd (never_stopped x [] e)

    abbrev ItemsTyped : ℕ → Type 0
    ItemsTyped k = (n : List ℕ) (x : Typed) → R k (item_type n) ≡ taken x → I (item_type n) x

    type_typed : (k : ℕ) → ItemsTyped k → (t : TypeModel) (x : Typed) → R k t ≡ taken x → I t x
    type_typed k h boolean_type x e = boolean_row v x e
    type_typed k h (integer_type g) x e = integer_row g v x e
    type_typed k h text_type x e = text_row v x e
    type_typed k h (native_type f) x e = native_row f v x e
    type_typed k h any_type x e = subst (I any_type) (one_taken (typed.any v) x e) refl
    type_typed k h unit_type x e = unit_row v x e
    type_typed k h (option_type t) x e = option_row k t x (λ y g. type_typed k h t y g) (is_null v) e
    type_typed k h (boxed_type t) x e = boxed_is models cs r t x ∙ type_typed k h t x e
    type_typed k h (vec_type t) x e = vec_row t v typed' x e
    type_typed k h (set_type t) x e = set_row t v typed' x e
    type_typed k h (map_type n t) x e = map_row n t v typed' x e
    type_typed k h (tuple_type ts) x e =
        let g = map_taken (λ xs. typed.list (typeds xs)) (tuple_read (types_of ts) (readers_of models cs r q v)) x e in
        subst (I (tuple_type ts)) g.2 (tuple_is models cs r q (types_of ts) v g.0 typed' g.1)
    type_typed k h (array_type t n) x e = array_row t n v typed' x e
    type_typed k h (item_type n) x e = h n x e
    type_typed k h outside_type x e = absurd (never_stopped x [] e)

    struct_row : (closed : Bool) (fs : List FieldModel) → are_fields_fit fs ≡ true → (u : Value) → PartsTyped models cs r q u → (xs : List Typed) → struct_read q (absent models) closed fs (readers_of models cs r q u) ≡ taken xs
        → in_places (field_types fs) (held models cs r q xs) ≡ true
    struct_row closed fs f (object ms) b xs e = struct_is models cs r q p.names sound typed_so closed fs ms xs f b.0 b.1 b.2 e
    struct_row closed fs f _ b xs e = absurd (never_stopped xs [] e)

    content_typed : (k : ℕ) → ItemsTyped k → (c : Content) → ContentLeads c → (xs : List Typed) → C k c ≡ taken xs → content_is models cs r q c xs ≡ true
    content_typed k h (one_type t) l xs e =
        let g = map_taken (λ x. x ∷ []) (R k t) xs e in
        let first = type_typed k h t g.0 g.1 in
        subst (λ ys. content_is models cs r q (one_type t) ys ≡ true) g.2 (λ i. first i && true)
    content_typed k h (places ts) l xs e = tuple_is models cs r q ts v xs typed' e
    content_typed k h (named_fields closed fs) l xs e = struct_row closed fs l.0 v typed' xs e

    here_inside : (k : ℕ) (c : Content) (xs : List Typed) → C k c ≡ taken xs → IsInside c
    here_inside k (one_type outside_type) xs e = never_stopped xs [] e
    here_inside k _ xs e = tt

    untagged_is : (k : ℕ) → ItemsTyped k → (closed : Bool) (ws : List VariantModel) → VariantsLead ws → (i : ℕ) (us : List VariantModel) (x : Typed) → drop i ws ≡ us
        → untagged_read q (absent models) r cs v (readers_of models cs r q v) (R k) closed i us ≡ taken x → EnumIs ws x
    untagged_is k h closed ws l i [] x at e = absurd (never_stopped x [] e)
    untagged_is k h closed ws l i (w ∷ us) x at e =
        ⊎_elim here (λ g. untagged_is k h closed ws l (suc i) us x (tail_at ws i w us at) g.2)
        (next_taken (variant_read q (absent models) r cs v (readers_of models cs r q v) (R k) closed i w) (untagged_read q (absent models) r cs v (readers_of models cs r q v) (R k) closed (suc i) us) x e)
      where
        found : slice_get ws i ≡ Some w
        found = head_at ws i w us at

        lead : ContentLeads (variant_content closed w)
        lead = content_leads closed w.style w.fields (at_place is_variant_fit ws i w l.0 found, at_place (λ u. fields_lead_back u.fields) ws i w l.1 found)

        by : (b : Bool) → is_unit w ≡ b → (xs : List Typed) → C k (variant_content closed w) ≡ taken xs → made b i xs ≡ x → EnumIs ws x
        by true u xs c g = of_unit ws i w xs x found u g
        by false u xs c g = of_contents closed ws i w xs x found u (here_inside k (variant_content closed w) xs c) (content_typed k h (variant_content closed w) lead xs c) g

        here : variant_read q (absent models) r cs v (readers_of models cs r q v) (R k) closed i w ≡ taken x → EnumIs ws x
        here g =
            let m = made_taken (is_unit w) i (C k (variant_content closed w)) x g in
            by (is_unit w) refl m.0 m.1 m.2

    enum_typed : (k : ℕ) → ItemsTyped k → (closed : Bool) (tag : TagModel) (ws : List VariantModel) → VariantsLead ws → tag_leads_back tag ws ≡ true → (x : Typed)
        → body_read q (absent models) r cs v (readers_of models cs r q v) (R k) closed (enum_model tag ws) ≡ taken x → EnumIs ws x
    enum_typed k h closed external_tag ws l t x e = external_is closed ws l (and_left (variant_names_lead_back ws) _ t) v typed' x e
    enum_typed k h closed (internal_tag n) ws l t x e = internal_is closed n ws l (and_left (variant_names_lead_back ws) _ t) v typed' x e
    enum_typed k h closed (adjacent_tag n c) ws l t x e = adjacent_is closed n c ws l (and_left (variant_names_lead_back ws) _ t) v typed' x e
    enum_typed k h closed untagged ws l t x e = untagged_is k h closed ws l 0 ws x refl e

    body_typed : (k : ℕ) → k ≤ allowed models → ItemsTyped k → (n : List ℕ) (m : ContainerModel) → container_named n models ≡ Some m → (not m.try_from || given_rule_agrees r v (rule_of m.name cs.constraints)) ≡ true
        → (b : BodyModel) → m.body ≡ b → is_body_fit b ≡ true → body_leads_back b ≡ true → (x : Typed) → body_read q (absent models) r cs v (readers_of models cs r q v) (R k) m.closed b ≡ taken x → I (item_type n) x
    body_typed k le h n m e rule (enum_model tag ws) w f l x z =
        let g = enum_typed k h m.closed tag ws (f, and_right (tag_leads_back tag ws) (list_all (λ u. fields_lead_back u.fields) ws) l) (and_left (tag_leads_back tag ws) (list_all (λ u. fields_lead_back u.fields) ws) l) x z in
        subst (I (item_type n)) g.2 (of_body models cs r n m (enum_model tag ws) e w (chosen g.0 (held models cs r q g.1)) g.3)
    body_typed k le h n m e rule (struct_model struct_style fs) w f l x z =
        let g = map_taken (λ xs. typed.struct (typeds xs)) (struct_read q (absent models) m.closed fs (readers_of models cs r q v)) x z in
        subst (I (item_type n)) g.2 (of_body models cs r n m (struct_model struct_style fs) e w (fields (held models cs r q g.0)) (struct_row m.closed fs f v typed' g.0 g.1))
    body_typed k le h n m e rule (struct_model newtype_style []) w f l x z = absurd (never_stopped x [] z)
    body_typed k le h n m e rule (struct_model newtype_style (y ∷ [])) w f l x z =
        let g = map_taken typed.newtype (R k y.field_type) x z in
        let first = type_typed k h y.field_type g.0 g.1 in
        let back = type_back models cs r q q p sound v numbers inside k (items_back models cs r q q p sound v numbers inside k le) y.field_type g.0 g.1 in
        let named' = rule_of m.name cs.constraints in
        let holds : (not m.try_from || given_rule_agrees r (written models y.field_type g.0) named') ≡ true =
        ap (λ u. not m.try_from || u) (alike_given r named' (rule_scalars m.name cs.constraints p.rules) v (written models y.field_type g.0) back.1) ∙ rule in
        let h' : Held = record { is_of = is_typed models cs r g.0; writes = writes models g.0 } in
        subst (I (item_type n)) g.2 (of_body models cs r n m (struct_model newtype_style (y ∷ [])) e w (inner h') (λ i. first i && holds i))
    body_typed k le h n m e rule (struct_model newtype_style (y ∷ u ∷ fs)) w f l x z = absurd (never_stopped x [] z)
    body_typed k le h n m e rule (struct_model tuple_style fs) w f l x z = absurd (never_stopped x [] z)
    body_typed k le h n m e rule (struct_model unit_style fs) w f l x z = absurd (never_stopped x [] z)

    abbrev GivenIs : Option ContainerModel → Type 0
    GivenIs None = Unit {0}
    GivenIs (Some m) = (is_body_fit m.body ≡ true) × (container_leads_back m ≡ true)

    given_is : (n : List ℕ) (ms : List ContainerModel) → list_all (λ m. is_body_fit m.body) ms ≡ true → list_all container_leads_back ms ≡ true → GivenIs (container_named n ms)
    given_is n [] f l = tt
    given_is n (m ∷ ms) f l =
        by (bytes_eq n m.name) (and_left (is_body_fit m.body) (list_all (λ u. is_body_fit u.body) ms) f, and_left (container_leads_back m) (list_all container_leads_back ms) l)
        (given_is n ms (and_right (is_body_fit m.body) (list_all (λ u. is_body_fit u.body) ms) f) (and_right (container_leads_back m) (list_all container_leads_back ms) l))
      where
        by : (b : Bool) → GivenIs (Some m) → GivenIs (container_named n ms) → GivenIs (cond b (Some m) (container_named n ms))
        by true g h = g
        by false g h = h

    container_typed : (k : ℕ) → k ≤ allowed models → ItemsTyped k → (n : List ℕ) (o : Option ContainerModel) → container_named n models ≡ o → GivenIs o → (x : Typed)
        → container_read q (absent models) r cs v (readers_of models cs r q v) (R k) o ≡ taken x → I (item_type n) x
    container_typed k le h n None e g x z = absurd (never_stopped x [] z)
    container_typed k le h n (Some m) e g x z =
        let b = kept_taken (not m.try_from || given_rule_agrees r v (rule_of m.name cs.constraints)) (body_read q (absent models) r cs v (readers_of models cs r q v) (R k) m.closed m.body) x z in
        body_typed k le h n m e b.0 m.body refl g.0 (and_left (body_leads_back m.body) (not (m.transparent && m.try_from)) g.1) x b.1

    items_typed : (k : ℕ) → k ≤ allowed models → ItemsTyped k
    items_typed zero le n x e = absurd (never_stopped x [] e)
    items_typed (suc k) le n x e = container_typed k (omega arith) (items_typed k (omega arith)) n (container_named n models) refl (given_is n models p.fit p.names) x e

    pub level_type : (t : TypeModel) (x : Typed) → R (allowed models) t ≡ taken x → I t x
    level_type t x e = type_typed (allowed models) (items_typed (allowed models) (omega arith)) t x e

    pub level_content : (c : Content) → ContentLeads c → (xs : List Typed) → C (allowed models) c ≡ taken xs → content_is models cs r q c xs ≡ true
    level_content c l xs e = content_typed (allowed models) (items_typed (allowed models) (omega arith)) c l xs e
