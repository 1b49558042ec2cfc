-- Contents of variants, and tagged enums, read again.
use Rattle.std.proofs.Common.{◌≡◌, ℕ, List, [], ◌∷◌, slice_get, Bool, true, false, ◌&&◌, ◌||◌, not, cond, refl, sym, ap, ◌∙◌, subst, true≢false, bytes_eq, Option, Some, None}
use Rattle.std.specs.List.{list_all}
use Rattle.json_value.specs.Value as value
use Rattle.json_value.specs.Value.{Value, Members, null, number, fraction, text, list, object, items, member, no_members, member_at}
use Rattle.schema_defs.specs.Texts.{Relations}
use Rattle.model_defs.specs.Types.{TypeModel, outside_type}
use Rattle.model_defs.specs.Model.{Style, struct_style, tuple_style, newtype_style, unit_style, FieldModel, VariantModel, TagModel, external_tag, internal_tag, adjacent_tag, ContainerModel, ConversionsD}
use Rattle.model_defs.specs.Layer.{Content, one_type, MemberPart, Parts, without, named, members_in, is_unit, fields_content, variant_content}
use Rattle.model_defs.specs.Reads.{allowed}
use Rattle.model_defs.specs.Refusals.{tag_value}
use Rattle.model_defs.specs.Settled.{put}
use Rattle.model_defs.specs.Flat.{MembersRise}
use Rattle.model_defs.proofs.Rising.{bytes_itself, put_found}
use Rattle.typed_defs.specs.Typed.{Typed, typeds}
use Rattle.typed_defs.specs.Written.{fields_of, field_types, by_places, is_unit_style, content_writes, members_written, by_name, beside_tag, beside_content, wrapped, chosen_writes, enum_writes, parts_of}
use Rattle.typed_defs.specs.Fit.{is_variant_fit}
use Rattle.reading_defs.specs.Reading.{Read, taken, stopped, Reader, read_map, under, absent, members_read, variant_of, unit_of, unit_named, contents_read, external_read, content_beside, adjacent_read, after_tag, internal_read, content_read, value_reader, member_readers, readers_of, type_within}
use Rattle.reading_defs.proofs.Rows.{writers_of_fields}
use Rattle.writing_laws.specs.Tables.{variant_names_lead_back, has_one_name, is_beside, fields_lead_back, container_leads_back, tag_leads_back}
use Rattle.writing_laws.proofs.Taken.{one_taken, never_stopped, map_taken, under_taken, if_taken, unless_taken, and_left, and_right, not_false, or_right}
use Rattle.writing_laws.proofs.Members.{those, those_those, those_same, those_pass, those_rise, put_out}
use Rattle.writing_laws.proofs.Alike.{Alike}
use Rattle.writing_laws.proofs.Back.{ReadsAgain, ValueBack, MembersBack, PartsBack, FieldsLead, ContentLeads, content_written}
use Rattle.writing_laws.proofs.Fields.{filter_readers, reader_is}
use Rattle.writing_laws.proofs.Structs.{Passing, back_those, struct_back}
use Rattle.writing_laws.proofs.Names.{unit_is, content_leads, one_name, names_apart, Named, named_by}

module _ (models : List ContainerModel) (cs : ConversionsD) (r : Relations) (q q' : ℕ → TypeModel → Read Typed) (leads : list_all container_leads_back models ≡ true)
    (sound : (n : ℕ) (t : TypeModel) (x : Typed) → q n t ≡ taken x → ReadsAgain models cs r q q' t x) where
  abbrev pub written_by : TagModel → List VariantModel → Typed → Value
  written_by tag ws x = enum_writes tag ws (parts_of models x)

  pub variant_is : (tag : TagModel) (ws : List VariantModel) (i : ℕ) (w : VariantModel) (xs : List Typed) → slice_get ws i ≡ Some w
      → written_by tag ws (variant_of i xs) ≡ wrapped tag w (content_writes w.style w.fields (fields_of models (typeds xs)))
  variant_is tag ws i w xs e = ap (λ o. chosen_writes tag o (fields_of models (typeds xs))) e

  -- contents that are read are not those of a newtype of more or fewer fields than one
  abbrev IsOutside : Content → Type 0
  IsOutside (one_type outside_type) = ⊥
  IsOutside _ = Unit {0}

  pub contents_are : (closed : Bool) (s : Style) (fs : List FieldModel) (xs : List Typed) → IsOutside (fields_content closed s fs) → is_unit_style s ≡ false
      → content_writes s fs (fields_of models (typeds xs)) ≡ content_written models cs r q q' (fields_content closed s fs) xs
  contents_are closed struct_style fs xs h u = refl
  contents_are closed tuple_style fs xs h u = ap (λ ws. list (items (by_places (field_types fs) ws))) (writers_of_fields models xs)
  contents_are closed newtype_style [] xs h u = absurd h
  contents_are closed newtype_style (f ∷ []) [] h u = refl
  contents_are closed newtype_style (f ∷ []) (x ∷ []) h u = refl
  contents_are closed newtype_style (f ∷ []) (x ∷ y ∷ xs) h u = refl
  contents_are closed newtype_style (f ∷ g ∷ fs) xs h u = absurd h
  contents_are closed unit_style fs xs h u = absurd (true≢false u)

  pub not_outside : (v : Value) (ps : Parts Reader) (k : ℕ) (c : Content) (xs : List Typed) → content_read q (absent models) r cs v ps (type_within models cs r q v ps k) c ≡ taken xs → IsOutside c
  not_outside v ps k (one_type outside_type) xs e = never_stopped xs [] e
  not_outside v ps k _ xs e = tt

  pub fields_lead : (w : VariantModel) → is_variant_fit w ≡ true → fields_lead_back w.fields ≡ true → FieldsLead w.fields
  fields_lead w g h = (g, h)

  variant_leads : (closed : Bool) (w : VariantModel) → FieldsLead w.fields → ContentLeads (variant_content closed w)
  variant_leads closed w h = content_leads closed w.style w.fields h

  abbrev VariantsLead : List VariantModel → Type 0
  VariantsLead ws = (list_all is_variant_fit ws ≡ true) × (list_all (λ w. fields_lead_back w.fields) ws ≡ true)

  -- ---- externally tagged

  external_text : (closed : Bool) (ws : List VariantModel) → tag_leads_back external_tag ws ≡ true → (s : List ℕ) (x : Typed) → external_read closed ws (text s) (readers_of models cs r q (text s)) ≡ taken x
      → (external_read closed ws (written_by external_tag ws x) (readers_of models cs r q' (written_by external_tag ws x)) ≡ taken x) × Alike (text s) (written_by external_tag ws x)
  external_text closed ws h s x e =
      let ones = list_all (λ u. not (is_unit u) || has_one_name u) ws in
      let k = named_by unit_named [] ws 0 ws s x refl (and_left (variant_names_lead_back ws) ones h) e in
      let w = k.variant in
      let g = if_taken (is_unit w) (taken (unit_of k.place [])) x k.found_is in
      let is = one_taken (unit_of k.place []) x g.1 in
      let same = one_name s w.serialize_name w.deserialize_names
      (or_right (not (is_unit w)) (has_one_name w) (k.among (λ u. not (is_unit u) || has_one_name u) (and_right (variant_names_lead_back ws) ones h)) (ap not g.0)) k.named in
      let was : written_by external_tag ws (unit_of k.place []) ≡ text w.serialize_name =
      variant_is external_tag ws k.place w [] k.at
      ∙ ap (λ z. cond z (text w.serialize_name) (object (member w.serialize_name (content_writes w.style w.fields []) no_members))) (sym (unit_is w) ∙ g.0) in
      subst (λ y. (external_read closed ws (written_by external_tag ws y) (readers_of models cs r q' (written_by external_tag ws y)) ≡ taken y) × Alike (text s) (written_by external_tag ws y)) is
      (subst (λ u. (external_read closed ws u (readers_of models cs r q' u) ≡ taken (unit_of k.place [])) × Alike (text s) u) (sym was)
      (k.back unit_named (stopped []) ∙ ap (λ z. cond z (taken (unit_of k.place [])) (stopped [])) g.0, ap text same))

  external_member : (closed : Bool) (ws : List VariantModel) → VariantsLead ws → tag_leads_back external_tag ws ≡ true → (n : List ℕ) (v : Value) → ValueBack models cs r q q' v → (x : Typed)
      → external_read closed ws (object (member n v no_members)) (readers_of models cs r q (object (member n v no_members))) ≡ taken x
      → (external_read closed ws (written_by external_tag ws x) (readers_of models cs r q' (written_by external_tag ws x)) ≡ taken x) × Alike (object (member n v no_members)) (written_by external_tag ws x)
  external_member closed ws l h n v b x e =
      let ones = list_all (λ u. not (is_unit u) || has_one_name u) ws in
      let m : MemberPart Reader = record { name = n; key = value_reader models cs r q (text n); value = value_reader models cs r q v } in
      let k = named_by (contents_read closed m) [] ws 0 ws n x refl (and_left (variant_names_lead_back ws) ones h) e in
      let w = k.variant in
      let c = variant_content closed w in
      let read = (value_reader models cs r q v).as_content c in
      let g = unless_taken (is_unit w) (under n (read_map (variant_of k.place) read)) [] x k.found_is in
      let is = map_taken (variant_of k.place) read x (under_taken n (read_map (variant_of k.place) read) x g.1) in
      let cw = content_written models cs r q q' c is.0 in
      let again = b.as_content c is.0 (variant_leads closed w (fields_lead w (k.among is_variant_fit l.0) (k.among (λ u. fields_lead_back u.fields) l.1))) is.1 in
      let in_form = not_outside v (readers_of models cs r q v) (allowed models) c is.0 (sym (ap (λ z. z.as_content c) (reader_is models cs r q v)) ∙ is.1) in
      let was : written_by external_tag ws (variant_of k.place is.0) ≡ object (member w.serialize_name cw no_members) =
      variant_is external_tag ws k.place w is.0 k.at
      ∙ ap (by_name w) (contents_are closed w.style w.fields is.0 in_form (sym (unit_is w) ∙ g.0))
      ∙ ap (λ z. cond z (text w.serialize_name) (object (member w.serialize_name cw no_members))) (sym (unit_is w) ∙ g.0) in
      let m' : MemberPart Reader = record { name = w.serialize_name; key = value_reader models cs r q' (text w.serialize_name); value = value_reader models cs r q' cw } in
      subst (λ y. (external_read closed ws (written_by external_tag ws y) (readers_of models cs r q' (written_by external_tag ws y)) ≡ taken y) × Alike (object (member n v no_members)) (written_by external_tag ws y)) is.2
      (subst (λ u. (external_read closed ws u (readers_of models cs r q' u) ≡ taken (variant_of k.place is.0)) × Alike (object (member n v no_members)) u) (sym was) (
        k.back (contents_read closed m') (stopped [])
            ∙ ap (λ z. cond z (stopped []) (under w.serialize_name (read_map (variant_of k.place) ((value_reader models cs r q' cw).as_content c)))) g.0
            ∙ ap (λ z. under w.serialize_name (read_map (variant_of k.place) z)) again,
        tt,
      ))

  pub external_back : (closed : Bool) (ws : List VariantModel) → VariantsLead ws → tag_leads_back external_tag ws ≡ true → (v : Value) → PartsBack models cs r q q' v → (x : Typed)
      → external_read closed ws v (readers_of models cs r q v) ≡ taken x
      → (external_read closed ws (written_by external_tag ws x) (readers_of models cs r q' (written_by external_tag ws x)) ≡ taken x) × Alike v (written_by external_tag ws x)
  external_back closed ws l h (text s) b x e = external_text closed ws h s x e
  external_back closed ws l h (object no_members) b x e = absurd (never_stopped x [] e)
  external_back closed ws l h (object (member n v no_members)) b x e = external_member closed ws l h n v b.0.1 x e
  external_back closed ws l h (object (member n v (member m u ms))) b x e = absurd (never_stopped x [] e)
  external_back closed ws l h null b x e = absurd (never_stopped x [] e)
  external_back closed ws l h (value.boolean c) b x e = absurd (never_stopped x [] e)
  external_back closed ws l h (number z) b x e = absurd (never_stopped x [] e)
  external_back closed ws l h fraction b x e = absurd (never_stopped x [] e)
  external_back closed ws l h (list xs) b x e = absurd (never_stopped x [] e)

  -- ---- a tag

  -- a tag that is read is a text, by which the variant is found
  pub tag_taken : (tag : List ℕ) (ws : List VariantModel) (found : ℕ → VariantModel → Read Typed) (o : Option Value) (x : Typed) → variant_names_lead_back ws ≡ true → after_tag tag ws found o ≡ taken x
      → (s : List ℕ) × Named found ws 0 ws s x
  tag_taken tag ws found None x h e = absurd (never_stopped x [] e)
  tag_taken tag ws found (Some (text s)) x h e = (s, named_by found (tag ∷ []) ws 0 ws s x refl h e)
  tag_taken tag ws found (Some null) x h e = absurd (never_stopped x (tag ∷ []) e)
  tag_taken tag ws found (Some (value.boolean b)) x h e = absurd (never_stopped x (tag ∷ []) e)
  tag_taken tag ws found (Some (number z)) x h e = absurd (never_stopped x (tag ∷ []) e)
  tag_taken tag ws found (Some fraction) x h e = absurd (never_stopped x (tag ∷ []) e)
  tag_taken tag ws found (Some (list xs)) x h e = absurd (never_stopped x (tag ∷ []) e)
  tag_taken tag ws found (Some (object ms)) x h e = absurd (never_stopped x (tag ∷ []) e)

  abbrev pub other : List ℕ → List ℕ → Bool
  other tag n = not (bytes_eq tag n)

  -- what the tag that was put is found to be, and what is left without it
  tag_put : (tag : List ℕ) (v : Value) (ms : Members) → tag_value tag (object (put tag v ms)) ≡ Some v
  tag_put tag v ms = put_found tag tag v ms ∙ ap (λ b. cond b (Some v) (member_at tag ms)) (bytes_itself tag)

  pub without_is : (p : ℕ → TypeModel → Read Typed) (tag : List ℕ) (ms : Members) → without tag (member_readers models cs r p ms) ≡ member_readers models cs r p (those (other tag) ms)
  without_is p tag ms = filter_readers models cs r p (other tag) ms

  without_put : (tag : List ℕ) (v : Value) (ms : Members) → without tag (member_readers models cs r q' (put tag v ms)) ≡ member_readers models cs r q' (those (other tag) ms)
  without_put tag v ms = without_is q' tag (put tag v ms) ∙ ap (member_readers models cs r q') (put_out (other tag) tag v ms (ap not (bytes_itself tag)))

  -- ---- internally tagged

  beside_passes : (tag : List ℕ) (fs : List FieldModel) → list_all (λ f. f.is_rest || not (bytes_eq tag f.serialize_name)) fs ≡ true → Passing (other tag) fs
  beside_passes tag [] h = tt
  beside_passes tag (f ∷ fs) h = (
    (λ e. or_right f.is_rest (not (bytes_eq tag f.serialize_name)) (and_left (f.is_rest || not (bytes_eq tag f.serialize_name)) (list_all (λ g. g.is_rest || not (bytes_eq tag g.serialize_name)) fs) h) e),
    beside_passes tag fs (and_right (f.is_rest || not (bytes_eq tag f.serialize_name)) (list_all (λ g. g.is_rest || not (bytes_eq tag g.serialize_name)) fs) h),
  )

  abbrev pub by_style : (p : ℕ → TypeModel → Read Typed) → Bool → List FieldModel → Style → ℕ → List (MemberPart Reader) → Read Typed
  by_style p closed fs s i ms = elim s [
    | struct_style ↦ read_map (variant_of i) (members_read p (absent models) closed fs ms)
    | unit_style ↦ read_map (unit_of i) (members_read p (absent models) closed [] ms)
    | tuple_style ↦ stopped []
    | newtype_style ↦ stopped []
  ]

  none_read : (closed : Bool) → members_read q' (absent models) closed [] [] ≡ taken []
  none_read true = refl
  none_read false = refl

  -- beside the tag: what is written, and that it is read again without it
  beside_back : (closed : Bool) (tag n : List ℕ) (fs : List FieldModel) → FieldsLead fs → Passing (other tag) fs → (ms : Members) → MembersBack models cs r q q' ms → MembersRise ms → (s : Style) (i : ℕ) (x : Typed)
      → by_style q closed fs s i (member_readers models cs r q (those (other tag) ms)) ≡ taken x
      → (xs : List Typed) × (variant_of i xs ≡ x) × (M : Members) × (beside_tag tag n (content_writes s fs (fields_of models (typeds xs))) ≡ object (put tag (text n) M))
      × (by_style q' closed fs s i (member_readers models cs r q' (those (other tag) M)) ≡ taken x)
  beside_back closed tag n fs l passing ms b rise struct_style i x e =
      let g = map_taken (variant_of i) (members_read q (absent models) closed fs (member_readers models cs r q (those (other tag) ms))) x e in
      let again = struct_back models cs r q q' leads sound closed fs (those (other tag) ms) g.0 (other tag) l (back_those models cs r q q' leads sound (other tag) ms b) (those_rise (other tag) ms rise) (those_pass (other tag) ms) passing g.1 in
      (g.0, g.2, members_written fs (fields_of models (typeds g.0)), refl, ap (read_map (variant_of i)) again ∙ ap taken g.2)
  beside_back closed tag n fs l passing ms b rise unit_style i x e =
      let g = map_taken (unit_of i) (members_read q (absent models) closed [] (member_readers models cs r q (those (other tag) ms))) x e in
      ([], g.2, no_members, refl, ap (read_map (unit_of i)) (none_read closed) ∙ ap taken g.2)
  beside_back closed tag n fs l passing ms b rise tuple_style i x e = absurd (never_stopped x [] e)
  beside_back closed tag n fs l passing ms b rise newtype_style i x e = absurd (never_stopped x [] e)

  abbrev internally : (p : ℕ → TypeModel → Read Typed) → Bool → List ℕ → List VariantModel → Value → Read Typed
  internally p closed tag ws v = after_tag tag ws (internal_read p (absent models) closed (without tag (members_in (readers_of models cs r p v)))) (tag_value tag v)

  internal_object : (closed : Bool) (tag : List ℕ) (ws : List VariantModel) → VariantsLead ws → tag_leads_back (internal_tag tag) ws ≡ true → (ms : Members) → MembersBack models cs r q q' ms → MembersRise ms → (x : Typed)
      → internally q closed tag ws (object ms) ≡ taken x
      → (internally q' closed tag ws (written_by (internal_tag tag) ws x) ≡ taken x) × Alike (object ms) (written_by (internal_tag tag) ws x)
  internal_object closed tag ws l h ms b rise x e =
      let names = and_left (variant_names_lead_back ws) (list_all (is_beside tag) ws) h in
      let found = internal_read q (absent models) closed (without tag (member_readers models cs r q ms)) in
      let t = tag_taken tag ws found (member_at tag ms) x names e in
      let k = t.1 in
      let w = k.variant in
      let lead = fields_lead w (k.among is_variant_fit l.0) (k.among (λ u. fields_lead_back u.fields) l.1) in
      let passing = beside_passes tag w.fields (k.among (is_beside tag) (and_right (variant_names_lead_back ws) (list_all (is_beside tag) ws) h)) in
      let g = beside_back closed tag w.serialize_name w.fields lead passing ms b rise w.style k.place x (sym (ap (λ js. by_style q closed w.fields w.style k.place js) (without_is q tag ms)) ∙ k.found_is) in
      let M = g.2 in
      let was : written_by (internal_tag tag) ws (variant_of k.place g.0) ≡ object (put tag (text w.serialize_name) M) = variant_is (internal_tag tag) ws k.place w g.0 k.at ∙ g.3 in
      let again = internal_read q' (absent models) closed (without tag (member_readers models cs r q' (put tag (text w.serialize_name) M))) in
      subst (λ y. (internally q' closed tag ws (written_by (internal_tag tag) ws y) ≡ taken x) × Alike (object ms) (written_by (internal_tag tag) ws y)) g.1
      (subst (λ u. (internally q' closed tag ws u ≡ taken x) × Alike (object ms) u) (sym was) (
        ap (after_tag tag ws again) (tag_put tag (text w.serialize_name) M) ∙ k.back again (stopped (tag ∷ []))
            ∙ ap (λ js. by_style q' closed w.fields w.style k.place js) (without_put tag (text w.serialize_name) M) ∙ g.4,
        tt,
      ))

  pub internal_back : (closed : Bool) (tag : List ℕ) (ws : List VariantModel) → VariantsLead ws → tag_leads_back (internal_tag tag) ws ≡ true → (v : Value) → PartsBack models cs r q q' v → (x : Typed)
      → internally q closed tag ws v ≡ taken x → (internally q' closed tag ws (written_by (internal_tag tag) ws x) ≡ taken x) × Alike v (written_by (internal_tag tag) ws x)
  internal_back closed tag ws l h (object ms) b x e = internal_object closed tag ws l h ms b.0 b.1 x e
  internal_back closed tag ws l h _ b x e = absurd (never_stopped x [] e)

  -- ---- adjacently tagged

  abbrev adjacently : (p : ℕ → TypeModel → Read Typed) → Bool → List ℕ → List ℕ → List VariantModel → Value → Read Typed
  adjacently p closed tag content ws v =
      after_tag tag ws (adjacent_read closed (without content (without tag (members_in (readers_of models cs r p v)))) (named content (members_in (readers_of models cs r p v)))) (tag_value tag v)

  pub beside_taken : (closed : Bool) (os ms : List (MemberPart Reader)) (i : ℕ) (w : VariantModel) (x : Typed) → adjacent_read closed os ms i w ≡ taken x → content_beside closed ms i w ≡ taken x
  beside_taken true (o ∷ os) ms i w x e = absurd (never_stopped x (o.name ∷ []) e)
  beside_taken true [] ms i w x e = e
  beside_taken false os ms i w x e = e

  beside_again : (closed : Bool) (ms : List (MemberPart Reader)) (i : ℕ) (w : VariantModel) → adjacent_read closed [] ms i w ≡ content_beside closed ms i w
  beside_again true ms i w = refl
  beside_again false ms i w = refl

  pub named_is : (p : ℕ → TypeModel → Read Typed) (content : List ℕ) (ms : Members) → named content (member_readers models cs r p ms) ≡ member_readers models cs r p (those (bytes_eq content) ms)
  named_is p content ms = filter_readers models cs r p (bytes_eq content) ms

  -- what is written beside the tag: nothing, or the contents
  content_back : (closed : Bool) (tag content : List ℕ) (w : VariantModel) → FieldsLead w.fields → bytes_eq content tag ≡ false → (ms : Members) → MembersBack models cs r q q' ms → (i : ℕ) (x : Typed)
      → content_beside closed (member_readers models cs r q ms) i w ≡ taken x
      → (xs : List Typed) × (variant_of i xs ≡ x) × (N : Members) × (beside_content tag content w (content_writes w.style w.fields (fields_of models (typeds xs))) ≡ object (put tag (text w.serialize_name) N))
      × (content_beside closed (member_readers models cs r q' (those (bytes_eq content) N)) i w ≡ taken x) × (those (other content) N ≡ no_members)
  content_back closed tag content w l a no_members b i x e =
      let g = if_taken (is_unit w) (taken (unit_of i [])) x e in (
        [],
        one_taken (unit_of i []) x g.1,
        no_members,
        ap (λ z. object (put tag (text w.serialize_name) (cond z no_members (put content (content_writes w.style w.fields []) no_members)))) (sym (unit_is w) ∙ g.0),
        ap (λ z. cond z (taken (unit_of i [])) (stopped [])) g.0 ∙ g.1,
        refl,
      )
  content_back closed tag content w l a (member n v ms) b i x e =
      let c = variant_content closed w in
      let read = (value_reader models cs r q v).as_content c in
      let g = unless_taken (is_unit w) (under n (read_map (variant_of i) read)) (n ∷ []) x e in
      let is = map_taken (variant_of i) read x (under_taken n (read_map (variant_of i) read) x g.1) in
      let cw = content_written models cs r q q' c is.0 in
      let again = b.1.as_content c is.0 (variant_leads closed w l) is.1 in
      let in_form = not_outside v (readers_of models cs r q v) (allowed models) c is.0 (sym (ap (λ z. z.as_content c) (reader_is models cs r q v)) ∙ is.1) in
      let itself = bytes_itself content in (
        is.0,
        is.2,
        member content cw no_members,
        ap (λ z. object (put tag (text w.serialize_name) (cond (is_unit_style w.style) no_members (put content z no_members)))) (contents_are closed w.style w.fields is.0 in_form (sym (unit_is w) ∙ g.0))
            ∙ ap (λ z. object (put tag (text w.serialize_name) (cond z no_members (put content cw no_members)))) (sym (unit_is w) ∙ g.0),
        ap (λ z. content_beside closed (member_readers models cs r q' (cond z (member content cw no_members) no_members)) i w) itself
            ∙ ap (λ z. cond z (stopped (content ∷ [])) (under content (read_map (variant_of i) ((value_reader models cs r q' cw).as_content c)))) g.0
            ∙ ap (λ z. under content (read_map (variant_of i) z)) again ∙ ap taken is.2,
        ap (λ z. cond (not z) (member content cw no_members) no_members) itself,
      )

  adjacent_object : (closed : Bool) (tag content : List ℕ) (ws : List VariantModel) → VariantsLead ws → tag_leads_back (adjacent_tag tag content) ws ≡ true → (ms : Members) → MembersBack models cs r q q' ms → (x : Typed)
      → adjacently q closed tag content ws (object ms) ≡ taken x
      → (adjacently q' closed tag content ws (written_by (adjacent_tag tag content) ws x) ≡ taken x) × Alike (object ms) (written_by (adjacent_tag tag content) ws x)
  adjacent_object closed tag content ws l h ms b x e =
      let names = and_left (variant_names_lead_back ws) (not (bytes_eq tag content)) h in
      let apart = names_apart tag content (not_false (bytes_eq tag content) (and_right (variant_names_lead_back ws) (not (bytes_eq tag content)) h)) in
      let os = without content (without tag (member_readers models cs r q ms)) in
      let t = tag_taken tag ws (adjacent_read closed os (named content (member_readers models cs r q ms))) (member_at tag ms) x names e in
      let k = t.1 in
      let w = k.variant in
      let lead = fields_lead w (k.among is_variant_fit l.0) (k.among (λ u. fields_lead_back u.fields) l.1) in
      let g = content_back closed tag content w lead apart (those (bytes_eq content) ms) (back_those models cs r q q' leads sound (bytes_eq content) ms b) k.place x
      (sym (ap (λ js. content_beside closed js k.place w) (named_is q content ms)) ∙ beside_taken closed os (named content (member_readers models cs r q ms)) k.place w x k.found_is) in
      let N = g.2 in
      let P = put tag (text w.serialize_name) N in
      let was : written_by (adjacent_tag tag content) ws (variant_of k.place g.0) ≡ object P = variant_is (adjacent_tag tag content) ws k.place w g.0 k.at ∙ g.3 in
      let js = member_readers models cs r q' P in
      let again = adjacent_read closed (without content (without tag js)) (named content js) in
      let none : without content (without tag js) ≡ [] =
      ap (without content) (without_put tag (text w.serialize_name) N) ∙ without_is q' content (those (other tag) N)
      ∙ ap (member_readers models cs r q') (swap_those tag content N ∙ ap (those (other tag)) g.5) in
      let contents : named content js ≡ member_readers models cs r q' (those (bytes_eq content) N) =
      named_is q' content P ∙ ap (member_readers models cs r q') (put_out (bytes_eq content) tag (text w.serialize_name) N apart) in
      subst (λ y. (adjacently q' closed tag content ws (written_by (adjacent_tag tag content) ws y) ≡ taken x) × Alike (object ms) (written_by (adjacent_tag tag content) ws y)) g.1
      (subst (λ u. (adjacently q' closed tag content ws u ≡ taken x) × Alike (object ms) u) (sym was) (
        ap (after_tag tag ws again) (tag_put tag (text w.serialize_name) N) ∙ k.back again (stopped (tag ∷ []))
            ∙ (λ z. adjacent_read closed (none z) (contents z) k.place w) ∙ beside_again closed (member_readers models cs r q' (those (bytes_eq content) N)) k.place w ∙ g.4,
        tt,
      ))
    where
      swapped : (a b : Bool) → (a && b) ≡ (b && a)
      swapped true true = refl
      swapped true false = refl
      swapped false true = refl
      swapped false false = refl

      swap_those : (s c : List ℕ) (ns : Members) → those (other c) (those (other s) ns) ≡ those (other s) (those (other c) ns)
      swap_those s c ns = those_those (other c) (other s) ns ∙ those_same (λ n. other c n && other s n) (λ n. other s n && other c n) ns (λ n. swapped (other c n) (other s n)) ∙ sym (those_those (other s) (other c) ns)

  pub adjacent_back : (closed : Bool) (tag content : List ℕ) (ws : List VariantModel) → VariantsLead ws → tag_leads_back (adjacent_tag tag content) ws ≡ true → (v : Value) → PartsBack models cs r q q' v → (x : Typed)
      → adjacently q closed tag content ws v ≡ taken x → (adjacently q' closed tag content ws (written_by (adjacent_tag tag content) ws x) ≡ taken x) × Alike v (written_by (adjacent_tag tag content) ws x)
  adjacent_back closed tag content ws l h (object ms) b x e = adjacent_object closed tag content ws l h ms b.0 x e
  adjacent_back closed tag content ws l h _ b x e = absurd (never_stopped x [] e)
