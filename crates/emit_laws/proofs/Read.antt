-- What the reader of values makes of an emitted item is the container that is meant.
use Rattle.std.proofs.Common.{◌≡◌, ◌&&◌, ℕ, suc, List, [], ◌∷◌, ◌++◌, map, Bool, true, false, not, cond, refl, sym, ap, ◌∙◌, Some, None}
use Rattle.std.specs.Prelude.{is_some}
use Rattle.std.specs.List.{AllByRecursion}
use Rattle.syntax_trees.specs.Syntax.{TyD, ty_tuple, Tys, end_tys, more_tys}
use Rattle.attr_parts.specs.declared.derive.Derive.{Derive}
use Rattle.attr_parts.specs.Values.{external}
use Rattle.container_defs.specs.declared.style.Style.TheVariants.{Newtype}
use Rattle.container_defs.specs.Checks.{counts, is_one, mark_if, marked}
use Rattle.container_defs.specs.Container.{ReadData, read_struct}
use Rattle.container_defs.specs.Forms.{is_known, are_known}
use Rattle.container_defs.specs.Reader as reader
use Rattle.container_defs.specs.Reader.{written_so, default_at, default_model, helper_of, field_model, style_model, tag_model, body_model, reader_model}
use Rattle.schema_defs.specs.Location.{place}
use Rattle.type_spellings.specs.Types.{type_of}
use Rattle.model_defs.specs.Types.{TypeModel, TypeModels, no_types, type_then, types_of, option_type, boxed_type, item_type, map_type, text_type}
use Rattle.model_defs.specs.Model as model
use Rattle.model_defs.specs.Model.{struct_style, newtype_style, external_tag, internal_tag, adjacent_tag, TagModel, FieldModel, struct_model, enum_model}
use Rattle.model_defs.proofs.Rising.{bytes_itself}
use Rattle.entry_defs.specs.Entry.{Target, Entry, text_entry, option_entry, vec_entry, set_entry, map_entry, tuple_entry, array_entry, reference, item, Entries, no_entries, entry_then, entry_again, Rest, no_rest, rest, Fields, no_fields, field_then, field_again, rest_field, next_field, Shape, struct_shape, enum_shape, newtype_shape, Contents, unit_contents, newtype_contents, tuple_contents, struct_contents, Variants, no_variants, variant_then, FieldEntry, fields_of, rest_of, variants_of}
use Rattle.entry_defs.specs.Table.{Table, target_name, items_of}
use Rattle.entry_defs.specs.Sound.{Each, EachEntry, EachInShape, EachField, EachVariant, EachInContents}
use Rattle.emit_defs.specs.Formed.{HasOne, EntryIsFormed, EntriesAreFormed, FieldsAreFormed, ContentsAreFormed, VariantsAreFormed, ShapeIsFormed}
use Rattle.emit_defs.specs.Setting.{Setting, setting_of, ends_in_phantom}
use Rattle.emit_defs.specs.Spelled.{IsSome, IsWritten, AreWritten}
use Rattle.emit_defs.specs.Models as manners
use Rattle.emit_defs.specs.Models.{unboxed, used, type_again, type_model, type_models, used_type, Manner, plain, defaulted, skipped, held, manner_type, manner_default, manner_helper, manner_skip, unnamed_model, unnamed_models, field_manner, field_models, rest_models, struct_models, contents_style, contents_models, variant_models, shape_body, after_state, after_contents, is_transparent, is_closed, has_rule, model_of_item}
use Rattle.emit_defs.specs.Trees.{option_ty, map_ty, text_ty, manner_ty, entry_ty, entry_tys, used_tree}
use Rattle.emit_defs.proofs.Spelling.{place_written, option_spelled, map_spelled, no_utc, types_spelled, places_of, tuple_step, entries_spelled}
use Rattle.emit_texts.specs.Laws.{NamesAreGood, AllNamesAreGood}
use Rattle.emit_laws.proofs.Fields.{skip_of, default_of, reader_of}
use Rattle.emit_laws.proofs.Bodies.{read_style, made_place, made_places, made_field, made_fields, made_rest, made_struct, made_contents, made_variants}
use Rattle.emit_laws.proofs.Containers.{tag_read, made_attrs, made_body, made_container}
use Rattle.emit_laws.proofs.Whole.{IsNamed}
use Rattle.emit_laws.proofs.Words.{free}

-- ---- types: items have good names, and are known

module _ (t : Table) where
  abbrev pub P : List ℕ → Shape → Type 0
  P n h = IsNamed t n

  abbrev pub Q : Target → Type 0
  Q q = IsNamed t (target_name t q)

  abbrev pub named_items : List (List ℕ)
  named_items = map (λ i. i.name) (items_of t)

  some_place : (es : Entries) → HasOne es → IsSome es
  some_place no_entries h = absurd h
  some_place (entry_then e es) h = tt
  some_place (entry_again es) h = tt

  mutual
    pub written : (e : Entry) → EntryIsFormed e → Each P Q e → IsWritten (target_name t) e
    written (option_entry e) f x = written e f x
    written (vec_entry e) f x = written e f x
    written (set_entry e) f x = written e f x
    written (map_entry k e) f x = (written k f.0 x.0, written e f.1 x.1)
    written (tuple_entry es) f x = (some_place es f.0, all_written es f.1 x)
    written (array_entry e n) f x = (f.0, written e f.1 x)
    written (reference q) f x = free (target_name t q) x.good
    written (item n h) f x = free n x.0.good
    written _ f x = tt

    pub all_written : (es : Entries) → EntriesAreFormed es → EachEntry P Q es → AreWritten (target_name t) es
    all_written no_entries f x = tt
    all_written (entry_then e es) f x = (written e f.0 x.0, all_written es f.1 x.1)
    all_written (entry_again es) f x = all_written es f x

  mutual
    pub good_names : (e : Entry) → Each P Q e → NamesAreGood (target_name t) e
    good_names (option_entry e) x = good_names e x
    good_names (vec_entry e) x = good_names e x
    good_names (set_entry e) x = good_names e x
    good_names (map_entry k e) x = (good_names k x.0, good_names e x.1)
    good_names (tuple_entry es) x = all_good es x
    good_names (array_entry e n) x = good_names e x
    good_names (reference q) x = x.good
    good_names (item n h) x = x.0.good
    good_names _ x = tt

    all_good : (es : Entries) → EachEntry P Q es → AllNamesAreGood (target_name t) es
    all_good no_entries x = tt
    all_good (entry_then e es) x = (good_names e x.0, all_good es x.1)
    all_good (entry_again es) x = all_good es x

  used_known : (b : List ℕ → Bool) (n : List ℕ) → IsNamed t n → is_known named_items (used b n) ≡ true
  used_known b n x = elim (b n) as (λ z. is_known named_items (cond z (boxed_type (item_type n)) (item_type n)) ≡ true) [ true ↦ x.known | false ↦ x.known ]

  both_true : (a b : Bool) → a ≡ true → b ≡ true → (a && b) ≡ true
  both_true a b h k = λ i. h i && k i

  again_known : (ts : TypeModels) → are_known named_items ts ≡ true → are_known named_items (type_again ts) ≡ true
  again_known no_types h = refl
  again_known (type_then u us) h = both_true _ _ (first_true _ _ h) h
    where
      first_true : (a b : Bool) → (a && b) ≡ true → a ≡ true
      first_true true b h = refl
      first_true false b h = h

  mutual
    pub entry_known : (b : List ℕ → Bool) (e : Entry) → Each P Q e → is_known named_items (type_model (target_name t) b e) ≡ true
    entry_known b (option_entry e) x = entry_known b e x
    entry_known b (vec_entry e) x = entry_known unboxed e x
    entry_known b (set_entry e) x = entry_known unboxed e x
    entry_known b (map_entry k e) x = both_true _ _ (entry_known unboxed k x.0) (entry_known unboxed e x.1)
    entry_known b (tuple_entry es) x = entries_known b es x
    entry_known b (array_entry e n) x = entry_known b e x
    entry_known b (reference q) x = used_known b (target_name t q) x
    entry_known b (item n h) x = used_known b n x.0
    entry_known b _ x = refl

    pub entries_known : (b : List ℕ → Bool) (es : Entries) → EachEntry P Q es → are_known named_items (type_models (target_name t) b es) ≡ true
    entries_known b no_entries x = refl
    entries_known b (entry_then e es) x = both_true _ _ (entry_known b e x.0) (entries_known b es x.1)
    entries_known b (entry_again es) x = again_known (type_models (target_name t) b es) (entries_known b es x)

-- ---- manners

default_read : (n : ℕ) (m : Manner) → default_model (default_of n m) ≡ manner_default m n
default_read n plain = refl
default_read n manners.whole = refl
default_read n defaulted = ap (λ o. default_at (written_so (place n) o)) (place_written n) ∙ ap (λ b. default_at (cond b (Some n) None)) (bytes_itself (place n))
default_read n (skipped x) = refl
default_read n held = refl

helper_read : (m : Manner) → helper_of (reader_of m) ≡ manner_helper m
helper_read plain = refl
helper_read manners.whole = refl
helper_read defaulted = refl
helper_read (skipped x) = refl
helper_read held = refl

skip_read : (m : Manner) → is_some (skip_of m) ≡ manner_skip m
skip_read plain = refl
skip_read manners.whole = refl
skip_read defaulted = refl
skip_read (skipped x) = refl
skip_read held = refl

pub manner_spelled : (m : Manner) (t : TyD) (u : TypeModel) → type_of t ≡ u → type_of (option_ty t) ≡ option_type (type_of t) → type_of (manner_ty m t) ≡ manner_type m u
manner_spelled plain t u h k = h
manner_spelled manners.whole t u h k = h
manner_spelled defaulted t u h k = h
manner_spelled (skipped x) t u h k = h
manner_spelled held t u h k = k ∙ ap option_type h

places_read : (ts : Tys) (i : ℕ) → map field_model (made_places i ts) ≡ unnamed_models i (types_of (places_of (type_of (ty_tuple ts))))
places_read end_tys i = refl
places_read (more_tys t ts) i = ap (λ z. unnamed_model i (type_of t) ∷ z) (places_read ts (suc i)) ∙ ap (λ z. unnamed_models i (types_of (places_of z))) (sym (tuple_step t ts))

style_read : (s : Setting) (n : List ℕ) (c : Contents) → style_model (read_style c) ≡ contents_style s n c
style_read s n unit_contents = refl
style_read s n (newtype_contents e) = refl
style_read s n (tuple_contents es) = refl
style_read s n (struct_contents fs) = refl

tag_back : (t : TagModel) → tag_model (tag_read t) ≡ t
tag_back external_tag = refl
tag_back (internal_tag t) = refl
tag_back (adjacent_tag t c) = refl
tag_back model.untagged = refl

module _ (t : Table) (n : List ℕ) where
  abbrev s : Setting
  s = setting_of t

  -- what is asked of each field
  abbrev pub FieldFits : FieldEntry → Type 0
  FieldFits f = EntryIsFormed f.entry × Each (P t) (Q t) f.entry

  pub spelled : (e : Entry) → EntryIsFormed e → Each (P t) (Q t) e → type_of (used_tree s n e) ≡ used_type s n e
  spelled e f x = types_spelled s.name (s.is_boxed n) e (written t e f x)

  pub type_read : (k : ℕ) (f : FieldEntry) → FieldFits f → type_of (manner_ty (field_manner s n f) (used_tree s n f.entry)) ≡ manner_type (field_manner s n f) (used_type s n f.entry)
  type_read k f x = manner_spelled (field_manner s n f) (used_tree s n f.entry) (used_type s n f.entry) (spelled f.entry x.0 x.1) (option_spelled (used_tree s n f.entry) (no_utc s.name (s.is_boxed n) f.entry))

  field_read : (k : ℕ) (f : FieldEntry) → FieldFits f → field_model (made_field s n k f) ≡ manners.field_model s n k f
  field_read k f x =
      let m = field_manner s n f in
      let kind = type_read k f x in
      let default = default_read k m in
      let helper = helper_read m in
      let skip = skip_read m in
      λ i. record { has_name = true; serialize_name = f.name; deserialize_names = f.name ∷ []; field_type = kind i; default = default i; helper = helper i; skip = skip i; is_rest = false }

  abbrev pub RestFits : Rest → Type 0
  RestFits no_rest = Unit {0}
  RestFits (rest i e) = EntryIsFormed e × Each (P t) (Q t) e

  pub rest_type : (e : Entry) → EntryIsFormed e → Each (P t) (Q t) e → type_of (map_ty text_ty (entry_ty s.name unboxed e)) ≡ map_type text_type (type_model s.name unboxed e)
  rest_type e f x =
      map_spelled text_ty (entry_ty s.name unboxed e) ∙ (λ i. map_type (types_spelled s.name unboxed text_entry tt i) (types_spelled s.name unboxed e (written t e f x) i))

  rest_read : (o : Rest) → RestFits o → map field_model (made_rest s n o) ≡ rest_models s n o
  rest_read no_rest x = refl
  rest_read (rest i e) x = ap (λ z. record { has_name = true; serialize_name = i; deserialize_names = i ∷ []; field_type = z; default = model.no_default; helper = model.no_helper; skip = false; is_rest = true } ∷ []) (rest_type e x.0 x.1)

  abbrev pub FieldsFit : List FieldEntry → Type 0
  FieldsFit fs = AllByRecursion FieldFits fs

  fields_read : (fs : List FieldEntry) (o : Rest) (k : ℕ) → FieldsFit fs → RestFits o
      → map field_model (made_fields s n k fs ++ made_rest s n o) ≡ field_models s n k fs ++ rest_models s n o
  fields_read [] o k x y = rest_read o y
  fields_read (f ∷ fs) o k x y =
      let one = field_read k f x.0 in
      let rec = fields_read fs o (after_state f.state k) x.1 y in
      λ i. one i ∷ rec i

  -- of the fields of a tree
  next_formed : (fs : Fields) → FieldsAreFormed fs → EntryIsFormed (next_field fs)
  next_formed no_fields f = tt
  next_formed (field_then i x e st fs) f = f.0
  next_formed (field_again i x fs) f = next_formed fs f
  next_formed (rest_field i e) f = f

  next_each : (fs : Fields) → EachField (P t) (Q t) fs → Each (P t) (Q t) (next_field fs)
  next_each no_fields h = tt
  next_each (field_then i x e st fs) h = h.0
  next_each (field_again i x fs) h = next_each fs h
  next_each (rest_field i e) h = h

  pub fields_fit : (fs : Fields) → FieldsAreFormed fs → EachField (P t) (Q t) fs → FieldsFit (fields_of fs)
  fields_fit no_fields f h = tt
  fields_fit (field_then i x e st fs) f h = ((f.0, h.0), fields_fit fs f.1 h.1)
  fields_fit (field_again i x fs) f h = ((next_formed fs f, next_each fs h), fields_fit fs f h)
  fields_fit (rest_field i e) f h = tt

  pub rest_fits : (fs : Fields) → FieldsAreFormed fs → EachField (P t) (Q t) fs → RestFits (rest_of fs)
  rest_fits no_fields f h = tt
  rest_fits (field_then i x e st fs) f h = rest_fits fs f.1 h.1
  rest_fits (field_again i x fs) f h = rest_fits fs f h
  rest_fits (rest_field i e) f h = (f, h)

  struct_read : (fs : Fields) (k : ℕ) → FieldsAreFormed fs → EachField (P t) (Q t) fs → map field_model (made_struct s n k fs) ≡ struct_models s n k fs
  struct_read fs k f h = fields_read (fields_of fs) (rest_of fs) k (fields_fit fs f h) (rest_fits fs f h)

  contents_read : (c : Contents) (k : ℕ) → ContentsAreFormed c → EachInContents (P t) (Q t) c → map field_model (made_contents s n k c) ≡ contents_models s n k c
  contents_read unit_contents k f h = refl
  contents_read (newtype_contents e) k f h = ap (λ z. unnamed_model 0 z ∷ []) (spelled e f h)
  contents_read (tuple_contents es) k f h = places_read (entry_tys s.name (s.is_boxed n) es) 0 ∙ ap (λ z. unnamed_models 0 (types_of z)) (entries_spelled s.name (s.is_boxed n) es (all_written t es f.2 h))
  contents_read (struct_contents fs) k f h = struct_read fs k f.1 h.1

  variants_read : (ws : Variants) (k : ℕ) → VariantsAreFormed ws → EachVariant (P t) (Q t) ws
      → map reader.variant_model (made_variants s n k (variants_of ws)) ≡ variant_models s n k (variants_of ws)
  variants_read no_variants k f h = refl
  variants_read (variant_then i x c ws) k f h =
      let style = style_read s n c in
      let fields = contents_read c k f.0 h.0 in
      let rec = variants_read ws (after_contents c k) f.1 h.1 in
      λ j. record { serialize_name = x; deserialize_names = x ∷ []; style = style j; fields = fields j } ∷ rec j

  -- ---- the container

  module _ (u : TyD) (m : ℕ) where
    body_read : (h : Shape) → ShapeIsFormed h → EachInShape (P t) (Q t) h → body_model (made_attrs s n u h).tag (made_body s n u m h) ≡ shape_body s n m h
    body_read (struct_shape closed fs) f h = ap (struct_model struct_style) (struct_read fs m f.1 h.1)
    body_read (newtype_shape e rule) f h = ap (λ z. struct_model newtype_style (unnamed_model 0 z ∷ [])) (spelled e f.1 h)
    body_read (enum_shape closed tag ws) f h =
        let name = tag_back tag in
        let vs = variants_read ws m f.1 h in
        λ i. enum_model (name i) (vs i)

    -- marks aren't seen
    abbrev pub marked_by : TyD → Bool → Bool → ReadData
    marked_by ty b c = cond b (read_struct Newtype (cond (is_one (cond c (made_place 0 ty ∷ []) [])) (mark_if c (made_place 0 ty) ∷ []) (made_place 0 ty ∷ []))) (read_struct Newtype (made_place 0 ty ∷ []))

    unmarked : (ty : TyD) (b c : Bool) → body_model external (marked_by ty b c) ≡ body_model external (read_struct Newtype (made_place 0 ty ∷ []))
    unmarked ty true true = refl
    unmarked ty true false = refl
    unmarked ty false c = refl

    marks_unseen : (h : Shape) (derive : Derive) → body_model (made_attrs s n u h).tag (marked derive (made_container s n u m h)).body ≡ body_model (made_attrs s n u h).tag (made_body s n u m h)
    marks_unseen (struct_shape closed fs) derive = refl
    marks_unseen (enum_shape closed tag ws) derive = refl
    marks_unseen (newtype_shape e (Some rule)) derive = refl
    marks_unseen (newtype_shape e None) derive = unmarked (used_tree s n e) (not (ends_in_phantom s.name s.is_boxed n e)) (counts derive (made_place 0 (used_tree s n e)))

    try_from_read : (h : Shape) → is_some (made_attrs s n u h).type_try_from ≡ has_rule h
    try_from_read (struct_shape closed fs) = refl
    try_from_read (enum_shape closed tag ws) = refl
    try_from_read (newtype_shape e (Some rule)) = refl
    try_from_read (newtype_shape e None) = refl

    pub container_read : (h : Shape) (derive : Derive) → ShapeIsFormed h → EachInShape (P t) (Q t) h
        → reader_model (marked derive (made_container s n u m h)) ≡ model_of_item s m (record { name = n; shape = h })
    container_read h derive f x =
        let try_from = try_from_read h in
        let body = marks_unseen h derive ∙ body_read h f x in
        λ i. record { name = n; transparent = is_transparent s n h; try_from = try_from i; closed = is_closed h; body = body i }
