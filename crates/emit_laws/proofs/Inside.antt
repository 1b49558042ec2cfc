-- Emitted items are within the forms that the reader of values reads.
use Rattle.std.proofs.Common.{◌≡◌, ◌≤◌, ◌+◌, ◌&&◌, ◌||◌, ℕ, suc, List, [], ◌∷◌, ◌++◌, length, Bool, true, false, not, refl, sym, ap, ◌∙◌, true≢false, length-append, arith}
use Rattle.std.specs.Prelude.{is_some}
use Rattle.std.specs.List.{list_any, flat_map, AllByRecursion}
use Rattle.syntax_trees.specs.Syntax.{TyD, ty_tuple, Tys, end_tys, more_tys}
use Rattle.attr_parts.specs.Values.{lacks_default}
use Rattle.container_defs.specs.Checks.{variants_in}
use Rattle.container_defs.specs.Container.{ReadField, ReadVariant, all_fields}
use Rattle.container_defs.specs.Forms.{is_known, are_known, is_option, empties, holds, fails, is_own, is_known_reader, is_known_condition}
use Rattle.container_defs.specs.Reader.{reads_some, reads_whole}
use Rattle.type_spellings.specs.Types.{type_of}
use Rattle.model_defs.specs.Types.{TypeModel}
use Rattle.model_defs.specs.Model.{ConversionsD}
use Rattle.entry_defs.specs.Entry.{State, required, optional, stated, Entry, option_entry, vec_entry, set_entry, map_entry, Entries, Rest, no_rest, rest, Fields, Shape, struct_shape, enum_shape, newtype_shape, Contents, unit_contents, newtype_contents, tuple_contents, struct_contents, Variants, no_variants, variant_then, FieldEntry, VariantEntry, fields_of, rest_of, variants_of}
use Rattle.entry_defs.specs.Table.{Table, items_of}
use Rattle.entry_defs.specs.Sound.{Each, EachEntry, EachInShape, EachField, EachVariant, EachInContents}
use Rattle.emit_defs.specs.Formed.{EntryIsFormed, EntriesAreFormed, FieldsAreFormed, ContentsAreFormed, VariantsAreFormed, ShapeIsFormed}
use Rattle.emit_defs.specs.Setting.{Setting, setting_of}
use Rattle.emit_defs.specs.Models as manners
use Rattle.emit_defs.specs.Models.{unboxed, type_model, used_type, Empty, empty_option, empty_vec, empty_set, empty_map, Manner, plain, defaulted, skipped, held, manner, manner_type, field_manner, state_defaults, field_defaults, contents_defaults, shape_defaults, after_state, after_contents, conversions_of_items}
use Rattle.emit_defs.specs.Trees.{entry_tys, used_tree}
use Rattle.emit_defs.proofs.Spelling.{places_of, tuple_step, entries_spelled}
use Rattle.emit_texts.specs.Laws.{empty_function}
use Rattle.emit_laws.proofs.Fields.{skip_of, default_of, reader_of}
use Rattle.emit_laws.proofs.Bodies.{made_place, made_places, made_field, made_fields, made_rest, made_struct, made_contents, made_variant, made_variants}
use Rattle.emit_laws.proofs.Containers.{made_body}
use Rattle.emit_laws.proofs.Checks.{or_false, none_joined}
use Rattle.emit_laws.proofs.Read.{P, Q, named_items, all_written, entry_known, entries_known, FieldFits, RestFits, spelled, fields_fit, rest_fits}

-- ---- by manner

pub known_reader : (m : Manner) → fails is_known_reader (reader_of m) ≡ false
known_reader plain = refl
known_reader manners.whole = refl
known_reader defaulted = refl
known_reader (skipped x) = refl
known_reader held = refl

pub known_condition : (m : Manner) → fails is_known_condition (skip_of m) ≡ false
known_condition plain = refl
known_condition manners.whole = refl
known_condition defaulted = refl
known_condition (skipped empty_option) = refl
known_condition (skipped empty_vec) = refl
known_condition (skipped empty_set) = refl
known_condition (skipped empty_map) = refl
known_condition held = refl

pub some_fits : (m : Manner) (z u : TypeModel) → z ≡ manner_type m u → (holds reads_some (reader_of m) && not (is_option z)) ≡ false
some_fits plain z u e = refl
some_fits manners.whole z u e = refl
some_fits defaulted z u e = refl
some_fits (skipped x) z u e = refl
some_fits held z u e = ap (λ t. not (is_option t)) e

pub whole_fits : (m : Manner) (n : ℕ) → (holds reads_whole (reader_of m) && not (lacks_default (default_of n m))) ≡ false
whole_fits plain n = refl
whole_fits manners.whole n = refl
whole_fits defaulted n = refl
whole_fits (skipped x) n = refl
whole_fits held n = refl

-- whether a default or a condition stands without the other, or isn't that of the type
abbrev odd_by : Manner → ℕ → TypeModel → Bool
odd_by m n z = (is_own (default_of n m) || is_some (skip_of m)) && not (is_own (default_of n m) && holds (empties z) (skip_of m))

pub emptiness_fits : (s : Setting) (b : List ℕ → Bool) (l : Bool) (st : State) (e : Entry) (n : ℕ) (z : TypeModel) → z ≡ manner_type (manner l st e) (type_model s.name b e) → odd_by (manner l st e) n z ≡ false
emptiness_fits s b true required e n z h = refl
emptiness_fits s b false required e n z h = refl
emptiness_fits s b l (stated v) e n z h = refl
emptiness_fits s b l optional (option_entry e) n z h = ap (λ t. not (empties t (empty_function empty_option))) h
emptiness_fits s b l optional (vec_entry e) n z h = ap (λ t. not (empties t (empty_function empty_vec))) h
emptiness_fits s b l optional (set_entry e) n z h = ap (λ t. not (empties t (empty_function empty_set))) h
emptiness_fits s b l optional (map_entry k e) n z h = ap (λ t. not (empties t (empty_function empty_map))) h
emptiness_fits s b l optional _ n z h = ap (λ t. not (empties t (empty_function empty_option))) h

pub known_by : (items : List (List ℕ)) (m : Manner) (z u : TypeModel) → z ≡ manner_type m u → is_known items u ≡ true → not (is_known items z) ≡ false
known_by items plain z u e k = ap (λ t. not (is_known items t)) e ∙ ap not k
known_by items manners.whole z u e k = ap (λ t. not (is_known items t)) e ∙ ap not k
known_by items defaulted z u e k = ap (λ t. not (is_known items t)) e ∙ ap not k
known_by items (skipped x) z u e k = ap (λ t. not (is_known items t)) e ∙ ap not k
known_by items held z u e k = ap (λ t. not (is_known items t)) e ∙ ap not k

pub and_false : (b : Bool) → (b && false) ≡ false
and_false true = refl
and_false false = refl

module _ (t : Table) (n : List ℕ) where
  abbrev s : Setting
  s = setting_of t

  abbrev cs : ConversionsD
  cs = conversions_of_items (items_of t)

  abbrev PlaceFits : TyD → Type 0
  PlaceFits ty = is_known (named_items t) (type_of ty) ≡ true

  abbrev PlacesFit : Tys → Type 0
  PlacesFit end_tys = Unit {0}
  PlacesFit (more_tys ty ts) = PlaceFits ty × PlacesFit ts

  both : (a b : Bool) → (a && b) ≡ true → (a ≡ true) × (b ≡ true)
  both true b h = (refl, h)
  both false b h = absurd (true≢false (sym h))

  places_known : (ts : Tys) → are_known (named_items t) (places_of (type_of (ty_tuple ts))) ≡ true → PlacesFit ts
  places_known end_tys h = tt
  places_known (more_tys ty ts) h =
      let k = both _ _ (ap (λ z. are_known (named_items t) (places_of z)) (sym (tuple_step ty ts)) ∙ h) in
      (k.0, places_known ts k.1)

  places_fit : (es : Entries) → EntriesAreFormed es → EachEntry (P t) (Q t) es → PlacesFit (entry_tys s.name (s.is_boxed n) es)
  places_fit es f x = places_known (entry_tys s.name (s.is_boxed n) es) (ap (are_known (named_items t)) (entries_spelled s.name (s.is_boxed n) es (all_written t es f x)) ∙ entries_known t (s.is_boxed n) es x)

  place_fits : (e : Entry) → EntryIsFormed e → Each (P t) (Q t) e → PlaceFits (used_tree s n e)
  place_fits e f x = ap (is_known (named_items t)) (spelled t n e f x) ∙ entry_known t (s.is_boxed n) e x

  -- ---- a test that holds of no field that fits; N bounds the places of defaults

  module _ (N : ℕ) (test : ReadField → Bool) (on_field : (k : ℕ) (f : FieldEntry) → FieldFits t n f → k + length (state_defaults f.state) ≤ N → test (made_field s n k f) ≡ false)
      (on_rest : (i : List ℕ) (e : Entry) → RestFits t n (rest i e) → list_any test (made_rest s n (rest i e)) ≡ false)
      (on_place : (i : ℕ) (ty : TyD) → PlaceFits ty → test (made_place i ty) ≡ false) where
    fields_pass : (fs : List FieldEntry) (o : Rest) (k : ℕ) → AllByRecursion (FieldFits t n) fs → RestFits t n o → k + length (field_defaults fs) ≤ N → list_any test (made_fields s n k fs ++ made_rest s n o) ≡ false
    fields_pass [] no_rest k x y r = refl
    fields_pass [] (rest i e) k x y r = on_rest i e y
    fields_pass (f ∷ fs) o k x y r =
        let long = length-append (state_defaults f.state) (field_defaults fs) in
        or_false (test (made_field s n k f)) _ (on_field k f x.0 (omega arith)) (fields_pass fs o (after_state f.state k) x.1 y (omega arith))

    places_pass : (ts : Tys) (i : ℕ) → PlacesFit ts → list_any test (made_places i ts) ≡ false
    places_pass end_tys i h = refl
    places_pass (more_tys ty ts) i h = or_false (test (made_place i ty)) _ (on_place i ty h.0) (places_pass ts (suc i) h.1)

    struct_passes : (fs : Fields) (k : ℕ) → FieldsAreFormed fs → EachField (P t) (Q t) fs → k + length (field_defaults (fields_of fs)) ≤ N → list_any test (made_struct s n k fs) ≡ false
    struct_passes fs k f x r = fields_pass (fields_of fs) (rest_of fs) k (fields_fit t n fs f x) (rest_fits t n fs f x) r

    contents_pass : (c : Contents) (k : ℕ) → ContentsAreFormed c → EachInContents (P t) (Q t) c → k + length (contents_defaults c) ≤ N → list_any test (made_contents s n k c) ≡ false
    contents_pass unit_contents k f x r = refl
    contents_pass (newtype_contents e) k f x r = or_false (test (made_place 0 (used_tree s n e))) false (on_place 0 (used_tree s n e) (place_fits e f x)) refl
    contents_pass (tuple_contents es) k f x r = places_pass (entry_tys s.name (s.is_boxed n) es) 0 (places_fit es f.2 x)
    contents_pass (struct_contents fs) k f x r = struct_passes fs k f.1 x.1 r

    variants_pass : (ws : Variants) (k : ℕ) → VariantsAreFormed ws → EachVariant (P t) (Q t) ws → k + length (flat_map (λ w. contents_defaults w.contents) (variants_of ws)) ≤ N
        → list_any test (flat_map (λ v. v.fields) (made_variants s n k (variants_of ws))) ≡ false
    variants_pass no_variants k f x r = refl
    variants_pass (variant_then i l c ws) k f x r =
        let long = length-append (contents_defaults c) (flat_map (λ w. contents_defaults w.contents) (variants_of ws)) in
        none_joined test (made_contents s n k c) _ (contents_pass c k f.0 x.0 (omega arith)) (variants_pass ws (after_contents c k) f.1 x.1 (omega arith))

    pub body_passes : (u : TyD) (h : Shape) (m : ℕ) → ShapeIsFormed h → EachInShape (P t) (Q t) h → m + length (shape_defaults h) ≤ N → list_any test (all_fields (made_body s n u m h)) ≡ false
    body_passes u (struct_shape closed fs) m f x r = struct_passes fs m f.1 x.1 r
    body_passes u (enum_shape closed tag ws) m f x r = variants_pass ws m f.1 x r
    body_passes u (newtype_shape e rule) m f x r = or_false (test (made_place 0 (used_tree s n e))) false (on_place 0 (used_tree s n e) (place_fits e f.1 x)) refl

  -- ---- a test of variants that holds of none that is made

  pub no_variant : (test : ReadVariant → Bool) → ((k : ℕ) (w : VariantEntry) → test (made_variant s n k w) ≡ false) → (ws : List VariantEntry) (k : ℕ) → list_any test (made_variants s n k ws) ≡ false
  no_variant test h [] k = refl
  no_variant test h (w ∷ ws) k = or_false (test (made_variant s n k w)) _ (h k w) (no_variant test h ws (after_contents w.contents k))

  pub body_variants : (test : ReadVariant → Bool) → ((k : ℕ) (w : VariantEntry) → test (made_variant s n k w) ≡ false) → (u : TyD) (h : Shape) (m : ℕ) → list_any test (variants_in (made_body s n u m h)) ≡ false
  body_variants test h u (struct_shape closed fs) m = refl
  body_variants test h u (newtype_shape e rule) m = refl
  body_variants test h u (enum_shape closed tag ws) m = no_variant test h (variants_of ws) m
