-- The fields of items and of variants as they are read.
use Rattle.std.proofs.Common.{◌≡◌, ℕ, suc, List, [], ◌∷◌, ◌++◌, map, Bool, true, false, not, refl, ap, ◌∙◌, Some, None, bytes_eq, codes}
use Rattle.std.specs.List.{AllByRecursion}
use Rattle.std.specs.Fmt.{decimal}
use Rattle.std.specs.declared.cmp.Ordering.{Ordering}
use Rattle.std.specs.Ordering.{match_ordering}
use Rattle.std.proofs.lemmas.Slice.Eq.{bytes_eq-Decides}
use Rattle.token_trees.specs.Token.{Name}
use Rattle.syntax_trees.specs.Syntax.{named, unnamed, TyD, Tys, end_tys, more_tys}
use Rattle.syntax_trees.specs.Item.{FieldD, VariantD}
use Rattle.attr_parts.specs.Names.{MultiNameD}
use Rattle.attr_parts.specs.Rules.{rules_or}
use Rattle.attr_parts.specs.Values.{no_default}
use Rattle.attr_defs.specs.Acts.{ActD}
use Rattle.attr_defs.specs.Container.{unraw}
use Rattle.attr_defs.specs.Members.{VariantAttrs, variant_from, variant_acts}
use Rattle.attr_defs.specs.Renames.{Meaning, variant_renamed}
use Rattle.attr_defs.specs.Texts.{lexed}
use Rattle.container_defs.specs.declared.style.Style.{Style}
use Rattle.container_defs.specs.declared.style.Style.TheVariants.{Struct, Tuple, Newtype, Unit as NoFields}
use Rattle.container_defs.specs.Container.{ReadField, ReadVariant}
use Rattle.container_defs.specs.Reading as reading
use Rattle.container_defs.specs.Reading.{fields_from, variant_of, unnamed_style, style_of, name_field, name_variant}
use Rattle.entry_defs.specs.Entry.{Entry, Entries, no_entries, entry_then, entry_again, Rest, no_rest, rest, Contents, unit_contents, newtype_contents, tuple_contents, struct_contents, Fields, FieldEntry, VariantEntry, fields_of, rest_of}
use Rattle.emit_defs.specs.Formed.{HasOne, HasTwo}
use Rattle.emit_defs.specs.Setting.{Setting}
use Rattle.emit_defs.specs.Models.{unboxed, plain, field_manner, after_state, after_contents}
use Rattle.emit_defs.specs.Trees.{flag, name_at, serde, manner_ty, map_ty, text_ty, ty_again, entry_ty, entry_tys, used_tree, unnamed_field, unnamed_fields_of, field_tree, field_trees, rest_trees, struct_trees, contents_tree, variant_tree}
use Rattle.emit_texts.specs.Laws.{FunctionsAreRead}
use Rattle.emit_laws.proofs.Acts.{rename_acts, variant_read}
use Rattle.emit_laws.proofs.Fields.{no_rules, both_names, itself, made, field_made, rest_made}

abbrev pub made_place : ℕ → TyD → ReadField
made_place i t = made (unnamed i) (both_names false (name_at (decimal i))) false 0 plain (unnamed_field t)

abbrev pub made_places : ℕ → Tys → List ReadField
made_places i end_tys = []
made_places i (more_tys t ts) = made_place i t ∷ made_places (suc i) ts

-- no identifier is written raw
abbrev pub ArePlain : List FieldEntry → Type 0
ArePlain fs = AllByRecursion (λ f. unraw f.identifier ≡ f.identifier) fs

abbrev pub RestIsPlain : Rest → Type 0
RestIsPlain no_rest = Unit {0}
RestIsPlain (rest i e) = unraw i ≡ i

abbrev pub ContentsArePlain : Contents → Type 0
ContentsArePlain (struct_contents fs) = ArePlain (fields_of fs) × RestIsPlain (rest_of fs)
ContentsArePlain _ = Unit {0}

-- ---- styles

abbrev pub read_style : Contents → Style
read_style unit_contents = NoFields
read_style (newtype_contents e) = Newtype
read_style (tuple_contents es) = Tuple
read_style (struct_contents fs) = Struct

abbrev HasFirst : Tys → Type 0
HasFirst end_tys = ⊥
HasFirst (more_tys t ts) = Unit {0}

first_again : (ts : Tys) → HasFirst (ty_again ts)
first_again end_tys = tt
first_again (more_tys t ts) = tt

then_tuple : (t : TyD) (ts : Tys) → HasFirst ts → unnamed_style (unnamed_fields_of (more_tys t ts)) ≡ Tuple
then_tuple t end_tys h = absurd h
then_tuple t (more_tys u us) h = refl

again_tuple : (ts : Tys) → HasFirst ts → unnamed_style (unnamed_fields_of (ty_again ts)) ≡ Tuple
again_tuple end_tys h = absurd h
again_tuple (more_tys u us) h = refl

module _ (s : Setting) (owner : List ℕ) where
  has_first : (es : Entries) → HasOne es → HasFirst (entry_tys s.name (s.is_boxed owner) es)
  has_first no_entries h = absurd h
  has_first (entry_then e es) h = tt
  has_first (entry_again es) h = first_again (entry_tys s.name (s.is_boxed owner) es)

  is_tuple : (es : Entries) → HasTwo es → unnamed_style (unnamed_fields_of (entry_tys s.name (s.is_boxed owner) es)) ≡ Tuple
  is_tuple no_entries h = absurd h
  is_tuple (entry_then e es) h = then_tuple (entry_ty s.name (s.is_boxed owner) e) (entry_tys s.name (s.is_boxed owner) es) (has_first es h)
  is_tuple (entry_again es) h = again_tuple (entry_tys s.name (s.is_boxed owner) es) (has_first es h)

  abbrev pub HasStyle : Contents → Type 0
  HasStyle (tuple_contents es) = HasTwo es
  HasStyle _ = Unit {0}

  style_made : (n : ℕ) (c : Contents) → HasStyle c → style_of (contents_tree s owner n c) ≡ read_style c
  style_made n unit_contents h = refl
  style_made n (newtype_contents e) h = refl
  style_made n (tuple_contents es) h = is_tuple es h
  style_made n (struct_contents fs) h = refl

  -- ---- what is made of fields

  abbrev pub made_field : ℕ → FieldEntry → ReadField
  made_field n f = made (named (name_at f.identifier)) (both_names (not (bytes_eq f.identifier f.name)) (name_at f.name)) false n (field_manner s owner f) (field_tree s owner n f)

  abbrev pub made_fields : ℕ → List FieldEntry → List ReadField
  made_fields n [] = []
  made_fields n (f ∷ fs) = made_field n f ∷ made_fields (after_state f.state n) fs

  abbrev pub rest_tree : List ℕ → Entry → FieldD
  rest_tree i e = record { attrs = serde (flag (codes "flatten") ∷ []); name = Some (name_at i); ty = map_ty text_ty (entry_ty s.name unboxed e) }

  abbrev pub made_rest : Rest → List ReadField
  made_rest no_rest = []
  made_rest (rest i e) = made (named (name_at i)) (both_names false (name_at i)) true 0 plain (rest_tree i e) ∷ []

  abbrev pub made_struct : ℕ → Fields → List ReadField
  made_struct n fs = made_fields n (fields_of fs) ++ made_rest (rest_of fs)

  abbrev pub made_contents : ℕ → Contents → List ReadField
  made_contents n unit_contents = []
  made_contents n (newtype_contents e) = made_place 0 (used_tree s owner e) ∷ []
  made_contents n (tuple_contents es) = made_places 0 (entry_tys s.name (s.is_boxed owner) es)
  made_contents n (struct_contents fs) = made_struct n fs

  abbrev pub variant_attrs_of : MultiNameD → VariantAttrs
  variant_attrs_of name = record {
    name = name;
    rename_all = no_rules;
    ser_bound = None;
    de_bound = None;
    skip_deserializing = false;
    skip_serializing = false;
    other = false;
    serialize_with = None;
    deserialize_with = None;
    borrow = None;
    untagged = false;
  }

  abbrev pub made_variant : ℕ → VariantEntry → ReadVariant
  made_variant n w = record {
    name = name_at w.identifier;
    attrs = variant_attrs_of (both_names (not (bytes_eq w.identifier w.name)) (name_at w.name));
    style = read_style w.contents;
    fields = made_contents n w.contents;
    original = variant_tree s owner n w;
  }

  abbrev pub made_variants : ℕ → List VariantEntry → List ReadVariant
  made_variants n [] = []
  made_variants n (w ∷ ws) = made_variant n w ∷ made_variants (after_contents w.contents n) ws

  module _ (variant_name field_name : Meaning) (private : Name) where
    abbrev pub read_all : ℕ → List FieldD → List ReadField
    read_all index fs = map (name_field variant_name field_name no_rules) (fields_from lexed private no_default None index fs)

    pub places_made : (ts : Tys) (index : ℕ) → read_all index (unnamed_fields_of ts) ≡ made_places index ts
    places_made end_tys index = refl
    places_made (more_tys t ts) index = ap (λ z. made_place index t ∷ z) (places_made ts (suc index))

    rest_read : (o : Rest) (index : ℕ) → RestIsPlain o → read_all index (rest_trees s owner o) ≡ made_rest o
    rest_read no_rest index h = refl
    rest_read (rest i e) index h = ap (λ z. z ∷ []) (rest_made variant_name field_name private i (map_ty text_ty (entry_ty s.name unboxed e)) index h)

    module _ (functions : FunctionsAreRead) where
      fields_made : (fs : List FieldEntry) (o : Rest) (n index : ℕ) → ArePlain fs → RestIsPlain o
          → read_all index (field_trees s owner n fs ++ rest_trees s owner o) ≡ made_fields n fs ++ made_rest o
      fields_made [] o n index h k = rest_read o index k
      fields_made (f ∷ fs) o n index h k =
          let one = field_made variant_name field_name private functions f.identifier f.name (manner_ty (field_manner s owner f) (used_tree s owner f.entry)) index n (field_manner s owner f) h.0 in
          let rec = fields_made fs o (after_state f.state n) (suc index) h.1 k in
          λ i. one i ∷ rec i

      pub struct_made : (fs : Fields) (n : ℕ) → ArePlain (fields_of fs) → RestIsPlain (rest_of fs)
          → read_all 0 (struct_trees s owner n fs) ≡ made_struct n fs
      struct_made fs n h k = fields_made (fields_of fs) (rest_of fs) n 0 h k

      contents_made : (c : Contents) (n : ℕ) → ContentsArePlain c → read_all 0 (reading.each_of (contents_tree s owner n c)) ≡ made_contents n c
      contents_made unit_contents n h = refl
      contents_made (newtype_contents e) n h = refl
      contents_made (tuple_contents es) n h = places_made (entry_tys s.name (s.is_boxed owner) es) 0
      contents_made (struct_contents fs) n h = struct_made fs n h.0 h.1

    -- ---- variants

    -- by what its attributes do
    abbrev by_acts : VariantD → Style → List ReadField → List ActD → ReadVariant
    by_acts v style fs acts = record { name = v.name; attrs = variant_renamed variant_name no_rules (variant_from v acts); style = style; fields = fs; original = v }

    abbrev added_twice : List ℕ → Ordering → MultiNameD
    added_twice x o = record (both_names true (name_at x)) { aliases = match_ordering o (name_at x ∷ name_at x ∷ []) (name_at x ∷ []) (name_at x ∷ name_at x ∷ []) }

    abbrev with_names : VariantD → Style → List ReadField → MultiNameD → ReadVariant
    with_names v style fs name = record { name = v.name; attrs = variant_attrs_of name; style = style; fields = fs; original = v }

    by_name : (n : ℕ) (w : VariantEntry) (style : Style) (fs : List ReadField) (b : Bool) → bytes_eq w.identifier w.name ≡ b → unraw w.identifier ≡ w.identifier
        → by_acts (variant_tree s owner n w) style fs (rename_acts b w.name) ≡ with_names (variant_tree s owner n w) style fs (both_names (not b) (name_at w.name))
    by_name n w style fs false e h = ap (λ o. with_names (variant_tree s owner n w) style fs (added_twice w.name o)) (itself w.name)
    by_name n w style fs true e h =
        ap (λ z. with_names (variant_tree s owner n w) style fs (both_names false (name_at z))) (h ∙ (bytes_eq-Decides w.identifier w.name).0 e)

    -- all of a variant by what its attributes do
    abbrev whole_by : VariantD → List ActD → ReadVariant
    whole_by v acts = record {
      name = v.name;
      attrs = variant_renamed variant_name no_rules (variant_from v acts);
      style = style_of v.fields;
      fields = map (name_field variant_name field_name (rules_or (variant_from v acts).rename_all no_rules)) (reading.fields_of lexed private no_default (variant_from v acts).borrow v.fields);
      original = v;
    }

    fields_by : (v : VariantD) (b : Bool) (x : List ℕ) → whole_by v (rename_acts b x) ≡ by_acts v (style_of v.fields) (read_all 0 (reading.each_of v.fields)) (rename_acts b x)
    fields_by v true x = refl
    fields_by v false x = refl

    pub variant_made : FunctionsAreRead → (n : ℕ) (w : VariantEntry)
        → unraw w.identifier ≡ w.identifier → ContentsArePlain w.contents → HasStyle w.contents
        → whole_by (variant_tree s owner n w) (variant_acts lexed (variant_tree s owner n w)) ≡ made_variant n w
    variant_made functions n w h k q =
        let v = variant_tree s owner n w in
        let eq = bytes_eq w.identifier w.name in
        let fields = contents_made functions w.contents n k in
        let style = style_made n w.contents q in
        ap (whole_by v) (variant_read v eq w.identifier w.name refl)
        ∙ fields_by v eq w.name
        ∙ (λ i. by_acts v (style i) (fields i) (rename_acts eq w.name))
        ∙ by_name n w (read_style w.contents) (made_contents n w.contents) eq refl h
