-- The tokens of emitted items.
use Rattle.std.proofs.Common.{◌≡◌, ◌+◌, ℕ, Bool, true, false, List, [], ◌∷◌, ◌++◌, length, cond, codes, bytes_eq, refl}
use Rattle.std.specs.Prelude.{Some, None}
use Rattle.std.specs.List.{AllByRecursion}
use Rattle.std.specs.Str.{IsUtf8}
use Rattle.std.proofs.lemmas.Str.{IsUtf8-from_ascii}
use Rattle.token_trees.specs.Token.{Tok, site}
use Rattle.token_trees.specs.Text.{name, pieces_of}
use Rattle.syntax_trees.specs.Syntax.{TyD, Tys, end_tys, more_tys, path, segment, no_arguments, segments_of}
use Rattle.syntax_trees.specs.Item.{FieldD, BodyD, struct_body, enum_body, union_body, ItemD}
use Rattle.syntax_printing.specs.Print.{sign, print_name, print_path, print_ty, within_parens, within_braces}
use Rattle.rust_syntax.specs.PrintItem.{print_meta, print_attributes, print_label, print_field, print_each_field, print_fields, print_variant, print_each_variant, print_kind, print_end, print_item}
use Rattle.schema_defs.specs.Location.{place}
use Rattle.model_defs.specs.Model.{TagModel, external_tag, internal_tag, adjacent_tag, untagged}
use Rattle.entry_defs.specs.Entry.{Entry, tuple_entry, Rest, no_rest, rest, Fields, no_fields, field_then, field_again, rest_field, Shape, struct_shape, enum_shape, newtype_shape, Contents, unit_contents, newtype_contents, tuple_contents, struct_contents, Variants, no_variants, variant_then, FieldEntry, fields_of, rest_of, variants_of}
use Rattle.entry_defs.specs.Table.{ItemEntry, Table, target_name, items_of}
use Rattle.entry_defs.specs.Sound.{Each, EachField, EachVariant, EachInShape, EachInContents}
use Rattle.naming_defs.specs.Good.{is_good_name}
use Rattle.naming_defs.specs.Names.{identifiers, variant_identifiers}
use Rattle.naming_defs.specs.Laws.{ContentsAreGood, VariantsAreGood, ShapeIsGood}
use Rattle.naming_defs.proofs.Good.{place-ascii}
use Rattle.emit_defs.specs.Formed.{EntryIsFormed, FieldsAreFormed, ContentsAreFormed, VariantsAreFormed, ShapeIsFormed, IsEmittable}
use Rattle.emit_defs.specs.Setting.{Setting, setting_of}
use Rattle.emit_defs.specs.Models.{unboxed, Empty, empty_option, empty_vec, empty_set, empty_map, Manner, plain, whole, defaulted, skipped, held, field_manner, after_state, after_contents, shape_defaults, is_closed, is_transparent}
use Rattle.emit_defs.specs.Trees.{name_at, map_ty, option_ty, text_ty, entry_ty, entry_tys, Carried, flag, valued, carried_tokens, with_commas, serde, when, rename_metas, empty_path, manner_metas, manner_ty, tag_metas, unnamed_fields_of, used_tree, field_metas, field_tree, field_trees, rest_trees, struct_trees, contents_tree, variant_tree, variant_trees, shape_tree, shape_tag, try_from_metas, item_metas, item_tree, item_trees}
use Rattle.emit_laws.proofs.Read.{P, Q, good_names, FieldFits, FieldsFit, RestFits, fields_fit, rest_fits}
use Rattle.emit_laws.proofs.Whole.{shapes_named}
use Rattle.tidy_laws.specs.Laws.{IsToken}
use Rattle.tidy_laws.proofs.Kept.{printed_is_text}
use Rattle.module_laws.specs.Laws.{IsBare}
use Rattle.module_laws.proofs.Joins.{Are}
use Rattle.module_laws.proofs.Items.{items_keep_tokens}
use Rattle.emitted_modules.specs.Laws.{FieldsAreTexts, ContentsAreTexts, VariantIsText, TagIsText, ShapeIsText, KeepsTokens, EmittedItemsKeepTokens}
use Rattle.emitted_modules.proofs.Stand.{are_both, hash, comma, colon, semicolon, equals, in_parens, in_brackets, in_braces, good_name, own, literal, ascii_text, text_both}
use Rattle.emitted_modules.proofs.Types.{AreTys, text_are, option_are, map_are, entry_are, entries_are}

abbrev pub Good : List ℕ → Type 0
Good n = is_good_name n ≡ true

-- ---- attributes

abbrev Stands : Carried → Type 0
Stands (flag m) = IsToken (name m)
Stands (valued m v) = IsToken (name m) × IsUtf8 v

abbrev AllStand : List Carried → Type 0
AllStand ms = AllByRecursion Stands ms

all_both : (ms ks : List Carried) → AllStand ms → AllStand ks → AllStand (ms ++ ks)
all_both [] ks h k = k
all_both (m ∷ ms) ks h k = (h.0, all_both ms ks h.1 k)

carried_are : (m : Carried) → Stands m → Are (carried_tokens m)
carried_are (flag m) h = (h, tt)
carried_are (valued m v) h = (h.0, (equals, (literal v h.1, tt)))

commas_are : (ms : List Carried) → AllStand ms → Are (with_commas ms)
commas_are [] h = tt
commas_are (m ∷ []) h = carried_are m h.0
commas_are (m ∷ k ∷ ms) h = are_both (carried_tokens m) (sign 44 ∷ with_commas (k ∷ ms)) (carried_are m h.0) (comma, commas_are (k ∷ ms) h.1)

abbrev serde_word : List Tok
serde_word = print_path (path false (segments_of (segment (name_at (codes "serde")) no_arguments ∷ [])))

serde_are : (ms : List Carried) → AllStand ms → Are (print_attributes (serde ms))
serde_are [] h = tt
serde_are (m ∷ ms) h =
    let inner = with_commas (m ∷ ms) in
    (hash, in_brackets (serde_word ++ (within_parens inner ∷ [])) (are_both serde_word (within_parens inner ∷ []) (own (codes "serde") refl, tt) (in_parens inner (commas_are (m ∷ ms) h))))

rename_case : (b : Bool) (x : List ℕ) → IsUtf8 x → AllStand (cond b [] (valued (codes "rename") x ∷ []))
rename_case true x u = tt
rename_case false x u = ((own (codes "rename") refl, u), tt)

rename_stands : (i x : List ℕ) → IsUtf8 x → AllStand (rename_metas i x)
rename_stands i x u = rename_case (bytes_eq i x) x u

empty_text : (x : Empty) → IsUtf8 (empty_path x)
empty_text empty_option = ascii_text (empty_path empty_option) refl
empty_text empty_vec = ascii_text (empty_path empty_vec) refl
empty_text empty_set = ascii_text (empty_path empty_set) refl
empty_text empty_map = ascii_text (empty_path empty_map) refl

manner_stands : (k : ℕ) (m : Manner) → AllStand (manner_metas k m)
manner_stands k plain = tt
manner_stands k whole = ((own (codes "deserialize_with") refl, ascii_text (codes "typify_present::whole") refl), tt)
manner_stands k defaulted = ((own (codes "default") refl, text_both (codes "typify_defaults::d") (place k) (ascii_text (codes "typify_defaults::d") refl) (IsUtf8-from_ascii (place k) (place-ascii k))), tt)
manner_stands k (skipped x) = (own (codes "default") refl, ((own (codes "skip_serializing_if") refl, empty_text x), tt))
manner_stands k held =
    (own (codes "default") refl, ((own (codes "deserialize_with") refl, ascii_text (codes "typify_present::some") refl), ((own (codes "skip_serializing_if") refl, empty_text empty_option), tt)))

manner_are : (m : Manner) (t : TyD) → Are (print_ty t) → Are (print_ty (manner_ty m t))
manner_are plain t h = h
manner_are whole t h = h
manner_are defaulted t h = h
manner_are (skipped x) t h = h
manner_are held t h = option_are t h

tag_stands : (g : TagModel) → TagIsText g → AllStand (tag_metas g)
tag_stands external_tag u = tt
tag_stands (internal_tag x) u = ((own (codes "tag") refl, u), tt)
tag_stands (adjacent_tag x c) u = ((own (codes "tag") refl, u.0), ((own (codes "content") refl, u.1), tt))
tag_stands untagged u = (own (codes "untagged") refl, tt)

when_stands : (b : Bool) (m : Carried) → Stands m → AllStand (when b m)
when_stands true m h = (h, tt)
when_stands false m h = tt

-- ---- names within an item

pub good_fields : (fs : Fields) → AllByRecursion Good (identifiers fs) → AllByRecursion (λ f. Good f.identifier) (fields_of fs)
good_fields no_fields g = tt
good_fields (field_then i n e s fs) g = (g.0, good_fields fs g.1)
good_fields (field_again i n fs) g = (g.0, good_fields fs g.1)
good_fields (rest_field i e) g = tt

abbrev RestIsGood : Rest → Type 0
RestIsGood no_rest = Unit {0}
RestIsGood (rest i e) = Good i

good_rest : (fs : Fields) → AllByRecursion Good (identifiers fs) → RestIsGood (rest_of fs)
good_rest no_fields g = tt
good_rest (field_then i n e s fs) g = good_rest fs g.1
good_rest (field_again i n fs) g = good_rest fs g.1
good_rest (rest_field i e) g = g.0

-- ---- fields and variants of the item n

places_are : (ts : Tys) → AreTys ts → Are (print_each_field (unnamed_fields_of ts))
places_are end_tys h = tt
places_are (more_tys t ts) h = are_both (print_ty t) (sign 44 ∷ print_each_field (unnamed_fields_of ts)) h.0 (comma, places_are ts h.1)

module _ (t : Table) (n : List ℕ) where
  abbrev s : Setting
  s = setting_of t

  used_are : (e : Entry) → EntryIsFormed e → Each (P t) (Q t) e → Are (print_ty (used_tree s n e))
  used_are e f x = entry_are (target_name t) (s.is_boxed n) e f (good_names t e x)

  field_are : (k : ℕ) (f : FieldEntry) → Good f.identifier → IsUtf8 f.name → FieldFits t n f → Are (print_field (field_tree s n k f))
  field_are k f g u x =
      let m = field_manner s n f in
      let ty = manner_ty m (used_tree s n f.entry) in
      let attributes = print_attributes (serde (field_metas s n k f)) in
      let label = print_label (Some (name_at f.identifier)) in
      are_both (attributes ++ label) (print_ty ty)
      (are_both attributes label (serde_are (field_metas s n k f) (all_both (rename_metas f.identifier f.name) (manner_metas k m) (rename_stands f.identifier f.name u) (manner_stands k m)))
      (good_name f.identifier g, (colon, tt)))
      (manner_are m (used_tree s n f.entry) (used_are f.entry x.0 x.1))

  fields_are : (fs : List FieldEntry) (o : Rest) (k : ℕ) → AllByRecursion (λ f. Good f.identifier) fs → RestIsGood o → FieldsAreTexts fs → FieldsFit t n fs → RestFits t n o
      → Are (print_each_field (field_trees s n k fs ++ rest_trees s n o))
  fields_are [] no_rest k g r u x y = tt
  fields_are [] (rest i e) k g r u x y =
      let ty = map_ty text_ty (entry_ty s.name unboxed e) in
      let attributes = print_attributes (serde (flag (codes "flatten") ∷ [])) in
      let label = print_label (Some (name_at i)) in
      are_both ((attributes ++ label) ++ print_ty ty) (sign 44 ∷ [])
      (are_both (attributes ++ label) (print_ty ty) (are_both attributes label (serde_are (flag (codes "flatten") ∷ []) (own (codes "flatten") refl, tt)) (good_name i r, (colon, tt)))
      (map_are text_ty (entry_ty s.name unboxed e) text_are (entry_are (target_name t) unboxed e y.0 (good_names t e y.1))))
      (comma, tt)
  fields_are (f ∷ fs) o k g r u x y =
      let rec = fields_are fs o (after_state f.state k) g.1 r u.1 x.1 y in
      are_both (print_field (field_tree s n k f)) (sign 44 ∷ print_each_field (field_trees s n (after_state f.state k) fs ++ rest_trees s n o)) (field_are k f g.0 u.0 x.0) (comma, rec)

  struct_are : (fs : Fields) (k : ℕ) → AllByRecursion Good (identifiers fs) → FieldsAreTexts (fields_of fs) → FieldsAreFormed fs → EachField (P t) (Q t) fs → Are (print_each_field (struct_trees s n k fs))
  struct_are fs k g u f x = fields_are (fields_of fs) (rest_of fs) k (good_fields fs g) (good_rest fs g) u (fields_fit t n fs f x) (rest_fits t n fs f x)

  contents_are : (c : Contents) (k : ℕ) → ContentsAreGood is_good_name c → ContentsAreTexts c → ContentsAreFormed c → EachInContents (P t) (Q t) c → Are (print_fields (contents_tree s n k c))
  contents_are unit_contents k g u f x = tt
  contents_are (newtype_contents e) k g u f x = in_parens (print_ty (used_tree s n e) ++ (sign 44 ∷ [])) (are_both (print_ty (used_tree s n e)) (sign 44 ∷ []) (used_are e f x) (comma, tt))
  contents_are (tuple_contents es) k g u f x =
      let ts = entry_tys s.name (s.is_boxed n) es in in_parens (print_each_field (unnamed_fields_of ts)) (places_are ts (entries_are (target_name t) (s.is_boxed n) es f.2 (good_names t (tuple_entry es) x)))
  contents_are (struct_contents fs) k g u f x = in_braces (print_each_field (struct_trees s n k fs)) (struct_are fs k g.1 u f.1 x.1)

  variants_are : (ws : Variants) (k : ℕ) → AllByRecursion Good (variant_identifiers ws) → VariantsAreGood is_good_name ws → AllByRecursion VariantIsText (variants_of ws) → VariantsAreFormed ws → EachVariant (P t) (Q t) ws
      → Are (print_each_variant (variant_trees s n k (variants_of ws)))
  variants_are no_variants k g c u f x = tt
  variants_are (variant_then i m c ws) k g d u f x =
      let fields = print_fields (contents_tree s n k c) in
      let attributes = print_attributes (serde (rename_metas i m)) in
      let rec = variants_are ws (after_contents c k) g.1 d.1 u.1 f.1 x.1 in
      are_both (attributes ++ (print_name (name_at i) ∷ fields)) (sign 44 ∷ print_each_variant (variant_trees s n (after_contents c k) (variants_of ws)))
      (are_both attributes (print_name (name_at i) ∷ fields) (serde_are (rename_metas i m) (rename_stands i m u.0.0)) (good_name i g.0, contents_are c k d.0 u.0.1 f.0 x.0)) (comma, rec)

  shape_are : (h : Shape) (k : ℕ) → ShapeIsGood is_good_name h → ShapeIsText h → ShapeIsFormed h → EachInShape (P t) (Q t) h → Are (print_end [] (shape_tree s n k h))
  shape_are (struct_shape closed fs) k g u f x = in_braces (print_each_field (struct_trees s n k fs)) (struct_are fs k g.1 u f.1 x.1)
  shape_are (enum_shape closed tag ws) k g u f x = in_braces (print_each_variant (variant_trees s n k (variants_of ws))) (variants_are ws k g.0.1 g.1 u.1 f.1 x)
  shape_are (newtype_shape e rule) k g u f x =
      let inner = print_ty (used_tree s n e) ++ (sign 44 ∷ []) in
      are_both (within_parens inner ∷ []) (sign 59 ∷ []) (in_parens inner (are_both (print_ty (used_tree s n e)) (sign 44 ∷ []) (used_are e f.1 x) (comma, tt))) (semicolon, tt)

  -- what the item carries
  tags_stand : (h : Shape) → ShapeIsText h → AllStand (shape_tag s n h)
  tags_stand (struct_shape closed fs) u = tt
  tags_stand (enum_shape closed tag ws) u = tag_stands tag u.0
  tags_stand (newtype_shape e rule) u = tt

  tries_stand : (h : Shape) → ShapeIsFormed h → EachInShape (P t) (Q t) h → AllStand (try_from_metas s n h)
  tries_stand (struct_shape closed fs) f x = tt
  tries_stand (enum_shape closed tag ws) f x = tt
  tries_stand (newtype_shape e (Some r)) f x = ((own (codes "try_from") refl, printed_is_text (pieces_of (print_ty (used_tree s n e))) (used_are e f.1 x)), tt)
  tries_stand (newtype_shape e None) f x = tt

  metas_stand : (h : Shape) → ShapeIsText h → ShapeIsFormed h → EachInShape (P t) (Q t) h → AllStand (item_metas s (record { name = n; shape = h }))
  metas_stand h u f x =
      let transparent = when (is_transparent s n h) (flag (codes "transparent")) in
      let tries = try_from_metas s n h in
      let closed = when (is_closed h) (flag (codes "deny_unknown_fields")) in
      let tag = shape_tag s n h in
      all_both ((tag ++ transparent) ++ tries) closed
      (all_both (tag ++ transparent) tries (all_both tag transparent (tags_stand h u) (when_stands (is_transparent s n h) (flag (codes "transparent")) (own (codes "transparent") refl))) (tries_stand h f x))
      (when_stands (is_closed h) (flag (codes "deny_unknown_fields")) (own (codes "deny_unknown_fields") refl))

-- ---- items

kind_are : (b : BodyD) (ts : List Tok) → Are ts → Are (print_kind b ∷ ts)
kind_are (struct_body fs at) ts h = (own (codes "struct") refl, h)
kind_are (enum_body vs at) ts h = (own (codes "enum") refl, h)
kind_are (union_body fs at) ts h = (own (codes "union") refl, h)

module _ (t : Table) where
  abbrev Fits : ItemEntry → Type 0
  Fits i = EachInShape (P t) (Q t) i.shape

  item_are : (k : ℕ) (i : ItemEntry) → (is_good_name i.name ≡ true) × ShapeIsGood is_good_name i.shape → ShapeIsText i.shape → ShapeIsFormed i.shape → Fits i → Are (print_item (item_tree (setting_of t) k i))
  item_are k i g u f x =
      let b = shape_tree (setting_of t) i.name k i.shape in
      let end = print_end [] b in
      are_both (print_attributes (serde (item_metas (setting_of t) i))) (print_kind b ∷ print_name (name_at i.name) ∷ end) (serde_are (item_metas (setting_of t) i) (metas_stand t i.name i.shape u f x))
      (kind_are b (print_name (name_at i.name) ∷ end) (good_name i.name g.0, shape_are t i.name i.shape k g.1 u f x))

  keeps : (k : ℕ) (i : ItemEntry) → Are (print_item (item_tree (setting_of t) k i)) → KeepsTokens (item_tree (setting_of t) k i)
  keeps k i a =
      let bare : IsBare (item_tree (setting_of t) k i) = record { params = refl; predicates = refl } in
      record { tokens = items_keep_tokens.tokens (item_tree (setting_of t) k i) bare a; printing = items_keep_tokens.printing (item_tree (setting_of t) k i) bare }

  all_keep : (is : List ItemEntry) (k : ℕ) → AllByRecursion (λ i. (is_good_name i.name ≡ true) × ShapeIsGood is_good_name i.shape) is → AllByRecursion (λ i. ShapeIsText i.shape) is → AllByRecursion (λ i. ShapeIsFormed i.shape) is → AllByRecursion Fits is
      → AllByRecursion KeepsTokens (item_trees (setting_of t) k is)
  all_keep [] k g u f x = tt
  all_keep (i ∷ is) k g u f x = (keeps k i (item_are k i g.0 u.0 f.0 x.0), all_keep is (k + length (shape_defaults i.shape)) g.1 u.1 f.1 x.1)

pub emitted_items_keep_tokens : EmittedItemsKeepTokens
emitted_items_keep_tokens t h u e = all_keep t (items_of t) 0 h.named u h.formed.items (shapes_named t h)
