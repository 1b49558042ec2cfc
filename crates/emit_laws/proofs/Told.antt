-- Nothing is told of the attributes of emitted fields and variants.
use Rattle.std.proofs.Common.{◌≡◌, ◌&&◌, ℕ, suc, List, [], ◌∷◌, ◌++◌, Bool, true, false, not, refl, ap, ◌∙◌, bytes_eq}
use Rattle.std.specs.Prelude.{None}
use Rattle.std.specs.List.{list_any}
use Rattle.token_trees.specs.Token.{site}
use Rattle.syntax_trees.specs.Syntax.{Tys, end_tys, more_tys}
use Rattle.syntax_trees.specs.Item.{VariantD}
use Rattle.attr_parts.specs.Diagnostics.{DiagnosticD, untagged_order}
use Rattle.attr_defs.specs.Acts.{ActD, told}
use Rattle.attr_defs.specs.Container.{unraw}
use Rattle.attr_defs.specs.Members.{variant_from}
use Rattle.attr_defs.specs.Texts.{lexed}
use Rattle.container_defs.specs.Checks.{told_if}
use Rattle.container_defs.specs.Model.{fields_told_from, fields_told, variant_told, variants_told, is_untagged, order_told, members_told}
use Rattle.entry_defs.specs.Entry.{Rest, no_rest, rest, Shape, struct_shape, enum_shape, newtype_shape, Contents, unit_contents, newtype_contents, tuple_contents, struct_contents, FieldEntry, VariantEntry, fields_of, rest_of, variants_of}
use Rattle.emit_defs.specs.Setting.{Setting}
use Rattle.emit_defs.specs.Models as manners
use Rattle.emit_defs.specs.Models.{Manner, plain, defaulted, skipped, held, field_manner, after_state, after_contents}
use Rattle.emit_defs.specs.Trees.{entry_tys, unnamed_fields_of, field_tree, field_trees, rest_trees, contents_tree, variant_tree, variant_trees, shape_tree}
use Rattle.emit_texts.specs.Laws.{FunctionsAreRead}
use Rattle.emit_laws.proofs.Acts.{rename_acts, manner_acts, field_read, variant_read}

acts_untold : (b : Bool) (x : List ℕ) (n : ℕ) (m : Manner) → told (rename_acts b x ++ manner_acts n m) ≡ []
acts_untold true x n plain = refl
acts_untold true x n manners.whole = refl
acts_untold true x n defaulted = refl
acts_untold true x n (skipped y) = refl
acts_untold true x n held = refl
acts_untold false x n plain = refl
acts_untold false x n manners.whole = refl
acts_untold false x n defaulted = refl
acts_untold false x n (skipped y) = refl
acts_untold false x n held = refl

module _ (functions : FunctionsAreRead) (s : Setting) (owner : List ℕ) where
  fields_untold : (fs : List FieldEntry) (o : Rest) (n index : ℕ) → fields_told_from lexed None index (field_trees s owner n fs ++ rest_trees s owner o) ≡ []
  fields_untold [] no_rest n index = refl
  fields_untold [] (rest i e) n index = refl
  fields_untold (f ∷ fs) o n index =
      let m = field_manner s owner f in
      let b = bytes_eq f.identifier f.name in
      let one =
      ap told (field_read functions (field_tree s owner n f) (record { text = unraw f.identifier; span = site }) b f.identifier f.name n m refl)
      ∙ acts_untold b f.name n m in
      let rec = fields_untold fs o (after_state f.state n) (suc index) in
      λ i. one i ++ rec i

  places_untold : (ts : Tys) (index : ℕ) → fields_told_from lexed None index (unnamed_fields_of ts) ≡ []
  places_untold end_tys index = refl
  places_untold (more_tys t ts) index = places_untold ts (suc index)

  contents_untold : (c : Contents) (n : ℕ) → fields_told lexed None (contents_tree s owner n c) ≡ []
  contents_untold unit_contents n = refl
  contents_untold (newtype_contents e) n = refl
  contents_untold (tuple_contents es) n = places_untold (entry_tys s.name (s.is_boxed owner) es) 0
  contents_untold (struct_contents fs) n = fields_untold (fields_of fs) (rest_of fs) n 0

  -- ---- variants

  abbrev told_by : VariantD → List ActD → List DiagnosticD
  told_by v acts = told acts ++ fields_told lexed (variant_from v acts).borrow v.fields

  names_untold : (v : VariantD) (b : Bool) (x : List ℕ) → told_by v (rename_acts b x) ≡ fields_told lexed None v.fields
  names_untold v true x = refl
  names_untold v false x = refl

  one_untold : (w : VariantEntry) (n : ℕ) → variant_told lexed (variant_tree s owner n w) ≡ []
  one_untold w n =
      let v = variant_tree s owner n w in
      let b = bytes_eq w.identifier w.name in
      ap (told_by v) (variant_read v b w.identifier w.name refl) ∙ names_untold v b w.name ∙ contents_untold w.contents n

  variants_untold : (ws : List VariantEntry) (n : ℕ) → variants_told lexed (variant_trees s owner n ws) ≡ []
  variants_untold [] n = refl
  variants_untold (w ∷ ws) n =
      let one = one_untold w n in
      let rec = variants_untold ws (after_contents w.contents n) in
      λ i. one i ++ rec i

  names_tag : (v : VariantD) (b : Bool) (x : List ℕ) → (variant_from v (rename_acts b x)).untagged ≡ false
  names_tag v true x = refl
  names_tag v false x = refl

  tagged : (w : VariantEntry) (n : ℕ) → is_untagged lexed (variant_tree s owner n w) ≡ false
  tagged w n =
      let v = variant_tree s owner n w in
      let b = bytes_eq w.identifier w.name in
      ap (λ acts. (variant_from v acts).untagged) (variant_read v b w.identifier w.name refl) ∙ names_tag v b w.name

  in_order : (ws : List VariantEntry) (n : ℕ) → order_told lexed (variant_trees s owner n ws) ≡ []
  in_order [] n = refl
  in_order (w ∷ ws) n =
      let one = tagged w n in
      let vs = variant_trees s owner (after_contents w.contents n) ws in
      ap (λ b. told_if (b && list_any (λ x. not (is_untagged lexed x)) vs) untagged_order (variant_tree s owner n w).name.span ++ order_told lexed vs) one ∙ in_order ws (after_contents w.contents n)

  pub members_untold : (h : Shape) (n : ℕ) → members_told lexed (shape_tree s owner n h) ≡ []
  members_untold (struct_shape closed fs) n = fields_untold (fields_of fs) (rest_of fs) n 0
  members_untold (newtype_shape e rule) n = refl
  members_untold (enum_shape closed tag ws) n =
      let one = variants_untold (variants_of ws) n in
      let rec = in_order (variants_of ws) n in
      λ i. one i ++ rec i
