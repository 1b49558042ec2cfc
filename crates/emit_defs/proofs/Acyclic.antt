-- What an entry asks of the same value its type asks too, so where no item reaches itself no container does.
use Rattle.std.proofs.Common.{◌≡◌, ℕ, ◌+◌, List, [], ◌∷◌, ◌++◌, length, Bool, true, false, cond, refl, sym, ap, ◌∙◌, Some, bytes_eq}
use Rattle.model_defs.specs.Types.{boxed_type, item_type}
use Rattle.model_defs.specs.Model.{external_tag, internal_tag, adjacent_tag, untagged, container_named}
use Rattle.model_defs.specs.Layer.{variant_content}
use Rattle.model_defs.specs.Reach as model
use Rattle.model_defs.specs.Reach.{is_among}
use Rattle.entry_defs.specs.Entry.{Entry, option_entry, reference, item, Shape, struct_shape, enum_shape, newtype_shape, Variants, no_variants, variant_then, Contents, newtype_contents, variants_of}
use Rattle.entry_defs.specs.Table.{ItemEntry, Table, item_named, items_of}
use Rattle.entry_defs.specs.Reach.{asked, asked_by_contents, asked_by_variants, asked_by_shape, asked_by, Asks, Reaches, at_once, further, NoneReachesItself}
use Rattle.emit_defs.specs.Setting.{Setting, setting_of}
use Rattle.emit_defs.specs.Models.{used, type_model, variant_model, variant_models, after_contents, shape_defaults, model_of_item, models_of_items}
use Rattle.emit_defs.specs.Emission.{models_of}

used_asks : (b : List ℕ → Bool) (n : List ℕ) → model.asked (used b n) ≡ n ∷ []
used_asks b n = elim (b n) as (λ x. model.asked (cond x (boxed_type (item_type n)) (item_type n)) ≡ n ∷ []) [ true ↦ refl | false ↦ refl ]

module _ (s : Setting) where
  entry_asks : (b : List ℕ → Bool) (e : Entry) → model.asked (type_model s.name b e) ≡ asked s.name e
  entry_asks b (option_entry e) = entry_asks b e
  entry_asks b (reference q) = used_asks b (s.name q)
  entry_asks b (item n c) = used_asks b n
  entry_asks b _ = refl

  contents_ask : (n : List ℕ) (closed : Bool) (m : ℕ) (i l : List ℕ) (c : Contents)
      → model.asked_by_content (variant_content closed (variant_model s n m (record { identifier = i; name = l; contents = c }))) ≡ asked_by_contents s.name c
  contents_ask n closed m i l (newtype_contents e) = entry_asks (s.is_boxed n) e
  contents_ask n closed m i l _ = refl

  variants_ask : (n : List ℕ) (closed : Bool) (m : ℕ) (ws : Variants) → model.asked_by_variants closed (variant_models s n m (variants_of ws)) ≡ asked_by_variants s.name (variants_of ws)
  variants_ask n closed m no_variants = refl
  variants_ask n closed m (variant_then i l c ws) =
      let one = contents_ask n closed m i l c in
      let rec = variants_ask n closed (after_contents c m) ws in
      λ k. one k ++ rec k

  shape_asks : (n : List ℕ) (m : ℕ) (c : Shape) → model.asked_by (Some (model_of_item s m (record { name = n; shape = c }))) ≡ asked_by_shape s.name c
  shape_asks n m (struct_shape closed fs) = refl
  shape_asks n m (newtype_shape e rule) = entry_asks (s.is_boxed n) e
  shape_asks n m (enum_shape closed untagged ws) = variants_ask n closed m ws
  shape_asks n m (enum_shape closed external_tag ws) = refl
  shape_asks n m (enum_shape closed (internal_tag t) ws) = refl
  shape_asks n m (enum_shape closed (adjacent_tag t k) ws) = refl

  items_ask : (n : List ℕ) (is : List ItemEntry) (m : ℕ) → model.asked_by (container_named n (models_of_items s m is)) ≡ asked_by s.name (item_named n is)
  items_ask n [] m = refl
  items_ask n (i ∷ is) m =
      let rec = items_ask n is (m + length (shape_defaults i.shape)) in
      elim (bytes_eq n i.name) as (λ b. model.asked_by (cond b (Some (model_of_item s m i)) (container_named n (models_of_items s (m + length (shape_defaults i.shape)) is))) ≡ asked_by s.name (cond b (Some i) (item_named n is))) [
        | true ↦ shape_asks i.name m i.shape
        | false ↦ rec
      ]

module _ (t : Table) where
  asks : (m n : List ℕ) → model.Asks (models_of t) m n → Asks t m n
  asks m n a = ap (is_among n) (sym (items_ask (setting_of t) m (items_of t) 0)) ∙ a

  walks : (m n : List ℕ) → model.Reaches (models_of t) m n → Reaches t m n
  walks _ _ (model.at_once m n a) = at_once m n (asks m n a)
  walks _ _ (model.further m n l a w) = further m n l (asks m n a) (walks n l w)

  pub acyclic : NoneReachesItself t → model.NoneReachesItself (models_of t)
  acyclic h n w = h n (walks n n w)
