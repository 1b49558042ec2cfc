-- One value: an entry takes it where the containers read it, if that holds of its parts.
use Rattle.std.proofs.Common.{◌≡◌, ℕ, zero, suc, ◌≤◌, List, length, Bool, true, false, ◌&&◌, not, cond, refl, sym, ap, ◌∙◌, subst, true≢false, Some, None, arith}
use Rattle.model_defs.specs.Types.{boxed_type, item_type}
use Rattle.model_defs.specs.Model.{ContainerModel, ConversionsD, container_named}
use Rattle.model_defs.specs.Reads as reads
use Rattle.model_defs.specs.Reads.{type_leads, container_leads, leads_to_option, item_reads}
use Rattle.model_defs.specs.Reach.{asked, asked_by, is_among, NoneReachesItself}
use Rattle.model_defs.proofs.Reach.{lone_among, Ends, all_end, spare_items}
use Rattle.entry_defs.specs.Entry.{Target, Entry, reference, item, Shape, struct_shape, enum_shape, newtype_shape}
use Rattle.entry_defs.specs.Table.{ItemEntry, Table, target_item, allowed}
use Rattle.emit_defs.specs.Setting as setting
use Rattle.emit_defs.specs.Setting.{Setting, entry_leads, shape_leads, item_leads}
use Rattle.emit_defs.specs.Models.{used, type_model, model_of_item}
use Rattle.entry_defs.specs.Sound.{Each, EachInShape, Leads}
use Rattle.emit_defs.proofs.Found.{IsPlaced}

abbrev pub named_item : List ℕ → Shape → ItemEntry
named_item n h = record { name = n; shape = h }

none_some : {A : Type 0} (x : A) → None ≡ Some x → ⊥
none_some x e = cc

-- ---- walks that end

module _ (s : Setting) (models : List ContainerModel) (cs : ConversionsD) where
  abbrev pub AskEnds : ℕ → List (List ℕ) → Type 0
  AskEnds k ns = (l : List ℕ) → is_among l ns ≡ true → Ends models k l

  longer : (k : ℕ) (n : List ℕ) → Ends models k n → Ends models (suc k) n
  longer zero n e = λ l a. absurd (true≢false (sym a ∙ ap (λ o. is_among l (asked_by o)) e))
  longer (suc k) n e = λ l a. longer k l (e l a)

  -- what an item asks ends one sooner than the item
  pub inside : (k : ℕ) (n : List ℕ) (h : Shape) (p : IsPlaced s models cs n h) → Ends models (suc k) n → AskEnds k (asked_by (Some (model_of_item s p.at (named_item n h))))
  inside k n h p e = λ l a. e l (ap (λ o. is_among l (asked_by o)) p.found ∙ a)

  pub never_at_once : (n : List ℕ) (h : Shape) → IsPlaced s models cs n h → Ends models zero n → ⊥
  never_at_once n h p e = none_some _ (sym e ∙ p.found)

  pub inside_too : (k : ℕ) (n : List ℕ) (h : Shape) (p : IsPlaced s models cs n h) → Ends models k n → AskEnds k (asked_by (Some (model_of_item s p.at (named_item n h))))
  inside_too zero n h p e = absurd (never_at_once n h p e)
  inside_too (suc k) n h p e = λ l a. longer k l (inside k n h p e l a)

pub used_asks : (b : List ℕ → Bool) (n : List ℕ) → is_among n (asked (used b n)) ≡ true
used_asks b n = elim (b n) as (λ x. is_among n (asked (cond x (boxed_type (item_type n)) (item_type n))) ≡ true) [ true ↦ lone_among n | false ↦ lone_among n ]

-- ---- leading to an option

module _ (s : Setting) (models : List ContainerModel) (cs : ConversionsD) (table : Table) (none : NoneReachesItself models)
    (names : (q : Target) (i : ItemEntry) → target_item table q ≡ Some i → s.name q ≡ i.name)
    (whole : (q : Target) (i : ItemEntry) → target_item table q ≡ Some i → Each (IsPlaced s models cs) (Leads table) (item i.name i.shape))
    (enough : length models ≤ allowed table) where
  abbrev P : List ℕ → Shape → Type 0
  P n h = IsPlaced s models cs n h

  abbrev Q : Target → Type 0
  Q q = Leads table q

  abbrev item_leads_at : List ℕ → Bool
  item_leads_at n = reads.leads_within models (reads.allowed models) n

  leads_level : (n : List ℕ) → item_leads_at n ≡ container_leads item_leads_at (container_named n models)
  leads_level n = λ i. container_leads (λ l. sym ((spare_items models none).leading (reads.allowed models) l (omega arith)) i) (container_named n models)

  leads_placed : (n : List ℕ) (h : Shape) (p : P n h) → item_leads_at n ≡ container_leads item_leads_at (Some (model_of_item s p.at (named_item n h)))
  leads_placed n h p = leads_level n ∙ ap (container_leads item_leads_at) p.found

  used_leads : (b : List ℕ → Bool) (n : List ℕ) → type_leads item_leads_at (used b n) ≡ item_leads_at n
  used_leads b n = elim (b n) as (λ x. type_leads item_leads_at (cond x (boxed_type (item_type n)) (item_type n)) ≡ item_leads_at n) [ true ↦ refl | false ↦ refl ]

  abbrev leads_of : ℕ → Target → Bool
  leads_of j q = setting.leads_within s.name s.is_boxed table j q

  module _ (k j : ℕ) (refs : (q : Target) (i : ItemEntry) → target_item table q ≡ Some i → Ends models k i.name → leads_of j q ≡ item_leads_at i.name) where
    mutual
      entry_told : (b : List ℕ → Bool) (e : Entry) → Each P Q e → AskEnds s models cs k (asked (type_model s.name b e)) → entry_leads s.name s.is_boxed (leads_of j) e ≡ type_leads item_leads_at (type_model s.name b e)
      entry_told b (reference q) h x =
          let n = names q h.0 h.1 in
          refs q h.0 h.1 (subst (Ends models k) n (x (s.name q) (used_asks b (s.name q)))) ∙ ap item_leads_at (sym n) ∙ sym (used_leads b (s.name q))
      entry_told b (item n c) h x =
          let p = h.0 in
          shape_told n c p.at h.1 (inside_too s models cs k n c p (x n (used_asks b n))) ∙ sym (leads_placed n c p) ∙ sym (used_leads b n)
      entry_told b _ h x = refl

      shape_told : (n : List ℕ) (c : Shape) (at : ℕ) → EachInShape P Q c → AskEnds s models cs k (asked_by (Some (model_of_item s at (named_item n c))))
          → shape_leads s.name s.is_boxed (leads_of j) n c ≡ container_leads item_leads_at (Some (model_of_item s at (named_item n c)))
      shape_told n (newtype_shape e None) at h x = ap (λ z. not (setting.ends_in_phantom s.name s.is_boxed n e) && z) (entry_told (s.is_boxed n) e h x)
      shape_told n (newtype_shape e (Some rule)) at h x = refl
      shape_told n (struct_shape closed fs) at h x = refl
      shape_told n (enum_shape closed tag ws) at h x = refl

  told_refs : (k j : ℕ) → k ≤ j → (q : Target) (i : ItemEntry) → target_item table q ≡ Some i → Ends models k i.name → leads_of j q ≡ item_leads_at i.name
  told_refs zero j l q i e x = absurd (never_at_once s models cs i.name i.shape (whole q i e).0 x)
  told_refs (suc k) zero l q i e x = absurd (omega arith)
  told_refs (suc k) (suc j) l q i e x =
      let w = whole q i e in
      let p = w.0 in
      ap (item_leads s.name s.is_boxed (leads_of j)) e
      ∙ shape_told k j (told_refs k j (omega arith)) i.name i.shape p.at w.1 (inside s models cs k i.name i.shape p x)
      ∙ sym (leads_placed i.name i.shape p)

  pub leads_told : (b : List ℕ → Bool) (e : Entry) → Each P Q e → entry_leads s.name s.is_boxed (leads_of (allowed table)) e ≡ leads_to_option models (type_model s.name b e)
  leads_told b e h = entry_told (length models) (allowed table) (told_refs (length models) (allowed table) enough) b e h (λ l a. all_end models none l)
