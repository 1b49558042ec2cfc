-- Of a sound table each item is found at its place, and the stated defaults of its fields stand from there on.
use Rattle.std.proofs.Common.{◌≡◌, ℕ, suc, ◌+◌, ◌≤◌, List, [], ◌∷◌, map, length, Bool, true, false, cond, refl, sym, ap, ◌∙◌, subst, true≢false, Option, Some, None, inl, inr, bytes_eq, arith}
use Rattle.std.specs.List.{IsDistinct, AllByRecursion}
use Rattle.std.proofs.lemmas.Slice.Eq.{bytes_eq-Decides}
use Rattle.json_value.specs.Value.{Value}
use Rattle.model_defs.specs.Types.{TypeModel}
use Rattle.model_defs.specs.Model.{ContainerModel, container_named}
use Rattle.model_defs.specs.Reads.{leads_to_option}
use Rattle.model_defs.proofs.Rising.{bytes_itself}
use Rattle.typed_defs.specs.Typed.{Typed}
use Rattle.reading_defs.specs.Reading.{Read, absent}
use Rattle.reading_defs.proofs.Rows.{IsAbsent, absent-is}
use Rattle.entry_defs.specs.Entry.{Target, Entry, item, Shape}
use Rattle.entry_defs.specs.Table.{ItemEntry, TargetEntry, Table, found, same_target, target_item, item_name, items_of, allowed, Among}
use Rattle.entry_defs.specs.Sound.{Each, Leads, IsSound}
use Rattle.entry_defs.proofs.Each.{each_entry, in_entry, each_weaker}
use Rattle.emit_defs.specs.Setting.{Setting, setting_of}
use Rattle.emit_defs.specs.Models.{type_model, model_of_item, models_of_items, shape_defaults, conversions_of_items}
use Rattle.emit_defs.specs.Emission.{models_of}
use Rattle.emit_defs.specs.Law.{IsOf}
use Rattle.emit_defs.proofs.Acyclic.{acyclic}
use Rattle.emit_defs.proofs.Found.{Placed, whole, of_table, target_whole}
use Rattle.emit_defs.proofs.Level.{leads_told}
use Rattle.default_defs.specs.Found.{Found}
use Rattle.default_laws.specs.Laws.{DefaultsAreRead}
use Rattle.default_laws.specs.Stated.{StatedByShape, StatedByItems}
use Rattle.default_laws.proofs.Level.{IsFilled}

-- ---- look-ups by names that differ

other_way : (m n : List ℕ) → bytes_eq m n ≡ false → bytes_eq n m ≡ false
other_way m n h = elim (bytes_eq n m) as (λ b. bytes_eq n m ≡ b → b ≡ false) [
  | true ↦ λ e. absurd (true≢false (sym ((bytes_eq-Decides m n).1 (sym ((bytes_eq-Decides n m).0 e))) ∙ h))
  | false ↦ λ e. refl
] refl

-- an item among those whose names differ from one has another name
apart : (n : List ℕ) (i : ItemEntry) (xs : List ItemEntry) → AllByRecursion (λ y. bytes_eq n y ≡ false) (map (λ x. x.name) xs) → Among i xs → bytes_eq i.name n ≡ false
apart n i [] d a = absurd a
apart n i (x ∷ xs) d (inl e) = subst (λ z. bytes_eq z.name n ≡ false) e (other_way n x.name d.0)
apart n i (x ∷ xs) d (inr a) = apart n i xs d.1 a

-- where the item's container is found, and what its fields state stands in the table from there on
abbrev IsThere : Setting → ℕ → List ItemEntry → ItemEntry → Type 0
IsThere s n is i =
    (m : ℕ) × (container_named i.name (models_of_items s n is) ≡ Some (model_of_item s m i))
    × ((k : ℕ) (e : Entry) (w : Value) (ty : TypeModel) → StatedByShape s k e w ty i.name m i.shape → StatedByItems s k e w ty n is)

there : (s : Setting) (is : List ItemEntry) (n : ℕ) → IsDistinct bytes_eq (map (λ x. x.name) is) → (i : ItemEntry) → Among i is → IsThere s n is i
unfolding IsDistinct
there s [] n d i a = absurd a
there s (x ∷ xs) n d i (inl e) = (
  n,
  ap (λ z. cond (bytes_eq i.name z.name) (Some (model_of_item s n z)) (container_named i.name (models_of_items s (n + length (shape_defaults x.shape)) xs))) e
      ∙ ap (λ b. cond b (Some (model_of_item s n i)) (container_named i.name (models_of_items s (n + length (shape_defaults x.shape)) xs))) (bytes_itself i.name),
  λ k c w ty g. inl (subst (λ z. StatedByShape s k c w ty z.name n z.shape) (sym e) g),
)
there s (x ∷ xs) n d i (inr a) =
    let rec = there s xs (n + length (shape_defaults x.shape)) d.1 i a in (
      rec.0,
      ap (λ b. cond b (Some (model_of_item s n x)) (container_named i.name (models_of_items s (n + length (shape_defaults x.shape)) xs))) (apart x.name i xs d.0 a) ∙ rec.1,
      λ k c w ty g. inr (rec.2 k c w ty g),
    )

as_many : (s : Setting) (is : List ItemEntry) (n : ℕ) → length (models_of_items s n is) ≡ length is
as_many s [] n = refl
as_many s (i ∷ is) n = ap suc (as_many s is (n + length (shape_defaults i.shape)))

-- ---- no value

none_stands : (ms : List ContainerModel) (b : Bool) (t : TypeModel) (o : Option Typed) → IsAbsent ms b t o → b ≡ false → o ≡ None
none_stands ms b t None h e = refl
none_stands ms b t (Some x) h e = absurd (true≢false (sym h.0 ∙ e))

-- ---- of a table

module _ (t : Table) (h : IsSound t) where
  pub enough : length (models_of t) ≤ allowed t
  enough =
      let l = as_many (setting_of t) (items_of t) 0 in
      omega arith

  pub names : (q : Target) (i : ItemEntry) → target_item t q ≡ Some i → (setting_of t).name q ≡ i.name
  names q i e = ap item_name e

  no_item : (i : ItemEntry) → None ≡ Some i → ⊥
  no_item i e = cc

  the_same : (a b : ItemEntry) → Some a ≡ Some b → a ≡ b
  the_same a b e = ap (λ o. elim o [ None ↦ a | Some x ↦ x ]) e

  is_of : (q : Target) (ts : List TargetEntry) → AllByRecursion (λ x. IsOf t (item x.led_to.name x.led_to.shape)) ts → (i : ItemEntry) → found q ts ≡ Some i → IsOf t (item i.name i.shape)
  is_of q [] x i e = absurd (no_item i e)
  is_of q (y ∷ ys) x i e =
      let rec = is_of q ys x.1 i in
      elim (same_target q y.target) as (λ b. cond b (Some y.led_to) (found q ys) ≡ Some i → IsOf t (item i.name i.shape)) [
        | true ↦ λ k. subst (λ z. IsOf t (item z.name z.shape)) (the_same y.led_to i k) x.0
        | false ↦ λ k. rec k
      ] e

  module _ (missed : Entry → Value → Found) (default_read : ℕ → TypeModel → Read Typed) (d : DefaultsAreRead t missed default_read) where
    abbrev pub Filled : List ℕ → Shape → Type 0
    Filled n c = IsFilled (setting_of t) (models_of t) (conversions_of_items (items_of t)) missed default_read n c

    fill : (i : ItemEntry) → Among i (items_of t) → Placed t h i.name i.shape → Filled i.name i.shape
    fill i a p =
        let f = there (setting_of t) (items_of t) 0 h.distinct i a in
        record { placed = record { at = f.0; found = f.1; rule = p.rule }; filled = λ k e w ty g. d k e w ty (f.2 k e w ty g) }

    pub all_filled : (e : Entry) → IsOf t e → Each Filled (Leads t) e
    all_filled e o = each_entry Filled (Leads t) e (λ i a. fill i (o.inside i a) (in_entry (Placed t h) (Leads t) e (whole t h e o) i a).0) o.leads

    pub target_filled : (q : Target) (i : ItemEntry) → target_item t q ≡ Some i → Each Filled (Leads t) (item i.name i.shape)
    target_filled q i e = all_filled (item i.name i.shape) (is_of q t.targets (of_table t h).targets i e)

    -- what doesn't lead to an option has no value where it is left out
    pub lacks : (b : List ℕ → Bool) (e : Entry) → Each Filled (Leads t) e → (setting_of t).leads e ≡ false → absent (models_of t) (type_model (setting_of t).name b e) ≡ None
    lacks b e w l =
        let ty = type_model (setting_of t).name b e in
        let told = leads_told (setting_of t) (models_of t) (conversions_of_items (items_of t)) t (acyclic t h.acyclic) names (target_whole t h) enough b e
        (each_weaker Filled (Placed t h) (Leads t) (Leads t) (λ n c p. p.placed) (λ q x. x) e w) in
        none_stands (models_of t) (leads_to_option (models_of t) ty) ty (absent (models_of t) ty) (absent-is (models_of t) ty) (sym told ∙ l)
