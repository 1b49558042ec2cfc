-- A schema that was added, its tree, what is emitted for its id, and what is read back of that, one after another.
use Rattle.std.proofs.Common.{◌≡◌, inl, ℕ, List, [], ◌∷◌, ◌++◌, Bool, true, false, Some, sym, ap, subst, ◌∙◌, append_assoc}
use Rattle.std.specs.Prelude.{if◌then◌else◌}
use Rattle.std.specs.List.{AllByRecursion}
use Rattle.schema_defs.specs.Texts.{Relations}
use Rattle.schema_defs.specs.Schema.{Document}
use Rattle.entry_defs.specs.Entry.{Target, Entry, item}
use Rattle.entry_defs.specs.Space.{Id}
use Rattle.entry_defs.specs.Table.{ItemEntry, TargetEntry, Table, same_target, found}
use Rattle.emit_defs.specs.Emission.{Emission}
use Rattle.emit_defs.specs.Law.{IsOf}
use Rattle.emit_defs.proofs.Found.{of_table}
use Rattle.emit_texts.proofs.Functions.{functions_are_read}
use Rattle.emit_texts.proofs.Types.{types_are_read_again}
use Rattle.emit_laws.specs.Laws.{IsRoot}
use Rattle.emit_laws.proofs.Assembled.{items_mean_entries, trees_are_roots}
use Rattle.convert_defs.proofs.Bare.{none-some, some-same}
use Rattle.convert_defs.proofs.Keeps.{keep-to}
use Rattle.convert_walks.specs.Tree.{entry_at}
use Rattle.document_laws.specs.Laws.{WasRead}
use Rattle.space_defs.specs.Held.{SpacesEmitTables}
use Rattle.history_laws.specs.Placing.{with_names, with_tree, target_id, next_named, next_id}
use Rattle.history_laws.specs.Added.{begins_at}
use Rattle.history_laws.specs.Laws.{ComesAbout, by_schema, ComesSince, at_once, after_schema, StandsAt, read_back, SchemasMeanItems, ItemsMeanItems}
use Rattle.history_laws.proofs.Coming.{tables_are_emittable}
use Rattle.history_laws.proofs.Told.{schemas_stand, items_stand, tables_are_emitted}
use Rattle.history_laws.proofs.Agreed.{schemas_agree, items_agree}

-- a tree with trees before and after it
abbrev Among : Entry → List Entry → Type 0
Among y es = (before : List Entry) × (after : List Entry) × (es ≡ before ++ y ∷ after)

all-among : (P : Entry → Type 0) (before : List Entry) (y : Entry) (after : List Entry) → AllByRecursion P (before ++ y ∷ after) → P y
all-among P [] y after h = h.0
all-among P (x ∷ before) y after h = all-among P before y after h.1

module _ (r : Relations) (d : Document) (depth n : ℕ) (w : WasRead d) where
  comes-on : (t u : Table) → ComesAbout r d depth n t → ComesSince r d depth n t u → ComesAbout r d depth n u
  comes-on t _ c at_once = c
  comes-on t _ c (after_schema u at h s b e) = by_schema u at h s (comes-on t u c b) e

  abbrev Stays : Entry → Id → Table → Type 0
  Stays y i u = StandsAt u y i × Among y (with_names u).trees

  -- what stands there, and is a tree, is so with more trees
  stays-on : (y : Entry) (i : Id) (t u : Table) → ComesAbout r d depth n t → Stays y i t → ComesSince r d depth n t u → Stays y i u
  stays-on y i t _ c h at_once = h
  stays-on y i t _ c h (after_schema u at k s b e) =
      let x = stays-on y i t u c h b in
      let a = schemas_stand r d depth n w u (comes-on t u c b) at k s e in
      let z = next_named u (entry_at r d depth n (begins_at at k) s) in
      let m = x.1 in (
        a.kept y i x.0,
        (m.0, m.1 ++ z ∷ [], ap (λ (q : Table). q.trees) a.last ∙ ap (λ es. es ++ z ∷ []) m.2 ∙ append_assoc m.0 (y ∷ m.1) (z ∷ [])),
      )

pub schemas_mean_items : SpacesEmitTables → SchemasMeanItems
schemas_mean_items law variant_name field_name private derive way r lawful d depth n w c t about at h s e a u since v small =
    let x = entry_at r d depth n (begins_at at h) s in
    let y = next_named t x in
    let i = next_id t x in
    let one = with_tree t x in
    let first : ComesAbout r d depth n one = by_schema t at h s about e in
    let now = comes-on r d depth n w one u first since in
    let added = schemas_stand r d depth n w t about at h s e in
    let there = stays-on r d depth n w y i one u first (added.stands, ((with_names t).trees, [], ap (λ (q : Table). q.trees) added.last)) since in
    let m = there.1 in
    let written = tables_are_emittable r d depth n w u now in
    let root : IsRoot (with_names u) y = all-among (IsRoot (with_names u)) m.0 y m.1 (subst (AllByRecursion (IsRoot (with_names u))) m.2 (trees_are_roots (with_names u) written)) in
    let back : Emission → Bool = λ z. read_back variant_name field_name private derive r z v in
    keep-to way _ _ _ (schemas_agree way r lawful d depth n w c t u now at h s e a v small).itself
    (sym (ap back (tables_are_emitted law r d depth n w u now y i (inl there.0)) ∙ items_mean_entries functions_are_read types_are_read_again variant_name field_name private derive (with_names u) written r y root v))

-- ---- items

of-found : (P : TargetEntry → Type 0) (q : Target) (ts : List TargetEntry) (x : ItemEntry) → AllByRecursion P ts → found q ts ≡ Some x → (t : TargetEntry) × P t × (t.led_to ≡ x)
of-found P q [] x h k = none-some x k
of-found P q (t ∷ ts) x h k = by (same_target q t.target) k (of-found P q ts x h.1)
  where
    by : (b : Bool) → (if b then Some t.led_to else found q ts) ≡ Some x → (found q ts ≡ Some x → (t : TargetEntry) × P t × (t.led_to ≡ x)) → (t : TargetEntry) × P t × (t.led_to ≡ x)
    by true k f = (t, h.0, some-same t.led_to x k)
    by false k f = f k

pub items_mean_items : SpacesEmitTables → ItemsMeanItems
items_mean_items law variant_name field_name private derive way r lawful d depth n w c t about at q s e k v small =
    let u = with_names t in
    let j = items_stand r d depth n w t about at q e in
    let x = item j.0.name j.0.shape in
    let written = tables_are_emittable r d depth n w t about in
    let y = of-found (λ z. IsOf u (item z.led_to.name z.led_to.shape)) q u.targets j.0 (of_table u written.sound).targets j.1 in
    let root : IsRoot u x = record { its_own = subst (λ (z : ItemEntry). IsOf u (item z.name z.shape)) y.2 y.1; formed = tt } in
    let back : Emission → Bool = λ z. read_back variant_name field_name private derive r z v in
    keep-to way _ _ _ (items_agree way r lawful d depth n w c t about at q s e k j.0 j.1 v small)
    (sym (ap back (tables_are_emitted law r d depth n w t about x (target_id t q) (inl j.2)) ∙ items_mean_entries functions_are_read types_are_read_again variant_name field_name private derive u written r x root v))
