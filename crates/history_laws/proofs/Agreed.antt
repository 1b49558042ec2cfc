-- A schema that is added agrees with its tree, one way at a time, as does each schema of its conversion tree with its entry.
use Rattle.std.proofs.Common.{◌≡◌, ℕ, List, [], ◌∷◌, ◌++◌, Bool, true, false, Some, option_map, refl, sym, ap, subst, ◌∙◌, bytes_eq}
use Rattle.std.specs.Prelude.{if◌then◌else◌}
use Rattle.json_value.specs.Value.{Value, IsSmall}
use Rattle.schema_defs.specs.Location.{Location}
use Rattle.schema_defs.specs.Texts.{Relations, IsLawful}
use Rattle.schema_defs.specs.Schema.{Schema, Definition, Document}
use Rattle.schema_defs.specs.Admits.{admits, defined}
use Rattle.schema_defs.specs.Children.{schema_at}
use Rattle.schema_defs.specs.Walks.{IsGuarded}
use Rattle.entry_defs.specs.Entry.{Target, Entry, item}
use Rattle.entry_defs.specs.Table.{ItemEntry, Table, found, target_item, allowed}
use Rattle.entry_defs.specs.Takes.{follows, parts_of, takes}
use Rattle.entry_defs.proofs.Rows.{takes-level}
use Rattle.naming_defs.specs.Good.{is_good_name}
use Rattle.naming_defs.proofs.Bare.{bare_item, bare-table, found-bare}
use Rattle.naming_defs.proofs.Meaning.{unseen}
use Rattle.naming_defs.proofs.Sound.{named_tables_are_sound}
use Rattle.convert_defs.specs.Convert.{as_item}
use Rattle.convert_defs.specs.Laws.{Keeps}
use Rattle.convert_defs.specs.Proper.{IsProper, IsProperDocument}
use Rattle.each_schema.specs.Each.{of_any_size}
use Rattle.convert_defs.specs.RootReference.{refers_to_root}
use Rattle.convert_defs.specs.Row.{Way}
use Rattle.convert_defs.proofs.Bare.{none-some, some-same}
use Rattle.convert_defs.proofs.Keeps.{keep-to}
use Rattle.merge_laws.specs.Laws as merge
use Rattle.convert_walks.specs.Spot.{Spot}
use Rattle.convert_walks.specs.Tree.{Node, tree_at, entry_at, definition_spot, root_spot, definition_trees, table_of}
use Rattle.convert_walks.specs.Told.{notes_in, faults_in}
use Rattle.merging_laws.specs.Conversion.{Free, AllNodes}
use Rattle.conversion_laws.proofs.Agreeing.{AllDefinitions, CleanDocument, value-match}
use Rattle.conversion_laws.proofs.Clean.{Clean}
use Rattle.conversion_laws.proofs.Conversion.{definitions-stand}
use Rattle.conversion_laws.proofs.FineTrees.{nodes-left, nodes-right, IsFine, fine-nodes, HasEntry, stands}
use Rattle.conversion_laws.proofs.Targets.{item-takes}
use Rattle.document_laws.specs.Laws.{WasRead}
use Rattle.document_laws.proofs.Proper.{documents_are_proper}
use Rattle.merged_documents.proofs.Documents.{read_tables_are_fit}
use Rattle.merged_documents.proofs.Mergeable.{read_documents_may_merge}
use Rattle.history_laws.specs.Placing.{with_names, next_named}
use Rattle.history_laws.specs.Added.{begins_at, target_at, used_root_tree, target_nodes}
use Rattle.history_laws.specs.Laws.{ComesAbout, AreClean, SchemasAgree, ItemsAgree}
use Rattle.history_laws.proofs.Coming.{came-of}
use Rattle.history_laws.proofs.Fitting.{fit-with}
use Rattle.history_laws.proofs.LedTo.{led-at}
use Rattle.history_laws.proofs.Judged.{same-taken, renamed}
use Rattle.history_laws.proofs.Located.{proper-at, mergeable-at}

-- ---- by the document's own table

module _ (way : Way) (r : Relations) (lawful : IsLawful r) (d : Document) (guarded : IsGuarded d) (fits : merge.ProperDocument d) (in_order : IsProperDocument d) (depth n : ℕ) where
  abbrev own : Table
  own = table_of r d depth n

  abbrev Fine : Node → Type 0
  Fine = IsFine way r lawful d guarded fits in_order depth n

  abbrev Has : Node → Type 0
  Has = HasEntry way r lawful d guarded fits in_order depth n

  abbrev TargetsAreClean : Type 0
  TargetsAreClean = AreClean way r d depth n (target_nodes r d depth n)

  document-clean : TargetsAreClean → CleanDocument way r lawful d guarded fits in_order depth n
  document-clean c =
      let first = definition_trees r d depth n d.definitions in
      let last = used_root_tree r d depth n (refers_to_root d) in
      let h = fine-nodes way r lawful d guarded fits in_order depth n (first ++ last) c.faultless c.noteless in
      let root : refers_to_root d ≡ true → AllNodes Fine (tree_at r d depth n (root_spot r d depth n) d.root)
      = λ e. subst (λ b. AllNodes Fine (used_root_tree r d depth n b)) e (nodes-right Fine first last h) in (
        λ e. (stands way r lawful d guarded fits in_order depth n n (root_spot r d depth n) d.root in_order.root fits.0 (root e)).0,
        (definitions-stand way r lawful d guarded fits in_order depth n d.definitions in_order.definitions fits.1 (nodes-left Fine first last h)).0,
      )

  module _ (c : TargetsAreClean) (v : Value) (small : IsSmall v) where
    abbrev KeptBy : (Entry → Bool) → Node → Type 0
    KeptBy j x = Keeps way (admits r d v x.schema) (j x.entry)

    all-kept : (j : Entry → Bool) → ((e : Entry) → takes own r e v ≡ j e) → (ts : List Node) → AllNodes Has ts → AllNodes (KeptBy j) ts
    all-kept j f [] h = tt
    all-kept j f (t ∷ ts) h =
        (keep-to way _ _ _ ((value-match way r lawful d guarded fits in_order depth n (document-clean c) v small).agree t.schema t.entry h.0) (f t.entry), all-kept j f ts h.1)

    pub own-kept : (o : Spot) (s : Schema) → Clean way r d depth n o s → Keeps way (admits r d v s) (takes own r (entry_at r d depth n o s) v)
    own-kept o s h = (value-match way r lawful d guarded fits in_order depth n (document-clean c) v small).agree s (entry_at r d depth n o s) (n, o, h, refl)

    module _ (o : Spot) (s : Schema) (x : IsProper of_any_size d s) (y : merge.IsProper s) (faultless : faults_in r d depth n (tree_at r d depth n o s) ≡ []) (noteless : Free way (notes_in r d depth n (tree_at r d depth n o s))) where
      abbrev clean-here : Clean way r d depth n o s × AllNodes Has (tree_at r d depth n o s)
      clean-here = stands way r lawful d guarded fits in_order depth n n o s x y (fine-nodes way r lawful d guarded fits in_order depth n (tree_at r d depth n o s) faultless noteless)

      pub itself-kept : Keeps way (admits r d v s) (takes own r (entry_at r d depth n o s) v)
      itself-kept = own-kept o s clean-here.0

      pub inside-kept : (j : Entry → Bool) → ((e : Entry) → takes own r e v ≡ j e) → AllNodes (KeptBy j) (tree_at r d depth n o s)
      inside-kept j f = all-kept j f (tree_at r d depth n o s) clean-here.1

    definition-clean : (m : List ℕ) (ds : List Definition) (e : Definition) → AllDefinitions way r lawful d guarded fits in_order depth n (λ e. Clean way r d depth n (definition_spot r d depth n e) e.body) ds
        → defined m ds ≡ Some e → Clean way r d depth n (definition_spot r d depth n e) e.body
    definition-clean m [] e h k = none-some e k
    definition-clean m (x ∷ ds) e h k = by (bytes_eq m x.name) k (definition-clean m ds e h.1)
      where
        by : (b : Bool) → (if b then Some x else defined m ds) ≡ Some e → (defined m ds ≡ Some e → Clean way r d depth n (definition_spot r d depth n e) e.body) → Clean way r d depth n (definition_spot r d depth n e) e.body
        by true k f = subst (λ (z : Definition). Clean way r d depth n (definition_spot r d depth n z) z.body) (some-same x e k) h.0
        by false k f = f k

    -- an item that references lead to, by what it is made of
    pub led-kept : (at : Location) (q : Target) → target_at d at ≡ Some q → (s : Schema) → schema_at d at ≡ Some s
        → (name : List ℕ) × (e : Entry) × (found q own.targets ≡ Some (as_item name e)) × Keeps way (admits r d v s) (takes own r e v)
    led-kept at q h s k =
        let doc = document-clean c in
        let x = led-at r d depth n (λ o s. Clean way r d depth n o s) doc.0 (λ e g. definition-clean e.name d.definitions e doc.1 g) at q h in
        let e = entry_at r d depth n x.3 x.0 in
        (x.2, e, x.4, subst (λ (z : Schema). Keeps way (admits r d v z) (takes own r e v)) (some-same x.0 s (sym x.1 ∙ k)) (own-kept x.3 x.0 x.5))

-- ---- by each table that comes about

module _ (r : Relations) (d : Document) (depth n : ℕ) (w : WasRead d) (t u : Table) (about : ComesAbout r d depth n u) (e : Entry) (v : Value) where
  abbrev made : Table
  made = table_of r d depth n

  taken-with-names : takes made r e v ≡ takes (with_names u) r (next_named t e) v
  taken-with-names =
      let x = came-of r d depth n u about in
      let lone : Table = record { targets = made.targets; trees = [] } in
      let sound = named_tables_are_sound is_good_name lone (fit-with made.targets made.trees [] (read_tables_are_fit r d depth n w) tt) in
      let now : Table = record { targets = made.targets; trees = x.0 } in
      renamed made t r e v
      ∙ ap (λ j. j (next_named t e)) (same-taken (with_names lone).targets r sound (with_names made).trees (with_names now).trees v)
      ∙ ap (λ (z : Table). takes (with_names z) r (next_named t e) v) (sym x.1)

  taken-there : takes made r e v ≡ takes u r e v
  taken-there = taken-with-names ∙ sym (renamed u t r e v)

pub schemas_agree : SchemasAgree
schemas_agree way r lawful d depth n w c t u about at h s e a v small =
    let guarded = w.read.guarded in
    let fits = read_documents_may_merge d w in
    let in_order = documents_are_proper d w in
    let x = proper-at of_any_size d in_order at s e in
    let y = mergeable-at d fits at s e in
    let o = begins_at at h in
    let first = entry_at r d depth n o s in
    record {
      itself = keep-to way _ _ _ (itself-kept way r lawful d guarded fits in_order depth n c v small o s x y a.faultless a.noteless) (taken-with-names r d depth n w t u about first v);
      inside = inside-kept way r lawful d guarded fits in_order depth n c v small o s x y a.faultless a.noteless (λ e. takes u r e v) (λ e. taken-there r d depth n w t u about e v);
    }

-- ---- items

module _ (r : Relations) (d : Document) (depth n : ℕ) (w : WasRead d) (u : Table) (about : ComesAbout r d depth n u) (q : Target) (name : List ℕ) (e : Entry) (v : Value) where
  abbrev base : Table
  base = table_of r d depth n

  -- made an item it takes what it took
  taken-as-item : takes base r e v ≡ takes base r (item name (as_item name e).shape) v
  taken-as-item =
      let ps = parts_of base r v in
      takes-level base r v e ∙ item-takes r v ps (follows base r v ps (allowed base)) name e ∙ sym (takes-level base r v (item name (as_item name e).shape))

  pub taken-as-led : found q base.targets ≡ Some (as_item name e) → (x : ItemEntry) → target_item (with_names u) q ≡ Some x → takes base r e v ≡ takes (with_names u) r (item x.name x.shape) v
  taken-as-led h x k =
      let y = came-of r d depth n u about in
      let lone : Table = record { targets = base.targets; trees = [] } in
      let now : Table = record { targets = base.targets; trees = y.0 } in
      let sound = named_tables_are_sound is_good_name lone (fit-with base.targets base.trees [] (read_tables_are_fit r d depth n w) tt) in
      let there : target_item (with_names base) q ≡ Some x = ap (λ (z : Table). target_item (with_names z) q) (sym y.1) ∙ k in
      let same : bare_item (as_item name e) ≡ bare_item x =
      some-same (bare_item (as_item name e)) (bare_item x)
      (
      sym (ap (option_map bare_item) h) ∙ sym (found-bare q base.targets) ∙ ap (λ (z : Table). found q z.targets) (sym (bare-table is_good_name base))
      ∙ found-bare q (with_names base).targets ∙ ap (option_map bare_item) there
      )
      in
      taken-as-item
      ∙ unseen base r (item name (as_item name e).shape) v
      ∙ (λ i. takes (sym (bare-table is_good_name base) i) r (item [] (same i).shape) v)
      ∙ sym (unseen (with_names base) r (item x.name x.shape) v)
      ∙ ap (λ j. j (item x.name x.shape)) (same-taken (with_names lone).targets r sound (with_names base).trees (with_names now).trees v)
      ∙ ap (λ (z : Table). takes (with_names z) r (item x.name x.shape) v) (sym y.1)

pub items_agree : ItemsAgree
items_agree way r lawful d depth n w c t about at q s e k x g v small =
    let guarded = w.read.guarded in
    let fits = read_documents_may_merge d w in
    let in_order = documents_are_proper d w in
    let z = led-kept way r lawful d guarded fits in_order depth n c v small at q e s k in
    keep-to way _ _ _ z.3 (taken-as-led r d depth n w t about q z.0 z.1 v z.2 x g)
