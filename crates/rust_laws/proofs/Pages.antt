-- The items of a page, and the docs above them.
use Rattle.std.proofs.Common.{◌≡◌, ℕ, Bool, true, false, true≢false, cond, List, [], ◌∷◌, ◌++◌, map, Some, option_map, bytes_eq, refl, ap, sym, subst, append_assoc, ◌∙◌}
use Rattle.std.specs.List.{AllByRecursion, IsDistinct}
use Rattle.std.proofs.lemmas.Map.Keys.{IsDistinct-head, IsDistinct-tail}
use Rattle.std.proofs.lemmas.Slice.Eq.{bytes_eq-Decides}
use Rattle.whole_numbers.specs.Whole.{whole}
use Rattle.serde_json.specs.Data.{Data}
use Rattle.json_value.specs.View.{value_of}
use Rattle.syntax_trees.specs.View.{ty}
use Rattle.syntax_trees.specs.Item.{ItemD}
use Rattle.schema_defs.specs.declared.Setting.{Setting}
use Rattle.schema_defs.specs.declared.Setting.TheVariants.{Strict}
use Rattle.schema_defs.specs.Schema.{Document}
use Rattle.schema_defs.specs.Read.{document_of, under}
use Rattle.schema_defs.proofs.Stand.{some_same}
use Rattle.schema_defs.proofs.Unknown.{settings_are_kept}
use Rattle.naming_defs.specs.Names.{Names, item_name}
use Rattle.naming_defs.specs.Good.{is_good_name}
use Rattle.entry_defs.specs.Table as entries
use Rattle.emit_defs.specs.Emission.{Emission}
use Rattle.emit_defs.specs.Formed.{IsEmittable}
use Rattle.document_laws.specs.Laws.{WasRead}
use Rattle.merged_documents.specs.Laws.{plan_of}
use Rattle.merged_documents.proofs.Shaped.{read_plans_are_emittable}
use Rattle.convert_document.specs.Levels.{most_levels}
use Rattle.plain_reading.proofs.Differ.{text_names_differ}
use Rattle.typify_run.specs.Headline.{items_of, root_of}
use Rattle.typify_run.specs.declared.report.Report.{Report}
use Rattle.schema_words.specs.Input.{IsSchema}
use Rattle.schema_words.specs.Outcome.{IsReportOn}
use Rattle.schema_words.specs.Words.{Asking}
use Rattle.module_texts.specs.Docs.{Doc}
use Rattle.emitted_modules.specs.Laws.{KeepsTokens}
use Rattle.emitted_modules.proofs.Texts.{items_of_programs_keep_tokens}
use Rattle.item_docs.specs.Said.{said_where}
use Rattle.item_docs.specs.Forms.{first_named, item_in}
use Rattle.item_docs.specs.Docs.{names_in, body_in, definition_docs, of_definitions, root_docs, below_docs, told_docs, text_in, text_for, in_order, docs_in}
use Rattle.doc_laws.specs.Laws.{doc_names, item_names}
use Rattle.doc_laws.proofs.Names.{docs_have_items_names, item_names_differ}
use Rattle.rust_laws.specs.Laws.{PagesKeepItems, DocsStandAtTheirItems, DocsStand, docs_above}

-- ---- docs in the order of the items stand above these

abbrev doc_items : List Doc → Names
doc_items ds = map (λ x. x.item) ds

abbrev names : List ItemD → Names
names is = map (λ i. i.name.text) is

itself : (n : List ℕ) → bytes_eq n n ≡ true
itself n = (bytes_eq-Decides n n).1 refl

above_in_order : (ds : List Doc) (is : List ItemD) → docs_above is (in_order ds is) ≡ map (text_for ds) (names is)
above_in_order ds [] = refl
above_in_order ds (i ∷ is) =
    let n = i.name.text in (λ j. cond (itself n j) (text_for ds n) [] ∷ docs_above is (cond (itself n j) (in_order ds is) (in_order ds (i ∷ is)))) ∙ ap (λ z. text_for ds n ∷ z) (above_in_order ds is)

by_names : (ds : List Doc) (is : List ItemD) → map (text_for ds) (names is) ≡ map (λ i. text_for ds i.name.text) is
by_names ds [] = refl
by_names ds (i ∷ is) = ap (λ z. text_for ds i.name.text ∷ z) (by_names ds is)

-- ---- the items behind the first

abbrev is_nil : Names → Bool
is_nil [] = true
is_nil (n ∷ ns) = false

abbrev behind : Names → Names
behind [] = []
behind (n ∷ ns) = ns

left_items : (own left : Names) (is : List ItemD) → own ++ left ≡ names is → (others : List ItemD) × (left ≡ names others)
left_items [] left is e = (is, e)
left_items (n ∷ own) left [] e = absurd (true≢false (sym (ap is_nil e)))
left_items (n ∷ own) left (i ∷ is) e = left_items own left is (ap behind e)

-- ---- names that differ have their own texts

differ_turned : (m n : List ℕ) → bytes_eq m n ≡ false → bytes_eq n m ≡ false
differ_turned m n h = by (bytes_eq n m) refl
  where
    by : (b : Bool) → bytes_eq n m ≡ b → b ≡ false
    by true e = absurd (true≢false (sym ((bytes_eq-Decides m n).1 (sym ((bytes_eq-Decides n m).0 e))) ∙ h))
    by false e = refl

passed_over : (x : Doc) (ds : List Doc) (ns : Names) → AllByRecursion (λ n. bytes_eq x.item n ≡ false) ns → map (text_for (x ∷ ds)) ns ≡ map (text_for ds) ns
passed_over x ds [] a = refl
passed_over x ds (n ∷ ns) a = λ j. text_in (cond (differ_turned x.item n a.0 j) (Some x) (first_named (λ x. x.item) n ds)) ∷ passed_over x ds ns a.1 j

texts : (own more : List Doc) (left : Names) → IsDistinct bytes_eq (doc_items own ++ left) → map (text_for (own ++ more)) (doc_items own ++ left) ≡ map (λ x. x.text) own ++ map (text_for more) left
texts [] more left d = refl
texts (x ∷ own) more left d =
    let ns = doc_items own ++ left in
    let a = IsDistinct-head bytes_eq x.item ns d in
    (λ j. text_in (cond (itself x.item j) (Some x) (first_named (λ x. x.item) x.item (own ++ more))) ∷ passed_over x (own ++ more) ns a j)
    ∙ ap (λ z. x.text ∷ z) (texts own more left (IsDistinct-tail bytes_eq x.item ns d))

-- ---- the setting changes no docs

docs_under : (setting : Setting) (d : Document) (beside taken ks : Names) → definition_docs (under setting d) beside taken ks ≡ definition_docs d beside taken ks
docs_under setting d beside taken [] = refl
docs_under setting d beside taken (k ∷ ks) =
    let n = item_name is_good_name beside taken k in
    ap (λ (z : List Doc). record { item = n; text = said_where n (body_in d k) } ∷ z) (docs_under setting d beside (n ∷ taken) ks)

-- ---- reports

module _ (c : Asking) (all : List ℕ) (d : Data) (r : Report) (s : IsSchema all d) (on : IsReportOn c (value_of d) r) where
  abbrev converted : Document
  converted = on.emission.document

  keeps : AllByRecursion KeepsTokens (items_of r)
  keeps =
      let read : WasRead converted = record { setting = c.setting; value = value_of d; read = on.emission.is_read; differ = text_names_differ (whole all) d s.read } in
      let plan = plan_of c.texts converted c.depth most_levels in
      let emittable : IsEmittable plan = read_plans_are_emittable c.texts converted c.depth most_levels read in
      items_of_programs_keep_tokens plan emittable (entries.root_of plan) r.items.items (ap (λ (k : Emission). k.items) on.emission.emission)

  docs : (document : Document) → document_of Strict (value_of d) ≡ Some document → DocsStand d r document
  docs document e =
      let read : document_of c.setting (value_of d) ≡ Some converted = on.emission.is_read.read in
      let is : under c.setting document ≡ converted = some_same (under c.setting document) converted (sym (ap (option_map (under c.setting)) e) ∙ sym (settings_are_kept c.setting (value_of d)) ∙ read) in
      let own = of_definitions document in
      let items = items_of r in
      let told = docs_have_items_names c.texts converted c.depth most_levels in
      let same : doc_items own ≡ doc_names converted = ap doc_items (sym (docs_under c.setting document (names_in document) [] (names_in document))) ∙ ap doc_names is in
      let first : doc_items own ++ told.0 ≡ item_names c.texts converted c.depth most_levels = ap (λ z. z ++ told.0) same ∙ told.1 in
      let named : doc_items own ++ told.0 ≡ names items = first ∙ sym (ap (λ (k : Emission). names k.items) on.emission.emission) in
      let differ : IsDistinct bytes_eq (doc_items own ++ told.0) = subst (IsDistinct bytes_eq) (sym first) (item_names_differ c.texts converted c.depth most_levels) in
      let others = left_items (doc_items own) told.0 items named in
      let root = root_docs (item_in (root_of r)) document.root in
      let below = below_docs document items (ty r.root) in
      record {
        others = others.0;
        named = ap (λ z. doc_items own ++ z) (sym others.1) ∙ named;
        differ = subst (λ z. IsDistinct bytes_eq (doc_items own ++ z)) others.1 differ;
        stand =
            ap (λ o. docs_above items (docs_in o items (ty r.root))) e
            ∙ above_in_order (told_docs document items (ty r.root)) items
            ∙ ap (map (text_for (told_docs document items (ty r.root)))) (sym named)
            ∙ ap (λ ds. map (text_for ds) (doc_items own ++ told.0)) (append_assoc own root below)
            ∙ texts own (root ++ below) told.0 differ
            ∙ ap (λ z. map (λ x. x.text) own ++ z) (ap (map (text_for (root ++ below))) others.1 ∙ by_names (root ++ below) others.0);
      }

pub pages_keep_items : PagesKeepItems
pages_keep_items c all d r s on = keeps c all d r s on

pub docs_stand_at_their_items : DocsStandAtTheirItems
docs_stand_at_their_items c all d r s on = docs c all d r s on
