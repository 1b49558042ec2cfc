-- In a document whose tree has no fault each schema of it agrees with its entry, where no note of the way is told; so does the root with its tree.
use Rattle.std.proofs.Common.{◌≡◌, ℕ, List, [], ◌∷◌, length, Bool, true, false, ◌&&◌, Some, refl, sym, ap, ◌∙◌, codes, arith}
use Rattle.std.specs.List.{AllByRecursion}
use Rattle.json_value.specs.Value.{Value, IsSmall}
use Rattle.schema_defs.specs.Texts.{Relations, IsLawful}
use Rattle.schema_defs.specs.Schema.{Schema, object, no_same, no_lists, no_named, Definition, Document}
use Rattle.schema_defs.specs.Layer.{Parts}
use Rattle.schema_defs.specs.Admits.{allowed, admits, admits-level, judge_within, parts_of}
use Rattle.schema_defs.specs.Walks.{IsGuarded}
use Rattle.schema_defs.proofs.Guarded.{all_end}
use Rattle.schema_defs.proofs.Spare.{spare as spare-judged}
use Rattle.entry_defs.specs.Entry.{the_root, reference}
use Rattle.entry_defs.specs.Takes.{takes}
use Rattle.convert_defs.specs.Row.{Way}
use Rattle.convert_defs.specs.Standing.{no_keyword}
use Rattle.convert_defs.specs.RootReference.{refers_to_root}
use Rattle.convert_defs.specs.Laws.{Keeps}
use Rattle.convert_defs.specs.Proper.{IsProper, IsProperDocument}
use Rattle.each_schema.specs.Each.{of_any_size}
use Rattle.convert_defs.proofs.Bare.{and_true}
use Rattle.convert_defs.proofs.Keeps.{keep-from}
use Rattle.convert_defs.proofs.Rows.{kind-quiet, parts-quiet}
use Rattle.merge_laws.specs.Laws.{ProperDocument, ProperDefinitions}
use Rattle.convert_walks.specs.Tree.{Node, tree_at, definition_spot, root_spot, root_use, table_of, definition_trees, document_tree}
use Rattle.convert_walks.specs.Told.{notes_of, notes_in, faults_of}
use Rattle.merging_laws.specs.Conversion.{Free, AllNodes, Kept, ConversionAgreesWithMerges, RootAgreesWithMerges}
use Rattle.conversion_laws.proofs.Clean.{Clean}
use Rattle.conversion_laws.proofs.Notes.{free-ordered}
use Rattle.conversion_laws.proofs.FineTrees.{nodes-left, nodes-right, nodes-both, IsFine, fine-nodes, HasEntry, stands}
use Rattle.conversion_laws.proofs.Agreeing.{AllDefinitions, CleanDocument, value-match}

-- a schema that refers to the root, and says no more
abbrev to_root : Schema
to_root = object (record no_keyword { reference = Some (codes "#") }) no_same no_lists no_named

module _ (way : Way) (r : Relations) (lawful : IsLawful r) (d : Document) (guarded : IsGuarded d) (fits : ProperDocument d) (in_order : IsProperDocument d) (most n : ℕ) where
  abbrev IsFine_ : Node → Type 0
  IsFine_ = IsFine way r lawful d guarded fits in_order most n

  abbrev Has : Node → Type 0
  Has = HasEntry way r lawful d guarded fits in_order most n

  -- ---- the document

  pub definitions-stand : (ds : List Definition) → AllByRecursion (λ e. IsProper of_any_size d e.body) ds → ProperDefinitions ds → AllNodes IsFine_ (definition_trees r d most n ds)
      → AllDefinitions way r lawful d guarded fits in_order most n (λ e. Clean way r d most n (definition_spot r d most n e) e.body) ds × AllNodes Has (definition_trees r d most n ds)
  definitions-stand [] x y h = (tt, tt)
  definitions-stand (e ∷ ds) x y h =
      let here : List Node = tree_at r d most n (definition_spot r d most n e) e.body in
      let rest : List Node = definition_trees r d most n ds in
      let a = stands way r lawful d guarded fits in_order most n n (definition_spot r d most n e) e.body x.0 y.0 (nodes-left IsFine_ here rest h) in
      let b = definitions-stand ds x.1 y.1 (nodes-right IsFine_ here rest h) in
      ((a.0, b.0), nodes-both Has here rest a.1 b.1)

  abbrev Document_ : Type 0
  Document_ = CleanDocument way r lawful d guarded fits in_order most n

  abbrev Root_ : Type 0
  Root_ = Clean way r d most n (root_spot r d most n) d.root

  document-stands : AllNodes IsFine_ (document_tree r d most n) → Root_ × Document_ × AllNodes Has (document_tree r d most n)
  document-stands h =
      let first : List Node = definition_trees r d most n d.definitions in
      let last : List Node = tree_at r d most n (root_spot r d most n) d.root in
      let a = definitions-stand d.definitions in_order.definitions fits.1 (nodes-left IsFine_ first last h) in
      let b = stands way r lawful d guarded fits in_order most n n (root_spot r d most n) d.root in_order.root fits.0 (nodes-right IsFine_ first last h) in
      (b.0, ((λ e. b.0), a.0), nodes-both Has first last a.1 b.1)

  all-keep : Document_ → (v : Value) → IsSmall v → (ts : List Node) → AllNodes Has ts → AllNodes (Kept way r d most n v) ts
  all-keep c v s [] h = tt
  all-keep c v s (t ∷ ts) h = ((value-match way r lawful d guarded fits in_order most n c v s).agree t.schema t.entry h.0, all-keep c v s ts h.1)

  clean : faults_of r d most n ≡ [] → Free way (notes_of r d most n) → Root_ × Document_ × AllNodes Has (document_tree r d most n)
  clean f g = document-stands (fine-nodes way r lawful d guarded fits in_order most n (document_tree r d most n) f (free-ordered way (notes_in r d most n (document_tree r d most n)) g))

  -- ---- the root

  module _ (root : Root_) (c : Document_) (v : Value) (small : IsSmall v) where
    -- what refers to the root admits what the root admits
    through-root : admits r d v d.root ≡ admits r d v to_root
    through-root =
        let e = (all_end d guarded to_root).0 in
        ap (λ j. j d.root) (admits-level r d v)
        ∙ sym (spare-judged d r v (parts_of r d v) (length d.definitions) (allowed d) (omega arith) d.root e)
        ∙ sym (and_true (judge_within r d v (parts_of r d v) (length d.definitions) d.root && true) ∙ and_true (judge_within r d v (parts_of r d v) (length d.definitions) d.root))
        ∙ after (parts_of r d v)
        ∙ sym (ap (λ j. j to_root) (admits-level r d v))
      where
        after : (ps : Parts) → (judge_within r d v ps (length d.definitions) d.root && true && true) ≡ judge_within r d v ps (allowed d) to_root
        after ps =
            let x = kind-quiet r (record no_keyword { reference = Some (codes "#") }) refl refl refl v in
            let y = parts-quiet r ps no_lists no_named refl refl v in
            λ i. sym x i && judge_within r d v ps (length d.definitions) d.root && sym y i && true

    root-used : (b : Bool) → refers_to_root d ≡ b → Keeps way (admits r d v d.root) (takes (table_of r d most n) r (root_use r d most n b) v)
    root-used false e = (value-match way r lawful d guarded fits in_order most n c v small).agree d.root _ (n, root_spot r d most n, root, refl)
    root-used true e = keep-from way _ _ _ through-root
        ((value-match way r lawful d guarded fits in_order most n c v small).agree to_root (reference the_root)
        (1, root_spot r d most n, (record { in_order = (record { apart = refl; led = refl; known = λ h. e }, tt, tt, tt); mergeable = ((tt, tt), tt, tt, tt); free = tt }, (tt, tt)), refl))

pub conversion_agrees_with_merges : ConversionAgreesWithMerges
conversion_agrees_with_merges way r lawful d most n guarded fits in_order f g v s =
    let c = clean way r lawful d guarded fits in_order most n f g in
    all-keep way r lawful d guarded fits in_order most n c.1 v s (document_tree r d most n) c.2

pub root_agrees_with_merges : RootAgreesWithMerges
root_agrees_with_merges way r lawful d most n guarded fits in_order f g v s =
    let c = clean way r lawful d guarded fits in_order most n f g in
    root-used way r lawful d guarded fits in_order most n c.0 c.1 v s (refers_to_root d) refl
