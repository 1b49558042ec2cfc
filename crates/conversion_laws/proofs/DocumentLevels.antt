-- More levels leave what is told of a document, where no fault is of too few levels; and all that it is converted to, where there is no fault.
use Rattle.std.proofs.Common.{◌≡◌, ℕ, ◌≤◌, List, [], ◌∷◌, ◌++◌, map, Bool, true, false, Some, None, refl, sym, ap, ◌∙◌, subst}
use Rattle.schema_defs.specs.Location.{Location}
use Rattle.schema_defs.specs.Texts.{Relations}
use Rattle.schema_defs.specs.Schema.{Schema, Definition, Document}
use Rattle.entry_defs.specs.Entry.{the_root, definition}
use Rattle.convert_defs.specs.RootReference.{refers_to_root}
use Rattle.convert_defs.specs.Convert.{as_item, root_name}
use Rattle.convert_defs.proofs.Bare.{none_in, no_left, no_right}
use Rattle.merge_defs.specs.Outcome.{fault, never, answer, depth, unsupported}
use Rattle.convert_walks.specs.Spot.{Spot}
use Rattle.convert_walks.specs.Tree.{State, too_few_levels, too_many_steps, converted, Node, tree_at, definition_spot, root_spot, root_entry, root_targets, root_use, definition_target, definition_trees, document_tree}
use Rattle.convert_walks.specs.Told.{Reason, state_notes, notes_in, ordered, state_faults, faults_in}
use Rattle.merging_laws.specs.Conversion.{AllNodes}
use Rattle.conversion_laws.specs.Levels.{HasLevels, IsConverted, unentered, NoneByLevels, ToldAlike, ToldStays, ConvertedAlike, DocumentsStay}
use Rattle.conversion_laws.proofs.FineTrees.{nodes-left, nodes-right}
use Rattle.conversion_laws.proofs.MoreLevels.{map-both, trees_stay, entries_stay}

module _ (r : Relations) (d : Document) (most : ℕ) where
  abbrev Enough : Node → Type 0
  Enough t = HasLevels t.state

  abbrev Fully : Node → Type 0
  Fully t = IsConverted t.state

  -- ---- from what is told to the tree

  module _ (m : ℕ) where
    none-left : (xs ys : List (Location × Reason)) → NoneByLevels (xs ++ ys) → NoneByLevels xs
    none-left [] ys h = tt
    none-left (x ∷ xs) ys h = (h.0, none-left xs ys h.1)

    none-right : (xs ys : List (Location × Reason)) → NoneByLevels (xs ++ ys) → NoneByLevels ys
    none-right [] ys h = h
    none-right (x ∷ xs) ys h = none-right xs ys h.1

    has-levels : (o : Spot) (s : Schema) (t : State) → NoneByLevels (state_faults r d most m o s t) → HasLevels t
    has-levels o s too_few_levels h = absurd h.0
    has-levels o s too_many_steps h = tt
    has-levels o s (converted None) h = tt
    has-levels o s (converted (Some (fault (depth [])))) h = absurd h.0
    has-levels o s (converted (Some (fault (depth (l ∷ w))))) h = tt
    has-levels o s (converted (Some (fault (unsupported u)))) h = tt
    has-levels o s (converted (Some (never ns))) h = tt
    has-levels o s (converted (Some (answer ns a))) h = tt

    all-have-levels : (ts : List Node) → NoneByLevels (faults_in r d most m ts) → AllNodes Enough ts
    all-have-levels [] h = tt
    all-have-levels (t ∷ ts) h =
        (has-levels t.spot t.schema t.state (none-left (state_faults r d most m t.spot t.schema t.state) _ h), all-have-levels ts (none-right (state_faults r d most m t.spot t.schema t.state) _ h))

    is-converted : (o : Spot) (s : Schema) (t : State) → state_faults r d most m o s t ≡ [] → IsConverted t
    is-converted o s too_few_levels h = none_in _ _ h
    is-converted o s too_many_steps h = none_in _ _ h
    is-converted o s (converted None) h = tt
    is-converted o s (converted (Some (fault (depth [])))) h = none_in _ _ h
    is-converted o s (converted (Some (fault (depth (l ∷ w))))) h = tt
    is-converted o s (converted (Some (fault (unsupported u)))) h = tt
    is-converted o s (converted (Some (never ns))) h = tt
    is-converted o s (converted (Some (answer ns a))) h = tt

    all-are-converted : (ts : List Node) → faults_in r d most m ts ≡ [] → AllNodes Fully ts
    all-are-converted [] h = tt
    all-are-converted (t ∷ ts) h =
        (is-converted t.spot t.schema t.state (no_left (state_faults r d most m t.spot t.schema t.state) _ h), all-are-converted ts (no_right (state_faults r d most m t.spot t.schema t.state) _ h))

  -- ---- what is told of a tree

  module _ (m n : ℕ) where
    state-notes : (o : Spot) (s : Schema) (t : State) → state_notes r d most n o s t ≡ state_notes r d most m o s t
    state-notes o s too_few_levels = refl
    state-notes o s too_many_steps = refl
    state-notes o s (converted None) = refl
    state-notes o s (converted (Some (fault f))) = refl
    state-notes o s (converted (Some (never ns))) = refl
    state-notes o s (converted (Some (answer ns a))) = refl

    notes-alike : (ts : List Node) → notes_in r d most n ts ≡ notes_in r d most m (map unentered ts)
    notes-alike [] = refl
    notes-alike (t ∷ ts) = λ i. state-notes t.spot t.schema t.state i ++ notes-alike ts i

    state-faults : (o : Spot) (s : Schema) (t : State) → state_faults r d most n o s t ≡ state_faults r d most m o s t
    state-faults o s too_few_levels = refl
    state-faults o s too_many_steps = refl
    state-faults o s (converted None) = refl
    state-faults o s (converted (Some (fault (depth [])))) = refl
    state-faults o s (converted (Some (fault (depth (l ∷ w))))) = refl
    state-faults o s (converted (Some (fault (unsupported u)))) = refl
    state-faults o s (converted (Some (never ns))) = refl
    state-faults o s (converted (Some (answer ns a))) = refl

    faults-alike : (ts : List Node) → faults_in r d most n ts ≡ faults_in r d most m (map unentered ts)
    faults-alike [] = refl
    faults-alike (t ∷ ts) = λ i. state-faults t.spot t.schema t.state i ++ faults-alike ts i

  -- ---- the document

  module _ (m n : ℕ) (le : m ≤ n) where
    definitions-stay : (ds : List Definition) → AllNodes Enough (definition_trees r d most m ds) → map unentered (definition_trees r d most n ds) ≡ map unentered (definition_trees r d most m ds)
    definitions-stay [] h = refl
    definitions-stay (e ∷ ds) h =
        let o : Spot = definition_spot r d most m e in
        map-both unentered (tree_at r d most n o e.body) (definition_trees r d most n ds)
        ∙ (λ i. trees_stay r d most m n le o e.body (nodes-left Enough (tree_at r d most m o e.body) _ h) i ++ definitions-stay ds (nodes-right Enough (tree_at r d most m o e.body) _ h) i)
        ∙ sym (map-both unentered (tree_at r d most m o e.body) (definition_trees r d most m ds))

    document-stays : AllNodes Enough (document_tree r d most m) → map unentered (document_tree r d most n) ≡ map unentered (document_tree r d most m)
    document-stays h =
        map-both unentered (definition_trees r d most n d.definitions) (tree_at r d most n (root_spot r d most n) d.root)
        ∙ (λ i. definitions-stay d.definitions (nodes-left Enough (definition_trees r d most m d.definitions) _ h) i ++ trees_stay r d most m n le (root_spot r d most m) d.root (nodes-right Enough (definition_trees r d most m d.definitions) _ h) i)
        ∙ sym (map-both unentered (definition_trees r d most m d.definitions) (tree_at r d most m (root_spot r d most m) d.root))

    told-alike : AllNodes Enough (document_tree r d most m) → ToldAlike r d most m n
    told-alike h =
        let e : map unentered (document_tree r d most n) ≡ map unentered (document_tree r d most m) = document-stays h in
        record {
          notes = ap ordered (notes-alike m n (document_tree r d most n) ∙ ap (notes_in r d most m) e ∙ sym (notes-alike m m (document_tree r d most m)));
          faults = faults-alike m n (document_tree r d most n) ∙ ap (faults_in r d most m) e ∙ sym (faults-alike m m (document_tree r d most m));
        }

    definitions-whole : (ds : List Definition) → AllNodes Fully (definition_trees r d most m ds) → (map (definition_target r d most n) ds ≡ map (definition_target r d most m) ds) × (definition_trees r d most n ds ≡ definition_trees r d most m ds)
    definitions-whole [] h = (refl, refl)
    definitions-whole (e ∷ ds) h =
        let o : Spot = definition_spot r d most m e in
        let a = entries_stay r d most m n le o e.body (nodes-left Fully (tree_at r d most m o e.body) _ h) in
        let b = definitions-whole ds (nodes-right Fully (tree_at r d most m o e.body) _ h) in
        ((λ i. record { target = definition e.name; led_to = as_item e.name (a.0 i) } ∷ b.0 i), λ i. a.1 i ++ b.1 i)

    module _ (root : root_entry r d most n ≡ root_entry r d most m) where
      root-targets : (b : Bool) → root_targets r d most n b ≡ root_targets r d most m b
      root-targets true = λ i. record { target = the_root; led_to = as_item (root_name d.root) (root i) } ∷ []
      root-targets false = refl

      root-uses : (b : Bool) → root_use r d most n b ≡ root_use r d most m b
      root-uses true = refl
      root-uses false = root

    converted-alike : AllNodes Fully (document_tree r d most m) → ToldAlike r d most m n → ConvertedAlike r d most m n
    converted-alike h told =
        let a = definitions-whole d.definitions (nodes-left Fully (definition_trees r d most m d.definitions) _ h) in
        let b = entries_stay r d most m n le (root_spot r d most m) d.root (nodes-right Fully (definition_trees r d most m d.definitions) _ h) in
        record {
          tree = λ i. a.1 i ++ b.1 i;
          table = λ i. record { targets = a.0 i ++ root-targets b.0 (refers_to_root d) i; trees = root-uses b.0 (refers_to_root d) i ∷ [] };
          told = told;
        }

pub told_stays : ToldStays
told_stays r d most m n le h = told-alike r d most m n le (all-have-levels r d most m (document_tree r d most m) h)

pub documents_stay : DocumentsStay
documents_stay r d most m n le h =
    converted-alike r d most m n le (all-are-converted r d most m (document_tree r d most m) h) (told_stays r d most m n le (subst NoneByLevels (sym h) tt))
