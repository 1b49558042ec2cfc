-- Plain documents have no note, and no fault but too few levels.
use Rattle.std.proofs.Common.{◌≡◌, ℕ, ◌≤◌, List, [], ◌∷◌, ◌++◌, map, true, Some, None, refl, sym, ap, subst, arith, nat_le}
use Rattle.std.specs.List.{list_all}
use Rattle.schema_defs.specs.Location.{Location}
use Rattle.schema_defs.specs.Texts.{Relations}
use Rattle.schema_defs.specs.Schema.{Schema, Definition, Document}
use Rattle.schema_defs.specs.Counts.{nodes}
use Rattle.schema_defs.specs.References.{is_guarded}
use Rattle.entry_defs.specs.Entry.{any_entry}
use Rattle.convert_defs.specs.Table.{finding_of}
use Rattle.convert_defs.proofs.Bare.{and_left, and_right}
use Rattle.convert_walks.specs.Spot.{Spot}
use Rattle.convert_walks.specs.Tree.{State, too_few_levels, too_many_steps, converted, Node, tree_at, definition_spot, root_spot, definition_trees, document_tree}
use Rattle.convert_walks.specs.Told.{Reason, by_row, placed_note, ordered, state_notes, notes_in, notes_of, state_faults, faults_in, faults_of}
use Rattle.plain_defs.specs.Rows.{rows_within, definition_row}
use Rattle.plain_defs.specs.Plain.{has_rows, IsPlain}
use Rattle.plain_laws.specs.Laws.{AllByLevels, PlainIsUnnoted, PlainIsFaultless}
use Rattle.plain_laws.proofs.Tree.{Each, each-both, a_row, a_definition, Quiet, stands}
use Rattle.plain_laws.proofs.Levels.{level}

module _ (r : Relations) (d : Document) (most n : ℕ) where
  -- ---- what is told of quiet nodes

  levels-both : (xs ys : List (Location × Reason)) → AllByLevels xs → AllByLevels ys → AllByLevels (xs ++ ys)
  levels-both [] ys h g = g
  levels-both (x ∷ xs) ys h g = (h.0, levels-both xs ys h.1 g)

  no-notes : (o : Spot) (s : Schema) (t : State) → Quiet r d most (record { spot = o; schema = s; entry = any_entry; state = t }) → state_notes r d most n o s t ≡ []
  no-notes o s too_few_levels q = refl
  no-notes o s too_many_steps q = refl
  no-notes o s (converted None) q = ap (λ ns. map (placed_note o (finding_of r d s).branches) ns ++ []) q.1.finding.notes
  no-notes o s (converted (Some m)) q = absurd q.0

  pub no-faults : (o : Spot) (s : Schema) (t : State) → Quiet r d most (record { spot = o; schema = s; entry = any_entry; state = t }) → AllByLevels (state_faults r d most n o s t)
  no-faults o s too_few_levels q = (refl, tt)
  no-faults o s too_many_steps q = absurd q.0
  no-faults o s (converted None) q = subst (λ cs. AllByLevels (map (λ c. (o.path, by_row c)) cs)) (sym q.1.finding.faults) tt
  no-faults o s (converted (Some m)) q = absurd q.0

  pub quiet-notes : (ts : List Node) → Each (Quiet r d most) ts → notes_in r d most n ts ≡ []
  quiet-notes [] q = refl
  quiet-notes (t ∷ ts) q = λ i. no-notes t.spot t.schema t.state q.0 i ++ quiet-notes ts q.1 i

  quiet-faults : (ts : List Node) → Each (Quiet r d most) ts → AllByLevels (faults_in r d most n ts)
  quiet-faults [] q = tt
  quiet-faults (t ∷ ts) q = levels-both (state_faults r d most n t.spot t.schema t.state) (faults_in r d most n ts) (no-faults t.spot t.schema t.state q.0) (quiet-faults ts q.1)

  -- ---- the document

  module _ (depth : ℕ) (le : depth ≤ most) (h : has_rows d depth ≡ true) where
    definitions-quiet : (es : List Definition) → list_all (λ e. definition_row d depth e.body) es ≡ true → Each (Quiet r d most) (definition_trees r d most n es)
    definitions-quiet [] g = tt
    definitions-quiet (e ∷ es) g =
        each-both (Quiet r d most) (tree_at r d most n (definition_spot r d most n e) e.body) (definition_trees r d most n es)
        (stands r d most (level r d most) n depth (definition_spot r d most n e) e.body (a_definition (and_left (definition_row d depth e.body) _ g)) (record { few = omega (arith, le); unmade = refl }))
        (definitions-quiet es (and_right (definition_row d depth e.body) _ g))

    pub document-quiet : Each (Quiet r d most) (document_tree r d most n)
    document-quiet =
        each-both (Quiet r d most) (definition_trees r d most n d.definitions) (tree_at r d most n (root_spot r d most n) d.root)
        (definitions-quiet d.definitions (and_right ((rows_within d depth).row d.root) _ h))
        (stands r d most (level r d most) n depth (root_spot r d most n) d.root (a_row (and_left ((rows_within d depth).row d.root) _ h)) (record { few = omega (arith, le); unmade = refl }))

    pub unnoted : notes_of r d most n ≡ []
    unnoted = ap ordered (quiet-notes (document_tree r d most n) document-quiet)

    pub faultless : AllByLevels (faults_of r d most n)
    faultless = quiet-faults (document_tree r d most n) document-quiet

pub rows-of : (d : Document) (depth : ℕ) → IsPlain d depth → has_rows d depth ≡ true
rows-of d depth h = and_right (nat_le (nodes d) depth) _ (and_right (is_guarded d) _ h)

pub plain_is_unnoted : PlainIsUnnoted
plain_is_unnoted r d depth most n h le = unnoted r d most n depth le (rows-of d depth h)

pub plain_is_faultless : PlainIsFaultless
plain_is_faultless r d depth most n h le = faultless r d most n depth le (rows-of d depth h)
