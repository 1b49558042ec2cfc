-- What comes of a plain document to a space of types is quiet.
use Rattle.std.proofs.Common.{◌≡◌, inl, inr, ◌⊎◌, ℕ, ◌≤◌, List, [], ◌∷◌, ◌++◌, Bool, true, false, refl, arith}
use Rattle.schema_defs.specs.Location.{Location}
use Rattle.schema_defs.specs.Texts.{Relations}
use Rattle.schema_defs.specs.Schema.{Schema, Document}
use Rattle.convert_defs.specs.Convert.{Handed}
use Rattle.convert_defs.specs.RootReference.{refers_to_root}
use Rattle.convert_walks.specs.Tree.{Node, definition_trees, root_spot, tree_at}
use Rattle.history_laws.specs.Added.{used_root_tree, schema_spot}
use Rattle.plain_defs.specs.Rows.{rows_within}
use Rattle.plain_told.specs.Laws.{AreQuiet, MayStand, PlainTargetsAreQuiet, PlainSchemasAreQuiet}
use Rattle.plain_told.proofs.Read.{all-read}
use Rattle.plain_told.proofs.Caused.{told-as-memory}
use Rattle.plain_laws.proofs.Tree.{Each, each-both, IsForm, a_row, a_nullable, Quiet, stands}
use Rattle.plain_laws.proofs.Levels.{level}
use Rattle.plain_laws.proofs.Documents.{document-quiet, quiet-notes, rows-of}

first-part : (P : Node → Type 0) (xs ys : List Node) → Each P (xs ++ ys) → Each P xs
first-part P [] ys h = tt
first-part P (x ∷ xs) ys h = (h.0, first-part P xs ys h.1)

second-part : (P : Node → Type 0) (xs ys : List Node) → Each P (xs ++ ys) → Each P ys
second-part P [] ys h = h
second-part P (x ∷ xs) ys h = second-part P xs ys h.1

module _ (r : Relations) (d : Document) (most n : ℕ) where
  are-quiet : (ts : List Node) → Each (Quiet r d most) ts → AreQuiet r d most n ts
  are-quiet ts q = record { notes = quiet-notes r d most n ts q; uncaused = told-as-memory r d most n ts q; read = λ k. all-read r d most k ts q }

  root-if : (b : Bool) → Each (Quiet r d most) (tree_at r d most n (root_spot r d most n) d.root) → Each (Quiet r d most) (used_root_tree r d most n b)
  root-if true q = q
  root-if false q = tt

pub plain_targets_are_quiet : PlainTargetsAreQuiet
plain_targets_are_quiet r d depth most n h le =
    let q = document-quiet r d most n depth le (rows-of d depth h) in
    let definitions = definition_trees r d most n d.definitions in
    let root = tree_at r d most n (root_spot r d most n) d.root in
    are-quiet r d most n (definitions ++ used_root_tree r d most n (refers_to_root d))
    (each-both (Quiet r d most) definitions (used_root_tree r d most n (refers_to_root d)) (first-part (Quiet r d most) definitions root q) (root-if r d most n (refers_to_root d) (second-part (Quiet r d most) definitions root q)))

form_of : (d : Document) (depth : ℕ) (s : Schema) → MayStand d depth s → IsForm d depth s
form_of d depth s (inl h) = a_row h
form_of d depth s (inr h) = a_nullable h

pub plain_schemas_are_quiet : PlainSchemasAreQuiet
plain_schemas_are_quiet r d depth most n at name s h le =
    let o = schema_spot r d most n at name in
    are-quiet r d most n (tree_at r d most n o s) (stands r d most (level r d most) n depth o s (form_of d depth s h) (record { few = omega (arith, le); unmade = refl }))
