-- What comes of a plain document to a space is quiet.
use Rattle.std.specs.Prelude.{Result, Ok, Err, OnOk, IfOk}
use Rattle.std.proofs.Common.{◌≡◌, inl, inr, ◌⊎◌, ℕ, List, [], ◌∷◌, ◌++◌, true, false, Option, Some, None, option_map, refl, sym, ap, subst, ◌∙◌, append-nil, arith}
use Rattle.std.proofs.lemmas.Option.{none-some, same_Some}
use Rattle.schema_defs.specs.Location.{Step, Location}
use Rattle.schema_defs.specs.Texts.{Relations}
use Rattle.schema_defs.specs.Schema.{Schema, Document}
use Rattle.schema_defs.specs.Admits.{definition_word}
use Rattle.schema_defs.specs.Children.{schema_at}
use Rattle.schema_tree.specs.Fault.{FaultD, memory}
use Rattle.entry_defs.specs.Entry.{Target, definition}
use Rattle.convert_defs.specs.Convert.{Handed}
use Rattle.convert_defs.proofs.Bare.{and_left}
use Rattle.convert_walks.specs.Tree.{Node}
use Rattle.convert_walks.specs.Told.{notes_in}
use Rattle.convert_trees.specs.Told.{no_memory, failed, Refuses, by_none, by_fault}
use Rattle.convert_document.specs.Unread.{first_kept, unread_in}
use Rattle.history_laws.specs.Added.{target_at, target_nodes, targets_table}
use Rattle.plain_defs.specs.Plain.{IsPlain}
use Rattle.plain_defs.specs.Rows.{rows_within}
use Rattle.plain_laws.proofs.Documents.{rows-of}
use Rattle.plain_told.specs.Laws.{AreQuiet}
use Rattle.plain_told.proofs.Caused.{told-as-memory}
use Rattle.plain_told.proofs.Spaces.{plain_targets_are_quiet, plain_schemas_are_quiet}
use Rattle.typify_convert.specs.Kept.{listed_view}
use Rattle.typify_convert.specs.Space.{History, Holds, Keeps}
use Rattle.typify_convert.specs.Added.{Adds, with_targets, items_asked, added, added_by, added_nodes, met_nodes, nodes_by}
use Rattle.typify_convert.specs.Refused.{IsRefusal, IsFirstUnread}
use Rattle.typify_convert.specs.Plain.{IsPlainAt, IsTextsFailure, IsRefusedPlainly, AddsNoNote, IsQuiet, ComesPlainly, by_targets, by_schema, PlainHistoriesAreQuiet, PlainItemsMayBeAdded}
use Rattle.typify_convert.specs.declared.keeping.Held.{Held}
use Rattle.typify_convert.specs.declared.space.TypeSpace.{TypeSpace}
use Rattle.typify_convert.proofs.Standing.{items-are-there}

-- ---- what is said of an answer, from what was said

pub on_ok_mapped : {A E P Q : Type 0} → (x : Result A E) → (P → Q) → OnOk x P → OnOk x Q
on_ok_mapped (Ok a) f h = f h
on_ok_mapped (Err e) f h = h

pub if_ok_on : {A E Q : Type 0} → (x : Result A E) (P : A → Type 0) → ((a : A) → P a → Q) → IfOk x P → OnOk x Q
if_ok_on (Ok a) P f h = f a h
if_ok_on (Err e) P f h = h

other_cause : (before : Option FaultD) (Cause Other : FaultD → Type 0) (f : FaultD) → (Cause f → (f ≡ memory) ⊎ Other f) → IsRefusal before Cause f → IsRefusal before Other f
other_cause before Cause Other f g (inl m) = inl m
other_cause before Cause Other f g (inr (inl e)) = inr (inl e)
other_cause before Cause Other f g (inr (inr (e, c))) = by (g c)
  where
    by : (f ≡ memory) ⊎ Other f → IsRefusal before Other f
    by (inl m) = inl m
    by (inr o) = inr (inr (e, o))

module _ (r : Relations) (d : Document) (depth n : ℕ) where
  quiet_refused : (ts : List Node) → AreQuiet r d depth n ts → (before after : ℕ) (f : FaultD) → Refuses r d depth n before after ts f → (f ≡ memory) ⊎ IsTextsFailure before after ts f
  quiet_refused ts q before after f (by_none (no_memory e)) = inl e
  quiet_refused ts q before after f (by_none (failed m c e w)) = inr (m, c, e, w)
  quiet_refused ts q before after f (by_fault t) = inl (q.uncaused f t)

  none_quiet : AreQuiet r d depth n []
  none_quiet = record { notes = refl; uncaused = told-as-memory r d depth n [] tt; read = λ k. refl }

  -- ---- the items that references lead to

  pub targets_plainly : (refused : Option FaultD) (before after : ℕ) (f : FaultD) → IsRefusal refused (Refuses r d depth n before after (target_nodes r d depth n)) f → IsPlain d depth
      → IsRefusedPlainly refused before after (target_nodes r d depth n) f
  targets_plainly refused before after f h p =
      other_cause refused (Refuses r d depth n before after (target_nodes r d depth n)) (IsTextsFailure before after (target_nodes r d depth n)) f
      (quiet_refused (target_nodes r d depth n) (plain_targets_are_quiet r d depth depth n p (omega (arith))) before after f) h

  -- what is kept of a history in which no node told more
  no_more : (ts : List Node) → AreQuiet r d depth n ts → (h : History) → (h.notes ++ notes_in r d depth n ts ≡ h.notes) × (h.unread ++ unread_in r (Some (targets_table r d depth n)) d ts ≡ h.unread)
  no_more ts q h = (ap (λ ns. h.notes ++ ns) q.notes ∙ append-nil h.notes, ap (λ us. h.unread ++ us) (q.read (Some (targets_table r d depth n))) ∙ append-nil h.unread)

  pub targets_unnoted : (old new : TypeSpace) → ((h : History) → Holds old h → Holds new (with_targets r d depth n h)) → IsPlain d depth → (h : History) → Holds old h → AddsNoNote h new
  targets_unnoted old new made p h holds =
      let same = no_more (target_nodes r d depth n) (plain_targets_are_quiet r d depth depth n p (omega (arith))) h in
      record { after = with_targets r d depth n h; holds = made h holds; notes = same.0; unread = same.1 }

  -- ---- one more schema

  module _ (at : Location) (name : Handed) where
    nodes-quiet : (q : Option Target) (o : Option Schema) → target_at d at ≡ q → schema_at d at ≡ o → IsPlainAt d depth at → AreQuiet r d depth n (nodes_by r d depth n at name q o)
    nodes-quiet (Some q) o e g p = none_quiet
    nodes-quiet None (Some s) e g p = plain_schemas_are_quiet r d depth depth n at name s (p.row s e g) (omega (arith))
    nodes-quiet None None e g p = none_quiet

    added-quiet : IsPlainAt d depth at → AreQuiet r d depth n (added_nodes r d depth n at name)
    added-quiet p = nodes-quiet (target_at d at) (schema_at d at) refl refl p

    -- nothing is asked of the items
    met-alone : (ts : List Node) → AreQuiet r d depth n ts → ts ++ items_asked r d depth n (unread_in r None d ts) ≡ ts
    met-alone ts q = ap (λ us. ts ++ items_asked r d depth n us) (q.read None) ∙ append-nil ts

    pub schema_plainly : (refused : Option FaultD) (before after : ℕ) (f : FaultD) → IsRefusal refused (Refuses r d depth n before after (met_nodes r d depth n at name)) f → IsPlainAt d depth at
        → IsRefusedPlainly refused before after (added_nodes r d depth n at name) f
    schema_plainly refused before after f h p =
        let q = added-quiet p in
        other_cause refused (Refuses r d depth n before after (met_nodes r d depth n at name)) (IsTextsFailure before after (added_nodes r d depth n at name)) f
        (λ k. quiet_refused (added_nodes r d depth n at name) q before after f (subst (λ (ts : List Node). Refuses r d depth n before after ts f) (met-alone (added_nodes r d depth n at name) q) k)) h

    same-history : (q : Option Target) (o : Option Schema) → AreQuiet r d depth n (nodes_by r d depth n at name q o) → (h : History)
        → ((added_by r d depth n at name q o h).0.notes ≡ h.notes) × ((added_by r d depth n at name q o h).0.unread ≡ h.unread)
    same-history (Some q) o quiet h = (refl, refl)
    same-history None (Some s) quiet h = no_more (nodes_by r d depth n at name None (Some s)) quiet h
    same-history None None quiet h = (refl, refl)

    added-same : IsPlainAt d depth at → (h : History) → ((added r d depth n at name h).0.notes ≡ h.notes) × ((added r d depth n at name h).0.unread ≡ h.unread)
    added-same p h = same-history (target_at d at) (schema_at d at) (added-quiet p) h

    pub schema_unnoted : (old new : TypeSpace) (i : ℕ) → ((h : History) → Holds old h → Adds new i (added r d depth n at name h)) → IsPlainAt d depth at → (h : History) → Holds old h → AddsNoNote h new
    schema_unnoted old new i made p h holds =
        let same = added-same p h in
        record { after = (added r d depth n at name h).0; holds = (made h holds).keeps; notes = same.0; unread = same.1 }

-- ---- histories

history-quiet : (r : Relations) (d : Document) (depth n : ℕ) → IsPlain d depth → (h : History) → ComesPlainly r d depth n h → IsQuiet h
history-quiet r d depth n p _ by_targets =
    let same = no_more r d depth n (target_nodes r d depth n) (plain_targets_are_quiet r d depth depth n p (omega (arith))) (record { table = record { targets = []; trees = [] }; notes = []; unread = [] }) in
    record { notes = same.0; unread = same.1 }
history-quiet r d depth n p _ (by_schema h at name before here) =
    let quiet = history-quiet r d depth n p h before in
    let same = added-same r d depth n at name here h in
    record { notes = same.0 ∙ quiet.notes; unread = same.1 ∙ quiet.unread }

pub plain_histories_are_quiet : PlainHistoriesAreQuiet
plain_histories_are_quiet = history-quiet

-- ---- what is given up

-- nothing that isn't read is kept
pub finished_quietly : (before : Option FaultD) (k : Held) (f : FaultD) → (f ≡ memory) ⊎ IsFirstUnread (option_map listed_view k.unread) f → (h : History) → Keeps k h → IsQuiet h → (f ≡ memory) ⊎ (before ≡ Some f)
finished_quietly before k f (inl m) h keeps quiet = inl m
finished_quietly before k f (inr (at, e, told)) h keeps quiet = absurd (none-some at (ap (first_kept None) (sym quiet.unread) ∙ sym keeps.unread ∙ e))

-- ---- items

root-may : (d : Document) (depth : ℕ) → IsPlain d depth → IsPlainAt d depth []
root-may d depth p = record { plain = p; row = λ s e g. inl (subst (λ (s : Schema). (rows_within d depth).row s ≡ true) (same_Some d.root s g) (and_left _ _ (rows-of d depth p))) }

definition-may : (d : Document) (depth : ℕ) (word name : Step) → IsPlain d depth → (word ≡ definition_word false) ⊎ (word ≡ definition_word true) → IsPlainAt d depth (word ∷ name ∷ [])
definition-may d depth word name p w = record { plain = p; row = λ s e g. absurd (none-some _ (sym e ∙ items-are-there d word name s w g)) }

pub plain_items_may_be_added : PlainItemsMayBeAdded
plain_items_may_be_added d depth p = record { root = root-may d depth p; definition = λ word name w. definition-may d depth word name p w }
