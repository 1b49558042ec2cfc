-- What is refused has its cause, and where a report is given no fault has one.
use Rattle.std.proofs.Common.{◌≡◌, ◌⊎◌, inl, inr, ℕ, zero, suc, ◌≤◌, List, [], ◌∷◌, Bool, true, ◌&&◌, Some, option_map, sym, ap, subst, ◌∙◌, arith}
use Rattle.std.proofs.lemmas.Option.{none-some, same_Some}
use Rattle.std.specs.Prelude.{Result, Ok, Err, IfErr, IsErrAnd}
use Rattle.schema_defs.specs.Faults.{Rises}
use Rattle.serde_json.specs.Data.{Data}
use Rattle.json_value.specs.Value.{Value}
use Rattle.json_value.specs.View.{value_of}
use Rattle.schema_defs.specs.declared.Setting.{Setting}
use Rattle.schema_defs.specs.Location.{Location}
use Rattle.schema_defs.specs.Texts.{Relations}
use Rattle.schema_defs.specs.Schema.{Document}
use Rattle.schema_defs.specs.Read.{document_of}
use Rattle.schema_defs.specs.Walks.{IsGuarded}
use Rattle.schema_defs.proofs.Decided.{loops_are_unguarded}
use Rattle.schema_faults.specs.Faults.{Place, first, malformed_places, bad_references, float_places}
use Rattle.schema_tree.specs.Document.{HasFault, IsAccepted, IsReadAs, IsRefusal as IsUnread}
use Rattle.schema_tree.specs.declared.fault.Fault.{Fault}
use Rattle.schema_tree.specs.Fault.{FaultD, fault_view, memory, malformed, missing_ref, external_ref, unguarded, depth, places, float, value_number, invalid_value, bad_value, invalid_schema, unsupported, texts}
use Rattle.schema_tree.specs.Numbers.{are_i64, holds_i64_alone, wide_place, IsWideAt, HasWideNumber}
use Rattle.schema_tree.proofs.WidePlaces.{wide_exact}
use Rattle.convert_walks.specs.Told.{faults_of}
use Rattle.convert_document.specs.Levels.{most_levels}
use Rattle.convert_document.proofs.Firsts.{first_is_one}
use Rattle.convert_document.specs.Unread.{unread_in_document}
use Rattle.convert_document.proofs.Roots.{root_place}
use Rattle.convert_document.specs.Refused as convert
use Rattle.typify_run.specs.Verdicts.{IsUnjudged}
use Rattle.typify_run.specs.Examine.{IsCause, IsRefusal, IsUnreported, is_none_of, is_converted, is_examined}
use Rattle.typify_run.proofs.Judged.{both_true}
use Rattle.typify_run.proofs.Reported.{none_listed}

-- ---- refusals of the parts are refusals

rises_later : (a b c : ℕ) → a ≤ b → Rises b c → Rises a c
rises_later a b c h (inl k) = inl (omega (arith, h, k))
rises_later a b c h (inr k) = inr k

-- a judge of texts that failed at a value, which is told at the root
pub unjudged_refused : (r : Relations) (d : Document) (most before between after : ℕ) (f : FaultD) → before ≤ between → IsUnjudged between after f → IsUnreported r d most before after f
unjudged_refused r d most before between after f h (inl m) = inl m
unjudged_refused r d most before between after f h (inr u) = inr (inl ([], root_place r d most most_levels, u.0, rises_later before between after h u.1))

module _ (setting : Setting) (r : Relations) (most before after : ℕ) (schema : Value) (ds : List Data) (f : FaultD) where
  pub wide_refused : (f ≡ memory) ⊎ HasWideNumber ds f → IsRefusal setting r most before after schema ds f
  wide_refused (inl e) = inl e
  wide_refused (inr h) = inr (inr (inl h))

  pub unread_refused : are_i64 ds ≡ true → IsUnread schema f → IsRefusal setting r most before after schema ds f
  unread_refused e (inl m) = inl m
  unread_refused e (inr h) = inr (inr (inr (e, inl h)))

  pub unreported_refused : (d : Document) → are_i64 ds ≡ true → IsReadAs setting schema d → IsUnreported r d most before after f → IsRefusal setting r most before after schema ds f
  unreported_refused d e read (inl m) = inl m
  unreported_refused d e read (inr (inl t)) = inr (inl (e, (d, read, t)))
  unreported_refused d e read (inr (inr c)) = inr (inr (inr (e, inr (d, read, c))))

-- what is said of the fault that a step gives is said where it leaves
pub told_of_fault : {X : Type 0} (a : Result X Fault) (e : Fault) (P : FaultD → Type 0) → IsErrAnd a (λ f. f ≡ e) → P (fault_view e) → IfErr a (λ f. P (fault_view f))
told_of_fault (Ok x) e P h p = absurd h
told_of_fault (Err f) e P h p = subst (λ (k : Fault). P (fault_view k)) (sym h) p

-- ---- what is examined and accepted has no fault

first_of_none : (ps : List Place) (p : Place) → ps ≡ [] → first ps ≡ Some p → ⊥
first_of_none [] p e h = none-some p h
first_of_none (q ∷ ps) p e h = absurd (cc)

place_of_none : (ps : List Place) (l : Location) → ps ≡ [] → option_map (λ p. p.0) (first ps) ≡ Some l → ⊥
place_of_none [] l e h = none-some l h
place_of_none (q ∷ ps) l e h = absurd (cc)

-- a wide place in a value whose numbers are i64
no_wide_place : (v : Value) (l : Location) → holds_i64_alone v ≡ true → wide_place v ≡ Some l → ⊥
no_wide_place v l e h = none-some l (sym ((wide_exact v).1 e) ∙ h)

no_wide_number : (i : ℕ) (l : Location) (ds : List Data) → are_i64 ds ≡ true → IsWideAt i l ds → ⊥
no_wide_number i l [] e h = absurd h
no_wide_number zero l (d ∷ ds) e h = no_wide_place (value_of d) l (both_true (holds_i64_alone (value_of d)) (are_i64 ds) e).0 h
no_wide_number (suc i) l (d ∷ ds) e h = no_wide_number i l ds (both_true (holds_i64_alone (value_of d)) (are_i64 ds) e).1 h.1

-- no fault that a document has
pub no_fault : (schema : Value) (f : FaultD) → IsAccepted schema → HasFault schema f → ⊥
no_fault schema memory a h = h
no_fault schema (malformed l k) a h = first_of_none (malformed_places schema) (l, k) a.1.readable.0.0 h
no_fault schema (missing_ref l q) a h = first_of_none (bad_references schema) (l, q) a.1.readable.0.1 h.1
no_fault schema (external_ref l q) a h = first_of_none (bad_references schema) (l, q) a.1.readable.0.1 h.1
no_fault schema (unguarded w) a h =
    let walk = h.1 in
    loops_are_unguarded walk.0 w walk.2 (subst IsGuarded (same_Some a.0 walk.0 (sym a.1.read ∙ walk.1)) a.1.guarded)
no_fault schema (depth w) a h = h
no_fault schema (places l n) a h = h
no_fault schema (float l) a h = place_of_none (float_places schema) l a.1.readable.1 h.1
no_fault schema (value_number i l) a h = h
no_fault schema (invalid_value l v) a h = h
no_fault schema (bad_value l v) a h = h
no_fault schema (invalid_schema l k) a h = h
no_fault schema (unsupported l k) a h = h
no_fault schema (texts l) a h = h

pub no_wide : (ds : List Data) (f : FaultD) → are_i64 ds ≡ true → HasWideNumber ds f → ⊥
no_wide ds (value_number i l) e h = no_wide_number i l ds e h
no_wide ds memory e h = h
no_wide ds (malformed l k) e h = h
no_wide ds (missing_ref l q) e h = h
no_wide ds (external_ref l q) e h = h
no_wide ds (unguarded w) e h = h
no_wide ds (depth w) e h = h
no_wide ds (places l n) e h = h
no_wide ds (float l) e h = h
no_wide ds (invalid_value l v) e h = h
no_wide ds (bad_value l v) e h = h
no_wide ds (invalid_schema l k) e h = h
no_wide ds (unsupported l k) e h = h
no_wide ds (texts l) e h = h

-- a document that is converted

not_one : {A : Type 0} (x : A) (xs ys : List A) → ys ≡ [] → ys ≡ x ∷ xs → ⊥
not_one x xs ys h e = absurd (cc)

module _ (r : Relations) (n : ℕ) (d : Document) (e : is_converted r n (Some d) ≡ true) where
  both_none : (is_none_of (faults_of r d n most_levels) ≡ true) × (is_none_of (unread_in_document r d n most_levels) ≡ true)
  both_none = both_true (is_none_of (faults_of r d n most_levels)) (is_none_of (unread_in_document r d n most_levels)) e

  no_faults : faults_of r d n most_levels ≡ []
  no_faults = none_listed (faults_of r d n most_levels) both_none.0

  none_unread : unread_in_document r d n most_levels ≡ []
  none_unread = none_listed (unread_in_document r d n most_levels) both_none.1

converted_has_none : (r : Relations) (n : ℕ) (d : Document) (f : FaultD) → is_converted r n (Some d) ≡ true → convert.IsCause r d n most_levels f → ⊥
converted_has_none r n d f e (inl h) = first_is_one r d n most_levels f h (no_faults r n d e)
converted_has_none r n d f e (inr (h, u)) = not_one u.0 u.1 (unread_in_document r d n most_levels) (none_unread r n d e) u.2

pub no_cause : (setting : Setting) (r : Relations) (n : ℕ) (schema : Value) (ds : List Data) (f : FaultD) → is_examined setting r n schema ds ≡ true → IsAccepted schema → IsCause setting r n schema ds f → ⊥
no_cause setting r n schema ds f e a (inl h) = no_wide ds f (both_true (are_i64 ds) (is_converted r n (document_of setting schema)) e).0 h
no_cause setting r n schema ds f e a (inr (h, inl k)) = no_fault schema f a k
no_cause setting r n schema ds f e a (inr (h, inr (d, read, k))) =
    converted_has_none r n d f (sym (ap (is_converted r n) read.read) ∙ (both_true (are_i64 ds) (is_converted r n (document_of setting schema)) e).1) k

-- what is converted is examined
pub examined_so : (setting : Setting) (r : Relations) (n : ℕ) (schema : Value) (ds : List Data) (d : Document) → are_i64 ds ≡ true → IsReadAs setting schema d → faults_of r d n most_levels ≡ []
    → unread_in_document r d n most_levels ≡ [] → is_examined setting r n schema ds ≡ true
examined_so setting r n schema ds d i read none all =
    ap (λ (b : Bool). both b (is_converted r n (document_of setting schema))) i ∙ ap (is_converted r n) read.read
    ∙ ap (λ (b : Bool). both b (is_none_of (unread_in_document r d n most_levels))) (ap is_none_of none) ∙ ap is_none_of all
  where
    both : Bool → Bool → Bool
    both a b = a && b
