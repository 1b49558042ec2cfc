-- What is told as the first fault is one, and what conversion refuses is refused so.
use Rattle.std.proofs.Common.{◌≡◌, inl, inr, ℕ, List, [], ◌∷◌, ◌++◌, Option, None, Some, subst, refl, sym, ap, ◌∙◌}
use Rattle.std.specs.Prelude.{Result, Ok, Err, IfErr, IsErrAnd}
use Rattle.schema_defs.specs.Location.{Location}
use Rattle.schema_defs.specs.Texts.{Relations}
use Rattle.schema_defs.specs.Schema.{Document}
use Rattle.schema_tree.specs.Fault.{FaultD, memory}
use Rattle.convert_walks.specs.Tree.{Node, document_tree}
use Rattle.convert_walks.specs.Told.{Reason, state_faults, faults_in, faults_of}
use Rattle.convert_trees.specs.Told.{no_memory, failed, TellsOf, of_reason, Refuses, by_none, by_fault}
use Rattle.convert_trees.specs.Unread.{At, first_kept, unread_in_document}
use Rattle.convert_document.specs.Unread.{TellsUnread, IsToldUnread}
use Rattle.convert_document.specs.Refused.{IsFirst, IsRefusal}

-- ---- lists

none_behind : {A : Type 0} (xs ys : List A) → xs ++ ys ≡ [] → ys ≡ []
none_behind [] ys h = h
none_behind (x ∷ xs) ys h = cc

none_before : {A : Type 0} (xs ys : List A) → xs ++ ys ≡ [] → xs ≡ []
none_before [] ys h = refl
none_before (x ∷ xs) ys h = cc

none_listed : {A : Type 0} (x : A) (xs ys : List A) → ys ≡ [] → ys ≡ x ∷ xs → ⊥
none_listed x xs ys h e = absurd (cc)

-- the exit of a `?`
pub if_err : {T E : Type 0} (a : Result T E) (f : E) (P : E → Type 0) → IsErrAnd a (λ e. e ≡ f) → P f → IfErr a P
if_err (Ok x) f P e h = absurd e
if_err (Err g) f P e h = subst P (sym e) h

module _ (r : Relations) (d : Document) (most n : ℕ) where
  abbrev faults_at : Node → List (Location × Reason)
  faults_at t = state_faults r d most n t.spot t.schema t.state

  none_at : (before : List Node) (at : Node) (after : List Node) → faults_in r d most n (before ++ at ∷ after) ≡ [] → faults_at at ≡ []
  none_at [] at after h = none_before (faults_at at) (faults_in r d most n after) h
  none_at (b ∷ bs) at after h = none_at bs at after (none_behind (faults_at b) (faults_in r d most n (bs ++ at ∷ after)) h)

  told_is_one : (at : Node) (f : FaultD) → TellsOf r d most n at f → faults_at at ≡ [] → ⊥
  told_is_one at f (of_reason l why more e x) h = none_listed (l, why) more (faults_at at) h e

  pub first_is_one : (f : FaultD) → IsFirst r d most n f → faults_of r d most n ≡ [] → ⊥
  first_is_one f t h = told_is_one t.at f t.told (none_at t.before t.at t.after (ap (faults_in r d most n) (sym t.split) ∙ h))

  -- ---- refusals

  pub refused_all : (old new : ℕ) (f : FaultD) → Refuses r d most n old new (document_tree r d most n) f → IsRefusal r d most n old new f
  refused_all old new f (by_none (no_memory e)) = inl e
  refused_all old new f (by_none (failed l c e x)) = inr (inl (l, c, e, x))
  refused_all old new f (by_fault t) = inr (inr (inl t))

  pub without_memory : (old new : ℕ) (f : FaultD) → f ≡ memory → IsRefusal r d most n old new f
  without_memory old new f e = inl e

  by_list : (old new : ℕ) (f : FaultD) (us : List At) (at : At) → faults_of r d most n ≡ [] → unread_in_document r d most n ≡ us → first_kept None us ≡ Some at → TellsUnread at f → IsRefusal r d most n old new f
  by_list old new f [] at h e k t = absurd (cc)
  by_list old new f (u ∷ us) at h e k (inl m) = inl m
  by_list old new f (u ∷ us) at h e k (inr i) = inr (inr (inr (h, (at, us, (e ∙ (let same : u ≡ at = cc in ap (λ u. u ∷ us) same)), i))))

  -- the first stated value that isn't read
  pub unread_refused : (old new : ℕ) (f : FaultD) (o : Option At) → faults_of r d most n ≡ [] → o ≡ first_kept None (unread_in_document r d most n) → IsToldUnread o f → IsRefusal r d most n old new f
  unread_refused old new f o h e t = by_list old new f (unread_in_document r d most n) t.0 h refl (sym e ∙ t.1) t.2

-- none is kept where all are read
pub all_read : (us : List At) → None ≡ first_kept None us → us ≡ []
all_read [] e = refl
all_read (u ∷ us) e = absurd (cc)
