-- The merge of a row as it is kept, and what is merged inside it.
use Rattle.std.proofs.Common.{◌≡◌, List, [], ◌∷◌, ◌++◌, Option, Some, None, sym, ap, ◌∙◌, subst, IfSome, append_assoc}
use Rattle.std.proofs.lemmas.List.{map-append}
use Rattle.schema_defs.specs.Schema.{Schema}
use Rattle.merge_defs.specs.Outcome as outcomes
use Rattle.merge_defs.specs.Outcome.{Fault, Outcome, fault, never, answer, noted}
use Rattle.merge_parts.specs.Steps.{Faults, Steps}
use Rattle.merge_parts.specs.View as parts
use Rattle.merge_parts.specs.declared.notes.MergeNote.{MergeNote}
use Rattle.merge_parts.specs.declared.fault.MergeFault.{MergeFault}
use Rattle.convert_walks.specs.Spot.{Spot}
use Rattle.convert_walks.specs.Tree.{Node, Standing, instead}
use Rattle.document_merges.specs.declared.merge.Merge.{Merge}
use Rattle.document_merges.specs.Merges.{MergeD, refused, stands, unhanded, unhanded_if, merge_of_row, merge_view, merges_in, merges_view}

module _ (o : Spot) (s : Schema) where
  -- what stands there, by the outcome
  never_kept : (ns : List outcomes.Note) (m : Outcome Schema) → noted [] m ≡ never ns → merge_of_row o s m ≡ stands ns (unhanded_if (instead o s m))
  never_kept ns (fault f) e = cc
  never_kept ns (never ms) e = let k : ms ≡ ns = cc in ap (λ ns. stands ns (unhanded_if (instead o s (never ms)))) k
  never_kept ns (answer ms a) e = cc

  answer_kept : (ns : List outcomes.Note) (t : Schema) (m : Outcome Schema) → noted [] m ≡ answer ns t → merge_of_row o s m ≡ stands ns (unhanded_if (instead o s m))
  answer_kept ns t (fault f) e = cc
  answer_kept ns t (never ms) e = cc
  answer_kept ns t (answer ms a) e = let k : ms ≡ ns = cc in ap (λ ns. stands ns (unhanded_if (instead o s (answer ms a)))) k

  stands_kept : (ns : List outcomes.Note) (f : Option Schema) (m : Outcome Schema) → Steps [] ns m f → merge_of_row o s m ≡ stands ns (unhanded_if (instead o s m))
  stands_kept ns None m t = never_kept ns m t.told
  stands_kept ns (Some x) m t = answer_kept ns x m t.told

  pub kept_is : (ns : List outcomes.Note) (f : Option Schema) (m : Outcome Schema) (t : Standing) → Steps [] ns m f → instead o s m ≡ Some t → merge_of_row o s m ≡ stands ns (Some (unhanded t))
  kept_is ns f m t k e = stands_kept ns f m k ∙ ap (λ x. stands ns (unhanded_if x)) e

  -- the merge, and behind it what was merged inside
  pub kept_adds : (ns : List outcomes.Note) (f : Option Schema) (m : Outcome Schema) (t : Standing) (tree : Option Standing → List Node) (x : MergeD) (old one inside new : List MergeD)
      → Steps [] ns m f → instead o s m ≡ Some t → x ≡ stands ns (Some (unhanded t)) → one ≡ old ++ x ∷ [] → inside ≡ merges_in (tree (Some t)) → new ≡ one ++ inside
      → new ≡ old ++ (merge_of_row o s m ∷ merges_in (tree (instead o s m)))
  kept_adds ns f m t tree x old one inside new k e h g i j =
      j ∙ ap (λ xs. xs ++ inside) g ∙ append_assoc old (x ∷ []) inside
      ∙ (λ z. old ++ ((h ∙ sym (kept_is ns f m t k e)) z ∷ (i ∙ ap (λ t. merges_in (tree t)) (sym e)) z))

  -- what is refused
  fault_kept : (f : Fault) (m : Outcome Schema) → m ≡ fault f → (x : MergeD) (tree : Option Standing → List Node) → tree None ≡ [] → x ≡ refused f → x ∷ [] ≡ merge_of_row o s m ∷ merges_in (tree (instead o s m))
  fault_kept f m e x tree h g = (λ z. g z ∷ merges_in (sym h z)) ∙ ap (λ m. merge_of_row o s m ∷ merges_in (tree (instead o s m))) (sym e)

  pub refused_adds : (f : Fault) (m : Outcome Schema) (x : MergeD) (tree : Option Standing → List Node) (old new : List MergeD) → m ≡ fault f → tree None ≡ [] → x ≡ refused f → new ≡ old ++ x ∷ []
      → new ≡ old ++ (merge_of_row o s m ∷ merges_in (tree (instead o s m)))
  refused_adds f m x tree old new e h g j = j ∙ ap (λ xs. old ++ xs) (fault_kept f m e x tree h g)

-- ---- what a merge says

-- there were no notes before it
pub from_none : (none : List MergeNote) (ns : List outcomes.Note) (m k : Outcome Schema) (f : Option Schema) → none ≡ [] → m ≡ k → Steps (parts.notes_view none) ns m f → Steps [] ns k f
from_none none ns m k f e h t = record { told = ap (noted []) (sym h) ∙ ap (λ ns. noted (parts.notes_view ns) m) (sym e) ∙ t.told }

pub by_fault : (e v : MergeFault) (g : Fault) (m : Outcome Schema) → e ≡ v → parts.fault_view v ≡ Some g → Faults e m → m ≡ fault g
by_fault e v g m h k t =
    let seen = subst (λ (e : MergeFault). IfSome (parts.fault_view e) (λ f. m ≡ fault f)) h t.told in
    subst (λ (x : Option Fault). IfSome x (λ f. m ≡ fault f)) k seen

-- ---- the merges that are kept, one more

pub one_kept : (old new : List Merge) (x : Merge) → new ≡ old ++ x ∷ [] → merges_view new ≡ merges_view old ++ merge_view x ∷ []
one_kept old new x e = ap merges_view e ∙ map-append merge_view old (x ∷ [])
