-- What is told of nodes one after another.
use Rattle.std.proofs.Common.{◌≡◌, ℕ, ◌≤◌, ◌⊎◌, inl, inr, List, [], ◌∷◌, ◌++◌, Bool, Option, Some, None, is_some, refl, sym, ap, subst, ◌∙◌, append_assoc, append-nil}
use Rattle.std.proofs.lemmas.List.Elements.{Contains-append_left, Contains-append_right}
use Rattle.schema_defs.specs.Location.{Location}
use Rattle.schema_defs.specs.Texts.{Relations}
use Rattle.schema_defs.specs.Schema.{Schema, Document}
use Rattle.convert_defs.specs.Table.{row_of}
use Rattle.entry_defs.specs.Table.{Table}
use Rattle.schema_tree.specs.Fault.{FaultD, memory, depth}
use Rattle.merge_walks.specs.Carried.{last_of}
use Rattle.convert_walks.specs.Spot.{Spot}
use Rattle.convert_walks.specs.Tree.{Node, cut, too_many_steps}
use Rattle.convert_walks.specs.Told.{notes_in, state_notes, faults_in, state_faults, too_deep}
use Rattle.document_merges.specs.Merges.{MergeD, merges_in, state_merges}
use Rattle.convert_trees.specs.Unread.{At, unread_of, unread_in, first_kept, first_before_if}
use Rattle.convert_trees.specs.Keeping.{KeptD, ValuesD, with_unread}
use Rattle.convert_trees.specs.Told as told
use Rattle.convert_trees.specs.Told.{places_of_nodes, NoAnswer, AreFine, IsTold, TellsOf, Tells, Refuses, by_none, by_fault, Begins, begins}
use Rattle.convert_trees.proofs.Ends.{none_among, none_from}

-- ---- the first is kept

first_none : (o : Option At) → first_kept o [] ≡ o
first_none None = refl
first_none (Some a) = refl

first_both : (o : Option At) (us bs : List At) → first_kept (first_kept o us) bs ≡ first_kept o (us ++ bs)
first_both (Some a) us bs = refl
first_both None [] bs = refl
first_both None (a ∷ us) bs = refl

-- what a row lists stands before what its parts list
pub first_of_row : (o : Option At) (us bs : List At) (had : Bool) → had ≡ is_some o → first_before_if had us (first_kept o bs) ≡ first_kept o (us ++ bs)
first_of_row (Some a) us bs had e = ap (λ b. first_before_if b us (Some a)) e
first_of_row None [] bs had e = ap (λ b. first_before_if b [] (first_kept None bs)) e
first_of_row None (a ∷ us) bs had e = ap (λ b. first_before_if b (a ∷ us) (first_kept None bs)) e

with_none : (v : ValuesD) → with_unread [] v ≡ v
with_none v = λ i. record { known = v.known; unread = first_none v.unread i }

with_both : (v : ValuesD) (us bs : List At) → with_unread bs (with_unread us v) ≡ with_unread (us ++ bs) v
with_both v us bs = λ i. record { known = v.known; unread = first_both v.unread us bs i }

-- ---- places of some nodes are among those of more

pub places_of_both : (xs bs : List Node) → places_of_nodes (xs ++ bs) ≡ places_of_nodes xs ++ places_of_nodes bs
places_of_both [] bs = refl
places_of_both (a ∷ xs) bs = ap (λ ls. a.spot.path ∷ ls) (places_of_both xs bs)

module _ (f : FaultD) (old new : ℕ) (xs bs : List Node) where
  none_of_both : NoAnswer (places_of_nodes xs ++ places_of_nodes bs) old new f → NoAnswer (places_of_nodes (xs ++ bs)) old new f
  none_of_both h = subst (λ (ls : List Location). NoAnswer ls old new f) (sym (places_of_both xs bs)) h

  pub none_of_first : NoAnswer (places_of_nodes xs) old new f → NoAnswer (places_of_nodes (xs ++ bs)) old new f
  none_of_first h =
      none_of_both (none_among (places_of_nodes xs) (places_of_nodes xs ++ places_of_nodes bs) old new f (Contains-append_left (places_of_nodes xs) (places_of_nodes bs)) h)

  none_of_second : NoAnswer (places_of_nodes bs) old new f → NoAnswer (places_of_nodes (xs ++ bs)) old new f
  none_of_second h =
      none_of_both (none_among (places_of_nodes bs) (places_of_nodes xs ++ places_of_nodes bs) old new f (Contains-append_right (places_of_nodes xs) (places_of_nodes bs)) h)

-- ---- merges that are left

merges_of_both : (xs bs : List Node) → merges_in (xs ++ bs) ≡ merges_in xs ++ merges_in bs
merges_of_both [] bs = refl
merges_of_both (a ∷ xs) bs =
    ap (λ ms. state_merges a.spot a.schema a.state ++ ms) (merges_of_both xs bs)
    ∙ sym (append_assoc (state_merges a.spot a.schema a.state) (merges_in xs) (merges_in bs))

parted : (xs bs : List Node) (left rest : List MergeD) → left ≡ merges_in (xs ++ bs) ++ rest → left ≡ merges_in xs ++ (merges_in bs ++ rest)
parted xs bs left rest e = e ∙ ap (λ ms. ms ++ rest) (merges_of_both xs bs) ∙ append_assoc (merges_in xs) (merges_in bs) rest

-- with those of the first nodes, and behind those with the others'
pub begins_first : (xs bs : List Node) (left : List MergeD) → Begins left (merges_in (xs ++ bs)) → Begins left (merges_in xs)
begins_first xs bs left (begins rest e) = begins (merges_in bs ++ rest) (parted xs bs left rest e)

module _ (r : Relations) (d : Document) (most n : ℕ) where
  -- ---- faults, notes and unread values of lists

  faults_of_both : (xs bs : List Node) → faults_in r d most n (xs ++ bs) ≡ faults_in r d most n xs ++ faults_in r d most n bs
  faults_of_both [] bs = refl
  faults_of_both (a ∷ xs) bs =
      ap (λ cs. state_faults r d most n a.spot a.schema a.state ++ cs) (faults_of_both xs bs)
      ∙ sym (append_assoc (state_faults r d most n a.spot a.schema a.state) (faults_in r d most n xs) (faults_in r d most n bs))

  notes_of_both : (xs bs : List Node) → notes_in r d most n (xs ++ bs) ≡ notes_in r d most n xs ++ notes_in r d most n bs
  notes_of_both [] bs = refl
  notes_of_both (a ∷ xs) bs =
      ap (λ ns. state_notes r d most n a.spot a.schema a.state ++ ns) (notes_of_both xs bs)
      ∙ sym (append_assoc (state_notes r d most n a.spot a.schema a.state) (notes_in r d most n xs) (notes_in r d most n bs))

  unread_of_both : (k : Option Table) (xs bs : List Node) → unread_in r k d (xs ++ bs) ≡ unread_in r k d xs ++ unread_in r k d bs
  unread_of_both k [] bs = refl
  unread_of_both k (a ∷ xs) bs =
      ap (λ us. unread_of r k a.spot.path a.schema (row_of r d a.schema) a.entry ++ us) (unread_of_both k xs bs)
      ∙ sym (append_assoc (unread_of r k a.spot.path a.schema (row_of r d a.schema) a.entry) (unread_in r k d xs) (unread_in r k d bs))

  -- ---- nothing to refuse

  pub none_fine : AreFine r d most n []
  none_fine = record { faultless = refl }

  pub both_fine : (xs bs : List Node) → AreFine r d most n xs → AreFine r d most n bs → AreFine r d most n (xs ++ bs)
  both_fine xs bs x y = record {
    faultless = faults_of_both xs bs ∙ ap (λ cs. cs ++ faults_in r d most n bs) x.faultless ∙ y.faultless;
  }

  -- ---- told

  pub told_none : (k : KeptD) → IsTold r d most n [] k k
  told_none k = record { fine = none_fine; notes = sym (append-nil k.notes); values = sym (with_none k.values); merges = λ rest e. e }

  pub told_both : (xs bs : List Node) (k l m : KeptD) → IsTold r d most n xs k l → IsTold r d most n bs l m → IsTold r d most n (xs ++ bs) k m
  told_both xs bs k l m x y = record {
    fine = both_fine xs bs x.fine y.fine;
    notes = y.notes ∙ ap (λ ns. ns ++ notes_in r d most n bs) x.notes ∙ append_assoc k.notes (notes_in r d most n xs) (notes_in r d most n bs)
        ∙ ap (λ ns. k.notes ++ ns) (sym (notes_of_both xs bs));
    values = y.values ∙ ap (λ v. with_unread (unread_in r v.known d bs) v) x.values ∙ with_both k.values (unread_in r k.values.known d xs) (unread_in r k.values.known d bs)
        ∙ ap (λ us. with_unread us k.values) (sym (unread_of_both k.values.known xs bs));
    merges = λ rest e. y.merges rest (x.merges (merges_in bs ++ rest) (parted xs bs k.merges rest e));
  }

  pub begins_second : (xs bs : List Node) (k l : KeptD) → IsTold r d most n xs k l → Begins k.merges (merges_in (xs ++ bs)) → Begins l.merges (merges_in bs)
  begins_second xs bs k l t (begins rest e) = begins rest (t.merges (merges_in bs ++ rest) (parted xs bs k.merges rest e))

  module _ (f : FaultD) where
    tells_first : (xs bs : List Node) → Tells r d most n xs f → Tells r d most n (xs ++ bs) f
    tells_first xs bs t = record {
      before = t.before;
      at = t.at;
      after = t.after ++ bs;
      split = ap (λ ts. ts ++ bs) t.split ∙ append_assoc t.before (t.at ∷ t.after) bs;
      fine = t.fine;
      told = t.told;
    }

    tells_second : (xs bs : List Node) → AreFine r d most n xs → Tells r d most n bs f → Tells r d most n (xs ++ bs) f
    tells_second xs bs e t = record {
      before = xs ++ t.before;
      at = t.at;
      after = t.after;
      split = ap (λ ts. xs ++ ts) t.split ∙ sym (append_assoc xs t.before (t.at ∷ t.after));
      fine = both_fine xs t.before e t.fine;
      told = t.told;
    }

    -- the first node alone
    pub tells_head : (t : Node) (ts : List Node) → TellsOf r d most n t f → Tells r d most n (t ∷ ts) f
    tells_head t ts h = record { before = []; at = t; after = ts; split = refl; fine = none_fine; told = h }

    pub want_refuses : (a b : ℕ) (ts : List Node) → f ≡ memory → Refuses r d most n a b ts f
    want_refuses a b ts e = by_none (told.no_memory e)

    pub refuses_from : (a b c : ℕ) (ts : List Node) → a ≤ b → Refuses r d most n b c ts f → Refuses r d most n a c ts f
    refuses_from a b c ts h (by_none k) = by_none (none_from (places_of_nodes ts) a b c f h k)
    refuses_from a b c ts h (by_fault t) = by_fault t

    -- a schema to which no step is left
    pub cut_refuses : (a b : ℕ) (o : Spot) (s : Schema) → (f ≡ memory) ⊎ (f ≡ depth o.walk) → Refuses r d most n a b (cut too_many_steps o s ∷ []) f
    cut_refuses a b o s (inl e) = by_none (told.no_memory e)
    cut_refuses a b o s (inr e) = by_fault (tells_head (cut too_many_steps o s) [] (told.of_reason (last_of o.walk) (too_deep o.walk) [] refl e))

    module _ (old new : ℕ) where
      pub refuses_first : (xs bs : List Node) → Refuses r d most n old new xs f → Refuses r d most n old new (xs ++ bs) f
      refuses_first xs bs (by_none h) = by_none (none_of_first f old new xs bs h)
      refuses_first xs bs (by_fault t) = by_fault (tells_first xs bs t)

      pub refuses_second : (xs bs : List Node) → AreFine r d most n xs → Refuses r d most n old new bs f → Refuses r d most n old new (xs ++ bs) f
      refuses_second xs bs e (by_none h) = by_none (none_of_second f old new xs bs h)
      refuses_second xs bs e (by_fault t) = by_fault (tells_second xs bs e t)

  -- ---- a part of a list is passed

  pub record Passed (whole rest : List Node) (old new : KeptD) : Type 0 where
    pub done : List Node
    pub split : whole ≡ done ++ rest
    pub told : IsTold r d most n done old new

  pub passed_none : (whole : List Node) (k : KeptD) → Passed whole whole k k
  passed_none whole k = record { done = []; split = refl; told = told_none k }

  pub passed_on : (whole xs bs : List Node) (k l m : KeptD) → Passed whole (xs ++ bs) k l → IsTold r d most n xs l m → Passed whole bs k m
  passed_on whole xs bs k l m p t = record {
    done = p.done ++ xs;
    split = p.split ∙ sym (append_assoc p.done xs bs);
    told = told_both p.done xs k l m p.told t;
  }

  pub passed_all : (whole : List Node) (k l : KeptD) → Passed whole [] k l → IsTold r d most n whole k l
  passed_all whole k l p = subst (λ (ts : List Node). IsTold r d most n ts k l) (sym (p.split ∙ append-nil p.done)) p.told

  pub passed_end : (whole rest : List Node) (k l : KeptD) → rest ≡ [] → Passed whole rest k l → IsTold r d most n whole k l
  passed_end whole rest k l e p = passed_all whole k l (subst (λ (ts : List Node). Passed whole ts k l) e p)

  pub passed_refuses : (f : FaultD) (old new : ℕ) (whole xs bs : List Node) (k l : KeptD)
      → Passed whole (xs ++ bs) k l → Refuses r d most n old new xs f → Refuses r d most n old new whole f
  passed_refuses f old new whole xs bs k l p h =
      subst (λ (ts : List Node). Refuses r d most n old new ts f) (sym p.split)
      (refuses_second f old new p.done (xs ++ bs) p.told.fine (refuses_first f old new xs bs h))

  -- the merges that are left begin with those of what comes next
  pub passed_begins : (whole xs bs : List Node) (k l : KeptD) → Passed whole (xs ++ bs) k l → Begins k.merges (merges_in whole) → Begins l.merges (merges_in xs)
  passed_begins whole xs bs k l p b =
      begins_first xs bs l.merges (begins_second p.done (xs ++ bs) k l p.told (subst (λ (ts : List Node). Begins k.merges (merges_in ts)) p.split b))

-- ---- the number of levels is of no account

module _ (r : Relations) (d : Document) (most m n : ℕ) where
  same_faults : (ts : List Node) → faults_in r d most m ts ≡ faults_in r d most n ts
  same_faults [] = refl
  same_faults (t ∷ ts) = ap (λ fs. state_faults r d most n t.spot t.schema t.state ++ fs) (same_faults ts)

  same_notes : (ts : List Node) → notes_in r d most m ts ≡ notes_in r d most n ts
  same_notes [] = refl
  same_notes (t ∷ ts) = ap (λ ns. state_notes r d most n t.spot t.schema t.state ++ ns) (same_notes ts)

  fine_by : (ts : List Node) → AreFine r d most m ts → AreFine r d most n ts
  fine_by ts a = record { faultless = sym (same_faults ts) ∙ a.faultless }

  pub told_by_levels : (ts : List Node) (j k : KeptD) → IsTold r d most m ts j k → IsTold r d most n ts j k
  told_by_levels ts j k t = record { fine = fine_by ts t.fine; notes = t.notes ∙ ap (λ ns. j.notes ++ ns) (same_notes ts); values = t.values; merges = t.merges }

  tells_of_by : (t : Node) (f : FaultD) → TellsOf r d most m t f → TellsOf r d most n t f
  tells_of_by t f (told.of_reason l why more e h) = told.of_reason l why more e h

  pub refuses_by_levels : (f : FaultD) (old new : ℕ) (ts : List Node) → Refuses r d most m old new ts f → Refuses r d most n old new ts f
  refuses_by_levels f old new ts (by_none h) = by_none h
  refuses_by_levels f old new ts (by_fault t) =
      by_fault (record { before = t.before; at = t.at; after = t.after; split = t.split; fine = fine_by t.before t.fine; told = tells_of_by t.at f t.told })
