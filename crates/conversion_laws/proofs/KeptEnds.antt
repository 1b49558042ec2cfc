-- References lead no further at one value in what merges make: each that stands in it stood on a side, or in a target.
use Rattle.std.proofs.Common.{◌≡◌, ℕ, zero, suc, List, Option, Some, None, sym, subst, ◌∙◌}
use Rattle.schema_defs.specs.Schema.{Schema, Schemas, no_more, schema, Document}
use Rattle.schema_defs.specs.Admits.{target}
use Rattle.schema_defs.proofs.Spare.{Given, Refs, Refs-weaker, Ends}
use Rattle.merge_defs.specs.Outcome.{Outcome, fault, never, answer}
use Rattle.merge_defs.specs.Members.{only_same}
use Rattle.merge_walks.specs.Walked.{join_by_walks, less_by_walks, merge_by_walks, with_by_walks}
use Rattle.conversion_laws.specs.Keeping.{Always, Throughout, ThroughoutAll, EndsAll, MergesEnd}
use Rattle.conversion_laws.proofs.Always.{always-any}
use Rattle.conversion_laws.proofs.Throughout.{AnyLists, AnyNamed, to-throughout, same-to, refs-of}
use Rattle.conversion_laws.proofs.KeptLayers.{IsKept}
use Rattle.conversion_laws.proofs.KeptWalks.{join-kept, less-kept, with-kept, several-kept}

module _ (d : Document) where
  -- the references that are followed where at most k are
  abbrev pub Ending : ℕ → List ℕ → Type 0
  Ending zero q = target d q ≡ None
  Ending (suc k) q = Given (Ends d k) (target d q)

  pub to-ending : (k : ℕ) (s : Schema) → Ends d k s → Refs (Ending k) s
  to-ending zero s h = h
  to-ending (suc k) s h = h

  pub from-ending : (k : ℕ) (s : Schema) → Refs (Ending k) s → Ends d k s
  from-ending zero s h = h
  from-ending (suc k) s h = h

  nothing-there : (k : ℕ) (o : Option Schema) → o ≡ None → Given (Ends d k) o
  nothing-there k o e = subst (λ x. Given (Ends d k) x) (sym e) tt

  given-more : (k : ℕ) → ((s : Schema) → Ends d k s → Ends d (suc k) s) → (o : Option Schema) → Given (Ends d k) o → Given (Ends d (suc k)) o
  given-more k f None h = tt
  given-more k f (Some t) h = f t h

  -- more may be followed
  one-more : (k : ℕ) (s : Schema) → Ends d k s → Ends d (suc k) s
  one-more zero s h = Refs-weaker (λ q. target d q ≡ None) (λ q. Given (Ends d 0) (target d q)) (λ q e. nothing-there 0 (target d q) e) s h
  one-more (suc k) s h = Refs-weaker (λ q. Given (Ends d k) (target d q)) (λ q. Given (Ends d (suc k)) (target d q)) (λ q e. given-more k (one-more k) (target d q) e) s h

  target-ends : (k : ℕ) (q : List ℕ) (t : Schema) → Ending k q → target d q ≡ Some t → Ends d k t
  target-ends zero q t h e = absurd (none_some (sym h ∙ e))
    where
      none_some : None ≡ Some t → ⊥
      none_some e = cc
  target-ends (suc k) q t h e = one-more k t (subst (λ o. Given (Ends d k) o) e h)

  pub ends-kept : (k : ℕ) → IsKept d (Ending k) AnyLists AnyNamed
  ends-kept k = record {
    of_target = λ q t h e. to-throughout (Ending k) t (to-ending k t (target-ends k q t h e));
    of_no_lists = tt;
    of_no_named = tt;
    of_two_lists = λ f j array ls ms x y. always-any _;
    of_two_named = λ f j nulls object_type ns os x y. always-any _;
    of_less_named = λ f j ns os x y. always-any _;
    of_lists_inside = λ w ls x. tt;
    of_named_inside = λ w ns x. tt;
    of_settled_named = λ w ns x. tt;
  }

  pub into : (k : ℕ) (s : Schema) → Ends d k s → Throughout (Ending k) AnyLists AnyNamed s
  into k s h = to-throughout (Ending k) s (to-ending k s h)

  all-into : (k : ℕ) (ss : Schemas) → EndsAll d k ss → ThroughoutAll (Ending k) AnyLists AnyNamed ss
  all-into k no_more h = tt
  all-into k (schema s ss) h = (into k s h.0, all-into k ss h.1)

  out-of : (k : ℕ) (o : Outcome Schema) → Always (Throughout (Ending k) AnyLists AnyNamed) o → Always (Ends d k) o
  out-of k (fault f) h = tt
  out-of k (never ns) h = tt
  out-of k (answer ns s) h = from-ending k s (refs-of (Ending k) AnyLists AnyNamed s h)

pub merges_end : MergesEnd
merges_end d most n k = record {
  joins = λ a b x y. out-of d k (join_by_walks d most n a b) (join-kept d (Ending d k) AnyLists AnyNamed (ends-kept d k) most n a b (into d k a x) (into d k b y));
  leaves = λ a b x y. out-of d k (less_by_walks d most n a b) (less-kept d (Ending d k) AnyLists AnyNamed (ends-kept d k) most n a b (into d k a x) (into d k b y));
  with_all = λ b ss x y. out-of d k (with_by_walks d most n b ss) (with-kept d (Ending d k) AnyLists AnyNamed (ends-kept d k) most n b ss (into d k b x) (same-to (Ending d k) ss (to-ending d k (only_same ss) y).1));
  gathers = λ ss x. out-of d k (merge_by_walks d most n ss) (several-kept d (Ending d k) AnyLists AnyNamed (ends-kept d k) most n ss (all-into d k ss x));
}
