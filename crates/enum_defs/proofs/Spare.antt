-- In a guarded document references that are still allowed change nothing.
use Rattle.std.proofs.Common.{◌≡◌, ℕ, zero, suc, ◌≤◌, ◌+◌, length, List, Bool, Option, Some, None, option_and_then, refl, ap, sym, subst, ◌∙◌, arith}
use Rattle.std.specs.Prelude.{if◌then◌else◌, true, false}
use Rattle.schema_defs.specs.Schema.{Schema, Document, object, boolean, Same, MaybeSchemas, Schemas, no_same, same_value, no_list, the_list, no_more, schema}
use Rattle.schema_defs.specs.Admits.{target, allowed}
use Rattle.schema_defs.specs.Walks.{IsGuarded}
use Rattle.schema_defs.proofs.Spare.{Given, Refs, RefsSame, RefsLists, RefsAll, Refs-weaker, Ends}
use Rattle.schema_defs.proofs.Guarded.{all_end}
use Rattle.enum_defs.specs.declared.KindSet.{KindSet}
use Rattle.enum_defs.specs.Words.{without_same, without_lists, without_named, is_unruled}
use Rattle.enum_defs.specs.Kinds.{meet, join, or_every, own_kinds, kinds_at, kinds_of_same, kinds_of_all, kinds_of_some, kinds_meet, kinds_union, followed, kinds_referred, kinds_within, kinds, kinds_beyond, no_kind}
use Rattle.enum_defs.specs.Exclusive.{reference_alone, or_stays, led_within, led}
use Rattle.enum_defs.specs.Laws.{SpareReferencesOpenNothing, KindsUnfold, ReferencesLeadToTheEnd}
use Rattle.enum_defs.proofs.Tests.{none-some, some-same}

-- ---- kinds, where two ways agree on each reference

module _ (f g : List ℕ → KindSet) where
  abbrev Agree : List ℕ → Type 0
  Agree q = f q ≡ g q

  given : (o : Option (List ℕ)) → Given Agree o → or_every f o ≡ or_every g o
  given None h = refl
  given (Some q) h = h

  mutual
    pub kinds-agree : (s : Schema) → Refs Agree s → kinds_at f s ≡ kinds_at g s
    kinds-agree (boolean b) h = refl
    kinds-agree (object p ss ls ns) h =
        λ i. meet (own_kinds (object p ss ls ns)) (meet (given p.reference h.0 i) (same-agree ss h.1 i))

    same-agree : (ss : Same) → RefsSame Agree ss → kinds_of_same f ss ≡ kinds_of_same g ss
    same-agree no_same h = refl
    same-agree (same_value all any one none conditional) h = λ i. meet (all-agree all h.0 i) (meet (some-agree any h.1 i) (some-agree one h.2 i))

    all-agree : (m : MaybeSchemas) → RefsLists Agree m → kinds_of_all f m ≡ kinds_of_all g m
    all-agree no_list h = refl
    all-agree (the_list ss) h = meet-agree ss h

    some-agree : (m : MaybeSchemas) → RefsLists Agree m → kinds_of_some f m ≡ kinds_of_some g m
    some-agree no_list h = refl
    some-agree (the_list ss) h = union-agree ss h

    meet-agree : (ss : Schemas) → RefsAll Agree ss → kinds_meet f ss ≡ kinds_meet g ss
    meet-agree no_more h = refl
    meet-agree (schema s ss) h = λ i. meet (kinds-agree s h.0 i) (meet-agree ss h.1 i)

    union-agree : (ss : Schemas) → RefsAll Agree ss → kinds_union f ss ≡ kinds_union g ss
    union-agree no_more h = refl
    union-agree (schema s ss) h = λ i. join (kinds-agree s h.0 i) (union-agree ss h.1 i)

module _ (d : Document) where
  follow-same : (n m : ℕ) → ((s : Schema) → Ends d n s → kinds_within d n s ≡ kinds_within d m s) → (o : Option Schema) → Given (Ends d n) o → followed (kinds_within d n) o ≡ followed (kinds_within d m) o
  follow-same n m k None h = refl
  follow-same n m k (Some s) h = k s h

  spare : (n m : ℕ) → n ≤ m → (s : Schema) → Ends d n s → kinds_within d n s ≡ kinds_within d m s
  spare zero zero h s e = refl
  spare zero (suc m) h s e = kinds-agree (kinds_referred d zero) (kinds_referred d (suc m)) s (Refs-weaker _ _ (λ q k. ap (followed (kinds_within d m)) (sym k)) s e)
  spare (suc n) zero h s e = absurd (omega arith)
  spare (suc n) (suc m) h s e = kinds-agree (kinds_referred d (suc n)) (kinds_referred d (suc m)) s (Refs-weaker _ _ (λ q k. follow-same n m (spare n m (omega arith)) (target d q) k) s e)

pub spare_references_open_nothing : SpareReferencesOpenNothing
spare_references_open_nothing d g n h s = sym (spare d (allowed d) n h s (all_end d g s))

pub kinds_unfold : KindsUnfold
kinds_unfold d g s =
    let n = length d.definitions in
    kinds-agree (kinds_referred d (allowed d)) (kinds_beyond d) s
    (Refs-weaker _ _ (λ q k. follow-same d n (suc n) (spare d n (suc n) (omega arith)) (target d q) k) s (all_end d g s))

-- ---- where references alone lead

alone-refs : (P : List ℕ → Type 0) (s : Schema) (q : List ℕ) → reference_alone s ≡ Some q → Refs P s → P q
alone-refs P (boolean b) q e h = none-some q e
alone-refs P (object p ss ls ns) q e h = by _ p.reference e h.0
  where
    by : (b : Bool) (o : Option (List ℕ)) → (if b then o else None) ≡ Some q → Given P o → P q
    by true None e h = none-some q e
    by true (Some r) e h = subst P (some-same r q e) h
    by false o e h = none-some q e

module _ (d : Document) where
  ended : (s : Schema) → Refs (λ q. target d q ≡ None) s → option_and_then (target d) (reference_alone s) ≡ None
  ended s h = by (reference_alone s) refl
    where
      by : (o : Option (List ℕ)) → reference_alone s ≡ o → option_and_then (target d) o ≡ None
      by None e = refl
      by (Some q) e = alone-refs (λ q. target d q ≡ None) s q e h

  at-end : (n : ℕ) (s : Schema) → Ends d n s → option_and_then (target d) (reference_alone (led_within d n s)) ≡ None
  at-end zero s h = ended s h
  at-end (suc n) s h = by (reference_alone s) refl (at-end n)
    where
      stepped : (q : List ℕ) → reference_alone s ≡ Some q → (o : Option Schema) → target d q ≡ o → Given (Ends d n) o → ((s : Schema) → Ends d n s → option_and_then (target d) (reference_alone (led_within d n s)) ≡ None)
          → option_and_then (target d) (reference_alone (or_stays (led_within d n) s o)) ≡ None
      stepped q e None f k rec = ap (option_and_then (target d)) e ∙ f
      stepped q e (Some t) f k rec = rec t k

      by : (o : Option (List ℕ)) → reference_alone s ≡ o → ((s : Schema) → Ends d n s → option_and_then (target d) (reference_alone (led_within d n s)) ≡ None)
          → option_and_then (target d) (reference_alone (or_stays (led_within d n) s (option_and_then (target d) o))) ≡ None
      by None e rec = ap (option_and_then (target d)) e
      by (Some q) e rec = stepped q e (target d q) refl (alone-refs (λ q. Given (Ends d n) (target d q)) s q e h) rec

pub references_lead_to_the_end : ReferencesLeadToTheEnd
references_lead_to_the_end d g s = at-end d (allowed d) s (all_end d g s)

-- one step further is the same end
module _ (d : Document) where
  stay-same : (n m : ℕ) (s : Schema) → ((t : Schema) → Ends d n t → led_within d n t ≡ led_within d m t) → (o : Option Schema) → Given (Ends d n) o → or_stays (led_within d n) s o ≡ or_stays (led_within d m) s o
  stay-same n m s k None h = refl
  stay-same n m s k (Some t) h = k t h

  alone-given : (P : Schema → Type 0) (s : Schema) → Refs (λ q. Given P (target d q)) s → Given P (option_and_then (target d) (reference_alone s))
  alone-given P s h = by (reference_alone s) refl
    where
      by : (o : Option (List ℕ)) → reference_alone s ≡ o → Given P (option_and_then (target d) o)
      by None e = tt
      by (Some q) e = alone-refs (λ q. Given P (target d q)) s q e h

  led-spare : (n m : ℕ) → n ≤ m → (s : Schema) → Ends d n s → led_within d n s ≡ led_within d m s
  led-spare zero zero h s e = refl
  led-spare zero (suc m) h s e = sym (ap (or_stays (led_within d m) s) (ended d s e))
  led-spare (suc n) zero h s e = absurd (omega arith)
  led-spare (suc n) (suc m) h s e = stay-same n m s (led-spare n m (omega arith)) (option_and_then (target d) (reference_alone s)) (alone-given (Ends d n) s e)

  pub led-unfolds : IsGuarded d → (s : Schema) → led d s ≡ or_stays (led d) s (option_and_then (target d) (reference_alone s))
  led-unfolds g s =
      let n = length d.definitions in
      stay-same n (suc n) s (led-spare n (suc n) (omega arith)) (option_and_then (target d) (reference_alone s)) (alone-given (Ends d n) s (all_end d g s))
