-- Where the references of a schema end, spare references change nothing.
use Rattle.std.proofs.Common.{◌≡◌, ℕ, zero, suc, ◌≤◌, List, Bool, ◌&&◌, ◌||◌, not, Option, Some, None, refl, ap, sym, arith}
use Rattle.std.specs.Prelude.{◌==◌, if◌then◌else◌}
use Rattle.json_value.specs.Value.{Value}
use Rattle.schema_defs.specs.Schema.{Schema, Document, object, boolean, Same, MaybeSchema, MaybeSchemas, Schemas, no_same, same_value, no_schema, the_schema, no_list, the_list, no_more, schema}
use Rattle.schema_defs.specs.Texts.{Relations}
use Rattle.schema_defs.specs.Layer.{Parts, judge, judge_same, judge_all_of, judge_any_of, judge_one_of, judge_not, judge_all, judge_any, judge_count, if_given, plain_agrees, parts_agree}
use Rattle.schema_defs.specs.Admits.{judge_within, target, follow}

abbrev pub Given : {A : Type 0} → (A → Type 0) → Option A → Type 0
Given P None = Unit {0}
Given P (Some x) = P x

-- P holds of each reference of the same value
module _ (P : List ℕ → Type 0) where
  abbrev mutual
    pub Refs : Schema → Type 0
    Refs (boolean b) = Unit {0}
    Refs (object p ss ls ns) = Given P p.reference × RefsSame ss

    pub RefsSame : Same → Type 0
    RefsSame no_same = Unit {0}
    RefsSame (same_value all any one none conditional) = RefsLists all × RefsLists any × RefsLists one × RefsMaybe none

    pub RefsLists : MaybeSchemas → Type 0
    RefsLists no_list = Unit {0}
    RefsLists (the_list ss) = RefsAll ss

    pub RefsMaybe : MaybeSchema → Type 0
    RefsMaybe no_schema = Unit {0}
    RefsMaybe (the_schema s) = Refs s

    pub RefsAll : Schemas → Type 0
    RefsAll no_more = Unit {0}
    RefsAll (schema s ss) = Refs s × RefsAll ss

module _ (r : Relations) (v : Value) (parts : Parts) (f g : List ℕ → Bool) where
  abbrev Agree : List ℕ → Type 0
  Agree q = f q ≡ g q

  given : (o : Option (List ℕ)) → Given Agree o → if_given f o ≡ if_given g o
  given None h = refl
  given (Some q) h = h

  mutual
    pub judge-follows : (s : Schema) → Refs Agree s → judge r v parts f s ≡ judge r v parts g s
    judge-follows (boolean b) h = refl
    judge-follows (object p ss ls ns) h =
        λ i. plain_agrees r p v && given p.reference h.0 i && parts_agree r v parts ls ns && same-follows ss h.1 i

    same-follows : (ss : Same) → RefsSame Agree ss → judge_same r v parts f ss ≡ judge_same r v parts g ss
    same-follows no_same h = refl
    same-follows (same_value all any one none conditional) h =
        λ i. all_of all h.0 i && any_of any h.1 i && one_of one h.2 i && none_of none h.3 i

    all_of : (m : MaybeSchemas) → RefsLists Agree m → judge_all_of r v parts f m ≡ judge_all_of r v parts g m
    all_of no_list h = refl
    all_of (the_list ss) h = each ss h

    any_of : (m : MaybeSchemas) → RefsLists Agree m → judge_any_of r v parts f m ≡ judge_any_of r v parts g m
    any_of no_list h = refl
    any_of (the_list ss) h = some ss h

    one_of : (m : MaybeSchemas) → RefsLists Agree m → judge_one_of r v parts f m ≡ judge_one_of r v parts g m
    one_of no_list h = refl
    one_of (the_list ss) h = ap (λ n. n == 1) (count ss h)

    none_of : (m : MaybeSchema) → RefsMaybe Agree m → judge_not r v parts f m ≡ judge_not r v parts g m
    none_of no_schema h = refl
    none_of (the_schema s) h = ap not (judge-follows s h)

    each : (ss : Schemas) → RefsAll Agree ss → judge_all r v parts f ss ≡ judge_all r v parts g ss
    each no_more h = refl
    each (schema s ss) h = λ i. judge-follows s h.0 i && each ss h.1 i

    some : (ss : Schemas) → RefsAll Agree ss → judge_any r v parts f ss ≡ judge_any r v parts g ss
    some no_more h = refl
    some (schema s ss) h = λ i. judge-follows s h.0 i || some ss h.1 i

    count : (ss : Schemas) → RefsAll Agree ss → judge_count r v parts f ss ≡ judge_count r v parts g ss
    count no_more h = refl
    count (schema s ss) h = λ i. if judge-follows s h.0 i then suc (count ss h.1 i) else count ss h.1 i

-- a weaker fact of each reference
module _ (P Q : List ℕ → Type 0) (w : (q : List ℕ) → P q → Q q) where
  given_weaker : (o : Option (List ℕ)) → Given P o → Given Q o
  given_weaker None h = tt
  given_weaker (Some q) h = w q h

  mutual
    pub Refs-weaker : (s : Schema) → Refs P s → Refs Q s
    Refs-weaker (boolean b) h = tt
    Refs-weaker (object p ss ls ns) h = (given_weaker p.reference h.0, same_weaker ss h.1)

    same_weaker : (ss : Same) → RefsSame P ss → RefsSame Q ss
    same_weaker no_same h = tt
    same_weaker (same_value all any one none conditional) h = (lists_weaker all h.0, lists_weaker any h.1, lists_weaker one h.2, maybe_weaker none h.3)

    lists_weaker : (m : MaybeSchemas) → RefsLists P m → RefsLists Q m
    lists_weaker no_list h = tt
    lists_weaker (the_list ss) h = all_weaker ss h

    maybe_weaker : (m : MaybeSchema) → RefsMaybe P m → RefsMaybe Q m
    maybe_weaker no_schema h = tt
    maybe_weaker (the_schema s) h = Refs-weaker s h

    all_weaker : (ss : Schemas) → RefsAll P ss → RefsAll Q ss
    all_weaker no_more h = tt
    all_weaker (schema s ss) h = (Refs-weaker s h.0, all_weaker ss h.1)

module _ (d : Document) where
  -- each walk of references from s, at the same value, ends within n
  abbrev pub Ends : ℕ → Schema → Type 0
  Ends zero s = Refs (λ q. target d q ≡ None) s
  Ends (suc n) s = Refs (λ q. Given (Ends n) (target d q)) s

  module _ (r : Relations) (v : Value) (parts : Parts) where
    followed : (n m : ℕ) → ((s : Schema) → Ends n s → judge_within r d v parts n s ≡ judge_within r d v parts m s) → (o : Option Schema) → Given (Ends n) o → follow (judge_within r d v parts n) o ≡ follow (judge_within r d v parts m) o
    followed n m k None h = refl
    followed n m k (Some s) h = k s h

    pub spare : (n m : ℕ) → n ≤ m → (s : Schema) → Ends n s → judge_within r d v parts n s ≡ judge_within r d v parts m s
    spare zero zero h s e = refl
    spare zero (suc m) h s e = judge-follows r v parts _ _ s (Refs-weaker _ _ (λ q k. ap (follow (judge_within r d v parts m)) (sym k)) s e)
    spare (suc n) zero h s e = absurd (omega arith)
    spare (suc n) (suc m) h s e = judge-follows r v parts _ _ s (Refs-weaker _ _ (λ q k. followed n m (spare n m (omega arith)) (target d q) k) s e)
