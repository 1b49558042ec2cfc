-- The laws, by recursion on the steps that are left.
use Rattle.std.proofs.Common.{◌≡◌, ℕ, zero, suc, ◌+◌, List, [], ◌∷◌, length, Bool, true, false, ◌&&◌, ◌||◌, not, Option, Some, None, refl, ap, sym, ◌∙◌, subst, bytes_eq, arith}
use Rattle.std.specs.Prelude.{if◌then◌else◌, ◌==◌, count_by, option_map}
use Rattle.std.specs.List.{list_any, list_all}
use Rattle.std.proofs.lemmas.List.Sums.{sum_by-cons}
use Rattle.std.proofs.lemmas.Slice.Eq.{bytes_eq-Decides}
use Rattle.json_value.specs.Value as value
use Rattle.json_value.specs.Value.{Value, Items, Members, null, number, fraction, text, list, item, no_items as end_items, member, no_members, item_count, has_name, is_whole, all_whole, members_whole}
use Rattle.schema_defs.specs.Texts.{Relations, IsLawful}
use Rattle.schema_defs.specs.Schema.{Texts, Plain, Schema, boolean, object, Same, no_same, same_value, Lists, no_lists, Named, no_named, MaybeSchema, no_schema, the_schema, MaybeSchemas, no_list, the_list, Schemas, schema_list, schemas, Definition, Document}
use Rattle.schema_defs.specs.Layer.{Parts, if_given, plain_agrees, parts_agree, judge_same, judge_all_of, judge_any_of, judge_one_of, judge_not}
use Rattle.schema_defs.specs.Admits.{admits, admits-level, admits_with, item_judges, member_parts, counts_as_absent, parts_of, allowed, target, follow, defined, defined_as, definition_name, is_root_reference}
use Rattle.schema_defs.specs.Walks.{IsGuarded}
use Rattle.schema_defs.specs.Laws.{reference_admits}
use Rattle.schema_defs.proofs.Unfold.{unfolds}
use Rattle.schema_defs.proofs.Guarded.{spare_references_say_nothing}
use Rattle.merge_defs.specs.Outcome.{Outcome}
use Rattle.merge_defs.specs.Alike.{same_schemas, same_texts, wholly}
use Rattle.schema_defs.specs.declared.Setting.{Setting}
use Rattle.schema_defs.specs.declared.Setting.TheVariants.{Strict, NullAbsent}
use Rattle.enum_defs.specs.Kinds.{kinds}
use Rattle.enum_defs.specs.Exclusive.{is_disjoint, are_apart}
use Rattle.merge_defs.specs.Objects.{no_plain, is_false, or_false}
use Rattle.merge_defs.specs.Members.{only_same}
use Rattle.merge_defs.specs.Less.{one_name_alone, merge_schemas}
use Rattle.merge_defs.specs.Merge.{with_subschemas_layer, by_references, join_layer, less_layer, less_object, below, reference_to, join, less}
use Rattle.merge_laws.specs.Laws.{Meets, IsProper, ProperSame, ProperAll, ProperDocument, ProperDefinitions, MergesAdmitBoth}
use Rattle.merge_laws.proofs.Steps.{meets-wanted, no_no, and-1, and-2, Each}
use Rattle.merge_laws.proofs.Objects.{IsFalse, IsJudge}
use Rattle.merge_laws.proofs.Absent.{IsMember}
use Rattle.merge_laws.proofs.Members.{JudgesSame, count, same_says, each_says, any_says, one_says, not_says}
use Rattle.merge_laws.proofs.Facts.{item_judges_of, member_judges_of, Coherent}
use Rattle.merge_laws.proofs.Whole.{NumbersMeet, by_references_meet, join_layer_meets, with_subschemas_meet}
use Rattle.merge_laws.proofs.Less.{less_layer_meets, merge_schemas_meet}

and-true : (b : Bool) → (b && true) ≡ b
and-true true = refl
and-true false = refl

list_of : (ss : List Schema) → schema_list (schemas ss) ≡ ss
list_of [] = refl
list_of (s ∷ ss) = ap (λ x. s ∷ x) (list_of ss)

pub counted : (f : Schema → Bool) (ss : List Schema) → count_by f ss ≡ count f ss
counted f [] = refl
counted f (s ∷ ss) = sum_by-cons (λ x. if f x then 1 else 0) s ss ∙ cases (f s) (counted f ss)
  where
    cases : (b : Bool) → count_by f ss ≡ count f ss → (if b then 1 else 0) + count_by f ss ≡ (if b then suc (count f ss) else count f ss)
    cases true h = omega (arith, h)
    cases false h = omega (arith, h)

module _ (r : Relations) (d : Document) where
  no_plain_says : (v : Value) → plain_agrees r no_plain v ≡ true
  no_plain_says (number z) = refl
  no_plain_says (text s) = refl
  no_plain_says _ = refl

  reference_plain_says : (v : Value) (q : List ℕ) → plain_agrees r (record no_plain { reference = Some q }) v ≡ true
  reference_plain_says (number z) q = refl
  reference_plain_says (text s) q = refl
  reference_plain_says _ q = refl

  no_parts_say : (v : Value) (parts : Parts) → parts_agree r v parts no_lists no_named ≡ true
  no_parts_say (list xs) parts = refl
  no_parts_say (value.object ms) parts = refl
  no_parts_say _ parts = refl

  drop : (b : Bool) → (((true && b) && true) && true) ≡ b
  drop true = refl
  drop false = refl

  -- in a guarded document a reference says what its target says
  reference_follows : IsGuarded d → (v : Value) (q : List ℕ) → reference_admits r d v q ≡ follow (admits r d v) (target d q)
  reference_follows guarded v q =
      sym (drop (reference_admits r d v q))
      ∙ (λ i. ((sym (reference_plain_says v q) i && reference_admits r d v q) && sym (no_parts_say v (parts_of r d v)) i) && true)
      ∙ sym ((unfolds r d).objects v (record no_plain { reference = Some q }) no_same no_lists no_named)
      ∙ sym (spare_references_say_nothing r d guarded (suc (allowed d)) (omega arith) v (reference_to q))
      ∙ (λ i. ((reference_plain_says v q i && follow (admits_with r d (allowed d) v) (target d q)) && no_parts_say v (parts_of r d v) i) && true)
      ∙ drop (follow (admits_with r d (allowed d) v) (target d q))
      ∙ ap (λ j. follow j (target d q)) (sym (admits-level r d v))

  same_form : (v : Value) (ss : Same) → judge_same r v (parts_of r d v) (reference_admits r d v) ss ≡ same_says (admits r d v) ss
  same_form v no_same = refl
  same_form v (same_value all any one none c) = λ i. ((all_form all i && any_form any i) && one_form one i) && not_form none i
    where
      all_form : (all : MaybeSchemas) → judge_all_of r v (parts_of r d v) (reference_admits r d v) all ≡ each_says (admits r d v) all
      all_form no_list = refl
      all_form (the_list ss) = (unfolds r d).all_of v ss

      any_form : (any : MaybeSchemas) → judge_any_of r v (parts_of r d v) (reference_admits r d v) any ≡ any_says (admits r d v) any
      any_form no_list = refl
      any_form (the_list ss) = (unfolds r d).any_of v ss

      one_form : (one : MaybeSchemas) → judge_one_of r v (parts_of r d v) (reference_admits r d v) one ≡ one_says (admits r d v) one
      one_form no_list = refl
      one_form (the_list ss) = (unfolds r d).one_of v ss ∙ ap (λ n. n == 1) (counted (admits r d v) (schema_list ss))

      not_form : (none : MaybeSchema) → judge_not r v (parts_of r d v) (reference_admits r d v) none ≡ not_says (admits r d v) none
      not_form no_schema = refl
      not_form (the_schema s) = (unfolds r d).negation v s

  -- ---- judges of a guarded document

  module _ (guarded : IsGuarded d) where
    pub form : (v : Value) (p : Plain) (ss : Same) (ls : Lists) (ns : Named)
        → admits r d v (object p ss ls ns) ≡ (((plain_agrees r p v && if_given (λ q. follow (admits r d v) (target d q)) p.reference) && parts_agree r v (parts_of r d v) ls ns) && same_says (admits r d v) ss)
    form v p ss ls ns = (unfolds r d).objects v p ss ls ns ∙ (λ i. ((plain_agrees r p v && given p.reference i) && parts_agree r v (parts_of r d v) ls ns) && same_form v ss i)
      where
        given : (o : Option (List ℕ)) → if_given (reference_admits r d v) o ≡ if_given (λ q. follow (admits r d v) (target d q)) o
        given None = refl
        given (Some q) = reference_follows guarded v q

    pub only_form : (v : Value) (ss : Same) → admits r d v (object no_plain ss no_lists no_named) ≡ same_says (admits r d v) ss
    only_form v ss = form v no_plain ss no_lists no_named ∙ (λ i. ((no_plain_says v i && true) && no_parts_say v (parts_of r d v) i) && same_says (admits r d v) ss)

    tail : (b : Bool) → (((b && true) && true) && true) ≡ b
    tail true = refl
    tail false = refl

    tail-2 : (b : Bool) → (((true && b) && true) && true) ≡ b
    tail-2 true = refl
    tail-2 false = refl

    same_judge : ((v : Value) (s t : Schema) → wholly s t ≡ true → admits r d v s ≡ admits r d v t) → (v : Value) → JudgesSame (admits r d v)
    same_judge w v = record {
      of_all = λ ss. only_form v _ ∙ tail (list_all (admits r d v) (schema_list (schemas ss))) ∙ ap (list_all (admits r d v)) (list_of ss);
      of_any = λ ss. only_form v _ ∙ tail-2 (list_any (admits r d v) (schema_list (schemas ss))) ∙ ap (list_any (admits r d v)) (list_of ss);
      of_one = λ ss. only_form v _ ∙ and-true (count (admits r d v) (schema_list (schemas ss)) == 1) ∙ ap (λ x. count (admits r d v) x == 1) (list_of ss);
      of_not = λ s. only_form v _;
      of_wholly = w v;
    }

    coherent : (v : Value) → Coherent v (parts_of r d v)
    coherent null = tt
    coherent (value.boolean b) = tt
    coherent (number z) = tt
    coherent fraction = tt
    coherent (text s) = tt
    coherent (list xs) = go xs
      where
        go : (xs : Items) → length (item_judges r d xs) ≡ item_count xs
        go end_items = refl
        go (item v vs) = ap suc (go vs)
    coherent (value.object ms) = λ n h. go n ms h
      where
        go : (n : List ℕ) (ms : Members) → has_name n ms ≡ true → list_any (λ m. bytes_eq m.name n) (member_parts r d ms) ≡ true
        go n no_members h = no_no h
        go n (member k v ms) h = cases (bytes_eq n k) refl h (go n ms)
          where
            or-right : {b : Bool} (a : Bool) → b ≡ true → (a || b) ≡ true
            or-right true h = refl
            or-right false h = h

            cases : (b : Bool) → bytes_eq n k ≡ b → (b || has_name n ms) ≡ true → (has_name n ms ≡ true → list_any (λ m. bytes_eq m.name n) (member_parts r d ms) ≡ true) → (bytes_eq k n || list_any (λ m. bytes_eq m.name n) (member_parts r d ms)) ≡ true
            cases true e h g = ap (λ b. b || list_any (λ m. bytes_eq m.name n) (member_parts r d ms)) ((bytes_eq-Decides k n).1 (sym ((bytes_eq-Decides n k).0 e)))
            cases false e h g = or-right (bytes_eq k n) (g h)

    proper_defined : (n : List ℕ) (ds : List Definition) → ProperDefinitions ds → (e : Definition) → defined n ds ≡ Some e → IsProper e.body
    proper_defined n [] p e h = absurd (none_some h)
      where
        none_some : None ≡ Some e → ⊥
        none_some h = cc
    proper_defined n (f ∷ fs) p e h = cases (bytes_eq n f.name) h (proper_defined n fs p.1 e)
      where
        cases : (b : Bool) → (if b then Some f else defined n fs) ≡ Some e → (defined n fs ≡ Some e → IsProper e.body) → IsProper e.body
        cases true h g = let q : f ≡ e = cc in subst (λ x. IsProper x.body) q p.0
        cases false h g = g h

    module _ (proper : ProperDocument d) where
      pub proper_target : (q : List ℕ) (t : Schema) → target d q ≡ Some t → IsProper t
      proper_target q t h = cases (is_root_reference q) h
        where
          some_same : (s : Schema) → Some s ≡ Some t → IsProper s → IsProper t
          some_same s e p = let q : s ≡ t = cc in subst IsProper q p

          body : (o : Option Definition) → ((e : Definition) → o ≡ Some e → IsProper e.body) → (elim o [ Some e ↦ Some e.body | None ↦ None ]) ≡ Some t → IsProper t
          body None k e = absurd (none_some e)
            where
              none_some : None ≡ Some t → ⊥
              none_some h = cc
          body (Some x) k e = some_same x.body e (k x refl)

          named_as : (o : Option (List ℕ)) → (e : Definition) → defined_as d o ≡ Some e → IsProper e.body
          named_as None e h = absurd (none_some h)
            where
              none_some : None ≡ Some e → ⊥
              none_some h = cc
          named_as (Some n) e h = proper_defined n d.definitions proper.1 e h

          cases : (b : Bool) → (if b then Some d.root else option_map (λ e. e.body) (defined_as d (definition_name q))) ≡ Some t → IsProper t
          cases true e = some_same d.root e proper.0
          cases false e = body (defined_as d (definition_name q)) (named_as (definition_name q)) (as_elim (defined_as d (definition_name q)) e)
            where
              as_elim : (o : Option Definition) → option_map (λ e. e.body) o ≡ Some t → (elim o [ Some e ↦ Some e.body | None ↦ None ]) ≡ Some t
              as_elim None h = h
              as_elim (Some x) h = h

-- ---- what is owed yet, of numbers, schemas that are alike, kinds and one required name

pub record Owed (r : Relations) (d : Document) : Type 0 where
  pub numbers : NumbersMeet
  pub texts : (x y : Texts) → same_texts x y ≡ true → x ≡ y
  pub whole_alike : (v : Value) (s t : Schema) → wholly s t ≡ true → admits r d v s ≡ admits r d v t
  pub all_alike : (v : Value) (s t : Schema) → same_schemas s t ≡ true → admits r d v s ≡ admits r d v t
  pub apart : (v : Value) (s t : Schema) → are_apart d s t ≡ true → admits r d v s ≡ true → admits r d v t ≡ true → ⊥
  pub disjoint : (v : Value) (s t : Schema) → is_disjoint (kinds d s) (kinds d t) ≡ true → admits r d v s ≡ true → admits r d v t ≡ true → ⊥
  pub one_name : (v : Value) (join less : Schema → Schema → Outcome Schema) (p : Plain) (ss : Same) (ls : Lists) (ns : Named) (q : Plain) (tt' : Same) (ms : Lists) (os : Named)
      → IsProper (object p ss ls ns) → IsProper (object q tt' ms os) → counts_as_absent d.setting null ≡ false → one_name_alone p ns q tt' ms os ≡ true
      → Meets IsProper (admits r d v (object p ss ls ns) && not (admits r d v (object q tt' ms os))) (admits r d v) (less_object d join less p ss ls ns q tt' ms os)

module _ (r : Relations) (lawful : IsLawful r) (d : Document) (guarded : IsGuarded d) (proper : ProperDocument d) (owed : Owed r d) where
  -- a merge with false is false
  abbrev pub Closed : (Schema → Schema → Outcome Schema) → Type 0
  Closed join = (a b : Schema) → (is_false a || is_false b) ≡ true → IsFalse (or_false join a b)

  -- at a value
  pub record Lawful (join less : Schema → Schema → Outcome Schema) (v : Value) : Type 0 where
    pub merges : (a b : Schema) → IsProper a → IsProper b → Meets IsProper (admits r d v a && admits r d v b) (admits r d v) (join a b)
    pub takes : (a b : Schema) → IsProper a → IsProper b → Meets IsProper (admits r d v a && not (admits r d v b)) (admits r d v) (less a b)
    pub closes : Closed join

  closed : (join less : Schema → Schema → Outcome Schema) → Closed (λ a b. join_layer d join less a b)
  closed join less (boolean false) b h = refl
  closed join less (boolean true) b h = h
  closed join less (object p ss ls ns) (boolean false) h = refl
  closed join less (object p ss ls ns) (boolean true) h = no_no h
  closed join less (object p ss ls ns) (object q tt' ms os) h = no_no h

  -- where null does not stand for an absent member, nothing does
  present : (s : Setting) → counts_as_absent s null ≡ false → (v : Value) → counts_as_absent s v ≡ false
  present Strict h v = refl
  present NullAbsent h v = no_no (sym h)

  module _ (join' less' : Schema → Schema → Outcome Schema) (all : (v : Value) → is_whole v ≡ true → Lawful join' less' v) where
    judges : (v : Value) → is_whole v ≡ true → IsJudge join' (admits r d v)
    judges v w = record {
      merges = (all v w).merges;
      closes = (all v w).closes;
      at_boolean = (unfolds r d).booleans v;
      of_two = λ s t. (same_judge r d guarded owed.whole_alike v).of_all (s ∷ t ∷ []) ∙ ap (λ b. admits r d v s && b) (and-true (admits r d v t));
      of_same = owed.all_alike v;
    }

    item_all : (xs : Items) → all_whole xs ≡ true → Each (IsJudge join') (item_judges r d xs)
    item_all end_items h = tt
    item_all (item v vs) h = (judges v (and-1 (is_whole v) _ h), item_all vs (and-2 (is_whole v) _ h))

    items_of : (v : Value) → is_whole v ≡ true → Each (IsJudge join') (item_judges_of v (parts_of r d v))
    items_of (list xs) w = item_all xs w
    items_of _ w = tt

    member_all : (ms : Members) → members_whole ms ≡ true → Each (IsMember join' (counts_as_absent d.setting null)) (member_parts r d ms)
    member_all no_members h = tt
    member_all (member k v ms) h = ((judges v (and-1 (is_whole v) _ h), λ e. present d.setting e v), member_all ms (and-2 (is_whole v) _ h))

    members_of : (v : Value) → is_whole v ≡ true → Each (IsMember join' (counts_as_absent d.setting null)) (member_judges_of v (parts_of r d v))
    members_of (value.object ms) w = member_all ms w
    members_of _ w = tt

    pub with_layer : (v : Value) → is_whole v ≡ true → (b : Schema) (ss : Same) → IsProper b → ProperSame ss → Meets IsProper (admits r d v b && admits r d v (only_same ss)) (admits r d v) (with_subschemas_layer d join' less' b ss)
    with_layer v w b ss p q = meets-wanted IsProper (admits r d v b && same_says (admits r d v) ss) _ (admits r d v) (with_subschemas_layer d join' less' b ss) (ap (λ t. admits r d v b && t) (sym (only_form r d guarded v ss)))
        (with_subschemas_meet r lawful owed.numbers owed.texts d (proper_target r d guarded proper) join' less' v w (parts_of r d v) (coherent r d guarded v) (admits r d v) (judges v w) (all v w).takes
        (items_of v w) (members_of v w) (same_judge r d guarded owed.whole_alike v) (owed.apart v) (form r d guarded v) b ss p q)

    pub layer : (v : Value) → is_whole v ≡ true → Lawful (λ a b. join_layer d join' less' a b) (λ a b. less_layer d join' less' a b) v
    layer v w = record {
      merges = join_layer_meets r lawful owed.numbers owed.texts d (proper_target r d guarded proper) join' less' v w (parts_of r d v) (coherent r d guarded v) (admits r d v) (judges v w) (all v w).takes
          (items_of v w) (members_of v w) (same_judge r d guarded owed.whole_alike v) (owed.apart v) (form r d guarded v);
      takes = less_layer_meets r d join' less' v (parts_of r d v) (admits r d v) (all v w).merges (all v w).takes ((unfolds r d).booleans v) (owed.disjoint v) (form r d guarded v) (owed.one_name v join' less');
      closes = closed join' less';
    }

    -- objects, by their references
    pub references : (v : Value) → is_whole v ≡ true → (p : Plain) (ss : Same) (ls : Lists) (ns : Named) (q : Plain) (tt' : Same) (ms : Lists) (os : Named) → IsProper (object p ss ls ns) → IsProper (object q tt' ms os)
        → (f g : Option (List ℕ)) → p.reference ≡ f → q.reference ≡ g
        → Meets IsProper (admits r d v (object p ss ls ns) && admits r d v (object q tt' ms os)) (admits r d v) (by_references d join' less' p ss ls ns q tt' ms os f g)
    references v w = by_references_meet r lawful owed.numbers owed.texts d (proper_target r d guarded proper) join' less' v w (parts_of r d v) (coherent r d guarded v) (admits r d v) (judges v w) (all v w).takes
        (items_of v w) (members_of v w) (same_judge r d guarded owed.whole_alike v) (owed.apart v) (form r d guarded v)

    -- several, from the left
    pub gathers : (v : Value) → is_whole v ≡ true → (ss : Schemas) → ProperAll ss → Meets IsProper (list_all (admits r d v) (schema_list ss)) (admits r d v) (merge_schemas join' less' ss)
    gathers v w ss p = merge_schemas_meet d join' less' (admits r d v) (all v w).merges (all v w).takes ((unfolds r d).booleans v) ss p

  merger : (n : ℕ) (v : Value) → is_whole v ≡ true → Lawful (below d n).join (below d n).less v
  merger zero v w = record { merges = λ a b p q. tt; takes = λ a b p q. tt; closes = λ a b h. tt }
  merger (suc n) v w = layer (below d n).join (below d n).less (merger n) v w

  pub merges_admit_both : (v : Value) → is_whole v ≡ true → MergesAdmitBoth r d v
  merges_admit_both v w = record {
    joins = λ n. (layer (below d n).join (below d n).less (merger n) v w).merges;
    with_all = λ n. with_layer (below d n).join (below d n).less (merger n) v w;
    gathers = λ n ss p. merge_schemas_meet d (join d n) (less d n) (admits r d v) (layer (below d n).join (below d n).less (merger n) v w).merges (layer (below d n).join (below d n).less (merger n) v w).takes ((unfolds r d).booleans v) ss p;
    leaves = λ n. (layer (below d n).join (below d n).less (merger n) v w).takes;
  }
