-- What is left of a schema, where another is taken away, meets what the one says and the other does not.
use Rattle.std.proofs.Common.{◌≡◌, ℕ, List, [], ◌∷◌, ◌++◌, Bool, true, false, ◌&&◌, ◌||◌, not, Option, Some, None, is_some, refl, ap, sym, ◌∙◌, subst, bytes_eq}
use Rattle.std.specs.Prelude.{if◌then◌else◌, filter, nat_le}
use Rattle.std.specs.List.{list_any, list_all}
use Rattle.json_value.specs.Value as value
use Rattle.json_value.specs.Value.{Value, null, same}
use Rattle.schema_defs.specs.Texts.{Relations}
use Rattle.schema_defs.specs.Schema.{Plain, Schema, boolean, object, Same, no_same, same_value, Lists, no_lists, lists, Named, no_named, named, MaybeSchema, no_schema, the_schema, MaybeSchemas, no_list, the_list, Schemas, no_more, schema, schema_list, Properties, no_properties, property, Document}
use Rattle.schema_defs.specs.Layer.{Judge, Parts, if_given, types_agree, is_listed, numbers_agree, number_format_agrees, texts_agree, text_format_agrees, plain_agrees, of_kind_agrees, parts_agree, property_at}
use Rattle.schema_defs.specs.Admits.{counts_as_absent, target, follow}
use Rattle.enum_defs.specs.Words.{is_name, names_of, without_lists, without_named, without_same}
use Rattle.merge_defs.specs.Outcome.{Outcome, fault, never, answer, Note, narrowed, widened, has_way, noted, note_if, both_ways, of_subtract, and_then, mapped, or_else, turned, other_way, same_way, Way, unsupported, conditional, subtracting}
use Rattle.merge_defs.specs.Alike.{is_absent}
use Rattle.enum_defs.specs.Kinds.{kinds}
use Rattle.enum_defs.specs.Exclusive.{is_disjoint}
use Rattle.merge_defs.specs.Objects.{all_names, is_false}
use Rattle.merge_defs.specs.Less.{left_values, less_values, less_property, less_name, less_properties, unless_needed, less_named, turned_outcome, merge_from, merge_schemas, less_each, less_merged, less_any, less_not, less_all, less_same, subschema_count, is_conditional, no_leaves, values_alone, one_name_alone, kinds_apart, is_one_subschema, subschema_alone}
use Rattle.merge_defs.specs.Merge.{is_exact, less_object, less_layer}
use Rattle.merge_laws.specs.Laws.{Meets, IsProper, ProperPlain, ProperSame, ProperNamed, ProperProperties, ProperMaybe, ProperAll, ProperList}
use Rattle.merge_laws.proofs.Steps.{no_no, yes_no, and-1, and-2, and-in, no_way-1, no_way-2, Always, always-meets, meets-exactly, meets-said, meets-wanted, meets-noted, meets-in, meets-then, meets-both_ways}
use Rattle.merge_laws.proofs.Leaves.{and-comm, listed_filter}
use Rattle.merge_laws.proofs.Members.{same_says}

-- ---- what is answered is proper

always-then : {A B : Type 0} (P : A → Type 0) (Q : B → Type 0) (o : Outcome A) (k : A → Outcome B) → Always P o → ((a : A) → P a → Always Q (k a)) → Always Q (and_then o k)
always-then P Q (fault f) k h g = tt
always-then P Q (never ns) k h g = tt
always-then P Q (answer ns a) k h g = go (k a) (g a h)
  where
    go : (o : Outcome _) → Always Q o → Always Q (noted ns o)
    go (fault f) h = tt
    go (never ms) h = tt
    go (answer ms b) h = h

always-mapped : {A B : Type 0} (P : A → Type 0) (Q : B → Type 0) (f : A → B) (o : Outcome A) → Always P o → ((a : A) → P a → Q (f a)) → Always Q (mapped f o)
always-mapped P Q f (fault e) h g = tt
always-mapped P Q f (never ns) h g = tt
always-mapped P Q f (answer ns a) h g = g a h

always-or_else : {A : Type 0} (P : A → Type 0) (d : A) (o : Outcome A) → P d → Always P o → Always P (or_else d o)
always-or_else P d (fault f) p h = tt
always-or_else P d (never ns) p h = p
always-or_else P d (answer ns a) p h = h

-- ---- turned notes

turned_way : (w : Way) (ns : List Note) → has_way w (turned ns) ≡ has_way (other_way w) ns
turned_way w [] = refl
turned_way w (n ∷ ns) = λ i. one w n.way i || turned_way w ns i
  where
    one : (w u : Way) → same_way w (other_way u) ≡ same_way (other_way w) u
    one narrowed narrowed = refl
    one narrowed widened = refl
    one widened narrowed = refl
    one widened widened = refl

module _ (d : Document) (join less : Schema → Schema → Outcome Schema) (J : Judge)
    (merges : (a b : Schema) → IsProper a → IsProper b → Meets IsProper (J a && J b) J (join a b))
    (takes : (a b : Schema) → IsProper a → IsProper b → Meets IsProper (J a && not (J b)) J (less a b))
    (at_boolean : (b : Bool) → J (boolean b) ≡ b)
  where
    and-yes : (b : Bool) → b ≡ (b && true)
    and-yes true = refl
    and-yes false = refl

    and-assoc : (a b c : Bool) → ((a && b) && c) ≡ (a && (b && c))
    and-assoc true b c = refl
    and-assoc false b c = refl

    step : (x y : Bool) (o : Outcome Schema) (k : Schema → Outcome Schema) → Meets IsProper x J o → ((b : Schema) → IsProper b → Meets IsProper (J b && y) J (k b)) → Meets IsProper (x && y) J (and_then o k)
    step x y o k m n = meets-then IsProper IsProper (x && y) (λ b. J b && y) J o k
        (meets-said IsProper IsProper (y && x) (x && y) (λ b. y && J b) (λ b. J b && y) o (meets-in IsProper y x J o m) (λ a p. p) (and-comm y x) (λ a p. and-comm y (J a))) n

    merge_from_meets : (s : Schema) (ts : Schemas) → IsProper s → ProperAll ts → Meets IsProper (J s && list_all J (schema_list ts)) J (merge_from join less s ts)
    merge_from_meets s no_more p q = meets-exactly IsProper (J s && true) J [] s p (and-yes (J s))
    merge_from_meets s (schema t ts) p q = meets-wanted IsProper ((J s && J t) && list_all J (schema_list ts)) (J s && (J t && list_all J (schema_list ts))) J (merge_from join less s (schema t ts)) (and-assoc (J s) (J t) _)
        (step (J s && J t) (list_all J (schema_list ts)) (join s t) (λ m. merge_from join less m ts) (merges s t p q.0) (λ b pb. merge_from_meets b ts pb q.1))

    pub merge_schemas_meet : (ss : Schemas) → ProperAll ss → Meets IsProper (list_all J (schema_list ss)) J (merge_schemas join less ss)
    merge_schemas_meet no_more p = meets-exactly IsProper true J [] (boolean true) tt (at_boolean true)
    merge_schemas_meet (schema s ss) p = merge_from_meets s ss p.0 p.1

    less_each_meets : (ts : Schemas) (s : Schema) → ProperAll ts → IsProper s → Meets IsProper (J s && not (list_any J (schema_list ts))) J (less_each join less ts s)
    less_each_meets no_more s p q = meets-exactly IsProper (J s && true) J [] s q (and-yes (J s))
    less_each_meets (schema t ts) s p q = meets-wanted IsProper ((J s && not (J t)) && not (list_any J (schema_list ts))) (J s && not (J t || list_any J (schema_list ts))) J (less_each join less (schema t ts) s) (turn (J s) (J t) (list_any J (schema_list ts)))
        (step (J s && not (J t)) (not (list_any J (schema_list ts))) (less s t) (less_each join less ts) (takes s t q p.0) (λ b pb. less_each_meets ts b p.1 pb))
      where
        turn : (a b c : Bool) → ((a && not b) && not c) ≡ (a && not (b || c))
        turn false b c = refl
        turn true true c = refl
        turn true false c = refl

    not_turn : (a : Bool) → not a ≡ true → a ≡ false
    not_turn true h = sym h
    not_turn false h = refl

    less_merged_meets : (s : Schema) (o : Outcome Schema) (w : Bool) → IsProper s → Meets IsProper w J o → Meets IsProper (J s && not w) J (less_merged join less s (turned_outcome o))
    less_merged_meets s (fault f) w p m = tt
    less_merged_meets s (never ns) w p m = (p, (λ n t. and-1 (J s) _ t), λ n t. and-in (J s) (not w) t (none w refl (sym (turned_way widened ns) ∙ n)))
      where
        none : (b : Bool) → w ≡ b → has_way narrowed ns ≡ false → not b ≡ true
        none true e n = absurd (m n e)
        none false e n = refl
    less_merged_meets s (answer ns x) w p m = go (less s x) (takes s x p m.0)
      where
        -- without a Narrowed note here the merge has no Widened one, and the other way round
        smaller : has_way widened ns ≡ false → not w ≡ true → not (J x) ≡ true
        smaller n h = cases (J x) refl
          where
            cases : (b : Bool) → J x ≡ b → not b ≡ true
            cases true e = absurd (yes_no w (not_turn w h) (m.2 n e))
            cases false e = refl

        larger : has_way narrowed ns ≡ false → not (J x) ≡ true → not w ≡ true
        larger n h = cases w refl
          where
            cases : (b : Bool) → w ≡ b → not b ≡ true
            cases true e = absurd (yes_no (J x) (not_turn (J x) h) (m.1 n e))
            cases false e = refl

        narrow_first : (ms : List Note) → has_way narrowed (turned ns ++ ms) ≡ false → has_way widened ns ≡ false
        narrow_first ms n = sym (turned_way narrowed ns) ∙ no_way-1 narrowed (turned ns) ms n

        widen_first : (ms : List Note) → has_way widened (turned ns ++ ms) ≡ false → has_way narrowed ns ≡ false
        widen_first ms n = sym (turned_way widened ns) ∙ no_way-1 widened (turned ns) ms n

        go : (o : Outcome Schema) → Meets IsProper (J s && not (J x)) J o → Meets IsProper (J s && not w) J (noted (turned ns) o)
        go (fault f) h = tt
        go (never ms) h = λ n t. h (no_way-2 narrowed (turned ns) ms n) (and-in (J s) (not (J x)) (and-1 (J s) _ t) (smaller (narrow_first ms n) (and-2 (J s) _ t)))
        go (answer ms y) h = (
          h.0,
          (λ n t. h.1 (no_way-2 narrowed (turned ns) ms n) (and-in (J s) (not (J x)) (and-1 (J s) _ t) (smaller (narrow_first ms n) (and-2 (J s) _ t)))),
          λ n t. let u = h.2 (no_way-2 widened (turned ns) ms n) t in and-in (J s) (not w) (and-1 (J s) _ u) (larger (widen_first ms n) (and-2 (J s) _ u)),
        )

    -- ---- what is answered is proper

    always_less : (a b : Schema) → IsProper a → IsProper b → Always IsProper (less a b)
    always_less a b p q = always-meets IsProper (J a && not (J b)) J (less a b) (takes a b p q)

    always_property : (s t : MaybeSchema) → ProperMaybe s → ProperMaybe t → Always IsProper (less_property less s t)
    always_property (the_schema s) (the_schema t) p q = always-or_else IsProper (boolean false) (less s t) tt (always_less s t p q)
    always_property (the_schema s) no_schema p q = p
    always_property no_schema t p q = tt

    always_name : (b : Bool) (s t : MaybeSchema) → ProperMaybe s → ProperMaybe t → Always IsProper (less_name less b s t)
    always_name true s no_schema p q = tt
    always_name true s (the_schema t) p q = always_property s (the_schema t) p q
    always_name false s t p q = always_property s t p q

    proper_at : (k : List ℕ) (ps : Properties) → ProperProperties ps → ProperMaybe (property_at k ps)
    proper_at k no_properties h = tt
    proper_at k (property n s ps) h = cases (bytes_eq k n) (proper_at k ps h.1)
      where
        cases : (b : Bool) → ProperMaybe (property_at k ps) → ProperMaybe (if b then the_schema s else property_at k ps)
        cases true e = h.0
        cases false e = e

    always_properties : (ps qs : Properties) (needed ns : List (List ℕ)) → ProperProperties ps → ProperProperties qs → Always ProperProperties (less_properties less ps qs needed ns)
    always_properties ps qs needed [] p q = tt
    always_properties ps qs needed (n ∷ ns) p q = always-then IsProper ProperProperties (less_name less (is_name n needed) (property_at n ps) (property_at n qs)) (λ s. mapped (property n s) (less_properties less ps qs needed ns))
        (always_name (is_name n needed) (property_at n ps) (property_at n qs) (proper_at n ps p) (proper_at n qs q))
        (λ s ps'. always-mapped ProperProperties ProperProperties (property n s) (less_properties less ps qs needed ns) (always_properties ps qs needed ns p q) (λ a pa. (ps', pa)))

    always_needed : (needed : List (List ℕ)) (ps : Properties) → ProperProperties ps → Always ProperProperties (unless_needed less needed ps)
    always_needed needed no_properties p = tt
    always_needed needed (property n s ps) p = cases (is_false s && is_name n needed) (always_needed needed ps p.1)
      where
        cases : (b : Bool) → Always ProperProperties (unless_needed less needed ps) → Always ProperProperties (if b then never [] else mapped (property n s) (unless_needed less needed ps))
        cases true e = tt
        cases false e = always-mapped ProperProperties ProperProperties (property n s) (unless_needed less needed ps) e (λ a pa. (p.0, pa))

    always_named : (ns os : Named) → ProperNamed ns → ProperNamed os → Always ProperNamed (less_named less ns os)
    always_named no_named os p q = p
    always_named (named ps pp x xn c) no_named p q = p
    always_named (named ps pp x xn c) (named qs qq y yn e) p q = always-mapped ProperProperties ProperNamed (λ props. named props pp x xn c) (and_then (less_properties less ps qs e.required _) (unless_needed less c.required))
        (always-then ProperProperties ProperProperties (less_properties less ps qs e.required (all_names (names_of ps) (all_names (names_of qs) e.required))) (unless_needed less c.required)
        (always_properties ps qs e.required (all_names (names_of ps) (all_names (names_of qs) e.required)) p.0 q.0) (λ a pa. always_needed c.required a pa))
        (λ a pa. (pa, p.1, p.2, p.3))

    always_each : (ts : Schemas) (s : Schema) → ProperAll ts → IsProper s → Always IsProper (less_each join less ts s)
    always_each no_more s p q = q
    always_each (schema t ts) s p q = always-then IsProper IsProper (less s t) (less_each join less ts) (always_less s t q p.0) (λ a pa. always_each ts a p.1 pa)

    always_same : (ss : Same) (s : Schema) → ProperSame ss → IsProper s → Always IsProper (less_same join less ss s)
    always_same no_same s p q = q
    always_same (same_value all any one none c) s p q = always-then IsProper IsProper (less_any join less any s) (λ t. and_then (less_not join less none t) (less_all join less all)) (any_always any p.1)
        (λ a pa. always-then IsProper IsProper (less_not join less none a) (less_all join less all) (not_always none a p.3 pa) (λ b pb. all_always all b p.0 pb))
      where
        any_always : (any : MaybeSchemas) → ProperList any → Always IsProper (less_any join less any s)
        any_always no_list h = q
        any_always (the_list ts) h = always_each ts s h q

        not_always : (none : MaybeSchema) (a : Schema) → ProperMaybe none → IsProper a → Always IsProper (less_not join less none a)
        not_always no_schema a h k = k
        not_always (the_schema t) a h k = always-meets IsProper (J a && J t) J (join a t) (merges a t k h)

        all_always : (all : MaybeSchemas) (a : Schema) → ProperList all → IsProper a → Always IsProper (less_all join less all a)
        all_always no_list a h k = k
        all_always (the_list ts) a h k = always-meets IsProper (J a && not (list_all J (schema_list ts))) J (less_merged join less a (turned_outcome (merge_schemas join less ts))) (less_merged_meets a (merge_schemas join less ts) (list_all J (schema_list ts)) k (merge_schemas_meet ts h))

    always_values : (p : Plain) (o u : Option (List Value)) → ProperPlain p → Always ProperPlain (less_values p o u)
    always_values p None u h = h
    always_values p (Some vs) None h = h
    always_values p (Some vs) (Some ws) h = go (filter (λ v. not (is_listed v ws)) vs)
      where
        go : (xs : List Value) → Always ProperPlain (left_values p xs)
        go [] = tt
        go (x ∷ xs) = h

    always_object : (p : Plain) (ss : Same) (ls : Lists) (ns : Named) (q : Plain) (tt' : Same) (ms : Lists) (os : Named) → IsProper (object p ss ls ns) → IsProper (object q tt' ms os) → Always IsProper (less_object d join less p ss ls ns q tt' ms os)
    always_object p ss ls ns q tt' ms os h k = always-then ProperPlain IsProper (less_values p p.enum_values q.enum_values) _ (always_values p p.enum_values q.enum_values h.0)
        (λ p' pp. always-then ProperNamed IsProper (less_named less ns os) (λ ns'. less_same join less tt' (object p' ss ls ns')) (always_named ns os h.3 k.3)
        (λ ns' pn. always_same tt' (object p' ss ls ns') k.1 (pp, h.1, h.2, pn)))

    -- ---- what is taken away whole

    values_kept : (p : Plain) (o u : Option (List Value)) → u ≡ None → less_values p o u ≡ answer [] p
    values_kept p None u e = refl
    values_kept p (Some vs) u e = ap (less_values p (Some vs)) e

    named_kept : (ns : Named) → less_named less ns no_named ≡ answer [] ns
    named_kept no_named = refl
    named_kept (named a b c e f) = refl

    object_kept : (w : Bool) (p : Plain) (ss : Same) (ls : Lists) (ns : Named) (q : Plain) (tt' : Same) (ms : Lists) (os : Named) → q.enum_values ≡ None → os ≡ no_named
        → Meets IsProper w J (less_same join less tt' (object p ss ls ns)) → Meets IsProper w J (less_object d join less p ss ls ns q tt' ms os)
    object_kept w p ss ls ns q tt' ms os e f m =
        subst (λ o. Meets IsProper w J (and_then o (λ p'. and_then (less_named less ns os) (λ ns'. less_same join less tt' (object p' ss ls ns'))))) (sym (values_kept p p.enum_values q.enum_values e))
        (meets-noted IsProper w J [] (and_then (less_named less ns os) (λ ns'. less_same join less tt' (object p ss ls ns')))
        (subst (λ o. Meets IsProper w J (and_then o (λ ns'. less_same join less tt' (object p ss ls ns')))) (sym (ap (less_named less ns) f ∙ named_kept ns))
        (meets-noted IsProper w J [] (less_same join less tt' (object p ss ls ns)) m)))

    then_same : (w : Bool) (o : Outcome Schema) → Meets IsProper w J o → Meets IsProper w J (and_then o (λ t. answer [] t))
    then_same w o m = meets-then IsProper IsProper w J J o (λ t. answer [] t) m (λ a pa. meets-exactly IsProper (J a) J [] a pa refl)

    -- one of anyOf, not and allOf
    alone_meets : (tt' : Same) (s : Schema) → ProperSame tt' → IsProper s → is_one_subschema tt' ≡ true → Meets IsProper (J s && not (same_says J tt')) J (less_same join less tt' s)
    alone_meets (same_value no_list (the_list ss) no_list no_schema c) s p q h = meets-wanted IsProper (J s && not (list_any J (schema_list ss))) _ J _ (ap (λ b. J s && not b) (spread (list_any J (schema_list ss))))
        (then_same (J s && not (list_any J (schema_list ss))) (less_each join less ss s) (less_each_meets ss s p.1 q))
      where
        spread : (b : Bool) → b ≡ (((true && b) && true) && true)
        spread true = refl
        spread false = refl
    alone_meets (same_value no_list no_list no_list (the_schema n) c) s p q h = meets-wanted IsProper (J s && J n) _ J _ (ap (λ b. J s && b) (spread (J n)))
        (meets-noted IsProper (J s && J n) J [] (and_then (join s n) (λ t. answer [] t)) (then_same (J s && J n) (join s n) (merges s n q p.3)))
      where
        spread : (b : Bool) → b ≡ not (((true && true) && true) && not b)
        spread true = refl
        spread false = refl
    alone_meets (same_value (the_list ss) no_list no_list no_schema c) s p q h = meets-wanted IsProper (J s && not (list_all J (schema_list ss))) _ J _ (ap (λ b. J s && not b) (spread (list_all J (schema_list ss))))
        (meets-noted IsProper (J s && not (list_all J (schema_list ss))) J [] _ (meets-noted IsProper (J s && not (list_all J (schema_list ss))) J [] (less_merged join less s (turned_outcome (merge_schemas join less ss)))
        (less_merged_meets s (merge_schemas join less ss) (list_all J (schema_list ss)) q (merge_schemas_meet ss p.0))))
      where
        spread : (b : Bool) → b ≡ (((b && true) && true) && true)
        spread true = refl
        spread false = refl
    alone_meets _ s p q h = no_no h

-- ---- the layer

module _ (r : Relations) (d : Document) (join less : Schema → Schema → Outcome Schema) (v : Value) (parts : Parts) (J : Judge)
    (merges : (a b : Schema) → IsProper a → IsProper b → Meets IsProper (J a && J b) J (join a b))
    (takes : (a b : Schema) → IsProper a → IsProper b → Meets IsProper (J a && not (J b)) J (less a b))
    (at_boolean : (b : Bool) → J (boolean b) ≡ b)
    (disjoint : (s t : Schema) → is_disjoint (kinds d s) (kinds d t) ≡ true → J s ≡ true → J t ≡ true → ⊥)
    (form : (p : Plain) (ss : Same) (ls : Lists) (ns : Named) → J (object p ss ls ns) ≡ (((plain_agrees r p v && if_given (λ q. follow J (target d q)) p.reference) && parts_agree r v parts ls ns) && same_says J ss))
    (one_name_meets : (p : Plain) (ss : Same) (ls : Lists) (ns : Named) (q : Plain) (tt' : Same) (ms : Lists) (os : Named) → IsProper (object p ss ls ns) → IsProper (object q tt' ms os) → counts_as_absent d.setting null ≡ false → one_name_alone p ns q tt' ms os ≡ true
    → Meets IsProper (J (object p ss ls ns) && not (J (object q tt' ms os))) J (less_object d join less p ss ls ns q tt' ms os))
  where
    none : {A : Type 0} (o : Option A) → is_absent o ≡ true → o ≡ None
    none None h = refl
    none (Some x) h = no_no h

    no_parts : (v : Value) → parts_agree r v parts no_lists no_named ≡ true
    no_parts (value.list xs) = refl
    no_parts (value.object ms) = refl
    no_parts _ = refl

    no_kind : (v : Value) (q : Plain) → q.format ≡ None → q.numbers ≡ None → q.texts ≡ None → of_kind_agrees r q v ≡ true
    no_kind (value.number z) q f n x = λ i. if_given (numbers_agree z) (n i) && if_given (number_format_agrees z) (f i)
    no_kind (value.text s) q f n x = λ i. if_given (texts_agree r s) (x i) && if_given (text_format_agrees r s) (f i)
    no_kind _ q f n x = refl

    -- what stands in no leaf says nothing but its types and listed values
    leafless : (q : Plain) → no_leaves q ≡ true → (plain_agrees r q v && if_given (λ q. follow J (target d q)) q.reference) ≡ (if_given (types_agree v) q.types && if_given (is_listed v) q.enum_values)
    leafless q h =
        let h1 = and-2 (is_absent q.const_value) _ h in
        let h2 = and-2 (is_absent q.format) _ h1 in
        let h3 = and-2 (is_absent q.numbers) _ h2 in
        (λ i. (((if_given (types_agree v) q.types && if_given (is_listed v) q.enum_values) && if_given (same v) (none q.const_value (and-1 (is_absent q.const_value) _ h) i)) && no_kind v q (none q.format (and-1 (is_absent q.format) _ h1)) (none q.numbers (and-1 (is_absent q.numbers) _ h2)) (none q.texts (and-1 (is_absent q.texts) _ h3)) i) && if_given (λ q. follow J (target d q)) (none q.reference (and-2 (is_absent q.texts) _ h3) i))
        ∙ drop (if_given (types_agree v) q.types && if_given (is_listed v) q.enum_values)
      where
        drop : (b : Bool) → (((b && true) && true) && true) ≡ b
        drop true = refl
        drop false = refl

    no_list_is : (ms : Lists) → without_lists ms ≡ true → ms ≡ no_lists
    no_list_is no_lists h = refl
    no_list_is (lists a b c e) h = no_no h

    no_member_is : (os : Named) → without_named os ≡ true → os ≡ no_named
    no_member_is no_named h = refl
    no_member_is (named a b c e f) h = no_no h

    no_same_is : (tt' : Same) → without_same tt' ≡ true → tt' ≡ no_same
    no_same_is no_same h = refl
    no_same_is (same_value a b c e f) h = no_no h

    drops : (b : Bool) → ((true && true) && b) ≡ b
    drops true = refl
    drops false = refl

    subschema_case : (p : Plain) (ss : Same) (ls : Lists) (ns : Named) (q : Plain) (tt' : Same) (ms : Lists) (os : Named) → IsProper (object p ss ls ns) → IsProper (object q tt' ms os) → subschema_alone q tt' ms os ≡ true
        → Meets IsProper (J (object p ss ls ns) && not (J (object q tt' ms os))) J (less_object d join less p ss ls ns q tt' ms os)
    subschema_case p ss ls ns q tt' ms os hp hq h =
        let h1 = and-2 (is_one_subschema tt') _ h in
        let h2 = and-2 (is_absent q.types) _ h1 in
        let h3 = and-2 (is_absent q.enum_values) _ h2 in
        let h4 = and-2 (no_leaves q) _ h3 in
        let te = none q.types (and-1 (is_absent q.types) _ h1) in
        let ee = none q.enum_values (and-1 (is_absent q.enum_values) _ h2) in
        let le = no_list_is ms (and-1 (without_lists ms) _ h4) in
        let me = no_member_is os (and-2 (without_lists ms) _ h4) in
        meets-wanted IsProper (J (object p ss ls ns) && not (same_says J tt')) _ J _
        (ap (λ b. J (object p ss ls ns) && not b) (sym (form q tt' ms os ∙ (λ i. (leafless q (and-1 (no_leaves q) _ h3) i && parts_agree r v parts (le i) (me i)) && same_says J tt') ∙ (λ i. ((if_given (types_agree v) (te i) && if_given (is_listed v) (ee i)) && no_parts v i) && same_says J tt') ∙ drops (same_says J tt'))))
        (object_kept d join less J merges takes at_boolean (J (object p ss ls ns) && not (same_says J tt')) p ss ls ns q tt' ms os ee me
        (alone_meets d join less J merges takes at_boolean tt' (object p ss ls ns) hq.1 hp (and-1 (is_one_subschema tt') _ h)))

    kinds_case : (p : Plain) (ss : Same) (ls : Lists) (ns : Named) (q : Plain) (tt' : Same) (ms : Lists) (os : Named) → IsProper (object p ss ls ns) → kinds_apart d (object p ss ls ns) (object q tt' ms os) q tt' os ≡ true
        → Meets IsProper (J (object p ss ls ns) && not (J (object q tt' ms os))) J (less_object d join less p ss ls ns q tt' ms os)
    kinds_case p ss ls ns q tt' ms os hp h =
        let k = and-1 (is_disjoint (kinds d (object p ss ls ns)) (kinds d (object q tt' ms os))) _ h in
        let h1 = and-2 (is_disjoint (kinds d (object p ss ls ns)) (kinds d (object q tt' ms os))) _ h in
        let h2 = and-2 (is_absent q.enum_values) _ h1 in
        let se = no_same_is tt' (and-2 (without_named os) _ h2) in
        object_kept d join less J merges takes at_boolean (J (object p ss ls ns) && not (J (object q tt' ms os))) p ss ls ns q tt' ms os (none q.enum_values (and-1 (is_absent q.enum_values) _ h1)) (no_member_is os (and-1 (without_named os) _ h2))
        (subst (λ s. Meets IsProper (J (object p ss ls ns) && not (J (object q tt' ms os))) J (less_same join less s (object p ss ls ns))) (sym se)
        (meets-exactly IsProper (J (object p ss ls ns) && not (J (object q tt' ms os))) J [] (object p ss ls ns) hp (apart (J (object p ss ls ns)) (J (object q tt' ms os)) (disjoint (object p ss ls ns) (object q tt' ms os) k))))
      where
        apart : (a b : Bool) → (a ≡ true → b ≡ true → ⊥) → a ≡ (a && not b)
        apart false b h = refl
        apart true false h = refl
        apart true true h = absurd (h refl refl)

    values_case : (p : Plain) (ss : Same) (ls : Lists) (ns : Named) (q : Plain) (tt' : Same) (ms : Lists) (os : Named) → IsProper (object p ss ls ns) → values_alone p q tt' ms os ≡ true
        → Meets IsProper (J (object p ss ls ns) && not (J (object q tt' ms os))) J (less_object d join less p ss ls ns q tt' ms os)
    values_case p ss ls ns q tt' ms os hp h = go p.enum_values q.enum_values refl refl (and-1 (is_some p.enum_values) _ (and-1 (is_some p.enum_values && is_some q.enum_values) _ h)) (and-2 (is_some p.enum_values) _ (and-1 (is_some p.enum_values && is_some q.enum_values) _ h))
      where
        kind_kept : (w : Value) (o : Option (List Value)) → of_kind_agrees r (record p { enum_values = o }) w ≡ of_kind_agrees r p w
        kind_kept (value.number z) o = refl
        kind_kept (value.text s) o = refl
        kind_kept _ o = refl

        shuffle : (t e g c k x a s : Bool) → ((((((t && (e && g)) && c) && k) && x) && a) && s) ≡ (((((((t && e) && c) && k) && x) && a) && s) && g)
        shuffle false e g c k x a s = refl
        shuffle true false g c k x a s = refl
        shuffle true true true c k x a s = right (((((c && k) && x) && a) && s))
          where
            right : (b : Bool) → b ≡ (b && true)
            right true = refl
            right false = refl
        shuffle true true false c k x a s = right (((((c && k) && x) && a) && s))
          where
            right : (b : Bool) → false ≡ (b && false)
            right true = refl
            right false = refl

        -- with the values that are left
        fewer : (vs ws : List Value) → p.enum_values ≡ Some vs → J (object (record p { enum_values = Some (filter (λ w. not (is_listed w ws)) vs) }) ss ls ns) ≡ (J (object p ss ls ns) && not (is_listed v ws))
        fewer vs ws e = form (record p { enum_values = Some (filter (λ w. not (is_listed w ws)) vs) }) ss ls ns
            ∙ (λ i. ((((if_given (types_agree v) p.types && listed_filter v (λ w. not (is_listed w ws)) vs i) && if_given (same v) p.const_value) && kind_kept v (Some (filter (λ w. not (is_listed w ws)) vs)) i) && if_given (λ q. follow J (target d q)) p.reference && parts_agree r v parts ls ns) && same_says J ss)
            ∙ shuffle (if_given (types_agree v) p.types) (is_listed v vs) (not (is_listed v ws)) (if_given (same v) p.const_value) (of_kind_agrees r p v) (if_given (λ q. follow J (target d q)) p.reference) (parts_agree r v parts ls ns) (same_says J ss)
            ∙ ap (λ o. ((((((if_given (types_agree v) p.types && if_given (is_listed v) o) && if_given (same v) p.const_value) && of_kind_agrees r p v) && if_given (λ q. follow J (target d q)) p.reference) && parts_agree r v parts ls ns) && same_says J ss) && not (is_listed v ws)) (sym e)
            ∙ ap (λ b. b && not (is_listed v ws)) (sym (form p ss ls ns))

        taken : (ws : List Value) → q.enum_values ≡ Some ws → J (object q tt' ms os) ≡ is_listed v ws
        taken ws e =
            let h1 = and-2 (is_some p.enum_values && is_some q.enum_values) _ h in
            let h2 = and-2 (is_absent q.types) _ h1 in
            let h3 = and-2 (no_leaves q) _ h2 in
            let h4 = and-2 (without_same tt') _ h3 in
            let te = none q.types (and-1 (is_absent q.types) _ h1) in
            let se = no_same_is tt' (and-1 (without_same tt') _ h3) in
            let le = no_list_is ms (and-1 (without_lists ms) _ h4) in
            let me = no_member_is os (and-2 (without_lists ms) _ h4) in
            form q tt' ms os ∙ (λ i. (leafless q (and-1 (no_leaves q) _ h2) i && parts_agree r v parts (le i) (me i)) && same_says J (se i)) ∙ (λ i. ((if_given (types_agree v) (te i) && if_given (is_listed v) (e i)) && no_parts v i) && true) ∙ last (is_listed v ws)
          where
            last : (b : Bool) → (((true && b) && true) && true) ≡ b
            last true = refl
            last false = refl

        left : (vs ws xs : List Value) → filter (λ w. not (is_listed w ws)) vs ≡ xs → p.enum_values ≡ Some vs → Meets ProperPlain (J (object p ss ls ns) && not (is_listed v ws)) (λ p'. J (object p' ss ls ns)) (left_values p xs)
        left vs ws [] f e = λ n t.
            let a = sym (form (record p { enum_values = Some (filter (λ w. not (is_listed w ws)) vs) }) ss ls ns) ∙ (fewer vs ws e ∙ t) in
            let b = and-1 _ (same_says J ss) a in
            let c = and-1 _ (parts_agree r v parts ls ns) b in
            let k = and-1 _ (if_given (λ q. follow J (target d q)) p.reference) c in
            let l = and-1 _ (of_kind_agrees r (record p { enum_values = Some (filter (λ w. not (is_listed w ws)) vs) }) v) k in
            let m = and-2 (if_given (types_agree v) p.types) _ (and-1 _ (if_given (same v) p.const_value) l) in
            no_no (sym (ap (is_listed v) f) ∙ m)
        left vs ws (x ∷ xs) f e = meets-exactly ProperPlain (J (object p ss ls ns) && not (is_listed v ws)) (λ p'. J (object p' ss ls ns)) [] (record p { enum_values = Some (x ∷ xs) }) hp.0
            (ap (λ y. J (object (record p { enum_values = Some y }) ss ls ns)) (sym f) ∙ fewer vs ws e)

        h3 : (without_same tt' && (without_lists ms && without_named os)) ≡ true
        h3 = and-2 (no_leaves q) _ (and-2 (is_absent q.types) _ (and-2 (is_some p.enum_values && is_some q.enum_values) _ h))

        go : (o u : Option (List Value)) → p.enum_values ≡ o → q.enum_values ≡ u → is_some o ≡ true → is_some u ≡ true
            → Meets IsProper (J (object p ss ls ns) && not (J (object q tt' ms os))) J (and_then (less_values p o u) (λ p'. and_then (less_named less ns os) (λ ns'. less_same join less tt' (object p' ss ls ns'))))
        go None u e f a b = no_no a
        go (Some vs) None e f a b = no_no b
        go (Some vs) (Some ws) e f a b = meets-wanted IsProper (J (object p ss ls ns) && not (is_listed v ws)) _ J _ (ap (λ b. J (object p ss ls ns) && not b) (sym (taken ws f)))
            (meets-then ProperPlain IsProper (J (object p ss ls ns) && not (is_listed v ws)) (λ p'. J (object p' ss ls ns)) J (left_values p (filter (λ w. not (is_listed w ws)) vs)) (λ p'. and_then (less_named less ns os) (λ ns'. less_same join less tt' (object p' ss ls ns')))
            (left vs ws (filter (λ w. not (is_listed w ws)) vs) refl e)
            (λ p' pp. subst (λ o. Meets IsProper (J (object p' ss ls ns)) J (and_then o (λ ns'. less_same join less tt' (object p' ss ls ns'))))
            (sym (ap (less_named less ns) (no_member_is os (and-2 (without_lists ms) _ (and-2 (without_same tt') _ h3))) ∙ named_kept d join less J merges takes at_boolean ns))
            (subst (λ s. Meets IsProper (J (object p' ss ls ns)) J (noted [] (less_same join less s (object p' ss ls ns)))) (sym (no_same_is tt' (and-1 (without_same tt') _ h3)))
            (meets-exactly IsProper (J (object p' ss ls ns)) J [] (object p' ss ls ns) (pp, hp.1, hp.2, hp.3) refl))))

    exact_meets : (p : Plain) (ss : Same) (ls : Lists) (ns : Named) (q : Plain) (tt' : Same) (ms : Lists) (os : Named) → IsProper (object p ss ls ns) → IsProper (object q tt' ms os)
        → is_exact d join less p ns (object p ss ls ns) q tt' ms os (object q tt' ms os) ≡ true → Meets IsProper (J (object p ss ls ns) && not (J (object q tt' ms os))) J (less_object d join less p ss ls ns q tt' ms os)
    exact_meets p ss ls ns q tt' ms os hp hq = cases (values_alone p q tt' ms os) refl (not (counts_as_absent d.setting null) && one_name_alone p ns q tt' ms os) refl (kinds_apart d (object p ss ls ns) (object q tt' ms os) q tt' os) refl
      where
        no : (b : Bool) → not b ≡ true → b ≡ false
        no true h = no_no h
        no false h = refl

        cases : (a : Bool) → values_alone p q tt' ms os ≡ a → (b : Bool) → (not (counts_as_absent d.setting null) && one_name_alone p ns q tt' ms os) ≡ b → (c : Bool) → kinds_apart d (object p ss ls ns) (object q tt' ms os) q tt' os ≡ c
            → (a || (b || (c || subschema_alone q tt' ms os))) ≡ true → Meets IsProper (J (object p ss ls ns) && not (J (object q tt' ms os))) J (less_object d join less p ss ls ns q tt' ms os)
        cases true e b f c g h = values_case p ss ls ns q tt' ms os hp e
        cases false e true f c g h = one_name_meets p ss ls ns q tt' ms os hp hq (no (counts_as_absent d.setting null) (and-1 (not (counts_as_absent d.setting null)) _ f)) (and-2 (not (counts_as_absent d.setting null)) _ f)
        cases false e false f true g h = kinds_case p ss ls ns q tt' ms os hp g
        cases false e false f false g h = subschema_case p ss ls ns q tt' ms os hp hq h

    pub less_layer_meets : (a b : Schema) → IsProper a → IsProper b → Meets IsProper (J a && not (J b)) J (less_layer d join less a b)
    less_layer_meets a (boolean true) p q = λ n t. no_no (sym (ap not (at_boolean true)) ∙ and-2 (J a) _ t)
    less_layer_meets a (boolean false) p q = meets-exactly IsProper (J a && not (J (boolean false))) J [] a p (sym (ap (λ b. J a && not b) (at_boolean false) ∙ right (J a)))
      where
        right : (b : Bool) → (b && true) ≡ b
        right true = refl
        right false = refl
    less_layer_meets (boolean false) (object b s l m) p q = λ n t. yes_no (J (boolean false)) (at_boolean false) (and-1 (J (boolean false)) _ t)
    less_layer_meets (boolean true) (object b s l m) p q = tt
    less_layer_meets (object a s l n) (object b t m o) p q = go (is_conditional s || is_conditional t) (nat_le 2 (subschema_count t)) (is_exact d join less a n (object a s l n) b t m o (object b t m o)) refl
      where
        go : (x y z : Bool) → is_exact d join less a n (object a s l n) b t m o (object b t m o) ≡ z
            → Meets IsProper (J (object a s l n) && not (J (object b t m o))) J (if x then fault (unsupported conditional) else if y then fault (unsupported subtracting) else noted (note_if (not z) (both_ways of_subtract)) (less_object d join less a s l n b t m o))
        go true y z e = tt
        go false true z e = tt
        go false false true e = meets-noted IsProper (J (object a s l n) && not (J (object b t m o))) J [] (less_object d join less a s l n b t m o) (exact_meets a s l n b t m o p q e)
        go false false false e = meets-both_ways IsProper (J (object a s l n) && not (J (object b t m o))) J of_subtract (less_object d join less a s l n b t m o) (always_object d join less J merges takes at_boolean a s l n b t m o p q)
