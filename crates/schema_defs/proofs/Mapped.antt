-- Annotations and walks, at whatever level, change no admission.
use Rattle.std.proofs.Common.{◌≡◌, ℕ, zero, suc, List, [], ◌∷◌, map, length, Bool, true, false, ◌&&◌, ◌||◌, not, refl, ap, ◌∙◌, bytes_eq}
use Rattle.std.specs.Prelude.{Option, Some, None, option_map, ◌==◌, if◌then◌else◌}
use Rattle.std.specs.List.{list_any, list_all}
use Rattle.json_value.specs.Value as value
use Rattle.json_value.specs.Value.{Value, Items, Members, null, number, fraction, text, list, item, no_items as end_items, member, no_members}
use Rattle.schema_defs.specs.Texts.{Relations}
use Rattle.schema_defs.specs.Schema.{Plain, Schema, boolean, object, Same, no_same, same_value, Lists, no_lists, lists, Named, no_named, named, MaybeSchema, no_schema, the_schema, MaybeSchemas, no_list, the_list, Schemas, no_more, schema, Places, no_items, each_item, by_place, Properties, no_properties, property, Definition, Document}
use Rattle.schema_defs.specs.Layer.{Judge, MemberPart, Parts, if_given, plain_agrees, maybe, by_places, items_agree, contains_agrees, list_rules_agree, lists_agree, property_at, is_given, patterns_agree, has_any, member_agrees, member_rules_agree, named_agree, parts_agree, judge, judge_same, judge_all_of, judge_any_of, judge_one_of, judge_not, judge_all, judge_any, judge_count}
use Rattle.schema_defs.specs.Admits.{defined, defined_as, definition_name, is_root_reference, target, allowed, follow, follows, admits, item_judges, member_parts, parts_of, no_parts, judge_within}
use Rattle.schema_defs.specs.Mapped.{mapped, mapped_same, mapped_lists, mapped_named, mapped_maybe, mapped_list, mapped_all, mapped_places, mapped_properties, mapped_definition, mapped_document, bare, unwalked}
use Rattle.schema_defs.specs.Laws.{NoAnnotationMatters}

module _
    (r : Relations)
    (f : Plain → Plain)
    (keeps : (p : Plain) (v : Value) → plain_agrees r (f p) v ≡ plain_agrees r p v)
    (keeps_reference : (p : Plain) → (f p).reference ≡ p.reference)
  where
    -- j says of a changed schema what k says of the schema
    abbrev SameJudge : Judge → Judge → Type 0
    SameJudge j k = (s : Schema) → j (mapped f s) ≡ k s

    abbrev SameJudges : List Judge → List Judge → Type 0
    SameJudges [] [] = Unit {0}
    SameJudges (j ∷ js) (k ∷ ks) = SameJudge j k × SameJudges js ks
    SameJudges _ _ = ⊥

    record SameMember (a b : MemberPart) : Type 0 where
      name : a.name ≡ b.name
      as_absent : a.as_absent ≡ b.as_absent
      says : SameJudge a.says b.says

    abbrev SameMembers : List MemberPart → List MemberPart → Type 0
    SameMembers [] [] = Unit {0}
    SameMembers (j ∷ js) (k ∷ ks) = SameMember j k × SameMembers js ks
    SameMembers _ _ = ⊥

    record SameParts (a b : Parts) : Type 0 where
      items : SameJudges a.items b.items
      members : SameMembers a.members b.members
      name : (n : List ℕ) → SameJudge (a.name n) (b.name n)

    maybe-mapped : (j k : Judge) → SameJudge j k → (m : MaybeSchema) → maybe j (mapped_maybe f m) ≡ maybe k m
    maybe-mapped j k h no_schema = refl
    maybe-mapped j k h (the_schema s) = h s

    by_places-mapped : (js ks : List Judge) → SameJudges js ks → (ss : Schemas) (rest : MaybeSchema) → by_places js (mapped_all f ss) (mapped_maybe f rest) ≡ by_places ks ss rest
    by_places-mapped [] [] h ss rest = refl
    by_places-mapped (j ∷ js) (k ∷ ks) h no_more rest = λ i. maybe-mapped j k h.0 rest i && by_places-mapped js ks h.1 no_more rest i
    by_places-mapped (j ∷ js) (k ∷ ks) h (schema s ss) rest = λ i. h.0 s i && by_places-mapped js ks h.1 ss rest i
    by_places-mapped [] (k ∷ ks) h ss rest = absurd h
    by_places-mapped (j ∷ js) [] h ss rest = absurd h

    each-mapped : (js ks : List Judge) → SameJudges js ks → (s : Schema) → list_all (λ j. j (mapped f s)) js ≡ list_all (λ k. k s) ks
    each-mapped [] [] h s = refl
    each-mapped (j ∷ js) (k ∷ ks) h s = λ i. h.0 s i && each-mapped js ks h.1 s i
    each-mapped [] (k ∷ ks) h s = absurd h
    each-mapped (j ∷ js) [] h s = absurd h

    some-mapped : (js ks : List Judge) → SameJudges js ks → (s : Schema) → list_any (λ j. j (mapped f s)) js ≡ list_any (λ k. k s) ks
    some-mapped [] [] h s = refl
    some-mapped (j ∷ js) (k ∷ ks) h s = λ i. h.0 s i || some-mapped js ks h.1 s i
    some-mapped [] (k ∷ ks) h s = absurd h
    some-mapped (j ∷ js) [] h s = absurd h

    items-mapped : (js ks : List Judge) → SameJudges js ks → (p : Places) (rest : MaybeSchema) → items_agree js (mapped_places f p) (mapped_maybe f rest) ≡ items_agree ks p rest
    items-mapped js ks h no_items rest = refl
    items-mapped js ks h (each_item s) rest = each-mapped js ks h s
    items-mapped js ks h (by_place ss) rest = by_places-mapped js ks h ss rest

    contains-mapped : (js ks : List Judge) → SameJudges js ks → (m : MaybeSchema) → contains_agrees js (mapped_maybe f m) ≡ contains_agrees ks m
    contains-mapped js ks h no_schema = refl
    contains-mapped js ks h (the_schema s) = some-mapped js ks h s

    lists-mapped : (xs : Items) (js ks : List Judge) → SameJudges js ks → (ls : Lists) → lists_agree xs js (mapped_lists f ls) ≡ lists_agree xs ks ls
    lists-mapped xs js ks h no_lists = refl
    lists-mapped xs js ks h (lists places rest contains rules) = λ i. items-mapped js ks h places rest i && contains-mapped js ks h contains i && list_rules_agree xs rules

    property-mapped : (n : List ℕ) (ps : Properties) → property_at n (mapped_properties f ps) ≡ mapped_maybe f (property_at n ps)
    property-mapped n no_properties = refl
    property-mapped n (property k s ps) = chosen (bytes_eq n k) _ _ (property-mapped n ps)
      where
        chosen : (b : Bool) (x y : MaybeSchema) → x ≡ mapped_maybe f y → (if b then the_schema (mapped f s) else x) ≡ mapped_maybe f (if b then the_schema s else y)
        chosen true x y h = refl
        chosen false x y h = h

    is_given-mapped : (m : MaybeSchema) → is_given (mapped_maybe f m) ≡ is_given m
    is_given-mapped no_schema = refl
    is_given-mapped (the_schema s) = refl

    patterns-mapped : (has : List ℕ → Bool) (j k : Judge) → SameJudge j k → (ps : Properties) → patterns_agree has j (mapped_properties f ps) ≡ patterns_agree has k ps
    patterns-mapped has j k h no_properties = refl
    patterns-mapped has j k h (property n s ps) = λ i. (not (has n) || h s i) && patterns-mapped has j k h ps i

    has_any-mapped : (has : List ℕ → Bool) (ps : Properties) → has_any has (mapped_properties f ps) ≡ has_any has ps
    has_any-mapped has no_properties = refl
    has_any-mapped has (property n s ps) = ap (λ b. has n || b) (has_any-mapped has ps)

    member-mapped : (name' name : List ℕ → Judge) → ((n : List ℕ) → SameJudge (name' n) (name n)) → (props patterns : Properties) (rest names : MaybeSchema) (required : List (List ℕ)) (a b : MemberPart) → SameMember a b
        → member_agrees r name' (mapped_properties f props) (mapped_properties f patterns) (mapped_maybe f rest) (mapped_maybe f names) required a ≡ member_agrees r name props patterns rest names required b
    member-mapped name' name g props patterns rest names required a b e =
        let n = b.name in
        let h = e.says in
        ap (λ n. member_agrees r name' (mapped_properties f props) (mapped_properties f patterns) (mapped_maybe f rest) (mapped_maybe f names) required (record a { name = n })) e.name
        ∙ (λ i. ((e.as_absent i && not (list_any (bytes_eq n) required)) || (ap (maybe a.says) (property-mapped n props) ∙ maybe-mapped a.says b.says h (property_at n props)) i)
        && patterns-mapped (λ q. r.matches q n) a.says b.says h patterns i
        && ((ap is_given (property-mapped n props) ∙ is_given-mapped (property_at n props)) i || has_any-mapped (λ q. r.matches q n) patterns i || maybe-mapped a.says b.says h rest i)
        && maybe-mapped (name' n) (name n) (g n) names i)

    members-mapped : (name' name : List ℕ → Judge) → ((n : List ℕ) → SameJudge (name' n) (name n)) → (props patterns : Properties) (rest names : MaybeSchema) (required : List (List ℕ)) (js ks : List MemberPart) → SameMembers js ks
        → list_all (member_agrees r name' (mapped_properties f props) (mapped_properties f patterns) (mapped_maybe f rest) (mapped_maybe f names) required) js ≡ list_all (member_agrees r name props patterns rest names required) ks
    members-mapped name' name g props patterns rest names required [] [] h = refl
    members-mapped name' name g props patterns rest names required (a ∷ js) (b ∷ ks) h =
        λ i. member-mapped name' name g props patterns rest names required a b h.0 i && members-mapped name' name g props patterns rest names required js ks h.1 i
    members-mapped name' name g props patterns rest names required [] (b ∷ ks) h = absurd h
    members-mapped name' name g props patterns rest names required (a ∷ js) [] h = absurd h

    named-mapped : (ms : Members) (a b : Parts) → SameParts a b → (ns : Named) → named_agree r ms a (mapped_named f ns) ≡ named_agree r ms b ns
    named-mapped ms a b h no_named = refl
    named-mapped ms a b h (named props patterns rest names rules) =
        λ i. members-mapped a.name b.name h.name props patterns rest names rules.required a.members b.members h.members i && member_rules_agree ms rules

    parts-mapped : (v : Value) (a b : Parts) → SameParts a b → (ls : Lists) (ns : Named) → parts_agree r v a (mapped_lists f ls) (mapped_named f ns) ≡ parts_agree r v b ls ns
    parts-mapped null a b h ls ns = refl
    parts-mapped (value.boolean x) a b h ls ns = refl
    parts-mapped (number z) a b h ls ns = refl
    parts-mapped fraction a b h ls ns = refl
    parts-mapped (text s) a b h ls ns = refl
    parts-mapped (list xs) a b h ls ns = lists-mapped xs a.items b.items h.items ls
    parts-mapped (value.object ms) a b h ls ns = named-mapped ms a b h ns

    -- ---- one value

    module _ (v : Value) (a b : Parts) (same_parts : SameParts a b) (go' go : List ℕ → Bool) (same_go : (q : List ℕ) → go' q ≡ go q) where
      reference-mapped : (o : Option (List ℕ)) → if_given go' o ≡ if_given go o
      reference-mapped None = refl
      reference-mapped (Some q) = same_go q

      mutual
        judge-mapped : (s : Schema) → judge r v a go' (mapped f s) ≡ judge r v b go s
        judge-mapped (boolean x) = refl
        judge-mapped (object p ss ls ns) =
            λ i. keeps p v i && (ap (if_given go') (keeps_reference p) ∙ reference-mapped p.reference) i && parts-mapped v a b same_parts ls ns i && same-mapped ss i

        same-mapped : (ss : Same) → judge_same r v a go' (mapped_same f ss) ≡ judge_same r v b go ss
        same-mapped no_same = refl
        same-mapped (same_value all any one none conditional) = λ i. all_of-mapped all i && any_of-mapped any i && one_of-mapped one i && not-mapped none i

        all_of-mapped : (m : MaybeSchemas) → judge_all_of r v a go' (mapped_list f m) ≡ judge_all_of r v b go m
        all_of-mapped no_list = refl
        all_of-mapped (the_list ss) = all-mapped ss

        any_of-mapped : (m : MaybeSchemas) → judge_any_of r v a go' (mapped_list f m) ≡ judge_any_of r v b go m
        any_of-mapped no_list = refl
        any_of-mapped (the_list ss) = any-mapped ss

        one_of-mapped : (m : MaybeSchemas) → judge_one_of r v a go' (mapped_list f m) ≡ judge_one_of r v b go m
        one_of-mapped no_list = refl
        one_of-mapped (the_list ss) = ap (λ n. n == 1) (count-mapped ss)

        not-mapped : (m : MaybeSchema) → judge_not r v a go' (mapped_maybe f m) ≡ judge_not r v b go m
        not-mapped no_schema = refl
        not-mapped (the_schema s) = ap not (judge-mapped s)

        all-mapped : (ss : Schemas) → judge_all r v a go' (mapped_all f ss) ≡ judge_all r v b go ss
        all-mapped no_more = refl
        all-mapped (schema s ss) = λ i. judge-mapped s i && all-mapped ss i

        any-mapped : (ss : Schemas) → judge_any r v a go' (mapped_all f ss) ≡ judge_any r v b go ss
        any-mapped no_more = refl
        any-mapped (schema s ss) = λ i. judge-mapped s i || any-mapped ss i

        count-mapped : (ss : Schemas) → judge_count r v a go' (mapped_all f ss) ≡ judge_count r v b go ss
        count-mapped no_more = refl
        count-mapped (schema s ss) = λ i. if judge-mapped s i then suc (count-mapped ss i) else count-mapped ss i

    -- ---- a document

    module _ (d : Document) where
      defined-mapped : (n : List ℕ) (ds : List Definition) → defined n (map (mapped_definition f) ds) ≡ option_map (mapped_definition f) (defined n ds)
      defined-mapped n [] = refl
      defined-mapped n (e ∷ es) = chosen (bytes_eq n e.name) _ _ (defined-mapped n es)
        where
          chosen : (b : Bool) (x y : Option Definition) → x ≡ option_map (mapped_definition f) y → (if b then Some (mapped_definition f e) else x) ≡ option_map (mapped_definition f) (if b then Some e else y)
          chosen true x y h = refl
          chosen false x y h = h

      defined_as-mapped : (o : Option (List ℕ)) → defined_as (mapped_document f d) o ≡ option_map (mapped_definition f) (defined_as d o)
      defined_as-mapped None = refl
      defined_as-mapped (Some n) = defined-mapped n d.definitions

      body-mapped : (o : Option Definition) → option_map (λ e. e.body) (option_map (mapped_definition f) o) ≡ option_map (mapped f) (option_map (λ e. e.body) o)
      body-mapped None = refl
      body-mapped (Some e) = refl

      target-mapped : (q : List ℕ) → target (mapped_document f d) q ≡ option_map (mapped f) (target d q)
      target-mapped q = chosen (is_root_reference q) _ _ (ap (option_map (λ e. e.body)) (defined_as-mapped (definition_name q)) ∙ body-mapped (defined_as d (definition_name q)))
        where
          chosen : (b : Bool) (x y : Option Schema) → x ≡ option_map (mapped f) y → (if b then Some (mapped f d.root) else x) ≡ option_map (mapped f) (if b then Some d.root else y)
          chosen true x y h = refl
          chosen false x y h = h

      follow-mapped : (j k : Judge) → SameJudge j k → (o : Option Schema) → follow j (option_map (mapped f) o) ≡ follow k o
      follow-mapped j k h None = refl
      follow-mapped j k h (Some s) = h s

      follows-mapped : (v : Value) (a b : Parts) → SameParts a b → (n : ℕ) (q : List ℕ) → follows r (mapped_document f d) v a n q ≡ follows r d v b n q
      follows-mapped v a b h zero q = refl
      follows-mapped v a b h (suc n) q =
          ap (follow (judge_within r (mapped_document f d) v a n)) (target-mapped q)
          ∙ follow-mapped (judge_within r (mapped_document f d) v a n) (judge_within r d v b n)
          (judge-mapped v a b h (follows r (mapped_document f d) v a n) (follows r d v b n) (follows-mapped v a b h n)) (target d q)

      within-mapped : (v : Value) (a b : Parts) → SameParts a b → (n : ℕ) → SameJudge (judge_within r (mapped_document f d) v a n) (judge_within r d v b n)
      within-mapped v a b h n = judge-mapped v a b h (follows r (mapped_document f d) v a n) (follows r d v b n) (follows-mapped v a b h n)

      same_count : allowed (mapped_document f d) ≡ allowed d
      same_count = ap suc (counted d.definitions)
        where
          counted : (ds : List Definition) → length (map (mapped_definition f) ds) ≡ length ds
          counted [] = refl
          counted (e ∷ es) = ap suc (counted es)

      level-mapped : (v : Value) (a b : Parts) → SameParts a b → SameJudge (judge_within r (mapped_document f d) v a (allowed (mapped_document f d))) (judge_within r d v b (allowed d))
      level-mapped v a b h s = ap (λ n. judge_within r (mapped_document f d) v a n (mapped f s)) same_count ∙ within-mapped v a b h (allowed d) s

      no_parts-mapped : SameParts (no_parts r (mapped_document f d)) (no_parts r d)
      no_parts-mapped = record { items = tt; members = tt; name = λ n s. refl }

      mutual
        pub admits-mapped : (v : Value) → SameJudge (admits r (mapped_document f d) v) (admits r d v)
        admits-mapped null s = level-mapped null _ _ no_parts-mapped s
        admits-mapped (value.boolean x) s = level-mapped (value.boolean x) _ _ no_parts-mapped s
        admits-mapped (number z) s = level-mapped (number z) _ _ no_parts-mapped s
        admits-mapped fraction s = level-mapped fraction _ _ no_parts-mapped s
        admits-mapped (text t) s = level-mapped (text t) _ _ no_parts-mapped s
        admits-mapped (list xs) s = level-mapped (list xs) (parts_of r (mapped_document f d) (list xs)) (parts_of r d (list xs)) (record { items = items_judged xs; members = tt; name = λ n s. refl }) s
        admits-mapped (value.object ms) s =
            level-mapped (value.object ms) (parts_of r (mapped_document f d) (value.object ms)) (parts_of r d (value.object ms)) (record { items = tt; members = members_judged ms; name = λ n s. level-mapped (text n) _ _ no_parts-mapped s }) s

        items_judged : (xs : Items) → SameJudges (item_judges r (mapped_document f d) xs) (item_judges r d xs)
        items_judged end_items = tt
        items_judged (item v vs) = (admits-mapped v, items_judged vs)

        members_judged : (ms : Members) → SameMembers (member_parts r (mapped_document f d) ms) (member_parts r d ms)
        members_judged no_members = tt
        members_judged (member k v ms) = (record { name = refl; as_absent = refl; says = admits-mapped v }, members_judged ms)

-- ---- annotations and walks are no constraints

bare_keeps : (r : Relations) (p : Plain) (v : Value) → plain_agrees r (bare p) v ≡ plain_agrees r p v
bare_keeps r p null = refl
bare_keeps r p (value.boolean b) = refl
bare_keeps r p (number z) = refl
bare_keeps r p fraction = refl
bare_keeps r p (text s) = refl
bare_keeps r p (list xs) = refl
bare_keeps r p (value.object ms) = refl

unwalked_keeps : (r : Relations) (p : Plain) (v : Value) → plain_agrees r (unwalked p) v ≡ plain_agrees r p v
unwalked_keeps r p null = refl
unwalked_keeps r p (value.boolean b) = refl
unwalked_keeps r p (number z) = refl
unwalked_keeps r p fraction = refl
unwalked_keeps r p (text s) = refl
unwalked_keeps r p (list xs) = refl
unwalked_keeps r p (value.object ms) = refl

pub no_annotation_matters : NoAnnotationMatters
no_annotation_matters r d v s = (admits-mapped r bare (bare_keeps r) (λ p. refl) d v s, admits-mapped r unwalked (unwalked_keeps r) (λ p. refl) d v s)
