-- In a clean document each schema agrees with its entry: by the references that may be followed at one value, then by values.
use Rattle.std.proofs.Common.{◌≡◌, ℕ, zero, suc, List, [], ◌∷◌, ◌++◌, map, Bool, true, false, ◌&&◌, ◌||◌, Option, Some, None, option_map, refl, sym, ap, ◌∙◌, bytes_eq}
use Rattle.std.specs.Prelude.{if◌then◌else◌}
use Rattle.json_value.specs.Value as value
use Rattle.json_value.specs.Value.{Value, Items, Members, null, number, fraction, text, list, no_items, member, no_members, has_name, IsSmall, AllSmall, MembersSmall, is_whole, all_whole, members_whole}
use Rattle.schema_defs.specs.Texts.{Relations, IsLawful}
use Rattle.schema_defs.specs.Schema.{Types, Schema, boolean, object, Definition, Document}
use Rattle.schema_defs.specs.Layer.{Parts, if_given, types_agree}
use Rattle.schema_defs.specs.Admits.{counts_as_absent, target, defined, defined_as, definition_name, is_root_reference, allowed, follow, follows, judge_within, name_admits, admits, admits-level, item_judges, member_parts, parts_of, no_parts}
use Rattle.schema_defs.specs.declared.Setting.{Setting}
use Rattle.schema_defs.specs.declared.Setting.TheVariants.{Strict, NullAbsent}
use Rattle.schema_defs.specs.Mapped.{mapped_document, unwalked}
use Rattle.schema_defs.specs.Walks.{IsGuarded}
use Rattle.schema_defs.proofs.Guarded.{all_end}
use Rattle.schema_defs.proofs.Mapped.{no_annotation_matters}
use Rattle.schema_defs.proofs.Spare.{Given, Refs, Ends, spare as spare-judged}
use Rattle.schema_types.specs.Same.{same_schemas}
use Rattle.schema_types.proofs.Alike.{schemas_Decides}
use Rattle.model_defs.specs.Layer as model
use Rattle.entry_defs.specs.Entry.{Target, the_root, definition, Entry, unit_entry, option_entry, item}
use Rattle.entry_defs.specs.Table.{ItemEntry, found, target_item, allowed as entries_allowed}
use Rattle.entry_defs.specs.Members.{has_member, AreMembers}
use Rattle.entry_defs.specs.Layer as entry
use Rattle.entry_defs.specs.Layer.{shape_takes}
use Rattle.entry_defs.specs.Takes as takes
use Rattle.entry_defs.specs.Takes.{item_takes, takes_within, name_takes}
use Rattle.enum_defs.proofs.Constants.{constant_texts_are_texts}
use Rattle.convert_defs.specs.Row.{Way, Part}
use Rattle.convert_defs.specs.Convert.{as_item, root_name, pattern_key}
use Rattle.convert_defs.specs.Laws.{Keeps}
use Rattle.convert_defs.specs.Owners.{may_be_null}
use Rattle.convert_defs.specs.Proper.{IsProperDocument}
use Rattle.convert_defs.specs.RootReference.{refers_to_root}
use Rattle.convert_defs.specs.Table.{row_of, target_of, types_of_schema}
use Rattle.convert_defs.proofs.Bare.{and_left, impossible, none-some, some-same}
use Rattle.convert_defs.proofs.Exclusive.{exclusive-says, null-free-says}
use Rattle.convert_defs.proofs.Keeps.{keep-equal, keep-from, keep-to}
use Rattle.convert_defs.proofs.KindsKept.{further}
use Rattle.convert_defs.proofs.Small.{not_among}
use Rattle.convert_defs.proofs.Views.{PatternKeys, View, of_null, of_boolean, of_number, of_text, of_list, of_object, JudgesMatch, ItemsMatch, MembersMatch, Constants}
use Rattle.merge_laws.specs.Laws.{ProperDocument}
use Rattle.convert_walks.specs.Spot.{Spot}
use Rattle.convert_walks.specs.Merging.{merged_at}
use Rattle.convert_walks.specs.Tree.{Standing, instead, if_merged, entry_at, definition_spot, root_spot, root_entry, definition_target, root_targets}
use Rattle.conversion_laws.proofs.Clean.{IsGood, IsFree, Clean, R, good, agree-at}
use Rattle.conversion_laws.proofs.Targets.{item-takes, added, table, body_entry, root-last, root-led, no-definition, no-target, spare}
use Rattle.conversion_laws.proofs.Merging.{Known, May, may-end, ends-of, within, standing-in_order, standing-ends, row-agrees, row-keeps}

-- ---- small values have no fractions

mutual
  whole-value : (v : Value) → IsSmall v → is_whole v ≡ true
  whole-value null s = refl
  whole-value (value.boolean b) s = refl
  whole-value (number z) s = refl
  whole-value fraction s = absurd s
  whole-value (text t) s = refl
  whole-value (list xs) s = all-whole xs s
  whole-value (value.object ms) s = members-whole ms s

  all-whole : (xs : Items) → AllSmall xs → all_whole xs ≡ true
  all-whole no_items s = refl
  all-whole (value.item v vs) s = λ i. whole-value v s.0 i && all-whole vs s.1 i

  members-whole : (ms : Members) → MembersSmall ms → members_whole ms ≡ true
  members-whole no_members s = refl
  members-whole (member k v ms) s = λ i. whole-value v s.1 i && members-whole ms s.3 i

module _ (way : Way) (r : Relations) (lawful : IsLawful r) (d : Document) (guarded : IsGuarded d) (fits : ProperDocument d) (in_order : IsProperDocument d) (most n : ℕ) where
  abbrev IsClean : Spot → Schema → Type 0
  IsClean o s = Clean way r d most n o s

  abbrev IsTo : Schema → Entry → Type 0
  IsTo = R way r d most

  abbrev pub AllDefinitions : (Definition → Type 0) → List Definition → Type 0
  AllDefinitions P [] = Unit {0}
  AllDefinitions P (e ∷ es) = P e × AllDefinitions P es

  -- the root only where some reference leads there
  abbrev pub CleanDocument : Type 0
  CleanDocument = (refers_to_root d ≡ true → IsClean (root_spot r d most n) d.root) × AllDefinitions (λ e. IsClean (definition_spot r d most n e) e.body) d.definitions

  module _ (clean : CleanDocument) (v : Value) (whole : is_whole v ≡ true) (ps : Parts) (judged : (s : Schema) → judge_within r d v ps (allowed d) s ≡ admits r d v s) (es : model.Parts entry.Judge) (w : View way d.setting IsTo r v ps es) where
    -- with k references left at this value, of which the table allows m more
    abbrev AgreeAt : ℕ → ℕ → Type 0
    AgreeAt k m = (o : Spot) (s : Schema) → IsClean o s → Ends d k s → Keeps way (judge_within r d v ps k s) (takes_within (table r d most n) r v es m (entry_at r d most n o s))

    abbrev led : ℕ → Option ItemEntry → Bool
    led m o = item_takes (shape_takes r v es (takes.follows (table r d most n) r v es m)) o

    found-keeps : (k m : ℕ) → AgreeAt k m → (name : List ℕ) (ds : List Definition) → AllDefinitions (λ e. IsClean (definition_spot r d most n e) e.body) ds → Given (Ends d k) (option_map (λ e. e.body) (defined name ds))
        → Keeps way (follow (judge_within r d v ps k) (option_map (λ e. e.body) (defined name ds))) (led m (found (definition name) (map (definition_target r d most n) ds ++ root_targets r d most n (refers_to_root d))))
    found-keeps k m a name [] c g0 = keep-equal way _ _ (sym (ap (led m) (no-definition r d most n name (refers_to_root d))))
    found-keeps k m a name (e ∷ ds) c g0 = by (bytes_eq name e.name) (found-keeps k m a name ds c.1) g0
      where
        by : (b : Bool) → (Given (Ends d k) (option_map (λ e. e.body) (defined name ds)) → Keeps way (follow (judge_within r d v ps k) (option_map (λ e. e.body) (defined name ds))) (led m (found (definition name) (map (definition_target r d most n) ds ++ root_targets r d most n (refers_to_root d)))))
            → Given (Ends d k) (option_map (λ e. e.body) (if b then Some e else defined name ds))
            → Keeps way (follow (judge_within r d v ps k) (option_map (λ e. e.body) (if b then Some e else defined name ds))) (led m (if b then Some (as_item e.name (body_entry r d most n e)) else found (definition name) (map (definition_target r d most n) ds ++ root_targets r d most n (refers_to_root d))))
        by true f g0 = keep-to way _ _ _ (a (definition_spot r d most n e) e.body c.0 g0) (item-takes r v es (takes.follows (table r d most n) r v es m) e.name (body_entry r d most n e))
        by false f g0 = f g0

    targets : (k m : ℕ) → AgreeAt k m → (q : List ℕ) (t : Target) → Known d q → Given (Ends d k) (target d q) → target_of q ≡ Some t → Keeps way (follow (judge_within r d v ps k) (target d q)) (led m (target_item (table r d most n) t))
    targets k m a q t known g0 h = by (is_root_reference q) (definition_name q) known h g0
      where
        by : (b : Bool) (o : Option (List ℕ)) → (b ≡ true → refers_to_root d ≡ true) → (if b then Some the_root else option_map definition o) ≡ Some t → Given (Ends d k) (if b then Some d.root else option_map (λ e. e.body) (defined_as d o))
            → Keeps way (follow (judge_within r d v ps k) (if b then Some d.root else option_map (λ e. e.body) (defined_as d o))) (led m (target_item (table r d most n) t))
        by true o u h g0 = keep-to way _ _ _ (a (root_spot r d most n) d.root (clean.0 (u refl)) g0)
            (item-takes r v es (takes.follows (table r d most n) r v es m) (root_name d.root) (root_entry r d most n)
            ∙ ap (led m) (sym (root-last r d most n d.definitions (root_targets r d most n (refers_to_root d)) ∙ root-led r d most n (refers_to_root d) (u refl)))
            ∙ ap (λ u. led m (target_item (table r d most n) u)) (some-same the_root t h))
        by false None u h g0 = none-some t h
        by false (Some name) u h g0 = keep-to way _ _ _ (found-keeps k m a name d.definitions clean.1 g0) (ap (λ u. led m (target_item (table r d most n) u)) (some-same (definition name) t h))

    typed-judge : (k : ℕ) (o : Option Schema) (ts : Types) → types_of_schema o ≡ Some ts → follow (judge_within r d v ps k) o ≡ true → types_agree v ts ≡ true
    typed-judge k None ts e h = none-some ts e
    typed-judge k (Some (boolean b)) ts e h = none-some ts e
    typed-judge k (Some (object p ss ls ns)) ts e h =
        ap (if_given (types_agree v)) (sym e) ∙ and_left _ _ (and_left _ _ (and_left _ _ (and_left _ _ (and_left _ _ (and_left _ _ h)))))

    types-at : (k : ℕ) (q : List ℕ) (ts : Types) → types_of_schema (target d q) ≡ Some ts → follows r d v ps k q ≡ true → types_agree v ts ≡ true
    types-at zero q ts e h = impossible h
    types-at (suc k) q ts e h = typed-judge k (target d q) ts e h

    -- a row that merges
    merging : (k e : ℕ) → further k e ≡ allowed d → (i : ℕ) (o : Spot) (s : Schema) (qs : List Part) → if_merged (row_of r d s) ≡ Some qs → IsGood way r d most s → IsFree way r d most (merged_at d most i o s qs)
        → (t : Standing) → instead o s (merged_at d most i o s qs) ≡ Some t → Refs (May d k) s → Refs (May d k) t.schema × Keeps way (judge_within r d v ps k s) (judge_within r d v ps k t.schema)
    merging k e z i o s qs f g free t j h =
        let x = ends-of d k s h in
        let y = standing-ends d r most i o s qs f t j k x in
        let le = within d k e z in (
          may-end d k t.schema (standing-in_order d r most i o s qs f t j in_order g.in_order) y,
          keep-from way _ _ _ (spare-judged d r v ps k (allowed d) le s x ∙ judged s)
              (keep-to way _ _ _ (row-keeps r lawful d guarded fits most i o way in_order v s qs t (row-agrees r lawful d guarded fits most i o v whole s g.mergeable qs f t j) g.free free)
              (sym (spare-judged d r v ps k (allowed d) le t.schema y ∙ judged t.schema))),
        )

    abbrev pub more : ℕ → ℕ → ℕ
    more zero m = m
    more (suc k) m = suc (more k m)

    none-led : (m : ℕ) (t : Target) → target_item (table r d most n) t ≡ None → takes.follows (table r d most n) r v es m t ≡ false
    none-led zero t h = refl
    none-led (suc m) t h = ap (led m) h

    moved : (k e : ℕ) → further k (suc e) ≡ suc (further k e)
    moved zero e = refl
    moved (suc k) e = ap suc (moved k e)

    refs-at : (k e : ℕ) → further k e ≡ allowed d → (m : ℕ) (q : List ℕ) (t : Target) → May d k q → target_of q ≡ Some t → Keeps way (follows r d v ps k q) (takes.follows (table r d most n) r v es (more k m) t)
    refs-at zero e z m q t g h = keep-equal way _ _ (sym (none-led m t (no-target r d most n q t g.0 h)))
    refs-at (suc k) e z m q t g h =
        let z' = moved k e ∙ z in
        targets k (more k m) (λ o s c x. agree-at way r d most (May d k) (follows r d v ps k) (takes.follows (table r d most n) r v es (more k m)) v ps es w (refs-at k (suc e) z' m) (types-at k)
        (λ st us. exclusive-says way d.setting IsTo r d v ps es w k (suc e) z' st 0 us) (null-free-says way d.setting IsTo r d v ps es w k (suc e) z') (merging k (suc e) z') n o s c
        (may-end d k s (good way r d most s (entry_at r d most n o s) (n, o, c, refl)).in_order x)) q t g.1 g.0 h

    pub agree-within : (k e : ℕ) → further k e ≡ allowed d → (m : ℕ) (s : Schema) (u : Entry) → IsTo s u → Ends d k s → Keeps way (judge_within r d v ps k s) (takes_within (table r d most n) r v es (more k m) u)
    agree-within k e z m s u (i, o, c, q) x =
        keep-to way _ _ _
        (agree-at way r d most (May d k) (follows r d v ps k) (takes.follows (table r d most n) r v es (more k m)) v ps es w (refs-at k e z m) (types-at k)
        (λ st us. exclusive-says way d.setting IsTo r d v ps es w k e z st 0 us) (null-free-says way d.setting IsTo r d v ps es w k e z) (merging k e z) i o s c
        (may-end d k s (good way r d most s u (i, o, c, q)).in_order x))
        (ap (takes_within (table r d most n) r v es (more k m)) (sym q))

  -- ---- the value

  same-end : (k : ℕ) → further k 0 ≡ k
  same-end zero = refl
  same-end (suc k) = ap suc (same-end k)

  takes-level : (v : Value) → takes.value_takes (table r d most n) r v ≡ takes_within (table r d most n) r v (takes.parts_of (table r d most n) r v) (entries_allowed (table r d most n))
  takes-level null = refl
  takes-level (value.boolean b) = refl
  takes-level (number z) = refl
  takes-level fraction = refl
  takes-level (text s) = refl
  takes-level (list xs) = refl
  takes-level (value.object ms) = refl

  module _ (clean : CleanDocument) where
    same-more : (v : Value) (whole : is_whole v ≡ true) (ps : Parts) (judged : (s : Schema) → judge_within r d v ps (allowed d) s ≡ admits r d v s) (es : model.Parts entry.Judge) (w : View way d.setting IsTo r v ps es) (k m : ℕ) → more clean v whole ps judged es w k m ≡ added k m
    same-more v whole ps judged es w zero m = refl
    same-more v whole ps judged es w (suc k) m = ap suc (same-more v whole ps judged es w k m)

    within-allowed : (v : Value) (whole : is_whole v ≡ true) (ps : Parts) (judged : (s : Schema) → judge_within r d v ps (allowed d) s ≡ admits r d v s) (es : model.Parts entry.Judge) (w : View way d.setting IsTo r v ps es) (s : Schema) (e : Entry) → IsTo s e
        → Keeps way (judge_within r d v ps (allowed d) s) (takes_within (table r d most n) r v es (entries_allowed (table r d most n)) e)
    within-allowed v whole ps judged es w s e c =
        let z = spare r d most n in
        keep-to way _ _ _ (agree-within clean v whole ps judged es w (allowed d) 0 (same-end (allowed d)) z.0 s e c (all_end d guarded s))
        (ap (λ k. takes_within (table r d most n) r v es k e) (same-more v whole ps judged es w (allowed d) z.0 ∙ sym z.1))

    same-admitted : (v : Value) (a b : Schema) → same_schemas a b ≡ true → admits r d v a ≡ admits r d v b
    same-admitted v a b h =
        let f = (schemas_Decides a b).0 h in
        sym (no_annotation_matters r d v a).1 ∙ ap (admits r (mapped_document unwalked d) v) f ∙ (no_annotation_matters r d v b).1

    from-view : (v : Value) → is_whole v ≡ true → View way d.setting IsTo r v (parts_of r d v) (takes.parts_of (table r d most n) r v) → JudgesMatch way d.setting IsTo (admits r d v) (takes.value_takes (table r d most n) r v)
    from-view v whole w = record {
      agree = λ s e c. keep-from way _ _ _ (ap (λ j. j s) (admits-level r d v)) (keep-to way _ _ _ (within-allowed v whole _ (λ s. sym (ap (λ j. j s) (admits-level r d v))) _ w s e c) (ap (λ j. j e) (sym (takes-level v))));
      booleans = λ b. ap (λ j. j (boolean b)) (admits-level r d v);
      labels = λ l m h. ap (λ j. j (item l h)) (takes-level v) ∙ sym (ap (λ j. j (item m h)) (takes-level v));
      alike = λ a b h. same-admitted v a b h;
      options = λ e. ap (λ j. j (option_entry e)) (takes-level v) ∙ sym (λ i. takes-level v i unit_entry || takes-level v i e);
    }

    name-match : (name : List ℕ) → JudgesMatch way d.setting IsTo (name_admits r d name) (name_takes (table r d most n) r name)
    name-match name = record {
      agree = λ s e c. within-allowed (text name) refl _ (λ s. refl) _ (of_text name (no_parts r d)) s e c;
      booleans = λ b. refl;
      labels = λ l m h. refl;
      alike = λ a b h. same-admitted (text name) a b h;
      options = λ e. refl;
    }

    same-names : (name : List ℕ) (ms : Members) → has_member name (takes.member_judges (table r d most n) r ms) ≡ has_name name ms
    same-names name no_members = refl
    same-names name (member k v ms) = ap (λ b. bytes_eq name k || b) (same-names name ms)

    are-members : (ms : Members) → MembersSmall ms → AreMembers (takes.member_judges (table r d most n) r ms)
    are-members no_members s = tt
    are-members (member k v ms) s = (same-names k ms ∙ not_among k ms s.2 s.3, refl, are-members ms s.3)

    pattern-keys : (ms : Members) → PatternKeys way d.setting IsTo r (takes.member_judges (table r d most n) r ms)
    pattern-keys no_members = tt
    pattern-keys (member k v ms) = ((λ qs. patterned k qs), pattern-keys ms)
      where
        patterned : (k : List ℕ) (qs : List (List ℕ)) → name_takes (table r d most n) r k (pattern_key qs) ≡ model.has_one_of (λ q. r.matches q k) qs
        patterned k qs = refl

    constants : (ms : Members) → Constants way d.setting IsTo ms (member_parts r d ms)
    constants no_members = tt
    constants (member k v ms) = ((λ u s e. constant_texts_are_texts r d v u s e), constants ms)

    absent-is : (x : Setting) (v : Value) → counts_as_absent x v ≡ (may_be_null x && takes.value_takes (table r d most n) r v unit_entry)
    absent-is Strict v = refl
    absent-is NullAbsent null = refl
    absent-is NullAbsent (value.boolean b) = refl
    absent-is NullAbsent (number z) = refl
    absent-is NullAbsent fraction = refl
    absent-is NullAbsent (text s) = refl
    absent-is NullAbsent (list xs) = refl
    absent-is NullAbsent (value.object ms) = refl

    mutual
      pub value-match : (v : Value) → IsSmall v → JudgesMatch way d.setting IsTo (admits r d v) (takes.value_takes (table r d most n) r v)
      value-match null s = from-view null refl (of_null (no_parts r d))
      value-match (value.boolean b) s = from-view (value.boolean b) refl (of_boolean b (no_parts r d))
      value-match (number z) s = from-view (number z) refl (of_number z (no_parts r d) s)
      value-match fraction s = absurd s
      value-match (text t) s = from-view (text t) refl (of_text t (no_parts r d))
      value-match (list xs) s = from-view (list xs) (all-whole xs s) (of_list xs (parts_of r d (list xs)) (takes.item_judges (table r d most n) r xs) (items-match xs s))
      value-match (value.object ms) s = from-view (value.object ms) (members-whole ms s) (of_object ms (parts_of r d (value.object ms)) (takes.member_judges (table r d most n) r ms) (members-match ms s) (are-members ms s, (constants ms, pattern-keys ms)))

      items-match : (xs : Items) → AllSmall xs → ItemsMatch way d.setting IsTo xs (item_judges r d xs) (takes.item_judges (table r d most n) r xs)
      items-match no_items s = tt
      items-match (value.item v vs) s = (value-match v s.0, items-match vs s.1)

      members-match : (ms : Members) → MembersSmall ms → MembersMatch way d.setting IsTo (name_admits r d) ms (member_parts r d ms) (takes.member_judges (table r d most n) r ms)
      members-match no_members s = tt
      members-match (member k v ms) s = (record { same_name = refl; name_is = refl; as_absent = absent-is d.setting v; value = value-match v s.1; key = name-match k; is_text = refl }, members-match ms s.3)
