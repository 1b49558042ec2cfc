-- Walks aside, what the definitions of merging ask of schemas is the same.
use Rattle.std.proofs.Common.{◌≡◌, ℕ, zero, suc, List, [], ◌∷◌, ◌++◌, map, length, Bool, true, false, ◌&&◌, ◌||◌, not, Option, Some, None, is_some, is_none, option_map, ◌+◌, ◌⊎◌, inl, inr, refl, ap, ◌∙◌, bytes_eq}
use Rattle.std.specs.Prelude.{nat_le, option_and_then, if◌then◌else◌}
use Rattle.std.specs.List.{list_any, list_all}
use Rattle.json_value.specs.Value.{same_bool}
use Rattle.schema_defs.specs.Schema.{ListRules, MemberRules, Plain, Schema, boolean, object, Same, no_same, same_value, Lists, no_lists, lists, Named, no_named, named, MaybeSchema, no_schema, the_schema, MaybeSchemas, no_list, the_list, Schemas, no_more, schema, schema_list, schemas, Places, no_items, each_item, by_place, Properties, no_properties, property, Document}
use Rattle.schema_defs.specs.Layer.{property_at, is_given}
use Rattle.schema_defs.specs.Admits.{target, allowed}
use Rattle.schema_defs.specs.Counts.{is_list, is_schema, one_if}
use Rattle.schema_defs.specs.declared.InstanceType.TheVariants.{Object}
use Rattle.schema_defs.specs.Mapped.{mapped, mapped_same, mapped_lists, mapped_named, mapped_maybe, mapped_list, mapped_all, mapped_places, mapped_properties, unwalked}
use Rattle.enum_defs.specs.declared.KindSet.{KindSet}
use Rattle.enum_defs.specs.Words.{Name, is_name, names_of, props_of, required_of, is_bare, is_unruled, has_type, without_same, without_lists, without_named}
use Rattle.enum_defs.specs.Shapes.{ObjectShape, may_be_text, holds_text_at_most, held_text, constant_text, constant_in, constant_at, closed_by, is_uncounted, closedness, shape_of, object_shape, is_required, property_names}
use Rattle.enum_defs.specs.Kinds.{meet, join, or_every, own_kinds, kinds_at, kinds_of_same, kinds_of_all, kinds_of_some, kinds_meet, kinds_union, kinds_referred, kinds}
use Rattle.enum_defs.specs.Exclusive.{is_disjoint, texts_differ, differ_by_text, requires_other, shapes_differ, refers_at_most, reference_alone, or_stays, led_within, led, are_apart, exclusive}
use Rattle.merge_defs.specs.Outcome.{less_than, more_than, of_absent, note_if}
use Rattle.merge_defs.specs.Alike.{Look, alike, alike_same, alike_lists, alike_named, alike_maybe, alike_list, alike_all, alike_places, alike_properties, same_list_rules, same_member_rules, same_constraints, same_plain, is_absent, nothing_beside, is_unconstrained, roughly, wholly, same_schemas}
use Rattle.merge_defs.specs.Arrays.{Front, schema_count, first_schemas, cut_to, alone, or_true, pairs, Merged, no_list_rules, kept_lists, with_front}
use Rattle.merge_defs.specs.Objects.{all_names, beside, is_false, no_rest, shuts_out, unsaid_at, needs_more, is_object_schema, forgets_rest, absent_notes, has_patterns, mixes_names, names_mix, no_member_rules, kept_named, kept_if}
use Rattle.merge_defs.specs.Members.{only_same, negation, negations, any_of, one_of, Left, Fate, out, left, Kept, joint, with_fate, is_as_body, is_as_member, is_joined, are_two, any_narrows, one_narrows, one_mixes, one_forgets, left_schemas, loses}
use Rattle.merge_defs.specs.Less.{subschema_count, is_conditional, no_leaves, values_alone, one_required, object_or_none, one_name_alone, kinds_apart, is_one_subschema, subschema_alone}
use Rattle.merge_defs.specs.Merge.{drops_siblings, tidied}

abbrev pub U : Schema → Schema
U = mapped unwalked

abbrev pub Us : Same → Same
Us = mapped_same unwalked

abbrev pub Ul : Lists → Lists
Ul = mapped_lists unwalked

abbrev pub Un : Named → Named
Un = mapped_named unwalked

abbrev pub Um : MaybeSchema → MaybeSchema
Um = mapped_maybe unwalked

abbrev pub Ua : Schemas → Schemas
Ua = mapped_all unwalked

abbrev pub Up : Places → Places
Up = mapped_places unwalked

abbrev pub Ur : Properties → Properties
Ur = mapped_properties unwalked

-- ---- what stands

pub false-u : (s : Schema) → is_false (U s) ≡ is_false s
false-u (boolean b) = refl
false-u (object p ss ls ns) = refl

pub same-u : (ss : Same) → without_same (Us ss) ≡ without_same ss
same-u no_same = refl
same-u (same_value all any one none c) = refl

pub lists-u : (ls : Lists) → without_lists (Ul ls) ≡ without_lists ls
lists-u no_lists = refl
lists-u (lists p x a c) = refl

pub named-u : (ns : Named) → without_named (Un ns) ≡ without_named ns
named-u no_named = refl
named-u (named ps pp x xn c) = refl

pub names-u : (ps : Properties) → names_of (Ur ps) ≡ names_of ps
names-u no_properties = refl
names-u (property n s ps) = ap (λ ns. n ∷ ns) (names-u ps)

given-u : (m : MaybeSchema) → is_given (Um m) ≡ is_given m
given-u no_schema = refl
given-u (the_schema s) = refl

pub at-u : (n : List ℕ) (ps : Properties) → property_at n (Ur ps) ≡ Um (property_at n ps)
at-u n no_properties = refl
at-u n (property k s ps) = go (bytes_eq n k) (at-u n ps)
  where
    go : (b : Bool) → property_at n (Ur ps) ≡ Um (property_at n ps) → (if b then the_schema (U s) else property_at n (Ur ps)) ≡ Um (if b then the_schema s else property_at n ps)
    go true h = refl
    go false h = h

given-at : (n : List ℕ) (ps : Properties) → is_given (property_at n (Ur ps)) ≡ is_given (property_at n ps)
given-at n ps = ap is_given (at-u n ps) ∙ given-u (property_at n ps)

pub patterns-u : (pp : Properties) (xn : MaybeSchema) → has_patterns (Ur pp) (Um xn) ≡ has_patterns pp xn
patterns-u no_properties no_schema = refl
patterns-u no_properties (the_schema s) = refl
patterns-u (property n s ps) no_schema = refl
patterns-u (property n s ps) (the_schema t) = refl

pub rest-u : (x : MaybeSchema) → no_rest (Um x) ≡ no_rest x
rest-u no_schema = refl
rest-u (the_schema s) = false-u s

object_schema-u : (x : MaybeSchema) → is_object_schema (Um x) ≡ is_object_schema x
object_schema-u no_schema = refl
object_schema-u (the_schema (boolean b)) = refl
object_schema-u (the_schema (object p ss ls ns)) = refl

-- ---- notes of members

shuts-u : (n : List ℕ) (ps : Properties) (x : MaybeSchema) → shuts_out n (Ur ps) (Um x) ≡ shuts_out n ps x
shuts-u n ps x = λ i. not (given-at n ps i) && rest-u x i

pub unsaid-u : (nulls : Bool) (ps : Properties) (x : MaybeSchema) (qs : Properties) (y : MaybeSchema) (n : List ℕ) → unsaid_at nulls (Ur ps) (Um x) (Ur qs) (Um y) n ≡ unsaid_at nulls ps x qs y n
unsaid-u nulls ps x qs y n = λ i. note_if (nulls && not (shuts-u n ps x i || shuts-u n qs y i)) (less_than of_absent ∷ [])

needs-u : (needed : List (List ℕ)) (qs : Properties) (others : List (List ℕ)) → needs_more needed (Ur qs) others ≡ needs_more needed qs others
needs-u needed qs others = λ i. list_any (λ n. given-at n qs i && not (is_name n others)) needed

forgets-u : (needed : List (List ℕ)) (ps qs : Properties) (y : MaybeSchema) → forgets_rest needed (Ur ps) (Ur qs) (Um y) ≡ forgets_rest needed ps qs y
forgets-u needed ps qs y = λ i. object_schema-u y i && list_any (λ n. not (given-at n qs i) && not (is_name n needed)) (names-u ps i)

pub absent-u : (ps : Properties) (x : MaybeSchema) (c : MemberRules) (qs : Properties) (y : MaybeSchema) (d : MemberRules) → absent_notes (Ur ps) (Um x) c (Ur qs) (Um y) d ≡ absent_notes ps x c qs y d
absent-u ps x c qs y d = λ i. note_if (needs-u c.required qs d.required i || needs-u d.required ps c.required i) (less_than of_absent ∷ [])
    ++ note_if (forgets-u (all_names c.required d.required) ps qs y i || forgets-u (all_names c.required d.required) qs ps x i) (more_than of_absent ∷ [])

mixes-u : (ps pp : Properties) (xn : MaybeSchema) (qs : Properties) → mixes_names (Ur ps) (Ur pp) (Um xn) (Ur qs) ≡ mixes_names ps pp xn qs
mixes-u ps pp xn qs = λ i. patterns-u pp xn i && list_any (λ n. not (given-at n ps i)) (names-u qs i)

pub mix-u : (ns os : Named) → names_mix (Un ns) (Un os) ≡ names_mix ns os
mix-u no_named no_named = refl
mix-u no_named (named qs qq y yn d) = refl
mix-u (named ps pp x xn c) no_named = refl
mix-u (named ps pp x xn c) (named qs qq y yn d) = λ i. mixes-u ps pp xn qs i || mixes-u qs qq yn ps i

-- ---- what is made of members

kept_named-u : (os : Named) → Un (kept_named os) ≡ kept_named (Un os)
kept_named-u no_named = refl
kept_named-u (named no_properties no_properties no_schema no_schema c) = go (no_member_rules c)
  where
    go : (b : Bool) → Un (if b then no_named else named no_properties no_properties no_schema no_schema c) ≡ (if b then no_named else named no_properties no_properties no_schema no_schema c)
    go true = refl
    go false = refl
kept_named-u (named (property n s ps) pp x xn c) = refl
kept_named-u (named no_properties (property n s ps) x xn c) = refl
kept_named-u (named no_properties no_properties (the_schema s) xn c) = refl
kept_named-u (named no_properties no_properties no_schema (the_schema s) c) = refl

pub kept_if-u : (b : Bool) (os : Named) → Un (kept_if b os) ≡ kept_if b (Un os)
kept_if-u true os = kept_named-u os
kept_if-u false os = refl

pub beside-u : (s : Schema) (x : MaybeSchema) → U (beside s x) ≡ beside (U s) (Um x)
beside-u s no_schema = refl
beside-u s (the_schema (boolean true)) = refl
beside-u s (the_schema (boolean false)) = refl
beside-u s (the_schema (object p ss ls ns)) = refl

-- ---- lists

count-u : (ss : Schemas) → schema_count (Ua ss) ≡ schema_count ss
count-u no_more = refl
count-u (schema s ss) = ap suc (count-u ss)

first-u : (n : ℕ) (ss : Schemas) → first_schemas n (Ua ss) ≡ Ua (first_schemas n ss)
first-u zero ss = refl
first-u (suc n) no_more = refl
first-u (suc n) (schema s ss) = ap (schema (U s)) (first-u n ss)

abbrev pub Uf : Front → Front
Uf f = record { places = Up f.places; rest = Um f.rest; max_items = f.max_items }

cut-u : (most : Option ℕ) (ss : Schemas) (rest : MaybeSchema) → cut_to most (Ua ss) (Um rest) ≡ Uf (cut_to most ss rest)
cut-u None ss rest = refl
cut-u (Some n) ss rest =
    (λ i. if nat_le n (count-u ss i) then record { places = by_place (first-u n ss i); rest = no_schema; max_items = Some n } else record { places = by_place (Ua ss); rest = Um rest; max_items = Some n })
    ∙ go (nat_le n (schema_count ss))
  where
    go : (b : Bool) → (if b then record { places = by_place (Ua (first_schemas n ss)); rest = no_schema; max_items = Some n } else record { places = by_place (Ua ss); rest = Um rest; max_items = Some n })
        ≡ Uf (if b then record { places = by_place (first_schemas n ss); rest = no_schema; max_items = Some n } else record { places = by_place ss; rest = rest; max_items = Some n })
    go true = refl
    go false = refl

pub alone-u : (most : Option ℕ) (p : Places) (x : MaybeSchema) → alone most (Up p) (Um x) ≡ Uf (alone most p x)
alone-u most no_items x = refl
alone-u most (each_item s) x = refl
alone-u most (by_place ss) x = cut-u most ss x

pub or_true-u : (m : MaybeSchema) → or_true (Um m) ≡ U (or_true m)
or_true-u no_schema = refl
or_true-u (the_schema s) = refl

abbrev pub Ut : Schema × Schema → Schema × Schema
Ut p = (U p.0, U p.1)

pub pairs-u : (ss : Schemas) (x : Schema) (ts : Schemas) (y : Schema) → pairs (Ua ss) (U x) (Ua ts) (U y) ≡ map Ut (pairs ss x ts y)
pairs-u no_more x no_more y = refl
pairs-u no_more x (schema t ts) y = ap (λ ps. (U x, U t) ∷ ps) (pairs-u no_more x ts y)
pairs-u (schema s ss) x no_more y = ap (λ ps. (U s, U y) ∷ ps) (pairs-u ss x no_more y)
pairs-u (schema s ss) x (schema t ts) y = ap (λ ps. (U s, U t) ∷ ps) (pairs-u ss x ts y)

abbrev pub Ue : Merged → Merged
Ue m = record { items = Ua m.items; end = m.end }

kept_lists-u : (ls : Lists) → Ul (kept_lists ls) ≡ kept_lists (Ul ls)
kept_lists-u no_lists = refl
kept_lists-u (lists no_items no_schema no_schema c) = go (no_list_rules c)
  where
    go : (b : Bool) → Ul (if b then no_lists else lists no_items no_schema no_schema c) ≡ (if b then no_lists else lists no_items no_schema no_schema c)
    go true = refl
    go false = refl
kept_lists-u (lists (each_item s) x a c) = refl
kept_lists-u (lists (by_place ss) x a c) = refl
kept_lists-u (lists no_items (the_schema s) a c) = refl
kept_lists-u (lists no_items no_schema (the_schema s) c) = refl

pub with_front-u : (contains : MaybeSchema) (c : ListRules) (f : Front) → Ul (with_front contains c f) ≡ with_front (Um contains) c (Uf f)
with_front-u contains c f = kept_lists-u (lists f.places f.rest contains (record c { max_items = f.max_items }))

-- ---- schemas that are alike

module _ (k : Look) (plain : (p q : Plain) → k.plain (unwalked p) (unwalked q) ≡ k.plain p q) (as_true : (s : Schema) → k.as_true (U s) ≡ k.as_true s) where
  mutual
    pub alike-u : (s t : Schema) → alike k (U s) (U t) ≡ alike k s t
    alike-u (boolean a) (boolean b) = refl
    alike-u (boolean a) (object q tt' ms os) = ap (λ x. a && x) (as_true (object q tt' ms os))
    alike-u (object p ss ls ns) (boolean b) = ap (λ x. b && x) (as_true (object p ss ls ns))
    alike-u (object p ss ls ns) (object q tt' ms os) = λ i. plain p q i && alike_same-u ss tt' i && alike_lists-u ls ms i && alike_named-u ns os i

    alike_same-u : (ss tt' : Same) → alike_same k (Us ss) (Us tt') ≡ alike_same k ss tt'
    alike_same-u no_same no_same = refl
    alike_same-u no_same (same_value a' b' c' d' e') = refl
    alike_same-u (same_value a b c d e) no_same = refl
    alike_same-u (same_value a b c d e) (same_value a' b' c' d' e') = λ i. alike_list-u a a' i && alike_list-u b b' i && alike_list-u c c' i && alike_maybe-u d d' i && same_bool e e'

    alike_lists-u : (ls ms : Lists) → alike_lists k (Ul ls) (Ul ms) ≡ alike_lists k ls ms
    alike_lists-u no_lists no_lists = refl
    alike_lists-u no_lists (lists p' a' c' r') = refl
    alike_lists-u (lists p a c r) no_lists = refl
    alike_lists-u (lists p a c r) (lists p' a' c' r') = λ i. alike_places-u p p' i && (if k.whole_lists then (alike_maybe-u a a' i && alike_maybe-u c c' i && same_list_rules r r') else true)

    alike_named-u : (ns os : Named) → alike_named k (Un ns) (Un os) ≡ alike_named k ns os
    alike_named-u no_named no_named = refl
    alike_named-u no_named (named p' q' a' n' r') = refl
    alike_named-u (named p q a n r) no_named = refl
    alike_named-u (named p q a n r) (named p' q' a' n' r') = λ i. alike_properties-u p p' i && alike_properties-u q q' i && alike_maybe-u a a' i && alike_maybe-u n n' i && same_member_rules r r'

    alike_maybe-u : (x y : MaybeSchema) → alike_maybe k (Um x) (Um y) ≡ alike_maybe k x y
    alike_maybe-u no_schema no_schema = refl
    alike_maybe-u no_schema (the_schema t) = refl
    alike_maybe-u (the_schema s) no_schema = refl
    alike_maybe-u (the_schema s) (the_schema t) = alike-u s t

    alike_list-u : (x y : MaybeSchemas) → alike_list k (mapped_list unwalked x) (mapped_list unwalked y) ≡ alike_list k x y
    alike_list-u no_list no_list = refl
    alike_list-u no_list (the_list ts) = refl
    alike_list-u (the_list ss) no_list = refl
    alike_list-u (the_list ss) (the_list ts) = alike_all-u ss ts

    alike_all-u : (ss ts : Schemas) → alike_all k (Ua ss) (Ua ts) ≡ alike_all k ss ts
    alike_all-u no_more no_more = refl
    alike_all-u no_more (schema t ts) = refl
    alike_all-u (schema s ss) no_more = refl
    alike_all-u (schema s ss) (schema t ts) = λ i. alike-u s t i && alike_all-u ss ts i

    alike_places-u : (p q : Places) → alike_places k (Up p) (Up q) ≡ alike_places k p q
    alike_places-u no_items no_items = refl
    alike_places-u no_items (each_item t) = refl
    alike_places-u no_items (by_place ts) = refl
    alike_places-u (each_item s) no_items = refl
    alike_places-u (each_item s) (each_item t) = alike-u s t
    alike_places-u (each_item s) (by_place ts) = refl
    alike_places-u (by_place ss) no_items = refl
    alike_places-u (by_place ss) (each_item t) = refl
    alike_places-u (by_place ss) (by_place ts) = alike_all-u ss ts

    alike_properties-u : (ps qs : Properties) → alike_properties k (Ur ps) (Ur qs) ≡ alike_properties k ps qs
    alike_properties-u no_properties no_properties = refl
    alike_properties-u no_properties (property m t qs) = refl
    alike_properties-u (property n s ps) no_properties = refl
    alike_properties-u (property n s ps) (property m t qs) = λ i. bytes_eq n m && (alike-u s t i && alike_properties-u ps qs i)

unconstrained-u : (s : Schema) → is_unconstrained (U s) ≡ is_unconstrained s
unconstrained-u (boolean b) = refl
unconstrained-u (object p ss ls ns) = λ i. (nothing_beside p && is_absent p.reference) && (same-u ss i && (lists-u ls i && named-u ns i))

pub roughly-u : (s t : Schema) → roughly (U s) (U t) ≡ roughly s t
roughly-u s t = alike-u (record { plain = same_constraints; as_true = is_unconstrained; whole_lists = false }) (λ p q. refl) unconstrained-u s t

wholly-u : (s t : Schema) → wholly (U s) (U t) ≡ wholly s t
wholly-u s t = alike-u (record { plain = same_constraints; as_true = is_unconstrained; whole_lists = true }) (λ p q. refl) unconstrained-u s t

pub loses-u : (s t : Schema) → loses (U s) (U t) ≡ loses s t
loses-u s t = ap not (wholly-u s t)

pub same_schemas-u : (s t : Schema) → same_schemas (U s) (U t) ≡ same_schemas s t
same_schemas-u s t = alike-u (record { plain = same_plain; as_true = λ s. false; whole_lists = true }) (λ p q. refl) (λ s. refl) s t

-- ---- kinds

module _ (refer : Name → KindSet) where
  mutual
    kinds_at-u : (s : Schema) → kinds_at refer (U s) ≡ kinds_at refer s
    kinds_at-u (boolean b) = refl
    kinds_at-u (object p ss ls ns) = ap (λ k. meet (own_kinds (object p ss ls ns)) (meet (or_every refer p.reference) k)) (kinds_of_same-u ss)

    kinds_of_same-u : (ss : Same) → kinds_of_same refer (Us ss) ≡ kinds_of_same refer ss
    kinds_of_same-u no_same = refl
    kinds_of_same-u (same_value all any one none c) = λ i. meet (kinds_of_all-u all i) (meet (kinds_of_some-u any i) (kinds_of_some-u one i))

    kinds_of_all-u : (m : MaybeSchemas) → kinds_of_all refer (mapped_list unwalked m) ≡ kinds_of_all refer m
    kinds_of_all-u no_list = refl
    kinds_of_all-u (the_list ss) = kinds_meet-u ss

    kinds_of_some-u : (m : MaybeSchemas) → kinds_of_some refer (mapped_list unwalked m) ≡ kinds_of_some refer m
    kinds_of_some-u no_list = refl
    kinds_of_some-u (the_list ss) = kinds_union-u ss

    kinds_meet-u : (ss : Schemas) → kinds_meet refer (Ua ss) ≡ kinds_meet refer ss
    kinds_meet-u no_more = refl
    kinds_meet-u (schema s ss) = λ i. meet (kinds_at-u s i) (kinds_meet-u ss i)

    kinds_union-u : (ss : Schemas) → kinds_union refer (Ua ss) ≡ kinds_union refer ss
    kinds_union-u no_more = refl
    kinds_union-u (schema s ss) = λ i. join (kinds_at-u s i) (kinds_union-u ss i)

kinds-u : (d : Document) (s : Schema) → kinds d (U s) ≡ kinds d s
kinds-u d s = kinds_at-u (kinds_referred d (allowed d)) s

-- ---- object shapes

props-u : (ns : Named) → props_of (Un ns) ≡ Ur (props_of ns)
props-u no_named = refl
props-u (named ps pp x xn c) = refl

required-u : (ns : Named) → required_of (Un ns) ≡ required_of ns
required-u no_named = refl
required-u (named ps pp x xn c) = refl

texts_at_most-u : (s : Schema) → holds_text_at_most (U s) ≡ holds_text_at_most s
texts_at_most-u (boolean b) = refl
texts_at_most-u (object p ss ls ns) = λ i. may_be_text p.types && is_unruled p && is_none p.reference && same-u ss i && lists-u ls i && named-u ns i

constant-u : (s : Schema) → constant_text (U s) ≡ constant_text s
constant-u (boolean b) = refl
constant-u (object p ss ls ns) = ap (λ b. if b then held_text (object p ss ls ns) else None) (texts_at_most-u (object p ss ls ns))

constant_in-u : (m : MaybeSchema) → constant_in (Um m) ≡ constant_in m
constant_in-u no_schema = refl
constant_in-u (the_schema s) = constant-u s

abbrev Uo : ObjectShape → ObjectShape
Uo a = record { object = Un a.object; closed = a.closed }

constant_at-u : (n : Name) (a : ObjectShape) → constant_at n (Uo a) ≡ constant_at n a
constant_at-u n a = ap (λ ps. constant_in (property_at n ps)) (props-u a.object) ∙ ap constant_in (at-u n (props_of a.object)) ∙ constant_in-u (property_at n (props_of a.object))

differ-l : (a b : ObjectShape) → differ_by_text (Uo a) b ≡ differ_by_text a b
differ-l a b = λ i. list_any (λ n. is_required n b && texts_differ (constant_at-u n a i) (constant_at n b)) (required-u a.object i)

differ-r : (a b : ObjectShape) → differ_by_text a (Uo b) ≡ differ_by_text a b
differ-r a b = λ i. list_any (λ n. is_name n (required-u b.object i) && texts_differ (constant_at n a) (constant_at-u n b i)) (required_of a.object)

shape_names-u : (a : ObjectShape) → property_names (Uo a) ≡ property_names a
shape_names-u a = ap names_of (props-u a.object) ∙ names-u (props_of a.object)

requires-l : (a b : ObjectShape) → requires_other (Uo a) b ≡ requires_other a b
requires-l a b = λ i. b.closed && list_any (λ n. not (is_name n (property_names b))) (required-u a.object i)

requires-r : (a b : ObjectShape) → requires_other a (Uo b) ≡ requires_other a b
requires-r a b = λ i. b.closed && list_any (λ n. not (is_name n (shape_names-u b i))) (required_of a.object)

shapes-l : (x y : Option ObjectShape) → shapes_differ (option_map Uo x) y ≡ shapes_differ x y
shapes-l None y = refl
shapes-l (Some a) None = refl
shapes-l (Some a) (Some b) = λ i. differ-l a b i || requires-l a b i || requires-r b a i

shapes-r : (x y : Option ObjectShape) → shapes_differ x (option_map Uo y) ≡ shapes_differ x y
shapes-r None None = refl
shapes-r None (Some b) = refl
shapes-r (Some a) None = refl
shapes-r (Some a) (Some b) = λ i. differ-r a b i || requires-r a b i || requires-l b a i

closed_by-u : (x : MaybeSchema) → closed_by (Um x) ≡ closed_by x
closed_by-u no_schema = refl
closed_by-u (the_schema (boolean b)) = refl
closed_by-u (the_schema (object p ss ls ns)) = refl

closedness-u : (ns : Named) → closedness (Un ns) ≡ closedness ns
closedness-u no_named = refl
closedness-u (named ps no_properties x no_schema c) = λ i. if is_uncounted c && list_all (λ n. is_name n (names-u ps i)) c.required then closed_by-u x i else None
closedness-u (named ps (property n s qs) x xn c) = refl
closedness-u (named ps no_properties x (the_schema s) c) = refl

shape_of-u : (ns : Named) → shape_of (Un ns) ≡ option_map Uo (shape_of ns)
shape_of-u ns = ap (option_map (λ c. record { object = Un ns; closed = c })) (closedness-u ns) ∙ go (closedness ns)
  where
    go : (o : Option Bool) → option_map (λ c. record { object = Un ns; closed = c }) o ≡ option_map Uo (option_map (λ c. record { object = ns; closed = c }) o)
    go None = refl
    go (Some c) = refl

bare-u : (p : Plain) (ss : Same) → is_bare (unwalked p) (Us ss) ≡ is_bare p ss
bare-u p no_same = refl
bare-u p (same_value all any one none c) = refl

object_shape-u : (s : Schema) → object_shape (U s) ≡ option_map Uo (object_shape s)
object_shape-u (boolean b) = refl
object_shape-u (object p ss ls ns) =
    (λ i. if has_type Object p.types && bare-u p ss i && is_unruled p && lists-u ls i then shape_of-u ns i else None) ∙ go (has_type Object p.types && is_bare p ss && is_unruled p && without_lists ls)
  where
    go : (b : Bool) → (if b then option_map Uo (shape_of ns) else None) ≡ option_map Uo (if b then shape_of ns else None)
    go true = refl
    go false = refl

-- ---- where references alone lead

refers-u : (s : Schema) → refers_at_most (U s) ≡ refers_at_most s
refers-u (boolean b) = refl
refers-u (object p ss ls ns) = λ i. is_none p.types && is_none p.enum_values && is_none p.const_value && is_unruled p && same-u ss i && lists-u ls i && named-u ns i

alone_reference-u : (s : Schema) → reference_alone (U s) ≡ reference_alone s
alone_reference-u (boolean b) = refl
alone_reference-u (object p ss ls ns) = ap (λ b. if b then p.reference else None) (refers-u (object p ss ls ns))

-- with walks aside, or as it was
abbrev Alike_shapes : Option ObjectShape → Option ObjectShape → Type 0
Alike_shapes x y = (x ≡ option_map Uo y) ⊎ (x ≡ y)

led-u : (d : Document) (n : ℕ) (s : Schema) → Alike_shapes (object_shape (led_within d n (U s))) (object_shape (led_within d n s))
led-u d zero s = inl (object_shape-u s)
led-u d (suc n) s = go (option_and_then (target d) (reference_alone s)) (ap (option_and_then (target d)) (alone_reference-u s))
  where
    go : (o : Option Schema) → option_and_then (target d) (reference_alone (U s)) ≡ o → Alike_shapes (object_shape (or_stays (led_within d n) (U s) (option_and_then (target d) (reference_alone (U s))))) (object_shape (or_stays (led_within d n) s o))
    go None e = inl (ap (λ o. object_shape (or_stays (led_within d n) (U s) o)) e ∙ object_shape-u s)
    go (Some t) e = inr (ap (λ o. object_shape (or_stays (led_within d n) (U s) o)) e)

shapes-both : (x x' y y' : Option ObjectShape) → Alike_shapes x' x → Alike_shapes y' y → shapes_differ x' y' ≡ shapes_differ x y
shapes-both x x' y y' (inl e) (inl f) = (λ i. shapes_differ (e i) (f i)) ∙ shapes-l x (option_map Uo y) ∙ shapes-r x y
shapes-both x x' y y' (inl e) (inr f) = (λ i. shapes_differ (e i) (f i)) ∙ shapes-l x y
shapes-both x x' y y' (inr e) (inl f) = (λ i. shapes_differ (e i) (f i)) ∙ shapes-r x y
shapes-both x x' y y' (inr e) (inr f) = λ i. shapes_differ (e i) (f i)

apart-u : (d : Document) (s t : Schema) → are_apart d (U s) (U t) ≡ are_apart d s t
apart-u d s t = λ i. is_disjoint (kinds-u d s i) (kinds-u d t i) || shapes-both (object_shape (led d s)) (object_shape (led d (U s))) (object_shape (led d t)) (object_shape (led d (U t))) (led-u d (allowed d) s) (led-u d (allowed d) t) i

exclusive-u : (d : Document) (ss : List Schema) → exclusive d (map U ss) ≡ exclusive d ss
exclusive-u d [] = refl
exclusive-u d (s ∷ ss) = λ i. all-u ss i && exclusive-u d ss i
  where
    all-u : (ts : List Schema) → list_all (are_apart d (U s)) (map U ts) ≡ list_all (are_apart d s) ts
    all-u [] = refl
    all-u (t ∷ ts) = λ i. apart-u d s t i && all-u ts i

pub list-u : (ss : Schemas) → schema_list (Ua ss) ≡ map U (schema_list ss)
list-u no_more = refl
list-u (schema s ss) = ap (λ ts. U s ∷ ts) (list-u ss)

pub exclusive_list-u : (d : Document) (ss : Schemas) → exclusive d (schema_list (Ua ss)) ≡ exclusive d (schema_list ss)
exclusive_list-u d ss = ap (exclusive d) (list-u ss) ∙ exclusive-u d (schema_list ss)

-- ---- members of anyOf and oneOf

schemas-u : (ss : List Schema) → Ua (schemas ss) ≡ schemas (map U ss)
schemas-u [] = refl
schemas-u (s ∷ ss) = ap (schema (U s)) (schemas-u ss)

pub any_of-u : (ss : List Schema) → U (any_of ss) ≡ any_of (map U ss)
any_of-u ss = ap (λ x. only_same (same_value no_list (the_list x) no_list no_schema false)) (schemas-u ss)

pub one_of-u : (ss : List Schema) → U (one_of ss) ≡ one_of (map U ss)
one_of-u ss = ap (λ x. only_same (same_value no_list no_list (the_list x) no_schema false)) (schemas-u ss)

negations-u : (ss : List Schema) → map U (negations ss) ≡ negations (map U ss)
negations-u [] = refl
negations-u (s ∷ ss) = ap (λ ts. negation (U s) ∷ ts) (negations-u ss)

pub joint-u : (b m : Schema) (others : List Schema) → U (joint b m others) ≡ joint (U b) (U m) (map U others)
joint-u b m others = ap (λ x. only_same (same_value (the_list x) no_list no_list no_schema false)) (schemas-u (b ∷ m ∷ negations others) ∙ ap (λ ts. schema (U b) (schema (U m) (schemas ts))) (negations-u others))

abbrev pub Ux : Left → Left
Ux l = record { how = l.how; wider = l.wider; schema = U l.schema }

abbrev pub Uw : Fate → Fate
Uw (out b) = out b
Uw (left l) = left (Ux l)

abbrev pub Uk : Kept → Kept
Uk k = record { members = map Ux k.members; lost = k.lost }

pub with_fate-u : (f : Fate) (k : Kept) → Uk (with_fate f k) ≡ with_fate (Uw f) (Uk k)
with_fate-u (out b) k = refl
with_fate-u (left l) k = refl

any-u : (f : Left → Bool) → ((l : Left) → f (Ux l) ≡ f l) → (ls : List Left) → list_any f (map Ux ls) ≡ list_any f ls
any-u f h [] = refl
any-u f h (l ∷ ls) = λ i. h l i || any-u f h ls i

all-u : (f : Left → Bool) → ((l : Left) → f (Ux l) ≡ f l) → (ls : List Left) → list_all f (map Ux ls) ≡ list_all f ls
all-u f h [] = refl
all-u f h (l ∷ ls) = λ i. h l i && all-u f h ls i

length-u : (ls : List Left) → length (map Ux ls) ≡ length ls
length-u [] = refl
length-u (l ∷ ls) = ap suc (length-u ls)

two-u : (ls : List Left) → are_two (map Ux ls) ≡ are_two ls
two-u ls = ap (nat_le 2) (length-u ls)

pub any_narrows-u : (apart : Bool) (k : Kept) → any_narrows apart (Uk k) ≡ any_narrows apart k
any_narrows-u apart k = λ i. any-u is_joined (λ l. refl) k.members i && two-u k.members i && not apart

pub one_narrows-u : (k : Kept) → one_narrows (Uk k) ≡ one_narrows k
one_narrows-u k = λ i. two-u k.members i && any-u (λ l. is_as_body l && l.wider) (λ l. refl) k.members i

pub one_mixes-u : (apart : Bool) (k : Kept) → one_mixes apart (Uk k) ≡ one_mixes apart k
one_mixes-u apart k = λ i. two-u k.members i && not apart && not (all-u is_joined (λ l. refl) k.members i) && not (all-u is_as_member (λ l. refl) k.members i)

pub one_forgets-u : (apart : Bool) (k : Kept) → one_forgets apart (Uk k) ≡ one_forgets apart k
one_forgets-u apart k = λ i. k.lost && not apart && any-u (λ l. not (is_joined l)) (λ l. refl) k.members i

pub left_schemas-u : (ls : List Left) → left_schemas (map Ux ls) ≡ map U (left_schemas ls)
left_schemas-u [] = refl
left_schemas-u (l ∷ ls) = ap (λ ts. U l.schema ∷ ts) (left_schemas-u ls)

-- ---- what is taken away

pub conditional-u : (ss : Same) → is_conditional (Us ss) ≡ is_conditional ss
conditional-u no_same = refl
conditional-u (same_value all any one none c) = refl

list_stands-u : (m : MaybeSchemas) → is_list (mapped_list unwalked m) ≡ is_list m
list_stands-u no_list = refl
list_stands-u (the_list ss) = refl

stands-u : (m : MaybeSchema) → is_schema (Um m) ≡ is_schema m
stands-u no_schema = refl
stands-u (the_schema s) = refl

pub subschema_count-u : (ss : Same) → subschema_count (Us ss) ≡ subschema_count ss
subschema_count-u no_same = refl
subschema_count-u (same_value all any one none c) = λ i. one_if (list_stands-u all i) + one_if (list_stands-u any i) + one_if (list_stands-u one i) + one_if (stands-u none i)

one_required-u : (os : Named) → one_required (Un os) ≡ one_required os
one_required-u no_named = refl
one_required-u (named no_properties no_properties no_schema no_schema c) = refl
one_required-u (named (property n s ps) pp x xn c) = refl
one_required-u (named no_properties (property n s ps) x xn c) = refl
one_required-u (named no_properties no_properties (the_schema s) xn c) = refl
one_required-u (named no_properties no_properties no_schema (the_schema s) c) = refl

one_subschema-u : (ss : Same) → is_one_subschema (Us ss) ≡ is_one_subschema ss
one_subschema-u no_same = refl
one_subschema-u (same_value no_list no_list no_list no_schema c) = refl
one_subschema-u (same_value no_list no_list no_list (the_schema s) c) = refl
one_subschema-u (same_value no_list no_list (the_list us) no_schema c) = refl
one_subschema-u (same_value no_list no_list (the_list us) (the_schema s) c) = refl
one_subschema-u (same_value no_list (the_list ts) no_list no_schema c) = refl
one_subschema-u (same_value no_list (the_list ts) no_list (the_schema s) c) = refl
one_subschema-u (same_value no_list (the_list ts) (the_list us) no_schema c) = refl
one_subschema-u (same_value no_list (the_list ts) (the_list us) (the_schema s) c) = refl
one_subschema-u (same_value (the_list ss) no_list no_list no_schema c) = refl
one_subschema-u (same_value (the_list ss) no_list no_list (the_schema s) c) = refl
one_subschema-u (same_value (the_list ss) no_list (the_list us) no_schema c) = refl
one_subschema-u (same_value (the_list ss) no_list (the_list us) (the_schema s) c) = refl
one_subschema-u (same_value (the_list ss) (the_list ts) no_list no_schema c) = refl
one_subschema-u (same_value (the_list ss) (the_list ts) no_list (the_schema s) c) = refl
one_subschema-u (same_value (the_list ss) (the_list ts) (the_list us) no_schema c) = refl
one_subschema-u (same_value (the_list ss) (the_list ts) (the_list us) (the_schema s) c) = refl

module _ (d : Document) where
  pub values_alone-u : (p q : Plain) (tt' : Same) (ms : Lists) (os : Named) → values_alone (unwalked p) (unwalked q) (Us tt') (Ul ms) (Un os) ≡ values_alone p q tt' ms os
  values_alone-u p q tt' ms os = λ i. (is_some p.enum_values && is_some q.enum_values) && (is_absent q.types && (no_leaves q && (same-u tt' i && (lists-u ms i && named-u os i))))

  pub one_name-u : (p : Plain) (ns : Named) (q : Plain) (tt' : Same) (ms : Lists) (os : Named) → one_name_alone (unwalked p) (Un ns) (unwalked q) (Us tt') (Ul ms) (Un os) ≡ one_name_alone p ns q tt' ms os
  one_name-u p ns q tt' ms os =
      λ i. (has_type Object p.types && not (named-u ns i)) && (one_required-u os i && (object_or_none q.types && (is_absent q.enum_values && (no_leaves q && (same-u tt' i && lists-u ms i)))))

  pub kinds_apart-u : (s n : Schema) (q : Plain) (tt' : Same) (os : Named) → kinds_apart d (U s) (U n) (unwalked q) (Us tt') (Un os) ≡ kinds_apart d s n q tt' os
  kinds_apart-u s n q tt' os = λ i. is_disjoint (kinds-u d s i) (kinds-u d n i) && (is_absent q.enum_values && (named-u os i && same-u tt' i))

  pub subschema_alone-u : (q : Plain) (tt' : Same) (ms : Lists) (os : Named) → subschema_alone (unwalked q) (Us tt') (Ul ms) (Un os) ≡ subschema_alone q tt' ms os
  subschema_alone-u q tt' ms os = λ i. one_subschema-u tt' i && (is_absent q.types && (is_absent q.enum_values && (no_leaves q && (lists-u ms i && named-u os i))))

pub siblings-u : (p : Plain) (ss : Same) (ls : Lists) (ns : Named) → drops_siblings (unwalked p) (Us ss) (Ul ls) (Un ns) ≡ drops_siblings p ss ls ns
siblings-u p ss ls ns = λ i. not (nothing_beside p && (same-u ss i && (lists-u ls i && named-u ns i)))

pub tidied-u : (s : Schema) → U (tidied s) ≡ tidied (U s)
tidied-u (boolean b) = refl
tidied-u (object p ss ls ns) = refl
