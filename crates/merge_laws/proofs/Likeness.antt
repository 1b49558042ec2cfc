-- Schemas that are alike, the keywords of lists included, admit the same values.
use Rattle.std.proofs.Common.{◌≡◌, ℕ, suc, List, Bool, true, false, ◌&&◌, ◌||◌, not, Option, Some, None, refl, ap, sym, ◌∙◌, subst, bytes_eq}
use Rattle.std.specs.Prelude.{if◌then◌else◌, nat_eq, ◌==◌}
use Rattle.std.specs.List.{list_any, list_all}
use Rattle.std.specs.Ordering.{int_eq}
use Rattle.std.specs.Cmp.Lexicographic.{pointwise}
use Rattle.std.proofs.lemmas.Slice.Eq.{bytes_eq-Decides}
use Rattle.std.proofs.lemmas.Bool.Decides.{Decides-int_eq}
use Rattle.json_value.specs.Value as value
use Rattle.json_value.specs.Value.{Value, Items, Members, null, number, fraction, text, list, item, no_items as end_items, member, no_members, same, same_bool}
use Rattle.json_value.proofs.Equality.{same_sound}
use Rattle.schema_defs.specs.Texts.{Relations}
use Rattle.schema_defs.specs.Schema.{Types, one_type, many_types, Numbers, ListRules, MemberRules, Plain, Schema, boolean, object, Same, no_same, same_value, Lists, no_lists, lists, Named, no_named, named, MaybeSchema, no_schema, the_schema, MaybeSchemas, no_list, the_list, Schemas, no_more, schema, schema_list, Places, no_items, each_item, by_place, Properties, no_properties, property, Document}
use Rattle.schema_defs.specs.Layer.{if_given, types_agree, is_listed, numbers_agree, number_format_agrees, texts_agree, text_format_agrees, plain_agrees, of_kind_agrees, parts_agree, maybe, by_places, items_agree, contains_agrees, list_rules_agree, lists_agree, property_at, is_given, patterns_agree, has_any, member_agrees, member_rules_agree, named_agree}
use Rattle.schema_defs.specs.Admits.{admits, item_judges, member_parts, counts_as_absent, name_admits, parts_of, target, follow}
use Rattle.schema_defs.specs.Walks.{IsGuarded}
use Rattle.schema_defs.proofs.Unfold.{unfolds}
use Rattle.enum_defs.specs.Words.{same_type, without_lists, without_named, without_same}
use Rattle.merge_defs.specs.Alike.{Look, alike, alike_same, alike_lists, alike_named, alike_maybe, alike_list, alike_all, alike_places, alike_properties, same_option, same_types, same_numbers, same_texts, same_list_rules, same_member_rules, same_constraints, same_plain, is_unconstrained, is_absent, nothing_beside, wholly, same_schemas}
use Rattle.merge_laws.proofs.Steps.{no_no, and-1, and-2}
use Rattle.merge_laws.proofs.Leaves.{type_sound}
use Rattle.merge_laws.proofs.Members.{same_says, each_says, any_says, one_says, not_says, count}
use Rattle.merge_laws.proofs.Sorts.{option_sound, pointwise_sound, nat_sound, texts_sound}
use Rattle.merge_laws.proofs.Main.{form}

bool_sound : (a b : Bool) → same_bool a b ≡ true → a ≡ b
bool_sound true true h = refl
bool_sound true false h = sym h
bool_sound false true h = h
bool_sound false false h = refl

list_rules_sound : (x y : ListRules) → same_list_rules x y ≡ true → x ≡ y
list_rules_sound x y h =
    let a = and-1 _ (same_option same_bool x.unique_items y.unique_items) h in
    λ i. record {
      max_items = option_sound nat_eq nat_sound x.max_items y.max_items (and-1 (same_option nat_eq x.max_items y.max_items) _ a) i;
      min_items = option_sound nat_eq nat_sound x.min_items y.min_items (and-2 (same_option nat_eq x.max_items y.max_items) _ a) i;
      unique_items = option_sound same_bool bool_sound x.unique_items y.unique_items (and-2 _ (same_option same_bool x.unique_items y.unique_items) h) i;
    }

member_rules_sound : (x y : MemberRules) → same_member_rules x y ≡ true → x ≡ y
member_rules_sound x y h =
    let a = and-1 _ (pointwise bytes_eq x.required y.required) h in
    λ i. record {
      max_properties = option_sound nat_eq nat_sound x.max_properties y.max_properties (and-1 (same_option nat_eq x.max_properties y.max_properties) _ a) i;
      min_properties = option_sound nat_eq nat_sound x.min_properties y.min_properties (and-2 (same_option nat_eq x.max_properties y.max_properties) _ a) i;
      required = pointwise_sound bytes_eq (λ u w. (bytes_eq-Decides u w).0) x.required y.required (and-2 _ (pointwise bytes_eq x.required y.required) h) i;
    }

module _ (r : Relations) (d : Document) where
  abbrev Equal : Schema → Schema → Type 0
  Equal s t = (v : Value) → admits r d v s ≡ admits r d v t

  abbrev EqualMaybe : MaybeSchema → MaybeSchema → Type 0
  EqualMaybe no_schema no_schema = Unit {0}
  EqualMaybe (the_schema s) (the_schema t) = Equal s t
  EqualMaybe _ _ = ⊥

  abbrev EqualAll : Schemas → Schemas → Type 0
  EqualAll no_more no_more = Unit {0}
  EqualAll (schema s ss) (schema t ts) = Equal s t × EqualAll ss ts
  EqualAll _ _ = ⊥

  abbrev EqualList : MaybeSchemas → MaybeSchemas → Type 0
  EqualList no_list no_list = Unit {0}
  EqualList (the_list ss) (the_list ts) = EqualAll ss ts
  EqualList _ _ = ⊥

  abbrev EqualPlaces : Places → Places → Type 0
  EqualPlaces no_items no_items = Unit {0}
  EqualPlaces (each_item s) (each_item t) = Equal s t
  EqualPlaces (by_place ss) (by_place ts) = EqualAll ss ts
  EqualPlaces _ _ = ⊥

  abbrev EqualProperties : Properties → Properties → Type 0
  EqualProperties no_properties no_properties = Unit {0}
  EqualProperties (property n s ps) (property m t qs) = (n ≡ m) × Equal s t × EqualProperties ps qs
  EqualProperties _ _ = ⊥

  -- ---- what follows for a value

  maybe_equal : (v : Value) (a b : MaybeSchema) → EqualMaybe a b → maybe (admits r d v) a ≡ maybe (admits r d v) b
  maybe_equal v no_schema no_schema e = refl
  maybe_equal v (the_schema s) (the_schema t) e = e v
  maybe_equal v no_schema (the_schema t) e = absurd e
  maybe_equal v (the_schema s) no_schema e = absurd e

  all_equal : (v : Value) (ss ts : Schemas) → EqualAll ss ts → list_all (admits r d v) (schema_list ss) ≡ list_all (admits r d v) (schema_list ts)
  all_equal v no_more no_more e = refl
  all_equal v (schema s ss) (schema t ts) e = λ i. e.0 v i && all_equal v ss ts e.1 i
  all_equal v no_more (schema t ts) e = absurd e
  all_equal v (schema s ss) no_more e = absurd e

  any_equal : (v : Value) (ss ts : Schemas) → EqualAll ss ts → list_any (admits r d v) (schema_list ss) ≡ list_any (admits r d v) (schema_list ts)
  any_equal v no_more no_more e = refl
  any_equal v (schema s ss) (schema t ts) e = λ i. e.0 v i || any_equal v ss ts e.1 i
  any_equal v no_more (schema t ts) e = absurd e
  any_equal v (schema s ss) no_more e = absurd e

  count_equal : (v : Value) (ss ts : Schemas) → EqualAll ss ts → count (admits r d v) (schema_list ss) ≡ count (admits r d v) (schema_list ts)
  count_equal v no_more no_more e = refl
  count_equal v (schema s ss) (schema t ts) e = λ i. if e.0 v i then suc (count_equal v ss ts e.1 i) else count_equal v ss ts e.1 i
  count_equal v no_more (schema t ts) e = absurd e
  count_equal v (schema s ss) no_more e = absurd e

  same_equal : (v : Value) (a b c : MaybeSchemas) (n : MaybeSchema) (x : Bool) (a' b' c' : MaybeSchemas) (n' : MaybeSchema) (x' : Bool) → EqualList a a' → EqualList b b' → EqualList c c' → EqualMaybe n n'
      → same_says (admits r d v) (same_value a b c n x) ≡ same_says (admits r d v) (same_value a' b' c' n' x')
  same_equal v a b c n x a' b' c' n' x' ea eb ec en = λ i. ((each a a' ea i && some b b' eb i) && one c c' ec i) && none n n' en i
    where
      each : (a b : MaybeSchemas) → EqualList a b → each_says (admits r d v) a ≡ each_says (admits r d v) b
      each no_list no_list e = refl
      each (the_list ss) (the_list ts) e = all_equal v ss ts e
      each no_list (the_list ts) e = absurd e
      each (the_list ss) no_list e = absurd e

      some : (a b : MaybeSchemas) → EqualList a b → any_says (admits r d v) a ≡ any_says (admits r d v) b
      some no_list no_list e = refl
      some (the_list ss) (the_list ts) e = any_equal v ss ts e
      some no_list (the_list ts) e = absurd e
      some (the_list ss) no_list e = absurd e

      one : (a b : MaybeSchemas) → EqualList a b → one_says (admits r d v) a ≡ one_says (admits r d v) b
      one no_list no_list e = refl
      one (the_list ss) (the_list ts) e = ap (λ n. n == 1) (count_equal v ss ts e)
      one no_list (the_list ts) e = absurd e
      one (the_list ss) no_list e = absurd e

      none : (a b : MaybeSchema) → EqualMaybe a b → not_says (admits r d v) a ≡ not_says (admits r d v) b
      none no_schema no_schema e = refl
      none (the_schema s) (the_schema t) e = ap not (e v)
      none no_schema (the_schema t) e = absurd e
      none (the_schema s) no_schema e = absurd e

  places_equal : (xs : Items) (ss ts : Schemas) (a b : MaybeSchema) → EqualAll ss ts → EqualMaybe a b → by_places (item_judges r d xs) ss a ≡ by_places (item_judges r d xs) ts b
  places_equal end_items ss ts a b e f = refl
  places_equal (item v vs) no_more no_more a b e f = λ i. maybe_equal v a b f i && places_equal vs no_more no_more a b e f i
  places_equal (item v vs) (schema s ss) (schema t ts) a b e f = λ i. e.0 v i && places_equal vs ss ts a b e.1 f i
  places_equal (item v vs) no_more (schema t ts) a b e f = absurd e
  places_equal (item v vs) (schema s ss) no_more a b e f = absurd e

  each_equal : (xs : Items) (s t : Schema) → Equal s t → list_all (λ j. j s) (item_judges r d xs) ≡ list_all (λ j. j t) (item_judges r d xs)
  each_equal end_items s t e = refl
  each_equal (item v vs) s t e = λ i. e v i && each_equal vs s t e i

  some_equal : (xs : Items) (s t : Schema) → Equal s t → list_any (λ j. j s) (item_judges r d xs) ≡ list_any (λ j. j t) (item_judges r d xs)
  some_equal end_items s t e = refl
  some_equal (item v vs) s t e = λ i. e v i || some_equal vs s t e i

  items_equal : (xs : Items) (p q : Places) (a b : MaybeSchema) → EqualPlaces p q → EqualMaybe a b → items_agree (item_judges r d xs) p a ≡ items_agree (item_judges r d xs) q b
  items_equal xs no_items no_items a b e f = refl
  items_equal xs (each_item s) (each_item t) a b e f = each_equal xs s t e
  items_equal xs (by_place ss) (by_place ts) a b e f = places_equal xs ss ts a b e f
  items_equal xs no_items (each_item t) a b e f = absurd e
  items_equal xs no_items (by_place ts) a b e f = absurd e
  items_equal xs (each_item s) no_items a b e f = absurd e
  items_equal xs (each_item s) (by_place ts) a b e f = absurd e
  items_equal xs (by_place ss) no_items a b e f = absurd e
  items_equal xs (by_place ss) (each_item t) a b e f = absurd e

  contains_equal : (xs : Items) (a b : MaybeSchema) → EqualMaybe a b → contains_agrees (item_judges r d xs) a ≡ contains_agrees (item_judges r d xs) b
  contains_equal xs no_schema no_schema e = refl
  contains_equal xs (the_schema s) (the_schema t) e = some_equal xs s t e
  contains_equal xs no_schema (the_schema t) e = absurd e
  contains_equal xs (the_schema s) no_schema e = absurd e

  at_equal : (n : List ℕ) (ps qs : Properties) → EqualProperties ps qs → EqualMaybe (property_at n ps) (property_at n qs)
  at_equal n no_properties no_properties e = tt
  at_equal n (property k s ps) (property l t qs) e = subst (λ x. EqualMaybe (if bytes_eq n k then the_schema s else property_at n ps) (if bytes_eq n x then the_schema t else property_at n qs)) e.0 (go (bytes_eq n k) (at_equal n ps qs e.2))
    where
      go : (b : Bool) → EqualMaybe (property_at n ps) (property_at n qs) → EqualMaybe (if b then the_schema s else property_at n ps) (if b then the_schema t else property_at n qs)
      go true h = e.1
      go false h = h
  at_equal n no_properties (property l t qs) e = absurd e
  at_equal n (property k s ps) no_properties e = absurd e

  given_equal : (a b : MaybeSchema) → EqualMaybe a b → is_given a ≡ is_given b
  given_equal no_schema no_schema e = refl
  given_equal (the_schema s) (the_schema t) e = refl
  given_equal no_schema (the_schema t) e = absurd e
  given_equal (the_schema s) no_schema e = absurd e

  patterns_equal : (v : Value) (has : List ℕ → Bool) (ps qs : Properties) → EqualProperties ps qs → patterns_agree has (admits r d v) ps ≡ patterns_agree has (admits r d v) qs
  patterns_equal v has no_properties no_properties e = refl
  patterns_equal v has (property k s ps) (property l t qs) e = λ i. (not (has (e.0 i)) || e.1 v i) && patterns_equal v has ps qs e.2 i
  patterns_equal v has no_properties (property l t qs) e = absurd e
  patterns_equal v has (property k s ps) no_properties e = absurd e

  has_equal : (has : List ℕ → Bool) (ps qs : Properties) → EqualProperties ps qs → has_any has ps ≡ has_any has qs
  has_equal has no_properties no_properties e = refl
  has_equal has (property k s ps) (property l t qs) e = λ i. has (e.0 i) || has_equal has ps qs e.2 i
  has_equal has no_properties (property l t qs) e = absurd e
  has_equal has (property k s ps) no_properties e = absurd e

  members_equal : (ms : Members) (ps qs pp qq : Properties) (a b x y : MaybeSchema) (needed needed' : List (List ℕ)) → needed ≡ needed' → EqualProperties ps qs → EqualProperties pp qq → EqualMaybe a b → EqualMaybe x y
      → list_all (member_agrees r (name_admits r d) ps pp a x needed) (member_parts r d ms) ≡ list_all (member_agrees r (name_admits r d) qs qq b y needed') (member_parts r d ms)
  members_equal no_members ps qs pp qq a b x y l l' u e f g h = refl
  members_equal (member k v ms) ps qs pp qq a b x y l l' u e f g h =
      λ i. (((((counts_as_absent d.setting v && not (list_any (bytes_eq k) (u i))) || maybe_equal v (property_at k ps) (property_at k qs) (at_equal k ps qs e) i)
      && patterns_equal v (λ q. r.matches q k) pp qq f i)
      && ((given_equal (property_at k ps) (property_at k qs) (at_equal k ps qs e) i || has_equal (λ q. r.matches q k) pp qq f i) || maybe_equal v a b g i))
      && maybe_equal (text k) x y h i)
      && members_equal ms ps qs pp qq a b x y l l' u e f g h i

-- ---- what is alike is equal

types_sound : (x y : Types) → same_types x y ≡ true → x ≡ y
types_sound (one_type k) (one_type l) h = ap one_type (type_sound k l h)
types_sound (many_types ks) (many_types ls) h = ap many_types (pointwise_sound same_type type_sound ks ls h)
types_sound (one_type k) (many_types ls) h = no_no h
types_sound (many_types ks) (one_type l) h = no_no h

pub numbers_sound : (x y : Numbers) → same_numbers x y ≡ true → x ≡ y
numbers_sound x y h =
    let a = and-1 _ (same_option int_eq x.exclusive_minimum y.exclusive_minimum) h in
    let b = and-1 _ (same_option int_eq x.minimum y.minimum) a in
    let c = and-1 _ (same_option int_eq x.exclusive_maximum y.exclusive_maximum) b in
    λ i. record {
      multiple_of = option_sound nat_eq nat_sound x.multiple_of y.multiple_of (and-1 (same_option nat_eq x.multiple_of y.multiple_of) _ c) i;
      maximum = option_sound int_eq (λ u w. (Decides-int_eq u w).0) x.maximum y.maximum (and-2 (same_option nat_eq x.multiple_of y.multiple_of) _ c) i;
      exclusive_maximum = option_sound int_eq (λ u w. (Decides-int_eq u w).0) x.exclusive_maximum y.exclusive_maximum (and-2 _ (same_option int_eq x.exclusive_maximum y.exclusive_maximum) b) i;
      minimum = option_sound int_eq (λ u w. (Decides-int_eq u w).0) x.minimum y.minimum (and-2 _ (same_option int_eq x.minimum y.minimum) a) i;
      exclusive_minimum = option_sound int_eq (λ u w. (Decides-int_eq u w).0) x.exclusive_minimum y.exclusive_minimum (and-2 _ (same_option int_eq x.exclusive_minimum y.exclusive_minimum) h) i;
    }

-- constraints that are the same say the same
pub constraints_say : (r : Relations) (p q : Plain) → same_constraints p q ≡ true → ((v : Value) → plain_agrees r p v ≡ plain_agrees r q v) × (p.reference ≡ q.reference)
constraints_say r p q h =
    let a = and-1 _ (same_option bytes_eq p.reference q.reference) h in
    let b = and-1 _ (same_option same_texts p.texts q.texts) a in
    let c = and-1 _ (same_option same_numbers p.numbers q.numbers) b in
    let e = and-1 _ (same_option (pointwise same) p.enum_values q.enum_values) c in
    let f = and-1 _ (same_option bytes_eq p.format q.format) e in
    let ref = option_sound bytes_eq (λ u w. (bytes_eq-Decides u w).0) p.reference q.reference (and-2 _ (same_option bytes_eq p.reference q.reference) h) in
    let tx = option_sound same_texts texts_sound p.texts q.texts (and-2 _ (same_option same_texts p.texts q.texts) a) in
    let nu = option_sound same_numbers numbers_sound p.numbers q.numbers (and-2 _ (same_option same_numbers p.numbers q.numbers) b) in
    let en = option_sound (pointwise same) (pointwise_sound same same_sound) p.enum_values q.enum_values (and-2 _ (same_option (pointwise same) p.enum_values q.enum_values) c) in
    let fo = option_sound bytes_eq (λ u w. (bytes_eq-Decides u w).0) p.format q.format (and-2 _ (same_option bytes_eq p.format q.format) e) in
    let co = option_sound same same_sound p.const_value q.const_value (and-1 (same_option same p.const_value q.const_value) _ f) in
    let ty = option_sound same_types types_sound p.types q.types (and-2 (same_option same p.const_value q.const_value) _ f) in
    ((λ v. says v ty en co tx nu fo), ref)
  where
    kind : (v : Value) → p.texts ≡ q.texts → p.numbers ≡ q.numbers → p.format ≡ q.format → of_kind_agrees r p v ≡ of_kind_agrees r q v
    kind (number z) tx nu fo = λ i. if_given (numbers_agree z) (nu i) && if_given (number_format_agrees z) (fo i)
    kind (text s) tx nu fo = λ i. if_given (texts_agree r s) (tx i) && if_given (text_format_agrees r s) (fo i)
    kind _ tx nu fo = refl

    says : (v : Value) → p.types ≡ q.types → p.enum_values ≡ q.enum_values → p.const_value ≡ q.const_value → p.texts ≡ q.texts → p.numbers ≡ q.numbers → p.format ≡ q.format → plain_agrees r p v ≡ plain_agrees r q v
    says v ty en co tx nu fo = λ i. ((if_given (types_agree v) (ty i) && if_given (is_listed v) (en i)) && if_given (same v) (co i)) && kind v tx nu fo i

module _ (r : Relations) (d : Document) (guarded : IsGuarded d) (plain : Plain → Plain → Bool) (as_true : Schema → Bool)
    (plain_ok : (p q : Plain) → plain p q ≡ true → same_constraints p q ≡ true)
    (true_ok : (s : Schema) → as_true s ≡ true → (v : Value) → admits r d v s ≡ true)
  where
    abbrev K : Look
    K = record { plain = plain; as_true = as_true; whole_lists = true }

    -- the parts of two objects
    parts_equal : (v : Value) (ls ms : Lists) (ns os : Named)
        → ((xs : Items) → lists_agree xs (item_judges r d xs) ls ≡ lists_agree xs (item_judges r d xs) ms)
        → ((xs : Members) → named_agree r xs (parts_of r d (value.object xs)) ns ≡ named_agree r xs (parts_of r d (value.object xs)) os)
        → parts_agree r v (parts_of r d v) ls ns ≡ parts_agree r v (parts_of r d v) ms os
    parts_equal (list xs) ls ms ns os f g = f xs
    parts_equal (value.object xs) ls ms ns os f g = g xs
    parts_equal _ ls ms ns os f g = refl

    mutual
      alike_equal : (s t : Schema) → alike K s t ≡ true → Equal r d s t
      alike_equal (boolean a) (boolean b) h v = ap (λ x. admits r d v (boolean x)) (bool_sound a b h)
      alike_equal (boolean a) (object q tt' ms os) h v = (unfolds r d).booleans v a ∙ and-1 a _ h ∙ sym (true_ok (object q tt' ms os) (and-2 a _ h) v)
      alike_equal (object p ss ls ns) (boolean b) h v = true_ok (object p ss ls ns) (and-2 b _ h) v ∙ sym ((unfolds r d).booleans v b ∙ and-1 b _ h)
      alike_equal (object p ss ls ns) (object q tt' ms os) h v =
          let a = and-1 _ (alike_named K ns os) h in
          let b = and-1 _ (alike_lists K ls ms) a in
          let pl = constraints_say r p q (plain_ok p q (and-1 (plain p q) _ b)) in
          form r d guarded v p ss ls ns
          ∙ (λ i. ((pl.0 v i && if_given (λ q. follow (admits r d v) (target d q)) (pl.1 i)) && parts_equal v ls ms ns os (lists_equal ls ms (and-2 _ (alike_lists K ls ms) a)) (named_equal ns os (and-2 _ (alike_named K ns os) h)) i) && sames_equal ss tt' (and-2 (plain p q) _ b) v i)
          ∙ sym (form r d guarded v q tt' ms os)

      sames_equal : (ss tt' : Same) → alike_same K ss tt' ≡ true → (v : Value) → same_says (admits r d v) ss ≡ same_says (admits r d v) tt'
      sames_equal no_same no_same h v = refl
      sames_equal (same_value a b c n x) (same_value a' b' c' n' x') h v =
          let e = and-1 _ (same_bool x x') h in
          let f = and-1 _ (alike_maybe K n n') e in
          let g = and-1 _ (alike_list K c c') f in
          same_equal r d v a b c n x a' b' c' n' x' (list_alike a a' (and-1 (alike_list K a a') _ g)) (list_alike b b' (and-2 (alike_list K a a') _ g)) (list_alike c c' (and-2 _ (alike_list K c c') f)) (maybe_alike n n' (and-2 _ (alike_maybe K n n') e))
      sames_equal no_same (same_value a b c n x) h v = no_no h
      sames_equal (same_value a b c n x) no_same h v = no_no h

      lists_equal : (ls ms : Lists) → alike_lists K ls ms ≡ true → (xs : Items) → lists_agree xs (item_judges r d xs) ls ≡ lists_agree xs (item_judges r d xs) ms
      lists_equal no_lists no_lists h xs = refl
      lists_equal (lists p a c e) (lists p' a' c' e') h xs =
          let g = and-2 (alike_places K p p') _ h in
          let f = and-1 _ (same_list_rules e e') g in
          λ i. (items_equal r d xs p p' a a' (places_alike p p' (and-1 (alike_places K p p') _ h)) (maybe_alike a a' (and-1 (alike_maybe K a a') _ f)) i
          && contains_equal r d xs c c' (maybe_alike c c' (and-2 (alike_maybe K a a') _ f)) i) && list_rules_agree xs (list_rules_sound e e' (and-2 _ (same_list_rules e e') g) i)
      lists_equal no_lists (lists p a c e) h xs = no_no h
      lists_equal (lists p a c e) no_lists h xs = no_no h

      named_equal : (ns os : Named) → alike_named K ns os ≡ true → (xs : Members) → named_agree r xs (parts_of r d (value.object xs)) ns ≡ named_agree r xs (parts_of r d (value.object xs)) os
      named_equal no_named no_named h xs = refl
      named_equal (named p q a n e) (named p' q' a' n' e') h xs =
          let f = and-1 _ (same_member_rules e e') h in
          let g = and-1 _ (alike_maybe K n n') f in
          let k = and-1 _ (alike_maybe K a a') g in
          λ i. members_equal r d xs p p' q q' a a' n n' e.required e'.required (ap (λ z. z.required) (member_rules_sound e e' (and-2 _ (same_member_rules e e') h))) (properties_alike p p' (and-1 (alike_properties K p p') _ k)) (properties_alike q q' (and-2 (alike_properties K p p') _ k)) (maybe_alike a a' (and-2 _ (alike_maybe K a a') g)) (maybe_alike n n' (and-2 _ (alike_maybe K n n') f)) i
          && member_rules_agree xs (member_rules_sound e e' (and-2 _ (same_member_rules e e') h) i)
      named_equal no_named (named a b c e f) h xs = no_no h
      named_equal (named a b c e f) no_named h xs = no_no h

      maybe_alike : (a b : MaybeSchema) → alike_maybe K a b ≡ true → EqualMaybe r d a b
      maybe_alike no_schema no_schema h = tt
      maybe_alike (the_schema s) (the_schema t) h = alike_equal s t h
      maybe_alike no_schema (the_schema t) h = no_no h
      maybe_alike (the_schema s) no_schema h = no_no h

      list_alike : (a b : MaybeSchemas) → alike_list K a b ≡ true → EqualList r d a b
      list_alike no_list no_list h = tt
      list_alike (the_list ss) (the_list ts) h = all_alike ss ts h
      list_alike no_list (the_list ts) h = no_no h
      list_alike (the_list ss) no_list h = no_no h

      all_alike : (a b : Schemas) → alike_all K a b ≡ true → EqualAll r d a b
      all_alike no_more no_more h = tt
      all_alike (schema s ss) (schema t ts) h = (alike_equal s t (and-1 (alike K s t) _ h), all_alike ss ts (and-2 (alike K s t) _ h))
      all_alike no_more (schema t ts) h = no_no h
      all_alike (schema s ss) no_more h = no_no h

      places_alike : (a b : Places) → alike_places K a b ≡ true → EqualPlaces r d a b
      places_alike no_items no_items h = tt
      places_alike (each_item s) (each_item t) h = alike_equal s t h
      places_alike (by_place ss) (by_place ts) h = all_alike ss ts h
      places_alike no_items (each_item t) h = no_no h
      places_alike no_items (by_place ts) h = no_no h
      places_alike (each_item s) no_items h = no_no h
      places_alike (each_item s) (by_place ts) h = no_no h
      places_alike (by_place ss) no_items h = no_no h
      places_alike (by_place ss) (each_item t) h = no_no h

      properties_alike : (a b : Properties) → alike_properties K a b ≡ true → EqualProperties r d a b
      properties_alike no_properties no_properties h = tt
      properties_alike (property n s ps) (property m t qs) h = ((bytes_eq-Decides n m).0 (and-1 (bytes_eq n m) _ h), alike_equal s t (and-1 (alike K s t) _ (and-2 (bytes_eq n m) _ h)), properties_alike ps qs (and-2 (alike K s t) _ (and-2 (bytes_eq n m) _ h)))
      properties_alike no_properties (property m t qs) h = no_no h
      properties_alike (property n s ps) no_properties h = no_no h

module _ (r : Relations) (d : Document) (guarded : IsGuarded d) where
  -- an object without a constraint admits all
  unconstrained_admits : (s : Schema) → is_unconstrained s ≡ true → (v : Value) → admits r d v s ≡ true
  unconstrained_admits (boolean b) h v = (unfolds r d).booleans v b ∙ h
  unconstrained_admits (object p ss ls ns) h v = form r d guarded v p ss ls ns ∙ go ss ls ns (and-2 (nothing_beside p && is_absent p.reference) _ h)
    where
      none : {A : Type 0} (o : Option A) → is_absent o ≡ true → o ≡ None
      none None h = refl
      none (Some x) h = no_no h

      h0 : (nothing_beside p && is_absent p.reference) ≡ true
      h0 = and-1 (nothing_beside p && is_absent p.reference) _ h

      kind : (v : Value) → p.format ≡ None → p.numbers ≡ None → p.texts ≡ None → of_kind_agrees r p v ≡ true
      kind (number z) f n x = λ i. if_given (numbers_agree z) (n i) && if_given (number_format_agrees z) (f i)
      kind (text s) f n x = λ i. if_given (texts_agree r s) (x i) && if_given (text_format_agrees r s) (f i)
      kind _ f n x = refl

      plain : plain_agrees r p v ≡ true
      plain =
          let k = and-1 (nothing_beside p) _ h0 in
          let k1 = and-2 (is_absent p.types) _ k in
          let k2 = and-2 (is_absent p.enum_values) _ k1 in
          let k3 = and-2 (is_absent p.const_value) _ k2 in
          let k4 = and-2 (is_absent p.format) _ k3 in
          λ i. ((if_given (types_agree v) (none p.types (and-1 (is_absent p.types) _ k) i) && if_given (is_listed v) (none p.enum_values (and-1 (is_absent p.enum_values) _ k1) i)) && if_given (same v) (none p.const_value (and-1 (is_absent p.const_value) _ k2) i))
          && kind v (none p.format (and-1 (is_absent p.format) _ k3)) (none p.numbers (and-1 (is_absent p.numbers) _ k4)) (none p.texts (and-2 (is_absent p.numbers) _ k4)) i

      no_parts : (v : Value) → parts_agree r v (parts_of r d v) no_lists no_named ≡ true
      no_parts (list xs) = refl
      no_parts (value.object ms) = refl
      no_parts _ = refl

      go : (ss : Same) (ls : Lists) (ns : Named) → (without_same ss && (without_lists ls && without_named ns)) ≡ true
          → (((plain_agrees r p v && if_given (λ q. follow (admits r d v) (target d q)) p.reference) && parts_agree r v (parts_of r d v) ls ns) && same_says (admits r d v) ss) ≡ true
      go no_same no_lists no_named k = λ i. ((plain i && if_given (λ q. follow (admits r d v) (target d q)) (none p.reference (and-2 (nothing_beside p) _ h0) i)) && no_parts v i) && true
      go (same_value a b c x y) ls ns k = no_no k
      go no_same (lists a b c x) ns k = no_no k
      go no_same no_lists (named a b c x y) k = no_no k

  pub wholly_admit : (v : Value) (s t : Schema) → wholly s t ≡ true → admits r d v s ≡ admits r d v t
  wholly_admit v s t h = alike_equal r d guarded same_constraints is_unconstrained (λ p q k. k) unconstrained_admits s t h v

  pub same_admit : (v : Value) (s t : Schema) → same_schemas s t ≡ true → admits r d v s ≡ admits r d v t
  same_admit v s t h = alike_equal r d guarded same_plain (λ s. false) (λ p q k. and-2 _ (same_constraints p q) k) (λ s k v. no_no k) s t h v
