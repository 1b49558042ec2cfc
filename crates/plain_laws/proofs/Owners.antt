-- Rows of plain schemas that hold items or members.
use Rattle.std.proofs.Common.{◌≡◌, ℕ, zero, suc, List, [], ◌∷◌, ◌++◌, length, Bool, true, false, ◌&&◌, ◌||◌, not, Option, Some, None, is_none, refl, sym, ap, ◌∙◌, subst, nat_le, codes, ◌⊎◌, inl, inr, arith}
use Rattle.std.specs.Prelude.{if◌then◌else◌}
use Rattle.std.specs.List.{list_all}
use Rattle.std.proofs.lemmas.Bool.{le-ltb, eqb-true, eq-eqb}
use Rattle.schema_defs.specs.declared.InstanceType.TheVariants.{Object, Array}
use Rattle.schema_defs.specs.Texts.{Relations}
use Rattle.schema_defs.specs.Schema.{one_type, Plain, Schema, boolean, object, Same, no_same, Lists, no_lists, lists, Named, no_named, named, MaybeSchema, no_schema, the_schema, Schemas, no_more, schema, schema_list, no_items, each_item, by_place, Properties, no_properties, property, ListRules, MemberRules, Document}
use Rattle.schema_defs.specs.Layer.{property_at, is_given}
use Rattle.enum_defs.specs.Words.{Name, without_same, without_lists, is_name}
use Rattle.convert_defs.specs.Row.{Part, child, plainly, noted, filling, vec_row, tuple_row, map_row, struct_row, field_parts, outside_parts, further_parts}
use Rattle.convert_defs.specs.Owners.{anything, any_text, one_size, listed_parts, unlisted, listed_places, filled_places, sized_finding, array_finding, property_fields, outside_names, outside_row, object_finding, counts_notes, struct_of, part_at}
use Rattle.convert_defs.proofs.Bare.{and_left, and_right, impossible, is-none, no-lists, no-named}
use Rattle.convert_walks.specs.Spot.{Branches}
use Rattle.plain_defs.specs.Words as plain
use Rattle.plain_defs.specs.Words.{is_only, is_unsized, is_size, is_uncounted, is_empty, is_flag}
use Rattle.plain_defs.specs.Rows.{Inner, rows_within, holds_items, plain_list, is_sized, holds_places, plain_tuple, holds_members, plain_map, holds_property, holds_properties, are_within, holds_fields, has_flag, is_shut_alone, plain_struct, has_row, plain_item}
use Rattle.plain_laws.proofs.Facts.{either, no-same, only}
use Rattle.plain_laws.proofs.Tree.{IsForm, a_row, a_nullable, PartsFit, FindingFits, Fits}
use Rattle.plain_laws.proofs.Findings.{Tells, finding-fits, fits-as}

no-false : (d : Document) (j : ℕ) → (rows_within d j).row (boolean false) ≡ false
no-false d zero = refl
no-false d (suc j) = refl

module _ (r : Relations) (d : Document) (most : ℕ) (j : ℕ) where
  abbrev inner : Inner
  inner = rows_within d j

  abbrev Good : Schema → Type 0
  Good s = Fits r d most false j s

  -- ---- lists

  unsized : (c : ListRules) → is_unsized c ≡ true → c ≡ record { max_items = None; min_items = None; unique_items = None }
  unsized c h =
      let a = and_right (is_none c.max_items) _ h in
      λ i. record { max_items = is-none c.max_items (and_left (is_none c.max_items) _ h) i; min_items = is-none c.min_items (and_left (is_none c.min_items) _ a) i; unique_items = is-none c.unique_items (and_right (is_none c.min_items) _ a) i }

  items-fit : (ls : Lists) → holds_items d inner ls ≡ true → FindingFits r d most false j (array_finding ls)
  items-fit no_lists h = finding-fits r d most false j (plainly (vec_row anything)) (record { notes = refl; patterns = refl; places = refl; faults = refl; listed = refl; unmerged = refl }) tt ((a_row refl, refl), tt)
  items-fit (lists (each_item s) no_schema no_schema rules) h =
      subst (λ c. FindingFits r d most false j (array_finding (lists (each_item s) no_schema no_schema c))) (sym (unsized rules (and_left (is_unsized rules) _ h)))
      (finding-fits r d most false j (plainly (vec_row (child (codes "items" ∷ []) s))) (record { notes = refl; patterns = refl; places = refl; faults = refl; listed = refl; unmerged = refl }) tt (a_row (and_right (is_unsized rules) _ h), tt))
  items-fit (lists (each_item s) no_schema (the_schema t) rules) h = impossible h
  items-fit (lists (each_item s) (the_schema t) contains rules) h = impossible h
  items-fit (lists no_items rest contains rules) h = impossible h
  items-fit (lists (by_place ss) rest contains rules) h = impossible h

  pub row-list : (s : Schema) → plain_list d inner s ≡ true → Good s
  row-list (boolean b) h = impossible h
  row-list (object p ss ls ns) h =
      let n = only p Array (and_left (is_only Array p) _ h) in
      let m = n.most in
      let a = and_right (is_only Array p) _ h in
      let b = and_right (without_same ss) _ a in
      fits-as r d most false j p ss ls ns p.title p.description (Some (one_type Array)) None None None None None None no_same ls no_named
      refl refl m.default m.walk n.types m.format m.enum_values m.numbers m.texts m.reference m.const_value (no-same ss (and_left (without_same ss) _ a)) refl (no-named ns (and_right (holds_items d inner ls) _ b))
      (items-fit ls (and_left (holds_items d inner ls) _ b))

  -- ---- tuples

  size-is : (n : ℕ) (o : Option ℕ) → is_size n o ≡ true → o ≡ Some n
  size-is n None h = impossible h
  size-is n (Some m) h = ap (λ x. Some x) (eqb-true m n h)

  count : (ss : Schemas) → listed_places ss ≡ length (schema_list ss)
  count no_more = refl
  count (schema s ss) = ap suc (count ss)

  none-left : (ss : Schemas) → unlisted (length (schema_list ss)) ss ≡ 0
  none-left no_more = refl
  none-left (schema s ss) = none-left ss

  listed-fit : (i : ℕ) (ss : Schemas) (ms : Branches) → list_all inner.row (schema_list ss) ≡ true → PartsFit r d most false j ms (listed_parts i (length (schema_list ss)) ss)
  listed-fit i no_more ms h = tt
  listed-fit i (schema s ss) ms h = (a_row (and_left (inner.row s) _ h), listed-fit (suc i) ss ms (and_right (inner.row s) _ h))

  both-fit : (ms : Branches) (ps qs : List Part) → PartsFit r d most false j ms ps → PartsFit r d most false j ms qs → PartsFit r d most false j ms (ps ++ qs)
  both-fit ms [] qs f g = g
  both-fit ms (p ∷ ps) qs f g = (f.0, both-fit ms ps qs f.1 g)

  -- as many places as schemas, one at least
  filled : (s : Schema) (ss : Schemas) → filled_places (suc (length (schema_list ss))) (by_place (schema s ss)) ≡ 0
  filled s ss = ap (λ b. if b then suc (length (schema_list ss)) else 0) (le-ltb (suc (listed_places ss)) (suc (length (schema_list ss))) (omega (arith, count ss)))

  tuple-fits : (s : Schema) (ss : Schemas) → list_all inner.row (schema_list (schema s ss)) ≡ true
      → FindingFits r d most false j (array_finding (lists (by_place (schema s ss)) no_schema no_schema (record { max_items = Some (suc (length (schema_list ss))); min_items = Some (suc (length (schema_list ss))); unique_items = None })))
  tuple-fits s ss h =
      subst (λ o. FindingFits r d most false j (sized_finding (by_place (schema s ss)) no_schema no_schema (record { max_items = Some (suc n); min_items = Some (suc n); unique_items = None }) o)) (sym one)
      (finding-fits r d most false j (filling (filled_places (suc n) (by_place (schema s ss))) (plainly (tuple_row ps (unlisted n ss) rest)))
      (record { notes = refl; patterns = refl; places = filled s ss; faults = refl; listed = refl; unmerged = refl }) tt
      (both-fit [] ps (further_parts (unlisted n ss) rest) (listed-fit 0 (schema s ss) [] h) (subst (λ m. PartsFit r d most false j [] (further_parts m rest)) (sym (none-left ss)) tt)))
    where
      n : ℕ
      n = length (schema_list ss)

      ps : List Part
      ps = listed_parts 0 (suc n) (schema s ss)

      rest : Part
      rest = part_at (codes "additionalItems") no_schema

      one : one_size (Some (suc n)) (Some (suc n)) ≡ Some (suc n)
      one = ap (λ b. if b then Some (suc n) else None) (eq-eqb (suc n) (suc n) refl)

  sized : (n : ℕ) (c : ListRules) → is_sized d inner n c ≡ true → c ≡ record { max_items = Some n; min_items = Some n; unique_items = None }
  sized n c h =
      let a = and_right (nat_le 1 n) _ h in
      let b = and_right (is_size n c.min_items) _ a in
      λ i. record { max_items = size-is n c.max_items (and_left (is_size n c.max_items) _ b) i; min_items = size-is n c.min_items (and_left (is_size n c.min_items) _ a) i; unique_items = is-none c.unique_items (and_right (is_size n c.max_items) _ b) i }

  places-fit : (ls : Lists) → holds_places d inner ls ≡ true → FindingFits r d most false j (array_finding ls)
  places-fit no_lists h = impossible h
  places-fit (lists (by_place no_more) no_schema no_schema rules) h = impossible h
  places-fit (lists (by_place (schema s ss)) no_schema no_schema rules) h =
      subst (λ c. FindingFits r d most false j (array_finding (lists (by_place (schema s ss)) no_schema no_schema c))) (sym (sized (suc (length (schema_list ss))) rules (and_left (is_sized d inner (suc (length (schema_list ss))) rules) _ h)))
      (tuple-fits s ss (and_right (is_sized d inner (suc (length (schema_list ss))) rules) _ h))
  places-fit (lists (by_place ss) no_schema (the_schema t) rules) h = impossible h
  places-fit (lists (by_place ss) (the_schema t) contains rules) h = impossible h
  places-fit (lists no_items rest contains rules) h = impossible h
  places-fit (lists (each_item s) rest contains rules) h = impossible h

  pub row-tuple : (s : Schema) → plain_tuple d inner s ≡ true → Good s
  row-tuple (boolean b) h = impossible h
  row-tuple (object p ss ls ns) h =
      let n = only p Array (and_left (is_only Array p) _ h) in
      let m = n.most in
      let a = and_right (is_only Array p) _ h in
      let b = and_right (without_same ss) _ a in
      fits-as r d most false j p ss ls ns p.title p.description (Some (one_type Array)) None None None None None None no_same ls no_named
      refl refl m.default m.walk n.types m.format m.enum_values m.numbers m.texts m.reference m.const_value (no-same ss (and_left (without_same ss) _ a)) refl (no-named ns (and_right (holds_places d inner ls) _ b))
      (places-fit ls (and_left (holds_places d inner ls) _ b))

  -- ---- maps

  no-names : (ns : List Name) → is_empty ns ≡ true → ns ≡ []
  no-names [] h = refl
  no-names (n ∷ ns) h = impossible h

  unruled : (c : MemberRules) → plain.is_unruled c ≡ true → c ≡ record { max_properties = None; min_properties = None; required = [] }
  unruled c h =
      let a = and_left (is_uncounted c) _ h in
      λ i. record { max_properties = is-none c.max_properties (and_left (is_none c.max_properties) _ a) i; min_properties = is-none c.min_properties (and_right (is_none c.max_properties) _ a) i; required = no-names c.required (and_right (is_uncounted c) _ h) i }

  map-tells : (a b : Part) → Tells r d most (plainly (map_row a b))
  map-tells a b = record { notes = refl; patterns = refl; places = refl; faults = refl; listed = refl; unmerged = refl }

  map-fits : (s : Schema) → inner.row s ≡ true → FindingFits r d most false j (object_finding d.setting (named no_properties no_properties (the_schema s) no_schema (record { max_properties = None; min_properties = None; required = [] })))
  map-fits (boolean true) h = finding-fits r d most false j (plainly (map_row any_text (child (codes "additionalProperties" ∷ []) (boolean true)))) (map-tells _ _) tt ((a_row refl, refl), (a_row h, tt))
  map-fits (boolean false) h = impossible (sym (no-false d j) ∙ h)
  map-fits (object p ss ls ns) h = finding-fits r d most false j (plainly (map_row any_text (child (codes "additionalProperties" ∷ []) (object p ss ls ns)))) (map-tells _ _) tt ((a_row refl, refl), (a_row h, tt))

  members-fit : (ns : Named) → holds_members d inner ns ≡ true → FindingFits r d most false j (object_finding d.setting ns)
  members-fit no_named h = finding-fits r d most false j (plainly (map_row any_text anything)) (map-tells _ _) tt ((a_row refl, refl), ((a_row refl, refl), tt))
  members-fit (named no_properties no_properties (the_schema s) no_schema rules) h =
      subst (λ c. FindingFits r d most false j (object_finding d.setting (named no_properties no_properties (the_schema s) no_schema c))) (sym (unruled rules (and_left (plain.is_unruled rules) _ h))) (map-fits s (and_right (plain.is_unruled rules) _ h))
  members-fit (named no_properties no_properties (the_schema s) (the_schema t) rules) h = impossible h
  members-fit (named no_properties no_properties no_schema names rules) h = impossible h
  members-fit (named no_properties (property k s ps) rest names rules) h = impossible h
  members-fit (named (property k s ps) patterns rest names rules) h = impossible h

  -- an object by its keywords of members
  object-fits : (p : Plain) (ss : Same) (ls : Lists) (ns : Named) (b : Bool) → (is_only Object p && (without_same ss && (without_lists ls && b))) ≡ true → (b ≡ true → FindingFits r d most false j (object_finding d.setting ns)) → Good (object p ss ls ns)
  object-fits p ss ls ns t h f =
      let n = only p Object (and_left (is_only Object p) _ h) in
      let m = n.most in
      let a = and_right (is_only Object p) _ h in
      let b = and_right (without_same ss) _ a in
      fits-as r d most false j p ss ls ns p.title p.description (Some (one_type Object)) None None None None None None no_same no_lists ns
      refl refl m.default m.walk n.types m.format m.enum_values m.numbers m.texts m.reference m.const_value (no-same ss (and_left (without_same ss) _ a)) (no-lists ls (and_left (without_lists ls) _ b)) refl
      (f (and_right (without_lists ls) _ b))

  pub row-map : (s : Schema) → plain_map d inner s ≡ true → Good s
  row-map (boolean b) h = impossible h
  row-map (object p ss ls ns) h = object-fits p ss ls ns (holds_members d inner ns) h (members-fit ns)

  -- ---- structs

  pub property-form : (required : List Name) (k : Name) (s : Schema) → holds_property d inner required k s ≡ true → IsForm d j s
  property-form required k s h = by (either (inner.row s) _ h)
    where
      by : (inner.row s ≡ true) ⊎ ((not (is_name k required) && inner.nullable s) ≡ true) → IsForm d j s
      by (inl g) = a_row g
      by (inr g) = a_nullable (and_right (not (is_name k required)) _ g)

  fields-fit : (ms : Branches) (required : List Name) (ps : Properties) → holds_properties d inner required ps ≡ true → PartsFit r d most false j ms (field_parts (property_fields d.setting required ps))
  fields-fit ms required no_properties h = tt
  fields-fit ms required (property k s ps) h = (property-form required k s (and_left (holds_property d inner required k s) _ h), fields-fit ms required ps (and_right (holds_property d inner required k s) _ h))

  none-outside : (props : Properties) (ns : List Name) → are_within d inner ns props ≡ true → outside_names props ns ≡ []
  none-outside props [] h = refl
  none-outside props (n ∷ ns) h = by (is_given (property_at n props)) (and_left (is_given (property_at n props)) _ h) (none-outside props ns (and_right (is_given (property_at n props)) _ h))
    where
      by : (b : Bool) → b ≡ true → outside_names props ns ≡ [] → (if not b then n ∷ outside_names props ns else outside_names props ns) ≡ []
      by true g k = k
      by false g k = impossible g

  uncounted : (c : MemberRules) → is_uncounted c ≡ true → counts_notes c ≡ []
  uncounted c h = λ i. counts_notes (record { max_properties = is-none c.max_properties (and_left (is_none c.max_properties) _ h) i; min_properties = is-none c.min_properties (and_right (is_none c.max_properties) _ h) i; required = c.required })

  abbrev rest-parts : MaybeSchema → List Part
  rest-parts rest = outside_parts (outside_row [] rest)

  struct-fits : (k : Name) (s : Schema) (ps : Properties) (rest : MaybeSchema) (rules : MemberRules) → is_uncounted rules ≡ true → are_within d inner rules.required (property k s ps) ≡ true → holds_properties d inner rules.required (property k s ps) ≡ true
      → PartsFit r d most false j [] (rest-parts rest) → FindingFits r d most false j (object_finding d.setting (named (property k s ps) no_properties rest no_schema rules))
  struct-fits k s ps rest rules u w h g =
      finding-fits r d most false j (noted (counts_notes rules ++ []) (struct_of d.setting (property k s ps) rest rules))
      (record { notes = ap (λ ns. ns ++ []) (uncounted rules u); patterns = refl; places = refl; faults = refl; listed = refl; unmerged = refl }) tt
      (both-fit [] (field_parts (property_fields d.setting rules.required (property k s ps))) (outside_parts (outside_row (outside_names (property k s ps) rules.required) rest)) (fields-fit [] rules.required (property k s ps) h)
      (subst (λ ns. PartsFit r d most false j [] (outside_parts (outside_row ns rest))) (sym (none-outside (property k s ps) rules.required w)) g))

  flag-rest : (rest : MaybeSchema) → is_flag rest ≡ true → PartsFit r d most false j [] (rest-parts rest)
  flag-rest no_schema h = tt
  flag-rest (the_schema (boolean b)) h = tt
  flag-rest (the_schema (object p ss ls ns)) h = impossible h

  object-rest : (p : Plain) (ss : Same) (ls : Lists) (ns : Named) → inner.row (object p ss ls ns) ≡ true → PartsFit r d most false j [] (rest-parts (the_schema (object p ss ls ns)))
  object-rest p ss ls ns h = (a_row h, tt)

  shut-fits : (ns : Named) → is_shut_alone d inner ns ≡ true → FindingFits r d most false j (object_finding d.setting ns)
  shut-fits no_named h = impossible h
  shut-fits (named no_properties no_properties (the_schema (boolean false)) no_schema rules) h =
      subst (λ c. FindingFits r d most false j (object_finding d.setting (named no_properties no_properties (the_schema (boolean false)) no_schema c))) (sym (unruled rules (and_left (plain.is_unruled rules) _ h)))
      (finding-fits r d most false j (plainly (struct_row true [] None)) (record { notes = refl; patterns = refl; places = refl; faults = refl; listed = refl; unmerged = refl }) tt tt)
  shut-fits (named no_properties no_properties (the_schema (boolean true)) no_schema rules) h = impossible (and_right (plain.is_unruled rules) _ h)
  shut-fits (named no_properties no_properties (the_schema (object p ss ls ns)) no_schema rules) h = impossible (and_right (plain.is_unruled rules) _ h)
  shut-fits (named no_properties no_properties no_schema no_schema rules) h = impossible (and_right (plain.is_unruled rules) _ h)
  shut-fits (named no_properties no_properties rest (the_schema t) rules) h = impossible h
  shut-fits (named no_properties (property k s ps) rest names rules) h = impossible h
  shut-fits (named (property k s ps) patterns rest names rules) h = impossible h

  -- with what is known of the rest
  holding-fits : (ns : Named) → holds_fields d inner ns ≡ true → (has_flag d inner ns ≡ true) ⊎ (has_row d inner ns ≡ true) → FindingFits r d most false j (object_finding d.setting ns)
  holding-fits no_named h g = impossible h
  holding-fits (named no_properties no_properties rest no_schema rules) h g = impossible h
  holding-fits (named (property k s ps) no_properties rest no_schema rules) h g =
      let a = and_right (is_uncounted rules) _ h in
      struct-fits k s ps rest rules (and_left (is_uncounted rules) _ h) (and_left (are_within d inner rules.required (property k s ps)) _ a) (and_right (are_within d inner rules.required (property k s ps)) _ a) (by rest g)
    where
      by : (rest : MaybeSchema) → (has_flag d inner (named (property k s ps) no_properties rest no_schema rules) ≡ true) ⊎ (has_row d inner (named (property k s ps) no_properties rest no_schema rules) ≡ true) → PartsFit r d most false j [] (rest-parts rest)
      by rest (inl f) = flag-rest rest f
      by no_schema (inr f) = impossible f
      by (the_schema (boolean b)) (inr f) = impossible f
      by (the_schema (object q ss ls ns)) (inr f) = object-rest q ss ls ns f
  holding-fits (named props no_properties rest (the_schema t) rules) h g = impossible h
  holding-fits (named props (property k s ps) rest names rules) h g = impossible h

  pub row-struct : (s : Schema) → plain_struct d inner s ≡ true → Good s
  row-struct (boolean b) h = impossible h
  row-struct (object p ss ls ns) h = object-fits p ss ls ns ((holds_fields d inner ns && has_flag d inner ns) || is_shut_alone d inner ns) h (λ g. by (either (holds_fields d inner ns && has_flag d inner ns) _ g))
    where
      by : ((holds_fields d inner ns && has_flag d inner ns) ≡ true) ⊎ (is_shut_alone d inner ns ≡ true) → FindingFits r d most false j (object_finding d.setting ns)
      by (inl g) = holding-fits ns (and_left (holds_fields d inner ns) _ g) (inl (and_right (holds_fields d inner ns) _ g))
      by (inr g) = shut-fits ns g

  -- ---- items

  pub row-item : (s : Schema) → plain_item d inner s ≡ true → Good s
  row-item (boolean b) h = impossible h
  row-item (object p ss ls ns) h = object-fits p ss ls ns (holds_fields d inner ns && has_row d inner ns) h (λ g. holding-fits ns (and_left (holds_fields d inner ns) _ g) (inr (and_right (holds_fields d inner ns) _ g)))
