-- More levels leave plain what is plain: a table of rows that says yes of more subschemas says yes of more schemas.
use Rattle.std.proofs.Common.{◌≡◌, List, [], ◌∷◌, length, Bool, true, false, ◌&&◌, ◌||◌, not, Option, Some, None, is_none, option_map, option_and_then, refl, ap, ◌∙◌, nat_le}
use Rattle.std.specs.Prelude.{if◌then◌else◌}
use Rattle.std.specs.List.{list_all, list_any}
use Rattle.schema_defs.specs.declared.InstanceType.{InstanceType}
use Rattle.schema_defs.specs.declared.InstanceType.TheVariants.{Object, Array}
use Rattle.schema_defs.specs.Schema.{Plain, Schema, boolean, object, Same, no_same, same_value, Lists, no_lists, lists, Named, no_named, named, MaybeSchema, no_schema, the_schema, MaybeSchemas, no_list, the_list, Schemas, no_more, schema, schema_list, Places, no_items, each_item, by_place, Properties, no_properties, property, Document}
use Rattle.schema_defs.specs.Counts.{has_properties}
use Rattle.enum_defs.specs.Words.{Name, without_same, without_lists, without_named, all_some, is_name}
use Rattle.enum_defs.specs.Kinds.{null_free}
use Rattle.convert_defs.proofs.Bare.{and_left, and_right, impossible, none-some}
use Rattle.plain_defs.specs.Words as plain
use Rattle.plain_defs.specs.Words.{says_nothing, is_only, is_unsized, is_uncounted, enumeration, named_text, or_else, one_required, is_closed, lists_null_once, less_null, beside_null}
use Rattle.plain_defs.specs.Rows.{Inner, plain_any, plain_boolean, plain_integer, plain_text, plain_list, plain_tuple, plain_map, plain_struct, plain_item, plain_reference, plain_option, plain_tagged, plain_cases, plain_kinds, plain_row, plain_typed, holds_items, is_sized, holds_places, holds_members, holds_property, holds_properties, are_within, holds_fields, has_flag, is_shut_alone, has_row, with_null, is_null_alone, is_row_and_null, are_row_and_null, has_row_and_null, members_of_one, one_of, is_tag, first_required, is_uncovered, name_if_null_free, holding_case, cases, all_apart, are_disjoint, is_shut_where_one}

-- ---- tests

and-keeps : (a b c : Bool) → (b ≡ true → c ≡ true) → (a && b) ≡ true → (a && c) ≡ true
and-keeps true b c f h = f h
and-keeps false b c f h = h

and-first : (a b c : Bool) → (a ≡ true → c ≡ true) → (a && b) ≡ true → (c && b) ≡ true
and-first a b c f h = λ i. f (and_left a b h) i && and_right a b h i

or-keeps : (a b c e : Bool) → (a ≡ true → c ≡ true) → (b ≡ true → e ≡ true) → (a || b) ≡ true → (c || e) ≡ true
or-keeps true b c e f g h = ap (λ x. x || e) (f refl)
or-keeps false b true e f g h = refl
or-keeps false b false e f g h = g h

-- ---- what holds of direct subschemas

module _ (P : Schema → Type 0) where
  abbrev pub OfMaybe : MaybeSchema → Type 0
  OfMaybe no_schema = Unit {0}
  OfMaybe (the_schema s) = P s

  abbrev pub OfAll : Schemas → Type 0
  OfAll no_more = Unit {0}
  OfAll (schema s ss) = P s × OfAll ss

  abbrev pub OfList : MaybeSchemas → Type 0
  OfList no_list = Unit {0}
  OfList (the_list ss) = OfAll ss

  abbrev pub OfPlaces : Places → Type 0
  OfPlaces no_items = Unit {0}
  OfPlaces (each_item s) = P s
  OfPlaces (by_place ss) = OfAll ss

  abbrev pub OfProperties : Properties → Type 0
  OfProperties no_properties = Unit {0}
  OfProperties (property k s ps) = P s × OfProperties ps

  abbrev pub OfSame : Same → Type 0
  OfSame no_same = Unit {0}
  OfSame (same_value all any one none c) = OfList any × OfList one

  abbrev pub OfLists : Lists → Type 0
  OfLists no_lists = Unit {0}
  OfLists (lists places rest contains rules) = OfPlaces places

  abbrev pub OfNamed : Named → Type 0
  OfNamed no_named = Unit {0}
  OfNamed (named props patterns rest names rules) = OfProperties props × OfMaybe rest

  abbrev pub Inside : Schema → Type 0
  Inside (boolean b) = Unit {0}
  Inside (object p ss ls ns) = OfSame ss × OfLists ls × OfNamed ns

  abbrev AllOf : List Schema → Type 0
  AllOf [] = Unit {0}
  AllOf (s ∷ ss) = P s × AllOf ss

  all-of : (ss : Schemas) → OfAll ss → AllOf (schema_list ss)
  all-of no_more h = tt
  all-of (schema s ss) h = (h.0, all-of ss h.1)

  keep-all : (f g : Schema → Bool) → ((s : Schema) → P s → f s ≡ true → g s ≡ true) → (ss : List Schema) → AllOf ss → list_all f ss ≡ true → list_all g ss ≡ true
  keep-all f g k [] u h = refl
  keep-all f g k (s ∷ ss) u h = λ i. k s u.0 (and_left (f s) _ h) i && keep-all f g k ss u.1 (and_right (f s) _ h) i

-- one says yes of each subschema of which the other does
pub record Weaker (P : Schema → Type 0) (a b : Inner) : Type 0 where
  pub rows : (s : Schema) → P s → a.row s ≡ true → b.row s ≡ true
  pub nullables : (s : Schema) → P s → a.nullable s ≡ true → b.nullable s ≡ true
  pub objects : (s : Schema) → P s → a.object s ≡ true → b.object s ≡ true

module _ (d : Document) (P : Schema → Type 0) (a b : Inner) (w : Weaker P a b) where
  abbrev rows : (s : Schema) → P s → a.row s ≡ true → b.row s ≡ true
  rows = w.rows

  -- ---- owners

  items : (ls : Lists) → OfLists P ls → holds_items d a ls ≡ true → holds_items d b ls ≡ true
  items no_lists u h = refl
  items (lists (each_item s) no_schema no_schema rules) u h = and-keeps (is_unsized rules) (a.row s) (b.row s) (rows s u) h
  items (lists (each_item s) no_schema (the_schema t) rules) u h = impossible h
  items (lists (each_item s) (the_schema t) contains rules) u h = impossible h
  items (lists no_items rest contains rules) u h = impossible h
  items (lists (by_place ss) rest contains rules) u h = impossible h

  places : (ls : Lists) → OfLists P ls → holds_places d a ls ≡ true → holds_places d b ls ≡ true
  places no_lists u h = impossible h
  places (lists (by_place ss) no_schema no_schema rules) u h = and-keeps (is_sized d a (length (schema_list ss)) rules) (list_all a.row (schema_list ss)) (list_all b.row (schema_list ss)) (keep-all P a.row b.row rows_ (schema_list ss) (all-of P ss u)) h
    where
      rows_ : (s : Schema) → P s → a.row s ≡ true → b.row s ≡ true
      rows_ = w.rows
  places (lists (by_place ss) no_schema (the_schema t) rules) u h = impossible h
  places (lists (by_place ss) (the_schema t) contains rules) u h = impossible h
  places (lists no_items rest contains rules) u h = impossible h
  places (lists (each_item s) rest contains rules) u h = impossible h

  members : (ns : Named) → OfNamed P ns → holds_members d a ns ≡ true → holds_members d b ns ≡ true
  members no_named u h = refl
  members (named no_properties no_properties (the_schema s) no_schema rules) u h = and-keeps (plain.is_unruled rules) (a.row s) (b.row s) (rows s u.1) h
  members (named no_properties no_properties (the_schema s) (the_schema t) rules) u h = impossible h
  members (named no_properties no_properties no_schema names rules) u h = impossible h
  members (named no_properties (property k s ps) rest names rules) u h = impossible h
  members (named (property k s ps) patterns rest names rules) u h = impossible h

  one_property : (required : List Name) (k : Name) (s : Schema) → P s → holds_property d a required k s ≡ true → holds_property d b required k s ≡ true
  one_property required k s u h = or-keeps (a.row s) (not (is_name k required) && a.nullable s) (b.row s) (not (is_name k required) && b.nullable s) (rows s u) (and-keeps (not (is_name k required)) (a.nullable s) (b.nullable s) (w.nullables s u)) h

  all_properties : (required : List Name) (ps : Properties) → OfProperties P ps → holds_properties d a required ps ≡ true → holds_properties d b required ps ≡ true
  all_properties required no_properties u h = refl
  all_properties required (property k s ps) u h = λ i. one_property required k s u.0 (and_left (holds_property d a required k s) _ h) i && all_properties required ps u.1 (and_right (holds_property d a required k s) _ h) i

  fields : (ns : Named) → OfNamed P ns → holds_fields d a ns ≡ true → holds_fields d b ns ≡ true
  fields no_named u h = impossible h
  fields (named props no_properties rest no_schema rules) u h =
      and-keeps (has_properties props) (is_uncounted rules && (are_within d a rules.required props && holds_properties d a rules.required props)) (is_uncounted rules && (are_within d b rules.required props && holds_properties d b rules.required props))
      (and-keeps (is_uncounted rules) (are_within d a rules.required props && holds_properties d a rules.required props) (are_within d b rules.required props && holds_properties d b rules.required props)
      (and-keeps (are_within d a rules.required props) (holds_properties d a rules.required props) (holds_properties d b rules.required props) (all_properties rules.required props u.0))) h
  fields (named props no_properties rest (the_schema t) rules) u h = impossible h
  fields (named props (property k s ps) rest names rules) u h = impossible h

  rest_row : (ns : Named) → OfNamed P ns → has_row d a ns ≡ true → has_row d b ns ≡ true
  rest_row no_named u h = impossible h
  rest_row (named props patterns no_schema names rules) u h = impossible h
  rest_row (named props patterns (the_schema (boolean c)) names rules) u h = impossible h
  rest_row (named props patterns (the_schema (object p ss ls ns)) names rules) u h = rows (object p ss ls ns) u.1 h

  row-list : (s : Schema) → Inside P s → plain_list d a s ≡ true → plain_list d b s ≡ true
  row-list (boolean c) u h = h
  row-list (object p ss ls ns) u h =
      and-keeps (is_only Array p) (without_same ss && (holds_items d a ls && without_named ns)) (without_same ss && (holds_items d b ls && without_named ns))
      (and-keeps (without_same ss) (holds_items d a ls && without_named ns) (holds_items d b ls && without_named ns) (and-first (holds_items d a ls) (without_named ns) (holds_items d b ls) (items ls u.1))) h

  row-tuple : (s : Schema) → Inside P s → plain_tuple d a s ≡ true → plain_tuple d b s ≡ true
  row-tuple (boolean c) u h = h
  row-tuple (object p ss ls ns) u h =
      and-keeps (is_only Array p) (without_same ss && (holds_places d a ls && without_named ns)) (without_same ss && (holds_places d b ls && without_named ns))
      (and-keeps (without_same ss) (holds_places d a ls && without_named ns) (holds_places d b ls && without_named ns) (and-first (holds_places d a ls) (without_named ns) (holds_places d b ls) (places ls u.1))) h

  -- an object by its keywords of members
  of-members : (p : Plain) (ss : Same) (ls : Lists) (x y : Bool) → (x ≡ true → y ≡ true) → (is_only Object p && (without_same ss && (without_lists ls && x))) ≡ true → (is_only Object p && (without_same ss && (without_lists ls && y))) ≡ true
  of-members p ss ls x y f h = and-keeps (is_only Object p) (without_same ss && (without_lists ls && x)) (without_same ss && (without_lists ls && y)) (and-keeps (without_same ss) (without_lists ls && x) (without_lists ls && y) (and-keeps (without_lists ls) x y f)) h

  row-map : (s : Schema) → Inside P s → plain_map d a s ≡ true → plain_map d b s ≡ true
  row-map (boolean c) u h = h
  row-map (object p ss ls ns) u h = of-members p ss ls (holds_members d a ns) (holds_members d b ns) (members ns u.2) h

  pub row-struct : (s : Schema) → Inside P s → plain_struct d a s ≡ true → plain_struct d b s ≡ true
  row-struct (boolean c) u h = h
  row-struct (object p ss ls ns) u h =
      of-members p ss ls ((holds_fields d a ns && has_flag d a ns) || is_shut_alone d a ns) ((holds_fields d b ns && has_flag d b ns) || is_shut_alone d b ns)
      (or-keeps (holds_fields d a ns && has_flag d a ns) (is_shut_alone d a ns) (holds_fields d b ns && has_flag d b ns) (is_shut_alone d b ns) (and-first (holds_fields d a ns) (has_flag d a ns) (holds_fields d b ns) (fields ns u.2)) (λ k. k)) h

  pub row-item : (s : Schema) → Inside P s → plain_item d a s ≡ true → plain_item d b s ≡ true
  row-item (boolean c) u h = h
  row-item (object p ss ls ns) u h =
      of-members p ss ls (holds_fields d a ns && has_row d a ns) (holds_fields d b ns && has_row d b ns)
      (λ k. λ i. fields ns u.2 (and_left (holds_fields d a ns) _ k) i && rest_row ns u.2 (and_right (holds_fields d a ns) _ k) i) h

  typed : (s : Schema) → Inside P s → plain_typed d a s ≡ true → plain_typed d b s ≡ true
  typed s u h =
      or-keeps (plain_boolean d a s) (plain_integer d a s || (plain_text d a s || (plain_list d a s || (plain_tuple d a s || (plain_map d a s || plain_struct d a s))))) (plain_boolean d b s) (plain_integer d b s || (plain_text d b s || (plain_list d b s || (plain_tuple d b s || (plain_map d b s || plain_struct d b s))))) (λ k. k)
      (or-keeps (plain_integer d a s) (plain_text d a s || (plain_list d a s || (plain_tuple d a s || (plain_map d a s || plain_struct d a s)))) (plain_integer d b s) (plain_text d b s || (plain_list d b s || (plain_tuple d b s || (plain_map d b s || plain_struct d b s)))) (λ k. k)
      (or-keeps (plain_text d a s) (plain_list d a s || (plain_tuple d a s || (plain_map d a s || plain_struct d a s))) (plain_text d b s) (plain_list d b s || (plain_tuple d b s || (plain_map d b s || plain_struct d b s))) (λ k. k)
      (or-keeps (plain_list d a s) (plain_tuple d a s || (plain_map d a s || plain_struct d a s)) (plain_list d b s) (plain_tuple d b s || (plain_map d b s || plain_struct d b s)) (row-list s u)
      (or-keeps (plain_tuple d a s) (plain_map d a s || plain_struct d a s) (plain_tuple d b s) (plain_map d b s || plain_struct d b s) (row-tuple s u)
      (or-keeps (plain_map d a s) (plain_struct d a s) (plain_map d b s) (plain_struct d b s) (row-map s u) (row-struct s u)))))) h

  -- ---- options

  with-null : (p : Plain) (ss : Same) (ls : Lists) (ns : Named) (o : Option InstanceType) → Inside P (object p ss ls ns) → with_null d a p ss ls ns o ≡ true → with_null d b p ss ls ns o ≡ true
  with-null p ss ls ns None u h = h
  with-null p ss ls ns (Some k) u h =
      and-keeps (is_none p.const_value) (lists_null_once p.enum_values && plain_typed d a (object (less_null k p) ss ls ns)) (lists_null_once p.enum_values && plain_typed d b (object (less_null k p) ss ls ns))
      (and-keeps (lists_null_once p.enum_values) (plain_typed d a (object (less_null k p) ss ls ns)) (plain_typed d b (object (less_null k p) ss ls ns)) (typed (object (less_null k p) ss ls ns) u)) h

  row-and-null : (s n : Schema) → P s → is_row_and_null d a s n ≡ true → is_row_and_null d b s n ≡ true
  row-and-null s n u h = and-first (a.row s) (null_free d s && is_null_alone d a n) (b.row s) (rows s u) h

  pair : (ss : Schemas) → OfAll P ss → are_row_and_null d a ss ≡ true → are_row_and_null d b ss ≡ true
  pair no_more u h = impossible h
  pair (schema s no_more) u h = impossible h
  pair (schema s (schema t no_more)) u h = or-keeps (is_row_and_null d a s t) (is_row_and_null d a t s) (is_row_and_null d b s t) (is_row_and_null d b t s) (row-and-null s t u.0) (row-and-null t s u.1.0) h
  pair (schema s (schema t (schema x xs))) u h = impossible h

  row-or-null : (ss : Same) → OfSame P ss → has_row_and_null d a ss ≡ true → has_row_and_null d b ss ≡ true
  row-or-null no_same u h = impossible h
  row-or-null (same_value no_list (the_list ss) no_list no_schema false) u h = pair ss u.0 h
  row-or-null (same_value no_list no_list (the_list ss) no_schema false) u h = pair ss u.1 h
  row-or-null (same_value no_list no_list no_list none c) u h = impossible h
  row-or-null (same_value no_list (the_list ss) (the_list ts) none c) u h = impossible h
  row-or-null (same_value no_list (the_list ss) no_list (the_schema s) c) u h = impossible h
  row-or-null (same_value no_list (the_list ss) no_list no_schema true) u h = impossible h
  row-or-null (same_value no_list no_list (the_list ss) (the_schema s) c) u h = impossible h
  row-or-null (same_value no_list no_list (the_list ss) no_schema true) u h = impossible h
  row-or-null (same_value (the_list ss) x y none c) u h = impossible h

  pub row-option : (s : Schema) → Inside P s → plain_option d a s ≡ true → plain_option d b s ≡ true
  row-option (boolean c) u h = h
  row-option (object p ss ls ns) u h =
      or-keeps (with_null d a p ss ls ns (beside_null p.types)) (says_nothing p && (has_row_and_null d a ss && (without_lists ls && without_named ns))) (with_null d b p ss ls ns (beside_null p.types)) (says_nothing p && (has_row_and_null d b ss && (without_lists ls && without_named ns)))
      (with-null p ss ls ns (beside_null p.types) u)
      (and-keeps (says_nothing p) (has_row_and_null d a ss && (without_lists ls && without_named ns)) (has_row_and_null d b ss && (without_lists ls && without_named ns)) (and-first (has_row_and_null d a ss) (without_lists ls && without_named ns) (has_row_and_null d b ss) (row-or-null ss u.0))) h

  -- ---- choices

  inside-one : (ss : Same) → OfSame P ss → AllOf P (members_of_one d a ss)
  inside-one no_same u = tt
  inside-one (same_value no_list no_list (the_list ss) no_schema false) u = all-of P ss u.1
  inside-one (same_value no_list no_list (the_list ss) no_schema true) u = tt
  inside-one (same_value no_list no_list (the_list ss) (the_schema t) c) u = tt
  inside-one (same_value no_list no_list no_list none c) u = tt
  inside-one (same_value no_list (the_list ts) y none c) u = tt
  inside-one (same_value (the_list ts) x y none c) u = tt

  inside-members : (s : Schema) → Inside P s → AllOf P (one_of d a s)
  inside-members (boolean c) u = tt
  inside-members (object p ss ls ns) u = by (says_nothing p && (without_lists ls && without_named ns))
    where
      by : (c : Bool) → AllOf P (if c then members_of_one d a ss else [])
      by true = inside-one ss u.0
      by false = tt

  row-tagged : (s : Schema) → Inside P s → plain_tagged d a s ≡ true → plain_tagged d b s ≡ true
  row-tagged s u h =
      and-keeps (nat_le 2 (length (one_of d a s))) (list_all a.object (one_of d a s) && tests) (list_all b.object (one_of d a s) && tests)
      (and-first (list_all a.object (one_of d a s)) tests (list_all b.object (one_of d a s)) (keep-all P a.object b.object w.objects (one_of d a s) (inside-members s u))) h
    where
      tests : Bool
      tests = list_any (is_tag d a (one_of d a s)) (first_required d a (one_of d a s)) && ((list_all is_closed (one_of d a s) || list_all (λ m. not (is_closed m)) (one_of d a s)) && not (is_uncovered d a (one_of d a s)))

  holding : (s : Schema) (ns : List Name) → P s → holding_case d a s ≡ Some ns → holding_case d b s ≡ Some ns
  holding s ns u h = by (a.object s && is_closed s) refl h
    where
      by : (c : Bool) → (a.object s && is_closed s) ≡ c → (if c then name_if_null_free d a (one_required s) else None) ≡ Some ns → holding_case d b s ≡ Some ns
      by true e h = ap (λ c. if c then name_if_null_free d b (one_required s) else None) (and-first (a.object s) (is_closed s) (b.object s) (w.objects s u) e) ∙ h
      by false e h = none-some ns h

  case-kept : (s : Schema) (ns : List Name) → P s → cases d a s ≡ Some ns → cases d b s ≡ Some ns
  case-kept s ns u h = by (enumeration s) (option_map (λ t. t ∷ []) (named_text s)) h
    where
      by : (x y : Option (List Name)) → or_else x (or_else y (holding_case d a s)) ≡ Some ns → or_else x (or_else y (holding_case d b s)) ≡ Some ns
      by (Some ts) y h = h
      by None (Some ts) h = h
      by None None h = holding s ns u h

  cases-kept : (ss : List Schema) (nss : List (List Name)) → AllOf P ss → all_some (cases d a) ss ≡ Some nss → all_some (cases d b) ss ≡ Some nss
  cases-kept [] nss u h = h
  cases-kept (s ∷ ss) nss u h = by (cases d a s) refl (all_some (cases d a) ss) refl h (λ os. cases-kept ss os u.1)
    where
      by : (x : Option (List Name)) → cases d a s ≡ x → (y : Option (List (List Name))) → all_some (cases d a) ss ≡ y → option_and_then (λ ns. option_map (λ nss. ns ∷ nss) y) x ≡ Some nss
          → ((os : List (List Name)) → all_some (cases d a) ss ≡ Some os → all_some (cases d b) ss ≡ Some os) → all_some (cases d b) (s ∷ ss) ≡ Some nss
      by None e y f h k = none-some nss h
      by (Some ns) e None f h k = none-some nss h
      by (Some ns) e (Some os) f h k = (λ i. option_and_then (λ ns. option_map (λ nss. ns ∷ nss) (k os f i)) (case-kept s ns u.0 e i)) ∙ h

  row-cases : (s : Schema) → Inside P s → plain_cases d a s ≡ true → plain_cases d b s ≡ true
  row-cases s u h =
      and-keeps (nat_le 1 (length (one_of d a s))) (all_apart d a (all_some (cases d a) (one_of d a s))) (all_apart d b (all_some (cases d b) (one_of d a s)))
      (by (all_some (cases d a) (one_of d a s)) refl) h
    where
      by : (x : Option (List (List Name))) → all_some (cases d a) (one_of d a s) ≡ x → all_apart d a x ≡ true → all_apart d b (all_some (cases d b) (one_of d a s)) ≡ true
      by None e h = impossible h
      by (Some nss) e h = ap (all_apart d b) (cases-kept (one_of d a s) nss (inside-members s u) e) ∙ h

  row-kinds : (s : Schema) → Inside P s → plain_kinds d a s ≡ true → plain_kinds d b s ≡ true
  row-kinds s u h =
      and-keeps (nat_le 2 (length (one_of d a s))) (list_all a.row (one_of d a s) && tests) (list_all b.row (one_of d a s) && tests)
      (and-first (list_all a.row (one_of d a s)) tests (list_all b.row (one_of d a s)) (keep-all P a.row b.row rows (one_of d a s) (inside-members s u))) h
    where
      tests : Bool
      tests = are_disjoint d a (one_of d a s) && list_all (is_shut_where_one d a) (one_of d a s)

  pub all-rows : (s : Schema) → Inside P s → plain_row d a s ≡ true → plain_row d b s ≡ true
  all-rows s u h =
      or-keeps (plain_any d a s) (plain_typed d a s || (plain_reference d a s || (plain_tagged d a s || (plain_cases d a s || plain_kinds d a s)))) (plain_any d b s) (plain_typed d b s || (plain_reference d b s || (plain_tagged d b s || (plain_cases d b s || plain_kinds d b s)))) (λ k. k)
      (or-keeps (plain_typed d a s) (plain_reference d a s || (plain_tagged d a s || (plain_cases d a s || plain_kinds d a s))) (plain_typed d b s) (plain_reference d b s || (plain_tagged d b s || (plain_cases d b s || plain_kinds d b s))) (typed s u)
      (or-keeps (plain_reference d a s) (plain_tagged d a s || (plain_cases d a s || plain_kinds d a s)) (plain_reference d b s) (plain_tagged d b s || (plain_cases d b s || plain_kinds d b s)) (λ k. k)
      (or-keeps (plain_tagged d a s) (plain_cases d a s || plain_kinds d a s) (plain_tagged d b s) (plain_cases d b s || plain_kinds d b s) (row-tagged s u)
      (or-keeps (plain_cases d a s) (plain_kinds d a s) (plain_cases d b s) (plain_kinds d b s) (row-cases s u) (row-kinds s u))))) h
