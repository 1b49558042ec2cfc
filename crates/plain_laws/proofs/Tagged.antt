-- `oneOf` of objects that share a tag.
use Rattle.std.proofs.Common.{◌≡◌, ℕ, zero, suc, List, [], ◌∷◌, ◌++◌, map, filter, find, length, take, Bool, true, false, ◌&&◌, ◌||◌, not, Option, Some, None, is_some, option_map, option_and_then, refl, sym, ap, ◌∙◌, subst, ◌⊎◌, inl, inr, bytes_eq, nat_le, codes}
use Rattle.std.specs.Prelude.{if◌then◌else◌}
use Rattle.std.specs.List.{list_all, list_any, flat_map}
use Rattle.std.proofs.lemmas.Slice.Eq.{bytes_eq-Decides}
use Rattle.schema_defs.specs.declared.Setting.{Setting}
use Rattle.schema_defs.specs.declared.Setting.TheVariants.{Strict}
use Rattle.schema_defs.specs.Location.{Step, Location, place}
use Rattle.schema_defs.specs.Texts.{Relations}
use Rattle.schema_defs.specs.Layer.{property_at}
use Rattle.schema_defs.specs.Schema.{Schema, object, MaybeSchema, no_schema, the_schema, Schemas, no_more, schema, schema_list, Properties, no_properties, property, Document}
use Rattle.enum_defs.specs.Words.{Name, all_some, all_differ, is_name, names_of, props_of, required_of, first_some}
use Rattle.enum_defs.specs.Shapes.{Case, InternalCase, InternalShape, AdjacentShape, ObjectShape, is_null_schema, object_shape, external_cases, all_cases, external_shape, if_differ, only_property, members_of, constant_in, constant_at, property_names, internal_case, tagged_by, internal_by, internal_shape, two_names, is_all_required, adjacent_by, adjacent_of, closedness}
use Rattle.convert_defs.specs.Row.{FieldRow, Finding, noted, branching, here, narrowed, mixed_branches_note, tag_alone_note, field_parts, body_parts, variants_parts}
use Rattle.convert_defs.specs.IntegerRow.{note_if}
use Rattle.convert_defs.specs.Owners.{property_fields}
use Rattle.convert_defs.specs.Shapes as shapes
use Rattle.convert_defs.specs.Shapes.{Member, members_from, schemas_of, external_rows, less_property, true_or_none, is_closed_member, some_closed, some_open, placed_field, fields_beside, body_of_field, body_of_fields, internal_variant, adjacent_variant, is_no_property, has_tag_alone}
use Rattle.convert_defs.specs.Table.{mixed_notes, adjacent_row, internal_row, one_of_option, one_of_external, one_of_adjacent, one_of_internal, one_of_finding}
use Rattle.convert_defs.proofs.Bare.{and_left, and_right, impossible, some-same, none-some}
use Rattle.convert_walks.specs.Spot.{Branches}
use Rattle.plain_defs.specs.Words.{text_of, text_at, is_closed, are_one, are_two, differ_if_given, are_distinct}
use Rattle.plain_defs.specs.Rows as rows
use Rattle.plain_defs.specs.Rows.{Inner, rows_within, one_of, holds_property, holds_properties, requires, is_tag, first_required, requires_all, has_one_property, is_uncovered, plain_struct, plain_tagged}
use Rattle.plain_laws.proofs.Facts.{either, not-false, if-some, bind-some}
use Rattle.plain_laws.proofs.Tree.{IsForm, AllUnwalked, PartsFit, FindingFits, Fits}
use Rattle.plain_laws.proofs.Findings.{finding-fits}
use Rattle.plain_laws.proofs.NotNull.{null-struct}
use Rattle.plain_laws.proofs.Owners.{property-form}
use Rattle.plain_laws.proofs.Members.{IsObject, shape_in, is-object, named-constant}
use Rattle.plain_laws.proofs.Choices.{all-weaker, schemas-are, no-option, unwalked-branch, choice-fits, properties-hold, object-cases, parts-both}

-- ---- names

same-name : (m n : Name) → bytes_eq m n ≡ true → m ≡ n
same-name m n h = (bytes_eq-Decides m n).0 h

itself : (n : Name) → bytes_eq n n ≡ true
itself n = (bytes_eq-Decides n n).1 refl

-- what passes of all passes of one that is among them
one-passes : (f : Name → Bool) (n : Name) (ns : List Name) → list_all f ns ≡ true → is_name n ns ≡ true → f n ≡ true
one-passes f n [] h g = impossible g
one-passes f n (m ∷ ns) h g = by (either (bytes_eq n m) (is_name n ns) g) (one-passes f n ns (and_right (f m) _ h))
  where
    by : (bytes_eq n m ≡ true) ⊎ (is_name n ns ≡ true) → (is_name n ns ≡ true → f n ≡ true) → f n ≡ true
    by (inl e) k = ap f (same-name n m e) ∙ and_left (f m) _ h
    by (inr e) k = k e

some-name : (f : Name → Bool) (ns : List Name) → list_any f ns ≡ true → (n : Name) × (f n ≡ true) × (is_name n ns ≡ true)
some-name f [] h = impossible h
some-name f (m ∷ ns) h = by (f m) refl h (some-name f ns)
  where
    by : (b : Bool) → f m ≡ b → (b || list_any f ns) ≡ true → (list_any f ns ≡ true → (n : Name) × (f n ≡ true) × (is_name n ns ≡ true)) → (n : Name) × (f n ≡ true) × (is_name n (m ∷ ns) ≡ true)
    by true e h k = (m, e, ap (λ b. b || is_name m ns) (itself m))
    by false e h k = let z = k h in (z.0, z.1, later (bytes_eq z.0 m) (is_name z.0 ns) z.2)
      where
        later : (a b : Bool) → b ≡ true → (a || b) ≡ true
        later true b h = refl
        later false b h = h

-- ---- names that are two, and names that are one

first-found : (f : Name → Bool) (b : Name) (ns : List Name) → find f ns ≡ Some b → (rest : List Name) × (filter f ns ≡ b ∷ rest)
first-found f b [] h = none-some b h
first-found f b (n ∷ ns) h = by (f n) h (first-found f b ns)
  where
    by : (c : Bool) → (if c then Some n else find f ns) ≡ Some b → (find f ns ≡ Some b → (rest : List Name) × (filter f ns ≡ b ∷ rest)) → (rest : List Name) × ((if c then n ∷ filter f ns else filter f ns) ≡ b ∷ rest)
    by true h k = (filter f ns, ap (λ x. x ∷ filter f ns) (some-same n b h))
    by false h k = k h

others-one : (a b : Name) (ns : List Name) → list_all (λ n. bytes_eq n a || bytes_eq n b) ns ≡ true → list_all (λ l. bytes_eq l b) (filter (λ m. not (bytes_eq m a)) ns) ≡ true
others-one a b [] h = refl
others-one a b (n ∷ ns) h = by (bytes_eq n a) (and_left (bytes_eq n a || bytes_eq n b) _ h) (others-one a b ns (and_right (bytes_eq n a || bytes_eq n b) _ h))
  where
    by : (c : Bool) → (c || bytes_eq n b) ≡ true → list_all (λ l. bytes_eq l b) (filter (λ m. not (bytes_eq m a)) ns) ≡ true → list_all (λ l. bytes_eq l b) (if not c then n ∷ filter (λ m. not (bytes_eq m a)) ns else filter (λ m. not (bytes_eq m a)) ns) ≡ true
    by true g k = k
    by false g k = λ i. g i && k i

two-are : (ns : List Name) → is_some (two_names ns) ≡ true → are_two ns ≡ true
two-are [] h = impossible h
two-are (a ∷ ns) h = by (find (λ n. not (bytes_eq n a)) ns) refl h
  where
    by : (o : Option Name) → find (λ n. not (bytes_eq n a)) ns ≡ o → is_some {T = Name × Name} (option_and_then (λ b. if list_all (λ n. bytes_eq n a || bytes_eq n b) ns then Some (a, b) else None) o) ≡ true → are_one (filter (λ m. not (bytes_eq m a)) ns) ≡ true
    by None e h = impossible h
    by (Some b) e h =
        let z = first-found (λ n. not (bytes_eq n a)) b ns e in
        let g = others-one a b ns (if-some (list_all (λ n. bytes_eq n a || bytes_eq n b) ns) (Some (a, b)) h).0 in
        ap are_one z.1 ∙ and_right (bytes_eq b b) _ (sym (ap (list_all (λ l. bytes_eq l b)) z.1) ∙ g)

-- all properties have the tag's name
only-tag : (tag : Name) (ps : Properties) → is_no_property (less_property tag ps) ≡ true → list_all (λ n. bytes_eq tag n) (names_of ps) ≡ true
only-tag tag no_properties h = refl
only-tag tag (property k s ps) h = by (bytes_eq tag k) h (only-tag tag ps)
  where
    by : (b : Bool) → is_no_property (if b then less_property tag ps else property k s (less_property tag ps)) ≡ true → (is_no_property (less_property tag ps) ≡ true → list_all (λ n. bytes_eq tag n) (names_of ps) ≡ true) → (b && list_all (λ n. bytes_eq tag n) (names_of ps)) ≡ true
    by true h k = k h
    by false h k = impossible h

tag-is-one : (tag : Name) (ns : List Name) → list_all (λ n. bytes_eq tag n) ns ≡ true → (n : Name) → is_name n ns ≡ true → are_one ns ≡ true
tag-is-one tag [] h n g = impossible g
tag-is-one tag (m ∷ ns) h n g = all ns (and_right (bytes_eq tag m) _ h)
  where
    all : (ns : List Name) → list_all (λ n. bytes_eq tag n) ns ≡ true → list_all (λ l. bytes_eq l m) ns ≡ true
    all [] h = refl
    all (l ∷ ns) k = λ i. (ap (λ x. bytes_eq x m) (sym (same-name tag l (and_left (bytes_eq tag l) _ k))) ∙ and_left (bytes_eq tag m) _ h) i && all ns (and_right (bytes_eq tag l) _ k) i

-- ---- no member is of the external shape beside another

one-case : (c : Bool) (required : List Name) (ps : Properties) (n : Name) → is_name n (names_of ps) ≡ true → (cs : List Case) → only_property c required ps ≡ Some cs → map (λ x. x.name) cs ≡ n ∷ []
one-case c required no_properties n h cs e = none-some cs e
one-case c required (property k s (property l t ps)) n h cs e = none-some cs e
one-case c required (property k s no_properties) n h cs e = by (is_name k required) e
  where
    is-it : (bytes_eq n k ≡ true) ⊎ (false ≡ true) → n ≡ k
    is-it (inl g) = same-name n k g
    is-it (inr g) = impossible g

    by : (b : Bool) → (if b then Some (record { name = k; content = Some s; closed = c } ∷ []) else None) ≡ Some cs → map (λ x. x.name) cs ≡ n ∷ []
    by true e = sym (ap (map (λ x. x.name)) (some-same (record { name = k; content = Some s; closed = c } ∷ []) cs e)) ∙ ap (λ m. m ∷ []) (sym (is-it (either (bytes_eq n k) false h)))
    by false e = none-some cs e

names-both : (xs ys : List Case) → map (λ c. c.name) (xs ++ ys) ≡ map (λ c. c.name) xs ++ map (λ c. c.name) ys
names-both [] ys = refl
names-both (x ∷ xs) ys = ap (λ ns. x.name ∷ ns) (names-both xs ys)

twice : (n : Name) (ns : List Name) → all_differ (n ∷ n ∷ ns) ≡ false
twice n ns = λ i. not (itself n i || is_name n ns) && all_differ (n ∷ ns)

module _ (n : Name) (s t : Schema) (ss : List Schema) where
  no-external : ((cs : List Case) → external_cases s ≡ Some cs → map (λ x. x.name) cs ≡ n ∷ []) → ((cs : List Case) → external_cases t ≡ Some cs → map (λ x. x.name) cs ≡ n ∷ []) → external_shape (s ∷ t ∷ ss) ≡ None
  no-external f g = by (external_cases s) refl (external_cases t) refl (all_cases ss)
    where
      by : (x : Option (List Case)) → external_cases s ≡ x → (y : Option (List Case)) → external_cases t ≡ y → (z : Option (List Case))
          → option_and_then (if_differ (λ c. c.name)) (option_and_then (λ cs. option_map (λ others. cs ++ others) (option_and_then (λ ds. option_map (λ others. ds ++ others) z) y)) x) ≡ None
      by None e y h z = refl
      by (Some cs) e None h z = refl
      by (Some cs) e (Some ds) h None = refl
      by (Some cs) e (Some ds) h (Some es) =
          ap (λ b. if b then Some (cs ++ (ds ++ es)) else None) (ap all_differ (names-both cs (ds ++ es) ∙ (λ i. f cs e i ++ names-both ds es i) ∙ (λ i. n ∷ (g ds h i ++ map (λ c. c.name) es))) ∙ twice n (map (λ c. c.name) es))

-- ---- shapes of all

abbrev shapes_in : List Schema → List ObjectShape
shapes_in ss = map shape_in ss

abbrev AllObjects : List Schema → Type 0
AllObjects [] = Unit {0}
AllObjects (s ∷ ss) = IsObject s × AllObjects ss

all-shapes : (ss : List Schema) → AllObjects ss → all_some object_shape ss ≡ Some (shapes_in ss)
all-shapes [] h = refl
all-shapes (s ∷ ss) h = λ i. option_and_then (λ y. option_map (λ ys. y ∷ ys) (all-shapes ss h.1 i)) (h.0.shape i)

all-names : (ss : List Schema) → flat_map property_names (shapes_in ss) ≡ flat_map (λ s. names_of (props_of (members_of s))) ss
all-names [] = refl
all-names (s ∷ ss) = ap (λ ns. names_of (props_of (members_of s)) ++ ns) (all-names ss)

-- ---- the tag

named-tag : (n : Name) (s : Schema) (t : Name) → text_at n s ≡ Some t → constant_at n (shape_in s) ≡ Some t
named-tag n s t h = by (property_at n (props_of (members_of s))) h
  where
    by : (m : MaybeSchema) → text_of m ≡ Some t → constant_in m ≡ Some t
    by no_schema h = none-some t h
    by (the_schema u) h = named-constant u t h

abbrev case_of : Name → Schema → Name → InternalCase
case_of n s t = record { name = t; object = members_of s; closed = is_closed s }

tag-cases : (n : Name) (ss : List Schema) (ts : List Name) → list_all (λ s. is_name n (required_of (members_of s))) ss ≡ true → all_some (λ o. o) (map (text_at n) ss) ≡ Some ts
    → (cs : List InternalCase) × (all_some (internal_case n) (shapes_in ss) ≡ Some cs) × (map (λ c. c.name) cs ≡ ts)
tag-cases n [] ts h e = ([], refl, some-same [] ts e)
tag-cases n (s ∷ ss) ts h e = by (text_at n s) refl (all_some (λ o. o) (map (text_at n) ss)) refl e (tag-cases n ss)
  where
    by : (x : Option Name) → text_at n s ≡ x → (y : Option (List Name)) → all_some (λ o. o) (map (text_at n) ss) ≡ y → option_and_then (λ t. option_map (λ ts. t ∷ ts) y) x ≡ Some ts
        → ((ts : List Name) → list_all (λ s. is_name n (required_of (members_of s))) ss ≡ true → all_some (λ o. o) (map (text_at n) ss) ≡ Some ts → (cs : List InternalCase) × (all_some (internal_case n) (shapes_in ss) ≡ Some cs) × (map (λ c. c.name) cs ≡ ts))
        → (cs : List InternalCase) × (all_some (internal_case n) (shapes_in (s ∷ ss)) ≡ Some cs) × (map (λ c. c.name) cs ≡ ts)
    by None f y g e k = none-some ts e
    by (Some t) f None g e k = none-some ts e
    by (Some t) f (Some us) g e k =
        let z = k us (and_right (is_name n (required_of (members_of s))) _ h) g in
        let here : internal_case n (shape_in s) ≡ Some (case_of n s t) = (λ i. if and_left (is_name n (required_of (members_of s))) (list_all (λ s. is_name n (required_of (members_of s))) ss) h i then option_map (λ t. case_of n s t) (named-tag n s t f i) else None) in
        (case_of n s t ∷ z.0, (λ i. option_and_then (λ c. option_map (λ cs. c ∷ cs) (z.1 i)) (here i)), ap (λ ns. t ∷ ns) z.2 ∙ some-same (t ∷ us) ts e)

abbrev or_first : {B : Type 0} → Option B → Option B → Option B
or_first rest None = rest
or_first rest (Some y) = Some y

first-there : {B : Type 0} (f : Name → Option B) (n : Name) (ns : List Name) → is_name n ns ≡ true → is_some (f n) ≡ true → is_some (first_some f ns) ≡ true
first-there {B = B} f n [] h g = impossible h
first-there {B = B} f n (m ∷ ns) h g = by (f m) refl (either (bytes_eq n m) (is_name n ns) h) (λ k. first-there f n ns k g)
  where
    by : (o : Option B) → f m ≡ o → (bytes_eq n m ≡ true) ⊎ (is_name n ns ≡ true) → (is_name n ns ≡ true → is_some (first_some f ns) ≡ true) → is_some (or_first (first_some f ns) o) ≡ true
    by (Some y) e k r = refl
    by None e (inl k) r = impossible (sym (ap is_some e) ∙ ap (λ x. is_some (f x)) (sym (same-name n m k)) ∙ g)
    by None e (inr k) r = r k

abbrev tagged : Name → List InternalCase → InternalShape
tagged n cs = record { tag = n; cases = cs }

has-tag : (n : Name) (s : Schema) (ss : List Schema) → AllObjects (s ∷ ss) → list_all (λ s. is_name n (required_of (members_of s))) (s ∷ ss) ≡ true → are_distinct (map (text_at n) (s ∷ ss)) ≡ true → is_some (internal_by (shapes_in (s ∷ ss))) ≡ true
has-tag n s ss o h e = by (all_some (λ x. x) (map (text_at n) (s ∷ ss))) refl e
  where
    within : is_name n (names_of (props_of (members_of s))) ≡ true
    within = one-passes (λ n. is_name n (names_of (props_of (members_of s)))) n (required_of (members_of s)) o.0.within (and_left (is_name n (required_of (members_of s))) _ h)

    by : (x : Option (List Name)) → all_some (λ x. x) (map (text_at n) (s ∷ ss)) ≡ x → differ_if_given x ≡ true → is_some (internal_by (shapes_in (s ∷ ss))) ≡ true
    by None f e = impossible e
    by (Some ts) f e =
        let z = tag-cases n (s ∷ ss) ts h f in
        first-there (tagged_by (shapes_in (s ∷ ss))) n (names_of (props_of (members_of s))) within
        (λ i. is_some (option_map (tagged n) ((ap (option_and_then (if_differ (λ c. c.name))) z.1 ∙ ap (λ b. if b then Some z.0 else None) (ap all_differ z.2 ∙ e)) i)))

-- ---- tests over lists

module _ {A : Type 0} (f : A → Bool) where
  any-none : (xs : List A) → list_all (λ x. not (f x)) xs ≡ true → list_any f xs ≡ false
  any-none [] h = refl
  any-none (x ∷ xs) h = λ i. not-false (f x) (and_left (not (f x)) _ h) i || any-none xs (and_right (not (f x)) _ h) i

  none-fails : (xs : List A) → list_all f xs ≡ true → list_any (λ x. not (f x)) xs ≡ false
  none-fails [] h = refl
  none-fails (x ∷ xs) h = λ i. not (and_left (f x) _ h i) || none-fails xs (and_right (f x) _ h) i

  all-not : (xs : List A) → list_any f xs ≡ false → list_all (λ x. not (f x)) xs ≡ true
  all-not [] h = refl
  all-not (x ∷ xs) h = by (f x) h (all-not xs)
    where
      by : (b : Bool) → (b || list_any f xs) ≡ false → (list_any f xs ≡ false → list_all (λ x. not (f x)) xs ≡ true) → (not b && list_all (λ x. not (f x)) xs) ≡ true
      by true h k = impossible (sym h)
      by false h k = k h

module _ (r : Relations) (d : Document) (most : ℕ) (i : ℕ) where
  abbrev objects : List Schema → Bool
  objects ss = list_all (plain_struct d (rows_within d i)) ss

  abbrev outer : Inner
  outer = rows_within d (suc i)

  abbrev Found : Finding → Type 0
  Found f = FindingFits r d most false (suc i) f

  all-objects : (ss : List Schema) → objects ss ≡ true → AllObjects ss
  all-objects [] h = tt
  all-objects (s ∷ ss) h = (is-object d (rows_within d i) s (and_left (plain_struct d (rows_within d i) s) _ h), all-objects ss (and_right (plain_struct d (rows_within d i) s) _ h))

  -- ---- contents

  module _ (all : Branches) (u : AllUnwalked all) where
    field-parts : (l : Location) (st : Setting) (required : List Name) (tag : Name) (ps : Properties) → holds_properties d (rows_within d i) required ps ≡ true
        → PartsFit r d most false (suc i) all (field_parts (map (placed_field l) (property_fields st required (less_property tag ps))))
    field-parts l st required tag no_properties h = tt
    field-parts l st required tag (property k s ps) h =
        by (bytes_eq tag k) (property-form r d most i required k s (and_left (holds_property d (rows_within d i) required k s) _ h)) (field-parts l st required tag ps (and_right (holds_property d (rows_within d i) required k s) _ h))
      where
        by : (b : Bool) → IsForm d i s → PartsFit r d most false (suc i) all (field_parts (map (placed_field l) (property_fields st required (less_property tag ps))))
            → PartsFit r d most false (suc i) all (field_parts (map (placed_field l) (property_fields st required (if b then less_property tag ps else property k s (less_property tag ps)))))
        by true f g = g
        by false f g = ((i, refl, unwalked-branch (take 2 (l ++ codes "properties" ∷ k ∷ [])) all u, f), g)

    fields-body : (fs : List FieldRow) → PartsFit r d most false (suc i) all (field_parts fs) → PartsFit r d most false (suc i) all (body_parts (body_of_fields fs))
    fields-body [] h = tt
    fields-body (f ∷ fs) h = h

    field-body : (fs : List FieldRow) → PartsFit r d most false (suc i) all (field_parts fs) → PartsFit r d most false (suc i) all (body_parts (body_of_field fs))
    field-body [] h = tt
    field-body (f ∷ fs) h = (h.0, tt)

    beside-fit : (st : Setting) (tag : Name) (l : Location) (s : Schema) → plain_struct d (rows_within d i) s ≡ true → PartsFit r d most false (suc i) all (field_parts (fields_beside st tag (l, s)))
    beside-fit st tag l s h = field-parts l st (required_of (members_of s)) tag (props_of (members_of s)) (properties-hold r d most (rows_within d i) s h)

    internal-parts : (st : Setting) (tag : Name) (k : Step) (n : ℕ) (qs : Schemas) → objects (schema_list qs) ≡ true → PartsFit r d most false (suc i) all (variants_parts (map (internal_variant st tag) (members_from k n qs)))
    internal-parts st tag k n no_more h = tt
    internal-parts st tag k n (schema s qs) h =
        parts-both r d most (suc i) all (body_parts (body_of_fields (fields_beside st tag (k ∷ place n ∷ [], s)))) (variants_parts (map (internal_variant st tag) (members_from k (suc n) qs)))
        (fields-body (fields_beside st tag (k ∷ place n ∷ [], s)) (beside-fit st tag (k ∷ place n ∷ []) s (and_left (plain_struct d (rows_within d i) s) _ h))) (internal-parts st tag k (suc n) qs (and_right (plain_struct d (rows_within d i) s) _ h))

    adjacent-parts : (tag : Name) (k : Step) (n : ℕ) (qs : Schemas) → objects (schema_list qs) ≡ true → PartsFit r d most false (suc i) all (variants_parts (map (adjacent_variant tag) (members_from k n qs)))
    adjacent-parts tag k n no_more h = tt
    adjacent-parts tag k n (schema s qs) h =
        parts-both r d most (suc i) all (body_parts (body_of_field (fields_beside Strict tag (k ∷ place n ∷ [], s)))) (variants_parts (map (adjacent_variant tag) (members_from k (suc n) qs)))
        (field-body (fields_beside Strict tag (k ∷ place n ∷ [], s)) (beside-fit Strict tag (k ∷ place n ∷ []) s (and_left (plain_struct d (rows_within d i) s) _ h))) (adjacent-parts tag k (suc n) qs (and_right (plain_struct d (rows_within d i) s) _ h))

  -- ---- all closed or all open

  closed-members : (k : Step) (n : ℕ) (qs : Schemas) → AllObjects (schema_list qs) → list_all is_closed (schema_list qs) ≡ true → list_all is_closed_member (members_from k n qs) ≡ true
  closed-members k n no_more o h = refl
  closed-members k n (schema s qs) o h = λ i'. (ap true_or_none o.0.closing ∙ and_left (is_closed s) _ h) i' && closed-members k (suc n) qs o.1 (and_right (is_closed s) _ h) i'

  open-members : (k : Step) (n : ℕ) (qs : Schemas) → AllObjects (schema_list qs) → list_all (λ s. not (is_closed s)) (schema_list qs) ≡ true → list_all (λ m. not (is_closed_member m)) (members_from k n qs) ≡ true
  open-members k n no_more o h = refl
  open-members k n (schema s qs) o h = λ i'. (ap (λ x. not (true_or_none x)) o.0.closing ∙ and_left (not (is_closed s)) _ h) i' && open-members k (suc n) qs o.1 (and_right (not (is_closed s)) _ h) i'

  -- ---- the tag alone

  required-all : (ss : List Schema) → list_all is_all_required (shapes_in ss) ≡ true → list_all (requires_all d outer) ss ≡ true
  required-all [] h = refl
  required-all (s ∷ ss) h = λ i'. and_left (requires_all d outer s) (list_all is_all_required (shapes_in ss)) h i' && required-all ss (and_right (requires_all d outer s) (list_all is_all_required (shapes_in ss)) h) i'

  not-tag-alone : (n tag : Name) (k : Step) (m : ℕ) (qs : Schemas) → AllObjects (schema_list qs) → list_all (λ s. is_name n (required_of (members_of s))) (schema_list qs) ≡ true
      → list_all (λ s. not (has_one_property d outer s)) (schema_list qs) ≡ true → list_all (λ x. not (has_tag_alone tag x)) (members_from k m qs) ≡ true
  not-tag-alone n tag k m no_more o h g = refl
  not-tag-alone n tag k m (schema s qs) o h g =
      λ i'. here (is_no_property (less_property tag (props_of (members_of s)))) refl i' && not-tag-alone n tag k (suc m) qs o.1 (and_right (is_name n (required_of (members_of s))) _ h) (and_right (not (has_one_property d outer s)) _ g) i'
    where
      here : (b : Bool) → is_no_property (less_property tag (props_of (members_of s))) ≡ b → not b ≡ true
      here false e = refl
      here true e = impossible (sym (ap not (tag-is-one tag (names_of (props_of (members_of s))) (only-tag tag (props_of (members_of s)) e) n
          (one-passes (λ x. is_name x (names_of (props_of (members_of s)))) n (required_of (members_of s)) o.0.within (and_left (is_name n (required_of (members_of s))) _ h)))) ∙ and_left (not (has_one_property d outer s)) _ g)

  module _ (s t : Schema) (qs : Schemas) where
    abbrev whole : Schemas
    whole = schema s (schema t qs)

    abbrev xs : List Schema
    xs = schema_list whole

    abbrev ms : List Member
    ms = members_from (codes "oneOf") 0 whole

    module _ (os : objects xs ≡ true) (n : Name) (tag : is_tag d outer xs n ≡ true) (flat : (list_all is_closed xs || list_all (λ m. not (is_closed m)) xs) ≡ true) (covered : is_uncovered d outer xs ≡ false) where
      ob : AllObjects xs
      ob = all-objects xs os

      needed : list_all (λ s. is_name n (required_of (members_of s))) xs ≡ true
      needed = and_left (list_all (requires d outer n) xs) _ tag

      shaped : all_some object_shape (schemas_of ms) ≡ Some (shapes_in xs)
      shaped = ap (all_some object_shape) (schemas-are (codes "oneOf") 0 whole) ∙ all-shapes xs ob

      each-unwalked : (k : Step) (m : ℕ) (qs : Schemas) → AllObjects (schema_list qs) → AllUnwalked (members_from k m qs)
      each-unwalked k m no_more o = tt
      each-unwalked k m (schema s qs) o = (o.0.unwalked, each-unwalked k (suc m) qs o.1)

      u : AllUnwalked ms
      u = each-unwalked (codes "oneOf") 0 whole ob

      unmixed : (some_closed ms && some_open ms) ≡ false
      unmixed = by (either (list_all is_closed xs) _ flat)
        where
          both : (a b : Bool) → a ≡ false → (a && b) ≡ false
          both true b h = impossible (sym h)
          both false b h = refl

          second : (a b : Bool) → b ≡ false → (a && b) ≡ false
          second true b h = h
          second false b h = refl

          by : (list_all is_closed xs ≡ true) ⊎ (list_all (λ m. not (is_closed m)) xs ≡ true) → (some_closed ms && some_open ms) ≡ false
          by (inl h) = second (some_closed ms) (some_open ms) (none-fails is_closed_member ms (closed-members (codes "oneOf") 0 whole ob h))
          by (inr h) = both (some_closed ms) (some_open ms) (any-none is_closed_member ms (open-members (codes "oneOf") 0 whole ob h))

      -- the last of four tests fails, as the others pass
      last-fails : (a b c e : Bool) → (a && (b && (c && e))) ≡ false → a ≡ true → b ≡ true → c ≡ true → e ≡ false
      last-fails true true true e h x y z = h
      last-fails false b c e h x y z = impossible x
      last-fails true false c e h x y z = impossible y
      last-fails true true false e h x y z = impossible z

      not-alone : (a : AdjacentShape) → adjacent_of (shapes_in xs) ≡ Some a → (not (some_closed ms) && list_any (has_tag_alone a.tag) ms) ≡ false
      not-alone a e = by (either (list_all is_closed xs) _ flat)
        where
          parts : (list_all is_all_required (shapes_in xs) ≡ true) × (is_some (option_and_then (adjacent_by (shapes_in xs)) (two_names (flat_map property_names (shapes_in xs)))) ≡ true)
          parts = if-some (list_all is_all_required (shapes_in xs)) (option_and_then (adjacent_by (shapes_in xs)) (two_names (flat_map property_names (shapes_in xs)))) (ap is_some e)

          two : are_two (flat_map (rows.property_names d outer) xs) ≡ true
          two = sym (ap are_two (all-names xs)) ∙ two-are (flat_map property_names (shapes_in xs)) (bind-some (adjacent_by (shapes_in xs)) (two_names (flat_map property_names (shapes_in xs))) parts.1)

          first-closed : (b c e : Bool) → b ≡ true → (not (b || c) && e) ≡ false
          first-closed true c e h = refl
          first-closed false c e h = impossible h

          second : (a b : Bool) → b ≡ false → (a && b) ≡ false
          second true b h = h
          second false b h = refl

          by : (list_all is_closed xs ≡ true) ⊎ (list_all (λ m. not (is_closed m)) xs ≡ true) → (not (some_closed ms) && list_any (has_tag_alone a.tag) ms) ≡ false
          by (inl h) = first-closed (true_or_none (closedness (members_of s))) _ _ (ap true_or_none ob.0.closing ∙ and_left (is_closed s) _ h)
          by (inr h) =
              second (not (some_closed ms)) (list_any (has_tag_alone a.tag) ms)
              (any-none (has_tag_alone a.tag) ms (not-tag-alone n a.tag (codes "oneOf") 0 whole ob needed
              (all-not (has_one_property d outer) xs
              (last-fails (list_all (λ m. not (is_closed m)) xs) (list_all (requires_all d outer) xs) (are_two (flat_map (rows.property_names d outer) xs)) (list_any (has_one_property d outer) xs) covered h (required-all xs parts.0) two))))

      internal-fits : (a : InternalShape) → Found (one_of_internal d ms (Some (shapes.internal_of d.setting ms a)))
      internal-fits a =
          finding-fits r d most false (suc i) (branching ms (noted (mixed_notes (shapes.internal_of d.setting ms a)) (internal_row (shapes.internal_of d.setting ms a))))
          (record { notes = ap (λ b. note_if b (here narrowed mixed_branches_note) ++ []) unmixed; patterns = refl; places = refl; faults = refl; listed = refl; unmerged = refl }) u
          (internal-parts ms u d.setting a.tag (codes "oneOf") 0 whole os)

      adjacent-fits : (a : AdjacentShape) → adjacent_of (shapes_in xs) ≡ Some a → Found (one_of_adjacent d ms (Some (shapes.adjacent_of ms a)))
      adjacent-fits a e =
          finding-fits r d most false (suc i) (branching ms (noted (mixed_notes (shapes.adjacent_of ms a)) (adjacent_row (shapes.adjacent_of ms a))))
          (record { notes = (λ j. note_if (unmixed j) (here narrowed mixed_branches_note) ++ note_if (not-alone a e j) (here narrowed tag_alone_note)); patterns = refl; places = refl; faults = refl; listed = refl; unmerged = refl }) u
          (adjacent-parts ms u a.tag (codes "oneOf") 0 whole os)

      by-internal : (x : Option InternalShape) → is_some x ≡ true → Found (one_of_internal d ms (option_map (shapes.internal_of d.setting ms) x))
      by-internal None h = impossible h
      by-internal (Some a) h = internal-fits a

      by-adjacent : (x : Option AdjacentShape) → adjacent_of (shapes_in xs) ≡ x → Found (one_of_adjacent d ms (option_map (shapes.adjacent_of ms) x))
      by-adjacent None e =
          by-internal (internal_shape (schemas_of ms))
          (ap (λ o. is_some (option_and_then internal_by o)) shaped ∙ has-tag n s (schema_list (schema t qs)) ob needed (and_right (list_all (requires d outer n) xs) _ tag))
      by-adjacent (Some a) e = adjacent-fits a e

      unlike-external : external_shape (schemas_of ms) ≡ None
      unlike-external =
          ap external_shape (schemas-are (codes "oneOf") 0 whole)
          ∙ no-external n s t (schema_list qs)
          (λ cs e. one-case (is_closed s) (required_of (members_of s)) (props_of (members_of s)) n (within-of s ob.0 (and_left (is_name n (required_of (members_of s))) _ needed)) cs (sym (object-cases r d most s ob.0) ∙ e))
          (λ cs e. one-case (is_closed t) (required_of (members_of t)) (props_of (members_of t)) n (within-of t ob.1.0 (and_left (is_name n (required_of (members_of t))) _ (and_right (is_name n (required_of (members_of s))) _ needed))) cs (sym (object-cases r d most t ob.1.0) ∙ e))
        where
          within-of : (x : Schema) → IsObject x → is_name n (required_of (members_of x)) ≡ true → is_name n (names_of (props_of (members_of x))) ≡ true
          within-of x o h = one-passes (λ m. is_name m (names_of (props_of (members_of x)))) n (required_of (members_of x)) o.within h

      pub tagged-fits : (name : List ℕ) → Found (one_of_finding d name ms)
      tagged-fits name =
          subst (λ o. Found (one_of_option d ms o)) (sym (no-option (codes "oneOf") 0 whole (all-weaker (plain_struct d (rows_within d i)) (λ x. not (is_null_schema x)) (λ x h. ap not (null-struct d (rows_within d i) x h)) xs os)))
          (subst (λ o. Found (one_of_external d ms (option_map (λ cs. external_rows ms) o))) (sym unlike-external)
          (subst (λ o. Found (one_of_adjacent d ms (option_map (shapes.adjacent_of ms) (option_and_then adjacent_of o)))) (sym shaped) (by-adjacent (adjacent_of (shapes_in xs)) refl)))

module _ (r : Relations) (d : Document) (most : ℕ) where
  abbrev objects_of : ℕ → List Schema → Bool
  objects_of j ss = list_all (rows_within d j).object ss

  abbrev tag_of : ℕ → List Schema → Bool
  tag_of j ss = list_any (is_tag d (rows_within d j) ss) (first_required d (rows_within d j) ss)

  abbrev flat_of : List Schema → Bool
  flat_of ss = list_all is_closed ss || list_all (λ m. not (is_closed m)) ss

  abbrev covered_of : ℕ → List Schema → Bool
  covered_of j ss = not (is_uncovered d (rows_within d j) ss)

  abbrev tests_of : ℕ → List Schema → Bool
  tests_of j ss = objects_of j ss && (tag_of j ss && (flat_of ss && covered_of j ss))

  pub row-tagged : (j : ℕ) (s : Schema) → plain_tagged d (rows_within d j) s ≡ true → Fits r d most false j s
  row-tagged j s h =
      choice-fits r d most j 2 (rows_within d j) s refl (and_left (nat_le 2 (length (one_of d (rows_within d j) s))) _ h)
      (λ name qs e. by j name qs (subst (λ ss. (nat_le 2 (length ss) && tests_of j ss) ≡ true) (sym e) h))
    where
      by : (j : ℕ) (name : List ℕ) (qs : Schemas) → (nat_le 2 (length (schema_list qs)) && tests_of j (schema_list qs)) ≡ true → FindingFits r d most false j (one_of_finding d name (members_from (codes "oneOf") 0 qs))
      by j name no_more h = impossible h
      by j name (schema s no_more) h = impossible h
      by zero name (schema s (schema t qs)) h =
          let ss : List Schema = s ∷ t ∷ schema_list qs in
          impossible (and_left (objects_of zero ss) (tag_of zero ss && (flat_of ss && covered_of zero ss)) (and_right (nat_le 2 (length ss)) (tests_of zero ss) h))
      by (suc i) name (schema s (schema t qs)) h =
          let ss : List Schema = s ∷ t ∷ schema_list qs in
          let a = and_right (nat_le 2 (length ss)) (tests_of (suc i) ss) h in
          let b = and_right (objects_of (suc i) ss) (tag_of (suc i) ss && (flat_of ss && covered_of (suc i) ss)) a in
          let c = and_right (tag_of (suc i) ss) (flat_of ss && covered_of (suc i) ss) b in
          let z = some-name (is_tag d (rows_within d (suc i)) ss) (first_required d (rows_within d (suc i)) ss) (and_left (tag_of (suc i) ss) (flat_of ss && covered_of (suc i) ss) b) in
          tagged-fits r d most i s t qs (and_left (objects_of (suc i) ss) (tag_of (suc i) ss && (flat_of ss && covered_of (suc i) ss)) a) z.0 z.1 (and_left (flat_of ss) (covered_of (suc i) ss) c)
          (not-false (is_uncovered d (rows_within d (suc i)) ss) (and_right (flat_of ss) (covered_of (suc i) ss) c)) name
