-- What enum_defs finds of members, as the proofs take it apart.
use Rattle.std.proofs.Common.{◌≡◌, ℕ, List, [], ◌∷◌, ◌++◌, map, flat_map, Bool, true, false, ◌&&◌, ◌||◌, not, Option, Some, None, is_none, option_map, option_and_then, refl, sym, ap, ◌∙◌, subst, true≢false, bytes_eq}
use Rattle.std.specs.Prelude.{if◌then◌else◌, find}
use Rattle.std.specs.List.{list_all, list_any}
use Rattle.std.proofs.lemmas.Slice.Eq.{bytes_eq-Decides}
use Rattle.json_value.specs.Value as value
use Rattle.json_value.specs.Value.{Value, null, number, fraction, text, list}
use Rattle.schema_defs.specs.declared.InstanceType.TheVariants.{Text, Object}
use Rattle.schema_defs.specs.declared.Setting.{Setting}
use Rattle.schema_defs.specs.Location.{Location}
use Rattle.schema_defs.specs.Schema.{Schema, boolean, object, Named, no_named, named, MaybeSchema, no_schema, the_schema, Properties, no_properties, property}
use Rattle.schema_defs.specs.Layer.{property_at, is_given}
use Rattle.model_defs.specs.Layer.{is_text}
use Rattle.enum_defs.specs.Words.{has_type, without_same, without_lists, is_bare, is_unruled, names_of, is_name, all_differ, all_some, first_some, as_text, props_of, required_of, given_schema}
use Rattle.enum_defs.specs.Shapes as enum
use Rattle.enum_defs.specs.Shapes.{Case, InternalCase, InternalShape, AdjacentShape, closed_by, closedness, members_of, shape_of, only_property, property_case, text_cases, texts_of, or_else, external_cases, all_cases, if_differ, constant_in, internal_case, tagged_by, is_all_required, is_required, property_names, is_constant, adjacent_case, two_names}
use Rattle.enum_defs.proofs.ObjectShapes.{given-name}
use Rattle.convert_defs.specs.Row.{VariantRow}
use Rattle.convert_defs.specs.Scalars.{texts_in}
use Rattle.convert_defs.specs.Shapes as shape
use Rattle.convert_defs.specs.Shapes.{Member, schemas_of, true_or_none, case_row, case_rows, external_rows, external_members, is_closed_member, TaggedShape, internal_of, internal_members, adjacent_of, adjacent_members}
use Rattle.convert_defs.proofs.Bare.{and_left, and_right, none-some, some-same, impossible, not_true}
use Rattle.convert_defs.proofs.PlacedShapes.{ObjectShape, shape_of_named, object_shape, are_distinct, unit_rows, listed_texts, text_case, lone_property, case_or, external_case, external_shape, tag_texts, is_tag, are_tags, some_closed, internal_variant, internal_with, are_all_required, adjacent_variant, has_tag_alone, adjacent_with}

regroup : (a f n t : Bool) → (a && (f && n && t)) ≡ (a && f && n && t)
regroup true f n t = refl
regroup false f n t = refl

-- ---- object shapes

abbrev pub placed : Location → enum.ObjectShape → ObjectShape
placed l o = record { place = l; closed = o.closed; props = props_of o.object; required_names = required_of o.object }

named-same : (l : Location) (ns : Named) → shape_of_named l ns ≡ option_map (placed l) (shape_of ns)
named-same l no_named = refl
named-same l (named props no_properties rest no_schema rules) = by (is_none rules.max_properties && is_none rules.min_properties && list_all (λ n. is_name n (names_of props)) rules.required) (closed_by rest)
  where
    by : (b : Bool) (o : Option Bool) → (if b then option_map (λ c. record { place = l; closed = c; props = props; required_names = rules.required }) o else None)
        ≡ option_map (placed l) (option_map (λ c. record { object = named props no_properties rest no_schema rules; closed = c }) (if b then o else None))
    by false o = refl
    by true None = refl
    by true (Some c) = refl
named-same l (named props (property k u us) rest names rules) = refl
named-same l (named props no_properties rest (the_schema u) rules) = refl

pub shape-same : (l : Location) (s : Schema) → object_shape (l, s) ≡ option_map (placed l) (enum.object_shape s)
shape-same l (boolean b) = refl
shape-same l (object p ss ls ns) =
    (λ i. if sym (regroup (has_type Object p.types && is_bare p ss) (is_none p.format) (is_none p.numbers) (is_none p.texts)) i && without_lists ls then named-same l ns i else None)
    ∙ by (has_type Object p.types && is_bare p ss && is_unruled p && without_lists ls)
  where
    by : (b : Bool) → (if b then option_map (placed l) (shape_of ns) else None) ≡ option_map (placed l) (if b then shape_of ns else None)
    by true = refl
    by false = refl

-- the shape of a member that has one
abbrev seen : Member → enum.ObjectShape
seen m = record { object = members_of m.1; closed = is_closed_member m }

abbrev pub whole : Member → ObjectShape
whole m = placed m.0 (seen m)

is-seen : (l : Location) (s : Schema) (o : enum.ObjectShape) → enum.object_shape s ≡ Some o → o ≡ seen (l, s)
is-seen l (boolean b) o e = none-some o e
is-seen l (object p ss ls ns) o e = by (has_type Object p.types && is_bare p ss && is_unruled p && without_lists ls) e
  where
    closed : (c : Option Bool) → closedness ns ≡ c → option_map (λ c. record { object = ns; closed = c }) c ≡ Some o → o ≡ record { object = ns; closed = true_or_none (closedness ns) }
    closed None f h = none-some o h
    closed (Some c) f h = sym (some-same (record { object = ns; closed = c }) o h) ∙ (λ i. record { object = ns; closed = true_or_none (sym f i) })

    by : (b : Bool) → (if b then shape_of ns else None) ≡ Some o → o ≡ record { object = ns; closed = true_or_none (closedness ns) }
    by true h = closed (closedness ns) refl h
    by false h = none-some o h

-- ---- all members have shapes

pub all-seen : (ms : List Member) (qs : List enum.ObjectShape) → all_some enum.object_shape (schemas_of ms) ≡ Some qs → (qs ≡ map seen ms) × (all_some object_shape ms ≡ Some (map whole ms))
all-seen [] qs e = (sym (some-same [] qs e), refl)
all-seen (m ∷ ms) qs e = by (enum.object_shape m.1) refl (all_some enum.object_shape (schemas_of ms)) refl e (all-seen ms)
  where
    by : (x : Option enum.ObjectShape) → enum.object_shape m.1 ≡ x → (y : Option (List enum.ObjectShape)) → all_some enum.object_shape (schemas_of ms) ≡ y
        → option_and_then (λ y. option_map (λ ys. y ∷ ys) (all_some enum.object_shape (schemas_of ms))) x ≡ Some qs
        → ((xs : List enum.ObjectShape) → all_some enum.object_shape (schemas_of ms) ≡ Some xs → (xs ≡ map seen ms) × (all_some object_shape ms ≡ Some (map whole ms)))
        → (qs ≡ map seen (m ∷ ms)) × (all_some object_shape (m ∷ ms) ≡ Some (map whole (m ∷ ms)))
    by None f y g h rec = none-some qs h
    by (Some q) f None g h rec = none-some qs (ap (option_map (λ ys. q ∷ ys)) (sym g) ∙ h)
    by (Some q) f (Some xs) g h rec =
        let a = rec xs g in
        let b = is-seen m.0 m.1 q f in
        let c = shape-same m.0 m.1 ∙ ap (option_map (placed m.0)) (f ∙ ap Some b) in (
          sym (some-same (q ∷ xs) qs (ap (option_map (λ ys. q ∷ ys)) (sym g) ∙ h)) ∙ (λ i. b i ∷ a.0 i),
          (λ i. option_and_then (λ y. option_map (λ ys. y ∷ ys) (a.1 i)) (c i)),
        )

-- ---- external

listed-same : (c : Option Value) (e : Option (List Value)) → listed_texts c e ≡ enum.listed_texts c e
listed-same None None = refl
listed-same None (Some vs) = all-texts vs
  where
    then-more : (s : List ℕ) (b : Bool) (ts : List (List ℕ)) → (if b then Some (s ∷ ts) else None) ≡ option_map (λ ys. s ∷ ys) (if b then Some ts else None)
    then-more s true ts = refl
    then-more s false ts = refl

    all-texts : (vs : List Value) → (if list_all is_text vs then Some (texts_in vs) else None) ≡ all_some as_text vs
    all-texts [] = refl
    all-texts (text s ∷ vs) = then-more s (list_all is_text vs) (texts_in vs) ∙ ap (option_map (λ ys. s ∷ ys)) (all-texts vs)
    all-texts (null ∷ vs) = refl
    all-texts (value.boolean b ∷ vs) = refl
    all-texts (number z ∷ vs) = refl
    all-texts (fraction ∷ vs) = refl
    all-texts (list xs ∷ vs) = refl
    all-texts (value.object ms ∷ vs) = refl
listed-same (Some null) None = refl
listed-same (Some (value.boolean b)) None = refl
listed-same (Some (number z)) None = refl
listed-same (Some fraction) None = refl
listed-same (Some (text s)) None = refl
listed-same (Some (list xs)) None = refl
listed-same (Some (value.object ms)) None = refl
listed-same (Some null) (Some vs) = refl
listed-same (Some (value.boolean b)) (Some vs) = refl
listed-same (Some (number z)) (Some vs) = refl
listed-same (Some fraction) (Some vs) = refl
listed-same (Some (text s)) (Some vs) = refl
listed-same (Some (list xs)) (Some vs) = refl
listed-same (Some (value.object ms)) (Some vs) = refl

units-same : (l : Location) (ts : List (List ℕ)) → unit_rows ts ≡ map (case_row l) (map enum.text_case ts)
units-same l [] = refl
units-same l (t ∷ ts) = ap (λ ws. case_row l (enum.text_case t) ∷ ws) (units-same l ts)

pub text-same : (l : Location) (s : Schema) → text_case s ≡ option_map (map (case_row l)) (text_cases s)
text-same l (boolean b) = refl
text-same l (object p ss ls ns) =
    (λ i. if (is_none p.types || has_type Text p.types) && is_none p.format && is_none p.reference && without_same ss then option_map unit_rows (listed-same p.const_value p.enum_values i) else None)
    ∙ by ((is_none p.types || has_type Text p.types) && is_none p.format && is_none p.reference && without_same ss) (enum.listed_texts p.const_value p.enum_values)
  where
    by : (b : Bool) (o : Option (List (List ℕ))) → (if b then option_map unit_rows o else None) ≡ option_map (map (case_row l)) (if b then option_map (map enum.text_case) o else None)
    by true None = refl
    by true (Some ts) = ap Some (units-same l ts)
    by false o = refl

property-same : (l : Location) (c : Bool) (req : List (List ℕ)) (ps : Properties) → lone_property l req ps ≡ option_map (map (case_row l)) (only_property c req ps)
property-same l c req no_properties = refl
property-same l c req (property k s no_properties) = by (is_name k req)
  where
    by : (b : Bool) → (if b then Some (case_row l (record { name = k; content = Some s; closed = c }) ∷ []) else None) ≡ option_map (map (case_row l)) (if b then Some (record { name = k; content = Some s; closed = c } ∷ []) else None)
    by true = refl
    by false = refl
property-same l c req (property k s (property m t ps)) = refl

case-same : (m : Member) → external_case m ≡ option_map (map (case_row m.0)) (external_cases m.1)
case-same m = (λ i. case_or (text-same m.0 m.1 i) (shape-same m.0 m.1 i)) ∙ by (text_cases m.1) (enum.object_shape m.1)
  where
    by : (o : Option (List Case)) (x : Option enum.ObjectShape) → case_or (option_map (map (case_row m.0)) o) (option_map (placed m.0) x) ≡ option_map (map (case_row m.0)) (or_else o (option_and_then property_case x))
    by (Some cs) x = refl
    by None None = refl
    by None (Some o) = property-same m.0 o.closed (required_of o.object) (props_of o.object)

names-both : (l : Location) (ds : List Case) (ws : List VariantRow) (cs : List Case) → map (λ w. w.name) ws ≡ map (λ c. c.name) cs → map (λ w. w.name) (map (case_row l) ds ++ ws) ≡ map (λ c. c.name) (ds ++ cs)
names-both l [] ws cs h = h
names-both l (d ∷ ds) ws cs h = ap (λ ns. d.name ∷ ns) (names-both l ds ws cs h)

-- the rows of the members, and their names
record Rowed (ms : List Member) (cs : List Case) : Type 0 where
  rows : List (List VariantRow)
  given : all_some external_case ms ≡ Some rows
  all : flat_map (λ ws. ws) rows ≡ external_rows ms
  named : map (λ w. w.name) (flat_map (λ ws. ws) rows) ≡ map (λ c. c.name) cs

all-rowed : (ms : List Member) (cs : List Case) → all_cases (schemas_of ms) ≡ Some cs → Rowed ms cs
all-rowed [] cs e = subst (Rowed []) (some-same [] cs e) (record { rows = []; given = refl; all = refl; named = refl })
all-rowed (m ∷ ms) cs e = by (external_cases m.1) refl (all_cases (schemas_of ms)) refl e (all-rowed ms)
  where
    by : (x : Option (List Case)) → external_cases m.1 ≡ x → (y : Option (List Case)) → all_cases (schemas_of ms) ≡ y → option_and_then (λ cs. option_map (λ others. cs ++ others) (all_cases (schemas_of ms))) x ≡ Some cs
        → ((ds : List Case) → all_cases (schemas_of ms) ≡ Some ds → Rowed ms ds) → Rowed (m ∷ ms) cs
    by None f y g h rec = none-some cs h
    by (Some ds) f None g h rec = none-some cs (ap (option_map (λ others. ds ++ others)) (sym g) ∙ h)
    by (Some ds) f (Some es) g h rec =
        let a = rec es g in
        let c = case-same m ∙ ap (option_map (map (case_row m.0))) f in
        subst (Rowed (m ∷ ms)) (some-same (ds ++ es) cs (ap (option_map (λ others. ds ++ others)) (sym g) ∙ h)) (record {
          rows = map (case_row m.0) ds ∷ a.rows;
          given = λ i. option_and_then (λ y. option_map (λ ys. y ∷ ys) (a.given i)) (c i);
          all = λ i. case_rows m.0 (sym f i) ++ a.all i;
          named = names-both m.0 ds (flat_map (λ ws. ws) a.rows) es a.named;
        })

pub external-found : (ms : List Member) (ws : List VariantRow) → external_members ms ≡ Some ws → external_shape ms ≡ Some ws
external-found ms ws e = by (all_cases (schemas_of ms)) refl e
  where
    by : (x : Option (List Case)) → all_cases (schemas_of ms) ≡ x → option_map (λ cs. external_rows ms) (option_and_then (if_differ (λ c. c.name)) x) ≡ Some ws → external_shape ms ≡ Some ws
    by None f h = none-some ws h
    by (Some cs) f h = tested (all_differ (map (λ c. c.name) cs)) refl h
      where
        a : Rowed ms cs
        a = all-rowed ms cs f

        tested : (b : Bool) → all_differ (map (λ c. c.name) cs) ≡ b → option_map (λ cs. external_rows ms) (if b then Some cs else None) ≡ Some ws → external_shape ms ≡ Some ws
        tested false g k = none-some ws k
        tested true g k =
            ap (option_and_then (λ wss. if are_distinct (map (λ w. w.name) (flat_map (λ ws. ws) wss)) then Some (flat_map (λ ws. ws) wss) else None)) a.given
            ∙ (λ i. if (ap all_differ a.named ∙ g) i then Some ((a.all ∙ some-same (external_rows ms) ws k) i) else None)

-- ---- tags

some-closed : (ms : List Member) → some_closed (map whole ms) ≡ shape.some_closed ms
some-closed [] = refl
some-closed (m ∷ ms) = ap (λ b. is_closed_member m || b) (some-closed ms)

some-open : (ms : List Member) → list_any (λ o. not o.closed) (map whole ms) ≡ shape.some_open ms
some-open [] = refl
some-open (m ∷ ms) = ap (λ b. not (is_closed_member m) || b) (some-open ms)

some-alone : (tag : List ℕ) (ms : List Member) → list_any (has_tag_alone tag) (map whole ms) ≡ list_any (shape.has_tag_alone tag) ms
some-alone tag [] = refl
some-alone tag (m ∷ ms) = ap (λ b. shape.has_tag_alone tag m || b) (some-alone tag ms)

internal-variants : (st : Setting) (tag : List ℕ) (ms : List Member) → map (internal_variant st tag) (map whole ms) ≡ map (shape.internal_variant st tag) ms
internal-variants st tag [] = refl
internal-variants st tag (m ∷ ms) = ap (λ ws. shape.internal_variant st tag m ∷ ws) (internal-variants st tag ms)

adjacent-variants : (tag : List ℕ) (ms : List Member) → map (adjacent_variant tag) (map whole ms) ≡ map (shape.adjacent_variant tag) ms
adjacent-variants tag [] = refl
adjacent-variants tag (m ∷ ms) = ap (λ ws. shape.adjacent_variant tag m ∷ ws) (adjacent-variants tag ms)

-- the texts of the tag are the names of the cases, and all members require it
record Tags (n : List ℕ) (ms : List Member) (names : List (List ℕ)) : Type 0 where
  texts : tag_texts (map whole ms) n ≡ Some names
  needed : list_all (λ o. is_name n o.required_names) (map whole ms) ≡ true

tag-of : (n : List ℕ) (ms : List Member) (names : List (List ℕ)) → Tags n ms names → all_differ names ≡ true → is_tag (map whole ms) n ≡ true
tag-of n ms names t h = ap (are_tags n (map whole ms)) t.texts ∙ (λ i. h i && t.needed i)

internal-tags : (n : List ℕ) (ms : List Member) (cs : List InternalCase) → all_some (internal_case n) (map seen ms) ≡ Some cs → Tags n ms (map (λ c. c.name) cs)
internal-tags n [] cs e = subst (λ xs. Tags n [] (map (λ c. c.name) xs)) (some-same [] cs e) (record { texts = refl; needed = refl })
internal-tags n (m ∷ ms) cs e = by (is_required n (seen m)) refl (enum.constant_at n (seen m)) refl (all_some (internal_case n) (map seen ms)) refl e (internal-tags n ms)
  where
    by : (q : Bool) → is_required n (seen m) ≡ q → (x : Option (List ℕ)) → enum.constant_at n (seen m) ≡ x → (y : Option (List InternalCase)) → all_some (internal_case n) (map seen ms) ≡ y
        → option_and_then (λ y. option_map (λ ys. y ∷ ys) (all_some (internal_case n) (map seen ms))) (if q then option_map (λ t. record { name = t; object = members_of m.1; closed = is_closed_member m }) x else None) ≡ Some cs
        → ((ds : List InternalCase) → all_some (internal_case n) (map seen ms) ≡ Some ds → Tags n ms (map (λ c. c.name) ds)) → Tags n (m ∷ ms) (map (λ c. c.name) cs)
    by false p x f y g h rec = none-some cs h
    by true p None f y g h rec = none-some cs h
    by true p (Some t) f None g h rec = none-some cs (ap (option_map (λ ys. record { name = t; object = members_of m.1; closed = is_closed_member m } ∷ ys)) (sym g) ∙ h)
    by true p (Some t) f (Some ds) g h rec =
        let a = rec ds g in
        subst (λ xs. Tags n (m ∷ ms) (map (λ c. c.name) xs)) (some-same (record { name = t; object = members_of m.1; closed = is_closed_member m } ∷ ds) cs (ap (option_map (λ ys. record { name = t; object = members_of m.1; closed = is_closed_member m } ∷ ys)) (sym g) ∙ h))
        (record { texts = λ i. option_and_then (λ y. option_map (λ ys. y ∷ ys) (a.texts i)) (f i); needed = λ i. p i && a.needed i })

-- ---- internal

abbrev or_first : {B : Type 0} → Option B → Option B → Option B
or_first rest None = rest
or_first rest (Some y) = Some y

first-found : (f : List ℕ → Option InternalShape) (ns : List (List ℕ)) (s : InternalShape) → first_some f ns ≡ Some s → (n : List ℕ) × (f n ≡ Some s)
first-found f [] s e = none-some s e
first-found f (n ∷ ns) s e = by (f n) refl e (first-found f ns s)
  where
    by : (o : Option InternalShape) → f n ≡ o → or_first (first_some f ns) o ≡ Some s → (first_some f ns ≡ Some s → (m : List ℕ) × (f m ≡ Some s)) → (m : List ℕ) × (f m ≡ Some s)
    by None g h rec = rec h
    by (Some x) g h rec = (n, g ∙ h)

-- what is found of internal members
pub record InternalFound (st : Setting) (ms : List Member) (t : TaggedShape) : Type 0 where
  pub tag : List ℕ
  pub shapes : all_some object_shape ms ≡ Some (map whole ms)
  pub is_one : is_tag (map whole ms) tag ≡ true
  pub made : t ≡ internal_with st (map whole ms) tag

pub internal-found : (st : Setting) (ms : List Member) (t : TaggedShape) → internal_members st ms ≡ Some t → InternalFound st ms t
internal-found st ms t e = by (all_some enum.object_shape (schemas_of ms)) refl e
  where
    tagged : (n : List ℕ) (s : InternalShape) → all_some object_shape ms ≡ Some (map whole ms) → tagged_by (map seen ms) n ≡ Some s → internal_of st ms s ≡ t → InternalFound st ms t
    tagged n s w h k = cases (all_some (internal_case n) (map seen ms)) refl h
      where
        cases : (x : Option (List InternalCase)) → all_some (internal_case n) (map seen ms) ≡ x → option_map (λ cs. record { tag = n; cases = cs }) (option_and_then (if_differ (λ c. c.name)) x) ≡ Some s → InternalFound st ms t
        cases None f g = none-some s g
        cases (Some cs) f g = tested (all_differ (map (λ c. c.name) cs)) refl g
          where
            tested : (b : Bool) → all_differ (map (λ c. c.name) cs) ≡ b → option_map (λ cs. record { tag = n; cases = cs }) (if b then Some cs else None) ≡ Some s → InternalFound st ms t
            tested false z g = none-some s g
            tested true z g = record {
              tag = n;
              shapes = w;
              is_one = tag-of n ms (map (λ c. c.name) cs) (internal-tags n ms cs f) z;
              made = sym k ∙ ap (internal_of st ms) (sym (some-same (record { tag = n; cases = cs }) s g))
                  ∙ (λ i. record { tag = n; content = []; closed = sym (some-closed ms) i; mixed = sym (some-closed ms) i && sym (some-open ms) i; alone = false; variants = sym (internal-variants st n ms) i });
            }

    by : (x : Option (List enum.ObjectShape)) → all_some enum.object_shape (schemas_of ms) ≡ x → option_map (internal_of st ms) (option_and_then enum.internal_by x) ≡ Some t → InternalFound st ms t
    by None f h = none-some t h
    by (Some qs) f h = found (enum.internal_by (map seen ms)) refl (ap (λ xs. option_map (internal_of st ms) (enum.internal_by xs)) (sym a.0) ∙ h)
      where
        a : (qs ≡ map seen ms) × (all_some object_shape ms ≡ Some (map whole ms))
        a = all-seen ms qs f

        found : (o : Option InternalShape) → enum.internal_by (map seen ms) ≡ o → option_map (internal_of st ms) o ≡ Some t → InternalFound st ms t
        found None g k = none-some t k
        found (Some s) g k = let n = first-found (tagged_by (map seen ms)) (enum.first_names (map seen ms)) s g in tagged n.0 s a.1 n.1 (some-same (internal_of st ms s) t k)

-- ---- adjacent

-- each name of a list with two names is one of them, and they differ
record Two (ns : List (List ℕ)) (a b : List ℕ) : Type 0 where
  differ : bytes_eq b a ≡ false
  among : (n : List ℕ) → is_name n ns ≡ true → (bytes_eq n a || bytes_eq n b) ≡ true

find-passes : (p : List ℕ → Bool) (ns : List (List ℕ)) (n : List ℕ) → find p ns ≡ Some n → p n ≡ true
find-passes p [] n e = none-some n e
find-passes p (x ∷ ns) n e = by (p x) refl e (find-passes p ns n)
  where
    by : (b : Bool) → p x ≡ b → (if b then Some x else find p ns) ≡ Some n → (find p ns ≡ Some n → p n ≡ true) → p n ≡ true
    by true f h rec = ap p (sym (some-same x n h)) ∙ f
    by false f h rec = rec h

itself : (n : List ℕ) → bytes_eq n n ≡ true
itself n = (bytes_eq-Decides n n).1 refl

one-of : (f : List ℕ → Bool) (ns : List (List ℕ)) → list_all f ns ≡ true → (n : List ℕ) → is_name n ns ≡ true → f n ≡ true
one-of f [] h n g = impossible g
one-of f (m ∷ ns) h n g = by (bytes_eq n m) refl g (one-of f ns (and_right (f m) _ h) n)
  where
    by : (b : Bool) → bytes_eq n m ≡ b → (b || is_name n ns) ≡ true → (is_name n ns ≡ true → f n ≡ true) → f n ≡ true
    by true e g k = ap f ((bytes_eq-Decides n m).0 e) ∙ and_left _ _ h
    by false e g k = k g

two-found : (ns : List (List ℕ)) (two : List ℕ × List ℕ) → two_names ns ≡ Some two → Two ns two.0 two.1
two-found [] two e = none-some two e
two-found (a ∷ ns) two e = by (find (λ n. not (bytes_eq n a)) ns) refl e
  where
    first : (b n : List ℕ) → list_all (λ n. bytes_eq n a || bytes_eq n b) ns ≡ true → (c : Bool) → bytes_eq n a ≡ c → (c || is_name n ns) ≡ true → (bytes_eq n a || bytes_eq n b) ≡ true
    first b n h true f g = ap (λ c. c || bytes_eq n b) f
    first b n h false f g = one-of (λ n. bytes_eq n a || bytes_eq n b) ns h n g

    by : (x : Option (List ℕ)) → find (λ n. not (bytes_eq n a)) ns ≡ x → option_and_then (λ b. if list_all (λ n. bytes_eq n a || bytes_eq n b) ns then Some (a, b) else None) x ≡ Some two → Two (a ∷ ns) two.0 two.1
    by None f h = none-some two h
    by (Some b) f h = tested (list_all (λ n. bytes_eq n a || bytes_eq n b) ns) refl h
      where
        tested : (c : Bool) → list_all (λ n. bytes_eq n a || bytes_eq n b) ns ≡ c → (if c then Some (a, b) else None) ≡ Some two → Two (a ∷ ns) two.0 two.1
        tested false g k = none-some two k
        tested true g k = subst (λ t. Two (a ∷ ns) t.0 t.1) (some-same (a, b) two k) (record { differ = not_true (bytes_eq b a) (find-passes (λ n. not (bytes_eq n a)) ns b f); among = λ n i. first b n g (bytes_eq n a) refl i })

turned : (a b : List ℕ) → bytes_eq b a ≡ false → bytes_eq a b ≡ false
turned a b h = by (bytes_eq a b) refl
  where
    by : (c : Bool) → bytes_eq a b ≡ c → c ≡ false
    by true x = absurd (true≢false (sym ((bytes_eq-Decides b a).1 (sym ((bytes_eq-Decides a b).0 x))) ∙ h))
    by false x = refl

swapped : (a b : Bool) → (a || b) ≡ true → (b || a) ≡ true
swapped true true h = refl
swapped true false h = refl
swapped false true h = refl
swapped false false h = impossible h

other-way : (ns : List (List ℕ)) (a b : List ℕ) → Two ns a b → Two ns b a
other-way ns a b t = record { differ = turned a b t.differ; among = λ n i. swapped (bytes_eq n a) (bytes_eq n b) (t.among n i) }

-- a property that is a constant text stands, so it is required
constant-needed : (n t : List ℕ) (m : Member) → is_all_required (seen m) ≡ true → enum.constant_at n (seen m) ≡ Some t → is_required n (seen m) ≡ true
constant-needed n t m h e = one-of (λ k. is_required k (seen m)) (property_names (seen m)) h n (sym (given-name n (props_of (members_of m.1))) ∙ there (property_at n (props_of (members_of m.1))) e)
  where
    there : (x : MaybeSchema) → constant_in x ≡ Some t → is_given x ≡ true
    there no_schema e = none-some t e
    there (the_schema u) e = refl

adjacent-tags : (tag content : List ℕ) (ms : List Member) (cs : List Case) → list_all is_all_required (map seen ms) ≡ true → all_some (adjacent_case tag content) (map seen ms) ≡ Some cs → Tags tag ms (map (λ c. c.name) cs)
adjacent-tags tag content [] cs q e = subst (λ xs. Tags tag [] (map (λ c. c.name) xs)) (some-same [] cs e) (record { texts = refl; needed = refl })
adjacent-tags tag content (m ∷ ms) cs q e = by (enum.constant_at tag (seen m)) refl (all_some (adjacent_case tag content) (map seen ms)) refl e (λ ds. adjacent-tags tag content ms ds (and_right (is_all_required (seen m)) _ q))
  where
    case_of : List ℕ → Case
    case_of t = record { name = t; content = given_schema (property_at content (props_of (members_of m.1))); closed = is_closed_member m }

    by : (x : Option (List ℕ)) → enum.constant_at tag (seen m) ≡ x → (y : Option (List Case)) → all_some (adjacent_case tag content) (map seen ms) ≡ y
        → option_and_then (λ y. option_map (λ ys. y ∷ ys) (all_some (adjacent_case tag content) (map seen ms))) (option_map case_of x) ≡ Some cs
        → ((ds : List Case) → all_some (adjacent_case tag content) (map seen ms) ≡ Some ds → Tags tag ms (map (λ c. c.name) ds)) → Tags tag (m ∷ ms) (map (λ c. c.name) cs)
    by None f y g h rec = none-some cs h
    by (Some t) f None g h rec = none-some cs (ap (option_map (λ ys. case_of t ∷ ys)) (sym g) ∙ h)
    by (Some t) f (Some ds) g h rec =
        let a = rec ds g in
        subst (λ xs. Tags tag (m ∷ ms) (map (λ c. c.name) xs)) (some-same (case_of t ∷ ds) cs (ap (option_map (λ ys. case_of t ∷ ys)) (sym g) ∙ h))
        (record { texts = λ i. option_and_then (λ y. option_map (λ ys. y ∷ ys) (a.texts i)) (f i); needed = λ i. constant-needed tag t m (and_left _ _ q) f i && a.needed i })

-- what is found of adjacent members
pub record AdjacentFound (ms : List Member) (t : TaggedShape) : Type 0 where
  pub tag : List ℕ
  pub content : List ℕ
  pub shapes : all_some object_shape ms ≡ Some (map whole ms)
  pub all_needed : list_all are_all_required (map whole ms) ≡ true
  pub differ : bytes_eq content tag ≡ false
  pub among : (n : List ℕ) → is_name n (flat_map (λ o. names_of o.props) (map whole ms)) ≡ true → (bytes_eq n tag || bytes_eq n content) ≡ true
  pub is_one : is_tag (map whole ms) tag ≡ true
  pub made : t ≡ adjacent_with (map whole ms) tag content

same-needed : (ms : List Member) → list_all are_all_required (map whole ms) ≡ list_all is_all_required (map seen ms)
same-needed [] = refl
same-needed (m ∷ ms) = ap (λ b. is_all_required (seen m) && b) (same-needed ms)

same-names : (ms : List Member) → flat_map (λ o. names_of o.props) (map whole ms) ≡ flat_map property_names (map seen ms)
same-names [] = refl
same-names (m ∷ ms) = ap (λ ns. property_names (seen m) ++ ns) (same-names ms)

pub adjacent-found : (ms : List Member) (t : TaggedShape) → adjacent_members ms ≡ Some t → AdjacentFound ms t
adjacent-found ms t e = by (all_some enum.object_shape (schemas_of ms)) refl e
  where
    qs : List enum.ObjectShape
    qs = map seen ms

    tagged : (tag content : List ℕ) (s : AdjacentShape) → all_some object_shape ms ≡ Some (map whole ms) → list_all is_all_required qs ≡ true → Two (flat_map property_names qs) tag content → enum.adjacent_with qs tag content ≡ Some s → adjacent_of ms s ≡ t → AdjacentFound ms t
    tagged tag content s w q two h k = constant (is_constant qs content) h
      where
        cases : (x : Option (List Case)) → all_some (adjacent_case tag content) qs ≡ x → option_map (λ cs. record { tag = tag; content = content; cases = cs }) (option_and_then (if_differ (λ c. c.name)) x) ≡ Some s → AdjacentFound ms t
        cases None f g = none-some s g
        cases (Some cs) f g = tested (all_differ (map (λ c. c.name) cs)) refl g
          where
            tested : (b : Bool) → all_differ (map (λ c. c.name) cs) ≡ b → option_map (λ cs. record { tag = tag; content = content; cases = cs }) (if b then Some cs else None) ≡ Some s → AdjacentFound ms t
            tested false z g = none-some s g
            tested true z g = record {
              tag = tag;
              content = content;
              shapes = w;
              all_needed = same-needed ms ∙ q;
              differ = two.differ;
              among = λ n i. two.among n (ap (is_name n) (sym (same-names ms)) ∙ i);
              is_one = tag-of tag ms (map (λ c. c.name) cs) (adjacent-tags tag content ms cs q f) z;
              made = sym k ∙ ap (adjacent_of ms) (sym (some-same (record { tag = tag; content = content; cases = cs }) s g))
                  ∙ (λ i. record { tag = tag; content = content; closed = sym (some-closed ms) i; mixed = sym (some-closed ms) i && sym (some-open ms) i; alone = not (sym (some-closed ms) i) && sym (some-alone tag ms) i; variants = sym (adjacent-variants tag ms) i });
            }

        constant : (b : Bool) → (if b then None else option_map (λ cs. record { tag = tag; content = content; cases = cs }) (option_and_then (if_differ (λ c. c.name)) (all_some (adjacent_case tag content) qs))) ≡ Some s → AdjacentFound ms t
        constant true h = none-some s h
        constant false h = cases (all_some (adjacent_case tag content) qs) refl h

    by : (x : Option (List enum.ObjectShape)) → all_some enum.object_shape (schemas_of ms) ≡ x → option_map (adjacent_of ms) (option_and_then enum.adjacent_of x) ≡ Some t → AdjacentFound ms t
    by None f h = none-some t h
    by (Some xs) f h = needed (list_all is_all_required qs) refl (ap (λ zs. option_map (adjacent_of ms) (enum.adjacent_of zs)) (sym a.0) ∙ h)
      where
        a : (xs ≡ map seen ms) × (all_some object_shape ms ≡ Some (map whole ms))
        a = all-seen ms xs f

        either : (two : List ℕ × List ℕ) → list_all is_all_required qs ≡ true → Two (flat_map property_names qs) two.0 two.1 → (x : Option AdjacentShape) → enum.adjacent_with qs two.0 two.1 ≡ x → (y : Option AdjacentShape) → enum.adjacent_with qs two.1 two.0 ≡ y
            → option_map (adjacent_of ms) (or_else x y) ≡ Some t → AdjacentFound ms t
        either two q z (Some s) u y v k = tagged two.0 two.1 s a.1 q z u (some-same (adjacent_of ms s) t k)
        either two q z None u (Some s) v k = tagged two.1 two.0 s a.1 q (other-way (flat_map property_names qs) two.0 two.1 z) v (some-same (adjacent_of ms s) t k)
        either two q z None u None v k = none-some t k

        pairs : (x : Option (List ℕ × List ℕ)) → two_names (flat_map property_names qs) ≡ x → list_all is_all_required qs ≡ true → option_map (adjacent_of ms) (option_and_then (enum.adjacent_by qs) x) ≡ Some t → AdjacentFound ms t
        pairs None g q k = none-some t k
        pairs (Some two) g q k = either two q (two-found (flat_map property_names qs) two g) (enum.adjacent_with qs two.0 two.1) refl (enum.adjacent_with qs two.1 two.0) refl k

        needed : (b : Bool) → list_all is_all_required qs ≡ b → option_map (adjacent_of ms) (if b then option_and_then (enum.adjacent_by qs) (two_names (flat_map property_names qs)) else None) ≡ Some t → AdjacentFound ms t
        needed false g k = none-some t k
        needed true g k = pairs (two_names (flat_map property_names qs)) refl g k
