-- The variants of each member by itself are those of all, where all have the external shape.
use Rattle.std.proofs.Common.{◌≡◌, ℕ, List, [], ◌∷◌, ◌++◌, map, filter, Bool, true, false, ◌&&◌, ◌||◌, not, cond, Option, Some, None, is_some, is_none, option_map, option_and_then, append-nil, refl, sym, ap, ◌∙◌, true≢false}
use Rattle.std.specs.Prelude.{if◌then◌else◌, flat_map}
use Rattle.std.specs.List.{list_any}
use Rattle.std.proofs.lemmas.List.{map-append}
use Rattle.std.proofs.lemmas.List.Folds.{list_any-append}
use Rattle.schema_defs.specs.Schema.{Schema, boolean, object, Plain}
use Rattle.enum_defs.specs.Words.{Name, is_name, all_differ, is_unruled}
use Rattle.enum_defs.specs.Shapes.{Case, ObjectShape, external_shape, all_cases, external_cases, if_differ, text_cases, or_else, property_case, object_shape, is_object_alone, shape_of, members_of}
use Rattle.convert_defs.specs.Row.{VariantRow, Note}
use Rattle.schema_defs.specs.Location.{Location}
use Rattle.convert_defs.specs.Shapes.{Member, schemas_of, case_row, case_rows, external_rows, external_members}
use Rattle.convert_defs.specs.Table.{is_ruled_text, text_branches, has_text_keywords}
use Rattle.member_rows.specs.Members.{own_rows, ruled_note, ruled_branches}

none-some : {A : Type 0} {x : A} → None ≡ Some x → ⊥
none-some h = cc

and_left : (a b : Bool) → (a && b) ≡ true → a ≡ true
and_left true b h = refl
and_left false b h = h

and_right : (a b : Bool) → (a && b) ≡ true → b ≡ true
and_right true b h = h
and_right false b h = absurd (true≢false (sym h))

or_left : (a b : Bool) → (a || b) ≡ false → a ≡ false
or_left true b h = h
or_left false b h = refl

not_true : (b : Bool) → not b ≡ true → b ≡ false
not_true true h = absurd (true≢false (sym h))
not_true false h = refl

none-after : {A : Type 0} (xs : List A) → xs ++ [] ≡ xs
none-after [] = refl
none-after (x ∷ xs) = ap (λ ys. x ∷ ys) (none-after xs)

-- ---- names that differ

differ-front : (xs ys : List Name) → all_differ (xs ++ ys) ≡ true → all_differ xs ≡ true
differ-front [] ys h = refl
differ-front (n ∷ xs) ys h = λ i. not (fresh i) && differ-front xs ys (and_right (not (is_name n (xs ++ ys))) _ h) i
  where
    fresh : is_name n xs ≡ false
    fresh = or_left (is_name n xs) (is_name n ys) (sym (list_any-append _ xs ys) ∙ not_true (is_name n (xs ++ ys)) (and_left _ _ h))

differ-back : (xs ys : List Name) → all_differ (xs ++ ys) ≡ true → all_differ ys ≡ true
differ-back [] ys h = h
differ-back (n ∷ xs) ys h = differ-back xs ys (and_right (not (is_name n (xs ++ ys))) _ h)

abbrev named : List Case → List Name
named cs = map (λ c. c.name) cs

-- what a shape is told of
told : (o : Option (List Case)) (cs : List Case) → option_and_then (if_differ (λ c. c.name)) o ≡ Some cs → (ds : List Case) × (o ≡ Some ds) × (all_differ (named ds) ≡ true)
told None cs h = absurd (none-some h)
told (Some ds) cs h = by (all_differ (named ds)) refl h
  where
    by : (b : Bool) → all_differ (named ds) ≡ b → (if b then Some ds else None) ≡ Some cs → (es : List Case) × (Some ds ≡ Some es) × (all_differ (named es) ≡ true)
    by true q k = (ds, refl, q)
    by false q k = absurd (none-some k)

-- ---- a member by itself

one-shape : (s : Schema) (cs : List Case) → external_cases s ≡ Some cs → all_differ (named cs) ≡ true → external_shape (s ∷ []) ≡ Some cs
one-shape s cs h d =
    ap (λ o. option_and_then (if_differ (λ c. c.name)) (option_and_then (λ xs. option_map (λ others. xs ++ others) (Some [])) o)) h
    ∙ ap (if_differ (λ c. c.name)) (none-after cs)
    ∙ (λ i. if d i then Some cs else None)

pub own_told : (l : Location) (s : Schema) (before after : List VariantRow) (cs : List Case) → after ≡ before ++ map (case_row l) cs → Some cs ≡ external_shape (s ∷ []) → after ≡ before ++ case_rows l (external_shape (s ∷ []))
own_told l s before after cs e h = e ∙ ap (λ o. before ++ case_rows l o) h

pub own_none : (l : Location) (s : Schema) (before : List VariantRow) → None ≡ external_shape (s ∷ []) → before ≡ before ++ case_rows l (external_shape (s ∷ []))
own_none l s before h = sym (append-nil before) ∙ ap (λ o. before ++ case_rows l o) h

-- the first member has cases, and the others
record HasCases (s : Schema) (rest : Option (List Case)) (all : List Case) : Type 0 where
  front : List Case
  back : List Case
  front_is : external_cases s ≡ Some front
  back_is : rest ≡ Some back
  all_are : front ++ back ≡ all

cases-of : (s : Schema) (rest : Option (List Case)) (ds : List Case) → option_and_then (λ cs. option_map (λ others. cs ++ others) rest) (external_cases s) ≡ Some ds → HasCases s rest ds
cases-of s rest ds h = by (external_cases s) rest refl refl h
  where
    or-else : List Case → Option (List Case) → List Case
    or-else d None = d
    or-else d (Some xs) = xs

    by : (c r : Option (List Case)) → external_cases s ≡ c → rest ≡ r → option_and_then (λ cs. option_map (λ others. cs ++ others) r) c ≡ Some ds → HasCases s rest ds
    by None r p q k = absurd (none-some k)
    by (Some cs) None p q k = absurd (none-some k)
    by (Some cs) (Some es) p q k = record { front = cs; back = es; front_is = p; back_is = q; all_are = ap (or-else []) k }

all-seen : (ms : List Member) (ds : List Case) → all_cases (schemas_of ms) ≡ Some ds → all_differ (named ds) ≡ true → flat_map own_rows ms ≡ external_rows ms
all-seen [] ds h d = refl
all-seen (m ∷ ms) ds h d = λ i. case_rows m.0 (own i) ++ all-seen ms parts.back parts.back_is (differ-back (named parts.front) (named parts.back) split) i
  where
    parts : HasCases m.1 (all_cases (schemas_of ms)) ds
    parts = cases-of m.1 (all_cases (schemas_of ms)) ds h

    split : all_differ (named parts.front ++ named parts.back) ≡ true
    split = ap all_differ (sym (map-append (λ c. c.name) parts.front parts.back) ∙ ap named parts.all_are) ∙ d

    own : external_shape (m.1 ∷ []) ≡ external_cases m.1
    own = one-shape m.1 parts.front parts.front_is (differ-front (named parts.front) (named parts.back) split) ∙ sym parts.front_is

pub own_seen : (ms : List Member) (cs : List Case) → external_shape (schemas_of ms) ≡ Some cs → flat_map own_rows ms ≡ external_rows ms
own_seen ms cs h = let t = told (all_cases (schemas_of ms)) cs h in all-seen ms t.0 t.1 t.2

pub members_found : (ms : List Member) (cs : List Case) (ws : List VariantRow) → external_shape (schemas_of ms) ≡ Some cs → ws ≡ flat_map own_rows ms → Some ws ≡ external_members ms
members_found ms cs ws h e = ap Some (e ∙ own_seen ms cs h) ∙ sym (ap (option_map (λ xs. external_rows ms)) h)

-- ---- texts that are listed beside keywords of texts

unruled : (p : Plain) → is_unruled p ≡ true → is_some p.texts ≡ false
unruled p h = by p.texts (and_right (is_none p.format && is_none p.numbers) (is_none p.texts) h)
  where
    by : {A : Type 0} (o : Option A) → is_none o ≡ true → is_some o ≡ false
    by None k = refl
    by (Some x) k = absurd (true≢false (sym k))

shape-unruled : (s : Schema) (o : ObjectShape) → object_shape s ≡ Some o → has_text_keywords s ≡ false
shape-unruled (boolean b) o h = refl
shape-unruled (object p ss ls ns) o h = by (is_object_alone (object p ss ls ns)) refl h
  where
    by : (b : Bool) → is_object_alone (object p ss ls ns) ≡ b → (if b then shape_of ns else None) ≡ Some o → is_some p.texts ≡ false
    by true q k = unruled p (and_right _ _ (and_left _ _ q))
    by false q k = absurd (none-some k)

ruled-one : (s : Schema) (cs : List Case) → external_cases s ≡ Some cs → (is_some (text_cases s) && has_text_keywords s) ≡ has_text_keywords s
ruled-one s cs h = by (text_cases s) (object_shape s) refl h
  where
    by : (t : Option (List Case)) (o : Option ObjectShape) → object_shape s ≡ o → or_else t (option_and_then property_case o) ≡ Some cs → (is_some t && has_text_keywords s) ≡ has_text_keywords s
    by (Some ts) o q k = refl
    by None None q k = absurd (none-some k)
    by None (Some o) q k = sym (shape-unruled s o q)

kept-alike : (a b : Bool) (m : Member) (xs ys : List Member) → a ≡ b → xs ≡ ys → cond a (m ∷ xs) xs ≡ cond b (m ∷ ys) ys
kept-alike a b m xs ys p q = λ i. cond (p i) (m ∷ q i) (q i)

ruled-all : (ms : List Member) (ds : List Case) → all_cases (schemas_of ms) ≡ Some ds → filter is_ruled_text ms ≡ filter (λ m. has_text_keywords m.1) ms
ruled-all [] ds h = refl
ruled-all (m ∷ ms) ds h = kept-alike (is_ruled_text m) (has_text_keywords m.1) m _ _ (ruled-one m.1 parts.front parts.front_is) (ruled-all ms parts.back parts.back_is)
  where
    parts : HasCases m.1 (all_cases (schemas_of ms)) ds
    parts = cases-of m.1 (all_cases (schemas_of ms)) ds h

shape-there : (ms : List Member) (ws : List VariantRow) → external_members ms ≡ Some ws → (cs : List Case) × (external_shape (schemas_of ms) ≡ Some cs)
shape-there ms ws h = by (external_shape (schemas_of ms)) h
  where
    by : (o : Option (List Case)) → option_map (λ cs. external_rows ms) o ≡ Some ws → (cs : List Case) × (o ≡ Some cs)
    by None k = absurd (none-some k)
    by (Some cs) k = (cs, refl)

pub ruled_seen : (ms : List Member) (ws : List VariantRow) → external_members ms ≡ Some ws → text_branches ms ≡ ruled_branches ms
ruled_seen ms ws h =
    let c = shape-there ms ws h in let t = told (all_cases (schemas_of ms)) c.0 c.1 in ap (map ruled_note) (ruled-all ms t.0 t.1)
