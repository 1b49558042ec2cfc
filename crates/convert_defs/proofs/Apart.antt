-- The names of the fields of an object row differ.
use Rattle.std.proofs.Common.{◌≡◌, ℕ, List, [], ◌∷◌, ◌++◌, Bool, true, false, ◌&&◌, not, Option, Some, None, refl, sym, ap, ◌∙◌, true≢false, bytes_eq}
use Rattle.std.specs.Prelude.{if◌then◌else◌}
use Rattle.std.proofs.lemmas.Slice.Eq.{bytes_eq-Decides}
use Rattle.std.specs.List.{list_all}
use Rattle.schema_defs.specs.declared.Setting.{Setting}
use Rattle.schema_defs.specs.Schema.{Schema, MaybeSchema, the_schema, Properties, no_properties, property}
use Rattle.schema_defs.specs.Layer.{property_at, is_given}
use Rattle.entry_defs.specs.Entry.{required}
use Rattle.convert_defs.specs.Row.{Part, FieldRow, OutsideRow}
use Rattle.convert_defs.specs.Owners.{property_fields, outside_names, outside_row, keeps_rest, other_part}
use Rattle.enum_defs.specs.Words.{names_of}
use Rattle.convert_defs.specs.Apart.{differ}
use Rattle.convert_defs.proofs.Bare.{and_left, and_right}

abbrev pub other_field : List ℕ → Part → FieldRow
other_field l other = record { name = l; part = other; state = required; nullable = false }

-- each required name outside `properties` as a field of its own
abbrev pub required_fields : Properties → Part → List (List ℕ) → List FieldRow
required_fields props other [] = []
required_fields props other (n ∷ ns) = if is_given (property_at n props) then required_fields props other ns else other_field n other ∷ required_fields props other ns

abbrev pub outside_rows : Part → List (List ℕ) → List FieldRow
outside_rows other [] = []
outside_rows other (n ∷ ns) = other_field n other ∷ outside_rows other ns

pub rows-outside : (props : Properties) (other : Part) (ns : List (List ℕ)) → outside_rows other (outside_names props ns) ≡ required_fields props other ns
rows-outside props other [] = refl
rows-outside props other (n ∷ ns) = by (is_given (property_at n props)) (rows-outside props other ns)
  where
    by : (b : Bool) → outside_rows other (outside_names props ns) ≡ required_fields props other ns
        → outside_rows other (if not b then n ∷ outside_names props ns else outside_names props ns) ≡ (if b then required_fields props other ns else other_field n other ∷ required_fields props other ns)
    by true h = h
    by false h = ap (λ xs. other_field n other ∷ xs) h

abbrev pub names_in : List FieldRow → List (List ℕ)
names_in [] = []
names_in (f ∷ fs) = f.name ∷ names_in fs

none-among : (n : List ℕ) (xs ys : List (List ℕ)) → list_all (λ m. not (bytes_eq n m)) xs ≡ true → list_all (λ m. not (bytes_eq n m)) ys ≡ true → list_all (λ m. not (bytes_eq n m)) (xs ++ ys) ≡ true
none-among n [] ys h g = g
none-among n (x ∷ xs) ys h g =
    let e = and_left (not (bytes_eq n x)) (list_all (λ m. not (bytes_eq n m)) xs) h in
    let rec = none-among n xs ys (and_right (not (bytes_eq n x)) _ h) g in
    λ i. e i && rec i

named-both : (xs ys : List FieldRow) → names_in (xs ++ ys) ≡ names_in xs ++ names_in ys
named-both [] ys = refl
named-both (x ∷ xs) ys = ap (λ ns. x.name ∷ ns) (named-both xs ys)

pub of-properties : (st : Setting) (req : List (List ℕ)) (ps : Properties) → names_in (property_fields st req ps) ≡ names_of ps
of-properties st req no_properties = refl
of-properties st req (property k s ps) = ap (λ ns. k ∷ ns) (of-properties st req ps)

-- each is among the names, and no property has it
outside-names : (props : Properties) (other : Part) (n : List ℕ) (ns : List (List ℕ)) → list_all (λ m. not (bytes_eq n m)) ns ≡ true → list_all (λ m. not (bytes_eq n m)) (names_in (required_fields props other ns)) ≡ true
outside-names props other n [] h = refl
outside-names props other n (l ∷ ns) h = by (is_given (property_at l props)) (and_left (not (bytes_eq n l)) (list_all (λ m. not (bytes_eq n m)) ns) h) (outside-names props other n ns (and_right (not (bytes_eq n l)) _ h))
  where
    by : (b : Bool) → not (bytes_eq n l) ≡ true → list_all (λ m. not (bytes_eq n m)) (names_in (required_fields props other ns)) ≡ true → list_all (λ m. not (bytes_eq n m)) (names_in (if b then required_fields props other ns else other_field l other ∷ required_fields props other ns)) ≡ true
    by true e g = g
    by false e g = λ i. e i && g i

outside-differ : (props : Properties) (other : Part) (ns : List (List ℕ)) → differ ns ≡ true → differ (names_in (required_fields props other ns)) ≡ true
outside-differ props other [] h = refl
outside-differ props other (l ∷ ns) h = by (is_given (property_at l props)) (outside-names props other l ns (and_left _ _ h)) (outside-differ props other ns (and_right (list_all (λ m. not (bytes_eq l m)) ns) _ h))
  where
    by : (b : Bool) → list_all (λ m. not (bytes_eq l m)) (names_in (required_fields props other ns)) ≡ true → differ (names_in (required_fields props other ns)) ≡ true → differ (names_in (if b then required_fields props other ns else other_field l other ∷ required_fields props other ns)) ≡ true
    by true e g = g
    by false e g = λ i. e i && g i

given-outside : (props : Properties) (other : Part) (n : List ℕ) (ns : List (List ℕ)) → is_given (property_at n props) ≡ true → list_all (λ m. not (bytes_eq n m)) (names_in (required_fields props other ns)) ≡ true
given-outside props other n [] h = refl
given-outside props other n (l ∷ ns) h = by (is_given (property_at l props)) refl (given-outside props other n ns h)
  where
    apart : (c : Bool) → bytes_eq n l ≡ c → is_given (property_at l props) ≡ false → not c ≡ true
    apart true e g = absurd (true≢false (sym h ∙ ap (λ m. is_given (property_at m props)) ((bytes_eq-Decides n l).0 e) ∙ g))
    apart false e g = refl

    by : (b : Bool) → is_given (property_at l props) ≡ b → list_all (λ m. not (bytes_eq n m)) (names_in (required_fields props other ns)) ≡ true
        → list_all (λ m. not (bytes_eq n m)) (names_in (if b then required_fields props other ns else other_field l other ∷ required_fields props other ns)) ≡ true
    by true e g = g
    by false e g = λ i. apart (bytes_eq n l) refl e i && g i

given-head : (k n : List ℕ) (s : Schema) (ps : Properties) → is_given (property_at n ps) ≡ true → is_given (property_at n (property k s ps)) ≡ true
given-head k n s ps h = by (bytes_eq n k)
  where
    by : (b : Bool) → is_given (if b then the_schema s else property_at n ps) ≡ true
    by true = refl
    by false = h

itself-given : (k : List ℕ) (s : Schema) (ps : Properties) → is_given (property_at k (property k s ps)) ≡ true
itself-given k s ps = ap (λ b. is_given (if b then the_schema s else property_at k ps)) ((bytes_eq-Decides k k).1 refl)

joined-differ : (ps : Properties) (ys : List (List ℕ)) → differ (names_of ps) ≡ true → differ ys ≡ true → ((n : List ℕ) → is_given (property_at n ps) ≡ true → list_all (λ m. not (bytes_eq n m)) ys ≡ true) → differ (names_of ps ++ ys) ≡ true
joined-differ no_properties ys h g f = g
joined-differ (property k s ps) ys h g f =
    let e = none-among k (names_of ps) ys (and_left _ _ h) (f k (itself-given k s ps)) in
    let rec = joined-differ ps ys (and_right (list_all (λ m. not (bytes_eq k m)) (names_of ps)) _ h) g (λ n e. f n (given-head k n s ps e)) in
    λ i. e i && rec i

pub fields-apart : (st : Setting) (req : List (List ℕ)) (props : Properties) (other : Part) → differ (names_of props) ≡ true → differ req ≡ true → differ (names_in (property_fields st req props ++ required_fields props other req)) ≡ true
fields-apart st req props other h g =
    ap differ (named-both (property_fields st req props) (required_fields props other req) ∙ ap (λ xs. xs ++ names_in (required_fields props other req)) (of-properties st req props))
    ∙ joined-differ props (names_in (required_fields props other req)) h (outside-differ props other req g) (λ n e. given-outside props other n req e)

-- ---- the same of the names that stand outside, in one row

abbrev pub names_outside : Option OutsideRow → List (List ℕ)
names_outside None = []
names_outside (Some o) = o.names

pub row-names : (ns : List (List ℕ)) (rest : MaybeSchema) → names_outside (outside_row ns rest) ≡ ns
row-names (n ∷ ns) rest = refl
row-names [] rest = by (keeps_rest rest)
  where
    by : (b : Bool) → names_outside (if b then Some (record { names = []; part = other_part rest; keeps_rest = true }) else None) ≡ []
    by true = refl
    by false = refl

names-of-rows : (other : Part) (ns : List (List ℕ)) → names_in (outside_rows other ns) ≡ ns
names-of-rows other [] = refl
names-of-rows other (n ∷ ns) = ap (λ xs. n ∷ xs) (names-of-rows other ns)

pub struct-apart : (st : Setting) (req : List (List ℕ)) (props : Properties) (rest : MaybeSchema) → differ (names_of props) ≡ true → differ req ≡ true
    → differ (names_in (property_fields st req props) ++ names_outside (outside_row (outside_names props req) rest)) ≡ true
struct-apart st req props rest h g =
    let other = other_part rest in
    ap (λ xs. differ (names_in (property_fields st req props) ++ xs)) (row-names (outside_names props req) rest ∙ sym (names-of-rows other (outside_names props req)) ∙ ap names_in (rows-outside props other req))
    ∙ sym (ap differ (named-both (property_fields st req props) (required_fields props other req)))
    ∙ fields-apart st req props other h g
