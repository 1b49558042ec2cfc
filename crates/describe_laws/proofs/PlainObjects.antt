-- Objects of entries are rows, where each entry holds a row, or one that may be null where it is optional.
use Rattle.std.proofs.Common.{◌≡◌, ◌⊎◌, inl, inr, ℕ, List, [], ◌∷◌, map, Bool, true, false, ◌&&◌, ◌||◌, not, cond, refl, ap, ◌∙◌, bytes_eq}
use Rattle.std.specs.List.{list_all, list_any}
use Rattle.std.specs.Ordering.{match_ordering}
use Rattle.std.specs.declared.cmp.Ordering.TheVariants.{Less, Equal, Greater}
use Rattle.schema_defs.specs.Schema.{Schema, boolean, object, MaybeSchema, no_schema, the_schema, properties, Document}
use Rattle.schema_defs.specs.Layer.{property_at, is_given}
use Rattle.schema_defs.specs.Counts.{has_properties}
use Rattle.enum_defs.specs.Words.{is_name}
use Rattle.model_defs.proofs.Flat.{and_first, and_second, not_true, bytes_itself}
use Rattle.plain_defs.specs.Words.{is_flag}
use Rattle.plain_defs.specs.Rows.{Inner, plain_map, plain_struct, plain_item, holds_property, holds_properties, are_within, holds_fields}
use Rattle.describe_defs.specs.Plain.{stand_once}
use Rattle.describe_defs.specs.Description.{EntryD, property_of, required_names, all_entries, object_of, never, with_entry, in_order}
use Rattle.describe_defs.proofs.Ordered.{order, bytes_turned, property_ordered, order_all}
use Rattle.describe_defs.proofs.Objects.{names, required}
use Rattle.describe_defs.proofs.Guards.{order_each}
use Rattle.describe_defs.proofs.Sound.{no}

pub both : (a b : Bool) → a ≡ true → b ≡ true → (a && b) ≡ true
both true b h k = k
both false b h k = h

pub or_left : (a b : Bool) → a ≡ true → (a || b) ≡ true
or_left true b h = refl
or_left false b h = no h

pub or_right : (a b : Bool) → b ≡ true → (a || b) ≡ true
or_right true b h = refl
or_right false b h = h

pub all_more : {A : Type 0} (p q : A → Bool) → ((x : A) → p x ≡ true → q x ≡ true) → (xs : List A) → list_all p xs ≡ true → list_all q xs ≡ true
all_more p q f [] h = refl
all_more p q f (x ∷ xs) h = both (q x) (list_all q xs) (f x (and_first _ _ h)) (all_more p q f xs (and_second (p x) _ h))

-- ---- lists in order

module _ {A : Type 0} where
  with_any : (p : List ℕ → Bool) (e : List ℕ × A) (es : List (List ℕ × A)) → list_any p (map (λ x. x.0) (with_entry e es)) ≡ (p e.0 || list_any p (map (λ x. x.0) es))
  with_any p e [] = refl
  with_any p e (f ∷ fs) =
      let rec = with_any p e fs in
      elim (order e.0 f.0) as (λ o. list_any p (map (λ x. x.0) (match_ordering o (e ∷ f ∷ fs) (e ∷ f ∷ fs) (f ∷ with_entry e fs))) ≡ (p e.0 || (p f.0 || list_any p (map (λ x. x.0) fs)))) [
        | Less ↦ refl
        | Equal ↦ refl
        | Greater ↦ ap (λ z. p f.0 || z) rec ∙ moved (p f.0) (p e.0) (list_any p (map (λ x. x.0) fs))
      ]
    where
      moved : (a b c : Bool) → (a || (b || c)) ≡ (b || (a || c))
      moved true true c = refl
      moved true false c = refl
      moved false b c = refl

  pub order_any : (p : List ℕ → Bool) (es : List (List ℕ × A)) → list_any p (map (λ x. x.0) (in_order es)) ≡ list_any p (map (λ x. x.0) es)
  order_any p [] = refl
  order_any p (e ∷ es) = with_any p e (in_order es) ∙ ap (λ z. p e.0 || z) (order_any p es)

  abbrev pub is_filled : List (List ℕ × A) → Bool
  is_filled [] = false
  is_filled (e ∷ es) = true

  pub with_filled : (e : List ℕ × A) (es : List (List ℕ × A)) → is_filled (with_entry e es) ≡ true
  with_filled e [] = refl
  with_filled e (f ∷ fs) = elim (order e.0 f.0) as (λ o. is_filled (match_ordering o (e ∷ f ∷ fs) (e ∷ f ∷ fs) (f ∷ with_entry e fs)) ≡ true) [ Less ↦ refl | Equal ↦ refl | Greater ↦ refl ]

names_of_properties : (es : List EntryD) → map (λ e. e.0) (map property_of es) ≡ names es
names_of_properties [] = refl
names_of_properties (e ∷ es) = ap (λ z. e.name ∷ z) (names_of_properties es)

filled_properties : (es : List (List ℕ × Schema)) → has_properties (properties es) ≡ is_filled es
filled_properties [] = refl
filled_properties (e ∷ es) = refl

-- ---- required names

abbrev pub any_required : List ℕ → List EntryD → Bool
any_required n es = list_any (bytes_eq n) (names (required es))

pub required_name : (n : List ℕ) (es : List EntryD) → is_name n (required_names es) ≡ any_required n es
required_name n es = order_any (bytes_eq n) (map property_of (required es)) ∙ ap (list_any (bytes_eq n)) (names_of_properties (required es))

all_given : (es : List EntryD) → list_all (λ n. is_given (property_at n (properties (map property_of es)))) (names (required es)) ≡ true
all_given [] = refl
all_given (e ∷ es) =
    let rec = all_more (λ n. is_given (property_at n (properties (map property_of es)))) (λ n. is_given (cond (bytes_eq n e.name) (the_schema e.body) (property_at n (properties (map property_of es)))))
    (λ n h. elim (bytes_eq n e.name) as (λ b. is_given (cond b (the_schema e.body) (property_at n (properties (map property_of es)))) ≡ true) [ true ↦ refl | false ↦ h ]) (names (required es)) (all_given es) in
    elim e.required as (λ b. list_all (λ n. is_given (property_at n (properties (map property_of (e ∷ es))))) (names (cond b (e ∷ required es) (required es))) ≡ true) [
      | true ↦ both _ _ (ap (λ b. is_given (cond b (the_schema e.body) (property_at e.name (properties (map property_of es))))) (bytes_itself e.name)) rec
      | false ↦ rec
    ]

all_within : (es : List EntryD) → list_all (λ n. is_given (property_at n (properties (in_order (map property_of es))))) (required_names es) ≡ true
all_within es =
    (λ i. list_all (λ n. is_given (property_ordered n (map property_of es) i)) (required_names es))
    ∙ order_all (λ n. is_given (property_at n (properties (map property_of es)))) (map property_of (required es))
    ∙ ap (list_all (λ n. is_given (property_at n (properties (map property_of es))))) (names_of_properties (required es))
    ∙ all_given es

-- ---- a name that is not required is not among the required ones

not_among : (n : List ℕ) (es : List EntryD) → list_all (λ m. not (bytes_eq n m)) (names es) ≡ true → any_required n es ≡ false
not_among n [] h = refl
not_among n (e ∷ es) h =
    let rec = not_among n es (and_second (not (bytes_eq n e.name)) _ h) in
    elim e.required as (λ b. list_any (bytes_eq n) (names (cond b (e ∷ required es) (required es))) ≡ false) [
      | true ↦ λ i. not_true (bytes_eq n e.name) (and_first _ _ h) i || rec i
      | false ↦ rec
    ]

abbrev FreeIn : List EntryD → List EntryD → Type 0
FreeIn all [] = Unit {0}
FreeIn all (f ∷ fs) = (f.required ≡ false → any_required f.name all ≡ false) × FreeIn all fs

extended : (e : EntryD) (all fs : List EntryD) → list_all (λ n. not (bytes_eq e.name n)) (names fs) ≡ true → FreeIn all fs → FreeIn (e ∷ all) fs
extended e all [] d h = tt
extended e all (f ∷ fs) d h = (
  λ r. elim e.required as (λ b. list_any (bytes_eq f.name) (names (cond b (e ∷ required all) (required all))) ≡ false) [
    | true ↦ λ i. (bytes_turned f.name e.name ∙ not_true (bytes_eq e.name f.name) (and_first _ _ d)) i || h.0 r i
    | false ↦ h.0 r
  ],
  extended e all fs (and_second (not (bytes_eq e.name f.name)) _ d) h.1,
)

free : (es : List EntryD) → stand_once (names es) ≡ true → FreeIn es es
free [] o = tt
free (e ∷ es) o = (
  (λ r. (λ i. list_any (bytes_eq e.name) (names (cond (r i) (e ∷ required es) (required es)))) ∙ not_among e.name es (and_first _ _ o)),
  extended e es es (and_first _ _ o) (free es (and_second (list_all (λ m. not (bytes_eq e.name m)) (names es)) _ o)),
)

module _ (d : Document) (inner : Inner) where
  -- a row, or one that may be null where it is optional
  abbrev pub Holds : EntryD → Type 0
  Holds e = (inner.row e.body ≡ true) ⊎ ((e.required ≡ false) × (inner.nullable e.body ≡ true))

  abbrev pub AllHold : List EntryD → Type 0
  AllHold [] = Unit {0}
  AllHold (e ∷ es) = Holds e × AllHold es

  as_list : (ns : List (List ℕ)) (es : List (List ℕ × Schema)) → holds_properties d inner ns (properties es) ≡ list_all (λ e. holds_property d inner ns e.0 e.1) es
  as_list ns [] = refl
  as_list ns (e ∷ es) = ap (λ z. holds_property d inner ns e.0 e.1 && z) (as_list ns es)

  each_holds : (all es : List EntryD) → FreeIn all es → AllHold es → list_all (λ e. holds_property d inner (required_names all) e.0 e.1) (map property_of es) ≡ true
  each_holds all [] f h = refl
  each_holds all (e ∷ es) f h = both _ _ (by h.0) (each_holds all es f.1 h.1)
    where
      by : Holds e → holds_property d inner (required_names all) e.name e.body ≡ true
      by (inl r) = or_left (inner.row e.body) _ r
      by (inr (o, n)) = or_right (inner.row e.body) _ ((λ i. not ((required_name e.name all ∙ f.0 o) i) && n i))

  fields_hold : (e : EntryD) (es : List EntryD) (rest : MaybeSchema) → stand_once (names (e ∷ es)) ≡ true → AllHold (e ∷ es) → holds_fields d inner (all_entries (e ∷ es) rest) ≡ true
  fields_hold e es rest o h =
      let us = e ∷ es in
      both (has_properties (properties (in_order (map property_of us)))) _
      (filled_properties (in_order (map property_of us)) ∙ with_filled (property_of e) (in_order (map property_of es)))
      (both (are_within d inner (required_names us) (properties (in_order (map property_of us)))) _ (all_within us)
      (as_list (required_names us) (in_order (map property_of us)) ∙ order_each (λ x. holds_property d inner (required_names us) x.0 x.1) (map property_of us) ∙ each_holds us us (free us o) h))

  -- ---- with a flag, or alone

  pub flagged_row : (e : EntryD) (es : List EntryD) (rest : MaybeSchema) → is_flag rest ≡ true → stand_once (names (e ∷ es)) ≡ true → AllHold (e ∷ es) → plain_struct d inner (object_of (e ∷ es) rest) ≡ true
  flagged_row e es rest f o h = or_left _ _ (both _ _ (fields_hold e es rest o h) f)

  pub shut_row : plain_struct d inner (object_of [] never) ≡ true
  shut_row = refl

  pub open_row : plain_map d inner (object_of [] no_schema) ≡ true
  open_row = refl

  pub map_row : (s : Schema) → inner.row s ≡ true → plain_map d inner (object_of [] (the_schema s)) ≡ true
  map_row s h = h

  -- with a rest, as a definition
  pub rest_row : (e : EntryD) (es : List EntryD) (s : Schema) → inner.row s ≡ true → stand_once (names (e ∷ es)) ≡ true → AllHold (e ∷ es)
      → (plain_struct d inner (object_of (e ∷ es) (the_schema s)) ≡ true) ⊎ (plain_item d inner (object_of (e ∷ es) (the_schema s)) ≡ true)
  rest_row e es (boolean b) r o h = inl (flagged_row e es (the_schema (boolean b)) refl o h)
  rest_row e es (object p ss ls ns) r o h = inr (both _ _ (fields_hold e es (the_schema (object p ss ls ns)) o h) r)
