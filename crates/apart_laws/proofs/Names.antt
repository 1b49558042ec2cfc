-- The names of variants that enum_defs finds differ, and so do texts that are listed once each; listed values that aren't lists or objects are scalars.
use Rattle.std.proofs.Common.{◌≡◌, ℕ, List, [], ◌∷◌, map, flat_map, Bool, true, false, not, Option, Some, None, option_map, option_and_then, refl, sym, ap, ◌∙◌, subst, true≢false, bytes_eq}
use Rattle.std.specs.Prelude.{if◌then◌else◌, filter}
use Rattle.std.specs.List.{list_all, list_any}
use Rattle.json_value.specs.Value as value
use Rattle.json_value.specs.Value.{Value, null, number, fraction, text, list, object}
use Rattle.schema_defs.specs.declared.Setting.{Setting}
use Rattle.writing_laws.specs.Tables.{is_scalar}
use Rattle.enum_defs.specs.Words.{all_some}
use Rattle.convert_defs.specs.Row.{VariantRow}
use Rattle.convert_defs.specs.Apart.{differ}
use Rattle.convert_defs.specs.Scalars.{distinct, is_owner}
use Rattle.convert_defs.specs.Shapes.{Member, words_or_none, external_members, internal_members, adjacent_members, TaggedShape}
use Rattle.convert_defs.proofs.Bare.{and_left, and_right, or_left, or_right, none-some, some-same, impossible}
use Rattle.convert_defs.proofs.Differ.{distinct-differ}
use Rattle.convert_defs.proofs.PlacedShapes.{ObjectShape, are_distinct, external_case, constant_at, tag_texts, are_tags, is_tag, internal_variant, adjacent_variant}
use Rattle.convert_defs.proofs.SameShapes.{whole, external-found, internal-found, adjacent-found}
use Rattle.emitted_back.proofs.Fields.{both}
use Rattle.apart_laws.proofs.Rows.{names}

-- ---- scalars

scalar_or : (v : Value) → is_owner v ≡ false → is_scalar v ≡ true
scalar_or null h = refl
scalar_or (value.boolean b) h = refl
scalar_or (number z) h = refl
scalar_or fraction h = refl
scalar_or (text s) h = refl
scalar_or (list xs) h = absurd (true≢false h)
scalar_or (object ms) h = absurd (true≢false h)

pub all_scalars : (vs : List Value) → list_any is_owner vs ≡ false → list_all is_scalar vs ≡ true
all_scalars [] h = refl
all_scalars (v ∷ vs) h = both (is_scalar v) (list_all is_scalar vs) (scalar_or v (or_left (is_owner v) (list_any is_owner vs) h)) (all_scalars vs (or_right (is_owner v) (list_any is_owner vs) h))

-- ---- texts, each once

kept_all : (p q : List ℕ → Bool) (ns : List (List ℕ)) → list_all p ns ≡ true → list_all p (filter q ns) ≡ true
kept_all p q [] h = refl
kept_all p q (n ∷ ns) h = by (q n) (and_left _ _ h) (kept_all p q ns (and_right (p n) _ h))
  where
    by : (b : Bool) → p n ≡ true → list_all p (filter q ns) ≡ true → list_all p (if b then n ∷ filter q ns else filter q ns) ≡ true
    by true e rec = both (p n) (list_all p (filter q ns)) e rec
    by false e rec = rec

kept_differ : (q : List ℕ → Bool) (ns : List (List ℕ)) → differ ns ≡ true → differ (filter q ns) ≡ true
kept_differ q [] h = refl
kept_differ q (n ∷ ns) h = by (q n) (kept_all (λ m. not (bytes_eq n m)) q ns (and_left _ _ h)) (kept_differ q ns (and_right (list_all (λ m. not (bytes_eq n m)) ns) _ h))
  where
    by : (b : Bool) → list_all (λ m. not (bytes_eq n m)) (filter q ns) ≡ true → differ (filter q ns) ≡ true → differ (if b then n ∷ filter q ns else filter q ns) ≡ true
    by true e rec = both (list_all (λ m. not (bytes_eq n m)) (filter q ns)) (differ (filter q ns)) e rec
    by false e rec = rec

kept_pass : (q : List ℕ → Bool) (ns : List (List ℕ)) → list_all q (filter q ns) ≡ true
kept_pass q [] = refl
kept_pass q (n ∷ ns) = by (q n) refl (kept_pass q ns)
  where
    by : (b : Bool) → q n ≡ b → list_all q (filter q ns) ≡ true → list_all q (if b then n ∷ filter q ns else filter q ns) ≡ true
    by true e rec = both (q n) (list_all q (filter q ns)) e rec
    by false e rec = rec

pub distinct_differ : (ns : List (List ℕ)) → differ (distinct ns) ≡ true
distinct_differ [] = refl
distinct_differ (n ∷ ns) =
    both (list_all (λ m. not (bytes_eq n m)) (filter (λ m. not (bytes_eq n m)) (distinct ns))) _ (kept_pass (λ m. not (bytes_eq n m)) (distinct ns)) (kept_differ (λ m. not (bytes_eq n m)) (distinct ns) (distinct_differ ns))

-- ---- external

pub external_differ : (ms : List Member) (ws : List VariantRow) → external_members ms ≡ Some ws → differ (names ws) ≡ true
external_differ ms ws e = by (all_some external_case ms) (external-found ms ws e)
  where
    tested : (rows : List VariantRow) (b : Bool) → are_distinct (names rows) ≡ b → (if b then Some rows else None) ≡ Some ws → differ (names ws) ≡ true
    tested rows false f h = none-some ws h
    tested rows true f h = subst (λ xs. differ (names xs) ≡ true) (some-same rows ws h) (distinct-differ (names rows) f)

    by : (o : Option (List (List VariantRow))) → option_and_then (λ wss. if are_distinct (names (flat_map (λ ws. ws) wss)) then Some (flat_map (λ ws. ws) wss) else None) o ≡ Some ws → differ (names ws) ≡ true
    by None h = none-some ws h
    by (Some wss) h = tested (flat_map (λ ws. ws) wss) (are_distinct (names (flat_map (λ ws. ws) wss))) refl h

-- ---- tags

record Split (tag : List ℕ) (o : ObjectShape) (os : List ObjectShape) (ts : List (List ℕ)) : Type 0 where
  first : List ℕ
  others : List (List ℕ)
  of_first : constant_at tag o ≡ Some first
  of_others : all_some (constant_at tag) os ≡ Some others
  whole_list : first ∷ others ≡ ts

split_some : (tag : List ℕ) (o : ObjectShape) (os : List ObjectShape) (ts : List (List ℕ)) → all_some (constant_at tag) (o ∷ os) ≡ Some ts → Split tag o os ts
split_some tag o os ts h = by (constant_at tag o) refl (all_some (constant_at tag) os) refl h
  where
    by : (a : Option (List ℕ)) → constant_at tag o ≡ a → (b : Option (List (List ℕ))) → all_some (constant_at tag) os ≡ b → option_and_then (λ y. option_map (λ ys. y ∷ ys) (all_some (constant_at tag) os)) a ≡ Some ts → Split tag o os ts
    by None g b j h = none-some ts h
    by (Some y) g None j h = none-some ts (ap (option_map (λ ys. y ∷ ys)) (sym j) ∙ h)
    by (Some y) g (Some zs) j h = record { first = y; others = zs; of_first = g; of_others = j; whole_list = some-same (y ∷ zs) ts (ap (option_map (λ ys. y ∷ ys)) (sym j) ∙ h) }

module _ (tag : List ℕ) (made : ObjectShape → VariantRow) (named : (o : ObjectShape) → (made o).name ≡ words_or_none (constant_at tag o)) where
  texts_are : (os : List ObjectShape) (ts : List (List ℕ)) → all_some (constant_at tag) os ≡ Some ts → names (map made os) ≡ ts
  texts_are [] ts f = some-same [] ts f
  texts_are (o ∷ os) ts f =
      let y = split_some tag o os ts f in
      let a = named o ∙ ap words_or_none y.of_first in
      let b = texts_are os y.others y.of_others in
      (λ i. a i ∷ b i) ∙ y.whole_list

  tags_differ : (os : List ObjectShape) → is_tag os tag ≡ true → differ (names (map made os)) ≡ true
  tags_differ os h = by (tag_texts os tag) refl h
    where
      by : (x : Option (List (List ℕ))) → tag_texts os tag ≡ x → are_tags tag os x ≡ true → differ (names (map made os)) ≡ true
      by None f k = impossible k
      by (Some ts) f k = ap differ (texts_are os ts f) ∙ distinct-differ ts (and_left _ _ k)

pub internal_differ : (setting : Setting) (ms : List Member) (t : TaggedShape) → internal_members setting ms ≡ Some t → differ (names t.variants) ≡ true
internal_differ setting ms t e =
    let f = internal-found setting ms t e in
    subst (λ x. differ (names x.variants) ≡ true) (sym f.made) (tags_differ f.tag (internal_variant setting f.tag) (λ o. refl) (map whole ms) f.is_one)

pub adjacent_differ : (ms : List Member) (t : TaggedShape) → adjacent_members ms ≡ Some t → differ (names t.variants) ≡ true
adjacent_differ ms t e =
    let f = adjacent-found ms t e in
    subst (λ x. differ (names x.variants) ≡ true) (sym f.made) (tags_differ f.tag (adjacent_variant f.tag) (λ o. refl) (map whole ms) f.is_one)
