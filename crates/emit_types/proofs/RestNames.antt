-- The names that stand beside a rest.
use Rattle.std.proofs.Common.{◌≡◌, ℕ, zero, suc, ◌<◌, ◌+◌, List, [], ◌∷◌, ◌++◌, map, drop, get_or, length, reverse, Bool, true, false, ◌&&◌, ◌||◌, not, cond, bytes_eq, codes, length-append, refl, sym, ap, ◌∙◌, arith}
use Rattle.std.specs.List.{list_any}
use Rattle.std.specs.Str.{chars, is_utf8}
use Rattle.std.proofs.lemmas.List.{length-reverse, reverse-append}
use Rattle.unicode_ident.proofs.Computing.{unicode_ident}
use Rattle.unicode_normalization.proofs.Computing.{unicode_normalization}
use Rattle.naming_defs.specs.Names.{Names, is_among, numbered, first_free, free_name, field_name}
use Rattle.naming_defs.specs.Good.{is_good_name}
use Rattle.free_names.specs.Free.{first_untaken}
use Rattle.entry_defs.specs.Space.{FieldAt}
use Rattle.entry_types.specs.declared.item.FieldEntry.{FieldEntry}
use Rattle.entry_types.specs.View.{field_view, rest_identifier}

abbrev pub identifiers_of : List FieldEntry → Names
identifiers_of fs = map (λ f. f.identifier) (map field_view fs)

abbrev pub names_of : List FieldEntry → Names
names_of fs = map (λ f. f.name) (map field_view fs)

-- ---- what is taken, field by field

-- what is taken now and those of the fields that are left are what was taken and those of all
abbrev pub Taken : (List ℕ → Bool) → (List ℕ → Bool) → List FieldEntry → List FieldEntry → Type 0
Taken old new left all = (n : List ℕ) → (new n || (is_among n (identifiers_of left) || is_among n (names_of left))) ≡ (old n || (is_among n (identifiers_of all) || is_among n (names_of all)))

shuffled : (p q a b n : Bool) → (n || ((p || a) || (q || b))) ≡ ((q || (p || n)) || (a || b))
shuffled true true a b true = refl
shuffled true true a b false = refl
shuffled true false a b true = refl
shuffled true false a b false = refl
shuffled false true true b true = refl
shuffled false true true b false = refl
shuffled false true false b true = refl
shuffled false true false b false = refl
shuffled false false a b true = refl
shuffled false false a b false = refl

pub taken_more : (old new mid then : List ℕ → Bool) (x : FieldEntry) (left all : List FieldEntry) → Taken old new (x ∷ left) all
    → ((n : List ℕ) → mid n ≡ (bytes_eq n (field_view x).identifier || new n)) → ((n : List ℕ) → then n ≡ (bytes_eq n (field_view x).name || mid n)) → Taken old then left all
taken_more old new mid then x left all h a b n =
    let i = bytes_eq n (field_view x).identifier in
    let m = bytes_eq n (field_view x).name in
    let is = is_among n (identifiers_of left) in
    let ns = is_among n (names_of left) in
    ap (λ z. z || (is || ns)) (b n ∙ ap (λ z. m || z) (a n)) ∙ sym (shuffled i m is ns (new n)) ∙ h n

-- ---- `extra` is a good name

pub extra-good : is_good_name (codes "extra") ≡ true
unfolding chars is_utf8 unicode_ident unicode_normalization lib.Utf8.encode
extra-good = refl

-- ---- the identifier

any_joined : (p : List ℕ → Bool) (xs ys : Names) → list_any p (xs ++ ys) ≡ (list_any p xs || list_any p ys)
any_joined p [] ys = refl
any_joined p (x ∷ xs) ys = ap (λ z. p x || z) (any_joined p xs ys) ∙ grouped (p x) (list_any p xs) (list_any p ys)
  where
    grouped : (a b c : Bool) → (a || (b || c)) ≡ ((a || b) || c)
    grouped true b c = refl
    grouped false b c = refl

any_turned : (p : List ℕ → Bool) (xs : Names) → list_any p (reverse xs) ≡ list_any p xs
any_turned p [] = refl
any_turned p (x ∷ xs) = ap (list_any p) (reverse-append (x ∷ []) xs) ∙ any_joined p (reverse xs) (x ∷ []) ∙ last (p x) (list_any p (reverse xs)) ∙ ap (λ z. p x || z) (any_turned p xs)
  where
    last : (a b : Bool) → (b || (a || false)) ≡ (a || b)
    last true true = refl
    last true false = refl
    last false true = refl
    last false false = refl

first_same : (p : List ℕ) (t : List ℕ → Bool) (used : Names) → ((n : List ℕ) → t n ≡ is_among n used) → (k i : ℕ) → first_untaken p t k i ≡ first_free p used k i
first_same p t used h zero i = refl
first_same p t used h (suc k) i = let rec = first_same p t used h k (suc i) in λ j. cond (h (numbered p i) j) (rec j) (numbered p i)

as_many : {A B : Type 0} (f : A → B) (xs : List A) → length (map f xs) ≡ length xs
as_many f [] = refl
as_many f (x ∷ xs) = ap suc (as_many f xs)

module _ (fs : List FieldEntry) where
  abbrev ids : Names
  ids = identifiers_of fs

  abbrev names : Names
  names = names_of fs

  abbrev used : Names
  used = reverse ids ++ names

  named : (b : Bool) → is_among (codes "extra") ids ≡ b → rest_identifier (map field_view fs) ≡ cond (not b) (codes "extra") (free_name (codes "field") used)
  named b h = λ i. cond (extra-good i && not ((any_turned (bytes_eq (codes "extra")) ids ∙ h) i)) (codes "extra") (free_name (codes "field") used)

  pub kept : is_among (codes "extra") ids ≡ false → codes "extra" ≡ rest_identifier (map field_view fs)
  kept h = sym (named false h)

  how_many : length used ≡ length fs + length fs
  how_many =
      let a = length-append (reverse ids) names in
      let b = length-reverse ids in
      let c = as_many (λ (f : FieldAt). f.identifier) (map field_view fs) in
      let d = as_many field_view fs in
      let e = as_many (λ (f : FieldAt). f.name) (map field_view fs) in
      omega arith

  pub freed : (t : List ℕ → Bool) → is_among (codes "extra") ids ≡ true → ((n : List ℕ) → t n ≡ (is_among n ids || is_among n names))
      → first_untaken (codes "field") t (length fs + length fs) 0 ≡ rest_identifier (map field_view fs)
  freed t h a =
      let same : (n : List ℕ) → t n ≡ is_among n used
      = λ n. a n ∙ sym (any_joined (bytes_eq n) (reverse ids) names ∙ ap (λ z. z || is_among n names) (any_turned (bytes_eq n) ids)) in
      first_same (codes "field") t used same (length fs + length fs) 0 ∙ ap (λ k. first_free (codes "field") used k 0) (sym how_many) ∙ sym (named true h)
