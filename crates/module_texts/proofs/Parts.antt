-- Texts one after another.
use Rattle.std.proofs.Common.{◌≡◌, ◌<◌, ◌≤◌, ◌+◌, ◌||◌, ℕ, Bool, true, false, suc, List, [], ◌∷◌, ◌++◌, length, map, drop, drop-cons, get_or, refl, sym, ap, ◌∙◌, arith, append_assoc}
use Rattle.std.proofs.lemmas.List.{drop_all}
use Rattle.serde_json.specs.Data.{Data}
use Rattle.syntax_trees.specs.Item.{ItemD, item_view}
use Rattle.syntax_trees.specs.declared.item.DeriveInput.{DeriveInput}
use Rattle.conversion_table.specs.declared.conversions.Constraint.{Constraint}
use Rattle.model_defs.specs.Types.{types}
use Rattle.value_models.specs.TypeView.{type_view, types_view}
use Rattle.value_models.specs.declared.value_type.ValueType.{ValueType}
use Rattle.module_texts.specs.declared.asked.Asked.{Asked}
use Rattle.module_texts.specs.Asked.{count, has, any_has}
use Rattle.module_texts.specs.Impls.{impl_of, left_behind}
use Rattle.module_texts.specs.Docs.{Doc, own_doc, docs_behind}
use Rattle.module_texts.specs.Items.{item_text, items_text}
use Rattle.module_texts.specs.Defaults.{default_text, defaults_from}

pub assoc : {A : Type 0} → (xs ys zs : List A) → (xs ++ ys) ++ zs ≡ xs ++ (ys ++ zs)
assoc xs ys zs = append_assoc xs ys zs

-- one text behind another
pub then_more : (o a b x y : List ℕ) → a ≡ o ++ x → b ≡ a ++ y → b ≡ o ++ (x ++ y)
then_more o a b x y h e = e ∙ ap (λ ts. ts ++ y) h ∙ append_assoc o x y

-- how many types there are
pub count_is : (xs : List ValueType) (n : ℕ) → n ≡ length xs → n ≡ count (types (types_view xs))
count_is xs n e = e ∙ by xs
  where
    by : (xs : List ValueType) → length xs ≡ count (types (types_view xs))
    by [] = refl
    by (x ∷ xs) = ap suc (by xs)

-- one default more
pub default_turn : {X : Type 0} → (f : X → Data) (xs : List X) (n : ℕ) (d : X) (old new w : List ℕ) → n < length xs → new ≡ old ++ default_text n (f (get_or xs n d))
    → old ++ defaults_from n (map f (drop n xs)) ≡ w → new ++ defaults_from (n + 1) (map f (drop (n + 1) xs)) ≡ w
default_turn f xs n d old new w h e was =
    ap (λ ts. ts ++ defaults_from (n + 1) (map f (drop (n + 1) xs))) e
    ∙ append_assoc old (default_text n (f (get_or xs n d))) (defaults_from (n + 1) (map f (drop (n + 1) xs)))
    ∙ ap (λ ts. old ++ ts) (sym next)
    ∙ was
  where
    next : defaults_from n (map f (drop n xs)) ≡ default_text n (f (get_or xs n d)) ++ defaults_from (n + 1) (map f (drop (n + 1) xs))
    next =
        ap (λ ys. defaults_from n (map f ys)) (drop-cons xs n d h)
        ∙ ap (λ k. default_text n (f (get_or xs n d)) ++ defaults_from k (map f (drop k xs))) (let k : suc n ≡ n + 1 = omega arith in k)

-- a list of types, one after another
abbrev pub any_of : Asked → List ValueType → Bool
any_of a xs = any_has a (types (types_view xs))

module _ (a : Asked) (xs : List ValueType) (i : ℕ) where
  here : (d : ValueType) → i < length xs → any_of a (drop i xs) ≡ (has a (type_view (get_or xs i d)) || any_of a (drop (i + 1) xs))
  here d h =
      ap (any_of a) (drop-cons xs i d h)
      ∙ ap (λ n. has a (type_view (get_or xs i d)) || any_of a (drop n xs)) (let k : suc i ≡ i + 1 = omega arith in k)

  pub any_turn : (d : ValueType) (b w : Bool) → i < length xs → b ≡ has a (type_view (get_or xs i d)) → b ≡ false → w ≡ any_of a (drop i xs) → w ≡ any_of a (drop (i + 1) xs)
  any_turn d b w h e f was = was ∙ here d h ∙ ap (λ b. b || any_of a (drop (i + 1) xs)) (sym e ∙ f)

  pub any_found : (d : ValueType) (b w : Bool) → i < length xs → b ≡ has a (type_view (get_or xs i d)) → b ≡ true → w ≡ any_of a (drop i xs) → true ≡ w
  any_found d b w h e f was = sym (was ∙ here d h ∙ ap (λ b. b || any_of a (drop (i + 1) xs)) (sym e ∙ f))

  pub any_end : (w : Bool) → length xs ≤ i → w ≡ any_of a (drop i xs) → false ≡ w
  any_end w h was = sym (was ∙ ap (any_of a) (drop_all i xs h))

-- one element more of a list that is shown
pub turn : {X : Type 0} → (show : List X → List ℕ) (one : X → List ℕ) → ((x : X) (xs : List X) → show (x ∷ xs) ≡ one x ++ show xs) → (xs : List X) (i : ℕ) (d : X) (old new w : List ℕ) → i < length xs → new ≡ old ++ one (get_or xs i d)
    → old ++ show (drop i xs) ≡ w → new ++ show (drop (i + 1) xs) ≡ w
turn show one shows xs i d old new w h e was =
    ap (λ ts. ts ++ show (drop (i + 1) xs)) e ∙ append_assoc old (one (get_or xs i d)) (show (drop (i + 1) xs)) ∙ ap (λ ts. old ++ ts) (sym next) ∙ was
  where
    next : show (drop i xs) ≡ one (get_or xs i d) ++ show (drop (i + 1) xs)
    next = ap show (drop-cons xs i d h) ∙ shows (get_or xs i d) (drop (suc i) xs) ∙ ap (λ k. one (get_or xs i d) ++ show (drop k xs)) (let k : suc i ≡ i + 1 = omega arith in k)

-- one item more, and the docs and the constraints that are left
pub item_turn : (hashed : Bool) (xs : List DeriveInput) (i : ℕ) (d : DeriveInput) (ds docs : List Doc) (cs left : List Constraint) (old mid new w : List ℕ) → i < length xs
    → mid ≡ old ++ item_text hashed (own_doc ds (item_view (get_or xs i d)).name.text) (item_view (get_or xs i d)) → new ≡ mid ++ impl_of (item_view (get_or xs i d)) cs
    → docs ≡ docs_behind ds (item_view (get_or xs i d)).name.text → left ≡ left_behind cs (item_view (get_or xs i d)).name.text
    → old ++ items_text hashed (map item_view (drop i xs)) ds cs ≡ w → new ++ items_text hashed (map item_view (drop (i + 1) xs)) docs left ≡ w
item_turn hashed xs i d ds docs cs left old mid new w h p q k l was =
    (λ j. new ++ items_text hashed (map item_view (drop (i + 1) xs)) (k j) (l j))
    ∙ ap (λ ts. ts ++ rest (i + 1)) (then_more old mid new shown (impl_of e cs) p q)
    ∙ append_assoc old (shown ++ impl_of e cs) (rest (i + 1))
    ∙ ap (λ ts. old ++ ts) (sym next)
    ∙ was
  where
    e : ItemD
    e = item_view (get_or xs i d)

    shown : List ℕ
    shown = item_text hashed (own_doc ds e.name.text) e

    rest : ℕ → List ℕ
    rest k = items_text hashed (map item_view (drop k xs)) (docs_behind ds e.name.text) (left_behind cs e.name.text)

    next : items_text hashed (map item_view (drop i xs)) ds cs ≡ (shown ++ impl_of e cs) ++ rest (i + 1)
    next =
        ap (λ ys. items_text hashed (map item_view ys) ds cs) (drop-cons xs i d h)
        ∙ ap (λ k. (shown ++ impl_of e cs) ++ rest k) (let k : suc i ≡ i + 1 = omega arith in k)
