-- What a table of names finds is the first that has the name.
use Rattle.std.proofs.Common.{◌≡◌, ℕ, suc, ◌+◌, ◌<◌, ◌≤◌, List, [], ◌∷◌, map, drop, length, get_or, Bool, true, false, cond, Option, Some, None, option_map, bytes_eq, refl, sym, ap, ◌∙◌, Bor}
use Rattle.std.specs.Slice.{IsItemAt}
use Rattle.syntax_trees.specs.Item.{ItemD, item_view}
use Rattle.syntax_trees.specs.declared.item.DeriveInput.{DeriveInput}
use Rattle.name_tables.specs.Names.{Names, all_entered, entered, place_of}
use Rattle.name_tables.proofs.Names.{entered_are_scanned}
use Rattle.value_models.specs.Names.{at_place}
use Rattle.value_models.proofs.Tables as tables
use Rattle.module_texts.specs.Docs.{Doc, doc_view}
use Rattle.module_texts.specs.declared.docs.ItemDoc.{ItemDoc}
use Rattle.item_docs.specs.Forms.{first_named}
use Rattle.item_docs.specs.Places.{places_from}

-- ---- entering, one after another

abbrev item_name : ItemD → List ℕ
item_name i = i.name.text

abbrev doc_name : Doc → List ℕ
doc_name x = x.item

pub item_turn : (xs : List DeriveInput) (i : ℕ) (x : DeriveInput) (t new w : Names) → i < length xs → x ≡ get_or xs i x → new ≡ entered (item_view x).name.text i t
    → all_entered (places_from (λ i. i.name.text) i (map item_view (drop i xs))) t ≡ w → all_entered (places_from (λ i. i.name.text) (i + 1) (map item_view (drop (i + 1) xs))) new ≡ w
item_turn = tables.turn item_view (λ i y. (item_name y, i) ∷ []) (λ i ys. places_from item_name i ys) (λ i. refl) (λ i y ys. refl)

pub item_end : (xs : List DeriveInput) (i : ℕ) (t w : Names) → length xs ≤ i → all_entered (places_from (λ i. i.name.text) i (map item_view (drop i xs))) t ≡ w → t ≡ w
item_end = tables.end item_view (λ i y. (item_name y, i) ∷ []) (λ i ys. places_from item_name i ys) (λ i. refl) (λ i y ys. refl)

pub doc_turn : (xs : List ItemDoc) (i : ℕ) (x : ItemDoc) (t new w : Names) → i < length xs → x ≡ get_or xs i x → new ≡ entered (doc_view x).item i t
    → all_entered (places_from (λ x. x.item) i (map doc_view (drop i xs))) t ≡ w → all_entered (places_from (λ x. x.item) (i + 1) (map doc_view (drop (i + 1) xs))) new ≡ w
doc_turn = tables.turn doc_view (λ i y. (doc_name y, i) ∷ []) (λ i ys. places_from doc_name i ys) (λ i. refl) (λ i y ys. refl)

pub doc_end : (xs : List ItemDoc) (i : ℕ) (t w : Names) → length xs ≤ i → all_entered (places_from (λ x. x.item) i (map doc_view (drop i xs))) t ≡ w → t ≡ w
doc_end = tables.end doc_view (λ i y. (doc_name y, i) ∷ []) (λ i ys. places_from doc_name i ys) (λ i. refl) (λ i y ys. refl)

-- ---- the place of the first

pub scanned : (n : List ℕ) (ds names : Names) (r : Option ℕ) → names ≡ all_entered ds [] → r ≡ place_of n names → r ≡ place_of n ds
scanned n ds names r e h = h ∙ ap (place_of n) e ∙ entered_are_scanned n ds

-- the same names, each one place later
abbrev later : Names → Names
later [] = []
later (e ∷ es) = (e.0, suc e.1) ∷ later es

mapped_cond : (b : Bool) (i : ℕ) (o : Option ℕ) → cond b (Some (suc i)) (option_map suc o) ≡ option_map suc (cond b (Some i) o)
mapped_cond true i o = refl
mapped_cond false i o = refl

place_later : (n : List ℕ) (es : Names) → place_of n (later es) ≡ option_map suc (place_of n es)
place_later n [] = refl
place_later n (e ∷ es) = ap (λ o. cond (bytes_eq n e.0) (Some (suc e.1)) o) (place_later n es) ∙ mapped_cond (bytes_eq n e.0) e.1 (place_of n es)

next_place : {A : Type 0} (x : A) (xs : List A) (o : Option ℕ) → at_place (x ∷ xs) (option_map suc o) ≡ at_place xs o
next_place x xs None = refl
next_place x xs (Some i) = refl

-- what stands first, or what stands further
chosen : {A : Type 0} (b : Bool) (x : A) (xs : List A) (o : Option ℕ) → cond b (Some x) (at_place xs o) ≡ at_place (x ∷ xs) (cond b (Some 0) (option_map suc o))
chosen true x xs o = refl
chosen false x xs o = sym (next_place x xs o)

module _ {A : Type 0} (name : A → List ℕ) where
  one_later : (i : ℕ) (xs : List A) → places_from name (suc i) xs ≡ later (places_from name i xs)
  one_later i [] = refl
  one_later i (x ∷ xs) = ap (λ es. (name x, suc i) ∷ es) (one_later (suc i) xs)

  pub first_is_at_its_place : (n : List ℕ) (xs : List A) → first_named name n xs ≡ at_place xs (place_of n (places_from name 0 xs))
  first_is_at_its_place n [] = refl
  first_is_at_its_place n (x ∷ xs) =
      ap (λ o. cond (bytes_eq n (name x)) (Some x) o) (first_is_at_its_place n xs)
      ∙ chosen (bytes_eq n (name x)) x xs (place_of n (places_from name 0 xs))
      ∙ ap (λ o. at_place (x ∷ xs) (cond (bytes_eq n (name x)) (Some 0) o)) (sym (ap (place_of n) (one_later 0 xs) ∙ place_later n (places_from name 0 xs)))

-- ---- what stands there

pub item_found : (xs : List DeriveInput) (n : List ℕ) (p : ℕ) (o : Option (Bor DeriveInput)) → Some p ≡ place_of n (places_from (λ i. i.name.text) 0 (map item_view xs))
    → IsItemAt xs p o → option_map (λ (x : Bor DeriveInput). item_view x.now) o ≡ first_named (λ i. i.name.text) n (map item_view xs)
item_found xs n p o e h = tables.item_behind item_view xs p o h ∙ ap (at_place (map item_view xs)) e ∙ sym (first_is_at_its_place item_name n (map item_view xs))

pub item_missing : (xs : List DeriveInput) (n : List ℕ) → None ≡ place_of n (places_from (λ i. i.name.text) 0 (map item_view xs)) → None ≡ first_named (λ i. i.name.text) n (map item_view xs)
item_missing xs n e = ap (at_place (map item_view xs)) e ∙ sym (first_is_at_its_place item_name n (map item_view xs))

pub doc_found : (xs : List ItemDoc) (n : List ℕ) (p : ℕ) (o : Option (Bor ItemDoc)) → Some p ≡ place_of n (places_from (λ x. x.item) 0 (map doc_view xs))
    → IsItemAt xs p o → option_map (λ (x : Bor ItemDoc). doc_view x.now) o ≡ first_named (λ x. x.item) n (map doc_view xs)
doc_found xs n p o e h = tables.item_behind doc_view xs p o h ∙ ap (at_place (map doc_view xs)) e ∙ sym (first_is_at_its_place doc_name n (map doc_view xs))

pub doc_missing : (xs : List ItemDoc) (n : List ℕ) → None ≡ place_of n (places_from (λ x. x.item) 0 (map doc_view xs)) → None ≡ first_named (λ x. x.item) n (map doc_view xs)
doc_missing xs n e = ap (at_place (map doc_view xs)) e ∙ sym (first_is_at_its_place doc_name n (map doc_view xs))
