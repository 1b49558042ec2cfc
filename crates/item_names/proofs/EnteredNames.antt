-- Names of items, entered one after another and found.
use Rattle.std.proofs.Common.{◌≡◌, ℕ, ◌+◌, ◌<◌, ◌≤◌, ◌||◌, List, [], ◌∷◌, map, drop, length, get_or, Bool, true, false, Option, Some, is_some, refl, sym, ap, ◌∙◌}
use Rattle.std.specs.Prelude.{bytes_eq, if◌then◌else◌}
use Rattle.std.specs.List.{list_any}
use Rattle.std.proofs.lemmas.List.{drop_all}
use Rattle.syntax_trees.specs.Item.{item_view}
use Rattle.syntax_trees.specs.declared.item.DeriveInput.{DeriveInput}
use Rattle.name_tables.specs.Names.{Names, all_entered, entered, place_of}
use Rattle.name_tables.proofs.Names.{entered_are_scanned}
use Rattle.value_models.specs.Names.{at_one_place}
use Rattle.value_models.proofs.Tables as tables
use Rattle.container_defs.specs.Forms.{names_of}

abbrev pub name_in : DeriveInput → List ℕ
name_in i = (item_view i).name.text

abbrev pub names_in : List DeriveInput → List (List ℕ)
names_in is = names_of (map item_view is)

-- ---- entering

listed : (is : List DeriveInput) → names_in is ≡ map name_in is
listed [] = refl
listed (i ∷ is) = ap (λ ns. name_in i ∷ ns) (listed is)

turn : (is : List DeriveInput) (k : ℕ) (x : DeriveInput) (t new w : Names) → k < length is → x ≡ get_or is k x → new ≡ all_entered (at_one_place 0 (name_in x ∷ [])) t
    → all_entered (at_one_place 0 (map name_in (drop k is))) t ≡ w → all_entered (at_one_place 0 (map name_in (drop (k + 1) is))) new ≡ w
turn = tables.turn name_in (λ k n. at_one_place 0 (n ∷ [])) (λ k ns. at_one_place 0 ns) (λ k. refl) (λ k y ys. refl)

pub item_turn : (is : List DeriveInput) (k : ℕ) (x : DeriveInput) (n : List ℕ) (t new w : Names) → k < length is → x ≡ get_or is k x → n ≡ name_in x → new ≡ entered n 0 t
    → all_entered (at_one_place 0 (names_in (drop k is))) t ≡ w → all_entered (at_one_place 0 (names_in (drop (k + 1) is))) new ≡ w
item_turn is k x n t new w h e m a was =
    ap (λ ns. all_entered (at_one_place 0 ns) new) (listed (drop (k + 1) is))
    ∙ turn is k x t new w h e (a ∙ ap (λ p. entered p 0 t) m) (ap (λ ns. all_entered (at_one_place 0 ns) t) (sym (listed (drop k is))) ∙ was)

pub item_end : (is : List DeriveInput) (k : ℕ) (t w : Names) → length is ≤ k → all_entered (at_one_place 0 (names_in (drop k is))) t ≡ w → t ≡ w
item_end is k t w h was = ap (λ js. all_entered (at_one_place 0 (names_in js)) t) (sym (drop_all k is h)) ∙ was

-- ---- finding

seen : (n : List ℕ) (ns : List (List ℕ)) → is_some (place_of n (at_one_place 0 ns)) ≡ list_any (bytes_eq n) ns
seen n [] = refl
seen n (m ∷ ns) =
    elim (bytes_eq n m) as (λ b. is_some (if b then Some 0 else place_of n (at_one_place 0 ns)) ≡ (b || list_any (bytes_eq n) ns)) [ true ↦ refl | false ↦ seen n ns ]

pub found : (n : List ℕ) (ns : List (List ℕ)) (t : Names) (o : Option ℕ) (b : Bool) → t ≡ all_entered (at_one_place 0 ns) [] → o ≡ place_of n t → b ≡ is_some o → b ≡ list_any (bytes_eq n) ns
found n ns t o b e p h = h ∙ ap is_some (p ∙ ap (place_of n) e ∙ entered_are_scanned n (at_one_place 0 ns)) ∙ seen n ns
