-- Where the names of items differ, an item is alone with its name, and so is its rule.
use Rattle.std.proofs.Common.{◌≡◌, ℕ, List, [], ◌∷◌, ◌++◌, map, true, false, ◌||◌, cond, refl, sym, ap, ◌∙◌, subst, true≢false, inl, inr, bytes_eq}
use Rattle.std.specs.Prelude.{filter}
use Rattle.std.specs.List.{IsDistinct, AllByRecursion, list_any, flat_map}
use Rattle.std.proofs.lemmas.Slice.Eq.{bytes_eq-Decides}
use Rattle.model_defs.specs.Model.{RuleD, ConstraintD}
use Rattle.model_defs.proofs.Rising.{bytes_itself}
use Rattle.container_defs.specs.Checks.{is_one}
use Rattle.entry_defs.specs.Entry.{Shape}
use Rattle.entry_defs.specs.Table.{ItemEntry, Among}
use Rattle.emit_defs.specs.Models.{shape_rules, item_constraints}

-- ---- names

none_named : (n : List ℕ) (ns : List (List ℕ)) → AllByRecursion (λ y. bytes_eq n y ≡ false) ns → filter (bytes_eq n) ns ≡ []
none_named n [] h = refl
none_named n (x ∷ xs) h = ap (λ b. cond b (x ∷ filter (bytes_eq n) xs) (filter (bytes_eq n) xs)) h.0 ∙ none_named n xs h.1

pub one_named : (n : List ℕ) (ns : List (List ℕ)) → IsDistinct bytes_eq ns → list_any (bytes_eq n) ns ≡ true → is_one (filter (bytes_eq n) ns) ≡ true
unfolding IsDistinct
one_named n [] d h = absurd (true≢false (sym h))
one_named n (x ∷ xs) d h =
    let rec = one_named n xs d.1 in
    elim (bytes_eq n x) as (λ b. bytes_eq n x ≡ b → (b || list_any (bytes_eq n) xs) ≡ true → is_one (cond b (x ∷ filter (bytes_eq n) xs) (filter (bytes_eq n) xs)) ≡ true) [
      | true ↦ λ e k. ap (λ z. is_one (x ∷ z)) (none_named n xs (subst (λ z. AllByRecursion (λ y. bytes_eq z y ≡ false) xs) (sym ((bytes_eq-Decides n x).0 e)) d.0))
      | false ↦ λ e k. rec k
    ] refl h

-- ---- rules

other_way : (m n : List ℕ) → bytes_eq m n ≡ false → bytes_eq n m ≡ false
other_way m n h = elim (bytes_eq n m) as (λ b. bytes_eq n m ≡ b → b ≡ false) [
  | true ↦ λ e. absurd (true≢false (sym ((bytes_eq-Decides m n).1 (sym ((bytes_eq-Decides n m).0 e))) ∙ h))
  | false ↦ λ e. refl
] refl

abbrev pub of_name : List ℕ → List ConstraintD → List ConstraintD
of_name n ks = filter (λ k. bytes_eq k.item n) ks

-- the constraints of an item of another name
past : (n : List ℕ) (i : ItemEntry) (ks : List ConstraintD) → bytes_eq i.name n ≡ false → of_name n (item_constraints i ++ ks) ≡ of_name n ks
past n i ks h = go (shape_rules i.shape)
  where
    go : (rs : List RuleD) → of_name n (map (λ r. record { item = i.name; rule = r }) rs ++ ks) ≡ of_name n ks
    go [] = refl
    go (r ∷ rs) = ap (λ b. cond b (record { item = i.name; rule = r } ∷ of_name n (map (λ r. record { item = i.name; rule = r }) rs ++ ks)) (of_name n (map (λ r. record { item = i.name; rule = r }) rs ++ ks))) h ∙ go rs

none_ruled : (n : List ℕ) (is : List ItemEntry) → AllByRecursion (λ y. bytes_eq n y ≡ false) (map (λ i. i.name) is) → of_name n (flat_map item_constraints is) ≡ []
none_ruled n [] h = refl
none_ruled n (i ∷ is) h = past n i (flat_map item_constraints is) (other_way n i.name h.0) ∙ none_ruled n is h.1

at_first : (n : List ℕ) (h : Shape) (ks : List ConstraintD) → of_name n ks ≡ [] → of_name n (map (λ r. record { item = n; rule = r }) (shape_rules h) ++ ks) ≡ map (λ r. record { item = n; rule = r }) (shape_rules h)
at_first n h ks e = go (shape_rules h)
  where
    go : (rs : List RuleD) → of_name n (map (λ r. record { item = n; rule = r }) rs ++ ks) ≡ map (λ r. record { item = n; rule = r }) rs
    go [] = e
    go (r ∷ rs) = ap (λ b. cond b (record { item = n; rule = r } ∷ of_name n (map (λ r. record { item = n; rule = r }) rs ++ ks)) (of_name n (map (λ r. record { item = n; rule = r }) rs ++ ks))) (bytes_itself n) ∙ ap (λ z. record { item = n; rule = r } ∷ z) (go rs)

apart : (n : List ℕ) (i : ItemEntry) (xs : List ItemEntry) → AllByRecursion (λ y. bytes_eq n y ≡ false) (map (λ x. x.name) xs) → Among i xs → bytes_eq n i.name ≡ false
apart n i [] d a = absurd a
apart n i (x ∷ xs) d (inl e) = subst (λ z. bytes_eq n z.name ≡ false) e d.0
apart n i (x ∷ xs) d (inr a) = apart n i xs d.1 a

-- the rules of an item's name are the item's
pub ruled : (is : List ItemEntry) → IsDistinct bytes_eq (map (λ i. i.name) is) → (i : ItemEntry) → Among i is → of_name i.name (flat_map item_constraints is) ≡ item_constraints i
unfolding IsDistinct
ruled [] d i a = absurd a
ruled (x ∷ xs) d i (inl e) = subst (λ z. of_name z.name (item_constraints x ++ flat_map item_constraints xs) ≡ item_constraints z) e (at_first x.name x.shape (flat_map item_constraints xs) (none_ruled x.name xs d.0))
ruled (x ∷ xs) d i (inr a) = past i.name x (flat_map item_constraints xs) (apart x.name i xs d.0 a) ∙ ruled xs d.1 i a
