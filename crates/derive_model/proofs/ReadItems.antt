-- Items read one after another, and what is told of them.
use Rattle.std.proofs.Common.{◌≡◌, ℕ, suc, ◌+◌, ◌<◌, ◌≤◌, List, [], ◌∷◌, ◌++◌, map, drop, drop-cons, length, get_or, Option, Some, None, option_map, refl, sym, ap, ◌∙◌, append_assoc, arith}
use Rattle.std.specs.List.{flat_map, filter_map, cons_option}
use Rattle.std.proofs.lemmas.List.{drop_all, append-nil, map-append}
use Rattle.token_trees.specs.Token.{Name}
use Rattle.syntax_trees.specs.Item.{ItemD}
use Rattle.attr_parts.specs.Diagnostics.{DiagnosticD}
use Rattle.attr_parts.specs.declared.derive.Derive.{Derive}
use Rattle.attr_parts.specs.declared.derive.Derive.TheVariants.{Serialize, Deserialize}
use Rattle.attr_defs.specs.Renames.{Meaning}
use Rattle.attr_defs.specs.Texts.{lexed}
use Rattle.container_defs.specs.Container.{ReadContainer}
use Rattle.container_defs.specs.Model.{model_of, diagnostics_of}
use Rattle.derive_model.specs.Items.{private, container_of, told_of}

-- ---- one item for one derive

pub one_put : {X Y : Type 0} (view : X → Y) (o : Option X) (x : X) (old new : List X) → o ≡ Some x → new ≡ old ++ x ∷ [] → map view new ≡ map view old ++ cons_option (option_map view o) []
one_put view o x old new s n = ap (map view) n ∙ map-append view old (x ∷ []) ∙ ap (λ p. map view old ++ cons_option (option_map view p) []) (sym s)

pub none_put : {X Y : Type 0} (view : X → Y) (o : Option X) (old : List X) → o ≡ None → map view old ≡ map view old ++ cons_option (option_map view o) []
none_put view o old s = sym (append-nil (map view old)) ∙ ap (λ p. map view old ++ cons_option (option_map view p) []) (sym s)

pub put_so : (v f : Meaning) (p : Name) (i : ItemD) (derive : Derive) (o : Option ReadContainer) (old new : List ReadContainer) → p ≡ private → o ≡ model_of lexed v f p i derive → new ≡ old ++ cons_option o []
    → new ≡ old ++ cons_option (container_of v f derive i) []
put_so v f p i derive o old new e h n = n ∙ ap (λ a. old ++ cons_option a []) (h ∙ ap (λ q. model_of lexed v f q i derive) e)

pub told_so : (v f : Meaning) (p : Name) (i : ItemD) (derive : Derive) (old new : List DiagnosticD) → p ≡ private → new ≡ old ++ diagnostics_of lexed v f p i derive → new ≡ old ++ diagnostics_of lexed v f private i derive
told_so v f p i derive old new e n = n ∙ ap (λ q. old ++ diagnostics_of lexed v f q i derive) e

-- for both
pub both_told : (v f : Meaning) (i : ItemD) (old mid new : List DiagnosticD)
    → mid ≡ old ++ diagnostics_of lexed v f private i Serialize → new ≡ mid ++ diagnostics_of lexed v f private i Deserialize → new ≡ old ++ told_of v f i
both_told v f i old mid new s d =
    d ∙ ap (λ l. l ++ diagnostics_of lexed v f private i Deserialize) s ∙ append_assoc old (diagnostics_of lexed v f private i Serialize) (diagnostics_of lexed v f private i Deserialize)

-- ---- item by item, each as it is seen

mapped_drop : {X Y : Type 0} (f : X → Y) (xs : List X) (k : ℕ) (x : X) → k < length xs → x ≡ get_or xs k x → map f (drop k xs) ≡ f x ∷ map f (drop (k + 1) xs)
mapped_drop f xs k x h e =
    let later : suc k ≡ k + 1 = omega arith in
    ap (map f) (drop-cons xs k x h) ∙ ap (λ y. f y ∷ map f (drop (suc k) xs)) (sym e) ∙ ap (λ n. f x ∷ map f (drop n xs)) later

one_before : {Z : Type 0} (o : Option Z) (zs : List Z) → cons_option o [] ++ zs ≡ cons_option o zs
one_before None zs = refl
one_before (Some z) zs = refl

module _ {X Y : Type 0} (view : X → Y) (xs : List X) (k : ℕ) (x : X) (h : k < length xs) (e : x ≡ get_or xs k x) where
  pub item_told : (told : Y → List DiagnosticD) (now new whole : List DiagnosticD) → new ≡ now ++ told (view x) → now ++ flat_map told (map view (drop k xs)) ≡ whole → new ++ flat_map told (map view (drop (k + 1) xs)) ≡ whole
  item_told told now new whole n was =
      ap (λ l. l ++ flat_map told (map view (drop (k + 1) xs))) n
      ∙ append_assoc now (told (view x)) (flat_map told (map view (drop (k + 1) xs)))
      ∙ ap (λ ys. now ++ flat_map told ys) (sym (mapped_drop view xs k x h e))
      ∙ was

  pub item_read : {Z : Type 0} (read : Y → Option Z) (old new whole : List Z) → new ≡ old ++ cons_option (read (view x)) [] → old ++ filter_map read (map view (drop k xs)) ≡ whole → new ++ filter_map read (map view (drop (k + 1) xs)) ≡ whole
  item_read read old new whole n was =
      ap (λ l. l ++ filter_map read (map view (drop (k + 1) xs))) n
      ∙ append_assoc old (cons_option (read (view x)) []) (filter_map read (map view (drop (k + 1) xs)))
      ∙ ap (λ l. old ++ l) (one_before (read (view x)) (filter_map read (map view (drop (k + 1) xs))))
      ∙ ap (λ ys. old ++ filter_map read ys) (sym (mapped_drop view xs k x h e))
      ∙ was

pub all_are_told : {X Y : Type 0} (view : X → Y) (xs : List X) (k : ℕ) (told : Y → List DiagnosticD) (now whole : List DiagnosticD) → length xs ≤ k → now ++ flat_map told (map view (drop k xs)) ≡ whole → now ≡ whole
all_are_told view xs k told now whole h was = sym (append-nil now) ∙ ap (λ ys. now ++ flat_map told (map view ys)) (sym (drop_all k xs h)) ∙ was

pub all_are_read : {X Y Z : Type 0} (view : X → Y) (xs : List X) (k : ℕ) (read : Y → Option Z) (done whole : List Z) → length xs ≤ k → done ++ filter_map read (map view (drop k xs)) ≡ whole → done ≡ whole
all_are_read view xs k read done whole h was = sym (append-nil done) ∙ ap (λ ys. done ++ filter_map read (map view ys)) (sym (drop_all k xs h)) ∙ was
