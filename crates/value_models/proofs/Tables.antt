-- Tables of names, filled by one field, variant or container after another.
use Rattle.std.proofs.Common.{◌≡◌, ℕ, zero, suc, ◌+◌, ◌<◌, ◌≤◌, List, [], ◌∷◌, ◌++◌, map, drop, length, get_or, refl, sym, ap, ◌∙◌, arith, String, string_bytes, drop-cons, Option, Some, None, option_map, slice_get, Bor}
use Rattle.std.specs.Option.{option_copied}
use Rattle.std.specs.Slice.{IsItemAt}
use Rattle.std.proofs.lemmas.Option.{slice_get_past, slice_get_read}
use Rattle.std.specs.declared.alloc.Global.{Global}
use Rattle.std.proofs.lemmas.List.{drop_all}
use Rattle.model_defs.specs.Model.{FieldModel, VariantModel, ContainerModel, container_named}
use Rattle.name_tables.specs.Names.{Names, all_entered, entered, place_of}
use Rattle.name_tables.proofs.Names.{entered_are_scanned}
use Rattle.value_models.specs.Names.{at_one_place, names_at, field_names, variant_names, container_names, at_place}
use Rattle.value_models.proofs.Found.{containers_are_found}
use Rattle.value_models.specs.FieldView.{field_view, fields_view}
use Rattle.value_models.specs.VariantView.{variant_view, variants_view}
use Rattle.value_models.specs.ContainerView.{container_view, containers_view}
use Rattle.value_models.specs.declared.field.Field.{Field}
use Rattle.value_models.specs.declared.variant.Variant.{Variant}
use Rattle.value_models.specs.declared.container.Container.{Container}

pub entered_joined : (es ds t : Names) → all_entered (es ++ ds) t ≡ all_entered ds (all_entered es t)
entered_joined [] ds t = refl
entered_joined (e ∷ es) ds t = entered_joined es ds (entered e.0 e.1 t)

mapped_drop : {X Y : Type 0} → (f : X → Y) (xs : List X) (i : ℕ) (x : X) → i < length xs → x ≡ get_or xs i x → map f (drop i xs) ≡ f x ∷ map f (drop (i + 1) xs)
mapped_drop f xs i x h e =
    ap (map f) (drop-cons xs i x h) ∙ ap (λ y. f y ∷ map f (drop (suc i) xs)) (sym e) ∙ ap (λ n. f x ∷ map f (drop n xs)) (let k : suc i ≡ i + 1 = omega arith in k)

-- what is named one place after another: at each place some names
module _ {X Y : Type 0} (f : X → Y) (first : ℕ → Y → Names) (all : ℕ → List Y → Names) (none : (i : ℕ) → all i [] ≡ []) (more : (i : ℕ) (y : Y) (ys : List Y) → all i (y ∷ ys) ≡ first i y ++ all (suc i) ys) where
  pub turn : (xs : List X) (i : ℕ) (x : X) (t new w : Names) → i < length xs → x ≡ get_or xs i x → new ≡ all_entered (first i (f x)) t
      → all_entered (all i (map f (drop i xs))) t ≡ w → all_entered (all (i + 1) (map f (drop (i + 1) xs))) new ≡ w
  turn xs i x t new w h e n was =
      let rest = map f (drop (i + 1) xs) in
      let next : i + 1 ≡ suc i = omega arith in
      ap (λ s. all_entered (all (i + 1) rest) s) n
      ∙ ap (λ k. all_entered (all k rest) (all_entered (first i (f x)) t)) next
      ∙ sym (entered_joined (first i (f x)) (all (suc i) rest) t)
      ∙ ap (λ es. all_entered es t) (sym (more i (f x) rest))
      ∙ ap (λ ys. all_entered (all i ys) t) (sym (mapped_drop f xs i x h e))
      ∙ was

  pub end : (xs : List X) (i : ℕ) (t w : Names) → length xs ≤ i → all_entered (all i (map f (drop i xs))) t ≡ w → t ≡ w
  end xs i t w h was =
      sym (ap (λ es. all_entered es t) (none i)) ∙ ap (λ ys. all_entered (all i (map f ys)) t) (sym (drop_all i xs h)) ∙ was

pub field_turn : (xs : List Field) (i : ℕ) (x : Field) (t new w : Names) → i < length xs → x ≡ get_or xs i x → new ≡ all_entered (names_at i (field_view x)) t
    → all_entered (field_names i (fields_view (drop i xs))) t ≡ w → all_entered (field_names (i + 1) (fields_view (drop (i + 1) xs))) new ≡ w
field_turn = turn field_view names_at field_names (λ i. refl) (λ i y ys. refl)

pub field_end : (xs : List Field) (i : ℕ) (t w : Names) → length xs ≤ i → all_entered (field_names i (fields_view (drop i xs))) t ≡ w → t ≡ w
field_end = end field_view names_at field_names (λ i. refl) (λ i y ys. refl)

pub variant_turn : (xs : List Variant) (i : ℕ) (x : Variant) (t new w : Names) → i < length xs → x ≡ get_or xs i x → new ≡ all_entered (at_one_place i (map string_bytes x.deserialize_names.items)) t
    → all_entered (variant_names i (variants_view (drop i xs))) t ≡ w → all_entered (variant_names (i + 1) (variants_view (drop (i + 1) xs))) new ≡ w
variant_turn = turn variant_view (λ i w. at_one_place i w.deserialize_names) variant_names (λ i. refl) (λ i y ys. refl)

pub variant_end : (xs : List Variant) (i : ℕ) (t w : Names) → length xs ≤ i → all_entered (variant_names i (variants_view (drop i xs))) t ≡ w → t ≡ w
variant_end = end variant_view (λ i w. at_one_place i w.deserialize_names) variant_names (λ i. refl) (λ i y ys. refl)

pub container_turn : (xs : List Container) (i : ℕ) (x : Container) (t new w : Names) → i < length xs → x ≡ get_or xs i x → new ≡ all_entered (at_one_place i (string_bytes x.name ∷ [])) t
    → all_entered (container_names i (containers_view (drop i xs))) t ≡ w → all_entered (container_names (i + 1) (containers_view (drop (i + 1) xs))) new ≡ w
container_turn = turn container_view (λ i m. at_one_place i (m.name ∷ [])) container_names (λ i. refl) (λ i y ys. refl)

pub container_end : (xs : List Container) (i : ℕ) (t w : Names) → length xs ≤ i → all_entered (container_names i (containers_view (drop i xs))) t ≡ w → t ≡ w
container_end = end container_view (λ i m. at_one_place i (m.name ∷ [])) container_names (λ i. refl) (λ i y ys. refl)

-- several names at one place
pub name_turn : (xs : List (String Global)) (p i : ℕ) (x : String Global) (t new w : Names) → i < length xs → x ≡ get_or xs i x → new ≡ all_entered (at_one_place p (string_bytes x ∷ [])) t
    → all_entered (at_one_place p (map string_bytes (drop i xs))) t ≡ w → all_entered (at_one_place p (map string_bytes (drop (i + 1) xs))) new ≡ w
name_turn xs p = turn string_bytes (λ i n. at_one_place p (n ∷ [])) (λ i ns. at_one_place p ns) (λ i. refl) (λ i y ys. refl) xs

pub name_end : (xs : List (String Global)) (p i : ℕ) (t w : Names) → length xs ≤ i → all_entered (at_one_place p (map string_bytes (drop i xs))) t ≡ w → t ≡ w
name_end xs p = end string_bytes (λ i n. at_one_place p (n ∷ [])) (λ i ns. at_one_place p ns) (λ i. refl) (λ i y ys. refl) xs

-- ---- looking up

pub scanned : (n : List ℕ) (ds names : Names) (r : Option ℕ) → names ≡ all_entered ds [] → r ≡ place_of n names → r ≡ place_of n ds
scanned n ds names r e h = h ∙ ap (place_of n) e ∙ entered_are_scanned n ds

got_mapped : {X Y : Type 0} (f : X → Y) (xs : List X) (i : ℕ) → option_map f (slice_get xs i) ≡ slice_get (map f xs) i
got_mapped f [] i = refl
got_mapped f (x ∷ xs) zero = refl
got_mapped f (x ∷ xs) (suc i) = got_mapped f xs i

item_is_got : {X : Type 0} (xs : List X) (i : ℕ) (o : Option (Bor X)) → IsItemAt xs i o → option_copied o ≡ slice_get xs i
item_is_got xs i None h = sym (slice_get_past xs i h.3)
item_is_got xs i (Some x) h = sym (slice_get_read xs (length xs) i x.now refl h.3.0 h.1)

lent : {X Y : Type 0} (f : X → Y) (o : Option (Bor X)) → option_map (λ (x : Bor X). f x.now) o ≡ option_map f (option_copied o)
lent f None = refl
lent f (Some x) = refl

behind : {X Y : Type 0} (f : X → Y) (xs : List X) (i : ℕ) (o : Option (Bor X)) → option_copied o ≡ slice_get xs i → option_map (λ (x : Bor X). f x.now) o ≡ slice_get (map f xs) i
behind f xs i o h = lent f o ∙ ap (option_map f) h ∙ got_mapped f xs i

-- an item that is lent, seen as what it stands for
pub item_behind : {X Y : Type 0} (f : X → Y) (xs : List X) (i : ℕ) (o : Option (Bor X)) → IsItemAt xs i o → option_map (λ (x : Bor X). f x.now) o ≡ slice_get (map f xs) i
item_behind f xs i o h = behind f xs i o (item_is_got xs i o h)

pub container_found : (ms : List Container) (n : List ℕ) (p : ℕ) (o : Option (Bor Container))
    → Some p ≡ place_of n (container_names 0 (containers_view ms)) → IsItemAt ms p o → option_map (λ (m : Bor Container). container_view m.now) o ≡ container_named n (containers_view ms)
container_found ms n p o e h =
    item_behind container_view ms p o h ∙ ap (at_place (containers_view ms)) e ∙ sym (containers_are_found n (containers_view ms))

pub container_missing : (ms : List Container) (n : List ℕ) → None ≡ place_of n (container_names 0 (containers_view ms)) → None ≡ container_named n (containers_view ms)
container_missing ms n e = ap (at_place (containers_view ms)) e ∙ sym (containers_are_found n (containers_view ms))
