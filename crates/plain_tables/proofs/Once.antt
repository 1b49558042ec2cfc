-- Names that are entered one after another: none comes twice exactly where each is new.
use Rattle.std.proofs.Common.{◌≡◌, ℕ, suc, ◌+◌, ◌≤◌, ◌<◌, List, [], ◌∷◌, map, filter, drop, length, get_or, cond, Bool, true, false, not, ◌&&◌, ◌||◌, Option, Some, None, is_some, if◌then◌else◌, bytes_eq, string_bytes, refl, sym, ap, ◌∙◌, true≢false, drop-cons, arith}
use Rattle.std.specs.List.{list_all}
use Rattle.std.proofs.lemmas.List.{drop_all}
use Rattle.std.proofs.lemmas.Cmp.{nat_list_eq_equiv}
use Rattle.name_tables.specs.Names.{Names, place_of, entered, put_in_order, comes_before}
use Rattle.model_defs.specs.Model.{FieldModel, VariantModel}
use Rattle.value_models.specs.declared.field.Field.{Field}
use Rattle.value_models.specs.declared.variant.Variant.{Variant}
use Rattle.value_models.specs.FieldView.{field_view, fields_view}
use Rattle.value_models.specs.VariantView.{variants_view}
use Rattle.describe_defs.specs.Plain.{serialize_names, stand_once}
use Rattle.described_types.specs.Seen.{is_picked}
use Rattle.plain_tables.specs.Apart.{is_entered, new_names}

-- ---- tests of all

module _ {A : Type 0} (P Q R : A → Bool) (each : (x : A) → R x ≡ (P x && Q x)) where
  pub all_split : (xs : List A) (s : Bool) → (list_all P xs && (list_all Q xs && s)) ≡ (list_all R xs && s)
  all_split [] s = refl
  all_split (x ∷ xs) s =
      shuffle (P x) (Q x) (list_all P xs) (list_all Q xs) s ∙ ap (λ b. (P x && Q x) && b) (all_split xs s) ∙ together (P x && Q x) (list_all R xs) s
      ∙ ap (λ b. (b && list_all R xs) && s) (sym (each x))
    where
      shuffle : (a b c d s : Bool) → ((a && c) && ((b && d) && s)) ≡ ((a && b) && (c && (d && s)))
      shuffle true true c d s = refl
      shuffle true false true d s = refl
      shuffle true false false d s = refl
      shuffle false b c d s = refl

      together : (a b c : Bool) → (a && (b && c)) ≡ ((a && b) && c)
      together true b c = refl
      together false b c = refl

-- ---- what is entered

found : (p : ℕ) (c : Bool) (o : Option ℕ) → is_some (if c then Some p else o) ≡ (c || is_some o)
found p true o = refl
found p false o = refl

behind : (p : ℕ) (c d : Bool) (o q : Option ℕ) → is_some q ≡ (c || is_some o) → is_some (if d then Some p else q) ≡ (c || is_some (if d then Some p else o))
behind p true true o q h = refl
behind p false true o q h = refl
behind p c false o q h = h

put_next : (m n : List ℕ) (p : ℕ) (e : List ℕ × ℕ) (es : Names) (b : Bool) → is_entered m (put_in_order n p es) ≡ (bytes_eq m n || is_entered m es)
    → is_entered m (if b then (n, p) ∷ e ∷ es else e ∷ put_in_order n p es) ≡ (bytes_eq m n || is_entered m (e ∷ es))
put_next m n p e es true h = found p (bytes_eq m n) (place_of m (e ∷ es))
put_next m n p e es false h = behind e.1 (bytes_eq m n) (bytes_eq m e.0) (place_of m es) (place_of m (put_in_order n p es)) h

put_finds : (m n : List ℕ) (p : ℕ) (t : Names) → is_entered m (put_in_order n p t) ≡ (bytes_eq m n || is_entered m t)
put_finds m n p [] = found p (bytes_eq m n) None
put_finds m n p (e ∷ es) = put_next m n p e es (comes_before n e.0) (put_finds m n p es)

pub entered_finds : (m n : List ℕ) (p : ℕ) (t : Names) → is_entered n t ≡ false → is_entered m (entered n p t) ≡ (bytes_eq m n || is_entered m t)
entered_finds m n p t h = ap (λ b. is_entered m (if b then t else put_in_order n p t)) h ∙ put_finds m n p t

-- ---- one name more

new_step : (t : Names) (n : List ℕ) (ns : List (List ℕ)) → is_entered n t ≡ false → new_names t (n ∷ ns) ≡ new_names (entered n 0 t) ns
new_step t n ns h =
    ap (λ b. (not b && list_all (λ m. not (is_entered m t)) ns) && (list_all (λ m. not (bytes_eq n m)) ns && stand_once ns)) h
    ∙ all_split (λ m. not (is_entered m t)) (λ m. not (bytes_eq n m)) (λ m. not (is_entered m (entered n 0 t))) each ns (stand_once ns)
  where
    neither : (a b : Bool) → not (a || b) ≡ (not b && not a)
    neither true true = refl
    neither true false = refl
    neither false true = refl
    neither false false = refl

    each : (m : List ℕ) → not (is_entered m (entered n 0 t)) ≡ (not (is_entered m t) && not (bytes_eq n m))
    each m = ap not (entered_finds m n 0 t h) ∙ neither (bytes_eq m n) (is_entered m t) ∙ ap (λ b. not (is_entered m t) && not b) (nat_list_eq_equiv.symm m n)

not_new : (t : Names) (n : List ℕ) (ns : List (List ℕ)) → is_entered n t ≡ true → new_names t (n ∷ ns) ≡ false
not_new t n ns h = ap (λ b. (not b && list_all (λ m. not (is_entered m t)) ns) && stand_once (n ∷ ns)) h

not_so : (b : Bool) → not b ≡ true → b ≡ false
not_so true h = absurd (true≢false (sym h))
not_so false h = refl

so : (b : Bool) → not b ≡ false → b ≡ true
so true h = refl
so false h = absurd (true≢false h)

begins_new : (ns : List (List ℕ)) → list_all (λ m. not (is_entered m [])) ns ≡ true
begins_new [] = refl
begins_new (n ∷ ns) = begins_new ns

-- with nothing entered
pub begins : (ns : List (List ℕ)) → stand_once ns ≡ new_names [] ns
begins ns = ap (λ b. b && stand_once ns) (sym (begins_new ns))

-- ---- fields

abbrev pub names_of : Bool → List FieldModel → List (List ℕ)
names_of all fs = serialize_names (filter (is_picked all) fs)

field_next : (all : Bool) (f : FieldModel) (fs : List FieldModel) (t new : Names) (p b : Bool) → b ≡ (not p || not (is_entered f.serialize_name t)) → b ≡ true
    → new ≡ (if p then entered f.serialize_name 0 t else t) → new_names t (serialize_names (cond p (f ∷ filter (is_picked all) fs) (filter (is_picked all) fs))) ≡ new_names new (names_of all fs)
field_next all f fs t new true b e h n = new_step t f.serialize_name (names_of all fs) (not_so (is_entered f.serialize_name t) (sym e ∙ h)) ∙ ap (λ z. new_names z (names_of all fs)) (sym n)
field_next all f fs t new false b e h n = ap (λ z. new_names z (names_of all fs)) (sym n)

field_halts : (all : Bool) (f : FieldModel) (fs : List FieldModel) (t : Names) (p b : Bool) → b ≡ (not p || not (is_entered f.serialize_name t)) → b ≡ false
    → new_names t (serialize_names (cond p (f ∷ filter (is_picked all) fs) (filter (is_picked all) fs))) ≡ false
field_halts all f fs t true b e h = not_new t f.serialize_name (names_of all fs) (so (is_entered f.serialize_name t) (sym e ∙ h))
field_halts all f fs t false b e h = absurd (true≢false (sym e ∙ h))

pub next : {A : Type 0} (xs : List A) (i : ℕ) (x : A) → i < length xs → x ≡ get_or xs i x → drop i xs ≡ x ∷ drop (i + 1) xs
next xs i x h e = drop-cons xs i x h ∙ ap (λ y. y ∷ drop (suc i) xs) (sym e) ∙ ap (λ n. x ∷ drop n xs) (let k : suc i ≡ i + 1 = omega arith in k)

pub field_turn : (all : Bool) (fs : List Field) (i : ℕ) (f : Field) (t new : Names) (b w : Bool) → i < length fs → f ≡ get_or fs i f
    → b ≡ (not (is_picked all (field_view f)) || not (is_entered (string_bytes f.serialize_name) t)) → b ≡ true
    → new ≡ (if is_picked all (field_view f) then entered (string_bytes f.serialize_name) 0 t else t)
    → w ≡ new_names t (names_of all (fields_view (drop i fs))) → w ≡ new_names new (names_of all (fields_view (drop (i + 1) fs)))
field_turn all fs i f t new b w h e a k n was =
    was ∙ ap (λ xs. new_names t (names_of all (fields_view xs))) (next fs i f h e) ∙ field_next all (field_view f) (fields_view (drop (i + 1) fs)) t new (is_picked all (field_view f)) b a k n

pub field_stop : (all : Bool) (fs : List Field) (i : ℕ) (f : Field) (t : Names) (b w : Bool) → i < length fs → f ≡ get_or fs i f
    → b ≡ (not (is_picked all (field_view f)) || not (is_entered (string_bytes f.serialize_name) t)) → b ≡ false → w ≡ new_names t (names_of all (fields_view (drop i fs))) → false ≡ w
field_stop all fs i f t b w h e a k was =
    sym (was ∙ ap (λ xs. new_names t (names_of all (fields_view xs))) (next fs i f h e) ∙ field_halts all (field_view f) (fields_view (drop (i + 1) fs)) t (is_picked all (field_view f)) b a k)

pub field_end : (all : Bool) (fs : List Field) (i : ℕ) (t : Names) (w : Bool) → length fs ≤ i → w ≡ new_names t (names_of all (fields_view (drop i fs))) → true ≡ w
field_end all fs i t w h was = sym (was ∙ ap (λ xs. new_names t (names_of all (fields_view xs))) (drop_all i fs h))

-- ---- variants

abbrev pub names_in : List VariantModel → List (List ℕ)
names_in ws = map (λ w. w.serialize_name) ws

pub variant_turn : (ws : List Variant) (i : ℕ) (x : Variant) (t new : Names) (b w : Bool) → i < length ws → x ≡ get_or ws i x → b ≡ not (is_entered (string_bytes x.serialize_name) t) → b ≡ true
    → new ≡ entered (string_bytes x.serialize_name) 0 t → w ≡ new_names t (names_in (variants_view (drop i ws))) → w ≡ new_names new (names_in (variants_view (drop (i + 1) ws)))
variant_turn ws i x t new b w h e a k n was =
    was ∙ ap (λ xs. new_names t (names_in (variants_view xs))) (next ws i x h e)
    ∙ new_step t (string_bytes x.serialize_name) (names_in (variants_view (drop (i + 1) ws))) (not_so (is_entered (string_bytes x.serialize_name) t) (sym a ∙ k))
    ∙ ap (λ z. new_names z (names_in (variants_view (drop (i + 1) ws)))) (sym n)

pub variant_stop : (ws : List Variant) (i : ℕ) (x : Variant) (t : Names) (b w : Bool) → i < length ws → x ≡ get_or ws i x → b ≡ not (is_entered (string_bytes x.serialize_name) t) → b ≡ false
    → w ≡ new_names t (names_in (variants_view (drop i ws))) → false ≡ w
variant_stop ws i x t b w h e a k was =
    sym (was ∙ ap (λ xs. new_names t (names_in (variants_view xs))) (next ws i x h e)
    ∙ not_new t (string_bytes x.serialize_name) (names_in (variants_view (drop (i + 1) ws))) (so (is_entered (string_bytes x.serialize_name) t) (sym a ∙ k)))

pub variant_end : (ws : List Variant) (i : ℕ) (t : Names) (w : Bool) → length ws ≤ i → w ≡ new_names t (names_in (variants_view (drop i ws))) → true ≡ w
variant_end ws i t w h was = sym (was ∙ ap (λ xs. new_names t (names_in (variants_view xs))) (drop_all i ws h))
