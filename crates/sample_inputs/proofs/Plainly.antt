-- The document of a sample is plain at its depth.
use Rattle.std.proofs.Common.{◌≡◌, inl, inr, ℕ, zero, suc, ◌+◌, ◌*◌, ◌-◌, ◌%◌, ◌<◌, ◌≤◌, ◌^◌, ◌==◌, List, [], ◌∷◌, ◌++◌, map, length, Bool, true, false, ◌&&◌, ◌||◌, not, cond, codes, decimal, refl, sym, ap, subst, ◌∙◌, ne_eqb, Some, arith}
use Rattle.std.specs.Prelude.{nat_le, option_map, is_some, is_none}
use Rattle.std.specs.List.{list_all, AllByRecursion}
use Rattle.std.proofs.lemmas.Fmt.{decimal_by_steps}
use Rattle.std.proofs.lemmas.Slice.Eq.{bytes_eq-Decides}
use Rattle.schema_defs.specs.Location.{unescaped, after_tilde}
use Rattle.schema_defs.specs.Schema.{Schema, Document}
use Rattle.schema_defs.specs.Admits.{defined, target, allowed}
use Rattle.schema_defs.specs.Counts.{schema_nodes, nodes}
use Rattle.schema_defs.specs.References.{same_references, none_or, ends_within, is_guarded}
use Rattle.enum_defs.specs.Kinds.{kinds_at, kinds_referred, followed, null_free}
use Rattle.plain_defs.specs.Plain.{IsPlain, has_rows}
use Rattle.plain_defs.specs.Rows.{Inner, plain_row, plain_option, plain_struct, is_row_and_null, plain_item, rows_within, definition_row}
use Rattle.describe_defs.specs.Plain.{stand_once}
use Rattle.describe_defs.specs.Description.{EntryD, alone, of_kind, list_of, null_schema, nullable, object_of, never, in_order, definition_of}
use Rattle.describe_defs.proofs.Objects.{names}
use Rattle.schema_defs.specs.declared.InstanceType.TheVariants.{Text, Integer}
use Rattle.describe_defs.proofs.Ordered.{bytes_turned, found, defined_ordered}
use Rattle.describe_defs.proofs.Guards.{order_each}
use Rattle.describe_laws.proofs.Sizes.{total, definitions_total, order_total}
use Rattle.describe_laws.proofs.PlainObjects.{both, or_left, Holds, flagged_row}
use Rattle.describe_laws.proofs.PlainTypes.{by_p8, by_p10}
use Rattle.sample_inputs.specs.Sample.{numbers_from, sample_name, sample_depth}
use Rattle.sample_inputs.specs.Document.{SamplesArePlain, reference_schema, kind_schema, pair_schema, required, optional, entries_of, definition_schema, schema_entry, sample_document}
use Rattle.sample_inputs.proofs.Rings.{names_apart}
use Rattle.sample_inputs.proofs.AsDocument.{sample_read}

-- ---- names have no tilde

abbrev IsUntilded : ℕ → Type 0
IsUntilded c = c < 126

joined : (ds : List ℕ) (c : ℕ) → AllByRecursion IsUntilded ds → IsUntilded c → AllByRecursion IsUntilded (ds ++ c ∷ [])
joined [] c h k = (k, tt)
joined (d ∷ ds) c h k = (h.0, joined ds c h.1 k)

digits_untilded : (n : ℕ) → n < 2 ^ 64 → AllByRecursion IsUntilded (decimal n)
digits_untilded = decimal_by_steps (λ n ds. AllByRecursion IsUntilded ds) (λ n h. (omega arith, tt)) (λ n ds l h. joined ds (48 + n % 10) h (omega arith))

untilded : (cs : List ℕ) → AllByRecursion IsUntilded cs → unescaped cs ≡ cs
untilded [] h = refl
untilded (c ∷ cs) h =
    let low = h.0 in
    (λ t. cond (ne_eqb c 126 (λ e. omega (arith, low, e)) t) (after_tilde cs) (c ∷ unescaped cs)) ∙ ap (λ ds. c ∷ ds) (untilded cs h.1)

unescaped_name : (i : ℕ) → i < 2 ^ 64 → unescaped (sample_name i) ≡ sample_name i
unescaped_name i h = untilded (sample_name i) (omega arith, digits_untilded i h)

-- ---- what references lead to

module _ {A : Type 0} (f : ℕ → A) where
  abbrev named : List ℕ → List (List ℕ × A)
  named is = map (λ i. (sample_name i, f i)) is

  -- the one that stands at place k
  found_at : (k i j m : ℕ) → i ≡ j + k → k < m → j + m ≤ 2 ^ 64 → found (sample_name i) (named (numbers_from j m)) ≡ Some (f i)
  found_at k i j zero e h l = absurd (omega (arith, h))
  found_at zero i j (suc m) e h l =
      let same : i ≡ j = omega (arith, e) in
      (λ t. cond ((bytes_eq-Decides (sample_name i) (sample_name j)).1 (ap sample_name same) t) (Some (f j)) (found (sample_name i) (named (numbers_from (suc j) m))))
      ∙ ap (λ k. Some (f k)) (sym same)
  found_at (suc k) i j (suc m) e h l =
      let apart = bytes_turned (sample_name i) (sample_name j) ∙ names_apart j i (omega (arith, e)) (omega (arith, e, h, l)) in
      (λ t. cond (apart t) (Some (f j)) (found (sample_name i) (named (numbers_from (suc j) m))))
      ∙ found_at k i (suc j) m (omega (arith, e)) (omega (arith, h)) (omega (arith, l))

module _ (n : ℕ) (some : 1 ≤ n) (small : n < 2 ^ 32) where
  abbrev d : Document
  d = sample_document n

  target_found : (i : ℕ) → i < n → target d (codes "#/definitions/" ++ sample_name i) ≡ Some (definition_schema n i)
  target_found i h =
      ap (λ z. option_map (λ e. e.body) (defined z d.definitions)) (unescaped_name i (omega (arith, h, small)))
      ∙ defined_ordered (sample_name i) (map (schema_entry n) (numbers_from 0 n))
      ∙ found_at (definition_schema n) i i 0 n (omega arith) h (omega (arith, small))

  next_target : (i : ℕ) → target d (codes "#/definitions/" ++ sample_name ((i + 1) % n)) ≡ Some (definition_schema n ((i + 1) % n))
  next_target i = target_found ((i + 1) % n) (omega (arith, some))

  first_target : target d (codes "#/definitions/" ++ sample_name 0) ≡ Some (definition_schema n 0)
  first_target = target_found 0 (omega (arith, some))

  -- ---- guarded: no definition refers to another at one value

  no_references : (b c : Bool) (next : ℕ) → same_references (object_of (entries_of b c next) never) ≡ []
  no_references true c next = refl
  no_references false true next = refl
  no_references false false next = refl

  ends : (k : ℕ) (s : Schema) → same_references s ≡ [] → ends_within d k s ≡ true
  ends zero s e = ap (λ qs. list_all (λ q. is_none (target d q)) qs) e
  ends (suc k) s e = ap (λ qs. list_all (λ q. none_or (ends_within d k) (target d q)) qs) e

  definition_ends : (k i : ℕ) → ends_within d k (definition_schema n i) ≡ true
  definition_ends k i = ends k (definition_schema n i) (no_references (i % 3 == 0) (i % 3 == 1) ((i + 1) % n))

  root_ends : (k : ℕ) → ends_within d (suc k) (reference_schema 0) ≡ true
  root_ends k = (λ t. none_or (ends_within d k) (first_target t) && true) ∙ (λ t. definition_ends k 0 t && true)

  bodies_end : (k : ℕ) (is : List ℕ) → list_all (λ e. ends_within d k e.1) (map (schema_entry n) is) ≡ true
  bodies_end k [] = refl
  bodies_end k (i ∷ is) = (λ t. definition_ends k i t && list_all (λ e. ends_within d k e.1) (map (schema_entry n) is)) ∙ bodies_end k is

  as_targets : (p : Schema → Bool) (es : List (List ℕ × Schema)) → list_all p (map (λ e. e.body) (map definition_of es)) ≡ list_all (λ e. p e.1) es
  as_targets p [] = refl
  as_targets p (e ∷ es) = ap (λ z. p e.1 && z) (as_targets p es)

  guarded : is_guarded d ≡ true
  guarded =
      let k = allowed d in
      let es = map (schema_entry n) (numbers_from 0 n) in
      both (ends_within d k d.root) _ (root_ends (length d.definitions)) (as_targets (ends_within d k) (in_order es) ∙ order_each (λ e. ends_within d k e.1) es ∙ bodies_end k (numbers_from 0 n))

  -- ---- the number of schemas

  few_by : (b c : Bool) (next : ℕ) → schema_nodes (object_of (entries_of b c next) never) ≤ 9
  few_by true c next = let e : schema_nodes (object_of (entries_of true c next) never) ≡ 7 = refl in omega (arith, e)
  few_by false true next = let e : schema_nodes (object_of (entries_of false true next) never) ≡ 9 = refl in omega (arith, e)
  few_by false false next = let e : schema_nodes (object_of (entries_of false false next) never) ≡ 9 = refl in omega (arith, e)

  few : (is : List ℕ) → total (map (schema_entry n) is) ≤ 9 * length is
  few [] = omega arith
  few (i ∷ is) =
      let here = few_by (i % 3 == 0) (i % 3 == 1) ((i + 1) % n) in
      let rec = few is in
      omega (arith, here, rec)

  as_many : (i m : ℕ) → length (numbers_from i m) ≡ m
  as_many i zero = refl
  as_many i (suc m) = ap suc (as_many (suc i) m)

  within : nodes d ≤ sample_depth n
  within =
      let es = map (schema_entry n) (numbers_from 0 n) in
      let e = definitions_total (in_order es) ∙ order_total es in
      let l = few (numbers_from 0 n) in
      let c = as_many 0 n in
      let r : schema_nodes d.root ≡ 1 = refl in
      omega (arith, e, l, c, r)

  -- ---- rows

  abbrev R : ℕ → Inner
  R k = rows_within d k

  reference_row : (inner : Inner) (i : ℕ) → i < n → plain_row d inner (reference_schema i) ≡ true
  reference_row inner i h = by_p10 d inner (reference_schema i) (λ t. is_some (target_found i h t) && true)

  first_null_free : null_free d (reference_schema 0) ≡ true
  first_null_free = λ t. not ((followed (kinds_at (kinds_referred d (length d.definitions))) (first_target t)).null && true)

  option_row : (inner : Inner) (s : Schema) → inner.row s ≡ true → null_free d s ≡ true → plain_option d inner (nullable s) ≡ true
  option_row inner s h k = λ t. ((h t && (k t && true)) || is_row_and_null d inner null_schema s) && true

  abbrev entries_with : ℕ → EntryD → List EntryD
  entries_with i e = optional "next" (reference_schema i) ∷ optional "tags" (list_of (alone (of_kind Text))) ∷ e ∷ []

  with_extra : (k i : ℕ) (e : EntryD) → i < n → stand_once (names (required "id" (alone (of_kind Integer)) ∷ entries_with i e)) ≡ true → Holds d (R (suc (suc (suc k)))) e
      → plain_struct d (R (suc (suc (suc k)))) (object_of (required "id" (alone (of_kind Integer)) ∷ entries_with i e) never) ≡ true
  with_extra k i e h o x =
      flagged_row d (R (suc (suc (suc k)))) (required "id" (alone (of_kind Integer))) (entries_with i e) never refl o
      (inl refl, (inl (reference_row (R (suc (suc k))) i h), (inl refl, (x, tt))))

  struct_row : (k : ℕ) (b c : Bool) (i : ℕ) → i < n → plain_struct d (R (suc (suc (suc k)))) (object_of (entries_of b c i) never) ≡ true
  struct_row k true c i h = with_extra k i (optional "kind" kind_schema) h refl (inl refl)
  struct_row k false true i h =
      with_extra k i (optional "owner" (nullable (reference_schema 0))) h refl
      (inr (refl, option_row (R (suc (suc k))) (reference_schema 0) (reference_row (R (suc k)) 0 (omega (arith, some))) first_null_free))
  struct_row k false false i h = with_extra k i (optional "pair" pair_schema) h refl (inl refl)

  definition_rows : (k : ℕ) (is : List ℕ) → list_all (λ e. definition_row d (suc (suc (suc (suc k)))) e.1) (map (schema_entry n) is) ≡ true
  definition_rows k [] = refl
  definition_rows k (i ∷ is) =
      let inner = R (suc (suc (suc k))) in
      let s = definition_schema n i in
      both _ _ (or_left (plain_row d inner s) (plain_item d inner s) (by_p8 d inner s (struct_row k (i % 3 == 0) (i % 3 == 1) ((i + 1) % n) (omega (arith, some))))) (definition_rows k is)

  bodies : (p : Schema → Bool) (es : List (List ℕ × Schema)) → list_all (λ e. p e.body) (map definition_of es) ≡ list_all (λ e. p e.1) es
  bodies p [] = refl
  bodies p (e ∷ es) = ap (λ z. p e.1 && z) (bodies p es)

  rows_at : (k : ℕ) → has_rows d (suc (suc (suc (suc k)))) ≡ true
  rows_at k =
      let row = definition_row d (suc (suc (suc (suc k)))) in
      let es = map (schema_entry n) (numbers_from 0 n) in
      both ((R (suc (suc (suc (suc k))))).row d.root) _ (reference_row (R (suc (suc (suc k)))) 0 (omega (arith, some)))
      (bodies row (in_order es) ∙ order_each (λ e. row e.1) es ∙ definition_rows k (numbers_from 0 n))

  rows : has_rows d (sample_depth n) ≡ true
  rows = subst (λ k. has_rows d k ≡ true) (let e : suc (suc (suc (suc (9 * n - 3)))) ≡ 9 * n + 1 = omega (arith, some) in e) (rows_at (9 * n - 3))

  plain : IsPlain d (sample_depth n)
  plain = both (is_guarded d) _ guarded (both (nat_le (nodes d) (sample_depth n)) _ (grind (arith, within)) rows)

pub samples_plain : SamplesArePlain
samples_plain n some small = (sample_read n small, plain n some small)
