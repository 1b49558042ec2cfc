-- Listed texts, each once.
use Rattle.std.proofs.Common.{◌≡◌, ◌≤◌, ◌<◌, ◌+◌, ◌||◌, ◌&&◌, ℕ, List, [], ◌∷◌, length, map, Bool, true, false, not, cond, Option, Some, None, Vec, Global, String, string_bytes, bytes_eq, nat_cmp, drop, get_or, refl, ap, sym, ◌∙◌, arith}
use Rattle.std.specs.Prelude.{if◌then◌else◌, filter}
use Rattle.std.specs.List.{list_any}
use Rattle.std.specs.Ordering.{is_eq}
use Rattle.std.specs.Cmp.Lexicographic.{slice_cmp}
use Rattle.std.specs.BTreeSet.{BTreeSet, contains_text}
use Rattle.std.proofs.lemmas.Slice.Eq.{bytes_eq-Decides}
use Rattle.serde_json.specs.declared.value.Value as json
use Rattle.json_value.specs.Value.{Value, null, boolean, number, fraction, text, list, object}
use Rattle.schema_defs.specs.Texts.{Relations}
use Rattle.schema_defs.specs.Schema.{Texts}
use Rattle.schema_defs.specs.Layer.{if_given, texts_agree}
use Rattle.json_value.specs.View.{kept_view}
use Rattle.model_defs.specs.Layer.{is_null}
use Rattle.model_defs.specs.Model.{external_tag}
use Rattle.entry_defs.specs.Entry.{Entry, item, option_entry, unit_entry, enum_shape, Variants, no_variants, variant_then, unit_contents}
use Rattle.enum_defs.specs.Words.{as_text}
use Rattle.convert_defs.specs.Convert.{labeled}
use Rattle.convert_defs.specs.Scalars.{distinct, kept_texts, listed_entry, texts_in, unit_variants, non_null}
use Rattle.schema_defs.proofs.Turns.{mapped_drop}
use Rattle.row_findings.specs.declared.given.GivenValues.{GivenValues}
use Rattle.row_findings.specs.Given.{given_values_view}
use Rattle.tree_types.specs.View.{variants_then, variants_view, cases_of}
use Rattle.tree_types.specs.declared.tree.FieldHead.{FieldHead}
use Rattle.tree_types.specs.declared.tree.VariantHead.{VariantHead}
use Rattle.tree_types.specs.declared.tree.Tree.{Tree}
use Rattle.tree_parts.specs.Lists.{kept_after, kept_one}

-- ---- names

pub labeled_listed : (b : Bool) (n m : List ℕ) (ts : List (List ℕ)) → labeled n (listed_entry b m ts) ≡ listed_entry b n ts
labeled_listed true n m [] = refl
labeled_listed true n m (t ∷ ts) = refl
labeled_listed false n m [] = refl
labeled_listed false n m (t ∷ ts) = refl

-- ---- filters

filter_by : {X : Type 0} (p q : X → Bool) → ((x : X) → p x ≡ q x) → (xs : List X) → filter p xs ≡ filter q xs
filter_by p q h xs = ap (λ f. filter f xs) (λ i x. h x i)

twice-by : {X : Type 0} (p q : X → Bool) (x : X) (xs ys : List X) → filter p xs ≡ ys → (b c : Bool) → p x ≡ c → filter p (cond b (x ∷ xs) xs) ≡ cond (b && c) (x ∷ ys) ys
twice-by p q x xs ys h true c e = ap (λ d. cond d (x ∷ filter p xs) (filter p xs)) e ∙ ap (λ zs. cond c (x ∷ zs) zs) h
twice-by p q x xs ys h false c e = h

twice : {X : Type 0} (p q : X → Bool) (xs : List X) → filter p (filter q xs) ≡ filter (λ x. q x && p x) xs
twice p q [] = refl
twice p q (x ∷ xs) = twice-by p q x (filter q xs) (filter (λ y. q y && p y) xs) (twice p q xs) (q x) (p x) refl

-- ---- each once

not_same : (n m : List ℕ) → bytes_eq n m ≡ bytes_eq m n
not_same n m = same_answers (bytes_eq n m) (bytes_eq m n) (λ e. (bytes_eq-Decides m n).1 (sym ((bytes_eq-Decides n m).0 e))) (λ e. (bytes_eq-Decides n m).1 (sym ((bytes_eq-Decides m n).0 e)))
  where
    same_answers : (a b : Bool) → (a ≡ true → b ≡ true) → (b ≡ true → a ≡ true) → a ≡ b
    same_answers true b f g = sym (f refl)
    same_answers false true f g = g refl
    same_answers false false f g = refl

-- what fails the test is left out anyway
left_out : (p : List ℕ → Bool) (n : List ℕ) → p n ≡ false → (m : List ℕ) → (not (bytes_eq n m) && p m) ≡ p m
left_out p n h m = by (bytes_eq n m) refl
  where
    by : (b : Bool) → bytes_eq n m ≡ b → (not b && p m) ≡ p m
    by true e = sym (ap p (sym ((bytes_eq-Decides n m).0 e)) ∙ h)
    by false e = refl

turned : (a b : Bool) → (a && b) ≡ (b && a)
turned true true = refl
turned true false = refl
turned false true = refl
turned false false = refl

abbrev distinct-case : Bool → List ℕ → List (List ℕ) → List (List ℕ)
distinct-case g n es = cond g (n ∷ filter (λ m. not (bytes_eq n m)) es) es

distinct-step : (g : Bool) (n : List ℕ) (ns : List (List ℕ)) → distinct (cond g (n ∷ ns) ns) ≡ distinct-case g n (distinct ns)
distinct-step true n ns = refl
distinct-step false n ns = refl

module _ (meets : List ℕ → Bool) where
  abbrev passes : (List ℕ → Bool) → List ℕ → Bool
  passes seen m = not (seen m) && meets m

  abbrev also : List ℕ → (List ℕ → Bool) → List ℕ → Bool
  also n seen m = bytes_eq m n || seen m

  also_passes : (n : List ℕ) (seen : List ℕ → Bool) (m : List ℕ) → (not (bytes_eq n m) && passes seen m) ≡ passes (also n seen) m
  also_passes n seen m = ap (λ b. not b && passes seen m) (not_same n m) ∙ by (bytes_eq m n) (seen m) (meets m)
    where
      by : (a b c : Bool) → (not a && (not b && c)) ≡ (not (a || b) && c)
      by true b c = refl
      by false b c = refl

  first-by : (n : List ℕ) (seen : List ℕ → Bool) (ds ks ls : List (List ℕ)) (s g : Bool) → seen n ≡ s → meets n ≡ g
      → ks ≡ filter (passes seen) ds → ls ≡ filter (passes (also n seen)) ds
      → (if s then ks else if g then n ∷ ls else ls) ≡ cond (not s && g) (n ∷ filter (passes seen) (filter (λ m. not (bytes_eq n m)) ds)) (filter (passes seen) (filter (λ m. not (bytes_eq n m)) ds))
  first-by n seen ds ks ls true g e f hk hl =
      hk ∙ sym (twice (passes seen) (λ m. not (bytes_eq n m)) ds ∙ filter_by (λ m. not (bytes_eq n m) && passes seen m) (passes seen) (left_out (passes seen) n (ap (λ b. not b && meets n) e)) ds)
  first-by n seen ds ks ls false true e f hk hl =
      ap (λ zs. n ∷ zs) (hl ∙ sym (twice (passes seen) (λ m. not (bytes_eq n m)) ds ∙ filter_by (λ m. not (bytes_eq n m) && passes seen m) (passes (also n seen)) (also_passes n seen) ds))
  first-by n seen ds ks ls false false e f hk hl =
      hl ∙ sym (twice (passes seen) (λ m. not (bytes_eq n m)) ds ∙ filter_by (λ m. not (bytes_eq n m) && passes seen m) (passes (also n seen)) (also_passes n seen) ds)

  kept_is : (seen : List ℕ → Bool) (ns : List (List ℕ)) → kept_after meets seen ns ≡ filter (passes seen) (distinct ns)
  kept_is seen [] = refl
  kept_is seen (n ∷ ns) = first-by n seen (distinct ns) (kept_after meets seen ns) (kept_after meets (also n seen) ns) (seen n) (meets n) refl refl (kept_is seen ns) (kept_is (also n seen) ns)

  -- a test before or after
  distinct-by : (n : List ℕ) (ds es : List (List ℕ)) (g : Bool) → meets n ≡ g → es ≡ filter meets ds
      → distinct-case g n es ≡ cond g (n ∷ filter meets (filter (λ m. not (bytes_eq n m)) ds)) (filter meets (filter (λ m. not (bytes_eq n m)) ds))
  distinct-by n ds es true e h =
      ap (λ zs. n ∷ filter (λ m. not (bytes_eq n m)) zs) h ∙ ap (λ zs. n ∷ zs) (twice (λ m. not (bytes_eq n m)) meets ds ∙ filter_by (λ m. meets m && not (bytes_eq n m)) (λ m. not (bytes_eq n m) && meets m) (λ m. turned (meets m) (not (bytes_eq n m))) ds ∙ sym (twice meets (λ m. not (bytes_eq n m)) ds))
  distinct-by n ds es false e h = h ∙ sym (twice meets (λ m. not (bytes_eq n m)) ds ∙ filter_by (λ m. not (bytes_eq n m) && meets m) meets (left_out meets n e) ds)

  distinct_is : (ns : List (List ℕ)) → distinct (filter meets ns) ≡ filter meets (distinct ns)
  distinct_is [] = refl
  distinct_is (n ∷ ns) = distinct-step (meets n) n (filter meets ns) ∙ distinct-by n (distinct ns) (distinct (filter meets ns)) (meets n) refl (distinct_is ns)

  -- nothing was seen before
  pub kept_whole : (seen : List ℕ → Bool) → ((m : List ℕ) → seen m ≡ false) → (ns : List (List ℕ)) → kept_after meets seen ns ≡ distinct (filter meets ns)
  kept_whole seen h ns = kept_is seen ns ∙ filter_by (passes seen) meets (λ m. ap (λ b. not b && meets m) (h m)) (distinct ns) ∙ sym (distinct_is ns)

-- ---- nulls left out

texts-less : (vs : List Value) → texts_in (non_null vs) ≡ texts_in vs
texts-less [] = refl
texts-less (null ∷ vs) = texts-less vs
texts-less (boolean b ∷ vs) = texts-less vs
texts-less (number z ∷ vs) = texts-less vs
texts-less (fraction ∷ vs) = texts-less vs
texts-less (text s ∷ vs) = ap (λ ns. s ∷ ns) (texts-less vs)
texts-less (list xs ∷ vs) = texts-less vs
texts-less (object ms ∷ vs) = texts-less vs

pub given_texts : (v : GivenValues) → texts_in (given_values_view v) ≡ texts_in (map kept_view v.listed.now.items)
given_texts v = by v.less_nulls (map kept_view v.listed.now.items)
  where
    by : (less : Bool) (vs : List Value) → texts_in (if less then non_null vs else vs) ≡ texts_in vs
    by true vs = texts-less vs
    by false vs = refl

pub given_kept : (r : Relations) (t : Option Texts) (v : GivenValues) → kept_texts r t (given_values_view v) ≡ kept_texts r t (map kept_view v.listed.now.items)
given_kept r t v = ap (λ ns. distinct (filter (λ s. if_given (texts_agree r s) t) ns)) (given_texts v)

-- ---- the tree of texts

units_none : (ns : List (List ℕ)) → no_variants ≡ unit_variants ns → ns ≡ []
units_none [] h = refl
units_none (n ∷ ns) h = cc

pub texts_alone : (name : List ℕ) (ws : Variants) (ns : List (List ℕ)) → ws ≡ unit_variants ns → item name (enum_shape false external_tag ws) ≡ listed_entry false name ns
texts_alone name ws [] h = ap (λ vs. item name (enum_shape false external_tag vs)) h
texts_alone name ws (n ∷ ns) h = ap (λ vs. item name (enum_shape false external_tag vs)) h

pub null_alone : (name : List ℕ) (ws : List (VariantHead × Vec (FieldHead × Option Tree) Global)) → ws ≡ [] → (ns : List (List ℕ)) → variants_view external_tag (cases_of ws) ≡ unit_variants ns → unit_entry ≡ listed_entry true name ns
null_alone name ws e ns h = ap (listed_entry true name) (sym (units_none ns (ap (λ vs. variants_view external_tag (cases_of vs)) (sym e) ∙ h)))

pub texts_and_null : (name : List ℕ) (ws : List (VariantHead × Vec (FieldHead × Option Tree) Global)) → 1 ≤ length ws → (ns : List (List ℕ)) → variants_view external_tag (cases_of ws) ≡ unit_variants ns
    → option_entry (item name (enum_shape false external_tag (variants_view external_tag (cases_of ws)))) ≡ listed_entry true name ns
texts_and_null name [] some ns h = absurd (omega (arith, some))
texts_and_null name (w ∷ ws) some [] h = cc
texts_and_null name (w ∷ ws) some (n ∷ ns) h = ap (λ vs. option_entry (item name (enum_shape false external_tag vs))) h

-- ---- one value more

pub no_text : (v : Value) (vs : List Value) → None ≡ as_text v → texts_in (v ∷ vs) ≡ texts_in vs
no_text null vs h = refl
no_text (boolean b) vs h = refl
no_text (number z) vs h = refl
no_text fraction vs h = refl
no_text (text s) vs h = cc
no_text (list xs) vs h = refl
no_text (object ms) vs h = refl

pub one_text : (v : Value) (s : List ℕ) (vs : List Value) → Some s ≡ as_text v → texts_in (v ∷ vs) ≡ s ∷ texts_in vs
one_text null s vs h = cc
one_text (boolean b) s vs h = cc
one_text (number z) s vs h = cc
one_text fraction s vs h = cc
one_text (text t) s vs h = ap (λ n. n ∷ texts_in vs) (let e : s ≡ t = cc in sym e)
one_text (list xs) s vs h = cc
one_text (object ms) s vs h = cc

-- a text more: what is kept of it, and then what is kept of the others
kept-by : (meets : List ℕ → Bool) (old new : List ℕ → Bool) (n : List ℕ) (ns : List (List ℕ)) (s g : Bool) → old n ≡ s → meets n ≡ g
    → ((m : List ℕ) → new m ≡ (bytes_eq m n || old m))
    → (if s then unit_variants (kept_after meets new ns) else if g then variant_then n n unit_contents (unit_variants (kept_after meets new ns)) else unit_variants (kept_after meets new ns))
    ≡ unit_variants (if s then kept_after meets old ns else if g then n ∷ kept_after meets (λ m. bytes_eq m n || old m) ns else kept_after meets (λ m. bytes_eq m n || old m) ns)
kept-by meets old new n ns true g e f h = ap (λ t. unit_variants (kept_after meets t ns)) (λ i m. (h m ∙ seen_already m) i)
  where
    seen_already : (m : List ℕ) → (bytes_eq m n || old m) ≡ old m
    seen_already m = by (bytes_eq m n) refl
      where
        by : (b : Bool) → bytes_eq m n ≡ b → (b || old m) ≡ old m
        by true q = sym (ap old ((bytes_eq-Decides m n).0 q) ∙ e)
        by false q = refl
kept-by meets old new n ns false true e f h = ap (λ t. variant_then n n unit_contents (unit_variants (kept_after meets t ns))) (λ i m. h m i)
kept-by meets old new n ns false false e f h = ap (λ t. unit_variants (kept_after meets t ns)) (λ i m. h m i)

pub text_more : (meets : List ℕ → Bool) (old new : List ℕ → Bool) (n : List ℕ) (ns : List (List ℕ)) → ((m : List ℕ) → new m ≡ (bytes_eq m n || old m))
    → kept_one meets old n (unit_variants (kept_after meets new ns)) ≡ unit_variants (kept_after meets old (n ∷ ns))
text_more meets old new n ns h = kept-by meets old new n ns (old n) (meets n) refl refl h

-- nothing was seen yet
pub kept_first : (r : Relations) (t : Option Texts) (seen : List ℕ → Bool) (vs : List Value) → ((m : List ℕ) → seen m ≡ false)
    → unit_variants (kept_after (λ s. if_given (texts_agree r s) t) seen (texts_in vs)) ≡ unit_variants (kept_texts r t vs)
kept_first r t seen vs h = ap unit_variants (kept_whole (λ s. if_given (texts_agree r s) t) seen h (texts_in vs))

-- ---- what the calls give, put together

pub listed_whole : (r : Relations) (t : Option Texts) (v : GivenValues) (name : List ℕ) (b : Bool) (ws : Variants) (e : Entry)
    → b ≡ list_any is_null (given_values_view v) → ws ≡ unit_variants (kept_texts r t (map kept_view v.listed.now.items))
    → ((ns : List (List ℕ)) → ws ≡ unit_variants ns → e ≡ listed_entry b name ns)
    → e ≡ listed_entry (list_any is_null (given_values_view v)) name (kept_texts r t (given_values_view v))
listed_whole r t v name b ws e h k f =
    f (kept_texts r t (map kept_view v.listed.now.items)) k ∙ (λ i. listed_entry (h i) name (sym (given_kept r t v) i))

pub constant_kept : (r : Relations) (t : Option Texts) (s : List ℕ) (b : Bool) (ws : Variants) → b ≡ if_given (texts_agree r s) t
    → ws ≡ (if b then variant_then s s unit_contents no_variants else no_variants) → ws ≡ unit_variants (kept_texts r t (text s ∷ []))
constant_kept r t s b ws h k = k ∙ by b ∙ ap (λ c. unit_variants (distinct (cond c (s ∷ []) []))) h
  where
    by : (c : Bool) → (if c then variant_then s s unit_contents no_variants else no_variants) ≡ unit_variants (distinct (cond c (s ∷ []) []))
    by true = refl
    by false = refl

pub seen_before : (meets seen : List ℕ → Bool) (n : List ℕ) → seen n ≡ true → (more : Variants) → more ≡ kept_one meets seen n more
seen_before meets seen n h more = ap (λ b. if b then more else if meets n then variant_then n n unit_contents more else more) (sym h)

pub seen_first : (meets seen : List ℕ → Bool) (n : List ℕ) (b : Bool) → seen n ≡ false → b ≡ meets n → (more : Variants)
    → (if b then variant_then n n unit_contents more else more) ≡ kept_one meets seen n more
seen_first meets seen n b h k more =
    ap (λ c. if c then variant_then n n unit_contents more else more) k ∙ ap (λ c. if c then more else if meets n then variant_then n n unit_contents more else more) (sym h)

pub seen_same : (seen : List ℕ → Bool) (n : List ℕ) → seen n ≡ true → (m : List ℕ) → seen m ≡ (bytes_eq m n || seen m)
seen_same seen n h m = by (bytes_eq m n) refl
  where
    by : (b : Bool) → bytes_eq m n ≡ b → seen m ≡ (b || seen m)
    by true q = ap seen ((bytes_eq-Decides m n).0 q) ∙ h
    by false q = refl

-- a value more: it is no text, or it is one
pub value_none : (meets seen : List ℕ → Bool) (ws : List (VariantHead × Vec (FieldHead × Option Tree) Global)) (v : Value) → None ≡ as_text v → (vs : List Value)
    → variants_then external_tag (cases_of ws) (unit_variants (kept_after meets seen (texts_in vs))) ≡ variants_then external_tag (cases_of ws) (unit_variants (kept_after meets seen (texts_in (v ∷ vs))))
value_none meets seen ws v h vs = ap (λ ns. variants_then external_tag (cases_of ws) (unit_variants (kept_after meets seen ns))) (sym (no_text v vs h))

pub value_text : (meets old new : List ℕ → Bool) (ws us : List (VariantHead × Vec (FieldHead × Option Tree) Global)) (v : Value) (n : List ℕ) → Some n ≡ as_text v
    → ((more : Variants) → variants_then external_tag (cases_of us) more ≡ variants_then external_tag (cases_of ws) (kept_one meets old n more))
    → ((m : List ℕ) → new m ≡ (bytes_eq m n || old m)) → (vs : List Value)
    → variants_then external_tag (cases_of us) (unit_variants (kept_after meets new (texts_in vs))) ≡ variants_then external_tag (cases_of ws) (unit_variants (kept_after meets old (texts_in (v ∷ vs))))
value_text meets old new ws us v n h f g vs =
    f (unit_variants (kept_after meets new (texts_in vs)))
    ∙ ap (variants_then external_tag (cases_of ws)) (text_more meets old new n (texts_in vs) g ∙ ap (λ ns. unit_variants (kept_after meets old ns)) (sym (one_text v n vs h)))

-- a turn of the loop over the values
pub value_turn : (r q : Relations) (t : Option Texts) (old new : List ℕ → Bool) (ws us : List (VariantHead × Vec (FieldHead × Option Tree) Global)) (whole : Variants) (values rest : List Value) (v : Value)
    → r ≡ q → values ≡ v ∷ rest
    → ((vs : List Value) → variants_then external_tag (cases_of us) (unit_variants (kept_after (λ s. if_given (texts_agree r s) t) new (texts_in vs)))
    ≡ variants_then external_tag (cases_of ws) (unit_variants (kept_after (λ s. if_given (texts_agree r s) t) old (texts_in (v ∷ vs)))))
    → variants_then external_tag (cases_of ws) (unit_variants (kept_after (λ s. if_given (texts_agree q s) t) old (texts_in values))) ≡ whole
    → variants_then external_tag (cases_of us) (unit_variants (kept_after (λ s. if_given (texts_agree q s) t) new (texts_in rest))) ≡ whole
value_turn r q t old new ws us whole values rest v same e f h =
    ap (λ p. variants_then external_tag (cases_of us) (unit_variants (kept_after (λ s. if_given (texts_agree p s) t) new (texts_in rest)))) (sym same)
    ∙ f rest
    ∙ (λ i. variants_then external_tag (cases_of ws) (unit_variants (kept_after (λ s. if_given (texts_agree (same i) s) t) old (texts_in (sym e i)))))
    ∙ h

-- a set that is empty has no text
pub none_seen : {Y : Type 0} (s : BTreeSet (String Y)) → s.keys ≡ [] → (m : List ℕ) → contains_text s m ≡ false
none_seen s e m = ap (list_any (λ k. is_eq (slice_cmp nat_cmp m (string_bytes k)))) e

-- the next of the listed values, and the others
pub values_drop : (xs ys : List json.Value) (i : ℕ) (x : json.Value) → xs ≡ ys → i < length xs → x ≡ get_or xs i x → map kept_view (drop i ys) ≡ kept_view x ∷ map kept_view (drop (i + 1) ys)
values_drop xs ys i x e lt h = ap (λ zs. map kept_view (drop i zs)) (sym e) ∙ mapped_drop kept_view xs i x lt h ∙ ap (λ zs. kept_view x ∷ map kept_view (drop (i + 1) zs)) e

-- before the first value
pub kept_init : (r : Relations) (t : Option Texts) (ws : List (VariantHead × Vec (FieldHead × Option Tree) Global)) (seen : List ℕ → Bool) (vs : List Value) → ws ≡ [] → ((m : List ℕ) → seen m ≡ false)
    → variants_then external_tag (cases_of ws) (unit_variants (kept_after (λ s. if_given (texts_agree r s) t) seen (texts_in vs))) ≡ unit_variants (kept_texts r t vs)
kept_init r t ws seen vs e h =
    ap (λ us. variants_then external_tag (cases_of us) (unit_variants (kept_after (λ s. if_given (texts_agree r s) t) seen (texts_in vs)))) e ∙ kept_first r t seen vs h
