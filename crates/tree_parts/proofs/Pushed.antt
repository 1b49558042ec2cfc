-- Lists of fields, of places and of variants with one more at their end.
use Rattle.std.proofs.Common.{◌≡◌, ◌≢◌, ◌<◌, ◌-◌, ℕ, zero, suc, ◌+◌, List, [], ◌∷◌, ◌++◌, length, map, take, get_or, true, false, Bor, Option, Some, None, Vec, Global, codes, refl, ap, sym, ◌∙◌, arith}
use Rattle.std.proofs.Math.Seq.{take-suc, take-length}
use Rattle.std.proofs.lemmas.List.{map-append}
use Rattle.model_defs.specs.Model.{TagModel, external_tag, internal_tag, adjacent_tag, untagged}
use Rattle.entry_defs.specs.Entry.{Entry, Entries, no_entries, entry_then, entry_again, Fields, no_fields, field_then, field_again, rest_field, State, required, Variants, variant_then}
use Rattle.naming_defs.specs.Names.{name_by}
use Rattle.convert_defs.specs.Convert.{alike_fields, alike_entries}
use Rattle.row_findings.specs.View.{state_view}
use Rattle.tree_types.specs.View.{label_view, places_then, fields_view, variants_then, contents_view, tree_view, parts_of, cases_of}
use Rattle.tree_types.specs.declared.tree.FieldHead.{FieldHead}
use Rattle.tree_types.specs.declared.tree.VariantHead.{VariantHead}
use Rattle.tree_types.specs.declared.tree.ContentKind.{ContentKind}
use Rattle.tree_types.specs.declared.tree.Tree.{Tree}
use Rattle.tree_parts.specs.Lists.{fields_again, places_again}

-- ---- fields

fields_front : (xs : List (FieldHead × Option Tree)) (y : FieldHead × Option Tree) (more : Fields) → fields_view (parts_of (xs ++ y ∷ [])) more ≡ fields_view (parts_of xs) (fields_view (parts_of (y ∷ [])) more)
fields_front [] y more = refl
fields_front ((h, None) ∷ xs) y more = ap (field_again (label_view h.label) h.label.wanted.now) (fields_front xs y more)
fields_front ((h, Some t) ∷ xs) y more = ap (field_then (label_view h.label) h.label.wanted.now (tree_view t) (state_view h.state)) (fields_front xs y more)

pub field_pushed : (xs ys : List (FieldHead × Option Tree)) (h : FieldHead) (t : Tree) (n : List ℕ) (s : State) → ys ≡ xs ++ (h, Some t) ∷ [] → label_view h.label ≡ n → h.label.wanted.now ≡ n → state_view h.state ≡ s
    → (more : Fields) → fields_view (parts_of ys) more ≡ fields_view (parts_of xs) (field_then n n (tree_view t) s more)
field_pushed xs ys h t n s e a b c more =
    ap (λ zs. fields_view (parts_of zs) more) e ∙ fields_front xs (h, Some t) more ∙ (λ i. fields_view (parts_of xs) (field_then (a i) (b i) (tree_view t) (c i) more))

again_pushed : (xs ys : List (FieldHead × Option Tree)) (h : FieldHead) (n : List ℕ) → ys ≡ xs ++ (h, None) ∷ [] → label_view h.label ≡ n → h.label.wanted.now ≡ n
    → (more : Fields) → fields_view (parts_of ys) more ≡ fields_view (parts_of xs) (field_again n n more)
again_pushed xs ys h n e a b more =
    ap (λ zs. fields_view (parts_of zs) more) e ∙ fields_front xs (h, None) more ∙ (λ i. fields_view (parts_of xs) (field_again (a i) (b i) more))

again_last : (ns : List (List ℕ)) (n : List ℕ) (more : Fields) → fields_again (ns ++ n ∷ []) more ≡ fields_again ns (field_again n n more)
again_last [] n more = refl
again_last (m ∷ ns) n more = ap (field_again m m) (again_last ns n more)

-- a turn of the loop
pub fields_turn : (whole xs ys : List (FieldHead × Option Tree)) (names : List (Bor (List ℕ))) (i : ℕ) (d : Bor (List ℕ)) (h : FieldHead) → i < length names
    → ys ≡ xs ++ (h, None) ∷ [] → label_view h.label ≡ (get_or names i d).now → h.label.wanted.now ≡ (get_or names i d).now
    → ((more : Fields) → fields_view (parts_of xs) more ≡ fields_view (parts_of whole) (fields_again (map (λ n. n.now) (take i names)) more))
    → (more : Fields) → fields_view (parts_of ys) more ≡ fields_view (parts_of whole) (fields_again (map (λ n. n.now) (take (suc i) names)) more)
fields_turn whole xs ys names i d h lt e a b inv more =
    again_pushed xs ys h (get_or names i d).now e a b more
    ∙ inv (field_again (get_or names i d).now (get_or names i d).now more)
    ∙ ap (fields_view (parts_of whole)) (sym (again_last (map (λ n. n.now) (take i names)) (get_or names i d).now more))
    ∙ ap (λ ns. fields_view (parts_of whole) (fields_again ns more)) (sym (ap (map (λ n. n.now)) (take-suc names i d lt) ∙ map-append (λ n. n.now) (take i names) (get_or names i d ∷ [])))

-- ---- fields of one entry

kept_rest : (ns : List (List ℕ)) (e : Entry) → fields_again ns (rest_field (codes "extra") e) ≡ alike_fields ns true e
kept_rest [] e = refl
kept_rest (n ∷ []) e = refl
kept_rest (n ∷ m ∷ ns) e = ap (field_again n n) (kept_rest (m ∷ ns) e)

no_rest : (ns : List (List ℕ)) (n : List ℕ) (e : Entry) → fields_again ns (field_then n n e required no_fields) ≡ alike_fields (ns ++ n ∷ []) false e
no_rest [] n e = refl
no_rest (m ∷ []) n e = refl
no_rest (m ∷ k ∷ ns) n e = ap (field_again m m) (no_rest (k ∷ ns) n e)

pub rest_whole : (whole xs : List (FieldHead × Option Tree)) (names : List (Bor (List ℕ))) (e : Entry) (fs : Fields)
    → ((more : Fields) → fields_view (parts_of xs) more ≡ fields_view (parts_of whole) (fields_again (map (λ n. n.now) (take (length names) names)) more))
    → fs ≡ rest_field (codes "extra") e
    → fields_view (parts_of xs) fs ≡ fields_view (parts_of whole) (alike_fields (map (λ n. n.now) names) true e)
rest_whole whole xs names e fs f h =
    f fs ∙ ap (λ ns. fields_view (parts_of whole) (fields_again (map (λ n. n.now) ns) fs)) (take-length names)
    ∙ ap (λ gs. fields_view (parts_of whole) (fields_again (map (λ n. n.now) names) gs)) h
    ∙ ap (fields_view (parts_of whole)) (kept_rest (map (λ n. n.now) names) e)

pub last_none : (whole : List (FieldHead × Option Tree)) (names : List (Bor (List ℕ))) (e : Entry) → length names ≡ 0 → fields_view (parts_of whole) no_fields ≡ fields_view (parts_of whole) (alike_fields (map (λ n. n.now) names) false e)
last_none whole [] e h = refl
last_none whole (n ∷ ns) e h = absurd (omega (arith, h))

-- the last of the names with the entry
pub last_whole : (whole xs ys : List (FieldHead × Option Tree)) (names : List (Bor (List ℕ))) (t : Tree) (k : ℕ) (d : Bor (List ℕ)) → k + 1 ≡ length names → d ≡ get_or names k d
    → ((more : Fields) → fields_view (parts_of xs) more ≡ fields_view (parts_of whole) (fields_again (map (λ n. n.now) (take k names)) more))
    → ((more : Fields) → fields_view (parts_of ys) more ≡ fields_view (parts_of xs) (field_then d.now d.now (tree_view t) required more))
    → fields_view (parts_of ys) no_fields ≡ fields_view (parts_of whole) (alike_fields (map (λ n. n.now) names) false (tree_view t))
last_whole whole xs ys names t k d h e f g =
    let all : suc k ≡ length names = omega (arith, h) in
    g no_fields ∙ f (field_then d.now d.now (tree_view t) required no_fields)
    ∙ ap (fields_view (parts_of whole)) (no_rest (map (λ m. m.now) (take k names)) d.now (tree_view t))
    ∙ ap (λ n. fields_view (parts_of whole) (alike_fields (map (λ m. m.now) (take k names) ++ n.now ∷ []) false (tree_view t))) e
    ∙ ap (λ ns. fields_view (parts_of whole) (alike_fields ns false (tree_view t)))
    (sym (map-append (λ m. m.now) (take k names) (get_or names k d ∷ [])) ∙ ap (map (λ m. m.now)) (sym (take-suc names k d (omega (arith, h))) ∙ ap (λ j. take j names) all ∙ take-length names))

-- ---- places

places_front : (xs : List (FieldHead × Option Tree)) (y : FieldHead × Option Tree) (more : Entries) → places_then (parts_of (xs ++ y ∷ [])) more ≡ places_then (parts_of xs) (places_then (parts_of (y ∷ [])) more)
places_front [] y more = refl
places_front ((h, None) ∷ xs) y more = ap entry_again (places_front xs y more)
places_front ((h, Some t) ∷ xs) y more = ap (entry_then (tree_view t)) (places_front xs y more)

pub place_pushed : (xs ys : List (FieldHead × Option Tree)) (h : FieldHead) (t : Tree) → ys ≡ xs ++ (h, Some t) ∷ []
    → (more : Entries) → places_then (parts_of ys) more ≡ places_then (parts_of xs) (entry_then (tree_view t) more)
place_pushed xs ys h t e more = ap (λ zs. places_then (parts_of zs) more) e ∙ places_front xs (h, Some t) more

places_last : (n : ℕ) (more : Entries) → places_again (suc n) more ≡ places_again n (entry_again more)
places_last zero more = refl
places_last (suc n) more = ap entry_again (places_last n more)

pub places_turn : (whole xs ys : List (FieldHead × Option Tree)) (i : ℕ) (h : FieldHead) → ys ≡ xs ++ (h, None) ∷ []
    → ((more : Entries) → places_then (parts_of xs) more ≡ places_then (parts_of whole) (places_again i more))
    → (more : Entries) → places_then (parts_of ys) more ≡ places_then (parts_of whole) (places_again (suc i) more)
places_turn whole xs ys i h e inv more =
    ap (λ zs. places_then (parts_of zs) more) e ∙ places_front xs (h, None) more ∙ inv (entry_again more) ∙ ap (places_then (parts_of whole)) (sym (places_last i more))

pub alike_last : (n : ℕ) (e : Entry) → places_again n (entry_then e no_entries) ≡ alike_entries (suc n) e
alike_last zero e = refl
alike_last (suc n) e = ap entry_again (alike_last n e)

pub alike_none : (whole : List (FieldHead × Option Tree)) (n : ℕ) (e : Entry) → n ≡ 0 → places_then (parts_of whole) no_entries ≡ places_then (parts_of whole) (alike_entries n e)
alike_none whole n e h = ap (λ k. places_then (parts_of whole) (alike_entries k e)) (sym h)

alike-before : (n : ℕ) (e : Entry) → n ≢ 0 → places_again (n - 1) (entry_then e no_entries) ≡ alike_entries n e
alike-before zero e h = absurd (h refl)
alike-before (suc n) e h = let m : suc n - 1 ≡ n = omega arith in ap (λ k. places_again k (entry_then e no_entries)) m ∙ alike_last n e

-- so many less one, and then the entry
pub alike_whole : (whole xs ys : List (FieldHead × Option Tree)) (n : ℕ) (t : Tree) → n ≢ 0
    → ((more : Entries) → places_then (parts_of xs) more ≡ places_then (parts_of whole) (places_again (n - 1) more))
    → ((more : Entries) → places_then (parts_of ys) more ≡ places_then (parts_of xs) (entry_then (tree_view t) more))
    → places_then (parts_of ys) no_entries ≡ places_then (parts_of whole) (alike_entries n (tree_view t))
alike_whole whole xs ys n t h f g = g no_entries ∙ f (entry_then (tree_view t) no_entries) ∙ ap (places_then (parts_of whole)) (alike-before n (tree_view t) h)

-- ---- variants

named_by : (tag : TagModel) (n : List ℕ) → name_by tag n n ≡ n
named_by external_tag n = refl
named_by (internal_tag t) n = refl
named_by (adjacent_tag t c) n = refl
named_by untagged n = refl

variants_front : (tag : TagModel) (ws : List (VariantHead × Vec (FieldHead × Option Tree) Global)) (v : VariantHead × Vec (FieldHead × Option Tree) Global) (more : Variants)
    → variants_then tag (cases_of (ws ++ v ∷ [])) more ≡ variants_then tag (cases_of ws) (variants_then tag (cases_of (v ∷ [])) more)
variants_front tag [] v more = refl
variants_front tag ((h, ps) ∷ ws) v more = ap (variant_then (label_view h.label) (name_by tag (label_view h.label) h.label.wanted.now) (contents_view h.kind (parts_of ps.items))) (variants_front tag ws v more)

pub variant_pushed : (ws vs : List (VariantHead × Vec (FieldHead × Option Tree) Global)) (h : VariantHead) (ps : Vec (FieldHead × Option Tree) Global) (n : List ℕ) (k : ContentKind)
    → vs ≡ ws ++ (h, ps) ∷ [] → label_view h.label ≡ n → h.label.wanted.now ≡ n → h.kind ≡ k
    → (tag : TagModel) (more : Variants) → variants_then tag (cases_of vs) more ≡ variants_then tag (cases_of ws) (variant_then n n (contents_view k (parts_of ps.items)) more)
variant_pushed ws vs h ps n k e a b c tag more =
    ap (λ us. variants_then tag (cases_of us) more) e ∙ variants_front tag ws (h, ps) more
    ∙ (λ i. variants_then tag (cases_of ws) (variant_then (a i) (name_by tag (a i) (b i)) (contents_view (c i) (parts_of ps.items)) more))
    ∙ ap (λ m. variants_then tag (cases_of ws) (variant_then n m (contents_view k (parts_of ps.items)) more)) (named_by tag n)
