-- The name in a reference, and the definition that it leads to.
use Rattle.std.proofs.Common.{◌≡◌, ◌≢◌, ℕ, suc, List, [], ◌∷◌, ◌++◌, ◌==◌, ◌≤◌, length, take, drop, map, Bool, true, false, ◌||◌, cond, Option, Some, None, option_map, MatchOption, Bor, String, Global, string_bytes, nat_cmp, bytes_eq, nat_eq, refl, sym, ap, ◌∙◌, true≢false, arith}
use Rattle.std.proofs.Math.Seq.{take-append_seam}
use Rattle.std.proofs.lemmas.List.{take-append-drop, drop_all}
use Rattle.std.proofs.lemmas.Bool.{false_from_ne_true, ne_eqb}
use Rattle.std.proofs.lemmas.Slice.Eq.{bytes_eq-Decides}
use Rattle.std.proofs.lemmas.Map.Text.{is_eq-slice_cmp}
use Rattle.std.specs.Cmp.Lexicographic.{slice_cmp}
use Rattle.std.specs.List.{starts_with, list_any}
use Rattle.std.specs.List.Sorted.{IsStrictlySortedBy}
use Rattle.std.specs.Prelude.{string_cmp}
use Rattle.std.specs.Map.{lookup, keys_of}
use Rattle.std.specs.BTreeMap.{is_at}
use Rattle.std.specs.Str.Pattern.{FindsTextPrefix, LacksTextAt, StripsPrefix}
use Rattle.schema_defs.specs.Schema as defs
use Rattle.schema_defs.specs.Location.{unescaped, after_tilde}
use Rattle.schema_defs.specs.Admits.{defined, without_prefix, definition_word, definition_location}
use Rattle.schema_defs.proofs.Guarded.{defined_named}
use Rattle.schema_defs.specs.Children.{definition_node, at_schema}
use Rattle.schema_defs.specs.Laws.{NamesRise}
use Rattle.json_value.specs.Value.{same_bool}
use Rattle.std.specs.Prelude.{if◌then◌else◌}
use Rattle.schema_types.specs.DocumentView.{definition_view, definitions_view, Placed, placed_view, placed_of}
use Rattle.schema_types.specs.declared.document.Definition.{Definition}

-- ---- prefixes

begins : (prefix s rest : List ℕ) → s ≡ prefix ++ rest → starts_with nat_eq s prefix ≡ true
begins prefix s rest e = (bytes_eq-Decides prefix (take (length prefix) s)).1 (sym (ap (take (length prefix)) e ∙ take-append_seam prefix rest))

begins_not : (prefix s : List ℕ) → LacksTextAt prefix s 0 → starts_with nat_eq s prefix ≡ false
begins_not prefix s lacks =
    false_from_ne_true (starts_with nat_eq s prefix)
    (λ e. lacks (drop (length prefix) s) (sym (take-append-drop (length prefix) s) ∙ ap (λ t. t ++ drop (length prefix) s) (sym ((bytes_eq-Decides prefix (take (length prefix) s)).0 e))))

pub stripped : (prefix s : List ℕ) (r : Option (Bor (List ℕ))) → MatchOption r (FindsTextPrefix prefix s None) (λ x. StripsPrefix (FindsTextPrefix prefix) s x.now)
    → option_map (λ x. x.now) r ≡ without_prefix prefix s
stripped prefix s None h = rw (begins_not prefix s h) refl
stripped prefix s (Some x) h = rw (begins prefix s (drop h.0 s) h.1.1) (ap Some (h.2 ∙ ap (λ k. drop k s) h.1.0))

-- ---- decoding

plain_step : (b a : Bool) (c : ℕ) (x y cs : List ℕ) → (b || a) ≡ false → (a ≡ false → y ≡ cs) → cond b x (c ∷ y) ≡ c ∷ cs
plain_step true a c x y cs h k = absurd (true≢false h)
plain_step false a c x y cs h k = ap (λ t. c ∷ t) (k h)

-- a text without `~` decodes to itself
pub plain_decodes : (s : List ℕ) → list_any (λ c. c == 126) s ≡ false → unescaped s ≡ s
plain_decodes [] h = refl
plain_decodes (c ∷ cs) h = plain_step (c == 126) (list_any (λ d. d == 126) cs) c (after_tilde cs) (unescaped cs) cs h (plain_decodes cs)

neither_empty : (b : Bool) (x y : List ℕ) → bytes_eq x [] ≡ false → bytes_eq y [] ≡ false → bytes_eq (cond b x y) [] ≡ false
neither_empty true x y h k = h
neither_empty false x y h k = k

tilde_decodes : (s : List ℕ) → bytes_eq (after_tilde s) [] ≡ false
tilde_decodes [] = refl
tilde_decodes (c ∷ cs) = neither_empty (c == 48) _ _ refl (neither_empty (c == 49) _ _ refl (neither_empty (c == 126) _ _ refl refl))

-- only the empty text decodes to the empty text
empty_decodes : (s : List ℕ) → (length s == 0) ≡ bytes_eq (unescaped s) []
empty_decodes [] = refl
empty_decodes (c ∷ cs) =
    let some : suc (length cs) ≢ 0 = omega arith in
    ne_eqb (suc (length cs)) 0 some ∙ sym (neither_empty (c == 126) (after_tilde cs) (c ∷ unescaped cs) (tilde_decodes cs) refl)

pub decoded_end : (left name : List ℕ) (i : ℕ) → length name ≤ i → (length left == 0) ≡ bytes_eq (unescaped left) (drop i name)
decoded_end left name i h = empty_decodes left ∙ ap (bytes_eq (unescaped left)) (sym (drop_all i name h))

-- ---- definitions by name

found_or : (b : Bool) (e : String Global × Definition) (x : Option Definition) (y : Option defs.Definition)
    → option_map placed_view x ≡ option_map placed_of y → option_map placed_view (cond b (Some e.1) x) ≡ option_map placed_of (cond b (Some (definition_view e)) y)
found_or true e x y h = refl
found_or false e x y h = h

pub placed-lookup : (name : List ℕ) (es : List (String Global × Definition))
    → option_map placed_view (lookup (is_at (λ k. slice_cmp nat_cmp name (string_bytes k))) es) ≡ option_map placed_of (defined name (definitions_view es))
placed-lookup name [] = refl
placed-lookup name (e ∷ es) = rw (is_eq-slice_cmp name (string_bytes e.0)) (found_or (bytes_eq name (string_bytes e.0)) e _ _ (placed-lookup name es))

pub placed_of_ref : (r : Option (Bor Definition)) → option_map (λ d. placed_view d.now) r ≡ option_map placed_view (option_map (λ d. d.now) r)
placed_of_ref None = refl
placed_of_ref (Some d) = refl

-- ---- definitions by location

abbrev pub placed_pair : Bool → defs.Schema → Placed
placed_pair u s = (u, s)

pub definition_placed : (b u : Bool) (s : defs.Schema) (o : Option defs.Definition) → Some (placed_pair u s) ≡ option_map placed_of o → definition_node b o ≡ (if same_bool u b then Some (at_schema s) else None)
definition_placed b u s None h = cc
definition_placed b u s (Some e) h =
    let same : placed_of e ≡ placed_pair u s = cc in
    λ i. if same_bool (same i).0 b then Some (at_schema (same i).1) else None

pub definition_absent : (b : Bool) (o : Option defs.Definition) → None ≡ option_map placed_of o → definition_node b o ≡ None
definition_absent b None h = refl
definition_absent b (Some e) h = cc

-- where a definition that is found stands
pub located : (n : List ℕ) (ds : List defs.Definition) (u : Bool) (s : defs.Schema) → Some (placed_pair u s) ≡ option_map placed_of (defined n ds) → Some (definition_word u ∷ n ∷ []) ≡ option_map definition_location (defined n ds)
located n ds u s h = by_found (defined n ds) refl h
  where
    by_found : (o : Option defs.Definition) → defined n ds ≡ o → Some (placed_pair u s) ≡ option_map placed_of o → Some (definition_word u ∷ n ∷ []) ≡ option_map definition_location o
    by_found None f h = cc
    by_found (Some e) f h =
        let same : placed_of e ≡ placed_pair u s = cc in
        λ i. Some (definition_word (sym same i).0 ∷ (defined_named n ds e f).0 i ∷ [])

pub not_located : (o : Option defs.Definition) → None ≡ option_map placed_of o → None ≡ option_map definition_location o
not_located None h = refl
not_located (Some e) h = cc

-- ---- names

pub names_of_view : (es : List (String Global × Definition)) → map string_bytes (keys_of es) ≡ map (λ e. e.name) (definitions_view es)
names_of_view [] = refl
names_of_view (e ∷ es) = ap (λ ns. string_bytes e.0 ∷ ns) (names_of_view es)

pub names_rise : (ks : List (String Global)) → IsStrictlySortedBy string_cmp ks → NamesRise (map string_bytes ks)
unfolding IsStrictlySortedBy
names_rise [] h = tt
names_rise (k ∷ []) h = (tt, tt)
names_rise (k ∷ l ∷ ks) h = (h.0.0, names_rise (l ∷ ks) h.1)
