-- The lines of schemas that stand one step further, and of one more of several schemas.
use Rattle.std.proofs.Common.{◌≡◌, ℕ, suc, ◌+◌, ◌<◌, length, get_or, drop, Bor, string_bytes, add-one, List, [], ◌∷◌, ◌++◌, append_assoc, append-nil, map, Option, Some, None, option_map, Bool, true, false, bytes_eq, refl, sym, ap, ◌∙◌}
use Rattle.std.specs.Prelude.{codes, filter, if◌then◌else◌}
use Rattle.std.specs.List.{flat_map}
use Rattle.std.proofs.lemmas.List.{map-append, drop_more}
use Rattle.std.proofs.lemmas.Grind.{flat_map-append}
use Rattle.serde_json.specs.View.{view, items_view, members_view}
use Rattle.serde_json.specs.declared.value.Value.{Value as Read}
use Rattle.serde_json.proofs.Views.{Entry}
use Rattle.json_value.specs.Value.{Value, Members, member_at}
use Rattle.json_value.specs.View.{value_of, items_of, members_of}
use Rattle.schema_defs.specs.Location.{Step, Location, place}
use Rattle.schema_faults.specs.declared.keyword.Holds.{Holds}
use Rattle.schema_faults.specs.Keywords.{is_known_at}
use Rattle.schema_faults.specs.Schemas.{Node, here, below, under, held, held_items, held_members, held_at, nodes_in, nodes_at, nodes_of, list_nodes, object_nodes, inside_value, schema_nodes, schemas_of}
use Rattle.schema_faults.specs.Faults.{Place, told_at, told_among}
use Rattle.schema_faults.specs.Table.{row_of}
use Rattle.schema_faults.proofs.Walk.{nodes-held, held_at-member}
use Rattle.passed_keywords.specs.Passed.{has_name, passed_at, passed_line, passed_over, passed_text}
use Rattle.passed_keywords.specs.Lines.{behind, lines_of, name_lines, row_lines}

abbrev node_lines : Location → Node → List ℕ
node_lines l n = flat_map passed_line (map (behind l) (told_at passed_at n))

one_more : (l : Location) (n : Node) (ns : List Node) → lines_of l (n ∷ ns) ≡ node_lines l n ++ lines_of l ns
one_more l n ns =
    ap (flat_map passed_line) (map-append (behind l) (told_at passed_at n) (told_among passed_at ns))
    ∙ flat_map-append passed_line (map (behind l) (told_at passed_at n)) (map (behind l) (told_among passed_at ns))

lines_append : (l : Location) (ms ns : List Node) → lines_of l (ms ++ ns) ≡ lines_of l ms ++ lines_of l ns
lines_append l ms ns =
    ap (λ ps. flat_map passed_line (map (behind l) ps)) (flat_map-append (told_at passed_at) ms ns)
    ∙ ap (flat_map passed_line) (map-append (behind l) (told_among passed_at ms) (told_among passed_at ns))
    ∙ flat_map-append passed_line (map (behind l) (told_among passed_at ms)) (map (behind l) (told_among passed_at ns))

texts_behind : (l : Location) (s : Step) (m : Location) (ts : List (List ℕ))
    → flat_map passed_line (map (behind l) (map (λ t. (s ∷ m, t)) ts)) ≡ flat_map passed_line (map (behind (l ++ s ∷ [])) (map (λ t. (m, t)) ts))
texts_behind l s m [] = refl
texts_behind l s m (t ∷ ts) = λ i. passed_line (sym (append_assoc l (s ∷ []) m) i, t) ++ texts_behind l s m ts i

pub lines_under : (l : Location) (s : Step) (ns : List Node) → lines_of l (under s ns) ≡ lines_of (l ++ s ∷ []) ns
lines_under l s [] = refl
lines_under l s (n ∷ ns) =
    one_more l (below s n) (under s ns) ∙ (λ i. texts_behind l s n.steps (passed_at n.at_root n.keyword n.value) i ++ lines_under l s ns i) ∙ sym (one_more (l ++ s ∷ []) n ns)

texts_here : (l : Location) (ts : List (List ℕ)) → flat_map passed_line (map (behind l) (map (λ t. ([], t)) ts)) ≡ flat_map (λ n. passed_line (l, n)) ts
texts_here l [] = refl
texts_here l (t ∷ ts) = λ i. passed_line (append-nil l i, t) ++ texts_here l ts i

-- of a schema and of those inside it
pub schema_lines : (l : Location) (b : Bool) (k : List ℕ) (v : Value) → lines_of l (schema_nodes b k v) ≡ flat_map (λ n. passed_line (l, n)) (passed_at b k v) ++ lines_of l (inside_value b v)
schema_lines l b k v = one_more l (here b k v) (inside_value b v) ∙ (λ i. texts_here l (passed_at b k v) i ++ lines_of l (inside_value b v))

from_root : (ps : List Place) → map (behind []) ps ≡ ps
from_root [] = refl
from_root (p ∷ ps) = ap (λ qs. p ∷ qs) (from_root ps)

-- of a document
pub document_lines : (v : Value) → lines_of [] (schemas_of v) ≡ passed_text v
document_lines v = ap (flat_map passed_line) (from_root (told_among passed_at (schemas_of v)))

-- ---- names

chosen : (b : Bool) (x : List ℕ) (xs : List (List ℕ)) (l : Location) → (if b then passed_line (l, x) else []) ++ flat_map (λ n. passed_line (l, n)) xs ≡ flat_map (λ n. passed_line (l, n)) (if b then x ∷ xs else xs)
chosen true x xs l = refl
chosen false x xs l = refl

named : (ms : Members) (l : Location) (ns : List (Bor (List ℕ))) → flat_map (λ n. name_lines ms l n.now) ns ≡ flat_map (λ n. passed_line (l, n)) (filter (has_name ms) (map (λ n. n.now) ns))
named ms l [] = refl
named ms l (n ∷ ns) = ap (λ t. name_lines ms l n.now ++ t) (named ms l ns) ∙ chosen (has_name ms n.now) n.now (filter (has_name ms) (map (λ n. n.now) ns)) l

pub names_of_a_schema : (ms : Members) (l : Location) (ns : List (Bor (List ℕ))) → map (λ n. n.now) ns ≡ passed_over
    → flat_map (λ n. name_lines ms l n.now) ns ≡ flat_map (λ n. passed_line (l, n)) (filter (has_name ms) passed_over)
names_of_a_schema ms l ns e = named ms l ns ∙ ap (λ ks. flat_map (λ n. passed_line (l, n)) (filter (has_name ms) ks)) e

-- ---- rows

pub rows_lines : (l : Location) (b : Bool) (ms : Members) (rs : List (Bor (List ℕ) × Holds)) → flat_map (row_lines l b ms) rs ≡ lines_of l (flat_map (nodes_of b (held_members ms)) (map row_of rs))
rows_lines l b ms [] = refl
rows_lines l b ms (r ∷ rs) =
    ap (λ t. row_lines l b ms r ++ t) (rows_lines l b ms rs) ∙ sym (lines_append l (nodes_of b (held_members ms) (row_of r)) (flat_map (nodes_of b (held_members ms)) (map row_of rs)))

module _ (l : Location) (b : Bool) (ms : Members) (k : List ℕ) (h : Holds) (known : is_known_at b h ≡ true) where
  at_keyword : (o : Option Value) → o ≡ member_at k ms → nodes_of b (held_members ms) (k, h) ≡ nodes_at (k, h) (option_map held o)
  at_keyword o e = (λ i. if known i then nodes_at (k, h) (held_at k (held_members ms)) else []) ∙ ap (nodes_at (k, h)) (held_at-member k ms ∙ ap (option_map held) (sym e))

  pub keyword_none : None ≡ member_at k ms → lines_of l (nodes_of b (held_members ms) (k, h)) ≡ []
  keyword_none e = ap (lines_of l) (at_keyword None e)

  pub keyword_some : (v : Value) → Some v ≡ member_at k ms → lines_of (l ++ k ∷ []) (nodes_in (k, h) (held v)) ≡ lines_of l (nodes_of b (held_members ms) (k, h))
  keyword_some v e = sym (ap (lines_of l) (at_keyword (Some v) e) ∙ lines_under l k (nodes_in (k, h) (held v)))

-- ---- one more item or member

module _ (l : Location) (k : List ℕ) (vs : List Read) (i : ℕ) (x : Read) (lt : i < length vs) (is : x ≡ get_or vs i x) where
  pub items_from : lines_of l (list_nodes k i (held_items (items_of (items_view (drop i vs)))))
      ≡ lines_of l (under (place i) (schema_nodes false k (value_of (view x)))) ++ lines_of l (list_nodes k (i + 1) (held_items (items_of (items_view (drop (i + 1) vs)))))
  items_from =
      ap (λ ws. lines_of l (list_nodes k i (held_items (items_of (items_view ws))))) (drop_more vs i x lt ∙ ap (λ z. z ∷ drop (i + 1) vs) (sym is))
      ∙ lines_append l (under (place i) ((held (value_of (view x))).nodes k)) (list_nodes k (suc i) (held_items (items_of (items_view (drop (i + 1) vs)))))
      ∙ (λ j. lines_of l (under (place i) (nodes-held (value_of (view x)) k j)) ++ lines_of l (list_nodes k (sym (add-one i) j) (held_items (items_of (items_view (drop (i + 1) vs))))))

pub members_from : (l : Location) (k : List ℕ) (e : Entry) (es : List Entry) → lines_of l (object_nodes k (held_members (members_of (members_view (e ∷ es)))))
    ≡ lines_of l (under (string_bytes e.0) (schema_nodes false k (value_of (view e.1)))) ++ lines_of l (object_nodes k (held_members (members_of (members_view es))))
members_from l k e es =
    lines_append l (under (string_bytes e.0) ((held (value_of (view e.1))).nodes k)) (object_nodes k (held_members (members_of (members_view es))))
    ∙ (λ j. lines_of l (under (string_bytes e.0) (nodes-held (value_of (view e.1)) k j)) ++ lines_of l (object_nodes k (held_members (members_of (members_view es)))))
