-- The first that is told of schemas, as the walk comes to them.
use Rattle.std.proofs.Common.{◌≡◌, ℕ, suc, ◌+◌, ◌<◌, length, get_or, drop, Bor, string_bytes, add-one, List, [], ◌∷◌, ◌++◌, map, Option, Some, None, option_map, Bool, true, false, bytes_eq, refl, sym, ap, ◌∙◌}
use Rattle.std.specs.Prelude.{if◌then◌else◌}
use Rattle.std.specs.List.{flat_map}
use Rattle.std.proofs.lemmas.List.{map-append, drop_more, at_drop_more}
use Rattle.std.proofs.lemmas.Grind.{flat_map-append}
use Rattle.serde_json.specs.View.{view, items_view, members_view}
use Rattle.serde_json.specs.declared.value.Value.{Value as Read}
use Rattle.serde_json.proofs.Views.{Entry}
use Rattle.json_value.specs.Value as value
use Rattle.json_value.specs.View.{value_of, items_of, members_of}
use Rattle.json_value.specs.Value.{Value, Members, null, number, fraction, text, list, member, no_members, member_at}
use Rattle.schema_defs.specs.Location.{Step, Location, place}
use Rattle.schema_faults.specs.declared.keyword.Holds.{Holds}
use Rattle.schema_faults.specs.declared.search.Search.{Search}
use Rattle.schema_faults.specs.Keywords.{Row, is_known_at}
use Rattle.schema_faults.specs.Schemas.{Node, here, below, under, held, held_items, held_members, held_at, nodes_in, nodes_at, nodes_of, list_nodes, object_nodes, inside_value, schema_nodes}
use Rattle.schema_faults.specs.Faults.{Place, Told, told_at, told_among, first}
use Rattle.schema_faults.specs.Table.{row_of}
use Rattle.schema_faults.specs.Search.{told_by, first_among}

abbrev pub or_first : {A : Type 0} → Option A → Option A → Option A
or_first None y = y
or_first (Some x) y = Some x

first-append : {A : Type 0} (xs ys : List A) → first (xs ++ ys) ≡ or_first (first xs) (first ys)
first-append [] ys = refl
first-append (x ∷ xs) ys = refl

first-map : {A B : Type 0} (g : A → B) (xs : List A) → first (map g xs) ≡ option_map g (first xs)
first-map g [] = refl
first-map g (x ∷ xs) = refl

-- a place as it is seen from one step before
abbrev pub step_under : Step → Place → Place
step_under s p = (s ∷ p.0, p.1)

module _ (f : Told) where
  texts_under : (s : Step) (l : Location) (ts : List (List ℕ)) → map (λ t. (s ∷ l, t)) ts ≡ map (step_under s) (map (λ t. (l, t)) ts)
  texts_under s l [] = refl
  texts_under s l (t ∷ ts) = ap (λ r. (s ∷ l, t) ∷ r) (texts_under s l ts)

  told_at-below : (s : Step) (n : Node) → told_at f (below s n) ≡ map (step_under s) (told_at f n)
  told_at-below s n = texts_under s n.steps (f n.at_root n.keyword n.value)

  told-under : (s : Step) (ns : List Node) → told_among f (under s ns) ≡ map (step_under s) (told_among f ns)
  told-under s [] = refl
  told-under s (n ∷ ns) = (λ i. told_at-below s n i ++ told-under s ns i) ∙ sym (map-append (step_under s) (told_at f n) (told_among f ns))

  pub first_under : (s : Step) (ns : List Node) → first (told_among f (under s ns)) ≡ option_map (step_under s) (first (told_among f ns))
  first_under s ns = ap first (told-under s ns) ∙ first-map (step_under s) (told_among f ns)

  pub among-append : (ms ns : List Node) → first (told_among f (ms ++ ns)) ≡ or_first (first (told_among f ms)) (first (told_among f ns))
  among-append ms ns = ap first (flat_map-append (told_at f) ms ns) ∙ first-append (told_among f ms) (told_among f ns)

  pub at_first : (b : Bool) (k : List ℕ) (v : Value) (ns : List Node) → first (told_among f (here b k v ∷ ns)) ≡ or_first (option_map (λ t. ([], t)) (first (f b k v))) (first (told_among f ns))
  at_first b k v ns =
      first-append (told_at f (here b k v)) (told_among f ns) ∙ ap (λ o. or_first o (first (told_among f ns))) (first-map (λ t. let p : Place = ([], t) in p) (f b k v))

module _ (s : Search) where
  -- what is told of a schema itself
  pub told_now : (b : Bool) (k t : List ℕ) (v : Value) (p : Place) → Some t ≡ first (told_by s b k v) → p ≡ ([], t) → Some p ≡ first_among s (schema_nodes b k v)
  told_now b k t v p h e = sym (at_first (told_by s) b k v (inside_value b v) ∙ ap (λ o. or_first (option_map (λ t. let p : Place = ([], t) in p) o) (first_among s (inside_value b v))) (sym h) ∙ ap Some (sym e))

  -- where nothing is, what is told inside it
  pub told_later : (b : Bool) (k : List ℕ) (v : Value) → None ≡ first (told_by s b k v) → first_among s (inside_value b v) ≡ first_among s (schema_nodes b k v)
  told_later b k v h = sym (at_first (told_by s) b k v (inside_value b v) ∙ ap (λ o. or_first (option_map (λ t. let p : Place = ([], t) in p) o) (first_among s (inside_value b v))) (sym h))

  -- one more of several schemas, one step below
  pub more_some : (k : Step) (ms ns : List Node) (p : Place) → Some p ≡ first_among s ms → first_among s (under k ms ++ ns) ≡ Some (step_under k p)
  more_some k ms ns p h =
      among-append (told_by s) (under k ms) ns ∙ ap (λ o. or_first o (first_among s ns)) (first_under (told_by s) k ms ∙ ap (option_map (step_under k)) (sym h))

  pub more_none : (k : Step) (ms ns : List Node) → None ≡ first_among s ms → first_among s (under k ms ++ ns) ≡ first_among s ns
  more_none k ms ns h =
      among-append (told_by s) (under k ms) ns ∙ ap (λ o. or_first o (first_among s ns)) (first_under (told_by s) k ms ∙ ap (option_map (step_under k)) (sym h))

  pub row_some : (f : Row → List Node) (r : Row) (rs : List Row) (p : Place) → Some p ≡ first_among s (f r) → first_among s (flat_map f (r ∷ rs)) ≡ Some p
  row_some f r rs p h = among-append (told_by s) (f r) (flat_map f rs) ∙ ap (λ o. or_first o (first_among s (flat_map f rs))) (sym h)

  pub row_none : (f : Row → List Node) (r : Row) (rs : List Row) → None ≡ first_among s (f r) → first_among s (flat_map f (r ∷ rs)) ≡ first_among s (flat_map f rs)
  row_none f r rs h = among-append (told_by s) (f r) (flat_map f rs) ∙ ap (λ o. or_first o (first_among s (flat_map f rs))) (sym h)

-- what a schema that is held by a keyword holds
pub nodes-held : (v : Value) (k : List ℕ) → (held v).nodes k ≡ schema_nodes false k v
nodes-held null k = refl
nodes-held (value.boolean b) k = refl
nodes-held (number z) k = refl
nodes-held fraction k = refl
nodes-held (text t) k = refl
nodes-held (list xs) k = refl
nodes-held (value.object ms) k = refl

chosen : (b : Bool) (v : Value) (o : Option Value) → (if b then Some (held v) else option_map held o) ≡ option_map held (if b then Some v else o)
chosen true v o = refl
chosen false v o = refl

pub held_at-member : (k : List ℕ) (ms : Members) → held_at k (held_members ms) ≡ option_map held (member_at k ms)
held_at-member k no_members = refl
held_at-member k (member l v ms) = ap (λ o. if bytes_eq k l then Some (held v) else o) (held_at-member k ms) ∙ chosen (bytes_eq k l) v (member_at k ms)

module _ (s : Search) (b : Bool) (ms : Members) (k : List ℕ) (h : Holds) (known : is_known_at b h ≡ true) where
  at_keyword : (o : Option Value) → o ≡ member_at k ms → nodes_of b (held_members ms) (k, h) ≡ nodes_at (k, h) (option_map held o)
  at_keyword o e = (λ i. if known i then nodes_at (k, h) (held_at k (held_members ms)) else []) ∙ ap (nodes_at (k, h)) (held_at-member k ms ∙ ap (option_map held) (sym e))

  pub keyword_none : None ≡ member_at k ms → None ≡ first_among s (nodes_of b (held_members ms) (k, h))
  keyword_none e = sym (ap (first_among s) (at_keyword None e))

  pub keyword_some : (v : Value) (p : Option Place) → Some v ≡ member_at k ms → p ≡ first_among s (nodes_in (k, h) (held v)) → option_map (step_under k) p ≡ first_among s (nodes_of b (held_members ms) (k, h))
  keyword_some v p e f = ap (option_map (step_under k)) f ∙ sym (first_under (told_by s) k (nodes_in (k, h) (held v))) ∙ sym (ap (first_among s) (at_keyword (Some v) e))

-- ---- one more row, item or member

module _ (s : Search) (f : Row → List Node) (rows : List (Bor (List ℕ) × Holds)) (i : ℕ) (d : Bor (List ℕ) × Holds) (lt : i < length rows) where
  abbrev from : List (Bor (List ℕ) × Holds) → Option Place
  from rs = first_among s (flat_map f (map row_of rs))

  pub rows_some : (p : Place) → Some p ≡ first_among s (f (row_of (get_or rows i d))) → from (drop i rows) ≡ Some p
  rows_some p h = at_drop_more from rows i d lt ∙ row_some s f (row_of (get_or rows i d)) (map row_of (drop (i + 1) rows)) p h

  pub rows_none : None ≡ first_among s (f (row_of (get_or rows i d))) → from (drop i rows) ≡ from (drop (i + 1) rows)
  rows_none h = at_drop_more from rows i d lt ∙ row_none s f (row_of (get_or rows i d)) (map row_of (drop (i + 1) rows)) h

module _ (s : Search) (k : List ℕ) (vs : List Read) (i : ℕ) (x : Read) (lt : i < length vs) (is : x ≡ get_or vs i x) where
  abbrev items_from : ℕ → List Read → Option Place
  items_from j ws = first_among s (list_nodes k j (held_items (items_of (items_view ws))))

  split : drop i vs ≡ x ∷ drop (i + 1) vs
  split = drop_more vs i x lt ∙ ap (λ z. z ∷ drop (i + 1) vs) (sym is)

  as_held : (o : Option Place) → o ≡ first_among s (schema_nodes false k (value_of (view x))) → o ≡ first_among s ((held (value_of (view x))).nodes k)
  as_held o h = h ∙ sym (ap (first_among s) (nodes-held (value_of (view x)) k))

  pub items_some : (p : Place) → Some p ≡ first_among s (schema_nodes false k (value_of (view x))) → items_from i (drop i vs) ≡ Some (step_under (place i) p)
  items_some p h = ap (items_from i) split ∙ more_some s (place i) ((held (value_of (view x))).nodes k) (list_nodes k (suc i) (held_items (items_of (items_view (drop (i + 1) vs))))) p (as_held (Some p) h)

  pub items_none : None ≡ first_among s (schema_nodes false k (value_of (view x))) → items_from i (drop i vs) ≡ items_from (i + 1) (drop (i + 1) vs)
  items_none h =
      ap (items_from i) split ∙ more_none s (place i) ((held (value_of (view x))).nodes k) (list_nodes k (suc i) (held_items (items_of (items_view (drop (i + 1) vs))))) (as_held None h)
      ∙ ap (λ j. items_from j (drop (i + 1) vs)) (sym (add-one i))

module _ (s : Search) (k : List ℕ) (e : Entry) (es : List Entry) where
  abbrev members_from : List Entry → Option Place
  members_from fs = first_among s (object_nodes k (held_members (members_of (members_view fs))))

  member_held : (o : Option Place) → o ≡ first_among s (schema_nodes false k (value_of (view e.1))) → o ≡ first_among s ((held (value_of (view e.1))).nodes k)
  member_held o h = h ∙ sym (ap (first_among s) (nodes-held (value_of (view e.1)) k))

  pub members_some : (p : Place) → Some p ≡ first_among s (schema_nodes false k (value_of (view e.1))) → members_from (e ∷ es) ≡ Some (step_under (string_bytes e.0) p)
  members_some p h = more_some s (string_bytes e.0) ((held (value_of (view e.1))).nodes k) (object_nodes k (held_members (members_of (members_view es)))) p (member_held (Some p) h)

  pub members_none : None ≡ first_among s (schema_nodes false k (value_of (view e.1))) → members_from (e ∷ es) ≡ members_from es
  members_none h = more_none s (string_bytes e.0) ((held (value_of (view e.1))).nodes k) (object_nodes k (held_members (members_of (members_view es)))) (member_held None h)
