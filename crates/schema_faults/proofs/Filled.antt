-- With a number for each fraction a value is malformed where it was, and holds no fraction.
use Rattle.std.proofs.Common.{◌≡◌, ℕ, suc, List, [], ◌∷◌, ◌++◌, map, Option, Some, None, option_map, Bool, true, false, ◌&&◌, ◌||◌, bytes_eq, true≢false, refl, sym, ap, ◌∙◌}
use Rattle.std.specs.Prelude.{not, is_some, codes, if◌then◌else◌, filter}
use Rattle.std.specs.List.{list_any, flat_map}
use Rattle.json_value.specs.Value as value
use Rattle.json_value.specs.Value.{Value, Items, Members, null, number, fraction, text, list, item, no_items, member, no_members, member_at, is_whole, all_whole, members_whole}
use Rattle.schema_defs.specs.declared.Setting.TheVariants.{Strict}
use Rattle.schema_defs.specs.Location.{Step, place}
use Rattle.schema_defs.specs.Read.{document_of, filled, filled_items, filled_members}
use Rattle.schema_faults.specs.declared.keyword.Holds.{Holds}
use Rattle.schema_faults.specs.declared.keyword.Holds.TheVariants.{Text, Anything, TypeNames, Values, Number, Multiple, Size, Flag, Texts, Schema, SomeSchemas, Schemas, SchemaOrSchemas, NamedSchemas, Defs, Definitions}
use Rattle.schema_faults.specs.Keywords.{Row, keywords, is_known_at, is_text, is_flag, is_list, is_object, is_fraction, is_schema, is_filled_list, is_number, is_multiple, is_size, all_texts, lists_texts, is_type_name, all_type_names, names_types, names, names_in, are_distinct, has_distinct_names, shares_name, fits}
use Rattle.schema_faults.specs.Schemas.{Node, here, under, held, held_items, held_members, held_at, one_schema, nodes_in, nodes_at, nodes_of, list_nodes, object_nodes, inside_value, schemas_of}
use Rattle.schema_faults.specs.Faults.{first, is_broken, breaks, if_present, holds_fraction, mark_if, malformed_keywords, malformed_places}
use Rattle.schema_faults.specs.Laws.{MalformedHasAPlace}
use Rattle.schema_faults.proofs.Walk.{held_at-member}
use Rattle.schema_faults.proofs.Readings.{is_empty, quiet, quiet-append, quiet-under, faults}
use Rattle.schema_faults.proofs.Objects.{empty-filter, empty-mark}
use Rattle.schema_faults.proofs.Roots.{document_quiet, empty-told}

-- ---- what a value is stays

text_same : (v : Value) → is_text (filled v) ≡ is_text v
text_same null = refl
text_same (value.boolean b) = refl
text_same (number z) = refl
text_same fraction = refl
text_same (text s) = refl
text_same (list xs) = refl
text_same (value.object ms) = refl

flag_same : (v : Value) → is_flag (filled v) ≡ is_flag v
flag_same null = refl
flag_same (value.boolean b) = refl
flag_same (number z) = refl
flag_same fraction = refl
flag_same (text s) = refl
flag_same (list xs) = refl
flag_same (value.object ms) = refl

list_same : (v : Value) → is_list (filled v) ≡ is_list v
list_same null = refl
list_same (value.boolean b) = refl
list_same (number z) = refl
list_same fraction = refl
list_same (text s) = refl
list_same (list xs) = refl
list_same (value.object ms) = refl

object_same : (v : Value) → is_object (filled v) ≡ is_object v
object_same null = refl
object_same (value.boolean b) = refl
object_same (number z) = refl
object_same fraction = refl
object_same (text s) = refl
object_same (list xs) = refl
object_same (value.object ms) = refl

schema_same : (v : Value) → is_schema (filled v) ≡ is_schema v
schema_same null = refl
schema_same (value.boolean b) = refl
schema_same (number z) = refl
schema_same fraction = refl
schema_same (text s) = refl
schema_same (list xs) = refl
schema_same (value.object ms) = refl

number_same : (v : Value) → is_number (filled v) ≡ is_number v
number_same null = refl
number_same (value.boolean b) = refl
number_same (number z) = refl
number_same fraction = refl
number_same (text s) = refl
number_same (list xs) = refl
number_same (value.object ms) = refl

multiple_same : (v : Value) → is_multiple (filled v) ≡ is_multiple v
multiple_same null = refl
multiple_same (value.boolean b) = refl
multiple_same (number z) = refl
multiple_same fraction = refl
multiple_same (text s) = refl
multiple_same (list xs) = refl
multiple_same (value.object ms) = refl

size_same : (v : Value) → is_size (filled v) ≡ is_size v
size_same null = refl
size_same (value.boolean b) = refl
size_same (number z) = refl
size_same fraction = refl
size_same (text s) = refl
size_same (list xs) = refl
size_same (value.object ms) = refl

type_same : (v : Value) → is_type_name (filled v) ≡ is_type_name v
type_same null = refl
type_same (value.boolean b) = refl
type_same (number z) = refl
type_same fraction = refl
type_same (text s) = refl
type_same (list xs) = refl
type_same (value.object ms) = refl

whole_fraction : (v : Value) → is_fraction (filled v) ≡ false
whole_fraction null = refl
whole_fraction (value.boolean b) = refl
whole_fraction (number z) = refl
whole_fraction fraction = refl
whole_fraction (text s) = refl
whole_fraction (list xs) = refl
whole_fraction (value.object ms) = refl

filled_same : (v : Value) → is_filled_list (filled v) ≡ is_filled_list v
filled_same null = refl
filled_same (value.boolean b) = refl
filled_same (number z) = refl
filled_same fraction = refl
filled_same (text s) = refl
filled_same (list no_items) = refl
filled_same (list (item v vs)) = refl
filled_same (value.object ms) = refl

texts_same : (vs : Items) → all_texts (filled_items vs) ≡ all_texts vs
texts_same no_items = refl
texts_same (item v vs) = λ i. text_same v i && texts_same vs i

types_same : (vs : Items) → all_type_names (filled_items vs) ≡ all_type_names vs
types_same no_items = refl
types_same (item v vs) = λ i. type_same v i && types_same vs i

lists_texts_same : (v : Value) → lists_texts (filled v) ≡ lists_texts v
lists_texts_same null = refl
lists_texts_same (value.boolean b) = refl
lists_texts_same (number z) = refl
lists_texts_same fraction = refl
lists_texts_same (text s) = refl
lists_texts_same (list xs) = texts_same xs
lists_texts_same (value.object ms) = refl

names_types_same : (v : Value) → names_types (filled v) ≡ names_types v
names_types_same null = refl
names_types_same (value.boolean b) = refl
names_types_same (number z) = refl
names_types_same fraction = refl
names_types_same (text s) = refl
names_types_same (list xs) = types_same xs
names_types_same (value.object ms) = refl

names_same : (ms : Members) → names (filled_members ms) ≡ names ms
names_same no_members = refl
names_same (member k v ms) = ap (λ ns. k ∷ ns) (names_same ms)

names_in_same : (o : Option Value) → names_in (option_map filled o) ≡ names_in o
names_in_same None = refl
names_in_same (Some null) = refl
names_in_same (Some (value.boolean b)) = refl
names_in_same (Some (number z)) = refl
names_in_same (Some fraction) = refl
names_in_same (Some (text s)) = refl
names_in_same (Some (list xs)) = refl
names_in_same (Some (value.object ms)) = names_same ms

distinct_same : (v : Value) → has_distinct_names (filled v) ≡ has_distinct_names v
distinct_same v = λ i. object_same v i && are_distinct (names_in_same (Some v) i)

chosen : (b : Bool) (v : Value) (o p : Option Value) → o ≡ option_map filled p → (if b then Some (filled v) else o) ≡ option_map filled (if b then Some v else p)
chosen true v o p h = refl
chosen false v o p h = h

member_filled : (k : List ℕ) (ms : Members) → member_at k (filled_members ms) ≡ option_map filled (member_at k ms)
member_filled k no_members = refl
member_filled k (member l v ms) = chosen (bytes_eq k l) v (member_at k (filled_members ms)) (member_at k ms) (member_filled k ms)

share_same : (ms : Members) (v : Value) → shares_name (filled_members ms) (Some (filled v)) ≡ shares_name ms (Some v)
share_same ms v =
    λ i. list_any (λ n. list_any (bytes_eq n) ((ap names_in (member_filled (codes "$defs") ms) ∙ names_in_same (member_at (codes "$defs") ms)) i)) (names_in_same (Some v) i)

fits_same : (ms : Members) (h : Holds) (v : Value) → fits (filled_members ms) h (filled v) ≡ fits ms h v
fits_same ms Text v = text_same v
fits_same ms Anything v = refl
fits_same ms TypeNames v = names_types_same v
fits_same ms Values v = list_same v
fits_same ms Number v = number_same v
fits_same ms Multiple v = multiple_same v
fits_same ms Size v = size_same v
fits_same ms Flag v = flag_same v
fits_same ms Texts v = lists_texts_same v
fits_same ms Schema v = schema_same v
fits_same ms SomeSchemas v = filled_same v
fits_same ms Schemas v = list_same v
fits_same ms SchemaOrSchemas v = λ i. schema_same v i || list_same v i
fits_same ms NamedSchemas v = object_same v
fits_same ms Defs v = distinct_same v
fits_same ms Definitions v = λ i. distinct_same v i && not (share_same ms v i)

breaks_same : (ms : Members) (h : Holds) (o : Option Value) → breaks (filled_members ms) h (option_map filled o) ≡ breaks ms h o
breaks_same ms h None = refl
breaks_same ms h (Some v) = ap not (fits_same ms h v)

broken_same : (b : Bool) (ms : Members) (r : Row) → is_broken b (filled_members ms) r ≡ is_broken b ms r
broken_same b ms r = ap (λ c. is_known_at b r.1 && c) (ap (breaks (filled_members ms) r.1) (member_filled r.0 ms) ∙ breaks_same ms r.1 (member_at r.0 ms))

-- ---- no fraction is left

mutual
  whole : (v : Value) → is_whole (filled v) ≡ true
  whole null = refl
  whole (value.boolean b) = refl
  whole (number z) = refl
  whole fraction = refl
  whole (text s) = refl
  whole (list xs) = items_whole xs
  whole (value.object ms) = members_are_whole ms

  items_whole : (vs : Items) → all_whole (filled_items vs) ≡ true
  items_whole no_items = refl
  items_whole (item v vs) = λ i. whole v i && items_whole vs i

  members_are_whole : (ms : Members) → members_whole (filled_members ms) ≡ true
  members_are_whole no_members = refl
  members_are_whole (member k v ms) = λ i. whole v i && members_are_whole ms i

no_fraction : (h : Holds) (v : Value) → holds_fraction h (filled v) ≡ false
no_fraction Text v = refl
no_fraction Anything v = ap not (whole v)
no_fraction TypeNames v = refl
no_fraction Values v = ap not (whole v)
no_fraction Number v = whole_fraction v
no_fraction Multiple v = whole_fraction v
no_fraction Size v = whole_fraction v
no_fraction Flag v = refl
no_fraction Texts v = refl
no_fraction Schema v = refl
no_fraction SomeSchemas v = refl
no_fraction Schemas v = refl
no_fraction SchemaOrSchemas v = refl
no_fraction NamedSchemas v = refl
no_fraction Defs v = refl
no_fraction Definitions v = refl

no_fraction_at : (h : Holds) (o : Option Value) → if_present (holds_fraction h) (option_map filled o) ≡ false
no_fraction_at h None = refl
no_fraction_at h (Some v) = no_fraction h v

no_fraction_among : (ms : Members) (rs : List Row) → list_any (λ r. if_present (holds_fraction r.1) (member_at r.0 (filled_members ms))) rs ≡ false
no_fraction_among ms [] = refl
no_fraction_among ms (r ∷ rs) = λ i. (ap (if_present (holds_fraction r.1)) (member_filled r.0 ms) ∙ no_fraction_at r.1 (member_at r.0 ms)) i || no_fraction_among ms rs i

empty-append : {A : Type 0} (xs ys : List A) → is_empty (xs ++ ys) ≡ (is_empty xs && is_empty ys)
empty-append [] ys = refl
empty-append (x ∷ xs) ys = refl

and_true : (b : Bool) → (b && true) ≡ b
and_true true = refl
and_true false = refl

-- what is told of a filled value is what is malformed in the value
told_same : (b : Bool) (k : List ℕ) (v : Value) → is_empty (faults b k (filled v)) ≡ is_empty (malformed_keywords b k v)
told_same b k null = refl
told_same b k (value.boolean c) = refl
told_same b k (number z) = refl
told_same b k fraction = refl
told_same b k (text s) = refl
told_same b k (list xs) = refl
told_same b k (value.object ms) =
    empty-append (map (λ r. r.0) (filter (is_broken b (filled_members ms)) keywords)) (mark_if (list_any (λ r. if_present (holds_fraction r.1) (member_at r.0 (filled_members ms))) keywords))
    ∙ (λ i. (empty-filter (is_broken b (filled_members ms)) keywords ∙ (λ j. not (list_any (λ r. broken_same b ms r j) keywords)) ∙ sym (empty-filter (is_broken b ms) keywords)) i
    && (empty-mark (list_any (λ r. if_present (holds_fraction r.1) (member_at r.0 (filled_members ms))) keywords) ∙ ap not (no_fraction_among ms keywords)) i)
    ∙ and_true (is_empty (map (λ r. r.0) (filter (is_broken b ms) keywords)))

-- ---- all schemas

pub record Kept (v : Value) : Type 0 where
  pub nodes : (k : List ℕ) → quiet faults ((held (filled v)).nodes k) ≡ quiet malformed_keywords ((held v).nodes k)
  pub in_list : (k : List ℕ) → quiet faults ((held (filled v)).in_list k) ≡ quiet malformed_keywords ((held v).in_list k)
  pub in_object : (k : List ℕ) → quiet faults ((held (filled v)).in_object k) ≡ quiet malformed_keywords ((held v).in_object k)

abbrev KeptMaybe : Option Value → Type 0
KeptMaybe None = Unit {0}
KeptMaybe (Some v) = Kept v

whole_is : (v : Value) → (held v).whole ≡ v
whole_is null = refl
whole_is (value.boolean b) = refl
whole_is (number z) = refl
whole_is fraction = refl
whole_is (text s) = refl
whole_is (list xs) = refl
whole_is (value.object ms) = refl

if_schema : (b : Bool) (xs ys : List Node) → quiet faults xs ≡ quiet malformed_keywords ys → quiet faults (if b then xs else []) ≡ quiet malformed_keywords (if b then ys else [])
if_schema true xs ys h = h
if_schema false xs ys h = refl

one_same : (k : List ℕ) (v : Value) → Kept v → quiet faults (one_schema k (held (filled v))) ≡ quiet malformed_keywords (one_schema k (held v))
one_same k v h =
    (λ i. quiet faults (if (ap is_schema (whole_is (filled v)) ∙ schema_same v ∙ sym (ap is_schema (whole_is v))) i then (held (filled v)).nodes k else []))
    ∙ if_schema (is_schema (held v).whole) ((held (filled v)).nodes k) ((held v).nodes k) (h.nodes k)

in_same : (k : List ℕ) (h : Holds) (v : Value) → Kept v → quiet faults (nodes_in (k, h) (held (filled v))) ≡ quiet malformed_keywords (nodes_in (k, h) (held v))
in_same k Text v g = refl
in_same k Anything v g = refl
in_same k TypeNames v g = refl
in_same k Values v g = refl
in_same k Number v g = refl
in_same k Multiple v g = refl
in_same k Size v g = refl
in_same k Flag v g = refl
in_same k Texts v g = refl
in_same k Schema v g = one_same k v g
in_same k SomeSchemas v g = g.in_list k
in_same k Schemas v g = g.in_list k
in_same k SchemaOrSchemas v g = quiet-append faults (one_schema k (held (filled v))) ((held (filled v)).in_list k) ∙ (λ i. one_same k v g i && g.in_list k i) ∙ sym (quiet-append malformed_keywords (one_schema k (held v)) ((held v).in_list k))
in_same k NamedSchemas v g = g.in_object k
in_same k Defs v g = g.in_object k
in_same k Definitions v g = g.in_object k

at_same : (r : Row) (o : Option Value) → KeptMaybe o → quiet faults (nodes_at r (option_map held (option_map filled o))) ≡ quiet malformed_keywords (nodes_at r (option_map held o))
at_same r None g = refl
at_same r (Some v) g = quiet-under faults r.0 (nodes_in r (held (filled v))) ∙ in_same r.0 r.1 v g ∙ sym (quiet-under malformed_keywords r.0 (nodes_in r (held v)))

if_known : (b : Bool) (xs ys : List Node) → quiet faults xs ≡ quiet malformed_keywords ys → quiet faults (if b then xs else []) ≡ quiet malformed_keywords (if b then ys else [])
if_known b xs ys h = if_schema b xs ys h

module _ (ms : Members) (g : (n : List ℕ) → KeptMaybe (member_at n ms)) (b : Bool) where
  row_same : (r : Row) → quiet faults (nodes_of b (held_members (filled_members ms)) r) ≡ quiet malformed_keywords (nodes_of b (held_members ms) r)
  row_same r =
      if_known (is_known_at b r.1) (nodes_at r (held_at r.0 (held_members (filled_members ms)))) (nodes_at r (held_at r.0 (held_members ms)))
      (ap (λ h. quiet faults (nodes_at r h)) (held_at-member r.0 (filled_members ms) ∙ ap (option_map held) (member_filled r.0 ms))
      ∙ at_same r (member_at r.0 ms) (g r.0)
      ∙ sym (ap (λ h. quiet malformed_keywords (nodes_at r h)) (held_at-member r.0 ms)))

  inside_same : (rs : List Row) → quiet faults (flat_map (nodes_of b (held_members (filled_members ms))) rs) ≡ quiet malformed_keywords (flat_map (nodes_of b (held_members ms)) rs)
  inside_same [] = refl
  inside_same (r ∷ rs) =
      quiet-append faults (nodes_of b (held_members (filled_members ms)) r) (flat_map (nodes_of b (held_members (filled_members ms))) rs) ∙ (λ i. row_same r i && inside_same rs i)
      ∙ sym (quiet-append malformed_keywords (nodes_of b (held_members ms) r) (flat_map (nodes_of b (held_members ms)) rs))

  object_kept : (k : List ℕ)
      → quiet faults (here b k (value.object (filled_members ms)) ∷ inside_value b (value.object (filled_members ms))) ≡ quiet malformed_keywords (here b k (value.object ms) ∷ inside_value b (value.object ms))
  object_kept k = λ i. told_same b k (value.object ms) i && inside_same keywords i

chosen_kept : (b : Bool) (v : Value) (o : Option Value) → Kept v → KeptMaybe o → KeptMaybe (if b then Some v else o)
chosen_kept true v o g h = g
chosen_kept false v o g h = h

abbrev ItemsKept : Items → Type 0
ItemsKept vs = (k : List ℕ) (i : ℕ) → quiet faults (list_nodes k i (held_items (filled_items vs))) ≡ quiet malformed_keywords (list_nodes k i (held_items vs))

abbrev NamedKept : Members → Type 0
NamedKept ms = (k : List ℕ) → quiet faults (object_nodes k (held_members (filled_members ms))) ≡ quiet malformed_keywords (object_nodes k (held_members ms))

one_more : (s : Step) (xs ys xt yt : List Node) → quiet faults xs ≡ quiet malformed_keywords ys → quiet faults xt ≡ quiet malformed_keywords yt → quiet faults (under s xs ++ xt) ≡ quiet malformed_keywords (under s ys ++ yt)
one_more s xs ys xt yt h t =
    quiet-append faults (under s xs) xt ∙ (λ i. (quiet-under faults s xs ∙ h ∙ sym (quiet-under malformed_keywords s ys)) i && t i) ∙ sym (quiet-append malformed_keywords (under s ys) yt)

mutual
  kept : (v : Value) → Kept v
  kept null = record { nodes = λ k. refl; in_list = λ k. refl; in_object = λ k. refl }
  kept (value.boolean b) = record { nodes = λ k. refl; in_list = λ k. refl; in_object = λ k. refl }
  kept (number z) = record { nodes = λ k. refl; in_list = λ k. refl; in_object = λ k. refl }
  kept fraction = record { nodes = λ k. refl; in_list = λ k. refl; in_object = λ k. refl }
  kept (text s) = record { nodes = λ k. refl; in_list = λ k. refl; in_object = λ k. refl }
  kept (list xs) = record { nodes = λ k. refl; in_list = λ k. items_kept xs k 0; in_object = λ k. refl }
  kept (value.object ms) = record { nodes = object_kept ms (kept_at ms) false; in_list = λ k. refl; in_object = named_kept ms }

  items_kept : (vs : Items) → ItemsKept vs
  items_kept no_items = λ k i. refl
  items_kept (item v vs) = λ k i. one_more (place i) ((held (filled v)).nodes k) ((held v).nodes k) (list_nodes k (suc i) (held_items (filled_items vs))) (list_nodes k (suc i) (held_items vs)) ((kept v).nodes k) (items_kept vs k (suc i))

  named_kept : (ms : Members) → NamedKept ms
  named_kept no_members = λ k. refl
  named_kept (member n v ms) = λ k. one_more n ((held (filled v)).nodes k) ((held v).nodes k) (object_nodes k (held_members (filled_members ms))) (object_nodes k (held_members ms)) ((kept v).nodes k) (named_kept ms k)

  kept_at : (ms : Members) (n : List ℕ) → KeptMaybe (member_at n ms)
  kept_at no_members n = tt
  kept_at (member k v ms) n = chosen_kept (bytes_eq n k) v (member_at n ms) (kept v) (kept_at ms n)

document_kept : (v : Value) → quiet faults (schemas_of (filled v)) ≡ quiet malformed_keywords (schemas_of v)
document_kept null = refl
document_kept (value.boolean b) = refl
document_kept (number z) = refl
document_kept fraction = refl
document_kept (text s) = refl
document_kept (list xs) = refl
document_kept (value.object ms) = object_kept ms (kept_at ms) true []

-- ---- malformed values

first_is : {A : Type 0} (xs : List A) → is_some (first xs) ≡ not (is_empty xs)
first_is [] = refl
first_is (x ∷ xs) = refl

none_is : {A : Type 0} (o : Option A) → is_some o ≡ false → o ≡ None
none_is None h = refl
none_is (Some x) h = absurd (true≢false h)

-- a malformed place stands exactly where the filled value has no reading
pub told_or_read : (v : Value) → is_some (first (malformed_places v)) ≡ not (is_some (document_of Strict (filled v)))
told_or_read v = first_is (malformed_places v) ∙ ap not (empty-told malformed_keywords (schemas_of v) ∙ sym (document_kept v) ∙ sym (document_quiet Strict (filled v)))

flipped : (a b : Bool) → a ≡ not b → a ≡ true → b ≡ false
flipped a true h k = absurd (true≢false (sym k ∙ h))
flipped a false h k = refl

pub malformed_has_a_place : MalformedHasAPlace
malformed_has_a_place v = (
  λ h. told_or_read v ∙ ap (λ o. not (is_some o)) h,
  λ h. none_is (document_of Strict (filled v)) (flipped (is_some (first (malformed_places v))) (is_some (document_of Strict (filled v))) (told_or_read v) h),
)
