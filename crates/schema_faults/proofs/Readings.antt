-- A value is read at a keyword exactly where it fits there, holds no fraction, and the schemas in it are quiet.
use Rattle.std.proofs.Common.{◌≡◌, ℕ, List, [], ◌∷◌, ◌++◌, Option, Some, None, option_map, Bool, true, false, ◌&&◌, ◌||◌, bytes_eq, refl, sym, ap, ◌∙◌}
use Rattle.std.specs.Prelude.{pos, negsuc, not, nat_le, is_some, option_and_then, codes, if◌then◌else◌}
use Rattle.json_value.specs.Value as value
use Rattle.json_value.specs.Value.{Value, Items, Members, null, number, fraction, text, list, item, no_items, member, no_members, member_at, is_whole, all_whole}
use Rattle.schema_defs.specs.declared.InstanceType.{InstanceType}
use Rattle.schema_defs.specs.Location.{Step}
use Rattle.schema_defs.specs.Schema as tree
use Rattle.schema_defs.specs.Schema.{Schema, Schemas, Properties, each_item, by_place}
use Rattle.schema_defs.specs.Read.{◌⊛◌, reading, item_readings, schemas_of, text_of, integer_of, flag_of, size_of, multiple_of, kept, kept_list, texts_in, names_of, pattern_of, type_named, type_of, types_in, types_of, unless_empty, places_of}
use Rattle.schema_faults.specs.declared.keyword.Holds.{Holds}
use Rattle.schema_faults.specs.declared.keyword.Holds.TheVariants.{Text, Anything, TypeNames, Values, Number, Multiple, Size, Flag, Texts, Schema as OneSchema, SomeSchemas, Schemas as ManySchemas, SchemaOrSchemas, NamedSchemas}
use Rattle.schema_faults.specs.Keywords.{is_text, is_list, is_object, all_texts, is_type_word, is_type_name, all_type_names, fits}
use Rattle.schema_faults.specs.Schemas.{Node, under, held, nodes_in}
use Rattle.schema_faults.specs.Faults.{Told, holds_fraction, malformed_keywords, fraction_marks}

-- ---- what is quiet

abbrev pub is_empty : {A : Type 0} → List A → Bool
is_empty [] = true
is_empty (x ∷ xs) = false

-- nothing is told of any of these schemas
abbrev pub quiet : Told → List Node → Bool
quiet f [] = true
quiet f (n ∷ ns) = is_empty (f n.at_root n.keyword n.value) && quiet f ns

pub and_assoc : (a b c : Bool) → ((a && b) && c) ≡ (a && (b && c))
and_assoc true b c = refl
and_assoc false b c = refl

pub quiet-append : (f : Told) (ms ns : List Node) → quiet f (ms ++ ns) ≡ (quiet f ms && quiet f ns)
quiet-append f [] ns = refl
quiet-append f (m ∷ ms) ns = ap (λ b. is_empty (f m.at_root m.keyword m.value) && b) (quiet-append f ms ns) ∙ sym (and_assoc (is_empty (f m.at_root m.keyword m.value)) (quiet f ms) (quiet f ns))

pub quiet-under : (f : Told) (s : Step) (ns : List Node) → quiet f (under s ns) ≡ quiet f ns
quiet-under f s [] = refl
quiet-under f s (n ∷ ns) = ap (λ b. is_empty (f n.at_root n.keyword n.value) && b) (quiet-under f s ns)

-- what keeps a value from being read
abbrev pub faults : Told
faults at_root k v = malformed_keywords at_root k v ++ fraction_marks at_root k v

-- ---- options

pub star : {A B : Type 0} (f : Option (A → B)) (x : Option A) → is_some (f ⊛ x) ≡ (is_some f && is_some x)
star None None = refl
star (Some f) None = refl
star None (Some x) = refl
star (Some f) (Some x) = refl

mapped : {A B : Type 0} (f : A → B) (o : Option A) → is_some (option_map f o) ≡ is_some o
mapped f None = refl
mapped f (Some x) = refl

chosen : {A : Type 0} (b : Bool) (x : A) → is_some (if b then Some x else None) ≡ (b && true)
chosen true x = refl
chosen false x = refl

kept_if : {A : Type 0} (b : Bool) (x : A) → is_some (if b then Some x else None) ≡ (true && (not (not b) && true))
kept_if true x = refl
kept_if false x = refl

and_true : (b : Bool) → b ≡ (b && true)
and_true true = refl
and_true false = refl

-- ---- lists of texts and of names of types

text_is : (v : Value) → is_some (text_of v) ≡ is_text v
text_is null = refl
text_is (value.boolean b) = refl
text_is (number z) = refl
text_is fraction = refl
text_is (text s) = refl
text_is (list xs) = refl
text_is (value.object ms) = refl

abbrev with_text : List ℕ → List (List ℕ) → List (List ℕ)
with_text s ss = s ∷ ss

abbrev with_type : InstanceType → List InstanceType → List InstanceType
with_type k ks = k ∷ ks

texts_are : (vs : Items) → is_some (texts_in vs) ≡ all_texts vs
texts_are no_items = refl
texts_are (item v vs) = star (Some with_text ⊛ text_of v) (texts_in vs) ∙ (λ i. star (Some with_text) (text_of v) i && texts_are vs i) ∙ (λ i. text_is v i && all_texts vs)

word_or : (a b c d e f g : Bool) (x y z u p q r : InstanceType)
    → is_some (if a then Some x else if b then Some y else if c then Some z else if d then Some u else if e then Some p else if f then Some q else if g then Some r else None)
    ≡ (a || (b || (c || (d || (e || (f || (g || false)))))))
word_or true b c d e f g x y z u p q r = refl
word_or false true c d e f g x y z u p q r = refl
word_or false false true d e f g x y z u p q r = refl
word_or false false false true e f g x y z u p q r = refl
word_or false false false false true f g x y z u p q r = refl
word_or false false false false false true g x y z u p q r = refl
word_or false false false false false false true x y z u p q r = refl
word_or false false false false false false false x y z u p q r = refl

word_is : (s : List ℕ) → is_some (type_named s) ≡ is_type_word s
word_is s = word_or (bytes_eq s (codes "null")) (bytes_eq s (codes "boolean")) (bytes_eq s (codes "object")) (bytes_eq s (codes "array")) (bytes_eq s (codes "number")) (bytes_eq s (codes "string")) (bytes_eq s (codes "integer")) _ _ _ _ _ _ _

type_is : (v : Value) → is_some (type_of v) ≡ is_type_name v
type_is null = refl
type_is (value.boolean b) = refl
type_is (number z) = refl
type_is fraction = refl
type_is (text s) = word_is s
type_is (list xs) = refl
type_is (value.object ms) = refl

types_are : (vs : Items) → is_some (types_in vs) ≡ all_type_names vs
types_are no_items = refl
types_are (item v vs) = star (Some with_type ⊛ type_of v) (types_in vs) ∙ (λ i. star (Some with_type) (type_of v) i && types_are vs i) ∙ (λ i. type_is v i && all_type_names vs)

-- ---- keywords that hold no schema

-- a value fits at a keyword and holds no fraction there
abbrev pub sound : Holds → Value → Bool → Bool
sound h v inner = fits no_members h v && (not (holds_fraction h v) && inner)

pub at_text : (v : Value) → is_some (text_of v) ≡ sound Text v true
at_text null = refl
at_text (value.boolean b) = refl
at_text (number z) = refl
at_text fraction = refl
at_text (text s) = refl
at_text (list xs) = refl
at_text (value.object ms) = refl

pub at_pattern : (v : Value) → is_some (pattern_of v) ≡ sound Text v true
at_pattern null = refl
at_pattern (value.boolean b) = refl
at_pattern (number z) = refl
at_pattern fraction = refl
at_pattern (text s) = refl
at_pattern (list xs) = refl
at_pattern (value.object ms) = refl

pub at_anything : (v : Value) → is_some (kept v) ≡ sound Anything v true
at_anything v = kept_if (is_whole v) v

pub at_type : (v : Value) → is_some (types_of v) ≡ sound TypeNames v true
at_type null = refl
at_type (value.boolean b) = refl
at_type (number z) = refl
at_type fraction = refl
at_type (text s) = mapped tree.one_type (type_named s) ∙ word_is s ∙ and_true (is_type_word s)
at_type (list xs) = mapped tree.many_types (types_in xs) ∙ types_are xs ∙ and_true (all_type_names xs)
at_type (value.object ms) = refl

pub at_values : (v : Value) → is_some (kept_list v) ≡ sound Values v true
at_values null = refl
at_values (value.boolean b) = refl
at_values (number z) = refl
at_values fraction = refl
at_values (text s) = refl
at_values (list xs) = kept_if (all_whole xs) (value.values xs)
at_values (value.object ms) = refl

pub at_number : (v : Value) → is_some (integer_of v) ≡ sound Number v true
at_number null = refl
at_number (value.boolean b) = refl
at_number (number z) = refl
at_number fraction = refl
at_number (text s) = refl
at_number (list xs) = refl
at_number (value.object ms) = refl

pub at_multiple : (v : Value) → is_some (multiple_of v) ≡ sound Multiple v true
at_multiple null = refl
at_multiple (value.boolean b) = refl
at_multiple (number (pos n)) = chosen (nat_le 1 n) n
at_multiple (number (negsuc n)) = refl
at_multiple fraction = refl
at_multiple (text s) = refl
at_multiple (list xs) = refl
at_multiple (value.object ms) = refl

pub at_size : (v : Value) → is_some (size_of v) ≡ sound Size v true
at_size null = refl
at_size (value.boolean b) = refl
at_size (number (pos n)) = chosen (nat_le n 4294967295) n
at_size (number (negsuc n)) = refl
at_size fraction = refl
at_size (text s) = refl
at_size (list xs) = refl
at_size (value.object ms) = refl

pub at_flag : (v : Value) → is_some (flag_of v) ≡ sound Flag v true
at_flag null = refl
at_flag (value.boolean b) = refl
at_flag (number z) = refl
at_flag fraction = refl
at_flag (text s) = refl
at_flag (list xs) = refl
at_flag (value.object ms) = refl

pub at_names : (v : Value) → is_some (names_of v) ≡ sound Texts v true
at_names null = refl
at_names (value.boolean b) = refl
at_names (number z) = refl
at_names fraction = refl
at_names (text s) = refl
at_names (list xs) = mapped _ (texts_in xs) ∙ texts_are xs ∙ and_true (all_texts xs)
at_names (value.object ms) = refl

-- ---- keywords that hold schemas

-- a value is read as a schema, as a list of schemas and as schemas by name exactly where those are quiet
pub record Good (v : Value) : Type 0 where
  pub as_schema : (k : List ℕ) → is_some (reading v).as_schema ≡ quiet faults ((held v).nodes k)
  pub as_list : (k : List ℕ) → is_some (reading v).as_list ≡ (is_list v && quiet faults ((held v).in_list k))
  pub as_named : (k : List ℕ) → is_some (reading v).as_named ≡ (is_object v && quiet faults ((held v).in_object k))

pub at_schema : (k : List ℕ) (v : Value) → Good v → is_some (reading v).as_schema ≡ sound OneSchema v (quiet faults (nodes_in (k, OneSchema) (held v)))
at_schema k null g = refl
at_schema k (value.boolean b) g = g.as_schema k
at_schema k (number z) g = refl
at_schema k fraction g = refl
at_schema k (text s) g = refl
at_schema k (list xs) g = refl
at_schema k (value.object ms) g = g.as_schema k

pub at_schemas : (k : List ℕ) (v : Value) → Good v → is_some (reading v).as_list ≡ sound ManySchemas v (quiet faults (nodes_in (k, ManySchemas) (held v)))
at_schemas k v g = g.as_list k

not_empty : (v : Value) (vs : Items) → is_some (option_and_then unless_empty (schemas_of (item_readings (item v vs)))) ≡ is_some (schemas_of (item_readings (item v vs)))
not_empty v vs = one_or_more (reading v).as_schema (schemas_of (item_readings vs))
  where
    one_or_more : (o : Option Schema) (x : Option Schemas) → is_some (option_and_then unless_empty (Some (λ s ss. tree.schema s ss) ⊛ o ⊛ x)) ≡ is_some (Some (λ s ss. tree.schema s ss) ⊛ o ⊛ x)
    one_or_more None None = refl
    one_or_more None (Some x) = refl
    one_or_more (Some s) None = refl
    one_or_more (Some s) (Some x) = refl

pub at_some_schemas : (k : List ℕ) (v : Value) → Good v → is_some (option_and_then unless_empty (reading v).as_list) ≡ sound SomeSchemas v (quiet faults (nodes_in (k, SomeSchemas) (held v)))
at_some_schemas k null g = refl
at_some_schemas k (value.boolean b) g = refl
at_some_schemas k (number z) g = refl
at_some_schemas k fraction g = refl
at_some_schemas k (text s) g = refl
at_some_schemas k (list no_items) g = refl
at_some_schemas k (list (item v vs)) g = not_empty v vs ∙ g.as_list k
at_some_schemas k (value.object ms) g = refl

pub at_named : (k : List ℕ) (v : Value) → Good v → is_some (reading v).as_named ≡ sound NamedSchemas v (quiet faults (nodes_in (k, NamedSchemas) (held v)))
at_named k v g = g.as_named k

no_list_after : (ns : List Node) → quiet faults (ns ++ []) ≡ quiet faults ns
no_list_after ns = quiet-append faults ns [] ∙ sym (and_true (quiet faults ns))

as_one_item : (o : Option Schema) → is_some (elim o [ Some s ↦ Some (each_item s) | None ↦ option_map by_place None ]) ≡ is_some o
as_one_item None = refl
as_one_item (Some s) = refl

pub at_items : (k : List ℕ) (v : Value) → Good v → is_some (places_of (reading v)) ≡ sound SchemaOrSchemas v (quiet faults (nodes_in (k, SchemaOrSchemas) (held v)))
at_items k null g = refl
at_items k (value.boolean b) g = refl
at_items k (number z) g = refl
at_items k fraction g = refl
at_items k (text s) g = refl
at_items k (list xs) g = mapped by_place (reading (list xs)).as_list ∙ g.as_list k
at_items k (value.object ms) g = as_one_item (reading (value.object ms)).as_schema ∙ g.as_schema k ∙ sym (no_list_after ((held (value.object ms)).nodes k))
