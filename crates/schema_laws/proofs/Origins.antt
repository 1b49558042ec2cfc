-- Where the keywords of a schema that was read lead, something stands that was read.
use Rattle.std.proofs.Common.{◌≡◌, ℕ, List, Option, Some, None, option_map, Bool, true, false, bytes_eq, true≢false, refl, sym, ap, subst}
use Rattle.std.specs.Prelude.{unwrap_or, option_and_then, codes, if◌then◌else◌}
use Rattle.std.proofs.lemmas.Slice.Eq.{bytes_eq-Decides}
use Rattle.schema_defs.specs.Location.{Step}
use Rattle.schema_defs.specs.Schema as tree
use Rattle.schema_defs.specs.Schema.{Plain, Schema, object, Same, same_value, no_same, Lists, lists, no_lists, Named, named, no_named, MaybeSchema, no_schema, the_schema, Schemas, no_more, schema, Places, each_item, by_place, Properties, no_properties, property}
use Rattle.schema_defs.specs.Layer.{property_at}
use Rattle.schema_defs.specs.Children.{Node, at_document, at_definitions, at_schema, at_list, at_names, maybe_node, list_node, places_node, same_node, lists_node, named_node, either_node, schema_node}
use Rattle.schema_defs.specs.Read.{◌⊛◌, Reading, Lookup, optional, keyword, by_value, any_stands, flag_of, size_of, names_of, places_of, maybe_schema, maybe_list, same_words, condition_words, list_words, member_words, make_same, make_lists, make_named, plain_of, same_of, lists_of, named_of, schema_of}
use Rattle.schema_defs.proofs.Stand.{some_same, none_is_not}
use Rattle.schema_laws.proofs.Options.{IfThere, chosen, passed3, taken3, taken4}
use Rattle.schema_laws.proofs.Leads.{as_schema, as_list, as_some_list, as_named, anything}
use Rattle.schema_laws.proofs.Located.{filled, no_such}

-- what a spot of the document was read from
abbrev pub Origin : Option Reading → Node → Type 0
Origin o (at_schema s) = (r : Reading) × (o ≡ Some r) × (r.as_schema ≡ Some s)
Origin o (at_list ss) = (r : Reading) × (o ≡ Some r) × (r.as_list ≡ Some ss)
Origin o (at_names ps) = (k : Step) (s : Schema) → property_at k ps ≡ the_schema s → (r : Reading) × (qs : Properties) × (o ≡ Some r) × (r.as_named ≡ Some qs) × (property_at k qs ≡ the_schema s)
Origin o (at_document d) = ⊥
Origin o (at_definitions b d) = ⊥

-- ---- what a keyword is read as

abbrev pub Made : {A : Type 0} → Option Reading → (Reading → Option A) → Option A → Type 0
Made o f a = a ≡ option_and_then f o

itself : {A : Type 0} (o : Option A) → IfThere (λ a. a ≡ o) (option_map Some o)
itself None = tt
itself (Some x) = refl

at_reading : {A : Type 0} (f : Reading → Option A) (o : Option Reading) → IfThere (Made o f) (optional f o)
at_reading f None = refl
at_reading f (Some r) = itself (f r)

pub made : {A : Type 0} (k : List ℕ) (f : Reading → Option A) (look : Lookup) → IfThere (Made (look k) f) (keyword k f look)
made k f look = at_reading f (look k)

pub from_some : {A : Type 0} (o : Option Reading) (f : Reading → Option A) (x : A) → Some x ≡ option_and_then f o → (r : Reading) × (o ≡ Some r) × (f r ≡ Some x)
from_some None f x e = absurd (none_is_not x (sym e))
from_some (Some r) f x e = (r, refl, sym e)

at_some : (m n : Node) (o : Option Reading) → Some m ≡ Some n → Origin o m → Origin o n
at_some m n o e h = subst (Origin o) (some_same m n e) h

maybe_origin : (o : Option Reading) (a : Option Schema) → Made o as_schema a → (m : Node) → maybe_node (maybe_schema a) ≡ Some m → Origin o m
maybe_origin o None h m e = absurd (none_is_not m e)
maybe_origin o (Some s) h m e = at_some (at_schema s) m o e (from_some o as_schema s h)

list_origin : (o : Option Reading) (a : Option Schemas) → Made o as_list a → (m : Node) → list_node (maybe_list a) ≡ Some m → Origin o m
list_origin o None h m e = absurd (none_is_not m e)
list_origin o (Some ss) h m e = at_some (at_list ss) m o e (from_some o as_list ss h)

some_list_origin : (o : Option Reading) (a : Option Schemas) → Made o as_some_list a → (m : Node) → list_node (maybe_list a) ≡ Some m → Origin o m
some_list_origin o None h m e = absurd (none_is_not m e)
some_list_origin o (Some ss) h m e = let t = from_some o as_some_list ss h in at_some (at_list ss) m o e (t.0, t.1, filled t.0.as_list ss t.2)

names_origin : (o : Option Reading) (a : Option Properties) → Made o as_named a → (m : Node) → Some (at_names (unwrap_or a no_properties)) ≡ Some m → Origin o m
names_origin o None h m e = at_some (at_names no_properties) m o e (λ k s f. absurd (no_such s f))
names_origin o (Some ps) h m e = let t = from_some o as_named ps h in at_some (at_names ps) m o e (λ k s f. (t.0, ps, t.1, t.2, f))

is_one : Places → Bool
is_one (each_item s) = true
is_one _ = false

one_or : Schema → Places → Schema
one_or d (each_item s) = s
one_or d _ = d

many_or : Schemas → Places → Schemas
many_or d (by_place ss) = ss
many_or d _ = d

one_item : (o : Option Schema) (l : Option Schemas) (s : Schema) → elim o [ Some t ↦ Some (each_item t) | None ↦ option_map by_place l ] ≡ Some (each_item s) → o ≡ Some s
unfolding is_one one_or
one_item None None s e = absurd (none_is_not (each_item s) e)
one_item None (Some ss) s e = absurd (true≢false (sym (ap is_one (some_same (by_place ss) (each_item s) e))))
one_item (Some t) l s e = ap (λ x. Some (one_or t x)) (some_same (each_item t) (each_item s) e)

many_items : (o : Option Schema) (l : Option Schemas) (ss : Schemas) → elim o [ Some t ↦ Some (each_item t) | None ↦ option_map by_place l ] ≡ Some (by_place ss) → l ≡ Some ss
unfolding is_one many_or
many_items None None ss e = absurd (none_is_not (by_place ss) e)
many_items None (Some ts) ss e = ap (λ x. Some (many_or ts x)) (some_same (by_place ts) (by_place ss) e)
many_items (Some t) l ss e = absurd (true≢false (ap is_one (some_same (each_item t) (by_place ss) e)))

places_origin : (o : Option Reading) (a : Option Places) → Made o places_of a → (m : Node) → places_node (unwrap_or a tree.no_items) ≡ Some m → Origin o m
places_origin o None h m e = absurd (none_is_not m e)
places_origin o (Some tree.no_items) h m e = absurd (none_is_not m e)
places_origin o (Some (each_item s)) h m e = let t = from_some o places_of (each_item s) h in at_some (at_schema s) m o e (t.0, t.1, one_item t.0.as_schema t.0.as_list s t.2)
places_origin o (Some (by_place ss)) h m e = let t = from_some o places_of (by_place ss) h in at_some (at_list ss) m o e (t.0, t.1, many_items t.0.as_schema t.0.as_list ss t.2)

-- ---- steps

branch : (Q : Type 0) (b : Bool) (x y : Option Node) (m : Node) → (b ≡ true → x ≡ Some m → Q) → (y ≡ Some m → Q) → (if b then x else y) ≡ Some m → Q
branch Q true x y m h g e = h refl e
branch Q false x y m h g e = g e

either : (Q : Type 0) (x y : Option Node) (m : Node) → (x ≡ Some m → Q) → (y ≡ Some m → Q) → either_node x y ≡ Some m → Q
either Q None y m h g e = g e
either Q (Some n) y m h g e = h e

module _ (look : Lookup) where
  at_word : (k w : Step) (m : Node) → bytes_eq k w ≡ true → Origin (look w) m → Origin (look k) m
  at_word k w m e h = subst (λ n. Origin (look n) m) (sym ((bytes_eq-Decides k w).0 e)) h

  abbrev Origins : (Step → Option Node) → Type 0
  Origins at = (k : Step) (m : Node) → at k ≡ Some m → Origin (look k) m

  nowhere : Origins (λ k. None)
  nowhere k m e = absurd (none_is_not m e)

  same_origins : IfThere (λ ss. Origins (λ k. same_node k ss)) (same_of look)
  unfolding same_of
  same_origins =
      chosen (IfThere (λ ss. Origins (λ k. same_node k ss))) (any_stands same_words look) _ _
      (taken4 (Made (look (codes "allOf")) as_some_list) (Made (look (codes "anyOf")) as_list) (Made (look (codes "oneOf")) as_list) (Made (look (codes "not")) as_schema) (λ (ss : Same). Origins (λ k. same_node k ss))
      (Some (make_same (any_stands condition_words look)))
      (keyword (codes "allOf") as_some_list look) (keyword (codes "anyOf") as_list look) (keyword (codes "oneOf") as_list look) (keyword (codes "not") as_schema look)
      (λ all h any i one j none l k m.
      branch (Origin (look k) m) (bytes_eq k (codes "allOf")) (list_node (maybe_list all)) _ m (λ b e. at_word k (codes "allOf") m b (some_list_origin (look (codes "allOf")) all h m e))
      (branch (Origin (look k) m) (bytes_eq k (codes "anyOf")) (list_node (maybe_list any)) _ m (λ b e. at_word k (codes "anyOf") m b (list_origin (look (codes "anyOf")) any i m e))
      (branch (Origin (look k) m) (bytes_eq k (codes "oneOf")) (list_node (maybe_list one)) _ m (λ b e. at_word k (codes "oneOf") m b (list_origin (look (codes "oneOf")) one j m e))
      (branch (Origin (look k) m) (bytes_eq k (codes "not")) (maybe_node (maybe_schema none)) None m (λ b e. at_word k (codes "not") m b (maybe_origin (look (codes "not")) none l m e))
      (λ e. absurd (none_is_not m e))))))
      (made (codes "allOf") as_some_list look) (made (codes "anyOf") as_list look) (made (codes "oneOf") as_list look) (made (codes "not") as_schema look))
      nowhere

  lists_origins : IfThere (λ ls. Origins (λ k. lists_node k ls)) (lists_of look)
  unfolding lists_of
  lists_origins =
      chosen (IfThere (λ ls. Origins (λ k. lists_node k ls))) (any_stands list_words look) _ _
      (passed3 (λ (ls : Lists). Origins (λ k. lists_node k ls)) (Some make_lists ⊛ keyword (codes "items") places_of look ⊛ keyword (codes "additionalItems") as_schema look ⊛ keyword (codes "contains") as_schema look)
      (keyword (codes "maxItems") (by_value size_of) look) (keyword (codes "minItems") (by_value size_of) look) (keyword (codes "uniqueItems") (by_value flag_of) look)
      (taken3 (Made (look (codes "items")) places_of) (Made (look (codes "additionalItems")) as_schema) (Made (look (codes "contains")) as_schema)
      (λ (f : Option ℕ → Option ℕ → Option Bool → Lists). (a : Option ℕ) (b : Option ℕ) (u : Option Bool) → Origins (λ k. lists_node k (f a b u))) (Some make_lists)
      (keyword (codes "items") places_of look) (keyword (codes "additionalItems") as_schema look) (keyword (codes "contains") as_schema look)
      (λ places h rest i contains j a c u k m.
      branch (Origin (look k) m) (bytes_eq k (codes "items")) (places_node (unwrap_or places tree.no_items)) _ m (λ b e. at_word k (codes "items") m b (places_origin (look (codes "items")) places h m e))
      (branch (Origin (look k) m) (bytes_eq k (codes "additionalItems")) (maybe_node (maybe_schema rest)) _ m (λ b e. at_word k (codes "additionalItems") m b (maybe_origin (look (codes "additionalItems")) rest i m e))
      (branch (Origin (look k) m) (bytes_eq k (codes "contains")) (maybe_node (maybe_schema contains)) None m (λ b e. at_word k (codes "contains") m b (maybe_origin (look (codes "contains")) contains j m e))
      (λ e. absurd (none_is_not m e)))))
      (made (codes "items") places_of look) (made (codes "additionalItems") as_schema look) (made (codes "contains") as_schema look)))
      nowhere

  named_origins : IfThere (λ ns. Origins (λ k. named_node k ns)) (named_of look)
  unfolding named_of
  named_origins =
      chosen (IfThere (λ ns. Origins (λ k. named_node k ns))) (any_stands member_words look) _ _
      (passed3 (λ (ns : Named). Origins (λ k. named_node k ns))
      (Some make_named ⊛ keyword (codes "properties") as_named look ⊛ keyword (codes "patternProperties") as_named look ⊛ keyword (codes "additionalProperties") as_schema look ⊛ keyword (codes "propertyNames") as_schema look)
      (keyword (codes "maxProperties") (by_value size_of) look) (keyword (codes "minProperties") (by_value size_of) look) (keyword (codes "required") (by_value names_of) look)
      (taken4 (Made (look (codes "properties")) as_named) (Made (look (codes "patternProperties")) as_named) (Made (look (codes "additionalProperties")) as_schema) (Made (look (codes "propertyNames")) as_schema)
      (λ (f : Option ℕ → Option ℕ → Option (List (List ℕ)) → Named). (a : Option ℕ) (b : Option ℕ) (u : Option (List (List ℕ))) → Origins (λ k. named_node k (f a b u))) (Some make_named)
      (keyword (codes "properties") as_named look) (keyword (codes "patternProperties") as_named look) (keyword (codes "additionalProperties") as_schema look) (keyword (codes "propertyNames") as_schema look)
      (λ props h patterns i rest j names l a c u k m.
      branch (Origin (look k) m) (bytes_eq k (codes "properties")) (Some (at_names (unwrap_or props no_properties))) _ m (λ b e. at_word k (codes "properties") m b (names_origin (look (codes "properties")) props h m e))
      (branch (Origin (look k) m) (bytes_eq k (codes "patternProperties")) (Some (at_names (unwrap_or patterns no_properties))) _ m (λ b e. at_word k (codes "patternProperties") m b (names_origin (look (codes "patternProperties")) patterns i m e))
      (branch (Origin (look k) m) (bytes_eq k (codes "additionalProperties")) (maybe_node (maybe_schema rest)) _ m (λ b e. at_word k (codes "additionalProperties") m b (maybe_origin (look (codes "additionalProperties")) rest j m e))
      (branch (Origin (look k) m) (bytes_eq k (codes "propertyNames")) (maybe_node (maybe_schema names)) None m (λ b e. at_word k (codes "propertyNames") m b (maybe_origin (look (codes "propertyNames")) names l m e))
      (λ e. absurd (none_is_not m e))))))
      (made (codes "properties") as_named look) (made (codes "patternProperties") as_named look) (made (codes "additionalProperties") as_schema look) (made (codes "propertyNames") as_schema look)))
      nowhere

  -- whatever a step from a schema leads to was read from what stands there
  pub origins : IfThere (λ s. Origins (λ k. schema_node k s)) (schema_of look)
  unfolding schema_of
  origins =
      taken4 (λ (r : Plain). Unit {0}) (λ (ss : Same). Origins (λ k. same_node k ss)) (λ (ls : Lists). Origins (λ k. lists_node k ls)) (λ (ns : Named). Origins (λ k. named_node k ns)) (λ (s : Schema). Origins (λ k. schema_node k s))
      (Some (λ (r : Plain) (ss : Same) (ls : Lists) (ns : Named). object r ss ls ns)) (plain_of look) (same_of look) (lists_of look) (named_of look)
      (λ r u ss h ls i ns j k m.
      either (Origin (look k) m) (same_node k ss) (either_node (lists_node k ls) (named_node k ns)) m (h k m) (either (Origin (look k) m) (lists_node k ls) (named_node k ns) m (i k m) (j k m)))
      (anything (plain_of look)) same_origins lists_origins named_origins
