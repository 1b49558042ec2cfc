-- Where the keywords of a schema that was read lead: to what stands there, read.
use Rattle.std.proofs.Common.{◌≡◌, ℕ, List, Option, Some, None, option_map, Bool, true, false, bytes_eq, true≢false, refl, sym, ap, ◌∙◌}
use Rattle.std.specs.Prelude.{is_some, unwrap_or, option_and_then, codes, if◌then◌else◌}
use Rattle.schema_defs.specs.Location.{Step}
use Rattle.schema_defs.specs.Schema as tree
use Rattle.schema_defs.specs.Schema.{Plain, Schema, object, Same, same_value, no_same, Lists, lists, no_lists, Named, named, no_named, Schemas, Places, Properties, no_properties}
use Rattle.schema_defs.specs.Children.{Node, at_schema, at_list, at_names, maybe_node, list_node, places_node, same_node, lists_node, named_node, either_node, schema_node, reference_of}
use Rattle.schema_defs.specs.Read.{◌⊛◌, Reading, Lookup, optional, keyword, by_value, any_stands, text_of, flag_of, size_of, kept, kept_list, names_of, types_of, unless_empty, places_of, maybe_schema, maybe_list, same_words, condition_words, list_words, member_words, make_plain, make_same, make_lists, make_named, numbers_of, texts_of, plain_of, same_of, lists_of, named_of, schema_of}
use Rattle.schema_defs.proofs.Stand.{some_same, none_is_not}
use Rattle.schema_faults.proofs.Objects.{AllAbsent, none_stands}
use Rattle.schema_laws.proofs.Options.{IfThere, passed3, taken3, taken4, tenth}

-- ---- keywords that stand

abbrev pub Present : {A : Type 0} → Option Reading → (Reading → Option A) → Option A → Type 0
Present {A} o f a = (r : Reading) → o ≡ Some r → (x : A) × (f r ≡ Some x) × (a ≡ Some x)

by_answer : {A : Type 0} (f : Reading → Option A) (r : Reading) (o : Option A) → f r ≡ o → IfThere (Present (Some r) f) (option_map Some o)
by_answer f r None e = tt
by_answer f r (Some x) e = λ s g. (x, ap f (sym (some_same r s g)) ∙ e, refl)

at_reading : {A : Type 0} (f : Reading → Option A) (o : Option Reading) → IfThere (Present o f) (optional f o)
at_reading f None = λ r e. absurd (none_is_not r e)
at_reading f (Some r) = by_answer f r (f r) refl

-- a keyword that stands is read
pub present : {A : Type 0} (k : List ℕ) (f : Reading → Option A) (look : Lookup) → IfThere (Present (look k) f) (keyword k f look)
present k f look = at_reading f (look k)

by_part : {A : Type 0} (P : A → Type 0) (b : Bool) (x : Option A) (absent : A) → IfThere P x → (b ≡ false → P absent) → IfThere P (if b then x else Some absent)
by_part P true x absent h g = h
by_part P false x absent h g = g refl

-- ---- where they lead

-- where something stands that is read as x, the step leads to what x stands for
abbrev pub Leads : {A : Type 0} → Option Reading → (Reading → Option A) → (A → Option Node) → Option Node → Type 0
Leads {A} o f to n = (r : Reading) → o ≡ Some r → (x : A) × (f r ≡ Some x) × (n ≡ to x)

nowhere : {A : Type 0} (o : Option Reading) (f : Reading → Option A) (to : A → Option Node) (n : Option Node) → is_some o ≡ false → Leads o f to n
nowhere o f to n h r e = absurd (true≢false (sym (ap is_some e) ∙ h))

led : {A : Type 0} (o : Option Reading) (f : Reading → Option A) (through : Option A → Option Node) (a : Option A) → Present o f a → Leads o f (λ x. through (Some x)) (through a)
led o f through a h r e = let t = h r e in (t.0, t.1, ap through t.2)

moved : {A : Type 0} (o : Option Reading) (f : Reading → Option A) (to : A → Option Node) (m n : Option Node) → n ≡ m → Leads o f to m → Leads o f to n
moved o f to m n g h r e = let t = h r e in (t.0, t.1, g ∙ t.2)

abbrev pub as_schema : Reading → Option Schema
as_schema r = r.as_schema

abbrev pub as_list : Reading → Option Schemas
as_list r = r.as_list

abbrev pub as_some_list : Reading → Option Schemas
as_some_list r = option_and_then unless_empty r.as_list

abbrev pub as_named : Reading → Option Properties
as_named r = r.as_named

abbrev pub to_schema : Schema → Option Node
to_schema s = Some (at_schema s)

abbrev pub to_list : Schemas → Option Node
to_list ss = Some (at_list ss)

abbrev pub to_names : Properties → Option Node
to_names ps = Some (at_names ps)

module _ (look : Lookup) where
  -- the keywords that hold schemas, by where their steps lead
  pub record KeyLeads (at : Step → Option Node) : Type 0 where
    pub k_allOf : Leads (look (codes "allOf")) as_some_list to_list (at (codes "allOf"))
    pub k_anyOf : Leads (look (codes "anyOf")) as_list to_list (at (codes "anyOf"))
    pub k_oneOf : Leads (look (codes "oneOf")) as_list to_list (at (codes "oneOf"))
    pub k_not : Leads (look (codes "not")) as_schema to_schema (at (codes "not"))
    pub k_items : Leads (look (codes "items")) places_of places_node (at (codes "items"))
    pub k_additionalItems : Leads (look (codes "additionalItems")) as_schema to_schema (at (codes "additionalItems"))
    pub k_contains : Leads (look (codes "contains")) as_schema to_schema (at (codes "contains"))
    pub k_properties : Leads (look (codes "properties")) as_named to_names (at (codes "properties"))
    pub k_patternProperties : Leads (look (codes "patternProperties")) as_named to_names (at (codes "patternProperties"))
    pub k_additionalProperties : Leads (look (codes "additionalProperties")) as_schema to_schema (at (codes "additionalProperties"))
    pub k_propertyNames : Leads (look (codes "propertyNames")) as_schema to_schema (at (codes "propertyNames"))

  record SameLeads (ss : Same) : Type 0 where
    k_allOf : Leads (look (codes "allOf")) as_some_list to_list (same_node (codes "allOf") ss)
    k_anyOf : Leads (look (codes "anyOf")) as_list to_list (same_node (codes "anyOf") ss)
    k_oneOf : Leads (look (codes "oneOf")) as_list to_list (same_node (codes "oneOf") ss)
    k_not : Leads (look (codes "not")) as_schema to_schema (same_node (codes "not") ss)

  record ListsLead (ls : Lists) : Type 0 where
    k_items : Leads (look (codes "items")) places_of places_node (lists_node (codes "items") ls)
    k_additionalItems : Leads (look (codes "additionalItems")) as_schema to_schema (lists_node (codes "additionalItems") ls)
    k_contains : Leads (look (codes "contains")) as_schema to_schema (lists_node (codes "contains") ls)

  record NamedLeads (ns : Named) : Type 0 where
    k_properties : Leads (look (codes "properties")) as_named to_names (named_node (codes "properties") ns)
    k_patternProperties : Leads (look (codes "patternProperties")) as_named to_names (named_node (codes "patternProperties") ns)
    k_additionalProperties : Leads (look (codes "additionalProperties")) as_schema to_schema (named_node (codes "additionalProperties") ns)
    k_propertyNames : Leads (look (codes "propertyNames")) as_schema to_schema (named_node (codes "propertyNames") ns)

  no_same_leads : AllAbsent same_words look → SameLeads no_same
  no_same_leads h = record {
    k_allOf = nowhere (look (codes "allOf")) as_some_list to_list None h.0;
    k_anyOf = nowhere (look (codes "anyOf")) as_list to_list None h.1.0;
    k_oneOf = nowhere (look (codes "oneOf")) as_list to_list None h.1.1.0;
    k_not = nowhere (look (codes "not")) as_schema to_schema None h.1.1.1.0;
  }

  same_leads : IfThere SameLeads (same_of look)
  unfolding same_of
  same_leads =
      by_part SameLeads (any_stands same_words look)
      (Some (make_same (any_stands condition_words look)) ⊛ keyword (codes "allOf") as_some_list look ⊛ keyword (codes "anyOf") as_list look ⊛ keyword (codes "oneOf") as_list look ⊛ keyword (codes "not") as_schema look)
      no_same
      (taken4 (Present (look (codes "allOf")) as_some_list) (Present (look (codes "anyOf")) as_list) (Present (look (codes "oneOf")) as_list) (Present (look (codes "not")) as_schema) SameLeads
      (Some (make_same (any_stands condition_words look)))
      (keyword (codes "allOf") as_some_list look) (keyword (codes "anyOf") as_list look) (keyword (codes "oneOf") as_list look) (keyword (codes "not") as_schema look)
      (λ all h any i one j none k. record {
        k_allOf = led (look (codes "allOf")) as_some_list (λ a. list_node (maybe_list a)) all h;
        k_anyOf = led (look (codes "anyOf")) as_list (λ a. list_node (maybe_list a)) any i;
        k_oneOf = led (look (codes "oneOf")) as_list (λ a. list_node (maybe_list a)) one j;
        k_not = led (look (codes "not")) as_schema (λ a. maybe_node (maybe_schema a)) none k;
      })
      (present (codes "allOf") as_some_list look) (present (codes "anyOf") as_list look) (present (codes "oneOf") as_list look) (present (codes "not") as_schema look))
      (λ e. no_same_leads (none_stands same_words look e))

  no_lists_lead : AllAbsent list_words look → ListsLead no_lists
  no_lists_lead h = record {
    k_items = nowhere (look (codes "items")) places_of places_node None h.0;
    k_additionalItems = nowhere (look (codes "additionalItems")) as_schema to_schema None h.1.0;
    k_contains = nowhere (look (codes "contains")) as_schema to_schema None h.1.1.0;
  }

  lists_lead : IfThere ListsLead (lists_of look)
  unfolding lists_of
  lists_lead =
      by_part ListsLead (any_stands list_words look)
      (Some make_lists ⊛ keyword (codes "items") places_of look ⊛ keyword (codes "additionalItems") as_schema look ⊛ keyword (codes "contains") as_schema look
      ⊛ keyword (codes "maxItems") (by_value size_of) look ⊛ keyword (codes "minItems") (by_value size_of) look ⊛ keyword (codes "uniqueItems") (by_value flag_of) look)
      no_lists
      (passed3 ListsLead (Some make_lists ⊛ keyword (codes "items") places_of look ⊛ keyword (codes "additionalItems") as_schema look ⊛ keyword (codes "contains") as_schema look)
      (keyword (codes "maxItems") (by_value size_of) look) (keyword (codes "minItems") (by_value size_of) look) (keyword (codes "uniqueItems") (by_value flag_of) look)
      (taken3 (Present (look (codes "items")) places_of) (Present (look (codes "additionalItems")) as_schema) (Present (look (codes "contains")) as_schema)
      (λ (k : Option ℕ → Option ℕ → Option Bool → Lists). (m : Option ℕ) (n : Option ℕ) (u : Option Bool) → ListsLead (k m n u)) (Some make_lists)
      (keyword (codes "items") places_of look) (keyword (codes "additionalItems") as_schema look) (keyword (codes "contains") as_schema look)
      (λ places h rest i contains j m n u. record {
        k_items = led (look (codes "items")) places_of (λ a. places_node (unwrap_or a tree.no_items)) places h;
        k_additionalItems = led (look (codes "additionalItems")) as_schema (λ a. maybe_node (maybe_schema a)) rest i;
        k_contains = led (look (codes "contains")) as_schema (λ a. maybe_node (maybe_schema a)) contains j;
      })
      (present (codes "items") places_of look) (present (codes "additionalItems") as_schema look) (present (codes "contains") as_schema look)))
      (λ e. no_lists_lead (none_stands list_words look e))

  no_named_leads : AllAbsent member_words look → NamedLeads no_named
  no_named_leads h = record {
    k_properties = nowhere (look (codes "properties")) as_named to_names None h.0;
    k_patternProperties = nowhere (look (codes "patternProperties")) as_named to_names None h.1.0;
    k_additionalProperties = nowhere (look (codes "additionalProperties")) as_schema to_schema None h.1.1.0;
    k_propertyNames = nowhere (look (codes "propertyNames")) as_schema to_schema None h.1.1.1.0;
  }

  named_leads : IfThere NamedLeads (named_of look)
  unfolding named_of
  named_leads =
      by_part NamedLeads (any_stands member_words look)
      (Some make_named ⊛ keyword (codes "properties") as_named look ⊛ keyword (codes "patternProperties") as_named look ⊛ keyword (codes "additionalProperties") as_schema look ⊛ keyword (codes "propertyNames") as_schema look
      ⊛ keyword (codes "maxProperties") (by_value size_of) look ⊛ keyword (codes "minProperties") (by_value size_of) look ⊛ keyword (codes "required") (by_value names_of) look)
      no_named
      (passed3 NamedLeads
      (Some make_named ⊛ keyword (codes "properties") as_named look ⊛ keyword (codes "patternProperties") as_named look ⊛ keyword (codes "additionalProperties") as_schema look ⊛ keyword (codes "propertyNames") as_schema look)
      (keyword (codes "maxProperties") (by_value size_of) look) (keyword (codes "minProperties") (by_value size_of) look) (keyword (codes "required") (by_value names_of) look)
      (taken4 (Present (look (codes "properties")) as_named) (Present (look (codes "patternProperties")) as_named) (Present (look (codes "additionalProperties")) as_schema) (Present (look (codes "propertyNames")) as_schema)
      (λ (k : Option ℕ → Option ℕ → Option (List (List ℕ)) → Named). (m : Option ℕ) (n : Option ℕ) (u : Option (List (List ℕ))) → NamedLeads (k m n u)) (Some make_named)
      (keyword (codes "properties") as_named look) (keyword (codes "patternProperties") as_named look) (keyword (codes "additionalProperties") as_schema look) (keyword (codes "propertyNames") as_schema look)
      (λ props h patterns i rest j names l m n u. record {
        k_properties = led (look (codes "properties")) as_named (λ a. Some (at_names (unwrap_or a no_properties))) props h;
        k_patternProperties = led (look (codes "patternProperties")) as_named (λ a. Some (at_names (unwrap_or a no_properties))) patterns i;
        k_additionalProperties = led (look (codes "additionalProperties")) as_schema (λ a. maybe_node (maybe_schema a)) rest j;
        k_propertyNames = led (look (codes "propertyNames")) as_schema (λ a. maybe_node (maybe_schema a)) names l;
      })
      (present (codes "properties") as_named look) (present (codes "patternProperties") as_named look) (present (codes "additionalProperties") as_schema look) (present (codes "propertyNames") as_schema look)))
      (λ e. no_named_leads (none_stands member_words look e))

-- ---- the words of the other parts

not_same : (k : Step) → bytes_eq k (codes "allOf") ≡ false → bytes_eq k (codes "anyOf") ≡ false → bytes_eq k (codes "oneOf") ≡ false → bytes_eq k (codes "not") ≡ false → (ss : Same) → same_node k ss ≡ None
not_same k a b c d no_same = refl
not_same k a b c d (same_value all any one none conditional) =
    λ i. if a i then list_node all else if b i then list_node any else if c i then list_node one else if d i then maybe_node none else None

not_lists : (k : Step) → bytes_eq k (codes "items") ≡ false → bytes_eq k (codes "additionalItems") ≡ false → bytes_eq k (codes "contains") ≡ false → (ls : Lists) → lists_node k ls ≡ None
not_lists k a b c no_lists = refl
not_lists k a b c (lists places rest contains rules) = λ i. if a i then places_node places else if b i then maybe_node rest else if c i then maybe_node contains else None

not_named : (k : Step) → bytes_eq k (codes "properties") ≡ false → bytes_eq k (codes "patternProperties") ≡ false → bytes_eq k (codes "additionalProperties") ≡ false → bytes_eq k (codes "propertyNames") ≡ false → (ns : Named) → named_node k ns ≡ None
not_named k a b c d no_named = refl
not_named k a b c d (named props patterns rest names rules) =
    λ i. if a i then Some (at_names props) else if b i then Some (at_names patterns) else if c i then maybe_node rest else if d i then maybe_node names else None

first_alone : (x y z : Option Node) → y ≡ None → z ≡ None → either_node x (either_node y z) ≡ x
first_alone (Some x) y z h g = refl
first_alone None y z h g = (λ i. either_node (h i) (g i))

second_alone : (x y z : Option Node) → x ≡ None → z ≡ None → either_node x (either_node y z) ≡ y
second_alone x (Some y) z h g = ap (λ n. either_node n (Some y)) h
second_alone x None z h g = λ i. either_node (h i) (g i)

third_alone : (x y z : Option Node) → x ≡ None → y ≡ None → either_node x (either_node y z) ≡ z
third_alone x y z h g = λ i. either_node (h i) (either_node (g i) z)

module _ (look : Lookup) (p : Plain) (ss : Same) (ls : Lists) (ns : Named) where
  same_word : (k : Step) → bytes_eq k (codes "items") ≡ false → bytes_eq k (codes "additionalItems") ≡ false → bytes_eq k (codes "contains") ≡ false
      → bytes_eq k (codes "properties") ≡ false → bytes_eq k (codes "patternProperties") ≡ false → bytes_eq k (codes "additionalProperties") ≡ false → bytes_eq k (codes "propertyNames") ≡ false → schema_node k (object p ss ls ns) ≡ same_node k ss
  same_word k a b c d e f g = first_alone (same_node k ss) (lists_node k ls) (named_node k ns) (not_lists k a b c ls) (not_named k d e f g ns)

  list_word : (k : Step) → bytes_eq k (codes "allOf") ≡ false → bytes_eq k (codes "anyOf") ≡ false → bytes_eq k (codes "oneOf") ≡ false → bytes_eq k (codes "not") ≡ false
      → bytes_eq k (codes "properties") ≡ false → bytes_eq k (codes "patternProperties") ≡ false → bytes_eq k (codes "additionalProperties") ≡ false → bytes_eq k (codes "propertyNames") ≡ false → schema_node k (object p ss ls ns) ≡ lists_node k ls
  list_word k a b c h d e f g = second_alone (same_node k ss) (lists_node k ls) (named_node k ns) (not_same k a b c h ss) (not_named k d e f g ns)

  name_word : (k : Step) → bytes_eq k (codes "allOf") ≡ false → bytes_eq k (codes "anyOf") ≡ false → bytes_eq k (codes "oneOf") ≡ false → bytes_eq k (codes "not") ≡ false
      → bytes_eq k (codes "items") ≡ false → bytes_eq k (codes "additionalItems") ≡ false → bytes_eq k (codes "contains") ≡ false → schema_node k (object p ss ls ns) ≡ named_node k ns
  name_word k a b c h d e f = third_alone (same_node k ss) (lists_node k ls) (named_node k ns) (not_same k a b c h ss) (not_lists k d e f ls)

  object_leads : SameLeads look ss → ListsLead look ls → NamedLeads look ns → KeyLeads look (λ k. schema_node k (object p ss ls ns))
  object_leads s l n = record {
    k_allOf = moved (look (codes "allOf")) as_some_list to_list (same_node (codes "allOf") ss) _ (same_word (codes "allOf") refl refl refl refl refl refl refl) s.k_allOf;
    k_anyOf = moved (look (codes "anyOf")) as_list to_list (same_node (codes "anyOf") ss) _ (same_word (codes "anyOf") refl refl refl refl refl refl refl) s.k_anyOf;
    k_oneOf = moved (look (codes "oneOf")) as_list to_list (same_node (codes "oneOf") ss) _ (same_word (codes "oneOf") refl refl refl refl refl refl refl) s.k_oneOf;
    k_not = moved (look (codes "not")) as_schema to_schema (same_node (codes "not") ss) _ (same_word (codes "not") refl refl refl refl refl refl refl) s.k_not;
    k_items = moved (look (codes "items")) places_of places_node (lists_node (codes "items") ls) _ (list_word (codes "items") refl refl refl refl refl refl refl refl) l.k_items;
    k_additionalItems = moved (look (codes "additionalItems")) as_schema to_schema (lists_node (codes "additionalItems") ls) _ (list_word (codes "additionalItems") refl refl refl refl refl refl refl refl) l.k_additionalItems;
    k_contains = moved (look (codes "contains")) as_schema to_schema (lists_node (codes "contains") ls) _ (list_word (codes "contains") refl refl refl refl refl refl refl refl) l.k_contains;
    k_properties = moved (look (codes "properties")) as_named to_names (named_node (codes "properties") ns) _ (name_word (codes "properties") refl refl refl refl refl refl refl) n.k_properties;
    k_patternProperties = moved (look (codes "patternProperties")) as_named to_names (named_node (codes "patternProperties") ns) _ (name_word (codes "patternProperties") refl refl refl refl refl refl refl) n.k_patternProperties;
    k_additionalProperties = moved (look (codes "additionalProperties")) as_schema to_schema (named_node (codes "additionalProperties") ns) _ (name_word (codes "additionalProperties") refl refl refl refl refl refl refl) n.k_additionalProperties;
    k_propertyNames = moved (look (codes "propertyNames")) as_schema to_schema (named_node (codes "propertyNames") ns) _ (name_word (codes "propertyNames") refl refl refl refl refl refl refl) n.k_propertyNames;
  }

pub anything : {A : Type 0} (o : Option A) → IfThere (λ x. Unit {0}) o
anything None = tt
anything (Some x) = tt

-- each keyword of a schema that is read leads to what stands there
pub key_leads : (look : Lookup) → IfThere (λ s. KeyLeads look (λ k. schema_node k s)) (schema_of look)
unfolding schema_of
key_leads look =
    taken4 (λ (r : Plain). Unit {0}) (SameLeads look) (ListsLead look) (NamedLeads look) (λ (s : Schema). KeyLeads look (λ k. schema_node k s))
    (Some (λ (r : Plain) (ss : Same) (ls : Lists) (ns : Named). object r ss ls ns)) (plain_of look) (same_of look) (lists_of look) (named_of look)
    (λ r u ss s ls l ns n. object_leads look r ss ls ns s l n) (anything (plain_of look)) (same_leads look) (lists_lead look) (named_leads look)

-- the reference of a schema that is read is the text of its `$ref`
pub reference_present : (look : Lookup) → IfThere (λ s. Present (look (codes "$ref")) (by_value text_of) (reference_of s)) (schema_of look)
unfolding schema_of plain_of
reference_present look =
    taken4 (λ (r : Plain). Present (look (codes "$ref")) (by_value text_of) r.reference) (λ (ss : Same). Unit {0}) (λ (ls : Lists). Unit {0}) (λ (ns : Named). Unit {0})
    (λ (s : Schema). Present (look (codes "$ref")) (by_value text_of) (reference_of s)) (Some (λ (r : Plain) (ss : Same) (ls : Lists) (ns : Named). object r ss ls ns)) (plain_of look) (same_of look) (lists_of look) (named_of look)
    (λ r h ss u ls w ns x. h)
    (tenth (Present (look (codes "$ref")) (by_value text_of)) (λ (r : Plain). Present (look (codes "$ref")) (by_value text_of) r.reference) make_plain
    (keyword (codes "title") (by_value text_of) look) (keyword (codes "description") (by_value text_of) look) (keyword (codes "default") (by_value kept) look)
    (keyword (codes "const") (by_value kept) look) (keyword (codes "type") (by_value types_of) look) (keyword (codes "format") (by_value text_of) look)
    (keyword (codes "enum") (by_value kept_list) look) (numbers_of look) (texts_of look) (keyword (codes "$ref") (by_value text_of) look)
    (λ t d v c k m e n s q i. i) (present (codes "$ref") (by_value text_of) look))
    (anything (same_of look)) (anything (lists_of look)) (anything (named_of look))
