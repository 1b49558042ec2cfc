-- `same_schemas` decides whether two schemas are equal without their walks.
use Rattle.std.proofs.Common.{◌≡◌, ℕ, ℤ, ◌==◌, List, Bool, true, false, Option, Some, None, refl, sym, ap, ◌∙◌, true≢false, bytes_eq}
use Rattle.std.specs.Bool.{Decides}
use Rattle.std.specs.Cmp.{signed_Decides}
use Rattle.std.specs.Ordering.{int_eq}
use Rattle.std.specs.Cmp.Lexicographic.{pointwise, pointwise_decides}
use Rattle.std.proofs.lemmas.Bool.Decides.{Decides-and, Decides-eqb}
use Rattle.std.proofs.lemmas.Slice.Eq.{bytes_eq-Decides}
use Rattle.json_value.specs.Value.{same, same_bool}
use Rattle.json_value.proofs.Equality.{same_Decides}
use Rattle.schema_defs.specs.declared.InstanceType.{InstanceType}
use Rattle.schema_defs.specs.declared.InstanceType.TheVariants.{Null, Boolean, Object, Array, Number, Text, Integer}
use Rattle.schema_defs.specs.Schema.{Types, one_type, many_types, Numbers, Texts, ListRules, MemberRules, Plain, Schema, boolean, object, Same, no_same, same_value, Lists, no_lists, lists, Named, no_named, named, MaybeSchema, no_schema, the_schema, MaybeSchemas, no_list, the_list, Schemas, no_more, schema, Places, no_items, each_item, by_place, Properties, no_properties, property}
use Rattle.schema_defs.specs.Mapped.{mapped, mapped_same, mapped_lists, mapped_named, mapped_maybe, mapped_list, mapped_all, mapped_places, mapped_properties, unwalked}
use Rattle.schema_types.specs.Same.{same_option, same_kind, same_types, same_numbers, same_texts, same_list_rules, same_member_rules, same_plain, same_schemas, same_sames, same_lists, same_named, same_maybe, same_list, same_all, same_places, same_properties}

-- ---- tests of equality

turned : {P Q : Type 0} (b : Bool) → Decides b P → (P → Q) → (Q → P) → Decides b Q
turned b d f g = (λ e. f (d.0 e), λ q. d.1 (g q))

apart : {P : Type 0} → (P → ⊥) → Decides false P
apart n = (λ e. absurd (true≢false (sym e)), λ p. absurd (n p))

alike : {P : Type 0} → P → Decides true P
alike p = (λ e. p, λ q. refl)

option_Decides : {A : Type 0} (f : A → A → Bool) → ((x y : A) → Decides (f x y) (x ≡ y)) → (o p : Option A) → Decides (same_option f o p) (o ≡ p)
option_Decides f d None None = alike refl
option_Decides f d (Some x) (Some y) = turned (f x y) (d x y) (ap Some) (λ e. cc)
option_Decides f d None (Some y) = apart (λ e. cc)
option_Decides f d (Some x) None = apart (λ e. cc)

same_bool_Decides : (a b : Bool) → Decides (same_bool a b) (a ≡ b)
same_bool_Decides true true = alike refl
same_bool_Decides true false = apart true≢false
same_bool_Decides false true = apart (λ e. true≢false (sym e))
same_bool_Decides false false = alike refl

kind_sound : (k l : InstanceType) → same_kind k l ≡ true → k ≡ l
kind_sound Null Null h = refl
kind_sound Boolean Boolean h = refl
kind_sound Object Object h = refl
kind_sound Array Array h = refl
kind_sound Number Number h = refl
kind_sound Text Text h = refl
kind_sound Integer Integer h = refl
kind_sound _ _ h = absurd (true≢false (sym h))

kind_itself : (k : InstanceType) → same_kind k k ≡ true
kind_itself Null = refl
kind_itself Boolean = refl
kind_itself Object = refl
kind_itself Array = refl
kind_itself Number = refl
kind_itself Text = refl
kind_itself Integer = refl

pub kind_Decides : (k l : InstanceType) → Decides (same_kind k l) (k ≡ l)
kind_Decides k l = (kind_sound k l, λ e. ap (same_kind k) (sym e) ∙ kind_itself k)

types_Decides : (s t : Types) → Decides (same_types s t) (s ≡ t)
types_Decides (one_type k) (one_type l) = turned (same_kind k l) (kind_Decides k l) (ap one_type) (λ e. cc)
types_Decides (many_types ks) (many_types ls) = turned (pointwise same_kind ks ls) (pointwise_decides kind_Decides ks ls) (ap many_types) (λ e. cc)
types_Decides (one_type k) (many_types ls) = apart (λ e. cc)
types_Decides (many_types ks) (one_type l) = apart (λ e. cc)

number_Decides : (o p : Option ℕ) → Decides (same_option (λ m n. m == n) o p) (o ≡ p)
number_Decides = option_Decides (λ m n. m == n) Decides-eqb

integer_Decides : (o p : Option ℤ) → Decides (same_option int_eq o p) (o ≡ p)
integer_Decides = option_Decides int_eq signed_Decides

text_Decides : (o p : Option (List ℕ)) → Decides (same_option bytes_eq o p) (o ≡ p)
text_Decides = option_Decides bytes_eq bytes_eq-Decides

list_of_texts_Decides : (ss ts : List (List ℕ)) → Decides (pointwise bytes_eq ss ts) (ss ≡ ts)
list_of_texts_Decides = pointwise_decides bytes_eq-Decides

-- ---- records, field by field

numbers_Decides : (m n : Numbers) → Decides (same_numbers m n) (m ≡ n)
numbers_Decides m n =
    turned (same_numbers m n)
    (Decides-and _ _ (Decides-and _ _ (Decides-and _ _ (Decides-and _ _ (number_Decides m.multiple_of n.multiple_of) (integer_Decides m.maximum n.maximum)) (integer_Decides m.exclusive_maximum n.exclusive_maximum)) (integer_Decides m.minimum n.minimum))
    (integer_Decides m.exclusive_minimum n.exclusive_minimum))
    (λ h i. record { multiple_of = h.0.0.0.0 i; maximum = h.0.0.0.1 i; exclusive_maximum = h.0.0.1 i; minimum = h.0.1 i; exclusive_minimum = h.1 i })
    (λ e. ((((ap (λ r. r.multiple_of) e, ap (λ r. r.maximum) e), ap (λ r. r.exclusive_maximum) e), ap (λ r. r.minimum) e), ap (λ r. r.exclusive_minimum) e))

texts_Decides : (s t : Texts) → Decides (same_texts s t) (s ≡ t)
texts_Decides s t =
    turned (same_texts s t)
    (Decides-and _ _ (Decides-and _ _ (number_Decides s.max_length t.max_length) (number_Decides s.min_length t.min_length)) (list_of_texts_Decides s.patterns t.patterns))
    (λ h i. record { max_length = h.0.0 i; min_length = h.0.1 i; patterns = h.1 i })
    (λ e. ((ap (λ r. r.max_length) e, ap (λ r. r.min_length) e), ap (λ r. r.patterns) e))

list_rules_Decides : (c d : ListRules) → Decides (same_list_rules c d) (c ≡ d)
list_rules_Decides c d =
    turned (same_list_rules c d)
    (Decides-and _ _ (Decides-and _ _ (number_Decides c.max_items d.max_items) (number_Decides c.min_items d.min_items)) (option_Decides same_bool same_bool_Decides c.unique_items d.unique_items))
    (λ h i. record { max_items = h.0.0 i; min_items = h.0.1 i; unique_items = h.1 i })
    (λ e. ((ap (λ r. r.max_items) e, ap (λ r. r.min_items) e), ap (λ r. r.unique_items) e))

member_rules_Decides : (c d : MemberRules) → Decides (same_member_rules c d) (c ≡ d)
member_rules_Decides c d =
    turned (same_member_rules c d)
    (Decides-and _ _ (Decides-and _ _ (number_Decides c.max_properties d.max_properties) (number_Decides c.min_properties d.min_properties)) (list_of_texts_Decides c.required d.required))
    (λ h i. record { max_properties = h.0.0 i; min_properties = h.0.1 i; required = h.1 i })
    (λ e. ((ap (λ r. r.max_properties) e, ap (λ r. r.min_properties) e), ap (λ r. r.required) e))

plain_Decides : (p q : Plain) → Decides (same_plain p q) (unwalked p ≡ unwalked q)
unfolding same_plain
plain_Decides p q =
    turned (same_plain p q)
    (Decides-and _ _
    (Decides-and _ _
    (Decides-and _ _
    (Decides-and _ _
    (Decides-and _ _
    (Decides-and _ _
    (Decides-and _ _ (Decides-and _ _ (Decides-and _ _ (text_Decides p.title q.title) (text_Decides p.description q.description)) (option_Decides same same_Decides p.default q.default)) (option_Decides same same_Decides p.const_value q.const_value))
    (option_Decides same_types types_Decides p.types q.types))
    (text_Decides p.format q.format))
    (option_Decides (pointwise same) (pointwise_decides same_Decides) p.enum_values q.enum_values))
    (option_Decides same_numbers numbers_Decides p.numbers q.numbers))
    (option_Decides same_texts texts_Decides p.texts q.texts))
    (text_Decides p.reference q.reference))
    (λ h i. record {
      title = h.0.0.0.0.0.0.0.0.0 i;
      description = h.0.0.0.0.0.0.0.0.1 i;
      default = h.0.0.0.0.0.0.0.1 i;
      const_value = h.0.0.0.0.0.0.1 i;
      types = h.0.0.0.0.0.1 i;
      format = h.0.0.0.0.1 i;
      enum_values = h.0.0.0.1 i;
      numbers = h.0.0.1 i;
      texts = h.0.1 i;
      reference = h.1 i;
      walk = None;
    })
    (λ e. (((((((((ap (λ r. r.title) e, ap (λ r. r.description) e), ap (λ r. r.default) e), ap (λ r. r.const_value) e), ap (λ r. r.types) e), ap (λ r. r.format) e), ap (λ r. r.enum_values) e), ap (λ r. r.numbers) e), ap (λ r. r.texts) e), ap (λ r. r.reference) e))

-- ---- schemas

mutual
  pub schemas_Decides : (a b : Schema) → Decides (same_schemas a b) (mapped unwalked a ≡ mapped unwalked b)
  schemas_Decides (boolean a) (boolean b) = turned (same_bool a b) (same_bool_Decides a b) (ap boolean) (λ e. cc)
  schemas_Decides (object p ss ls ns) (object q ts ms os) =
      turned (same_schemas (object p ss ls ns) (object q ts ms os)) (Decides-and _ _ (Decides-and _ _ (Decides-and _ _ (plain_Decides p q) (sames_Decides ss ts)) (lists_Decides ls ms)) (named_Decides ns os))
      (λ h i. object (h.0.0.0 i) (h.0.0.1 i) (h.0.1 i) (h.1 i)) (λ e. ((((cc), (cc)), (cc)), (cc)))
  schemas_Decides (boolean a) (object q ts ms os) = apart (λ e. cc)
  schemas_Decides (object p ss ls ns) (boolean b) = apart (λ e. cc)

  sames_Decides : (a b : Same) → Decides (same_sames a b) (mapped_same unwalked a ≡ mapped_same unwalked b)
  sames_Decides no_same no_same = alike refl
  sames_Decides (same_value all any one none c) (same_value all' any' one' none' c') =
      turned (same_sames (same_value all any one none c) (same_value all' any' one' none' c'))
      (Decides-and _ _ (Decides-and _ _ (Decides-and _ _ (Decides-and _ _ (list_Decides all all') (list_Decides any any')) (list_Decides one one')) (maybe_Decides none none')) (same_bool_Decides c c'))
      (λ h i. same_value (h.0.0.0.0 i) (h.0.0.0.1 i) (h.0.0.1 i) (h.0.1 i) (h.1 i)) (λ e. (((((cc), (cc)), (cc)), (cc)), (cc)))
  sames_Decides no_same (same_value all' any' one' none' c') = apart (λ e. cc)
  sames_Decides (same_value all any one none c) no_same = apart (λ e. cc)

  lists_Decides : (a b : Lists) → Decides (same_lists a b) (mapped_lists unwalked a ≡ mapped_lists unwalked b)
  lists_Decides no_lists no_lists = alike refl
  lists_Decides (lists places rest contains rules) (lists places' rest' contains' rules') =
      turned (same_lists (lists places rest contains rules) (lists places' rest' contains' rules'))
      (Decides-and _ _ (Decides-and _ _ (Decides-and _ _ (places_Decides places places') (maybe_Decides rest rest')) (maybe_Decides contains contains')) (list_rules_Decides rules rules'))
      (λ h i. lists (h.0.0.0 i) (h.0.0.1 i) (h.0.1 i) (h.1 i)) (λ e. ((((cc), (cc)), (cc)), (cc)))
  lists_Decides no_lists (lists places' rest' contains' rules') = apart (λ e. cc)
  lists_Decides (lists places rest contains rules) no_lists = apart (λ e. cc)

  named_Decides : (a b : Named) → Decides (same_named a b) (mapped_named unwalked a ≡ mapped_named unwalked b)
  named_Decides no_named no_named = alike refl
  named_Decides (named props patterns rest names rules) (named props' patterns' rest' names' rules') =
      turned (same_named (named props patterns rest names rules) (named props' patterns' rest' names' rules'))
      (Decides-and _ _ (Decides-and _ _ (Decides-and _ _ (Decides-and _ _ (properties_Decides props props') (properties_Decides patterns patterns')) (maybe_Decides rest rest')) (maybe_Decides names names')) (member_rules_Decides rules rules'))
      (λ h i. named (h.0.0.0.0 i) (h.0.0.0.1 i) (h.0.0.1 i) (h.0.1 i) (h.1 i)) (λ e. (((((cc), (cc)), (cc)), (cc)), (cc)))
  named_Decides no_named (named props' patterns' rest' names' rules') = apart (λ e. cc)
  named_Decides (named props patterns rest names rules) no_named = apart (λ e. cc)

  maybe_Decides : (a b : MaybeSchema) → Decides (same_maybe a b) (mapped_maybe unwalked a ≡ mapped_maybe unwalked b)
  maybe_Decides no_schema no_schema = alike refl
  maybe_Decides (the_schema s) (the_schema t) = turned (same_schemas s t) (schemas_Decides s t) (ap the_schema) (λ e. cc)
  maybe_Decides no_schema (the_schema t) = apart (λ e. cc)
  maybe_Decides (the_schema s) no_schema = apart (λ e. cc)

  list_Decides : (a b : MaybeSchemas) → Decides (same_list a b) (mapped_list unwalked a ≡ mapped_list unwalked b)
  list_Decides no_list no_list = alike refl
  list_Decides (the_list ss) (the_list ts) = turned (same_all ss ts) (all_Decides ss ts) (ap the_list) (λ e. cc)
  list_Decides no_list (the_list ts) = apart (λ e. cc)
  list_Decides (the_list ss) no_list = apart (λ e. cc)

  all_Decides : (a b : Schemas) → Decides (same_all a b) (mapped_all unwalked a ≡ mapped_all unwalked b)
  all_Decides no_more no_more = alike refl
  all_Decides (schema s ss) (schema t ts) = turned (same_all (schema s ss) (schema t ts)) (Decides-and _ _ (schemas_Decides s t) (all_Decides ss ts)) (λ h i. schema (h.0 i) (h.1 i)) (λ e. ((cc), (cc)))
  all_Decides no_more (schema t ts) = apart (λ e. cc)
  all_Decides (schema s ss) no_more = apart (λ e. cc)

  places_Decides : (a b : Places) → Decides (same_places a b) (mapped_places unwalked a ≡ mapped_places unwalked b)
  places_Decides no_items no_items = alike refl
  places_Decides (each_item s) (each_item t) = turned (same_schemas s t) (schemas_Decides s t) (ap each_item) (λ e. cc)
  places_Decides (by_place ss) (by_place ts) = turned (same_all ss ts) (all_Decides ss ts) (ap by_place) (λ e. cc)
  places_Decides no_items (each_item t) = apart (λ e. cc)
  places_Decides no_items (by_place ts) = apart (λ e. cc)
  places_Decides (each_item s) no_items = apart (λ e. cc)
  places_Decides (each_item s) (by_place ts) = apart (λ e. cc)
  places_Decides (by_place ss) no_items = apart (λ e. cc)
  places_Decides (by_place ss) (each_item t) = apart (λ e. cc)

  properties_Decides : (a b : Properties) → Decides (same_properties a b) (mapped_properties unwalked a ≡ mapped_properties unwalked b)
  properties_Decides no_properties no_properties = alike refl
  properties_Decides (property j s ps) (property k t qs) =
      turned (same_properties (property j s ps) (property k t qs)) (Decides-and _ _ (Decides-and _ _ (bytes_eq-Decides j k) (schemas_Decides s t)) (properties_Decides ps qs))
      (λ h i. property (h.0.0 i) (h.0.1 i) (h.1 i)) (λ e. (((cc), (cc)), (cc)))
  properties_Decides no_properties (property k t qs) = apart (λ e. cc)
  properties_Decides (property j s ps) no_properties = apart (λ e. cc)
