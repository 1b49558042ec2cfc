-- When two schemas are alike: wholly, or but for the keywords of lists other than `items` (roughly).
use Rattle.std.specs.Prelude.{◌&&◌, Bool, true, false, Option, Some, None, bytes_eq, nat_eq, if◌then◌else◌}
use Rattle.std.specs.Cmp.Lexicographic.{pointwise}
use Rattle.std.specs.Ordering.{int_eq}
use Rattle.json_value.specs.Value.{same, same_bool}
use Rattle.schema_defs.specs.Schema.{Types, one_type, many_types, Numbers, Texts, ListRules, MemberRules, Plain, Schema, boolean, object, Same, no_same, same_value, Lists, no_lists, lists, Named, no_named, named, MaybeSchema, no_schema, the_schema, MaybeSchemas, no_list, the_list, Schemas, no_more, schema, Places, no_items, each_item, by_place, Properties, no_properties, property}
use Rattle.enum_defs.specs.Words.{same_type, without_lists, without_named, without_same}

-- ---- what holds no schema

abbrev pub same_option : {A : Type 0} → (A → A → Bool) → Option A → Option A → Bool
same_option eq None None = true
same_option eq (Some x) (Some y) = eq x y
same_option eq _ _ = false

abbrev pub same_types : Types → Types → Bool
same_types (one_type k) (one_type l) = same_type k l
same_types (many_types ks) (many_types ls) = pointwise same_type ks ls
same_types _ _ = false

abbrev pub same_numbers : Numbers → Numbers → Bool
same_numbers x y =
    same_option nat_eq x.multiple_of y.multiple_of
    && same_option int_eq x.maximum y.maximum
    && same_option int_eq x.exclusive_maximum y.exclusive_maximum
    && same_option int_eq x.minimum y.minimum
    && same_option int_eq x.exclusive_minimum y.exclusive_minimum

abbrev pub same_texts : Texts → Texts → Bool
same_texts x y =
    same_option nat_eq x.max_length y.max_length
    && same_option nat_eq x.min_length y.min_length
    && pointwise bytes_eq x.patterns y.patterns

abbrev pub same_list_rules : ListRules → ListRules → Bool
same_list_rules x y =
    same_option nat_eq x.max_items y.max_items
    && same_option nat_eq x.min_items y.min_items
    && same_option same_bool x.unique_items y.unique_items

abbrev pub same_member_rules : MemberRules → MemberRules → Bool
same_member_rules x y =
    same_option nat_eq x.max_properties y.max_properties
    && same_option nat_eq x.min_properties y.min_properties
    && pointwise bytes_eq x.required y.required

-- constraints alone; annotations and walks aside
abbrev pub same_constraints : Plain → Plain → Bool
same_constraints p q =
    same_option same p.const_value q.const_value
    && same_option same_types p.types q.types
    && same_option bytes_eq p.format q.format
    && same_option (pointwise same) p.enum_values q.enum_values
    && same_option same_numbers p.numbers q.numbers
    && same_option same_texts p.texts q.texts
    && same_option bytes_eq p.reference q.reference

-- annotations too, walks aside
abbrev pub same_plain : Plain → Plain → Bool
same_plain p q =
    same_option bytes_eq p.title q.title
    && same_option bytes_eq p.description q.description
    && same_option same p.default q.default
    && same_constraints p q

-- ---- schemas

-- how schemas are compared: what holds no schema, `true` with an object, and whether the keywords of lists beside `items` count
pub record Look : Type 0 where
  pub plain : Plain → Plain → Bool
  pub as_true : Schema → Bool
  pub whole_lists : Bool

module _ (k : Look) where
  abbrev mutual
    pub alike : Schema → Schema → Bool
    alike (boolean a) (boolean b) = same_bool a b
    alike (boolean a) (object q tt' ms os) = a && k.as_true (object q tt' ms os)
    alike (object p ss ls ns) (boolean b) = b && k.as_true (object p ss ls ns)
    alike (object p ss ls ns) (object q tt' ms os) = k.plain p q && alike_same ss tt' && alike_lists ls ms && alike_named ns os

    pub alike_same : Same → Same → Bool
    alike_same no_same no_same = true
    alike_same (same_value a b c d e) (same_value a' b' c' d' e') = alike_list a a' && alike_list b b' && alike_list c c' && alike_maybe d d' && same_bool e e'
    alike_same _ _ = false

    pub alike_lists : Lists → Lists → Bool
    alike_lists no_lists no_lists = true
    alike_lists (lists p a c r) (lists p' a' c' r') =
        alike_places p p' && (if k.whole_lists then (alike_maybe a a' && alike_maybe c c' && same_list_rules r r') else true)
    alike_lists _ _ = false

    pub alike_named : Named → Named → Bool
    alike_named no_named no_named = true
    alike_named (named p q a n r) (named p' q' a' n' r') =
        alike_properties p p' && alike_properties q q' && alike_maybe a a' && alike_maybe n n' && same_member_rules r r'
    alike_named _ _ = false

    pub alike_maybe : MaybeSchema → MaybeSchema → Bool
    alike_maybe no_schema no_schema = true
    alike_maybe (the_schema s) (the_schema t) = alike s t
    alike_maybe _ _ = false

    pub alike_list : MaybeSchemas → MaybeSchemas → Bool
    alike_list no_list no_list = true
    alike_list (the_list ss) (the_list ts) = alike_all ss ts
    alike_list _ _ = false

    pub alike_all : Schemas → Schemas → Bool
    alike_all no_more no_more = true
    alike_all (schema s ss) (schema t ts) = alike s t && alike_all ss ts
    alike_all _ _ = false

    pub alike_places : Places → Places → Bool
    alike_places no_items no_items = true
    alike_places (each_item s) (each_item t) = alike s t
    alike_places (by_place ss) (by_place ts) = alike_all ss ts
    alike_places _ _ = false

    pub alike_properties : Properties → Properties → Bool
    alike_properties no_properties no_properties = true
    alike_properties (property n s ps) (property m t qs) = bytes_eq n m && (alike s t && alike_properties ps qs)
    alike_properties _ _ = false

-- what is absent
abbrev pub is_absent : {A : Type 0} → Option A → Bool
is_absent None = true
is_absent (Some x) = false

-- neither types, listed values, format, numbers nor texts
abbrev pub nothing_beside : Plain → Bool
nothing_beside p = is_absent p.types && (is_absent p.enum_values && (is_absent p.const_value && (is_absent p.format && (is_absent p.numbers && is_absent p.texts))))

-- `true` is an object without a constraint
abbrev pub is_unconstrained : Schema → Bool
is_unconstrained (boolean b) = b
is_unconstrained (object p ss ls ns) = (nothing_beside p && is_absent p.reference) && (without_same ss && (without_lists ls && without_named ns))

-- roughly: annotations and walks aside, and of lists `items` alone
abbrev pub roughly : Schema → Schema → Bool
roughly = alike (record { plain = same_constraints; as_true = is_unconstrained; whole_lists = false })

-- the same with each keyword of lists
abbrev pub wholly : Schema → Schema → Bool
wholly = alike (record { plain = same_constraints; as_true = is_unconstrained; whole_lists = true })

-- all but walks
abbrev pub same_schemas : Schema → Schema → Bool
same_schemas = alike (record { plain = same_plain; as_true = λ s. false; whole_lists = true })
