-- Whether two schemas are alike in all but walks, as a test, part by part.
use Rattle.std.specs.Prelude.{ℕ, ℤ, List, Bool, true, false, ◌&&◌, ◌==◌, Option, Some, None, bytes_eq}
use Rattle.std.specs.Ordering.{int_eq}
use Rattle.std.specs.Cmp.Lexicographic.{pointwise}
use Rattle.json_value.specs.Value.{same, same_bool}
use Rattle.schema_defs.specs.declared.InstanceType.{InstanceType}
use Rattle.schema_defs.specs.declared.InstanceType.TheVariants.{Null, Boolean, Object, Array, Number, Text, Integer}
use Rattle.schema_defs.specs.Schema.{Types, one_type, many_types, Numbers, Texts, ListRules, MemberRules, Plain, Schema, boolean, object, Same, no_same, same_value, Lists, no_lists, lists, Named, no_named, named, MaybeSchema, no_schema, the_schema, MaybeSchemas, no_list, the_list, Schemas, no_more, schema, Places, no_items, each_item, by_place, Properties, no_properties, property}

abbrev pub same_option : {A : Type 0} → (A → A → Bool) → Option A → Option A → Bool
same_option f None None = true
same_option f (Some x) (Some y) = f x y
same_option f _ _ = false

-- ---- keywords that hold no schema

abbrev pub same_kind : InstanceType → InstanceType → Bool
same_kind Null Null = true
same_kind Boolean Boolean = true
same_kind Object Object = true
same_kind Array Array = true
same_kind Number Number = true
same_kind Text Text = true
same_kind Integer Integer = true
same_kind _ _ = false

abbrev pub same_types : Types → Types → Bool
same_types (one_type k) (one_type l) = same_kind k l
same_types (many_types ks) (many_types ls) = pointwise same_kind ks ls
same_types _ _ = false

abbrev pub same_number : Option ℕ → Option ℕ → Bool
same_number x y = same_option (λ m n. m == n) x y

abbrev pub same_integer : Option ℤ → Option ℤ → Bool
same_integer x y = same_option int_eq x y

abbrev pub same_text : Option (List ℕ) → Option (List ℕ) → Bool
same_text x y = same_option bytes_eq x y

abbrev pub same_numbers : Numbers → Numbers → Bool
same_numbers m n =
    same_number m.multiple_of n.multiple_of
    && same_integer m.maximum n.maximum
    && same_integer m.exclusive_maximum n.exclusive_maximum
    && same_integer m.minimum n.minimum
    && same_integer m.exclusive_minimum n.exclusive_minimum

abbrev pub same_texts : Texts → Texts → Bool
same_texts s t = same_number s.max_length t.max_length && same_number s.min_length t.min_length && pointwise bytes_eq s.patterns t.patterns

abbrev pub same_list_rules : ListRules → ListRules → Bool
same_list_rules c d = same_number c.max_items d.max_items && same_number c.min_items d.min_items && same_option same_bool c.unique_items d.unique_items

abbrev pub same_member_rules : MemberRules → MemberRules → Bool
same_member_rules c d = same_number c.max_properties d.max_properties && same_number c.min_properties d.min_properties && pointwise bytes_eq c.required d.required

-- the walk is not compared
unfoldable pub same_plain : Plain → Plain → Bool
same_plain p q =
    same_text p.title q.title
    && same_text p.description q.description
    && same_option same p.default q.default
    && same_option same p.const_value q.const_value
    && same_option same_types p.types q.types
    && same_text p.format q.format
    && same_option (pointwise same) p.enum_values q.enum_values
    && same_option same_numbers p.numbers q.numbers
    && same_option same_texts p.texts q.texts
    && same_text p.reference q.reference

-- the same of two schemas, where both are objects
abbrev pub same_keywords : Schema → Schema → Bool
same_keywords (object p ss ls ns) (object q ts ms os) = same_plain p q
same_keywords _ _ = false

-- the same of the rules of two lists, where both are there
abbrev pub same_sizes : Lists → Lists → Bool
same_sizes (lists places rest contains rules) (lists places' rest' contains' rules') = same_list_rules rules rules'
same_sizes _ _ = false

-- ---- schemas

abbrev mutual
  pub same_schemas : Schema → Schema → Bool
  same_schemas (boolean a) (boolean b) = same_bool a b
  same_schemas (object p ss ls ns) (object q ts ms os) = same_plain p q && same_sames ss ts && same_lists ls ms && same_named ns os
  same_schemas _ _ = false

  pub same_sames : Same → Same → Bool
  same_sames no_same no_same = true
  same_sames (same_value all any one none conditional) (same_value all' any' one' none' conditional') =
      same_list all all' && same_list any any' && same_list one one' && same_maybe none none' && same_bool conditional conditional'
  same_sames _ _ = false

  pub same_lists : Lists → Lists → Bool
  same_lists no_lists no_lists = true
  same_lists (lists places rest contains rules) (lists places' rest' contains' rules') =
      same_places places places' && same_maybe rest rest' && same_maybe contains contains' && same_list_rules rules rules'
  same_lists _ _ = false

  pub same_named : Named → Named → Bool
  same_named no_named no_named = true
  same_named (named props patterns rest names rules) (named props' patterns' rest' names' rules') =
      same_properties props props' && same_properties patterns patterns' && same_maybe rest rest' && same_maybe names names' && same_member_rules rules rules'
  same_named _ _ = false

  pub same_maybe : MaybeSchema → MaybeSchema → Bool
  same_maybe no_schema no_schema = true
  same_maybe (the_schema s) (the_schema t) = same_schemas s t
  same_maybe _ _ = false

  pub same_list : MaybeSchemas → MaybeSchemas → Bool
  same_list no_list no_list = true
  same_list (the_list ss) (the_list ts) = same_all ss ts
  same_list _ _ = false

  pub same_all : Schemas → Schemas → Bool
  same_all no_more no_more = true
  same_all (schema s ss) (schema t ts) = same_schemas s t && same_all ss ts
  same_all _ _ = false

  pub same_places : Places → Places → Bool
  same_places no_items no_items = true
  same_places (each_item s) (each_item t) = same_schemas s t
  same_places (by_place ss) (by_place ts) = same_all ss ts
  same_places _ _ = false

  pub same_properties : Properties → Properties → Bool
  same_properties no_properties no_properties = true
  same_properties (property j s ps) (property k t qs) = bytes_eq j k && same_schemas s t && same_properties ps qs
  same_properties _ _ = false
