-- Forms outside the reader of values: which containers of a table it doesn't read, one line for each cause.
use Rattle.std.specs.Prelude.{ℕ, ◌&&◌, ◌||◌, List, [], ◌∷◌, map, filter, length, Bool, true, false, not, Option, Some, None, is_some, bytes_eq, nat_eq, nat_lt, codes}
use Rattle.std.specs.List.{list_any, list_all}
use Rattle.std.specs.Ordering.{int_eq}
use Rattle.token_trees.specs.Token.{Name}
use Rattle.syntax_trees.specs.Syntax.{ExprPathD, TyD}
use Rattle.syntax_trees.specs.Item.{ItemD}
use Rattle.schema_defs.specs.declared.Format.{Format}
use Rattle.schema_defs.specs.declared.Format.TheVariants.{Uuid, Date, DateTime, Ip, Ipv4, Ipv6}
use Rattle.schema_defs.specs.Integers.{Range}
use Rattle.attr_parts.specs.Values.{DefaultD, no_default, own_default, path_default, TagD, external, internal, adjacent, untagged, lacks_default, is_identifier}
use Rattle.attr_parts.specs.declared.derive.Derive.{Derive}
use Rattle.attr_defs.specs.Renames.{Meaning}
use Rattle.attr_defs.specs.Texts.{Lexing}
use Rattle.type_spellings.specs.Types.{type_of}
use Rattle.model_defs.specs.Types.{TypeModel, boolean_type, integer_type, text_type, native_type, any_type, unit_type, option_type, boxed_type, vec_type, set_type, map_type, tuple_type, array_type, item_type, outside_type, TypeModels, no_types, type_then}
use Rattle.model_defs.specs.Model.{RuleD, text_rule, allow_rule, deny_rule, ConstraintD, ConversionsD}
use Rattle.container_defs.specs.declared.style.Style.{Style}
use Rattle.container_defs.specs.declared.style.Style.TheVariants.{Struct, Tuple, Newtype, Unit as NoFields}
use Rattle.container_defs.specs.Checks.{has_params, is_one, is_struct, variants_in}
use Rattle.container_defs.specs.Container.{ReadField, ReadVariant, ReadData, read_enum, read_struct, ReadContainer, all_fields, has_getter}
use Rattle.container_defs.specs.Model.{model_of}
use Rattle.container_defs.specs.Reader.{is_rooted, reads_some, reads_whole, default_place, has_name, read_names}

-- ---- types

abbrev pub same_format : Format → Format → Bool
same_format Uuid Uuid = true
same_format Date Date = true
same_format DateTime DateTime = true
same_format Ip Ip = true
same_format Ipv4 Ipv4 = true
same_format Ipv6 Ipv6 = true
same_format _ _ = false

abbrev pub same_range : Range → Range → Bool
same_range a b = int_eq a.least b.least && int_eq a.greatest b.greatest

abbrev mutual
  pub same_type : TypeModel → TypeModel → Bool
  same_type boolean_type boolean_type = true
  same_type (integer_type a) (integer_type b) = same_range a b
  same_type text_type text_type = true
  same_type (native_type f) (native_type g) = same_format f g
  same_type any_type any_type = true
  same_type unit_type unit_type = true
  same_type (option_type t) (option_type u) = same_type t u
  same_type (boxed_type t) (boxed_type u) = same_type t u
  same_type (vec_type t) (vec_type u) = same_type t u
  same_type (set_type t) (set_type u) = same_type t u
  same_type (map_type k t) (map_type l u) = same_type k l && same_type t u
  same_type (tuple_type ts) (tuple_type us) = same_types ts us
  same_type (array_type t n) (array_type u m) = same_type t u && nat_eq n m
  same_type (item_type n) (item_type m) = bytes_eq n m
  same_type _ _ = false

  pub same_types : TypeModels → TypeModels → Bool
  same_types no_types no_types = true
  same_types (type_then t ts) (type_then u us) = same_type t u && same_types ts us
  same_types _ _ = false

-- built in, or an item of those names
module _ (items : List (List ℕ)) where
  abbrev mutual
    pub is_known : TypeModel → Bool
    is_known boolean_type = true
    is_known (integer_type g) = true
    is_known text_type = true
    is_known (native_type f) = true
    is_known any_type = true
    is_known unit_type = true
    is_known (option_type t) = is_known t
    is_known (boxed_type t) = is_known t
    is_known (vec_type t) = is_known t
    is_known (set_type t) = is_known t
    is_known (map_type k t) = is_known k && is_known t
    is_known (tuple_type ts) = are_known ts
    is_known (array_type t n) = is_known t
    is_known (item_type n) = list_any (bytes_eq n) items
    is_known outside_type = false

    pub are_known : TypeModels → Bool
    are_known no_types = true
    are_known (type_then t ts) = is_known t && are_known ts

abbrev pub is_option : TypeModel → Bool
is_option (option_type t) = true
is_option _ = false

abbrev pub is_text : TypeModel → Bool
is_text text_type = true
is_text _ = false

-- a map whose keys are texts
abbrev pub is_text_map : TypeModel → Bool
is_text_map (map_type text_type t) = true
is_text_map _ = false

-- ---- conditions under which a field isn't written

abbrev pub option_is_none : ExprPathD → Bool
option_is_none p = is_rooted (codes "std" ∷ codes "option" ∷ codes "Option" ∷ codes "is_none" ∷ []) p

abbrev pub vec_is_empty : ExprPathD → Bool
vec_is_empty p = is_rooted (codes "std" ∷ codes "vec" ∷ codes "Vec" ∷ codes "is_empty" ∷ []) p

abbrev pub set_is_empty : ExprPathD → Bool
set_is_empty p = is_rooted (codes "std" ∷ codes "collections" ∷ codes "HashSet" ∷ codes "is_empty" ∷ []) p

abbrev pub map_is_empty : ExprPathD → Bool
map_is_empty p = is_rooted (codes "std" ∷ codes "collections" ∷ codes "HashMap" ∷ codes "is_empty" ∷ []) p

-- whether the condition is that of the type
abbrev pub empties : TypeModel → ExprPathD → Bool
empties (option_type t) p = option_is_none p
empties (vec_type t) p = vec_is_empty p
empties (set_type t) p = set_is_empty p
empties (map_type k t) p = map_is_empty p
empties _ p = false

-- ---- what is asked of optional parts

abbrev pub holds : {A : Type 0} → (A → Bool) → Option A → Bool
holds test None = false
holds test (Some a) = test a

abbrev pub fails : {A : Type 0} → (A → Bool) → Option A → Bool
fails test o = holds (λ a. not (test a)) o

abbrev pub is_empty : {A : Type 0} → List A → Bool
is_empty [] = true
is_empty (a ∷ xs) = false

-- ---- fields

abbrev pub field_type : ReadField → TypeModel
field_type f = type_of f.ty

abbrev pub is_own : DefaultD → Bool
is_own no_default = false
is_own own_default = true
is_own (path_default p) = false

abbrev pub is_known_reader : ExprPathD → Bool
is_known_reader p = reads_some p || reads_whole p

abbrev pub is_known_condition : ExprPathD → Bool
is_known_condition p = option_is_none p || vec_is_empty p || set_is_empty p || map_is_empty p

-- a default without a value, or a condition, where the other is missing, or the condition isn't that of the type
abbrev pub has_odd_emptiness : ReadField → Bool
has_odd_emptiness f =
    (is_own f.attrs.default || is_some f.attrs.skip_serializing_if)
    && not (is_own f.attrs.default && holds (empties (field_type f)) f.attrs.skip_serializing_if)

abbrev pub has_extras : ReadField → Bool
has_extras f = not (lacks_default f.attrs.default) || is_some f.attrs.skip_serializing_if || is_some f.attrs.deserialize_with

abbrev pub has_odd_some : ReadField → Bool
has_odd_some f = holds reads_some f.attrs.deserialize_with && not (is_option (field_type f))

abbrev pub has_odd_whole : ReadField → Bool
has_odd_whole f = holds reads_whole f.attrs.deserialize_with && not (lacks_default f.attrs.default)

-- a rest with a helper, or that is no map of texts to values
abbrev pub is_odd_rest : ReadField → Bool
is_odd_rest f = f.attrs.flatten && (is_some f.attrs.deserialize_with || not (is_text_map (field_type f)))

-- ---- fields beside one another: of a struct, and of each variant

abbrev pub field_lists : ReadData → List (List ReadField)
field_lists (read_enum vs) = map (λ v. v.fields) vs
field_lists (read_struct s fs) = fs ∷ []

abbrev pub written_name : ReadField → List ℕ
written_name f = f.attrs.name.serialize.text

abbrev pub repeats_name : List ReadField → Bool
repeats_name [] = false
repeats_name (f ∷ fs) = list_any (λ g. bytes_eq (written_name f) (written_name g)) fs || repeats_name fs

abbrev pub rests : List ReadField → List ReadField
rests fs = filter (λ f. f.attrs.flatten) fs

-- it isn't read by the name by which it is written
abbrev pub is_unread : ReadField → Bool
is_unread f = not f.attrs.flatten && not (list_any (bytes_eq (written_name f)) (read_names f.attrs.name))

abbrev pub has_unread : List ReadField → Bool
has_unread fs = not (is_empty (rests fs)) && list_any is_unread fs

-- ---- variants

abbrev pub has_one_form : Style → Bool
has_one_form Struct = true
has_one_form Tuple = false
has_one_form Newtype = false
has_one_form NoFields = true

-- beside an internal tag stand named fields or none
abbrev pub stands_beside : TagD → Style → Bool
stands_beside external s = true
stands_beside (internal t) s = has_one_form s
stands_beside (adjacent t k) s = true
stands_beside untagged s = true

-- ---- containers

abbrev pub is_external : TagD → Bool
is_external external = true
is_external (internal t) = false
is_external (adjacent t k) = false
is_external untagged = false

abbrev pub any_field : (ReadField → Bool) → ReadContainer → Bool
any_field test c = list_any test (all_fields c.body)

abbrev pub any_variant : (ReadVariant → Bool) → ReadContainer → Bool
any_variant test c = list_any test (variants_in c.body)

abbrev pub any_fields : (List ReadField → Bool) → ReadContainer → Bool
any_fields test c = list_any test (field_lists c.body)

-- a struct in a style that is asked for
abbrev pub struct_is : (Style → Bool) → ReadData → Bool
struct_is test (read_enum vs) = false
struct_is test (read_struct s fs) = test s

abbrev pub lacks_row : Style → Bool
lacks_row Struct = false
lacks_row Tuple = true
lacks_row Newtype = false
lacks_row NoFields = true

-- one rest at most, of an open struct with named fields
abbrev pub odd_rests : Bool → ReadData → Bool
odd_rests closed (read_enum vs) = list_any (λ v. not (is_empty (rests v.fields))) vs
odd_rests closed (read_struct s fs) = not (is_empty (rests fs)) && not (is_struct s && not closed && is_one (rests fs))

-- the one field of a newtype
abbrev pub newtype_type : ReadData → TypeModel
newtype_type (read_struct Newtype (f ∷ [])) = field_type f
newtype_type _ = outside_type

-- ---- one container, by itself

abbrev pub is_text_rule : RuleD → Bool
is_text_rule (text_rule t) = true
is_text_rule (allow_rule vs) = false
is_text_rule (deny_rule vs) = false

abbrev pub is_generic : ReadContainer → Bool
is_generic c = has_params c.params

abbrev pub is_remote : ReadContainer → Bool
is_remote c = is_some c.attrs.remote

abbrev pub has_from : ReadContainer → Bool
has_from c = is_some c.attrs.type_from

abbrev pub has_into : ReadContainer → Bool
has_into c = is_some c.attrs.type_into

abbrev pub has_a_getter : ReadContainer → Bool
has_a_getter c = has_getter c.body

abbrev pub has_bound : ReadContainer → Bool
has_bound c =
    is_some c.attrs.ser_bound || is_some c.attrs.de_bound
    || any_variant (λ v. is_some v.attrs.ser_bound || is_some v.attrs.de_bound) c
    || any_field (λ f. is_some f.attrs.ser_bound || is_some f.attrs.de_bound) c

abbrev pub has_container_default : ReadContainer → Bool
has_container_default c = not (lacks_default c.attrs.default)

abbrev pub is_tagged_struct : ReadContainer → Bool
is_tagged_struct c = struct_is (λ s. not (is_external c.attrs.tag)) c.body

abbrev pub is_an_identifier : ReadContainer → Bool
is_an_identifier c = is_identifier c.attrs.identifier

abbrev pub has_other : ReadContainer → Bool
has_other c = any_variant (λ v. v.attrs.other) c

abbrev pub has_untagged_variant : ReadContainer → Bool
has_untagged_variant c = any_variant (λ v. v.attrs.untagged) c

abbrev pub has_skip : ReadContainer → Bool
has_skip c =
    any_variant (λ v. v.attrs.skip_serializing || v.attrs.skip_deserializing) c
    || any_field (λ f. f.attrs.skip_serializing || f.attrs.skip_deserializing) c

-- `with` sets it too
abbrev pub has_serialize_with : ReadContainer → Bool
has_serialize_with c = any_variant (λ v. is_some v.attrs.serialize_with) c || any_field (λ f. is_some f.attrs.serialize_with) c

abbrev pub has_other_deserialize_with : ReadContainer → Bool
has_other_deserialize_with c =
    any_variant (λ v. is_some v.attrs.deserialize_with) c || any_field (λ f. fails is_known_reader f.attrs.deserialize_with) c

abbrev pub has_other_condition : ReadContainer → Bool
has_other_condition c = any_field (λ f. fails is_known_condition f.attrs.skip_serializing_if) c

abbrev pub has_odd_flatten : ReadContainer → Bool
has_odd_flatten c = odd_rests c.attrs.deny_unknown_fields c.body

abbrev pub has_odd_rest : ReadContainer → Bool
has_odd_rest c = any_field is_odd_rest c

abbrev pub is_transparent_with_names : ReadContainer → Bool
is_transparent_with_names c = c.attrs.transparent && struct_is is_struct c.body

abbrev pub has_nameless_extras : ReadContainer → Bool
has_nameless_extras c = any_field (λ f. not (has_name f.member) && has_extras f) c

abbrev pub has_some_elsewhere : ReadContainer → Bool
has_some_elsewhere c = any_field has_odd_some c

abbrev pub has_whole_with_default : ReadContainer → Bool
has_whole_with_default c = any_field has_odd_whole c

abbrev pub has_repeated_name : ReadContainer → Bool
has_repeated_name c = any_fields repeats_name c

abbrev pub has_unread_beside_rest : ReadContainer → Bool
has_unread_beside_rest c = any_fields has_unread c

abbrev pub has_half_emptiness : ReadContainer → Bool
has_half_emptiness c = any_field has_odd_emptiness c

-- no row says how it is read: a tuple struct, a unit struct, and unnamed fields beside an internal tag
abbrev pub has_no_row : ReadContainer → Bool
has_no_row c = struct_is lacks_row c.body || any_variant (λ v. not (stands_beside c.attrs.tag v.style)) c

-- ---- one container, among items of those names

module _ (items : List (List ℕ)) (conversions : ConversionsD) where
  abbrev pub rules_of : ReadContainer → List ConstraintD
  rules_of c = filter (λ k. bytes_eq k.item c.name.text) conversions.constraints

  -- a type that is the one field's, and one rule of the item's name
  abbrev pub is_converted : ReadContainer → TyD → Bool
  is_converted c t = same_type (newtype_type c.body) (type_of t) && is_one (rules_of c)

  abbrev pub has_place : ExprPathD → Bool
  has_place p = holds (λ n. nat_lt n (length conversions.defaults)) (default_place p)

  abbrev pub is_stated_elsewhere : DefaultD → Bool
  is_stated_elsewhere no_default = false
  is_stated_elsewhere own_default = false
  is_stated_elsewhere (path_default p) = not (has_place p)

  abbrev pub has_unknown_default : ReadContainer → Bool
  has_unknown_default c = any_field (λ f. is_stated_elsewhere f.attrs.default) c

  abbrev pub has_odd_try_from : ReadContainer → Bool
  has_odd_try_from c = fails (is_converted c) c.attrs.type_try_from

  abbrev pub has_unknown_type : ReadContainer → Bool
  has_unknown_type c = any_field (λ f. not (is_known items (field_type f))) c

  abbrev pub is_named_twice : ReadContainer → Bool
  is_named_twice c = not (is_one (filter (bytes_eq c.name.text) items))

  abbrev pub has_text_rule_elsewhere : ReadContainer → Bool
  has_text_rule_elsewhere c =
      is_some c.attrs.type_try_from && list_any (λ k. is_text_rule k.rule) (rules_of c) && not (is_text (newtype_type c.body))

  -- whether the container is outside, by any of the causes
  abbrev pub is_outside : ReadContainer → Bool
  is_outside c = list_any (λ is. is c) (
      is_generic
      ∷ is_remote
      ∷ has_from
      ∷ has_into
      ∷ has_a_getter
      ∷ has_bound
      ∷ has_container_default
      ∷ is_tagged_struct
      ∷ is_an_identifier
      ∷ has_other
      ∷ has_untagged_variant
      ∷ has_skip
      ∷ has_serialize_with
      ∷ has_other_deserialize_with
      ∷ has_other_condition
      ∷ has_unknown_default
      ∷ has_odd_flatten
      ∷ has_odd_rest
      ∷ is_transparent_with_names
      ∷ has_odd_try_from
      ∷ has_nameless_extras
      ∷ has_unknown_type
      ∷ is_named_twice
      ∷ has_some_elsewhere
      ∷ has_whole_with_default
      ∷ has_text_rule_elsewhere
      ∷ has_repeated_name
      ∷ has_unread_beside_rest
      ∷ has_half_emptiness
      ∷ has_no_row
      ∷ []
      )

  -- and a union is
  abbrev pub leaves_forms : Option ReadContainer → Bool
  leaves_forms None = true
  leaves_forms (Some c) = is_outside c

-- ---- tables

abbrev pub names_of : List ItemD → List (List ℕ)
names_of is = map (λ i. i.name.text) is

-- whether the reader reads each item of a table
abbrev pub are_inside : Lexing → Meaning → Meaning → Name → Derive → ConversionsD → List ItemD → Bool
are_inside lexing variant_name field_name private derive conversions is =
    list_all (λ i. not (leaves_forms (names_of is) conversions (model_of lexing variant_name field_name private i derive))) is
