-- What is written of a value that was read: the value as it settles once it went through a type (serde.rs/field-attrs, serde.rs/enum-representations).
use Rattle.std.specs.Prelude.{ℕ, zero, suc, ◌&&◌, not, List, [], ◌∷◌, map, length, slice_get, Bool, true, false, Option, Some, None, nat_eq, if◌then◌else◌}
use Rattle.std.specs.declared.cmp.Ordering.{Ordering}
use Rattle.std.specs.declared.cmp.Ordering.TheVariants.{Less, Equal, Greater}
use Rattle.std.specs.Ordering.{nat_cmp}
use Rattle.std.specs.Cmp.Lexicographic.{slice_cmp}
use Rattle.std.specs.List.{list_any}
use Rattle.json_value.specs.Value as value
use Rattle.json_value.specs.Value.{Value, Items, Members, null, number, fraction, text, list, object, item, no_items, member, no_members, items, same}
use Rattle.schema_defs.specs.Texts.{Relations}
use Rattle.model_defs.specs.Types.{TypeModel, option_type, boxed_type, vec_type, set_type, map_type, tuple_type, array_type, item_type, types_of}
use Rattle.model_defs.specs.Model.{DefaultModel, no_default, own_default, stated_default, HelperModel, no_helper, whole_helper, FieldModel, VariantModel, external_tag, internal_tag, adjacent_tag, untagged, BodyModel, struct_model, enum_model, ContainerModel, ConversionsD, container_named, variant_named}
use Rattle.model_defs.specs.Layer.{Content, one_type, places, named_fields, MemberPart, Parts, no_parts, list_parts, object_parts, is_null, own_members, other_members, unnamed_members, without, named, members_in, present_type, fields_content, variant_content, is_unit, tagged_variant}
use Rattle.model_defs.specs.Reads.{allowed, leads_to_option, still_reads}

-- a part of a value, and what it settles to
pub record Part : Type 0 where
  pub value : Value
  pub writes : Content → Value

-- ---- members in order of their names

abbrev pub placed : Ordering → Members → Members → Members → Members
placed Less before here after = before
placed Equal before here after = here
placed Greater before here after = after

-- a member put where its name stands in order, in place of one of that name
abbrev pub put : List ℕ → Value → Members → Members
put k v no_members = member k v no_members
put k v (member l w ms) = placed (slice_cmp nat_cmp k l) (member k v (member l w ms)) (member k v ms) (member l w (put k v ms))

-- one after another: a later one takes the place of an earlier one of its name
abbrev pub put_all : List (List ℕ × Value) → Members → Members
put_all [] ms = ms
put_all (e ∷ es) ms = put_all es (put e.0 e.1 ms)

-- ---- lists

-- each item that equals none before it
abbrev pub firsts_after : List Value → List Value → List Value
firsts_after seen [] = []
firsts_after seen (v ∷ vs) = if list_any (same v) seen then firsts_after seen vs else v ∷ firsts_after (v ∷ seen) vs

abbrev pub each_written : Content → Parts Part → List Value
each_written c (list_parts ps) = map (λ p. p.writes c) ps
each_written c _ = []

abbrev pub places_written : List TypeModel → List Part → List Value
places_written (t ∷ ts) (p ∷ ps) = p.writes (one_type t) ∷ places_written ts ps
places_written _ _ = []

abbrev pub by_places : List TypeModel → Parts Part → Value
by_places ts (list_parts ps) = list (items (places_written ts ps))
by_places ts _ = list no_items

-- ---- maps: a name settles as a text

abbrev pub text_of : List ℕ → Value → List ℕ
text_of n (text s) = s
text_of n _ = n

abbrev pub entries_written : TypeModel → TypeModel → List (MemberPart Part) → List (List ℕ × Value)
entries_written k t ms = map (λ m. (text_of m.name (m.key.writes (one_type k)), m.value.writes (one_type t))) ms

-- ---- structs

-- a type of which some value counts as empty: an option, and not one whose absence is told apart from null; a list; a map
abbrev pub is_empty_at : HelperModel → TypeModel → Value → Bool
is_empty_at no_helper (option_type t) v = is_null v
is_empty_at whole_helper (option_type t) v = is_null v
is_empty_at h (vec_type t) (list no_items) = true
is_empty_at h (set_type t) (list no_items) = true
is_empty_at h (map_type k t) (object no_members) = true
is_empty_at _ _ _ = false

module _ (leads : TypeModel → Bool) (default_of : ℕ → TypeModel → Value) where
  -- a missing field is its stated default; or null, where its type leads to an option and nothing lets it out
  abbrev pub missing_written : FieldModel → DefaultModel → List (List ℕ × Value)
  missing_written f (stated_default n) = (f.serialize_name, default_of n f.field_type) ∷ []
  missing_written f no_default = if not f.skip && leads f.field_type then (f.serialize_name, null) ∷ [] else []
  missing_written f own_default = if not f.skip && leads f.field_type then (f.serialize_name, null) ∷ [] else []

  -- a present one is its settled value, let out where it is empty and the field has a skip condition
  abbrev pub field_written : FieldModel → List (MemberPart Part) → List (List ℕ × Value)
  field_written f [] = missing_written f f.default
  field_written f (m ∷ ms) =
      if f.skip && is_empty_at f.helper f.field_type m.value.value then [] else (f.serialize_name, m.value.writes (one_type (present_type f))) ∷ []

  abbrev pub map_written : TypeModel → List (MemberPart Part) → Members → Members
  map_written (map_type k t) ms done = put_all (entries_written k t ms) done
  map_written _ ms done = done

  -- the fields in order, each with the members that no earlier one took
  abbrev pub fields_written : List FieldModel → List (MemberPart Part) → Members → Members
  fields_written [] ms done = done
  fields_written (f ∷ fs) ms done =
      if f.is_rest then fields_written fs ms done else fields_written fs (other_members f ms) (put_all (field_written f (own_members f ms)) done)

  -- a rest holds what no field names
  abbrev pub rests_written : List FieldModel → List (MemberPart Part) → Members → Members
  rests_written [] ms done = done
  rests_written (f ∷ fs) ms done = rests_written fs ms (if f.is_rest then map_written f.field_type ms done else done)

  abbrev pub struct_written : List FieldModel → List (MemberPart Part) → Members
  struct_written fs ms = fields_written fs ms (rests_written fs (unnamed_members fs ms) no_members)

-- ---- types

module _ (v : Value) (parts : Parts Part) (item_writes : List ℕ → Value) where
  abbrev pub type_writes : TypeModel → Value
  type_writes (option_type t) = if is_null v then null else type_writes t
  type_writes (boxed_type t) = type_writes t
  type_writes (vec_type t) = list (items (each_written (one_type t) parts))
  type_writes (set_type t) = list (items (firsts_after [] (each_written (one_type t) parts)))
  type_writes (map_type k t) = object (put_all (entries_written k t (members_in parts)) no_members)
  type_writes (tuple_type ts) = by_places (types_of ts) parts
  type_writes (array_type t n) = list (items (each_written (one_type t) parts))
  type_writes (item_type n) = item_writes n
  type_writes _ = v

-- ---- containers

module _ (leads : TypeModel → Bool) (default_of : ℕ → TypeModel → Value) (reads : Content → Bool) (v : Value) (parts : Parts Part) (writes : TypeModel → Value) where
  abbrev pub content_writes : Content → Value
  content_writes (one_type t) = writes t
  content_writes (places ts) = by_places ts parts
  content_writes (named_fields closed fs) = object (struct_written leads default_of fs (members_in parts))

  -- the name of the variant alone, or its one member
  abbrev pub name_written : Option VariantModel → Value
  name_written None = v
  name_written (Some w) = text w.serialize_name

  abbrev pub member_written : Bool → Part → Option VariantModel → Value
  member_written closed p None = v
  member_written closed p (Some w) = object (member w.serialize_name (p.writes (variant_content closed w)) no_members)

  abbrev pub external_writes : Bool → List VariantModel → Value → Parts Part → Value
  external_writes closed ws (text s) ps = name_written (variant_named s ws)
  external_writes closed ws _ (object_parts (m ∷ [])) = member_written closed m.value (variant_named m.name ws)
  external_writes closed ws _ ps = v

  -- the tag, and beside it the fields or the contents
  abbrev pub internal_writes : List ℕ → Option VariantModel → Value
  internal_writes tag None = v
  internal_writes tag (Some w) = object (put tag (text w.serialize_name) (struct_written leads default_of w.fields (without tag (members_in parts))))

  abbrev pub contents_written : Bool → List ℕ → VariantModel → List (MemberPart Part) → Members → Members
  contents_written closed content w [] done = done
  contents_written closed content w (m ∷ ms) done = if is_unit w then done else put content (m.value.writes (variant_content closed w)) done

  abbrev pub adjacent_writes : Bool → List ℕ → List ℕ → Option VariantModel → Value
  adjacent_writes closed tag content None = v
  adjacent_writes closed tag content (Some w) =
      object (put tag (text w.serialize_name) (contents_written closed content w (named content (members_in parts)) no_members))

  -- by the first variant that reads the value with what may still be entered
  abbrev pub untagged_writes : Bool → List VariantModel → Value
  untagged_writes closed [] = v
  untagged_writes closed (w ∷ ws) = if reads (variant_content closed w) then content_writes (variant_content closed w) else untagged_writes closed ws

  abbrev pub body_writes : Bool → BodyModel → Value
  body_writes closed (struct_model style fs) = content_writes (fields_content closed style fs)
  body_writes closed (enum_model external_tag ws) = external_writes closed ws v parts
  body_writes closed (enum_model (internal_tag tag) ws) = internal_writes tag (tagged_variant tag ws v)
  body_writes closed (enum_model (adjacent_tag tag content) ws) = adjacent_writes closed tag content (tagged_variant tag ws v)
  body_writes closed (enum_model untagged ws) = untagged_writes closed ws

  abbrev pub container_writes : Option ContainerModel → Value
  container_writes None = v
  container_writes (Some m) = body_writes m.closed m.body

-- ---- settled values

abbrev pub or_null : Option Value → Value
or_null None = null
or_null (Some v) = v

module _ (models : List ContainerModel) (conversions : ConversionsD) (relations : Relations) where
  module _ (default_of : ℕ → TypeModel → Value) where
    -- an item at this value, where so many may still be entered
    abbrev pub item_writes : Value → Parts Part → ℕ → List ℕ → Value
    item_writes v parts zero n = v
    item_writes v parts (suc k) n =
        container_writes (leads_to_option models) default_of (still_reads models conversions relations v k) v parts (type_writes v parts (item_writes v parts k)) (container_named n models)

    abbrev pub writes_within : Value → Parts Part → ℕ → Content → Value
    writes_within v parts k c =
        content_writes (leads_to_option models) default_of (still_reads models conversions relations v k) v parts (type_writes v parts (item_writes v parts k)) c

    abbrev pub name_writes : List ℕ → Content → Value
    name_writes n = writes_within (text n) no_parts (allowed models)

    abbrev mutual
      pub value_writes : Value → Content → Value
      value_writes null = writes_within null no_parts (allowed models)
      value_writes (value.boolean b) = writes_within (value.boolean b) no_parts (allowed models)
      value_writes (number z) = writes_within (number z) no_parts (allowed models)
      value_writes fraction = writes_within fraction no_parts (allowed models)
      value_writes (text s) = writes_within (text s) no_parts (allowed models)
      value_writes (list xs) = writes_within (list xs) (list_parts (item_writers xs)) (allowed models)
      value_writes (object ms) = writes_within (object ms) (object_parts (member_writers ms)) (allowed models)

      pub item_writers : Items → List Part
      item_writers no_items = []
      item_writers (item v vs) = record { value = v; writes = value_writes v } ∷ item_writers vs

      pub member_writers : Members → List (MemberPart Part)
      member_writers no_members = []
      member_writers (member k v ms) =
          record { name = k; key = record { value = text k; writes = name_writes k }; value = record { value = v; writes = value_writes v } } ∷ member_writers ms

  abbrev pub default_at : ℕ → Value
  default_at n = or_null (slice_get conversions.defaults n)

  -- with so many places that may still be entered, and those entered on the way: a place inside itself stands as it is
  abbrev pub settled_inside : ℕ → List ℕ → Content → Value → Value
  settled_inside zero entered c v = value_writes (λ n t. default_at n) v c
  settled_inside (suc k) entered c v =
      value_writes (λ n t. if list_any (nat_eq n) entered then default_at n else settled_inside k (n ∷ entered) (one_type t) (default_at n)) v c

  abbrev pub settled_content : Content → Value → Value
  settled_content c v = settled_inside (length conversions.defaults) [] c v

  -- what a value that the type reads is written as
  abbrev pub settled : TypeModel → Value → Value
  settled t v = settled_content (one_type t) v
