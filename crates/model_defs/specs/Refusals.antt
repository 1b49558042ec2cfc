-- Where reading a value stops that is refused: a location from the value on. Unless something is said, it is the value itself.
use Rattle.std.specs.Prelude.{ℕ, zero, suc, ◌==◌, List, [], ◌∷◌, length, map, Bool, true, false, Option, Some, None, if◌then◌else◌}
use Rattle.json_value.specs.Value as value
use Rattle.json_value.specs.Value.{Value, Items, Members, null, number, fraction, text, list, object, item, no_items, member, no_members, member_at}
use Rattle.schema_defs.specs.Location.{Location, place}
use Rattle.schema_defs.specs.Texts.{Relations}
use Rattle.model_defs.specs.Types.{TypeModel, option_type, boxed_type, vec_type, set_type, map_type, tuple_type, array_type, item_type, types_of}
use Rattle.model_defs.specs.Model.{struct_style, tuple_style, newtype_style, unit_style, FieldModel, VariantModel, external_tag, internal_tag, adjacent_tag, untagged, BodyModel, struct_model, enum_model, ContainerModel, ConversionsD, container_named, variant_named}
use Rattle.model_defs.specs.Layer.{Content, one_type, places, named_fields, Judge, MemberPart, Parts, no_parts, list_parts, object_parts, own_members, other_members, unnamed_members, without, named, members_in, present_type, field_takes, map_takes, fields_content, variant_content, is_unit, variant_of_text}
use Rattle.model_defs.specs.Reads.{allowed, leads_to_option, value_reads, still_reads}

-- a part of a value: whether it is read, and where reading it stops if not
pub record Seen : Type 0 where
  pub takes : Judge
  pub stops : Content → Location

abbrev pub judged : MemberPart Seen → MemberPart Judge
judged m = record { name = m.name; key = m.key.takes; value = m.value.takes }

-- ---- items: in the first that is refused

abbrev pub first_item : ℕ → Content → List Seen → Location
first_item i c [] = []
first_item i c (p ∷ ps) = if p.takes c then first_item (suc i) c ps else place i ∷ p.stops c

abbrev pub first_place : ℕ → List TypeModel → List Seen → Location
first_place i (t ∷ ts) (p ∷ ps) = if p.takes (one_type t) then first_place (suc i) ts ps else place i ∷ p.stops (one_type t)
first_place i _ _ = []

abbrev pub in_list : Content → Parts Seen → Location
in_list c (list_parts ps) = first_item 0 c ps
in_list c _ = []

-- a list of another length is refused itself
abbrev pub in_tuple : List TypeModel → Parts Seen → Location
in_tuple ts (list_parts ps) = if length ps == length ts then first_place 0 ts ps else []
in_tuple ts _ = []

abbrev pub in_array : TypeModel → ℕ → Parts Seen → Location
in_array t n (list_parts ps) = if length ps == n then first_item 0 (one_type t) ps else []
in_array t n _ = []

-- ---- members: the name, then the value

abbrev pub first_member : TypeModel → TypeModel → List (MemberPart Seen) → Location
first_member k t [] = []
first_member k t (m ∷ ms) =
    if m.key.takes (one_type k) then (if m.value.takes (one_type t) then first_member k t ms else m.name ∷ m.value.stops (one_type t)) else m.name ∷ []

abbrev pub in_map : TypeModel → List (MemberPart Seen) → Location
in_map (map_type k t) ms = first_member k t ms
in_map _ ms = []

-- ---- structs

module _ (leads : TypeModel → Bool) where
  -- a second member of a field is refused itself; a missing field at the object
  abbrev pub in_field : FieldModel → List (MemberPart Seen) → Location
  in_field f [] = []
  in_field f (m ∷ []) = m.name ∷ m.value.stops (one_type (present_type f))
  in_field f (m ∷ n ∷ ms) = n.name ∷ []

  -- the fields in order, a rest among them
  abbrev pub in_fields : List FieldModel → List (MemberPart Seen) → List (MemberPart Seen) → Location
  in_fields [] unnamed ms = []
  in_fields (f ∷ fs) unnamed ms =
      if f.is_rest then (if map_takes f.field_type (map judged unnamed) then in_fields fs unnamed ms else in_map f.field_type unnamed)
      else if field_takes leads f (map judged (own_members f ms)) then in_fields fs unnamed (other_members f ms)
      else in_field f (own_members f ms)

  -- where closed, first the members that no field names
  abbrev pub after_unnamed : Bool → List FieldModel → List (MemberPart Seen) → List (MemberPart Seen) → Location
  after_unnamed true fs (u ∷ us) ms = u.name ∷ []
  after_unnamed true fs [] ms = in_fields fs [] ms
  after_unnamed false fs us ms = in_fields fs us ms

  abbrev pub in_struct : Bool → List FieldModel → List (MemberPart Seen) → Location
  in_struct closed fs ms = after_unnamed closed fs (unnamed_members fs ms) ms

-- ---- types

module _ (parts : Parts Seen) (item_stops : List ℕ → Location) where
  abbrev pub type_stops : TypeModel → Location
  type_stops (option_type t) = type_stops t
  type_stops (boxed_type t) = type_stops t
  type_stops (vec_type t) = in_list (one_type t) parts
  type_stops (set_type t) = in_list (one_type t) parts
  type_stops (map_type k t) = first_member k t (members_in parts)
  type_stops (tuple_type ts) = in_tuple (types_of ts) parts
  type_stops (array_type t n) = in_array t n parts
  type_stops (item_type n) = item_stops n
  type_stops _ = []

-- ---- enums

-- the contents of the one member, where it is named by a variant that has some
abbrev pub in_contents : Bool → MemberPart Seen → Option VariantModel → Location
in_contents closed m None = []
in_contents closed m (Some w) = if is_unit w then [] else m.name ∷ m.value.stops (variant_content closed w)

abbrev pub in_external : Bool → List VariantModel → Parts Seen → Location
in_external closed ws (object_parts (m ∷ [])) = in_contents closed m (variant_named m.name ws)
in_external closed ws _ = []

-- a missing tag is refused at the object, an unknown one at the tag
abbrev pub of_variant : List ℕ → (VariantModel → Location) → Option VariantModel → Location
of_variant tag stops None = tag ∷ []
of_variant tag stops (Some w) = stops w

abbrev pub after_tag : List ℕ → List VariantModel → (VariantModel → Location) → Option Value → Location
after_tag tag ws stops None = []
after_tag tag ws stops (Some v) = of_variant tag stops (variant_of_text ws (Some v))

abbrev pub tag_value : List ℕ → Value → Option Value
tag_value tag (object ms) = member_at tag ms
tag_value tag _ = None

abbrev pub in_internal : (TypeModel → Bool) → Bool → List (MemberPart Seen) → VariantModel → Location
in_internal leads closed ms w = elim w.style [ struct_style ↦ in_struct leads closed w.fields ms | unit_style ↦ in_struct leads closed [] ms | tuple_style ↦ [] | newtype_style ↦ [] ]

-- another member, where closed; then the contents, which a unit variant refuses and another needs
abbrev pub in_content : Bool → List (MemberPart Seen) → VariantModel → Location
in_content closed [] w = []
in_content closed (m ∷ ms) w = if is_unit w then m.name ∷ [] else m.name ∷ m.value.stops (variant_content closed w)

abbrev pub in_adjacent : Bool → List (MemberPart Seen) → List (MemberPart Seen) → VariantModel → Location
in_adjacent true (o ∷ os) content w = o.name ∷ []
in_adjacent true [] content w = in_content true content w
in_adjacent false os content w = in_content false content w

-- ---- containers

module _ (leads : TypeModel → Bool) (reads : Judge) (v : Value) (parts : Parts Seen) (stops : TypeModel → Location) where
  abbrev pub content_stops : Content → Location
  content_stops (one_type t) = stops t
  content_stops (places ts) = in_tuple ts parts
  content_stops (named_fields closed fs) = in_struct leads closed fs (members_in parts)

  -- a value of the type that breaks the rule is refused itself
  abbrev pub before_rule : Content → Location
  before_rule c = if reads c then [] else content_stops c

  abbrev pub body_stops : Bool → BodyModel → Location
  body_stops closed (struct_model struct_style fs) = before_rule (fields_content closed struct_style fs)
  body_stops closed (struct_model newtype_style fs) = before_rule (fields_content closed newtype_style fs)
  body_stops closed (struct_model tuple_style fs) = []
  body_stops closed (struct_model unit_style fs) = []
  body_stops closed (enum_model external_tag ws) = in_external closed ws parts
  body_stops closed (enum_model (internal_tag tag) ws) = after_tag tag ws (in_internal leads closed (without tag (members_in parts))) (tag_value tag v)
  body_stops closed (enum_model (adjacent_tag tag content) ws) =
      after_tag tag ws (in_adjacent closed (without content (without tag (members_in parts))) (named content (members_in parts))) (tag_value tag v)
  body_stops closed (enum_model untagged ws) = []

  abbrev pub container_stops : Option ContainerModel → Location
  container_stops None = []
  container_stops (Some m) = body_stops m.closed m.body

-- ---- refusals

module _ (models : List ContainerModel) (conversions : ConversionsD) (relations : Relations) where
  -- an item at this value, where so many may still be entered
  abbrev pub item_stops : Value → Parts Seen → ℕ → List ℕ → Location
  item_stops v parts zero n = []
  item_stops v parts (suc k) n =
      container_stops (leads_to_option models) (still_reads models conversions relations v k) v parts (type_stops parts (item_stops v parts k)) (container_named n models)

  abbrev pub stops_within : Value → Parts Seen → ℕ → Content → Location
  stops_within v parts k c = content_stops (leads_to_option models) (still_reads models conversions relations v k) v parts (type_stops parts (item_stops v parts k)) c

  abbrev mutual
    pub value_stops : Value → Content → Location
    value_stops null = stops_within null no_parts (allowed models)
    value_stops (value.boolean b) = stops_within (value.boolean b) no_parts (allowed models)
    value_stops (number z) = stops_within (number z) no_parts (allowed models)
    value_stops fraction = stops_within fraction no_parts (allowed models)
    value_stops (text s) = stops_within (text s) no_parts (allowed models)
    value_stops (list xs) = stops_within (list xs) (list_parts (items_seen xs)) (allowed models)
    value_stops (object ms) = stops_within (object ms) (object_parts (members_seen ms)) (allowed models)

    pub items_seen : Items → List Seen
    items_seen no_items = []
    items_seen (item v vs) = record { takes = value_reads models conversions relations v; stops = value_stops v } ∷ items_seen vs

    pub members_seen : Members → List (MemberPart Seen)
    members_seen no_members = []
    members_seen (member k v ms) = record {
      name = k;
      key = record { takes = value_reads models conversions relations (text k); stops = λ c. [] };
      value = record { takes = value_reads models conversions relations v; stops = value_stops v };
    } ∷ members_seen ms

  -- where reading the value as the type stops, if it is refused
  abbrev pub refused_at : TypeModel → Value → Location
  refused_at t v = value_stops v (one_type t)
