-- What reading a value as a type gives: a typed value, or the place where reading stops (serde.rs/field-attrs, serde.rs/enum-representations).
use Rattle.std.specs.Prelude.{ℕ, zero, suc, ◌==◌, ◌||◌, not, List, [], ◌∷◌, length, Bool, true, false, Option, Some, None, option_map, nat_eq, bytes_eq, if◌then◌else◌}
use Rattle.std.specs.List.{list_any}
use Rattle.json_value.specs.Value as value
use Rattle.json_value.specs.Value.{Value, Items, Members, null, number, fraction, text, list, object, item, no_items, member, no_members, member_at, same}
use Rattle.schema_defs.specs.declared.Format.{Format}
use Rattle.schema_defs.specs.Location.{Location, Step, place}
use Rattle.schema_defs.specs.Integers.{Range, in_range}
use Rattle.schema_defs.specs.Texts.{Relations}
use Rattle.model_defs.specs.Types.{TypeModel, boolean_type, integer_type, text_type, native_type, any_type, unit_type, option_type, boxed_type, vec_type, set_type, map_type, tuple_type, array_type, item_type, outside_type, types_of}
use Rattle.model_defs.specs.Model.{Style, struct_style, tuple_style, newtype_style, unit_style, DefaultModel, no_default, own_default, stated_default, HelperModel, no_helper, some_helper, whole_helper, FieldModel, VariantModel, TagModel, external_tag, internal_tag, adjacent_tag, untagged, BodyModel, struct_model, enum_model, ContainerModel, ConversionsD, container_named, rule_of}
use Rattle.model_defs.specs.Layer.{Content, one_type, places, named_fields, MemberPart, Parts, no_parts, list_parts, object_parts, is_null, own_members, other_members, unnamed_members, without, named, members_in, present_type, has_no_helper, variant_content, is_unit, given_rule_agrees}
use Rattle.model_defs.specs.Reads.{allowed}
use Rattle.model_defs.specs.Refusals.{tag_value}
use Rattle.model_defs.specs.Settled.{default_at}
use Rattle.typed_defs.specs.Typed as typed
use Rattle.typed_defs.specs.Typed.{Typed, typeds, pairs}
use Rattle.typed_defs.specs.Written.{written}

-- ---- answers

-- `unsound`: a stated default was missed that its type doesn't read, or that was met inside itself
pub data Read (A : Type 0) : Type 0 where
  taken : A → Read A
  stopped : Location → Read A
  unsound : Read A

abbrev pub read_map : {A B : Type 0} → (A → B) → Read A → Read B
read_map f (taken x) = taken (f x)
read_map f (stopped l) = stopped l
read_map f unsound = unsound

-- one step further from the value
abbrev pub under : {A : Type 0} → Step → Read A → Read A
under s (taken x) = taken x
under s (stopped l) = stopped (s ∷ l)
under s unsound = unsound

-- refused itself, wherever in it reading stopped
abbrev pub here : {A : Type 0} → Read A → Read A
here (taken x) = taken x
here (stopped l) = stopped []
here unsound = unsound

abbrev pub if_sound : {A : Type 0} → Read A → Read A
if_sound (taken x) = taken x
if_sound (stopped l) = unsound
if_sound unsound = unsound

-- the first, and then the others
abbrev pub followed : {A : Type 0} → Read A → Read (List A) → Read (List A)
followed (taken x) r = read_map (λ xs. x ∷ xs) r
followed (stopped l) r = stopped l
followed unsound r = unsound

abbrev pub paired : {A B : Type 0} → Read A → Read B → Read (A × B)
paired (taken x) r = read_map (λ y. (x, y)) r
paired (stopped l) r = stopped l
paired unsound r = unsound

-- the first that is taken
abbrev pub or_next : {A : Type 0} → Read A → Read A → Read A
or_next (taken x) r = taken x
or_next (stopped l) r = r
or_next unsound r = unsound

abbrev pub kept_if : {A : Type 0} → Bool → Read A → Read A
kept_if b (taken x) = if b then taken x else stopped []
kept_if b (stopped l) = stopped l
kept_if b unsound = unsound

-- ---- a part of a value, as a type and as the contents of a variant

pub record Reader : Type 0 where
  pub as_type : TypeModel → Read Typed
  pub as_content : Content → Read (List Typed)

-- ---- scalars

abbrev pub boolean_read : Value → Read Typed
boolean_read (value.boolean b) = taken (typed.boolean b)
boolean_read _ = stopped []

abbrev pub integer_read : Range → Value → Read Typed
integer_read g (number z) = if in_range z g then taken (typed.integer z) else stopped []
integer_read g _ = stopped []

abbrev pub text_read : Value → Read Typed
text_read (text s) = taken (typed.text s)
text_read _ = stopped []

abbrev pub native_read : Relations → Format → Value → Read Typed
native_read r f (text s) = if r.has_format f s then taken (typed.text s) else stopped []
native_read r f _ = stopped []

abbrev pub unit_read : Value → Read Typed
unit_read null = taken typed.unit
unit_read _ = stopped []

-- ---- lists

abbrev pub items_read : ℕ → TypeModel → List Reader → Read (List Typed)
items_read i t [] = taken []
items_read i t (p ∷ ps) = followed (under (place i) (p.as_type t)) (items_read (suc i) t ps)

abbrev pub places_read : ℕ → List TypeModel → List Reader → Read (List Typed)
places_read i (t ∷ ts) (p ∷ ps) = followed (under (place i) (p.as_type t)) (places_read (suc i) ts ps)
places_read i _ _ = taken []

abbrev pub list_read : TypeModel → Parts Reader → Read (List Typed)
list_read t (list_parts ps) = items_read 0 t ps
list_read t _ = stopped []

abbrev pub array_read : TypeModel → ℕ → Parts Reader → Read (List Typed)
array_read t n (list_parts ps) = if length ps == n then items_read 0 t ps else stopped []
array_read t n _ = stopped []

abbrev pub tuple_read : List TypeModel → Parts Reader → Read (List Typed)
tuple_read ts (list_parts ps) = if length ps == length ts then places_read 0 ts ps else stopped []
tuple_read ts _ = stopped []

-- each that is not written like one before it
abbrev pub keep_apart : (Typed → Value) → List Value → List Typed → List Typed
keep_apart w seen [] = []
keep_apart w seen (x ∷ xs) = if list_any (same (w x)) seen then keep_apart w seen xs else x ∷ keep_apart w (w x ∷ seen) xs

-- ---- maps: the name, then the value; both are refused at the member

abbrev pub pair_read : TypeModel → TypeModel → MemberPart Reader → Read (Typed × Typed)
pair_read k t m = under m.name (paired (here (m.key.as_type k)) (m.value.as_type t))

abbrev pub pairs_read : TypeModel → TypeModel → List (MemberPart Reader) → Read (List (Typed × Typed))
pairs_read k t [] = taken []
pairs_read k t (m ∷ ms) = followed (pair_read k t m) (pairs_read k t ms)

abbrev pub map_read : TypeModel → TypeModel → List (MemberPart Reader) → Read Typed
map_read k t ms = read_map (λ es. typed.map_of (pairs es)) (pairs_read k t ms)

abbrev pub rest_read : TypeModel → List (MemberPart Reader) → Read Typed
rest_read (map_type k t) ms = map_read k t ms
rest_read _ ms = stopped []

abbrev pub object_read : TypeModel → TypeModel → Parts Reader → Read Typed
object_read k t (object_parts ms) = map_read k t ms
object_read k t _ = stopped []

-- ---- missing fields

-- the empty value of a type that has one
abbrev pub empty_value : TypeModel → Typed
empty_value (option_type t) = typed.none
empty_value (vec_type t) = typed.list (typeds [])
empty_value (set_type t) = typed.list (typeds [])
empty_value (map_type k t) = typed.map_of (pairs [])
empty_value _ = typed.unit

-- no value, where the type leads to an option
module _ (item_absent : List ℕ → Option Typed) where
  abbrev pub type_absent : TypeModel → Option Typed
  type_absent (option_type t) = Some typed.none
  type_absent (boxed_type t) = type_absent t
  type_absent (item_type n) = item_absent n
  type_absent _ = None

  abbrev pub body_absent : BodyModel → Option Typed
  body_absent (struct_model newtype_style (f ∷ [])) = option_map typed.newtype (type_absent f.field_type)
  body_absent _ = None

  abbrev pub container_absent : Option ContainerModel → Option Typed
  container_absent None = None
  container_absent (Some m) = if m.transparent then body_absent m.body else None

-- with so many items that may be entered
abbrev pub absent_within : List ContainerModel → ℕ → List ℕ → Option Typed
absent_within ms zero n = None
absent_within ms (suc k) n = container_absent (absent_within ms k) (container_named n ms)

abbrev pub absent : List ContainerModel → TypeModel → Option Typed
absent ms t = type_absent (absent_within ms (allowed ms)) t

abbrev pub given : Option Typed → Read Typed
given (Some x) = taken x
given None = stopped []

-- `some` reads what the option holds
abbrev pub helped : HelperModel → Read Typed → Read Typed
helped some_helper r = read_map typed.some r
helped no_helper r = r
helped whole_helper r = r

-- `default_read` says what stated defaults are read as
module _ (default_read : ℕ → TypeModel → Read Typed) (absent_of : TypeModel → Option Typed) where
  abbrev pub default_given : FieldModel → DefaultModel → Read Typed
  default_given f (stated_default n) = if_sound (default_read n f.field_type)
  default_given f own_default = taken (empty_value f.field_type)
  default_given f no_default = if has_no_helper f.helper then given (absent_of f.field_type) else stopped []

  abbrev pub field_read : FieldModel → List (MemberPart Reader) → Read Typed
  field_read f [] = default_given f f.default
  field_read f (m ∷ []) = under m.name (helped f.helper (m.value.as_type (present_type f)))
  field_read f (m ∷ n ∷ ms) = stopped (n.name ∷ [])

  -- the fields in order, a rest among them
  abbrev pub fields_read : List FieldModel → List (MemberPart Reader) → List (MemberPart Reader) → Read (List Typed)
  fields_read [] unnamed ms = taken []
  fields_read (f ∷ fs) unnamed ms =
      if f.is_rest then followed (rest_read f.field_type unnamed) (fields_read fs unnamed ms)
      else followed (field_read f (own_members f ms)) (fields_read fs unnamed (other_members f ms))

  -- where closed, first the members that no field names
  abbrev pub after_unnamed : Bool → List FieldModel → List (MemberPart Reader) → List (MemberPart Reader) → Read (List Typed)
  after_unnamed true fs (u ∷ us) ms = stopped (u.name ∷ [])
  after_unnamed true fs [] ms = fields_read fs [] ms
  after_unnamed false fs us ms = fields_read fs us ms

  abbrev pub members_read : Bool → List FieldModel → List (MemberPart Reader) → Read (List Typed)
  members_read closed fs ms = after_unnamed closed fs (unnamed_members fs ms) ms

  abbrev pub struct_read : Bool → List FieldModel → Parts Reader → Read (List Typed)
  struct_read closed fs (object_parts ms) = members_read closed fs ms
  struct_read closed fs _ = stopped []

-- ---- types

module _ (models : List ContainerModel) (r : Relations) (v : Value) (parts : Parts Reader) (item_read : List ℕ → Read Typed) where
  abbrev pub type_read : TypeModel → Read Typed
  type_read boolean_type = boolean_read v
  type_read (integer_type g) = integer_read g v
  type_read text_type = text_read v
  type_read (native_type f) = native_read r f v
  type_read any_type = taken (typed.any v)
  type_read unit_type = unit_read v
  type_read (option_type t) = if is_null v then taken typed.none else read_map typed.some (type_read t)
  type_read (boxed_type t) = type_read t
  type_read (vec_type t) = read_map (λ xs. typed.list (typeds xs)) (list_read t parts)
  type_read (set_type t) = read_map (λ xs. typed.list (typeds (keep_apart (written models t) [] xs))) (list_read t parts)
  type_read (map_type k t) = object_read k t parts
  type_read (tuple_type ts) = read_map (λ xs. typed.list (typeds xs)) (tuple_read (types_of ts) parts)
  type_read (array_type t n) = read_map (λ xs. typed.list (typeds xs)) (array_read t n parts)
  type_read (item_type n) = item_read n
  type_read outside_type = stopped []

-- ---- variants

-- the first variant that has the name, with its place
module _ (found : ℕ → VariantModel → Read Typed) (missing : Read Typed) where
  abbrev pub of_name : ℕ → List VariantModel → List ℕ → Read Typed
  of_name i [] n = missing
  of_name i (w ∷ ws) n = if list_any (bytes_eq n) w.deserialize_names then found i w else of_name (suc i) ws n

  -- of the text of a tag
  abbrev pub of_tag : List VariantModel → Value → Read Typed
  of_tag ws (text s) = of_name 0 ws s
  of_tag ws _ = missing

abbrev pub variant_of : ℕ → List Typed → Typed
variant_of i xs = typed.variant i (typeds xs)

abbrev pub unit_of : ℕ → List Typed → Typed
unit_of i xs = typed.variant i (typeds [])

-- the text of a unit variant
abbrev pub unit_named : ℕ → VariantModel → Read Typed
unit_named i w = if is_unit w then taken (unit_of i []) else stopped []

-- the contents of the one member
abbrev pub contents_read : Bool → MemberPart Reader → ℕ → VariantModel → Read Typed
contents_read closed m i w = if is_unit w then stopped [] else under m.name (read_map (variant_of i) (m.value.as_content (variant_content closed w)))

abbrev pub external_read : Bool → List VariantModel → Value → Parts Reader → Read Typed
external_read closed ws (text s) ps = of_name unit_named (stopped []) 0 ws s
external_read closed ws _ (object_parts (m ∷ [])) = of_name (contents_read closed m) (stopped []) 0 ws m.name
external_read closed ws _ ps = stopped []

-- the member of the contents, which a unit variant refuses and another needs
abbrev pub content_beside : Bool → List (MemberPart Reader) → ℕ → VariantModel → Read Typed
content_beside closed [] i w = if is_unit w then taken (unit_of i []) else stopped []
content_beside closed (m ∷ ms) i w = if is_unit w then stopped (m.name ∷ []) else under m.name (read_map (variant_of i) (m.value.as_content (variant_content closed w)))

abbrev pub adjacent_read : Bool → List (MemberPart Reader) → List (MemberPart Reader) → ℕ → VariantModel → Read Typed
adjacent_read true (o ∷ os) content i w = stopped (o.name ∷ [])
adjacent_read true [] content i w = content_beside true content i w
adjacent_read false os content i w = content_beside false content i w

-- a missing tag is refused at the object, an unknown one at the tag
abbrev pub after_tag : List ℕ → List VariantModel → (ℕ → VariantModel → Read Typed) → Option Value → Read Typed
after_tag tag ws found None = stopped []
after_tag tag ws found (Some v) = of_tag found (stopped (tag ∷ [])) ws v

module _ (default_read : ℕ → TypeModel → Read Typed) (absent_of : TypeModel → Option Typed) where
  abbrev pub internal_read : Bool → List (MemberPart Reader) → ℕ → VariantModel → Read Typed
  internal_read closed ms i w = elim w.style [
    | struct_style ↦ read_map (variant_of i) (members_read default_read absent_of closed w.fields ms)
    | unit_style ↦ read_map (unit_of i) (members_read default_read absent_of closed [] ms)
    | tuple_style ↦ stopped []
    | newtype_style ↦ stopped []
  ]

-- ---- containers

module _ (default_read : ℕ → TypeModel → Read Typed) (absent_of : TypeModel → Option Typed) (r : Relations) (conversions : ConversionsD)
    (v : Value) (parts : Parts Reader) (reads_type : TypeModel → Read Typed) where
  abbrev pub content_read : Content → Read (List Typed)
  content_read (one_type t) = read_map (λ x. x ∷ []) (reads_type t)
  content_read (places ts) = tuple_read ts parts
  content_read (named_fields closed fs) = struct_read default_read absent_of closed fs parts

  -- by the variant of that place
  abbrev pub variant_read : Bool → ℕ → VariantModel → Read Typed
  variant_read closed i w = if is_unit w then read_map (unit_of i) (content_read (variant_content closed w)) else read_map (variant_of i) (content_read (variant_content closed w))

  abbrev pub untagged_read : Bool → ℕ → List VariantModel → Read Typed
  untagged_read closed i [] = stopped []
  untagged_read closed i (w ∷ ws) = or_next (variant_read closed i w) (untagged_read closed (suc i) ws)

  abbrev pub enum_read : Bool → TagModel → List VariantModel → Read Typed
  enum_read closed external_tag ws = external_read closed ws v parts
  enum_read closed (internal_tag tag) ws = after_tag tag ws (internal_read default_read absent_of closed (without tag (members_in parts))) (tag_value tag v)
  enum_read closed (adjacent_tag tag content) ws =
      after_tag tag ws (adjacent_read closed (without content (without tag (members_in parts))) (named content (members_in parts))) (tag_value tag v)
  enum_read closed untagged ws = untagged_read closed 0 ws

  abbrev pub newtype_read : List FieldModel → Read Typed
  newtype_read (f ∷ []) = read_map typed.newtype (reads_type f.field_type)
  newtype_read _ = stopped []

  abbrev pub item_of_style : Bool → Style → List FieldModel → Read Typed
  item_of_style closed struct_style fs = read_map (λ xs. typed.struct (typeds xs)) (struct_read default_read absent_of closed fs parts)
  item_of_style closed newtype_style fs = newtype_read fs
  item_of_style closed tuple_style fs = stopped []
  item_of_style closed unit_style fs = stopped []

  abbrev pub body_read : Bool → BodyModel → Read Typed
  body_read closed (struct_model style fs) = item_of_style closed style fs
  body_read closed (enum_model tag ws) = enum_read closed tag ws

  abbrev pub rule_holds : ContainerModel → Bool
  rule_holds m = not m.try_from || given_rule_agrees r v (rule_of m.name conversions.constraints)

  -- with `try_from` the inner type, and then the rule
  abbrev pub container_read : Option ContainerModel → Read Typed
  container_read None = stopped []
  container_read (Some m) = kept_if (rule_holds m) (body_read m.closed m.body)

-- ---- values

module _ (models : List ContainerModel) (conversions : ConversionsD) (relations : Relations) where
  module _ (default_read : ℕ → TypeModel → Read Typed) where
    -- an item at this value, where so many may still be entered
    abbrev pub item_reading : Value → Parts Reader → ℕ → List ℕ → Read Typed
    item_reading v parts zero n = stopped []
    item_reading v parts (suc k) n =
        container_read default_read (absent models) relations conversions v parts (type_read models relations v parts (item_reading v parts k)) (container_named n models)

    abbrev pub type_within : Value → Parts Reader → ℕ → TypeModel → Read Typed
    type_within v parts k t = type_read models relations v parts (item_reading v parts k) t

    abbrev pub reader_within : Value → Parts Reader → ℕ → Reader
    reader_within v parts k = record {
      as_type = type_within v parts k;
      as_content = content_read default_read (absent models) relations conversions v parts (type_within v parts k);
    }

    -- a name is read as a text
    abbrev pub name_reader : List ℕ → Reader
    name_reader n = reader_within (text n) no_parts (allowed models)

    abbrev mutual
      pub value_reader : Value → Reader
      value_reader null = reader_within null no_parts (allowed models)
      value_reader (value.boolean b) = reader_within (value.boolean b) no_parts (allowed models)
      value_reader (number z) = reader_within (number z) no_parts (allowed models)
      value_reader fraction = reader_within fraction no_parts (allowed models)
      value_reader (text s) = reader_within (text s) no_parts (allowed models)
      value_reader (list xs) = reader_within (list xs) (list_parts (item_readers xs)) (allowed models)
      value_reader (object ms) = reader_within (object ms) (object_parts (member_readers ms)) (allowed models)

      pub item_readers : Items → List Reader
      item_readers no_items = []
      item_readers (item v vs) = value_reader v ∷ item_readers vs

      pub member_readers : Members → List (MemberPart Reader)
      member_readers no_members = []
      member_readers (member k v ms) = record { name = k; key = name_reader k; value = value_reader v } ∷ member_readers ms

    abbrev pub readers_of : Value → Parts Reader
    readers_of (list xs) = list_parts (item_readers xs)
    readers_of (object ms) = object_parts (member_readers ms)
    readers_of _ = no_parts

  -- with so many places of the table that may still be entered, and those entered on the way: a place inside itself is unsound
  abbrev pub default_inside : ℕ → List ℕ → ℕ → TypeModel → Read Typed
  default_inside zero entered n t = unsound
  default_inside (suc k) entered n t =
      if list_any (nat_eq n) entered then unsound else (value_reader (default_inside k (n ∷ entered)) (default_at models conversions relations n)).as_type t

  -- what reading the value as the type gives
  abbrev pub reading : TypeModel → Value → Read Typed
  reading t v = (value_reader (default_inside (length conversions.defaults) []) v).as_type t
