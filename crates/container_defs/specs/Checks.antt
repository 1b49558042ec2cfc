-- What is asked of a whole container, in ten checks, and what each tells (serde.rs, attributes; serde_derive's own errors).
use Rattle.std.specs.Prelude.{ℕ, suc, ◌++◌, ◌&&◌, ◌||◌, List, [], ◌∷◌, map, filter, Bool, true, false, not, Option, Some, None, cond, is_some, codes}
use Rattle.std.specs.List.{list_any, flat_map}
use Rattle.std.specs.Fmt.{decimal}
use Rattle.std.specs.Str.{bytes_eq}
use Rattle.token_trees.specs.declared.token.Span.{Span}
use Rattle.token_trees.specs.Token.{Name}
use Rattle.syntax_trees.specs.Syntax.{MemberD, named, unnamed, PathD, Segments, end_segments, more_segments, has_no_arguments, TyD}
use Rattle.syntax_trees.specs.Item.{ParamD}
use Rattle.attr_parts.specs.declared.derive.Derive.{Derive}
use Rattle.attr_parts.specs.declared.derive.Derive.TheVariants.{Serialize, Deserialize}
use Rattle.attr_parts.specs.declared.values.Identifier.{Identifier}
use Rattle.attr_parts.specs.declared.values.Identifier.TheVariants as identifiers
use Rattle.attr_parts.specs.Diagnostics.{DiagnosticD, KindD, default_order, remote_generic, getter_enum, getter_remote, flatten_tuple, flatten_newtype, other_identifier, other_untagged, other_last, other_unit, newtype_last, field_id_unit, variant_id_unit, skip_ser, skip_ser_field, skip_if_field, skip_de, skip_de_field, tag_conflict, same_tags, transparent_from, transparent_try_from, transparent_into, transparent_enum, transparent_unit, transparent_many, transparent_none_ser, transparent_none_de, from_conflict}
use Rattle.attr_parts.specs.Places.{place_of, ty_spans, path_spans, field_spans, variant_spans, item_spans}
use Rattle.attr_parts.specs.Types.{ShapeD, group_of, path_of, slice_of, reference_of, another, shape, ungrouped, last_name, path_segments}
use Rattle.attr_parts.specs.Values.{TagD, external, internal, adjacent, untagged, lacks_default, is_identifier}
use Rattle.attr_defs.specs.Container.{ContainerAttrs}
use Rattle.container_defs.specs.declared.style.Style.{Style}
use Rattle.container_defs.specs.declared.style.Style.TheVariants.{Struct, Tuple, Newtype, Unit as NoFields}
use Rattle.container_defs.specs.Container.{ReadField, ReadVariant, ReadData, read_enum, read_struct, ReadContainer, has_getter}

abbrev pub told_if : Bool → KindD → Span → List DiagnosticD
told_if true kind at = record { kind = kind; span = at } ∷ []
told_if false kind at = []

-- ---- the places at which is told

abbrev pub at_item : ReadContainer → Span
at_item c = place_of (item_spans c.original)

abbrev pub at_variant : ReadVariant → Span
at_variant v = place_of (variant_spans v.original)

abbrev pub at_field : ReadField → Span
at_field f = place_of (field_spans f.original)

abbrev pub at_type : ReadField → Span
at_type f = place_of (ty_spans f.ty)

-- ---- 1: in a tuple struct a field without a default stands before all that have one. A field that is never read doesn't count.

abbrev pub lacks : ReadField → Bool
lacks f = lacks_default f.attrs.default

-- the first field with a default, whose number is given, or none yet
abbrev pub first_default : Option ℕ → ℕ → ReadField → Option ℕ
first_default (Some n) index f = Some n
first_default None index f = cond (f.attrs.skip_deserializing || lacks f) None (Some index)

abbrev pub order_by : Option ℕ → ReadField → List DiagnosticD
order_by None f = []
order_by (Some n) f = told_if (not f.attrs.skip_deserializing && lacks f) (default_order n) (at_type f)

abbrev pub default_order_from : Option ℕ → ℕ → List ReadField → List DiagnosticD
default_order_from first index [] = []
default_order_from first index (f ∷ fs) = order_by first f ++ default_order_from (first_default first index f) (suc index) fs

abbrev pub in_tuple_struct : ReadData → List ReadField
in_tuple_struct (read_enum vs) = []
in_tuple_struct (read_struct Tuple fs) = fs
in_tuple_struct (read_struct Struct fs) = []
in_tuple_struct (read_struct Newtype fs) = []
in_tuple_struct (read_struct NoFields fs) = []

abbrev pub check_default_on_tuple : ReadContainer → List DiagnosticD
check_default_on_tuple c = cond (lacks_default c.attrs.default) (default_order_from None 0 (in_tuple_struct c.body)) []

-- ---- 2: a remote type has its arguments, or the item has parameters

abbrev pub last_has_arguments : Segments → Bool
last_has_arguments end_segments = false
last_has_arguments (more_segments s end_segments) = not (has_no_arguments s)
last_has_arguments (more_segments s (more_segments t ss)) = last_has_arguments (more_segments t ss)

abbrev pub has_params : List ParamD → Bool
has_params [] = false
has_params (p ∷ ps) = true

abbrev pub remote_told : List ParamD → Option PathD → List DiagnosticD
remote_told ps None = []
remote_told ps (Some p) = told_if (has_params ps && last_has_arguments (path_segments p)) remote_generic (place_of (path_spans p))

abbrev pub check_remote_generic : ReadContainer → List DiagnosticD
check_remote_generic c = remote_told c.params c.attrs.remote

-- ---- 3: getters stand in structs that stand for remote ones

abbrev pub is_enum_data : ReadData → Bool
is_enum_data (read_enum vs) = true
is_enum_data (read_struct s fs) = false

abbrev pub check_getter : ReadContainer → List DiagnosticD
check_getter c =
    cond (is_enum_data c.body) (told_if (has_getter c.body) getter_enum (at_item c))
    (told_if (has_getter c.body && not (is_some c.attrs.remote)) getter_remote (at_item c))

-- ---- 4: what is flattened has a name

abbrev pub flatten_by : Style → Bool → Span → List DiagnosticD
flatten_by Struct flat at = []
flatten_by Tuple flat at = told_if flat flatten_tuple at
flatten_by Newtype flat at = told_if flat flatten_newtype at
flatten_by NoFields flat at = []

abbrev pub flatten_told : Style → List ReadField → List DiagnosticD
flatten_told s fs = flat_map (λ f. flatten_by s f.attrs.flatten (at_field f)) fs

abbrev pub flatten_in : ReadData → List DiagnosticD
flatten_in (read_enum vs) = flat_map (λ v. flatten_told v.style v.fields) vs
flatten_in (read_struct s fs) = flatten_told s fs

abbrev pub check_flatten : ReadContainer → List DiagnosticD
check_flatten c = flatten_in c.body

-- ---- 5: `other`, and the variants of identifiers

abbrev pub is_unit : Style → Bool
is_unit Struct = false
is_unit Tuple = false
is_unit Newtype = false
is_unit NoFields = true

abbrev pub is_newtype : Style → Bool
is_newtype Struct = false
is_newtype Tuple = false
is_newtype Newtype = true
is_newtype NoFields = false

abbrev pub is_untagged : TagD → Bool
is_untagged external = false
is_untagged (internal t) = false
is_untagged (adjacent t k) = false
is_untagged untagged = true

abbrev pub is_variant_identifier : Identifier → Bool
is_variant_identifier identifiers.No = false
is_variant_identifier identifiers.Field = false
is_variant_identifier identifiers.Variant = true

abbrev pub is_field_identifier : Identifier → Bool
is_field_identifier identifiers.No = false
is_field_identifier identifiers.Field = true
is_field_identifier identifiers.Variant = false

-- a case, and what it tells, if anything
abbrev pub CaseD : Type 0
CaseD = Bool × Option KindD

abbrev pub first_case : List CaseD → Option KindD
first_case [] = None
first_case (k ∷ ks) = cond k.0 k.1 (first_case ks)

abbrev unless : Bool → KindD → Option KindD
unless true k = None
unless false k = Some k

-- the first case that fits a variant of an enum that is such an identifier and is tagged so: whether it is the last, whether it
-- stands for all others, its style and its name
abbrev pub identifier_case : Identifier → TagD → Bool → Bool → Style → List ℕ → Option KindD
identifier_case i tag is_last is_other s name = first_case (
    (is_other && is_variant_identifier i, Some other_identifier)
    ∷ (is_other && (not (is_identifier i) && is_untagged tag), Some other_untagged)
    ∷ (is_other && is_unit s, unless is_last other_last)
    ∷ (is_other, Some other_unit)
    ∷ (not (is_identifier i) || is_unit s, None)
    ∷ (is_newtype s && is_field_identifier i, unless is_last (newtype_last name))
    ∷ (is_field_identifier i, Some field_id_unit)
    ∷ (true, Some variant_id_unit)
    ∷ []
    )

abbrev pub told_maybe : Option KindD → Span → List DiagnosticD
told_maybe None at = []
told_maybe (Some k) at = record { kind = k; span = at } ∷ []

abbrev pub case_told : ContainerAttrs → Bool → ReadVariant → List DiagnosticD
case_told c is_last v = told_maybe (identifier_case c.identifier c.tag is_last v.attrs.other v.style v.name.text) (at_variant v)

abbrev pub identifier_told : ContainerAttrs → List ReadVariant → List DiagnosticD
identifier_told c [] = []
identifier_told c (v ∷ []) = case_told c true v
identifier_told c (v ∷ w ∷ vs) = case_told c false v ++ identifier_told c (w ∷ vs)

-- the variants of an enum
abbrev pub variants_in : ReadData → List ReadVariant
variants_in (read_enum vs) = vs
variants_in (read_struct s fs) = []

abbrev pub check_identifier : ReadContainer → List DiagnosticD
check_identifier c = identifier_told c.attrs (variants_in c.body)

-- ---- 6: a variant with a function of its own skips nothing in that direction

-- a field as diagnostics name it
abbrev pub member_text : MemberD → List ℕ
member_text (named n) = codes "`" ++ n.text ++ codes "`"
member_text (unnamed index) = codes "#" ++ decimal index

abbrev pub skip_ser_told : ReadVariant → ReadField → List DiagnosticD
skip_ser_told v f =
    told_if f.attrs.skip_serializing (skip_ser_field v.name.text (member_text f.member)) (at_variant v)
    ++ told_if (is_some f.attrs.skip_serializing_if) (skip_if_field v.name.text (member_text f.member)) (at_variant v)

abbrev pub skip_de_told : ReadVariant → ReadField → List DiagnosticD
skip_de_told v f = told_if f.attrs.skip_deserializing (skip_de_field v.name.text (member_text f.member)) (at_variant v)

abbrev pub written_by_function : ReadVariant → List DiagnosticD
written_by_function v = told_if v.attrs.skip_serializing (skip_ser v.name.text) (at_variant v) ++ flat_map (skip_ser_told v) v.fields

abbrev pub read_by_function : ReadVariant → List DiagnosticD
read_by_function v = told_if v.attrs.skip_deserializing (skip_de v.name.text) (at_variant v) ++ flat_map (skip_de_told v) v.fields

abbrev pub variant_skips_told : ReadVariant → List DiagnosticD
variant_skips_told v = cond (is_some v.attrs.serialize_with) (written_by_function v) [] ++ cond (is_some v.attrs.deserialize_with) (read_by_function v) []

abbrev pub check_variant_skip_attrs : ReadContainer → List DiagnosticD
check_variant_skip_attrs c = flat_map variant_skips_told (variants_in c.body)

-- ---- 7: beside an internal tag no field has its name

abbrev pub has_text : List ℕ → Name → Bool
has_text t n = bytes_eq n.text t

abbrev pub is_written_as : List ℕ → ReadVariant → ReadField → Bool
is_written_as t v f = not (f.attrs.skip_serializing || v.attrs.skip_serializing) && has_text t f.attrs.name.serialize

abbrev pub is_read_as : List ℕ → ReadVariant → ReadField → Bool
is_read_as t v f = not (f.attrs.skip_deserializing || v.attrs.skip_deserializing) && list_any (has_text t) f.attrs.name.aliases

abbrev pub is_struct : Style → Bool
is_struct Struct = true
is_struct Tuple = false
is_struct Newtype = false
is_struct NoFields = false

abbrev pub has_tag_name : List ℕ → ReadVariant → Bool
has_tag_name t v = is_struct v.style && (not v.attrs.untagged && list_any (λ f. is_written_as t v f || is_read_as t v f) v.fields)

abbrev pub tag_conflict_by : TagD → ReadContainer → List DiagnosticD
tag_conflict_by external c = []
tag_conflict_by (internal t) c = told_if (list_any (has_tag_name t) (variants_in c.body)) (tag_conflict t) (at_item c)
tag_conflict_by (adjacent t k) c = []
tag_conflict_by untagged c = []

abbrev pub check_internal_tag_field_name_conflict : ReadContainer → List DiagnosticD
check_internal_tag_field_name_conflict c = tag_conflict_by c.attrs.tag c

-- ---- 8: a tag and its content have two names

abbrev pub same_tags_by : TagD → Span → List DiagnosticD
same_tags_by external at = []
same_tags_by (internal t) at = []
same_tags_by (adjacent t k) at = told_if (bytes_eq t k) (same_tags t) at
same_tags_by untagged at = []

abbrev pub check_adjacent_tag_conflict : ReadContainer → List DiagnosticD
check_adjacent_tag_conflict c = same_tags_by c.attrs.tag (at_item c)

-- ---- 9: `transparent` stands on a struct with one field that counts

-- a path whose last name is `PhantomData`
abbrev pub is_phantom_shape : ShapeD → Bool
is_phantom_shape (group_of t) = false
is_phantom_shape (path_of q p) = bytes_eq (last_name (path_segments p)) (codes "PhantomData")
is_phantom_shape (slice_of t) = false
is_phantom_shape (reference_of m t) = false
is_phantom_shape another = false

abbrev pub is_phantom : TyD → Bool
is_phantom t = is_phantom_shape (shape (ungrouped t))

abbrev pub takes_part : Derive → ReadField → Bool
takes_part Serialize f = not f.attrs.skip_serializing
takes_part Deserialize f = not f.attrs.skip_deserializing && lacks f

abbrev pub counts : Derive → ReadField → Bool
counts derive f = not (is_phantom f.ty) && takes_part derive f

abbrev pub none_counts : Derive → KindD
none_counts Serialize = transparent_none_ser
none_counts Deserialize = transparent_none_de

-- of the fields that count
abbrev pub counting_told : Derive → List ReadField → Span → List DiagnosticD
counting_told derive [] at = told_if true (none_counts derive) at
counting_told derive (f ∷ []) at = []
counting_told derive (f ∷ g ∷ fs) at = told_if true transparent_many at

abbrev pub transparent_in : Derive → ReadData → Span → List DiagnosticD
transparent_in derive (read_enum vs) at = told_if true transparent_enum at
transparent_in derive (read_struct Struct fs) at = counting_told derive (filter (counts derive) fs) at
transparent_in derive (read_struct Tuple fs) at = counting_told derive (filter (counts derive) fs) at
transparent_in derive (read_struct Newtype fs) at = counting_told derive (filter (counts derive) fs) at
transparent_in derive (read_struct NoFields fs) at = told_if true transparent_unit at

-- no type stands in the container's place
abbrev pub types_told : ReadContainer → List DiagnosticD
types_told c =
    told_if (is_some c.attrs.type_from) transparent_from (at_item c)
    ++ (told_if (is_some c.attrs.type_try_from) transparent_try_from (at_item c) ++ told_if (is_some c.attrs.type_into) transparent_into (at_item c))

abbrev pub transparent_told : Derive → ReadContainer → List DiagnosticD
transparent_told derive c = types_told c ++ transparent_in derive c.body (at_item c)

abbrev pub check_transparent : Derive → ReadContainer → List DiagnosticD
check_transparent derive c = cond c.attrs.transparent (transparent_told derive c) []

-- the one field that counts is marked

abbrev pub mark_if : Bool → ReadField → ReadField
mark_if true f = record f { attrs = record f.attrs { transparent = true } }
mark_if false f = f

abbrev pub is_one : {A : Type 0} → List A → Bool
is_one [] = false
is_one (a ∷ []) = true
is_one (a ∷ b ∷ xs) = false

abbrev pub mark_counting : Derive → List ReadField → List ReadField
mark_counting derive fs = cond (is_one (filter (counts derive) fs)) (map (λ f. mark_if (counts derive f) f) fs) fs

abbrev pub mark_in : Derive → ReadData → ReadData
mark_in derive (read_enum vs) = read_enum vs
mark_in derive (read_struct Struct fs) = read_struct Struct (mark_counting derive fs)
mark_in derive (read_struct Tuple fs) = read_struct Tuple (mark_counting derive fs)
mark_in derive (read_struct Newtype fs) = read_struct Newtype (mark_counting derive fs)
mark_in derive (read_struct NoFields fs) = read_struct NoFields fs

-- the container that the checks leave
abbrev pub marked : Derive → ReadContainer → ReadContainer
marked derive c = record c { body = cond c.attrs.transparent (mark_in derive c.body) c.body }

-- ---- 10: `from` and `try_from` don't go together

abbrev pub check_from_and_try_from : ReadContainer → List DiagnosticD
check_from_and_try_from c = told_if (is_some c.attrs.type_from && is_some c.attrs.type_try_from) from_conflict (at_item c)

-- ---- all ten in order

abbrev pub all_checks : Derive → List (ReadContainer → List DiagnosticD)
all_checks derive =
    check_default_on_tuple
    ∷ check_remote_generic
    ∷ check_getter
    ∷ check_flatten
    ∷ check_identifier
    ∷ check_variant_skip_attrs
    ∷ check_internal_tag_field_name_conflict
    ∷ check_adjacent_tag_conflict
    ∷ check_transparent derive
    ∷ check_from_and_try_from
    ∷ []

abbrev pub checks_told : Derive → ReadContainer → List DiagnosticD
checks_told derive c = flat_map (λ check. check c) (all_checks derive)
