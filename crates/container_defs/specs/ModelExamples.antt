-- Worked examples of containers: styles, names by rules, unions, parameters, and the order in which diagnostics are told.
use Rattle.std.specs.Prelude.{◌≡◌, ℕ, List, [], ◌∷◌, map, true, false, Option, Some, None, option_map, codes}
use Rattle.token_trees.specs.Token.{Tok, Name}
use Rattle.syntax_trees.specs.Syntax.{MemberD, named, unnamed}
use Rattle.syntax_trees.specs.Item.{named_fields, unnamed_fields, unit_fields, VariantD, ParamD, param_ty, PredicateD, predicate_ty, union_body, ItemD}
use Rattle.attr_parts.specs.declared.derive.Derive.TheVariants.{Serialize, Deserialize}
use Rattle.attr_parts.specs.Diagnostics.{duplicate, unknown_container, unknown_variant, unknown_field, unknown_rule, untagged_tag, content_alone, two_identifiers, union_item, untagged_order, flatten_tuple}
use Rattle.attr_parts.specs.Values.{TagD, external}
use Rattle.container_defs.specs.declared.style.Style.{Style}
use Rattle.container_defs.specs.declared.style.Style.TheVariants.{Struct, Tuple, Newtype, Unit as NoFields}
use Rattle.container_defs.specs.Container.{ReadField, ReadVariant, ReadData, read_enum, read_struct, ReadContainer, has_getter}
use Rattle.container_defs.specs.Told.{told, told_to, ◌!◌, item_place, field_place, read_by, named_z, fields_in, variants_of}
use Rattle.container_defs.specs.Written.{at, w, eq, str, comma, says, flag, plain, ty, field, nameless, variant, item, names, places, nothing, variants}

abbrev of_container : {A : Type 0} → (ReadContainer → A) → ItemD → Option A
of_container f i = option_map f (read_by Deserialize i)

-- ---- styles

abbrev style_in : ReadData → Option Style
style_in (read_enum vs) = None
style_in (read_struct s fs) = Some s

abbrev pub style_of : ItemD → Option (Option Style)
style_of i = of_container (λ c. style_in c.body) i

abbrev pub styles : List VariantD → List Style
styles vs = map (λ (v : ReadVariant). v.style) (variants_of (read_by Deserialize (item (variants vs) [])))

abbrev pub members : ItemD → List MemberD
members i = map (λ (f : ReadField). f.member) (fields_in (read_by Deserialize i))

abbrev each_style : List VariantD
each_style =
    variant "A" (named_fields (field "a" [] ∷ [])) []
    ∷ variant "B" (unnamed_fields (nameless [] ∷ nameless [] ∷ [])) []
    ∷ variant "C" (unnamed_fields (nameless [] ∷ [])) []
    ∷ variant "D" unit_fields []
    ∷ variant "E" (named_fields []) []
    ∷ variant "F" (unnamed_fields []) []
    ∷ []

pub record Styles : Type 0 where
  pub with_names : style_of (item (names (field "a" [] ∷ [])) []) ≡ Some (Some Struct)
  pub no_names : style_of (item (names []) []) ≡ Some (Some Struct)
  pub one : style_of (item (places (nameless [] ∷ [])) []) ≡ Some (Some Newtype)
  pub two : style_of (item (places (nameless [] ∷ nameless [] ∷ [])) []) ≡ Some (Some Tuple)
  pub no_places : style_of (item (places []) []) ≡ Some (Some Tuple)
  pub without_fields : style_of (item nothing []) ≡ Some (Some NoFields)
  pub enums : style_of (item (variants []) []) ≡ Some None
  pub of_variants : styles each_style ≡ Struct ∷ Tuple ∷ Newtype ∷ NoFields ∷ Struct ∷ Tuple ∷ []
  pub by_name : members (item (names (field "a" [] ∷ field "b" [] ∷ [])) []) ≡ named (plain "a" 85) ∷ named (plain "b" 85) ∷ []
  pub by_number : members (item (places (nameless [] ∷ nameless [] ∷ [])) []) ≡ unnamed 0 ∷ unnamed 1 ∷ []
  pub in_variants : members (item (variants each_style) []) ≡ named (plain "a" 85) ∷ unnamed 0 ∷ unnamed 1 ∷ unnamed 0 ∷ []

-- ---- unions, parameters, and what is handed on

abbrev a_union : List Tok → ItemD
a_union ts = item (union_body (field "a" (flag "x") ∷ []) (at 93)) ts

abbrev parameter : ParamD
parameter = param_ty (plain "A" 94) []

abbrev predicate : PredicateD
predicate = predicate_ty (ty "A") []

abbrev generic : ItemD
generic = record (item (variants []) []) { params = parameter ∷ []; predicates = predicate ∷ [] }

pub record Parts : Type 0 where
  pub no_union : read_by Deserialize (a_union []) ≡ None
  pub union_told : told (a_union []) ≡ (union_item ! item_place (a_union [])) ∷ []
  pub union_told_last : told (a_union (flag "x")) ≡ (unknown_container (codes "x") ! at 1) ∷ (union_item ! item_place (a_union (flag "x"))) ∷ []
  pub union_written : told_to Serialize (a_union []) ≡ (union_item ! item_place (a_union [])) ∷ []
  pub parameters : of_container (λ c. c.params) generic ≡ Some (parameter ∷ [])
  pub predicates : of_container (λ c. c.predicates) generic ≡ Some (predicate ∷ [])
  pub original : of_container (λ c. c.original) generic ≡ Some generic
  pub own_name : of_container (λ c. c.name) generic ≡ Some (plain "T" 92)
  pub types : map (λ (f : ReadField). f.ty) (fields_in (read_by Serialize (item (names (field "a" [] ∷ [])) []))) ≡ ty "u8" ∷ []

-- ---- names by rules

abbrev written_names : List ReadField → List (List ℕ)
written_names fs = map (λ (f : ReadField). f.attrs.name.serialize.text) fs

abbrev aliases_in : List ReadField → List (List (List ℕ))
aliases_in fs = map (λ (f : ReadField). map (λ (n : Name). n.text) f.attrs.name.aliases) fs

-- a renamer answers `z`: what fields and variants are written as
abbrev pub z_fields : ItemD → List (List ℕ)
z_fields i = written_names (fields_in (named_z i))

abbrev pub z_variants : ItemD → List (List ℕ)
z_variants i = map (λ (v : ReadVariant). v.attrs.name.serialize.text) (variants_of (named_z i))

abbrev pub z_aliases : ItemD → List (List (List ℕ))
z_aliases i = aliases_in (fields_in (named_z i))

-- `V { a: u8 }`
abbrev pub one_variant : List Tok → List Tok → ItemD
one_variant vs ts = item (variants (variant "V" (named_fields (field "a" [] ∷ [])) vs ∷ [])) ts

abbrev pub one_field : List Tok → List Tok → ItemD
one_field fs ts = item (names (field "a" fs ∷ [])) ts

pub record Renamed : Type 0 where
  pub fields_of_all : z_fields (one_variant [] (says "rename_all_fields" "lowercase")) ≡ codes "z" ∷ []
  pub not_variants : z_variants (one_variant [] (says "rename_all_fields" "lowercase")) ≡ codes "V" ∷ []
  pub variants_of_all : z_variants (one_variant [] (says "rename_all" "lowercase")) ≡ codes "z" ∷ []
  pub not_fields : z_fields (one_variant [] (says "rename_all" "lowercase")) ≡ codes "a" ∷ []
  pub fields_of_one : z_fields (one_variant (says "rename_all" "lowercase") []) ≡ codes "z" ∷ []
  pub not_the_variant : z_variants (one_variant (says "rename_all" "lowercase") []) ≡ codes "V" ∷ []
  pub fields_of_a_struct : z_fields (one_field [] (says "rename_all" "lowercase")) ≡ codes "z" ∷ []
  pub no_rule : z_fields (one_field [] []) ≡ codes "a" ∷ []
  pub has_a_name : z_fields (one_field (says "rename" "b") (says "rename_all" "lowercase")) ≡ codes "b" ∷ []
  pub joins : z_aliases (one_field (says "alias" "b") (says "rename_all" "lowercase")) ≡ (codes "b" ∷ codes "z" ∷ []) ∷ []
  pub own_joins : z_aliases (one_field (says "alias" "b") []) ≡ (codes "a" ∷ codes "b" ∷ []) ∷ []
  pub of_a_number : z_aliases (item (places (nameless [] ∷ nameless [] ∷ [])) []) ≡ (codes "0" ∷ []) ∷ (codes "1" ∷ []) ∷ []

-- ---- enums without variants

abbrev pub empty_enum : List Tok → ItemD
empty_enum ts = item (variants []) ts

abbrev pub tag_of : List Tok → Option TagD
tag_of ts = of_container (λ c. c.attrs.tag) (empty_enum ts)

abbrev pub name_of : List Tok → Option (List ℕ)
name_of ts = of_container (λ c. c.attrs.name.serialize.text) (empty_enum ts)

abbrev untagged_and_tag : List Tok
untagged_and_tag = w "untagged" 1 ∷ comma 2 ∷ w "tag" 3 ∷ eq 4 ∷ str "t" 5 ∷ []

abbrev twice_renamed : List Tok
twice_renamed = w "rename" 1 ∷ eq 2 ∷ str "a" 3 ∷ comma 4 ∷ w "rename" 5 ∷ eq 6 ∷ str "b" 7 ∷ []

pub record EmptyEnums : Type 0 where
  pub both_told : told (empty_enum untagged_and_tag) ≡ (untagged_tag ! at 1) ∷ (untagged_tag ! at 3) ∷ []
  pub both_tag : tag_of untagged_and_tag ≡ Some external
  pub alone_told : told (empty_enum (says "content" "c")) ≡ (content_alone ! at 1) ∷ []
  pub alone_tag : tag_of (says "content" "c") ≡ Some external
  pub rule_told : told (empty_enum (says "rename_all" "x")) ≡ (unknown_rule (codes "x") ! at 3) ∷ []
  pub twice_told : told (empty_enum twice_renamed) ≡ (duplicate (codes "rename") ! at 5) ∷ (duplicate (codes "rename") ! at 5) ∷ []
  pub twice_name : name_of twice_renamed ≡ Some (codes "a")
  pub nothing_told : told (empty_enum []) ≡ []
  pub written_so : told_to Serialize (empty_enum []) ≡ []

-- ---- order

abbrev ordered : ItemD
ordered = item
    (variants (variant "A" (unnamed_fields (nameless (w "y" 11 ∷ []) ∷ nameless (flag "flatten") ∷ [])) (w "x" 10 ∷ []) ∷ variant "B" unit_fields (flag "untagged") ∷ variant "C" (named_fields (field "c" (w "v" 12 ∷ []) ∷ [])) [] ∷ []))
    (w "field_identifier" 1 ∷ comma 2 ∷ w "variant_identifier" 3 ∷ comma 4 ∷ w "untagged" 5 ∷ comma 6 ∷ w "tag" 7 ∷ eq 8 ∷ str "t" 9 ∷ comma 13 ∷ w "u" 14 ∷ [])

pub record Order : Type 0 where
  pub all_told :
      told ordered
      ≡ (unknown_container (codes "u") ! at 14)
      ∷ (untagged_tag ! at 5) ∷ (untagged_tag ! at 7)
      ∷ (two_identifiers ! at 1) ∷ (two_identifiers ! at 3)
      ∷ (unknown_variant (codes "x") ! at 10) ∷ (unknown_field (codes "y") ! at 11)
      ∷ (unknown_field (codes "v") ! at 12)
      ∷ (untagged_order ! at 80)
      ∷ (flatten_tuple ! field_place (nameless (flag "flatten")))
      ∷ []
  pub untagged_last : told (item (variants (variant "A" unit_fields [] ∷ variant "B" unit_fields (flag "untagged") ∷ variant "C" unit_fields (flag "untagged") ∷ [])) []) ≡ []
  pub untagged_first :
      told (item (variants (variant "A" unit_fields (flag "untagged") ∷ variant "B" unit_fields (flag "untagged") ∷ variant "C" unit_fields [] ∷ [])) [])
      ≡ (untagged_order ! at 80) ∷ (untagged_order ! at 80) ∷ []
  pub all_untagged : told (item (variants (variant "A" unit_fields (flag "untagged") ∷ variant "B" unit_fields (flag "untagged") ∷ [])) []) ≡ []

-- ---- all fields, and getters

pub record AllFields : Type 0 where
  pub variants_in_order : written_names (fields_in (read_by Serialize (item (variants (variant "A" (named_fields (field "a" [] ∷ field "b" [] ∷ [])) [] ∷ variant "B" unit_fields [] ∷ variant "C" (named_fields (field "c" [] ∷ [])) [] ∷ [])) []))) ≡ codes "a" ∷ codes "b" ∷ codes "c" ∷ []
  pub one_getter : of_container (λ c. has_getter c.body) (item (names (field "a" [] ∷ field "b" (says "getter" "g") ∷ [])) []) ≡ Some true
  pub no_getter : of_container (λ c. has_getter c.body) (item (names (field "a" [] ∷ field "b" [] ∷ [])) []) ≡ Some false
  pub in_a_variant : of_container (λ c. has_getter c.body) (item (variants (variant "A" (named_fields (field "a" (says "getter" "g") ∷ [])) [] ∷ [])) []) ≡ Some true
