-- What the attributes of a container say (serde.rs, container attributes).
use Rattle.std.specs.Prelude.{ℕ, ◌++◌, ◌&&◌, List, [], ◌∷◌, Bool, true, false, not, Option, Some, None, cond, unwrap_or, codes, map, length, nat_eq}
use Rattle.std.specs.List.{list_any}
use Rattle.token_trees.specs.declared.token.Span.{Span}
use Rattle.token_trees.specs.Token.{Name}
use Rattle.syntax_trees.specs.Syntax.{TyD, PathD, path}
use Rattle.syntax_trees.specs.Item.{MetaD, meta_path, meta_list, meta_value, PredicateD, ItemD, VariantD, FieldsD, named_fields, unnamed_fields, unit_fields, BodyD, struct_body, enum_body, union_body}
use Rattle.attr_parts.specs.declared.rename.RenameAllRules.{RenameAllRules}
use Rattle.attr_parts.specs.declared.values.Identifier.{Identifier}
use Rattle.attr_parts.specs.declared.values.Identifier.TheVariants as identifiers
use Rattle.attr_parts.specs.Diagnostics.{DiagnosticD, KindD, tag_tuple, untagged_tag, content_alone, untagged_content, untagged_both, two_identifiers, field_id_place, variant_id_place}
use Rattle.attr_parts.specs.Names.{MultiNameD}
use Rattle.attr_parts.specs.Values.{DefaultD, no_default, TagD, external, internal, adjacent, untagged}
use Rattle.attr_defs.specs.Metas.{is_lone, is_text}
use Rattle.attr_defs.specs.Acts.{ActD, SettingD, Values, values_of, told}
use Rattle.attr_defs.specs.Looks.{plain_of, name_of, default_of, predicates_of, ty_of, path_of, look, is_set, rules_at}
use Rattle.attr_parts.specs.Places.{place_of, variant_spans}
use Rattle.attr_defs.specs.Owners.{of_container, whole, written, read}
use Rattle.attr_defs.specs.Rows.{all_acts}
use Rattle.attr_defs.specs.Texts.{Lexing}

-- all that the attributes of a container say
pub record ContainerAttrs : Type 0 where
  pub name : MultiNameD
  pub rename_all : RenameAllRules
  pub rename_all_fields : RenameAllRules
  pub transparent : Bool
  pub deny_unknown_fields : Bool
  pub default : DefaultD
  pub ser_bound : Option (List PredicateD)
  pub de_bound : Option (List PredicateD)
  pub tag : TagD
  pub type_from : Option TyD
  pub type_try_from : Option TyD
  pub type_into : Option TyD
  pub remote : Option PathD
  pub is_packed : Bool
  pub identifier : Identifier
  pub serde_path : Option PathD
  pub expecting : Option (List ℕ)
  pub non_exhaustive : Bool

-- a name without `r#`
abbrev pub unraw : List ℕ → List ℕ
unraw [] = []
unraw (c ∷ []) = c ∷ []
unraw (c ∷ d ∷ n) = cond (nat_eq c 114 && nat_eq d 35) n (c ∷ d ∷ n)

abbrev pub plain_name : Name → Name
plain_name n = record n { text = unraw n.text }

-- the two names: the item's own, where an attribute doesn't say another; no other is read
abbrev pub container_names : Values → Name → MultiNameD
container_names v own = record {
  serialize = unwrap_or (look name_of (v (written (codes "rename")))) own;
  serialize_renamed = is_set (v (written (codes "rename")));
  deserialize = unwrap_or (look name_of (v (read (codes "rename")))) own;
  deserialize_renamed = is_set (v (read (codes "rename")));
  aliases = [];
}

-- how variants are told: by what is set, and of tag and content what they say
abbrev pub tag_by : Bool → Option (List ℕ) → Option (List ℕ) → TagD
tag_by false None None = external
tag_by true None None = untagged
tag_by false (Some t) None = internal t
tag_by false (Some t) (Some c) = adjacent t c
tag_by false None (Some c) = external
tag_by true (Some t) None = external
tag_by true None (Some c) = external
tag_by true (Some t) (Some c) = external

abbrev pub plain_at : Values → List ℕ → Option (List ℕ)
plain_at v name = look plain_of (v (whole name))

abbrev pub tag_of : Values → TagD
tag_of v = tag_by (is_set (v (whole (codes "untagged")))) (plain_at v (codes "tag")) (plain_at v (codes "content"))

abbrev pub is_tuple : FieldsD → Bool
is_tuple (named_fields fs) = false
is_tuple (unnamed_fields fs) = not (nat_eq (length fs) 1)
is_tuple unit_fields = false

-- the first tuple variant is told
abbrev pub tuple_told : List VariantD → List DiagnosticD
tuple_told [] = []
tuple_told (v ∷ vs) = cond (is_tuple v.fields) (record { kind = tag_tuple; span = place_of (variant_spans v) } ∷ []) (tuple_told vs)

abbrev pub tuples_told : BodyD → List DiagnosticD
tuples_told (struct_body fs at) = []
tuples_told (enum_body vs at) = tuple_told vs
tuples_told (union_body fs at) = []

abbrev at_each : KindD → List Span → List DiagnosticD
at_each k ss = map (λ s. record { kind = k; span = s }) ss

-- which of the three don't go together: each is told at its place, in this order
abbrev pub tag_told_by : BodyD → Option SettingD → Option SettingD → Option SettingD → List DiagnosticD
tag_told_by body None None None = []
tag_told_by body (Some u) None None = []
tag_told_by body None (Some t) None = tuples_told body
tag_told_by body None (Some t) (Some c) = []
tag_told_by body None None (Some c) = at_each content_alone (c.at ∷ [])
tag_told_by body (Some u) (Some t) None = at_each untagged_tag (u.at ∷ t.at ∷ [])
tag_told_by body (Some u) None (Some c) = at_each untagged_content (u.at ∷ c.at ∷ [])
tag_told_by body (Some u) (Some t) (Some c) = at_each untagged_both (u.at ∷ t.at ∷ c.at ∷ [])

abbrev pub tag_told : BodyD → Values → List DiagnosticD
tag_told body v = tag_told_by body (v (whole (codes "untagged"))) (v (whole (codes "tag"))) (v (whole (codes "content")))

-- an enum may be an identifier of one kind
abbrev pub identifier_on : BodyD → Identifier → Identifier
identifier_on (struct_body fs at) i = identifiers.No
identifier_on (enum_body vs at) i = i
identifier_on (union_body fs at) i = identifiers.No

abbrev pub identifier_by : BodyD → Option SettingD → Option SettingD → Identifier
identifier_by body None None = identifiers.No
identifier_by body (Some f) None = identifier_on body identifiers.Field
identifier_by body None (Some v) = identifier_on body identifiers.Variant
identifier_by body (Some f) (Some v) = identifiers.No

abbrev pub identifier_of : BodyD → Values → Identifier
identifier_of body v = identifier_by body (v (whole (codes "field_identifier"))) (v (whole (codes "variant_identifier")))

-- what is no enum is told at its keyword
abbrev pub enum_wanted : BodyD → KindD → List DiagnosticD
enum_wanted (struct_body fs at) k = at_each k (at ∷ [])
enum_wanted (enum_body vs at) k = []
enum_wanted (union_body fs at) k = at_each k (at ∷ [])

abbrev pub identifier_told_by : BodyD → Option SettingD → Option SettingD → List DiagnosticD
identifier_told_by body None None = []
identifier_told_by body (Some f) None = enum_wanted body field_id_place
identifier_told_by body None (Some v) = enum_wanted body variant_id_place
identifier_told_by body (Some f) (Some v) = at_each two_identifiers (f.at ∷ v.at ∷ [])

abbrev pub identifier_told : BodyD → Values → List DiagnosticD
identifier_told body v = identifier_told_by body (v (whole (codes "field_identifier"))) (v (whole (codes "variant_identifier")))

abbrev pub is_word_path : List ℕ → PathD → Bool
is_word_path n (path leading ss) = is_lone leading n ss

-- `non_exhaustive` alone
abbrev pub is_non_exhaustive : MetaD → Bool
is_non_exhaustive (meta_path p) = is_word_path (codes "non_exhaustive") p
is_non_exhaustive (meta_list p ts at) = false
is_non_exhaustive (meta_value p ts) = false

-- `packed` among the tokens of a `repr` (The Rust Reference, type layout)
abbrev pub is_packing : MetaD → Bool
is_packing (meta_path p) = false
is_packing (meta_list p ts at) = is_word_path (codes "repr") p && list_any (is_text (codes "packed")) ts
is_packing (meta_value p ts) = false

abbrev pub container_from : ItemD → Values → ContainerAttrs
container_from i v = record {
  name = container_names v (plain_name i.name);
  rename_all = rules_at v (codes "rename_all");
  rename_all_fields = rules_at v (codes "rename_all_fields");
  transparent = is_set (v (whole (codes "transparent")));
  deny_unknown_fields = is_set (v (whole (codes "deny_unknown_fields")));
  default = unwrap_or (look default_of (v (whole (codes "default")))) no_default;
  ser_bound = look predicates_of (v (written (codes "bound")));
  de_bound = look predicates_of (v (read (codes "bound")));
  tag = tag_of v;
  type_from = look ty_of (v (whole (codes "from")));
  type_try_from = look ty_of (v (whole (codes "try_from")));
  type_into = look ty_of (v (whole (codes "into")));
  remote = look path_of (v (whole (codes "remote")));
  is_packed = list_any is_packing i.attrs;
  identifier = identifier_of i.body v;
  serde_path = look path_of (v (whole (codes "crate")));
  expecting = plain_at v (codes "expecting");
  non_exhaustive = list_any is_non_exhaustive i.attrs;
}

abbrev pub container_acts : Lexing → ItemD → List ActD
container_acts lexing i = all_acts lexing (of_container i) i.attrs

-- what the attributes of an item say of it as a container
abbrev pub container_attrs : Lexing → ItemD → ContainerAttrs
container_attrs lexing i = container_from i (values_of (container_acts lexing i))

-- and what is told of them, in order
abbrev pub container_diagnostics : Lexing → ItemD → List DiagnosticD
container_diagnostics lexing i =
    told (container_acts lexing i) ++ tag_told i.body (values_of (container_acts lexing i)) ++ identifier_told i.body (values_of (container_acts lexing i))
