-- Tables whose writings are read again: what is written under a name is read under that name, and nothing else is.
use Rattle.std.specs.Prelude.{◌≡◌, ℕ, ◌&&◌, ◌||◌, not, List, [], ◌∷◌, Bool, true, false, bytes_eq}
use Rattle.std.specs.List.{list_any, list_all}
use Rattle.json_value.specs.Value.{Value, Items, Members, list, object, item, no_items, member, no_members, IsBelowFirst}
use Rattle.model_defs.specs.Model.{DefaultModel, stated_default, HelperModel, some_helper, FieldModel, VariantModel, TagModel, external_tag, internal_tag, adjacent_tag, untagged, BodyModel, struct_model, enum_model, ContainerModel, RuleD, text_rule, allow_rule, deny_rule, ConversionsD}
use Rattle.model_defs.specs.Layer.{is_unit}
use Rattle.typed_defs.specs.Fit.{are_models_fit}
use Rattle.reading_defs.specs.Proper.{has_json_numbers}
use Rattle.writing_laws.specs.Kinds.{untagged_are_apart}

-- ---- values whose names rise at each level

abbrev mutual
  pub IsOrdered : Value → Type 0
  IsOrdered (list xs) = ItemsOrdered xs
  IsOrdered (object ms) = MembersOrdered ms
  IsOrdered _ = Unit {0}

  pub ItemsOrdered : Items → Type 0
  ItemsOrdered no_items = Unit {0}
  ItemsOrdered (item v vs) = IsOrdered v × ItemsOrdered vs

  pub MembersOrdered : Members → Type 0
  MembersOrdered no_members = Unit {0}
  MembersOrdered (member k v ms) = IsBelowFirst k ms × IsOrdered v × MembersOrdered ms

abbrev pub AllOrdered : List Value → Type 0
AllOrdered [] = Unit {0}
AllOrdered (v ∷ vs) = IsOrdered v × AllOrdered vs

-- ---- fields

abbrev pub reads_name : FieldModel → List ℕ → Bool
reads_name f n = list_any (λ m. bytes_eq m n) f.deserialize_names

-- the names that the others are written under are not this field's
abbrev pub takes_none_of : FieldModel → List FieldModel → Bool
takes_none_of f gs = list_all (λ g. g.is_rest || not (reads_name f g.serialize_name)) gs

-- the name that a field is written under is its own, and no earlier field's
abbrev pub names_lead_back : List FieldModel → Bool
names_lead_back [] = true
names_lead_back (f ∷ fs) = (f.is_rest || (reads_name f f.serialize_name && takes_none_of f fs)) && names_lead_back fs

abbrev pub has_no_rest : List FieldModel → Bool
has_no_rest fs = list_all (λ f. not f.is_rest) fs

abbrev pub has_one_rest : List FieldModel → Bool
has_one_rest [] = true
has_one_rest (f ∷ fs) = (not f.is_rest || has_no_rest fs) && has_one_rest fs

-- beside `some` no default is stated: it might be null, which is no absence
abbrev pub is_apart_from : HelperModel → DefaultModel → Bool
is_apart_from some_helper (stated_default n) = false
is_apart_from _ _ = true

abbrev pub fields_lead_back : List FieldModel → Bool
fields_lead_back fs = names_lead_back fs && (has_one_rest fs && list_all (λ f. is_apart_from f.helper f.default) fs)

-- ---- variants

abbrev pub reads_variant_name : VariantModel → List ℕ → Bool
reads_variant_name w n = list_any (bytes_eq n) w.deserialize_names

abbrev pub variant_names_lead_back : List VariantModel → Bool
variant_names_lead_back [] = true
variant_names_lead_back (w ∷ ws) =
    (reads_variant_name w w.serialize_name && list_all (λ u. not (reads_variant_name w u.serialize_name)) ws) && variant_names_lead_back ws

-- a text that is read as a unit variant is written as it was
abbrev pub has_one_name : VariantModel → Bool
has_one_name w = list_all (λ n. bytes_eq n w.serialize_name) w.deserialize_names

-- no field is written under the name of the tag
abbrev pub is_beside : List ℕ → VariantModel → Bool
is_beside tag w = list_all (λ f. f.is_rest || not (bytes_eq tag f.serialize_name)) w.fields

abbrev pub tag_leads_back : TagModel → List VariantModel → Bool
tag_leads_back external_tag ws = variant_names_lead_back ws && list_all (λ w. not (is_unit w) || has_one_name w) ws
tag_leads_back (internal_tag tag) ws = variant_names_lead_back ws && list_all (is_beside tag) ws
tag_leads_back (adjacent_tag tag content) ws = variant_names_lead_back ws && not (bytes_eq tag content)
tag_leads_back untagged ws = true

-- ---- containers

abbrev pub body_leads_back : BodyModel → Bool
body_leads_back (struct_model s fs) = fields_lead_back fs
body_leads_back (enum_model tag ws) = tag_leads_back tag ws && list_all (λ w. fields_lead_back w.fields) ws

-- a rule stands at no transparent newtype: a missing option would pass it by
abbrev pub container_leads_back : ContainerModel → Bool
container_leads_back m = body_leads_back m.body && not (m.transparent && m.try_from)

-- ---- rules

abbrev pub is_scalar : Value → Bool
is_scalar (list xs) = false
is_scalar (object ms) = false
is_scalar _ = true

-- lists hold scalars alone
abbrev pub lists_scalars : RuleD → Bool
lists_scalars (text_rule t) = true
lists_scalars (allow_rule vs) = list_all is_scalar vs
lists_scalars (deny_rule vs) = list_all is_scalar vs

-- ---- tables

pub record IsReadBack (models : List ContainerModel) (conversions : ConversionsD) : Type 0 where
  pub fit : are_models_fit models ≡ true
  pub names : list_all container_leads_back models ≡ true
  pub kinds : untagged_are_apart models ≡ true
  pub rules : list_all (λ c. lists_scalars c.rule) conversions.constraints ≡ true
  pub numbers : list_all has_json_numbers conversions.defaults ≡ true
  pub ordered : AllOrdered conversions.defaults
