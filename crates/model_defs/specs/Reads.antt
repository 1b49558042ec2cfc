-- Which values a type reads, given the items' models, the conversions and what judges texts.
use Rattle.std.specs.Prelude.{ℕ, zero, suc, List, [], ◌∷◌, length, ◌&&◌, Bool, true, false, Option, Some, None}
use Rattle.json_value.specs.Value as value
use Rattle.json_value.specs.Value.{Value, Items, Members, null, number, fraction, text, list, object, item, no_items, member, no_members}
use Rattle.schema_defs.specs.Texts.{Relations}
use Rattle.model_defs.specs.Types.{TypeModel, option_type, boxed_type, item_type}
use Rattle.model_defs.specs.Model.{newtype_style, BodyModel, struct_model, ContainerModel, ConversionsD, container_named}
use Rattle.model_defs.specs.Layer.{one_type, Judge, MemberPart, Parts, no_parts, list_parts, object_parts, type_takes, content_takes, container_takes}

-- how many items may be entered at one value: where no item reaches itself at one value, no walk enters more
abbrev pub allowed : List ContainerModel → ℕ
allowed ms = suc (length ms)

-- ---- a type leads to an option where it is one, or through boxes and transparent newtypes is one

module _ (item_leads : List ℕ → Bool) where
  abbrev pub type_leads : TypeModel → Bool
  type_leads (option_type t) = true
  type_leads (boxed_type t) = type_leads t
  type_leads (item_type n) = item_leads n
  type_leads _ = false

  abbrev pub body_leads : BodyModel → Bool
  body_leads (struct_model newtype_style (f ∷ [])) = type_leads f.field_type
  body_leads _ = false

  abbrev pub container_leads : Option ContainerModel → Bool
  container_leads None = false
  container_leads (Some m) = m.transparent && body_leads m.body

-- with so many items that may be entered
abbrev pub leads_within : List ContainerModel → ℕ → List ℕ → Bool
leads_within ms zero n = false
leads_within ms (suc k) n = container_leads (leads_within ms k) (container_named n ms)

abbrev pub leads_to_option : List ContainerModel → TypeModel → Bool
leads_to_option ms t = type_leads (leads_within ms (allowed ms)) t

-- ---- reading

module _ (models : List ContainerModel) (conversions : ConversionsD) (relations : Relations) where
  -- an item at this value, where so many may still be entered
  abbrev pub item_reads : Value → Parts Judge → ℕ → List ℕ → Bool
  item_reads v parts zero n = false
  item_reads v parts (suc k) n =
      container_takes (leads_to_option models) parts (type_takes relations v parts (item_reads v parts k)) relations conversions v (container_named n models)

  abbrev pub reads_within : Value → Parts Judge → ℕ → Judge
  reads_within v parts k c = content_takes (leads_to_option models) parts (type_takes relations v parts (item_reads v parts k)) c

  -- a name is read as a text
  abbrev pub name_reads : List ℕ → Judge
  name_reads n = reads_within (text n) no_parts (allowed models)

  abbrev mutual
    pub value_reads : Value → Judge
    value_reads null = reads_within null no_parts (allowed models)
    value_reads (value.boolean b) = reads_within (value.boolean b) no_parts (allowed models)
    value_reads (number z) = reads_within (number z) no_parts (allowed models)
    value_reads fraction = reads_within fraction no_parts (allowed models)
    value_reads (text s) = reads_within (text s) no_parts (allowed models)
    value_reads (list xs) = reads_within (list xs) (list_parts (item_judges xs)) (allowed models)
    value_reads (object ms) = reads_within (object ms) (object_parts (member_judges ms)) (allowed models)

    pub item_judges : Items → List Judge
    item_judges no_items = []
    item_judges (item v vs) = value_reads v ∷ item_judges vs

    pub member_judges : Members → List (MemberPart Judge)
    member_judges no_members = []
    member_judges (member k v ms) = record { name = k; key = name_reads k; value = value_reads v } ∷ member_judges ms

  abbrev pub parts_of : Value → Parts Judge
  parts_of (list xs) = list_parts (item_judges xs)
  parts_of (object ms) = object_parts (member_judges ms)
  parts_of _ = no_parts

  -- whether the value is read as contents, where so many items may still be entered at it
  abbrev pub still_reads : Value → ℕ → Judge
  still_reads v k = reads_within v (parts_of v) k

  -- whether the value is read as the type
  abbrev pub reads : TypeModel → Value → Bool
  reads t v = value_reads v (one_type t)
