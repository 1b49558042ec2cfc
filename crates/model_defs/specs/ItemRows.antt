-- Reading, item by item, where no item reaches itself at one value: what a container says of a value, in terms of what types say of it and of its parts.
use Rattle.std.specs.Prelude.{◌≡◌, ℕ, ◌&&◌, ◌||◌, not, List, [], ◌∷◌, map, Bool, false, Option, Some, None}
use Rattle.std.specs.List.{list_any}
use Rattle.json_value.specs.Value.{Value, Members, text, object, member, no_members, entries}
use Rattle.schema_defs.specs.Texts.{Relations}
use Rattle.model_defs.specs.Types.{item_type}
use Rattle.model_defs.specs.Model.{struct_style, newtype_style, external_tag, internal_tag, adjacent_tag, untagged, FieldModel, VariantModel, BodyModel, struct_model, enum_model, ContainerModel, ConversionsD, container_named, variant_named, rule_of}
use Rattle.model_defs.specs.Layer.{given_rule_agrees, is_unit, is_unit_named, variant_content, tagged_variant, internal_takes, adjacent_takes}
use Rattle.model_defs.specs.Reads.{value_reads, leads_to_option}
use Rattle.model_defs.specs.Reach.{NoneReachesItself}
use Rattle.model_defs.specs.Rows.{read, part_of, is_struct_of}

module _ (models : List ContainerModel) (conversions : ConversionsD) (relations : Relations) where
  -- the rule, where the item has one
  abbrev pub rule_holds : ContainerModel → Value → Bool
  rule_holds m v = not m.try_from || given_rule_agrees relations v (rule_of m.name conversions.constraints)

  abbrev pub item_read : List ℕ → Value → Bool
  item_read n v = read models conversions relations (item_type n) v

  -- the contents of the one member, of a variant that has some
  abbrev pub contents_read : Bool → Value → Option VariantModel → Bool
  contents_read closed v None = false
  contents_read closed v (Some w) = not (is_unit w) && value_reads models conversions relations v (variant_content closed w)

  -- n is the name of the item m, whose body is given
  abbrev pub Has : List ℕ → ContainerModel → BodyModel → Type 0
  Has n m body = (container_named n models ≡ Some m) × (m.body ≡ body)

  pub record ItemsAreRead : Type 0 where
    pub unknown : (n : List ℕ) (v : Value) → container_named n models ≡ None → item_read n v ≡ false
    pub struct : (n : List ℕ) (m : ContainerModel) (fs : List FieldModel) (v : Value) → Has n m (struct_model struct_style fs)
        → item_read n v ≡ (is_struct_of models conversions relations m.closed fs v && rule_holds m v)
    pub newtype : (n : List ℕ) (m : ContainerModel) (f : FieldModel) (v : Value) → Has n m (struct_model newtype_style (f ∷ []))
        → item_read n v ≡ (read models conversions relations f.field_type v && rule_holds m v)
    pub external_text : (n : List ℕ) (m : ContainerModel) (ws : List VariantModel) (s : List ℕ) → Has n m (enum_model external_tag ws)
        → item_read n (text s) ≡ (is_unit_named (variant_named s ws) && rule_holds m (text s))
    pub external_member : (n : List ℕ) (m : ContainerModel) (ws : List VariantModel) (k : List ℕ) (v : Value) → Has n m (enum_model external_tag ws)
        → item_read n (object (member k v no_members)) ≡ (contents_read m.closed v (variant_named k ws) && rule_holds m (object (member k v no_members)))
    pub internal : (n : List ℕ) (m : ContainerModel) (tag : List ℕ) (ws : List VariantModel) (ms : Members) → Has n m (enum_model (internal_tag tag) ws)
        → item_read n (object ms)
        ≡ (internal_takes (leads_to_option models) m.closed tag (map (part_of models conversions relations) (entries ms)) (tagged_variant tag ws (object ms)) && rule_holds m (object ms))
    pub adjacent : (n : List ℕ) (m : ContainerModel) (tag content : List ℕ) (ws : List VariantModel) (ms : Members) → Has n m (enum_model (adjacent_tag tag content) ws)
        → item_read n (object ms)
        ≡ (adjacent_takes m.closed tag content (map (part_of models conversions relations) (entries ms)) (tagged_variant tag ws (object ms)) && rule_holds m (object ms))
    pub bare : (n : List ℕ) (m : ContainerModel) (ws : List VariantModel) (v : Value) → Has n m (enum_model untagged ws)
        → item_read n v ≡ (list_any (λ w. value_reads models conversions relations v (variant_content m.closed w)) ws && rule_holds m v)

abbrev pub RowsOfItems : Type 0
RowsOfItems =
    (models : List ContainerModel) (conversions : ConversionsD) (relations : Relations) → NoneReachesItself models → ItemsAreRead models conversions relations
