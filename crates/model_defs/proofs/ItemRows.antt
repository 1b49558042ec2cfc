-- Reading, item by item.
use Rattle.std.proofs.Common.{◌≡◌, ℕ, List, [], ◌∷◌, Bool, ◌&&◌, refl, sym, ap, ◌∙◌}
use Rattle.std.specs.List.{list_any}
use Rattle.json_value.specs.Value as value
use Rattle.json_value.specs.Value.{Value, Members, null, number, fraction, text, list, object, member, no_members, entries}
use Rattle.schema_defs.specs.Texts.{Relations}
use Rattle.model_defs.specs.Types.{TypeModel}
use Rattle.model_defs.specs.Model.{struct_style, newtype_style, external_tag, internal_tag, adjacent_tag, untagged, FieldModel, BodyModel, struct_model, enum_model, ContainerModel, ConversionsD}
use Rattle.model_defs.specs.Layer.{Content, one_type, places, named_fields, content_takes, struct_takes, members_take, body_takes, container_takes, variant_content, internal_takes, adjacent_takes, tagged_variant}
use Rattle.model_defs.specs.Reads.{value_reads, parts_of, leads_to_option}
use Rattle.model_defs.specs.Reach.{NoneReachesItself}
use Rattle.model_defs.specs.Rows.{read, is_struct_of}
use Rattle.model_defs.specs.ItemRows.{rule_holds, item_read, Has, ItemsAreRead, RowsOfItems}
use Rattle.model_defs.proofs.Rows.{reads-level, member_judges-map}
use Rattle.model_defs.proofs.Reach.{items_read}

module _ (models : List ContainerModel) (cs : ConversionsD) (r : Relations) where
  abbrev leads : TypeModel → Bool
  leads t = leads_to_option models t

  -- the same value, at contents of each kind
  content_row : (v : Value) (c : Content) → content_takes leads (parts_of models cs r v) (λ t. read models cs r t v) c ≡ value_reads models cs r v c
  content_row v (one_type t) = refl
  content_row v (places ts) = sym (reads-level models cs r v (places ts))
  content_row v (named_fields closed fs) = sym (reads-level models cs r v (named_fields closed fs))

  struct_row : (closed : Bool) (fs : List FieldModel) (v : Value) → struct_takes leads closed fs (parts_of models cs r v) ≡ is_struct_of models cs r closed fs v
  struct_row closed fs (object ms) = ap (members_take leads closed fs) (member_judges-map models cs r ms)
  struct_row closed fs null = refl
  struct_row closed fs (value.boolean b) = refl
  struct_row closed fs (number z) = refl
  struct_row closed fs fraction = refl
  struct_row closed fs (text s) = refl
  struct_row closed fs (list xs) = refl

  module _ (none : NoneReachesItself models) where
    says : Value → BodyModel → ContainerModel → Bool
    says v b m = body_takes leads (parts_of models cs r v) (λ t. read models cs r t v) m.closed b v && rule_holds models cs r m v

    of_body : (n : List ℕ) (m : ContainerModel) (b : BodyModel) (v : Value) → Has models cs r n m b → item_read models cs r n v ≡ says v b m
    unfolding says
    of_body n m b v h =
        items_read models none cs r n v
        ∙ ap (container_takes leads (parts_of models cs r v) (λ t. read models cs r t v) r cs v) h.0
        ∙ ap (λ z. body_takes leads (parts_of models cs r v) (λ t. read models cs r t v) m.closed z v && rule_holds models cs r m v) h.1

    rows : ItemsAreRead models cs r
    unfolding says
    rows = record {
      unknown = λ n v e. items_read models none cs r n v ∙ ap (container_takes leads (parts_of models cs r v) (λ t. read models cs r t v) r cs v) e;
      struct = λ n m fs v h. of_body n m (struct_model struct_style fs) v h ∙ ap (λ z. z && rule_holds models cs r m v) (struct_row m.closed fs v);
      newtype = λ n m f v h. of_body n m (struct_model newtype_style (f ∷ [])) v h;
      external_text = λ n m ws s h. of_body n m (enum_model external_tag ws) (text s) h;
      external_member = λ n m ws k v h. of_body n m (enum_model external_tag ws) (object (member k v no_members)) h;
      internal = λ n m tag ws ms h. of_body n m (enum_model (internal_tag tag) ws) (object ms) h
          ∙ ap (λ z. internal_takes leads m.closed tag z (tagged_variant tag ws (object ms)) && rule_holds models cs r m (object ms)) (member_judges-map models cs r ms);
      adjacent = λ n m tag content ws ms h. of_body n m (enum_model (adjacent_tag tag content) ws) (object ms) h
          ∙ ap (λ z. adjacent_takes m.closed tag content z (tagged_variant tag ws (object ms)) && rule_holds models cs r m (object ms)) (member_judges-map models cs r ms);
      bare = λ n m ws v h. of_body n m (enum_model untagged ws) v h ∙ (λ i. list_any (λ w. content_row v (variant_content m.closed w) i) ws && rule_holds models cs r m v);
    }

pub rows_of_items : RowsOfItems
rows_of_items models cs r none = rows models cs r none
