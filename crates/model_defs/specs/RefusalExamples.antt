-- Where reading stops, on small tables.
use Rattle.std.specs.Prelude.{◌≡◌, ℕ, List, [], ◌∷◌, codes}
use Rattle.json_value.specs.Value.{Value, null, text}
use Rattle.schema_defs.specs.Location.{Location}
use Rattle.model_defs.specs.Types.{TypeModel, text_type, option_type, vec_type, map_type, native_type, tuple_type, array_type, types}
use Rattle.model_defs.specs.Model.{newtype_style, struct_model, ContainerModel, RuleD, allow_rule}
use Rattle.schema_defs.specs.declared.Format.TheVariants.{Uuid}
use Rattle.model_defs.specs.Refusals.{refused_at}
use Rattle.model_defs.specs.Examples.{texts, whole, one, two, three, a, b, c, byte, field, also_named, rest, item, closed, struct, ruled, under, t, free, tag, content, external, internal, adjacent, bare, no_members, list_of}

abbrev pub Stops : TypeModel → Value → Location → Type 0
Stops s v l = refused_at [] free texts s v ≡ l

abbrev pub ItemStops : ContainerModel → Value → Location → Type 0
ItemStops m v l = refused_at (m ∷ []) free texts t v ≡ l

abbrev pub RuleStops : RuleD → TypeModel → Value → Location → Type 0
RuleStops r s v l = refused_at (ruled s ∷ []) (under r) texts t v ≡ l

abbrev pub zeroth : List ℕ
zeroth = codes "0"

abbrev pub first : List ℕ
first = codes "1"

-- where reading stops
pub record PlacesOfRefusal : Type 0 where
  pub a_scalar : Stops byte (text a) []
  pub an_item_of_a_list : Stops (vec_type byte) (list_of (whole 1 ∷ text a ∷ null ∷ [])) (first ∷ [])
  pub within_an_item : Stops (vec_type (vec_type byte)) (list_of (list_of [] ∷ list_of (null ∷ []) ∷ [])) (first ∷ zeroth ∷ [])
  pub under_an_option : Stops (vec_type (option_type byte)) (list_of (null ∷ text a ∷ [])) (first ∷ [])
  pub no_list : Stops (vec_type byte) null []
  pub a_value_of_a_map : Stops (map_type text_type byte) (two a (whole 1) b null) (b ∷ [])
  pub a_name_of_a_map : Stops (map_type (native_type Uuid) byte) (one a null) (a ∷ [])
  pub a_tuple_too_short : Stops (tuple_type (types (byte ∷ byte ∷ []))) (list_of (null ∷ [])) []
  pub a_place_of_a_tuple : Stops (tuple_type (types (byte ∷ byte ∷ []))) (list_of (whole 1 ∷ null ∷ [])) (first ∷ [])
  pub a_place_of_an_array : Stops (array_type byte 2) (list_of (null ∷ null ∷ [])) (zeroth ∷ [])
  pub a_missing_field : ItemStops (item (struct (field a byte ∷ field b byte ∷ []))) (one b null) []
  pub a_field : ItemStops (item (struct (field a byte ∷ field b byte ∷ []))) (two a (whole 1) b null) (b ∷ [])
  pub within_a_field : ItemStops (item (struct (field a (vec_type byte) ∷ []))) (one a (list_of (null ∷ []))) (a ∷ zeroth ∷ [])
  pub fields_in_order : ItemStops (item (struct (field b byte ∷ field a byte ∷ []))) (two a null b null) (b ∷ [])
  pub closed_first : ItemStops (closed (struct (field a byte ∷ []))) (three a null b null c null) (b ∷ [])
  pub the_second_of_two : ItemStops (item (struct (also_named b (field a byte) ∷ []))) (two a (whole 1) b (whole 1)) (b ∷ [])
  pub a_rest : ItemStops (item (struct (field a byte ∷ rest byte ∷ []))) (three a (whole 1) b (whole 1) c null) (c ∷ [])
  pub a_newtype : ItemStops (item (struct_model newtype_style (field a (vec_type byte) ∷ []))) (list_of (null ∷ [])) (zeroth ∷ [])
  pub a_rule : RuleStops (allow_rule []) byte (whole 1) []
  pub before_a_rule : RuleStops (allow_rule []) (vec_type byte) (list_of (null ∷ [])) (zeroth ∷ [])
  pub external_text : ItemStops (item external) (text tag) []
  pub external_contents : ItemStops (item external) (one b null) (b ∷ [])
  pub external_unknown : ItemStops (item external) (one tag null) []
  pub external_field : ItemStops (item external) (one c (one a null)) (c ∷ a ∷ [])
  pub internal_without_tag : ItemStops (item internal) no_members []
  pub internal_unknown : ItemStops (item internal) (one tag (text tag)) (tag ∷ [])
  pub internal_no_text : ItemStops (item internal) (one tag null) (tag ∷ [])
  pub internal_field : ItemStops (item internal) (two c null tag (text b)) (c ∷ [])
  pub internal_closed : ItemStops (closed internal) (two c null tag (text a)) (c ∷ [])
  pub adjacent_other : ItemStops (closed adjacent) (two a null tag (text a)) (a ∷ [])
  pub adjacent_unit : ItemStops (item adjacent) (two content null tag (text a)) (content ∷ [])
  pub adjacent_missing : ItemStops (item adjacent) (one tag (text b)) []
  pub adjacent_contents : ItemStops (item adjacent) (two content (one c null) tag (text c)) (content ∷ c ∷ [])
  pub untagged_member : ItemStops (item bare) (one a null) []
