-- What is read again as it was: of a type, and as the contents of a variant.
use Rattle.std.proofs.Common.{◌≡◌, ℕ, List, [], ◌∷◌, map, true}
use Rattle.json_value.specs.Value.{Value, Items, Members, null, text, list, object, item, no_items, items, member, no_members}
use Rattle.schema_defs.specs.Texts.{Relations}
use Rattle.model_defs.specs.Types.{TypeModel}
use Rattle.model_defs.specs.Model.{FieldModel, ContainerModel, ConversionsD}
use Rattle.model_defs.specs.Layer.{Content, one_type, places, named_fields}
use Rattle.model_defs.specs.Flat.{MembersRise}
use Rattle.typed_defs.specs.Typed.{Typed, typeds}
use Rattle.typed_defs.specs.Written.{written, writes, by_places, members_written, fields_of}
use Rattle.typed_defs.specs.Fit.{are_fields_fit}
use Rattle.reading_defs.specs.Reading.{Read, taken, value_reader, readers_of, type_within}
use Rattle.writing_laws.specs.Tables.{fields_lead_back}
use Rattle.writing_laws.proofs.Alike.{Alike}

abbrev pub FieldsLead : List FieldModel → Type 0
FieldsLead fs = (are_fields_fit fs ≡ true) × (fields_lead_back fs ≡ true)

abbrev pub ContentLeads : Content → Type 0
ContentLeads (one_type t) = Unit {0}
ContentLeads (places ts) = Unit {0}
ContentLeads (named_fields closed fs) = FieldsLead fs

-- q is what stated defaults are read as at first, q' when what was written is read
module _ (models : List ContainerModel) (cs : ConversionsD) (r : Relations) (q q' : ℕ → TypeModel → Read Typed) where
  abbrev pub ReadsAgain : TypeModel → Typed → Type 0
  ReadsAgain t x = (value_reader models cs r q' (written models t x)).as_type t ≡ taken x

  abbrev pub content_written : Content → List Typed → Value
  content_written (one_type t) (x ∷ []) = written models t x
  content_written (one_type t) _ = null
  content_written (places ts) xs = list (items (by_places ts (map (writes models) xs)))
  content_written (named_fields closed fs) xs = object (members_written fs (fields_of models (typeds xs)))

  pub record IsBack (v : Value) (t : TypeModel) (x : Typed) : Type 0 where
    pub again : ReadsAgain t x
    pub alike : Alike v (written models t x)

  pub record ValueBack (v : Value) : Type 0 where
    pub as_type : (t : TypeModel) (x : Typed) → (value_reader models cs r q v).as_type t ≡ taken x → IsBack v t x
    pub as_content : (c : Content) (xs : List Typed) → ContentLeads c → (value_reader models cs r q v).as_content c ≡ taken xs
        → (value_reader models cs r q' (content_written c xs)).as_content c ≡ taken xs

  abbrev pub AllBack : Items → Type 0
  AllBack no_items = Unit {0}
  AllBack (item v vs) = ValueBack v × AllBack vs

  abbrev pub MembersBack : Members → Type 0
  MembersBack no_members = Unit {0}
  MembersBack (member k v ms) = ValueBack (text k) × ValueBack v × MembersBack ms

  abbrev pub PartsBack : Value → Type 0
  PartsBack (list vs) = AllBack vs
  PartsBack (object ms) = MembersBack ms × MembersRise ms
  PartsBack _ = Unit {0}

  -- the same, with so many items that may be entered at the value, of which w is written
  abbrev pub BackAs : ℕ → Value → TypeModel → Typed → Value → Type 0
  BackAs k v t x w = (type_within models cs r q' w (readers_of models cs r q' w) k t ≡ taken x) × Alike v w
