-- What is read and is no typed value of the type, by tables whose writings aren't read back.
use Rattle.std.specs.Prelude.{◌≡◌, List, [], ◌∷◌, Bool, true, false, codes}
use Rattle.json_value.specs.Value.{Value, null}
use Rattle.model_defs.specs.Types.{TypeModel, text_type, option_type, set_type, map_type}
use Rattle.model_defs.specs.Model.{unit_style, external_tag, enum_model, ContainerModel, ConversionsD}
use Rattle.model_defs.specs.Examples.{whole, two, a, b, c, byte, free, texts, field, item, ruled, alias, called, struct, variant, t, u, no_members, list_of}
use Rattle.typed_defs.specs.Typed as typed
use Rattle.typed_defs.specs.Typed.{Typed, none, newtype}
use Rattle.typed_defs.specs.IsTyped.{is_of_type}
use Rattle.typed_defs.specs.Examples.{number, list, of_fields, the_variant}
use Rattle.reading_defs.specs.Reading.{taken, reading}
use Rattle.writing_laws.specs.Examples.{two_names, denies, the_pairs}

-- the value is taken as x, which is one of the type or isn't
abbrev pub Reads : List ContainerModel → ConversionsD → TypeModel → Value → Typed → Bool → Type 0
Reads ms cs s v x z = (reading ms cs texts s v ≡ taken x) × (is_of_type ms cs texts s x ≡ z)

pub record TypedReadings : Type 0 where
  pub a_set : Reads [] free (set_type byte) (list_of (whole 1 ∷ whole 1 ∷ [])) (list (number 1 ∷ [])) true
  pub a_map : Reads [] free (map_type text_type byte) (two a (whole 1) b (whole 2)) (the_pairs (typed.text a) 1 (typed.text b) 2) true
  pub a_struct : Reads (item (struct (field a (option_type byte) ∷ [])) ∷ []) free t no_members (of_fields (none ∷ [])) true
  -- names of a map that are written in another order
  pub other_names : Reads (item (enum_model external_tag (two_names a c ∷ variant b unit_style [] ∷ [])) ∷ []) free (map_type t byte) (two a (whole 1) b (whole 2)) (the_pairs (the_variant 0 []) 1 (the_variant 1 []) 2) false
  -- a missing option that passes a rule by
  pub a_rule_passed_by : Reads (item (struct (field a u ∷ [])) ∷ called (codes "U") (record (alias (option_type byte)) { try_from = true }) ∷ []) (denies (codes "U") (null ∷ [])) t no_members (of_fields (newtype none ∷ [])) false
  -- a list that a rule denies, once its repeats are gone
  pub a_list_denied : Reads (ruled (set_type byte) ∷ []) (denies (codes "T") (list_of (whole 1 ∷ []) ∷ [])) t (list_of (whole 1 ∷ whole 1 ∷ [])) (newtype (list (number 1 ∷ []))) false
