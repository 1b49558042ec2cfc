-- Which values a schema of a document admits.
use Rattle.std.specs.Prelude.{ℕ, zero, suc, List, [], ◌∷◌, length, drop, Bool, true, false, Option, Some, None, option_map, bytes_eq, nat_eq, codes, if◌then◌else◌, ◌≡◌, refl}
use Rattle.std.specs.List.{starts_with}
use Rattle.json_value.specs.Value as value
use Rattle.json_value.specs.Value.{Value, Items, Members, null, number, fraction, text, list, item, no_items, member, no_members}
use Rattle.schema_defs.specs.declared.Setting.{Setting}
use Rattle.schema_defs.specs.declared.Setting.TheVariants.{Strict, NullAbsent}
use Rattle.schema_defs.specs.Location.{Step, Location, unescaped}
use Rattle.schema_defs.specs.Texts.{Relations}
use Rattle.schema_defs.specs.Schema.{Schema, Definition, Document}
use Rattle.schema_defs.specs.Layer.{Judge, MemberPart, Parts, judge}

-- ---- the targets of references

-- the definition of a name, under whichever keyword it stands
abbrev pub defined : List ℕ → List Definition → Option Definition
defined n [] = None
defined n (d ∷ ds) = if bytes_eq n d.name then Some d else defined n ds

abbrev pub without_prefix : List ℕ → List ℕ → Option (List ℕ)
without_prefix prefix s = if starts_with nat_eq s prefix then Some (drop (length prefix) s) else None

-- the name in `#/definitions/name` or `#/$defs/name`
abbrev pub first_of : Option (List ℕ) → Option (List ℕ) → Option (List ℕ)
first_of None y = y
first_of (Some x) y = Some x

abbrev pub definition_name : List ℕ → Option (List ℕ)
definition_name q = option_map unescaped (first_of (without_prefix (codes "#/definitions/") q) (without_prefix (codes "#/$defs/") q))

abbrev pub defined_as : Document → Option (List ℕ) → Option Definition
defined_as d None = None
defined_as d (Some n) = defined n d.definitions

abbrev pub is_root_reference : List ℕ → Bool
is_root_reference q = bytes_eq q (codes "#")

-- the root or a definition
abbrev pub target : Document → List ℕ → Option Schema
target d q = if is_root_reference q then Some d.root else option_map (λ e. e.body) (defined_as d (definition_name q))

-- the keyword that a definition stands under, and where it stands
abbrev pub definition_word : Bool → Step
definition_word under_defs = if under_defs then codes "$defs" else codes "definitions"

abbrev pub definition_location : Definition → Location
definition_location e = definition_word e.under_defs ∷ e.name ∷ []

abbrev pub target_location : Document → List ℕ → Option Location
target_location d q = if is_root_reference q then Some [] else option_map definition_location (defined_as d (definition_name q))

-- ---- admission

-- how many references may be followed at one value: in a document where they end, no walk is longer
abbrev pub allowed : Document → ℕ
allowed d = suc (length d.definitions)

abbrev pub follow : Judge → Option Schema → Bool
follow j None = false
follow j (Some s) = j s

-- whether a member that has the value may stand for one that is absent: where the setting says so, null
abbrev pub counts_as_absent : Setting → Value → Bool
counts_as_absent Strict v = false
counts_as_absent NullAbsent null = true
counts_as_absent NullAbsent _ = false

module _ (r : Relations) (d : Document) where
  -- a reference, where n are still allowed at this value
  abbrev pub follows : Value → Parts → ℕ → List ℕ → Bool
  follows v parts zero q = false
  follows v parts (suc n) q = follow (judge r v parts (follows v parts n)) (target d q)

  abbrev pub judge_within : Value → Parts → ℕ → Judge
  judge_within v parts n = judge r v parts (follows v parts n)

  abbrev pub no_name : List ℕ → Judge
  no_name n s = false

  abbrev pub no_parts : Parts
  no_parts = record { items = []; members = []; name = no_name }

  abbrev pub name_admits : List ℕ → Judge
  name_admits n = judge_within (text n) no_parts (allowed d)

  abbrev mutual
    pub admits : Value → Judge
    admits null = judge_within null no_parts (allowed d)
    admits (value.boolean b) = judge_within (value.boolean b) no_parts (allowed d)
    admits (number z) = judge_within (number z) no_parts (allowed d)
    admits fraction = judge_within fraction no_parts (allowed d)
    admits (text s) = judge_within (text s) no_parts (allowed d)
    admits (list xs) = judge_within (list xs) (record { items = item_judges xs; members = []; name = no_name }) (allowed d)
    admits (value.object ms) = judge_within (value.object ms) (record { items = []; members = member_parts ms; name = name_admits }) (allowed d)

    pub item_judges : Items → List Judge
    item_judges no_items = []
    item_judges (item v vs) = admits v ∷ item_judges vs

    pub member_parts : Members → List MemberPart
    member_parts no_members = []
    member_parts (member k v ms) = record { name = k; as_absent = counts_as_absent d.setting v; says = admits v } ∷ member_parts ms

  abbrev pub parts_of : Value → Parts
  parts_of (list xs) = record { items = item_judges xs; members = []; name = no_name }
  parts_of (value.object ms) = record { items = []; members = member_parts ms; name = name_admits }
  parts_of _ = no_parts

  -- with n references still allowed at this value
  abbrev pub admits_with : ℕ → Value → Judge
  admits_with n v = judge_within v (parts_of v) n

  pub admits-level : (v : Value) → admits v ≡ admits_with (allowed d) v
  admits-level null = refl
  admits-level (value.boolean b) = refl
  admits-level (number z) = refl
  admits-level fraction = refl
  admits-level (text t) = refl
  admits-level (list xs) = refl
  admits-level (value.object ms) = refl
