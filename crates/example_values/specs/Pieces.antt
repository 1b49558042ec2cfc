-- The value of a variant, once that of its contents is made.
use Rattle.std.specs.Prelude.{ℕ, List, Option, None, Some}
use Rattle.json_value.specs.Value.{Value, Members, null, text, object, member, no_members}
use Rattle.model_defs.specs.Model.{TagModel, external_tag, internal_tag, adjacent_tag, untagged}
use Rattle.model_defs.specs.Settled.{put}
use Rattle.example_defs.specs.Example.{members_of}

-- the members of contents; none where there are none
abbrev pub members_in : Option Value → Members
members_in None = no_members
members_in (Some v) = members_of v

abbrev pub one_member : List ℕ → Option Value → Members
one_member k None = no_members
one_member k (Some v) = member k v no_members

abbrev pub named_value : List ℕ → Option Value → Value
named_value n None = text n
named_value n (Some v) = object (member n v no_members)

abbrev pub or_null : Option Value → Value
or_null None = null
or_null (Some v) = v

-- a variant of that name, with the value of its contents, where it is no unit
abbrev pub wrapped : TagModel → List ℕ → Option Value → Value
wrapped external_tag n o = named_value n o
wrapped (internal_tag t) n o = object (put t (text n) (members_in o))
wrapped (adjacent_tag t k) n o = object (put t (text n) (one_member k o))
wrapped untagged n o = or_null o
