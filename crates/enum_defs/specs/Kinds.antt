-- The kinds of JSON values that a schema leaves open by `type`, `enum`, `const`, `$ref`, allOf, anyOf and oneOf.
use Rattle.std.specs.Prelude.{ℕ, zero, suc, ◌&&◌, ◌||◌, not, List, [], ◌∷◌, Bool, true, false, Option, Some, None, if◌then◌else◌}
use Rattle.json_value.specs.Value as value
use Rattle.json_value.specs.Value.{Value, number, fraction, text, list}
use Rattle.schema_defs.specs.declared.InstanceType.{InstanceType}
use Rattle.schema_defs.specs.declared.InstanceType.TheVariants.{Null, Boolean, Object, Array, Number, Text, Integer}
use Rattle.schema_defs.specs.Schema.{Types, one_type, many_types, Schema, boolean, object, Same, no_same, same_value, MaybeSchemas, no_list, the_list, Schemas, no_more, schema, Document}
use Rattle.schema_defs.specs.Admits.{target, allowed}
use Rattle.enum_defs.specs.declared.KindSet.{KindSet}
use Rattle.enum_defs.specs.Words.{Name}

-- ---- sets of kinds

abbrev pub every_kind : KindSet
every_kind = record { null = true; boolean = true; number = true; string = true; array = true; object = true }

abbrev pub no_kind : KindSet
no_kind = record { null = false; boolean = false; number = false; string = false; array = false; object = false }

abbrev pub meet : KindSet → KindSet → KindSet
meet a b = record { null = a.null && b.null; boolean = a.boolean && b.boolean; number = a.number && b.number; string = a.string && b.string; array = a.array && b.array; object = a.object && b.object }

abbrev pub join : KindSet → KindSet → KindSet
join a b = record { null = a.null || b.null; boolean = a.boolean || b.boolean; number = a.number || b.number; string = a.string || b.string; array = a.array || b.array; object = a.object || b.object }

-- a whole number and any other are one kind
abbrev pub kind_of_type : InstanceType → KindSet
kind_of_type Null = record no_kind { null = true }
kind_of_type Boolean = record no_kind { boolean = true }
kind_of_type Object = record no_kind { object = true }
kind_of_type Array = record no_kind { array = true }
kind_of_type Number = record no_kind { number = true }
kind_of_type Integer = record no_kind { number = true }
kind_of_type Text = record no_kind { string = true }

abbrev pub kind_of_value : Value → KindSet
kind_of_value value.null = kind_of_type Null
kind_of_value (value.boolean b) = kind_of_type Boolean
kind_of_value (number z) = kind_of_type Number
kind_of_value fraction = kind_of_type Number
kind_of_value (text s) = kind_of_type Text
kind_of_value (list xs) = kind_of_type Array
kind_of_value (value.object ms) = kind_of_type Object

-- the kind of the value is in the set
abbrev pub has_kind : Value → KindSet → Bool
has_kind value.null k = k.null
has_kind (value.boolean b) k = k.boolean
has_kind (number z) k = k.number
has_kind fraction k = k.number
has_kind (text s) k = k.string
has_kind (list xs) k = k.array
has_kind (value.object ms) k = k.object

-- what one of the list leaves open
abbrev pub union : {A : Type 0} → (A → KindSet) → List A → KindSet
union f [] = no_kind
union f (x ∷ xs) = join (f x) (union f xs)

-- a keyword that does not stand leaves all open
abbrev pub or_every : {A : Type 0} → (A → KindSet) → Option A → KindSet
or_every f None = every_kind
or_every f (Some x) = f x

-- ---- keywords

abbrev pub kinds_of_types : Types → KindSet
kinds_of_types (one_type k) = kind_of_type k
kinds_of_types (many_types ks) = union kind_of_type ks

-- by `type`, `enum` and `const`, or as a boolean
abbrev pub own_kinds : Schema → KindSet
own_kinds (boolean b) = if b then every_kind else no_kind
own_kinds (object p ss ls ns) = meet (or_every kinds_of_types p.types) (meet (or_every (union kind_of_value) p.enum_values) (or_every kind_of_value p.const_value))

-- `refer` is what a reference leaves open
module _ (refer : Name → KindSet) where
  abbrev mutual
    pub kinds_at : Schema → KindSet
    kinds_at (boolean b) = if b then every_kind else no_kind
    kinds_at (object p ss ls ns) = meet (own_kinds (object p ss ls ns)) (meet (or_every refer p.reference) (kinds_of_same ss))

    pub kinds_of_same : Same → KindSet
    kinds_of_same no_same = every_kind
    kinds_of_same (same_value all any one none conditional) = meet (kinds_of_all all) (meet (kinds_of_some any) (kinds_of_some one))

    -- allOf: what all leave open
    pub kinds_of_all : MaybeSchemas → KindSet
    kinds_of_all no_list = every_kind
    kinds_of_all (the_list ss) = kinds_meet ss

    -- anyOf and oneOf: what one of them leaves open
    pub kinds_of_some : MaybeSchemas → KindSet
    kinds_of_some no_list = every_kind
    kinds_of_some (the_list ss) = kinds_union ss

    pub kinds_meet : Schemas → KindSet
    kinds_meet no_more = every_kind
    kinds_meet (schema s ss) = meet (kinds_at s) (kinds_meet ss)

    pub kinds_union : Schemas → KindSet
    kinds_union no_more = no_kind
    kinds_union (schema s ss) = join (kinds_at s) (kinds_union ss)

-- ---- references

-- what leads nowhere leaves nothing open
abbrev pub followed : (Schema → KindSet) → Option Schema → KindSet
followed f None = no_kind
followed f (Some s) = f s

-- where n references may still be followed
abbrev pub kinds_referred : Document → ℕ → Name → KindSet
kinds_referred d zero q = no_kind
kinds_referred d (suc n) q = followed (kinds_at (kinds_referred d n)) (target d q)

abbrev pub kinds_within : Document → ℕ → Schema → KindSet
kinds_within d n s = kinds_at (kinds_referred d n) s

-- as many as admission follows at one value
abbrev pub kinds : Document → Schema → KindSet
kinds d s = kinds_within d (allowed d) s

-- what a reference leaves open: where references end, what its target does
abbrev pub kinds_beyond : Document → Name → KindSet
kinds_beyond d q = followed (kinds d) (target d q)

abbrev pub null_free : Document → Schema → Bool
null_free d s = not (kinds d s).null
