-- The way to a pair that is reached: what is told of each step, as a place in the values that the old table writes.
use Rattle.std.specs.Prelude.{◌≡◌, ℕ, zero, suc, not, List, [], ◌∷◌, ◌++◌, map, filter, length, slice_get, Option, Some, None}
use Rattle.model_defs.specs.Model.{FieldModel, VariantModel}
use Rattle.model_defs.specs.Layer.{is_unit}
use Rattle.evolve_defs.specs.Forms.{Table, Node, Form, option_form, list_form, tuple_form, array_form, map_form, struct_form, ruled_form, external_form, internal_form, adjacent_form, untagged_form, form_of}
use Rattle.evolve_defs.specs.Steps.{Pair, reaches, step, plain_fields, rests, own_fields, other_fields, lost_fields}
use Rattle.evolve_defs.specs.Covers.{Reached}

-- names are those that are written
pub data Mark : Type 0 where
  field_mark : List ℕ → Mark
  variant_mark : List ℕ → Mark
  -- every item of a list, a set or an array
  item_mark : Mark
  -- a place of a tuple or an array
  place_mark : ℕ → Mark
  -- the names of a map, its values, and what a rest holds
  name_mark : Mark
  value_mark : Mark
  rest_mark : Mark

-- what is told of a step; of one that stays at the same place in the values nothing is
abbrev pub Told : Type 0
Told = Option Mark

-- ---- what is told of the pairs that a row reaches, in the order in which it reaches them

abbrev pub field_marks : List FieldModel → List Told
field_marks fs = map (λ f. Some (field_mark f.serialize_name)) fs

abbrev pub rest_marks : List FieldModel → List Told
rest_marks fs = map (λ f. Some rest_mark) fs

abbrev pub variant_marks : List VariantModel → List Told
variant_marks ws = map (λ w. Some (variant_mark w.serialize_name)) ws

-- units lead no further
abbrev pub with_contents : List VariantModel → List VariantModel
with_contents ws = filter (λ w. not (is_unit w)) ws

-- so many places
abbrev pub place_marks : ℕ → List Told
place_marks zero = []
place_marks (suc n) = place_marks n ++ Some (place_mark n) ∷ []

-- the old fields that each new one finds
abbrev pub found_marks : List FieldModel → List FieldModel → List Told
found_marks [] fs = []
found_marks (g ∷ gs) fs = field_marks (own_fields g fs) ++ found_marks gs (other_fields g fs)

-- once for each new rest
abbrev pub each_rest : List Told → List FieldModel → List Told
each_rest ms [] = []
each_rest ms (g ∷ gs) = ms ++ each_rest ms gs

abbrev pub members_marks : List FieldModel → List FieldModel → List FieldModel → List FieldModel → List Told
members_marks fs rs gs qs = found_marks gs fs ++ (each_rest (field_marks (lost_fields gs fs)) qs ++ each_rest (rest_marks rs) qs)

abbrev pub fields_marks : List FieldModel → List FieldModel → List Told
fields_marks fs gs = members_marks (plain_fields fs) (rests fs) (plain_fields gs) (rests gs)

abbrev pub array_marks : Form → List Told
array_marks (tuple_form ts) = place_marks (length ts)
array_marks y = Some item_mark ∷ []

abbrev pub struct_marks : List FieldModel → Form → List Told
struct_marks fs (struct_form d gs) = fields_marks fs gs
struct_marks fs y = []

-- the rows that look at both
abbrev pub plain_marks : Form → Form → List Told
plain_marks (list_form e s) y = Some item_mark ∷ []
plain_marks (tuple_form ss) y = place_marks (length ss)
plain_marks (array_form s n) y = array_marks y
plain_marks (map_form k s) y = Some name_mark ∷ Some value_mark ∷ []
plain_marks (struct_form closed fs) y = struct_marks fs y
plain_marks (external_form closed ws) y = variant_marks (with_contents ws)
plain_marks (internal_form closed tag ws) y = variant_marks ws
plain_marks (adjacent_form closed tag content ws) y = variant_marks (with_contents ws)
plain_marks _ y = []

-- through an option, a rule or a new untagged enum
abbrev pub untold : List Told
untold = None ∷ []

abbrev pub from_ruled : Form → Form → List Told
from_ruled (ruled_form r s) y = untold
from_ruled x y = plain_marks x y

abbrev pub by_new : Form → Form → List Told
by_new x (option_form t) = untold
by_new x (untagged_form closed us) = untold
by_new x (ruled_form q t) = untold
by_new x y = from_ruled x y

abbrev pub marks : Form → Form → List Told
marks (untagged_form closed ws) y = variant_marks ws
marks x y = by_new x y

-- ---- ways

module _ (old new : Table) where
  abbrev pub marks_at : Node → Node → List Told
  marks_at a b = marks (form_of old a) (form_of new b)

  -- from a pair to one of those that it reaches, with what is told of that one
  pub record IsStep (a b : Node) (m : Told) (c d : Node) : Type 0 where
    pub number : ℕ
    pub pairs : List Pair
    pub reached : step old new a b ≡ reaches pairs
    pub pair : slice_get pairs number ≡ Some (c, d)
    pub mark : slice_get (marks_at a b) number ≡ Some m

  -- to the pair c and d, from one that comes before it, by the marks of the steps between them that are told
  pub data Leads (c d : Node) : Node → Node → List Mark → Type 0 where
    there : Leads c d c d []
    inside : (a b x y : Node) (ms : List Mark) → IsStep a b None x y → Leads c d x y ms → Leads c d a b ms
    onward : (a b x y : Node) (m : Mark) (ms : List Mark) → IsStep a b (Some m) x y → Leads c d x y ms → Leads c d a b (m ∷ ms)

-- what a way leads to is reached
abbrev pub WhatIsLedToIsReached : Type 0
WhatIsLedToIsReached = (old new : Table) (a b c d : Node) (ms : List Mark) → Leads old new c d a b ms → Reached old new a b c d

-- and what is reached has a way
abbrev pub WhatIsReachedIsLedTo : Type 0
WhatIsReachedIsLedTo = (old new : Table) (a b c d : Node) → Reached old new a b c d → (ms : List Mark) × Leads old new c d a b ms
