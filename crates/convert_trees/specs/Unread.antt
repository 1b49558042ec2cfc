-- Values that a schema states and that what it is converted to doesn't read, with its place: those that Allow and Deny list, and then its default, which has to lie within an integer's
-- bounds too, and may not come round to itself by fields that it leaves out.
use Rattle.std.specs.Prelude.{ℕ, map, List, [], ◌∷◌, ◌++◌, filter, not, ◌&&◌, Bool, true, false, Option, Some, None}
use Rattle.json_value.specs.Value.{Value}
use Rattle.schema_defs.specs.Location.{Location}
use Rattle.schema_defs.specs.Texts.{Relations}
use Rattle.schema_defs.specs.Schema.{Schema, Document}
use Rattle.entry_defs.specs.Entry.{Entry}
use Rattle.entry_defs.specs.Table.{Table}
use Rattle.model_defs.specs.Model.{RuleD}
use Rattle.default_defs.specs.Found.{is_ended}
use Rattle.default_defs.specs.Supplied.{supplied}
use Rattle.listed_reading.specs.Unread.{unread}
use Rattle.convert_defs.specs.Owners.{default_of}
use Rattle.convert_defs.specs.Row.{Row, leaf_row, as_it_is_row, option_row, ruled_row, vec_row, set_row, array_row, tuple_row, map_row, pattern_map_row, struct_row, enum_row, merged_row, refused_row}
use Rattle.convert_defs.specs.Table.{row_of}
use Rattle.convert_defs.specs.Values.{fits_row, keeps_bounds, inner_of, listed_in}
use Rattle.convert_walks.specs.Tree.{Node, document_tree, table_of}

abbrev pub At : Type 0
At = Location × Value

-- where it is known whether the row is that of integers
abbrev pub fits_by : Bool → Schema → Value → Bool
fits_by true s v = keeps_bounds s v
fits_by false s v = true

-- a default, where there is one
abbrev pub stated_default : Option Value → List Value
stated_default None = []
stated_default (Some v) = v ∷ []

module _ (r : Relations) where
  -- those that the entry doesn't take by the table; all, where no table is known yet
  abbrev pub unread_by : Option Table → Entry → List Value → List Value
  unread_by None e vs = vs
  unread_by (Some t) e vs = unread t r e vs

  -- a default is read, within an integer's bounds, and what it leaves out comes to an end; none is, where no table is known yet
  abbrev pub is_given : Option Table → Schema → Row → Entry → Value → Bool
  is_given None s w e v = false
  is_given (Some t) s w e v = is_ended (supplied t r e v) && fits_row w s v

  module _ (k : Option Table) where
    -- of one schema, by its row and its entry
    abbrev pub unread_values : Schema → Row → Entry → List Value
    unread_values s w e = unread_by k (inner_of e) (listed_in w) ++ filter (λ v. not (is_given k s w e v)) (stated_default (default_of s))

    abbrev pub unread_of : Location → Schema → Row → Entry → List At
    unread_of l s w e = map (λ v. (l, v)) (unread_values s w e)

    abbrev pub unread_in : Document → List Node → List At
    unread_in d [] = []
    unread_in d (t ∷ ts) = unread_of t.spot.path t.schema (row_of r d t.schema) t.entry ++ unread_in d ts

  -- of the document, in the order of conversion
  abbrev pub unread_in_document : Document → ℕ → ℕ → List At
  unread_in_document d most n = unread_in (Some (table_of r d most n)) d (document_tree r d most n)

-- ---- the first of them

-- the first is kept
abbrev pub first_kept : Option At → List At → Option At
first_kept (Some a) us = Some a
first_kept None [] = None
first_kept None (a ∷ us) = Some a

-- these stand before what was kept, unless something was kept before both
abbrev pub first_before : List At → Option At → Option At
first_before [] o = o
first_before (a ∷ us) o = Some a

abbrev pub first_before_if : Bool → List At → Option At → Option At
first_before_if true us o = o
first_before_if false us o = first_before us o

-- ---- the rule of a row

abbrev pub rule_in : Row → Option RuleD
rule_in (ruled_row p rule) = Some rule
rule_in (leaf_row e) = None
rule_in (as_it_is_row p) = None
rule_in (option_row p) = None
rule_in (vec_row p) = None
rule_in (set_row p) = None
rule_in (array_row p n) = None
rule_in (tuple_row ps n p) = None
rule_in (map_row k p) = None
rule_in (pattern_map_row qs p) = None
rule_in (struct_row closed fs o) = None
rule_in (enum_row tag closing ws) = None
rule_in (merged_row ps) = None
rule_in (refused_row c) = None
