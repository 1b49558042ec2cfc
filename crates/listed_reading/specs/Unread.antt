-- Values that an entry doesn't take.
use Rattle.std.specs.Prelude.{◌&&◌, not, List, [], ◌∷◌, filter, Bool, Option, None, Some}
use Rattle.json_value.specs.Value.{Value}
use Rattle.schema_defs.specs.Texts.{Relations}
use Rattle.model_defs.specs.Layer.{is_null}
use Rattle.entry_defs.specs.Entry.{Entry}
use Rattle.entry_defs.specs.Table.{Table}
use Rattle.entry_defs.specs.Takes.{takes}

abbrev pub first_of : {A : Type 0} → List A → Option A
first_of [] = None
first_of (x ∷ xs) = Some x

module _ (t : Table) (r : Relations) (e : Entry) where
  -- those that the entry doesn't take, in their order
  abbrev pub unread : List Value → List Value
  unread vs = filter (λ v. not (takes t r e v)) vs

  -- the same where nulls are left out or not
  abbrev pub is_unread : Bool → Value → Bool
  is_unread less_nulls v = not (less_nulls && is_null v) && not (takes t r e v)

  abbrev pub standing_unread : Bool → List Value → List Value
  standing_unread less_nulls vs = filter (is_unread less_nulls) vs

-- those that stand where nulls are left out or not
abbrev pub standing : Bool → List Value → List Value
standing less_nulls vs = filter (λ v. not (less_nulls && is_null v)) vs
