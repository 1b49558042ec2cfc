-- A default that comes to an end does so by the option of its entry.
use Rattle.std.proofs.Common.{◌≡◌, ◌+◌, Bool, true, false, refl}
use Rattle.json_value.specs.Value as value
use Rattle.json_value.specs.Value.{Value, null, number, fraction, text, list, object}
use Rattle.schema_defs.specs.Texts.{Relations}
use Rattle.model_defs.specs.Layer.{is_null}
use Rattle.entry_defs.specs.Entry.{Entry, option_entry}
use Rattle.entry_defs.specs.Table.{Table}
use Rattle.default_defs.specs.Found.{Found, ended, told, or_next}
use Rattle.default_defs.specs.Supplied.{stated_in, stated_in_targets, value_read, read_inside, supplied}

or_ended : (b : Bool) (x : Found) → x ≡ ended → or_next (told b) x ≡ ended
or_ended true x h = refl
or_ended false x h = h

module _ (t : Table) (r : Relations) where
  read_as_option : (missed : Entry → Value → Found) (v : Value) (e : Entry) → value_read t r missed v e ≡ ended → value_read t r missed v (option_entry e) ≡ ended
  read_as_option missed null e h = or_ended (is_null null) (value_read t r missed null e) h
  read_as_option missed (value.boolean b) e h = or_ended (is_null (value.boolean b)) (value_read t r missed (value.boolean b) e) h
  read_as_option missed (number z) e h = or_ended (is_null (number z)) (value_read t r missed (number z) e) h
  read_as_option missed fraction e h = or_ended (is_null fraction) (value_read t r missed fraction e) h
  read_as_option missed (text s) e h = or_ended (is_null (text s)) (value_read t r missed (text s) e) h
  read_as_option missed (list xs) e h = or_ended (is_null (list xs)) (value_read t r missed (list xs) e) h
  read_as_option missed (object ms) e h = or_ended (is_null (object ms)) (value_read t r missed (object ms) e) h

  pub supplied_as_option : (e : Entry) (v : Value) → supplied t r e v ≡ ended → supplied t r (option_entry e) v ≡ ended
  supplied_as_option e v h = read_as_option (read_inside t r (stated_in_targets t.targets + stated_in e)) v e h
