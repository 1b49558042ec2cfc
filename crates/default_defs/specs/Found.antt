-- What reading a value comes to, where fields that it leaves out state defaults.
use Rattle.std.specs.Prelude.{Bool, true, false}

-- it is refused; it is taken, and what it leaves out comes to an end; or a default that is read for what it leaves out, in the order of reading, never comes to one
pub data Found : Type 0 where
  refused : Found
  ended : Found
  endless : Found

abbrev pub is_ended : Found → Bool
is_ended refused = false
is_ended ended = true
is_ended endless = false

abbrev pub is_refused : Found → Bool
is_refused refused = true
is_refused ended = false
is_refused endless = false

-- refused where it doesn't hold
abbrev pub if_so : Bool → Found → Found
if_so true x = x
if_so false x = refused

abbrev pub told : Bool → Found
told b = if_so b ended

-- one is read after the other: what comes after what never ends isn't come to
abbrev pub both : Found → Found → Found
both refused y = refused
both ended y = y
both endless y = endless

-- the first that takes
abbrev pub or_next : Found → Found → Found
or_next refused y = y
or_next ended y = ended
or_next endless y = endless

-- of a default that is read for a field that is left out: one that is refused, or that leaves out such a one, is told by itself
abbrev pub given : Found → Found
given refused = ended
given ended = ended
given endless = endless
