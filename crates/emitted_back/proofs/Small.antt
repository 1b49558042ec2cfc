-- The names of small values rise at each level.
use Rattle.json_value.specs.Value as value
use Rattle.json_value.specs.Value.{Items, Members, null, number, fraction, text, list, object, item, no_items, member, no_members, AllSmall, MembersSmall}
use Rattle.writing_laws.specs.Tables.{ItemsOrdered, MembersOrdered}
use Rattle.emitted_back.specs.Laws.{SmallIsOrdered}

mutual
  pub small_is_ordered : SmallIsOrdered
  small_is_ordered null h = tt
  small_is_ordered (value.boolean b) h = tt
  small_is_ordered (number z) h = tt
  small_is_ordered fraction h = tt
  small_is_ordered (text s) h = tt
  small_is_ordered (list xs) h = items_ordered xs h
  small_is_ordered (object ms) h = members_ordered ms h

  items_ordered : (xs : Items) → AllSmall xs → ItemsOrdered xs
  items_ordered no_items h = tt
  items_ordered (item v vs) h = (small_is_ordered v h.0, items_ordered vs h.1)

  members_ordered : (ms : Members) → MembersSmall ms → MembersOrdered ms
  members_ordered no_members h = tt
  members_ordered (member k v ms) h = (h.2, small_is_ordered v h.1, members_ordered ms h.3)
