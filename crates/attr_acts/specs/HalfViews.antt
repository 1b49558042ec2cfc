-- What values of halves stand for.
use Rattle.std.specs.Prelude.{map, option_map}
use Rattle.token_trees.specs.View.{trees}
use Rattle.attr_defs.specs.Halves as defs
use Rattle.attr_acts.specs.declared.halves.Given.{Given}
use Rattle.attr_acts.specs.declared.halves.Halves.{Halves}
use Rattle.attr_acts.specs.declared.halves.Both.{Both}
use Rattle.attr_acts.specs.declared.halves.Pair.{Pair}

abbrev pub given_view : {X A : Type 0} → (X → A) → Given X → defs.Given A
given_view f g = record { at = g.at; value = f g.value }

abbrev pub halves_view : {X A : Type 0} → (X → A) → Halves X → defs.Halves A
halves_view f h = record { serialize = map (given_view f) h.serialize.items; deserialize = map (given_view f) h.deserialize.items }

abbrev pub both_view : {X A : Type 0} → (X → A) → Both X → defs.Both A
both_view f b = record { values = halves_view f b.values; left = trees b.left.now }

abbrev pub pair_view : {X A : Type 0} → (X → A) → Pair X → defs.Pair A
pair_view f p = record { serialize = option_map f p.serialize; deserialize = option_map f p.deserialize; left = trees p.left.now }
