-- What holds of the replacement of `Self`, whatever the item.
use Rattle.std.specs.Prelude.{◌≡◌}
use Rattle.syntax_trees.specs.Item.{ItemD}
use Rattle.derive_receiver.specs.Replaced.{own, replaced}
use Rattle.derive_receiver.specs.Free.{ItemFree, IsNamedElsewise}

-- where no `Self` stands, nothing changes
abbrev pub KeepsOthers : Type 0
KeepsOthers = (d : ItemD) → ItemFree d → replaced d ≡ d

-- none stands in what was replaced, unless the item or a parameter has that name
abbrev pub LeavesNone : Type 0
LeavesNone = (d : ItemD) → IsNamedElsewise (own d) → ItemFree (replaced d)

-- a second time changes nothing, unless the item or a parameter has that name
abbrev pub Settles : Type 0
Settles = (d : ItemD) → IsNamedElsewise (own d) → replaced (replaced d) ≡ replaced d
