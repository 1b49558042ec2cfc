-- What is asked of fields beside one another.
use Rattle.std.specs.Prelude.{List, Bool}
use Rattle.container_defs.specs.Container.{ReadField}
use Rattle.container_defs.specs.Forms.{repeats_name, has_unread}
use Rattle.item_forms.specs.declared.beside.ListTest.{ListTest}
use Rattle.item_forms.specs.declared.beside.ListTest.TheVariants.{RepeatsName, Unread}

abbrev pub list_test : ListTest → List ReadField → Bool
list_test RepeatsName = λ fs. repeats_name fs
list_test Unread = λ fs. has_unread fs
