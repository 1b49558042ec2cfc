-- What is asked of a container itself.
use Rattle.std.specs.Prelude.{ℕ, ◌||◌, List, filter, Bool, not, is_some, bytes_eq}
use Rattle.container_defs.specs.Checks.{is_one}
use Rattle.container_defs.specs.Container.{ReadContainer}
use Rattle.container_defs.specs.Forms.{is_generic, is_remote, has_from, has_into, has_container_default, is_tagged_struct, is_an_identifier, has_odd_flatten, is_transparent_with_names, has_no_row}
use Rattle.item_forms.specs.declared.container_test.ContainerTest.{ContainerTest}
use Rattle.item_forms.specs.declared.container_test.ContainerTest.TheVariants.{Generic, Bound, Remote, From, Into, Default, TaggedStruct, Identifier, OddFlatten, TransparentWithNames, NamedTwice, NoRow}

module _ (items : List (List ℕ)) where
  abbrev pub container_test : ContainerTest → ReadContainer → Bool
  container_test Generic = λ c. is_generic c
  container_test Bound = λ c. is_some c.attrs.ser_bound || is_some c.attrs.de_bound
  container_test Remote = λ c. is_remote c
  container_test From = λ c. has_from c
  container_test Into = λ c. has_into c
  container_test Default = λ c. has_container_default c
  container_test TaggedStruct = λ c. is_tagged_struct c
  container_test Identifier = λ c. is_an_identifier c
  container_test OddFlatten = λ c. has_odd_flatten c
  container_test TransparentWithNames = λ c. is_transparent_with_names c
  container_test NamedTwice = λ c. not (is_one (filter (bytes_eq c.name.text) items))
  container_test NoRow = λ c. has_no_row c
