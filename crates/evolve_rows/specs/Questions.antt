-- What is asked of a type through boxes and newtypes, by its question.
use Rattle.std.specs.Prelude.{ℕ, zero, suc, ◌&&◌, not, List, Bool, true, false, Option, Some, None, if◌then◌else◌}
use Rattle.model_defs.specs.Types.{TypeModel, boolean_type, integer_type, text_type, native_type, unit_type, option_type, boxed_type, item_type}
use Rattle.model_defs.specs.Model.{ContainerModel, container_named}
use Rattle.evolve_rows.specs.Asking.{Asked, of_item, known, newtype_of}
use Rattle.evolve_rows.specs.declared.question.Question.{Question}
use Rattle.evolve_rows.specs.declared.question.Question.TheVariants.{Optional, Scalar}
use Rattle.evolve_rows.specs.declared.question.Answer.{Answer}
use Rattle.evolve_rows.specs.declared.question.Answer.TheVariants.{Item, Known}

abbrev pub answer_view : Answer → Asked Bool
answer_view (Item n) = of_item n.now
answer_view (Known b) = known b

abbrev pub is_optional : Question → Bool
is_optional Optional = true
is_optional Scalar = false

abbrev pub is_scalar_asked : Question → Bool
is_scalar_asked Optional = false
is_scalar_asked Scalar = true

module _ (q : Question) where
  abbrev pub type_asked : TypeModel → Asked Bool
  type_asked boolean_type = known (is_scalar_asked q)
  type_asked (integer_type g) = known (is_scalar_asked q)
  type_asked text_type = known (is_scalar_asked q)
  type_asked (native_type f) = known (is_scalar_asked q)
  type_asked unit_type = known (is_scalar_asked q)
  type_asked (option_type t) = known (is_optional q)
  type_asked (boxed_type t) = type_asked t
  type_asked (item_type n) = of_item n
  type_asked _ = known false

  -- the type that is asked in place of an item's
  abbrev pub inner_of : ContainerModel → Option TypeModel
  inner_of m = if is_optional q && not m.transparent then None else newtype_of m.body

  module _ (items : List ℕ → Bool) where
    abbrev pub answered : Asked Bool → Bool
    answered (of_item n) = items n
    answered (known b) = b

    abbrev pub type_answer : TypeModel → Bool
    type_answer t = answered (type_asked t)

    abbrev pub inner_answer : Option TypeModel → Bool
    inner_answer None = false
    inner_answer (Some t) = type_answer t

    abbrev pub container_answer : Option ContainerModel → Bool
    container_answer None = false
    container_answer (Some m) = inner_answer (inner_of m)

  -- where so many items may be entered
  abbrev pub item_answer : List ContainerModel → ℕ → List ℕ → Bool
  item_answer models zero n = false
  item_answer models (suc k) n = container_answer (item_answer models k) (container_named n models)
