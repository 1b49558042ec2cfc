-- What the program's shapes of types stand for.
use Rattle.std.specs.Prelude.{ℕ, List, [], ◌∷◌, map, Option, Some, None}
use Rattle.syntax_trees.specs.View.{ty}
use Rattle.syntax_trees.specs.declared.tree.Ty.{Ty}
use Rattle.type_spellings.specs.Types.{type_of, array_of, tuple_of, number_of, Arguments, none_given, utc_given, types_given, others_given}
use Rattle.model_defs.specs.Types.{TypeModel, map_type, item_type, outside_type, types}
use Rattle.value_types.specs.declared.shape.Shape.{Shape}
use Rattle.value_types.specs.declared.shape.Shape.TheVariants as shapes
use Rattle.value_types.specs.declared.shape.Given.{Given}
use Rattle.value_types.specs.declared.shape.Given.TheVariants as gifts
use Rattle.value_types.specs.declared.rows.Plain.{Plain}
use Rattle.value_types.specs.RowView.{plain_view, held}

abbrev pub type_in : Ty → TypeModel
type_in t = type_of (ty t)

abbrev pub types_in : List Ty → List TypeModel
types_in ts = map type_in ts

abbrev pub shape_view : Shape → TypeModel
shape_view (shapes.Plain p) = plain_view p
shape_view (shapes.Item n) = item_type n.now
shape_view (shapes.Held h t) = held h (type_in t.now)
shape_view (shapes.Map k t) = map_type (type_in k.now) (type_in t.now)
shape_view (shapes.Tuple ts) = tuple_of (types (types_in ts.now))
shape_view (shapes.Array t n) = array_of (type_in t.now) (number_of n.now)
shape_view shapes.Outside = outside_type

-- what stands behind a name, as far as it is told apart
abbrev pub given_view : Given → Arguments
given_view gifts.Nothing = none_given
given_view gifts.Utc = utc_given
given_view (gifts.One t) = types_given (type_in t.now ∷ [])
given_view (gifts.Two t u) = types_given (type_in t.now ∷ type_in u.now ∷ [])
given_view gifts.Others = others_given

abbrev pub few_of : List TypeModel → Arguments
few_of [] = others_given
few_of (t ∷ []) = types_given (t ∷ [])
few_of (t ∷ u ∷ []) = types_given (t ∷ u ∷ [])
few_of (t ∷ u ∷ v ∷ ts) = others_given

abbrev pub few : Arguments → Arguments
few none_given = none_given
few utc_given = utc_given
few (types_given ts) = few_of ts
few others_given = others_given

-- the number that a length is, where its digits are told
abbrev pub numbered : Option (List ℕ) → Option ℕ
numbered None = None
numbered (Some s) = number_of s

-- two arguments, where both are types
abbrev pub two_given : Option TypeModel → Option TypeModel → Arguments
two_given None o = others_given
two_given (Some t) None = others_given
two_given (Some t) (Some u) = types_given (t ∷ u ∷ [])

abbrev pub word_or_item : Option Plain → List ℕ → TypeModel
word_or_item None n = item_type n
word_or_item (Some p) n = plain_view p
