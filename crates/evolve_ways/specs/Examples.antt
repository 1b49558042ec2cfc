-- What is told of small steps, small ways, and their texts.
use Rattle.std.specs.Prelude.{◌≡◌, List, [], ◌∷◌, Some, None, codes}
use Rattle.model_defs.specs.Types.{TypeModel, text_type, any_type, option_type, vec_type, map_type, tuple_type, array_type, types}
use Rattle.model_defs.specs.Examples.{a, b, c, byte, field, rest, item, struct, t, whole}
use Rattle.model_defs.specs.Model.{ContainerModel, allow_rule}
use Rattle.evolve_defs.specs.Forms.{Table, a_type}
use Rattle.evolve_defs.specs.Examples.{long, short, bare, lone, by_rule, root, mixed, tagged, either, maybe_a}
use Rattle.evolve_ways.specs.Ways.{field_mark, variant_mark, item_mark, place_mark, name_mark, value_mark, rest_mark, Told, marks_at, IsStep, Leads}
use Rattle.evolve_ways.specs.Texts.{way_text}

-- what is told of the pairs that types of two tables reach
abbrev pub Tells : Table → TypeModel → Table → TypeModel → List Told → Type 0
Tells old s new u ms = marks_at old new (a_type s) (a_type u) ≡ ms

abbrev pub OfItems : Table → Table → List Told → Type 0
OfItems old new ms = Tells old t new t ms

abbrev pub OfTypes : TypeModel → TypeModel → List Told → Type 0
OfTypes s u ms = Tells (bare []) s (bare []) u ms

pub record Rows : Type 0 where
  pub fields : OfItems (lone root) (lone root) (Some (field_mark (codes "id")) ∷ Some (field_mark (codes "name")) ∷ [])
  pub a_new_order : OfItems (lone (item (struct (field a byte ∷ field b byte ∷ [])))) (lone (item (struct (field b byte ∷ field a byte ∷ [])))) (Some (field_mark b) ∷ Some (field_mark a) ∷ [])
  pub lost_to_a_rest : OfItems (lone root) (lone (item (struct (field (codes "name") text_type ∷ rest any_type ∷ [])))) (Some (field_mark (codes "name")) ∷ Some (field_mark (codes "id")) ∷ [])
  pub a_rest : OfItems (lone (item (struct (rest byte ∷ [])))) (lone (item (struct (rest long ∷ [])))) (Some rest_mark ∷ [])
  pub variants : OfItems (lone mixed) (lone mixed) (Some (variant_mark b) ∷ [])
  pub beside_a_tag : OfItems (lone (tagged (maybe_a ∷ []))) (lone (tagged (maybe_a ∷ []))) (Some (variant_mark a) ∷ [])
  pub untagged_old : Tells (lone either) t (bare []) byte (Some (variant_mark a) ∷ Some (variant_mark b) ∷ Some (variant_mark c) ∷ [])
  pub untagged_new : Tells (bare []) byte (lone either) t (None ∷ [])
  pub options : OfTypes (option_type byte) (option_type long) (None ∷ [])
  pub rules : OfItems (by_rule (allow_rule (whole 1 ∷ [])) byte) (by_rule (allow_rule (whole 1 ∷ [])) long) (None ∷ [])
  pub lists : OfTypes (vec_type byte) (vec_type long) (Some item_mark ∷ [])
  pub places : OfTypes (tuple_type (types (byte ∷ text_type ∷ []))) (array_type long 2) (Some (place_mark 0) ∷ Some (place_mark 1) ∷ [])
  pub an_array : OfTypes (array_type byte 2) (array_type long 2) (Some item_mark ∷ [])
  pub an_array_to_a_tuple : OfTypes (array_type byte 2) (tuple_type (types (byte ∷ long ∷ []))) (Some (place_mark 0) ∷ Some (place_mark 1) ∷ [])
  pub maps : OfTypes (map_type text_type byte) (map_type text_type long) (Some name_mark ∷ Some value_mark ∷ [])

-- to the pair of types at which the second list of optional numbers is too short
abbrev pub longs : ContainerModel
longs = item (struct (field a byte ∷ field b (vec_type (option_type long)) ∷ []))

abbrev pub shorts : ContainerModel
shorts = item (struct (field a byte ∷ field b (vec_type (option_type short)) ∷ []))

pub record SmallWays : Type 0 where
  pub to_itself : Leads (lone longs) (lone shorts) (a_type t) (a_type t) (a_type t) (a_type t) []
  pub to_a_field : Leads (lone longs) (lone shorts) (a_type (vec_type (option_type long))) (a_type (vec_type (option_type short))) (a_type t) (a_type t) (field_mark b ∷ [])
  pub inside_an_item : Leads (lone longs) (lone shorts) (a_type long) (a_type short) (a_type t) (a_type t) (field_mark b ∷ item_mark ∷ [])
  -- the mark of another field tells of another step
  pub not_by_another : IsStep (lone longs) (lone shorts) (a_type t) (a_type t) (Some (field_mark a)) (a_type (vec_type (option_type long))) (a_type (vec_type (option_type short))) → ⊥

pub record Texts : Type 0 where
  pub no_way : way_text [] ≡ codes "#"
  pub a_way : way_text (field_mark (codes "id") ∷ item_mark ∷ []) ≡ codes "#/id/~items"
  pub a_variant : way_text (variant_mark (codes "Circle") ∷ field_mark (codes "radius") ∷ []) ≡ codes "#/~variant/Circle/radius"
  pub a_map : way_text (name_mark ∷ value_mark ∷ rest_mark ∷ []) ≡ codes "#/~names/~values/~rest"
  pub strange_names : way_text (field_mark (codes "~items") ∷ field_mark (codes "a/b") ∷ []) ≡ codes "#/~0items/a~1b"
