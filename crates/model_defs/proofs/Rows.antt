-- Reading, type by type.
use Rattle.std.proofs.Common.{◌≡◌, ℕ, suc, List, [], ◌∷◌, map, length, Bool, true, false, ◌&&◌, ◌||◌, refl, ap}
use Rattle.std.specs.Prelude.{◌==◌}
use Rattle.std.specs.List.{list_all}
use Rattle.json_value.specs.Value as value
use Rattle.json_value.specs.Value.{Value, Items, Members, null, number, fraction, text, list, object, item, no_items, member, no_members, values, entries}
use Rattle.schema_defs.specs.Texts.{Relations}
use Rattle.schema_defs.specs.declared.Format.{Format}
use Rattle.schema_defs.specs.Integers.{Range}
use Rattle.model_defs.specs.Types.{TypeModel, TypeModels, types_of, boolean_type, integer_type, text_type, native_type, any_type, unit_type, option_type, boxed_type, vec_type, set_type, map_type, tuple_type, array_type, outside_type}
use Rattle.model_defs.specs.Model.{FieldModel, ContainerModel, ConversionsD}
use Rattle.model_defs.specs.Layer.{Content, one_type, places, named_fields, members_take, in_places, each_member, is_boolean, is_in_range, is_text, has_the_format, is_null}
use Rattle.model_defs.specs.Reads.{value_reads, item_judges, member_judges, reads_within, parts_of, allowed, leads_to_option}
use Rattle.model_defs.specs.Rows.{is_list_of, is_object_of, one_to_one, is_tuple_of, has_length, read, part_of, is_struct_of, TypesAreRead, ContentsAreRead, RowsOfReading}

module _ (models : List ContainerModel) (cs : ConversionsD) (r : Relations) where
  pub reads-level : (v : Value) (c : Content) → value_reads models cs r v c ≡ reads_within models cs r v (parts_of models cs r v) (allowed models) c
  reads-level null c = refl
  reads-level (value.boolean b) c = refl
  reads-level (number z) c = refl
  reads-level fraction c = refl
  reads-level (text s) c = refl
  reads-level (list xs) c = refl
  reads-level (object ms) c = refl

  pub item_judges-map : (xs : Items) → item_judges models cs r xs ≡ map (value_reads models cs r) (values xs)
  item_judges-map no_items = refl
  item_judges-map (item v vs) = ap (λ js. value_reads models cs r v ∷ js) (item_judges-map vs)

  pub member_judges-map : (ms : Members) → member_judges models cs r ms ≡ map (part_of models cs r) (entries ms)
  member_judges-map no_members = refl
  member_judges-map (member k v ms) = ap (λ ps. part_of models cs r (k, v) ∷ ps) (member_judges-map ms)

  each_item_read : (t : TypeModel) (xs : Items) → list_all (λ j. j (one_type t)) (item_judges models cs r xs) ≡ list_all (read models cs r t) (values xs)
  each_item_read t no_items = refl
  each_item_read t (item v vs) = ap (λ z. read models cs r t v && z) (each_item_read t vs)

  each_member_read : (k t : TypeModel) (ms : Members) → each_member k t (member_judges models cs r ms) ≡ list_all (λ e. read models cs r k (text e.0) && read models cs r t e.1) (entries ms)
  each_member_read k t no_members = refl
  each_member_read k t (member n v ms) = ap (λ z. (read models cs r k (text n) && read models cs r t v) && z) (each_member_read k t ms)

  places_read : (ts : List TypeModel) (xs : Items) → in_places ts (item_judges models cs r xs) ≡ one_to_one (read models cs r) ts (values xs)
  places_read [] no_items = refl
  places_read [] (item v vs) = refl
  places_read (t ∷ ts) no_items = refl
  places_read (t ∷ ts) (item v vs) = ap (λ z. read models cs r t v && z) (places_read ts vs)

  as_many : (xs : Items) → length (item_judges models cs r xs) ≡ length (values xs)
  as_many no_items = refl
  as_many (item v vs) = ap suc (as_many vs)

  boolean_row : (v : Value) → read models cs r boolean_type v ≡ is_boolean v
  boolean_row null = refl
  boolean_row (value.boolean b) = refl
  boolean_row (number z) = refl
  boolean_row fraction = refl
  boolean_row (text s) = refl
  boolean_row (list xs) = refl
  boolean_row (object ms) = refl

  integer_row : (g : Range) (v : Value) → read models cs r (integer_type g) v ≡ is_in_range g v
  integer_row g null = refl
  integer_row g (value.boolean b) = refl
  integer_row g (number z) = refl
  integer_row g fraction = refl
  integer_row g (text s) = refl
  integer_row g (list xs) = refl
  integer_row g (object ms) = refl

  text_row : (v : Value) → read models cs r text_type v ≡ is_text v
  text_row null = refl
  text_row (value.boolean b) = refl
  text_row (number z) = refl
  text_row fraction = refl
  text_row (text s) = refl
  text_row (list xs) = refl
  text_row (object ms) = refl

  native_row : (f : Format) (v : Value) → read models cs r (native_type f) v ≡ has_the_format r f v
  native_row f null = refl
  native_row f (value.boolean b) = refl
  native_row f (number z) = refl
  native_row f fraction = refl
  native_row f (text s) = refl
  native_row f (list xs) = refl
  native_row f (object ms) = refl

  any_row : (v : Value) → read models cs r any_type v ≡ true
  any_row null = refl
  any_row (value.boolean b) = refl
  any_row (number z) = refl
  any_row fraction = refl
  any_row (text s) = refl
  any_row (list xs) = refl
  any_row (object ms) = refl

  unit_row : (v : Value) → read models cs r unit_type v ≡ is_null v
  unit_row null = refl
  unit_row (value.boolean b) = refl
  unit_row (number z) = refl
  unit_row fraction = refl
  unit_row (text s) = refl
  unit_row (list xs) = refl
  unit_row (object ms) = refl

  option_row : (t : TypeModel) (v : Value) → read models cs r (option_type t) v ≡ (is_null v || read models cs r t v)
  option_row t null = refl
  option_row t (value.boolean b) = refl
  option_row t (number z) = refl
  option_row t fraction = refl
  option_row t (text s) = refl
  option_row t (list xs) = refl
  option_row t (object ms) = refl

  boxed_row : (t : TypeModel) (v : Value) → read models cs r (boxed_type t) v ≡ read models cs r t v
  boxed_row t null = refl
  boxed_row t (value.boolean b) = refl
  boxed_row t (number z) = refl
  boxed_row t fraction = refl
  boxed_row t (text s) = refl
  boxed_row t (list xs) = refl
  boxed_row t (object ms) = refl

  vec_row : (t : TypeModel) (v : Value) → read models cs r (vec_type t) v ≡ is_list_of (read models cs r t) v
  vec_row t null = refl
  vec_row t (value.boolean b) = refl
  vec_row t (number z) = refl
  vec_row t fraction = refl
  vec_row t (text s) = refl
  vec_row t (list xs) = each_item_read t xs
  vec_row t (object ms) = refl

  set_row : (t : TypeModel) (v : Value) → read models cs r (set_type t) v ≡ is_list_of (read models cs r t) v
  set_row t null = refl
  set_row t (value.boolean b) = refl
  set_row t (number z) = refl
  set_row t fraction = refl
  set_row t (text s) = refl
  set_row t (list xs) = each_item_read t xs
  set_row t (object ms) = refl

  map_row : (k t : TypeModel) (v : Value) → read models cs r (map_type k t) v ≡ is_object_of (λ e. read models cs r k (text e.0) && read models cs r t e.1) v
  map_row k t null = refl
  map_row k t (value.boolean b) = refl
  map_row k t (number z) = refl
  map_row k t fraction = refl
  map_row k t (text s) = refl
  map_row k t (list xs) = refl
  map_row k t (object ms) = each_member_read k t ms

  tuple_row : (ts : TypeModels) (v : Value) → read models cs r (tuple_type ts) v ≡ is_tuple_of (read models cs r) (types_of ts) v
  tuple_row ts null = refl
  tuple_row ts (value.boolean b) = refl
  tuple_row ts (number z) = refl
  tuple_row ts fraction = refl
  tuple_row ts (text s) = refl
  tuple_row ts (list xs) = places_read (types_of ts) xs
  tuple_row ts (object ms) = refl

  array_row : (t : TypeModel) (n : ℕ) (v : Value) → read models cs r (array_type t n) v ≡ (has_length n v && is_list_of (read models cs r t) v)
  array_row t n null = refl
  array_row t n (value.boolean b) = refl
  array_row t n (number z) = refl
  array_row t n fraction = refl
  array_row t n (text s) = refl
  array_row t n (list xs) = λ i. (as_many xs i == n) && each_item_read t xs i
  array_row t n (object ms) = refl

  outside_row : (v : Value) → read models cs r outside_type v ≡ false
  outside_row null = refl
  outside_row (value.boolean b) = refl
  outside_row (number z) = refl
  outside_row fraction = refl
  outside_row (text s) = refl
  outside_row (list xs) = refl
  outside_row (object ms) = refl

  unnamed_row : (ts : List TypeModel) (v : Value) → value_reads models cs r v (places ts) ≡ is_tuple_of (read models cs r) ts v
  unnamed_row ts null = refl
  unnamed_row ts (value.boolean b) = refl
  unnamed_row ts (number z) = refl
  unnamed_row ts fraction = refl
  unnamed_row ts (text s) = refl
  unnamed_row ts (list xs) = places_read ts xs
  unnamed_row ts (object ms) = refl

  named_row : (closed : Bool) (fs : List FieldModel) (v : Value) → value_reads models cs r v (named_fields closed fs) ≡ is_struct_of models cs r closed fs v
  named_row closed fs null = refl
  named_row closed fs (value.boolean b) = refl
  named_row closed fs (number z) = refl
  named_row closed fs fraction = refl
  named_row closed fs (text s) = refl
  named_row closed fs (list xs) = refl
  named_row closed fs (object ms) = ap (members_take (leads_to_option models) closed fs) (member_judges-map ms)

  types_read : TypesAreRead models cs r
  types_read = record {
    boolean = boolean_row;
    integer = integer_row;
    a_text = text_row;
    native = native_row;
    any = any_row;
    unit = unit_row;
    option = option_row;
    boxed = boxed_row;
    vec = vec_row;
    set = set_row;
    map_of = map_row;
    tuple = tuple_row;
    array = array_row;
    outside = outside_row;
  }

  contents_read : ContentsAreRead models cs r
  contents_read = record { one = λ t v. refl; unnamed = unnamed_row; named = named_row }

pub rows_of_reading : RowsOfReading
rows_of_reading models cs r = (types_read models cs r, contents_read models cs r)
