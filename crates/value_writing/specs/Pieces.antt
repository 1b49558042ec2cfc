-- What the steps of writing write.
use Rattle.std.specs.Prelude.{ℕ, ◌&&◌, List, [], map, if◌then◌else◌}
use Rattle.json_value.specs.Value.{Value, Members}
use Rattle.model_defs.specs.Types.{TypeModel}
use Rattle.model_defs.specs.Model.{FieldModel, ContainerModel}
use Rattle.model_defs.specs.Settled.{put_all, text_of}
use Rattle.typed_defs.specs.Typed.{Typed}
use Rattle.typed_defs.specs.Written.{FieldPart, written, writes, rest_of, by_places, field_types, field_writes, counts_as_empty}

module _ (models : List ContainerModel) where
  abbrev pub pairs_written : TypeModel → TypeModel → List (Typed × Typed) → List (List ℕ × Value)
  pairs_written k t es = map (λ e. (text_of [] (written models k e.0), written models t e.1)) es

  abbrev pub placed_written : List TypeModel → List Typed → List Value
  placed_written ts xs = by_places ts (map (λ x. writes models x) xs)

  abbrev pub unnamed_written : List FieldModel → List Typed → List Value
  unnamed_written fs xs = placed_written (field_types fs) xs

  abbrev pub part_of : Typed → FieldPart
  part_of x = record { is_empty = counts_as_empty x; writes = writes models x; rest = rest_of models x }

  abbrev pub field_put : FieldModel → Typed → Members → Members
  field_put f x done = if f.is_rest then done else put_all (field_writes f (part_of x)) done

  abbrev pub rest_put : FieldModel → Typed → Members → Members
  rest_put f x done = if f.is_rest then put_all (rest_of models x f.field_type) done else done
