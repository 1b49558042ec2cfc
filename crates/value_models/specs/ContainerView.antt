-- The model that a container of the program stands for.
use Rattle.std.specs.Prelude.{List, map, string_bytes}
use Rattle.model_defs.specs.Model.{VariantModel, TagModel, external_tag, internal_tag, adjacent_tag, untagged, BodyModel, struct_model, enum_model, ContainerModel}
use Rattle.value_models.specs.declared.container.Tag as tag
use Rattle.value_models.specs.declared.container.Body as body
use Rattle.value_models.specs.declared.container.Container.{Container}
use Rattle.value_models.specs.declared.container.Tag.TheVariants as tags
use Rattle.value_models.specs.declared.container.Body.TheVariants as bodies
use Rattle.value_models.specs.declared.variants.Variants.{Variants}
use Rattle.value_models.specs.FieldView.{style_view}
use Rattle.value_models.specs.VariantView.{fields_in, variants_view}

-- the variants behind a table of their names
abbrev pub variants_in : Variants → List VariantModel
variants_in w = variants_view w.variants.items

abbrev pub tag_view : tag.Tag → TagModel
tag_view tags.External = external_tag
tag_view (tags.Internal t) = internal_tag (string_bytes t)
tag_view (tags.Adjacent t c) = adjacent_tag (string_bytes t) (string_bytes c)
tag_view tags.Untagged = untagged

abbrev pub body_view : body.Body → BodyModel
body_view (bodies.Struct s fs) = struct_model (style_view s) (fields_in fs)
body_view (bodies.Enum t ws) = enum_model (tag_view t) (variants_in ws)

abbrev pub container_view : Container → ContainerModel
container_view m = record { name = string_bytes m.name; transparent = m.transparent; try_from = m.try_from; closed = m.closed; body = body_view m.body }

abbrev pub containers_view : List Container → List ContainerModel
containers_view ms = map container_view ms
