-- What leads to an absent value.
use Rattle.std.specs.Prelude.{List, [], ◌∷◌, Option, Some, None, if◌then◌else◌}
use Rattle.model_defs.specs.Types.{TypeModel}
use Rattle.model_defs.specs.Model.{newtype_style, FieldModel, BodyModel, struct_model, ContainerModel}
use Rattle.model_defs.specs.Layer.{has_no_helper}
use Rattle.typed_defs.specs.Typed.{Typed}
use Rattle.reading_defs.specs.Reading.{Read, stopped, given, absent}
use Rattle.value_parts.specs.declared.missing.Absence as absence'
use Rattle.value_parts.specs.declared.missing.Absence.TheVariants as absences
use Rattle.value_parts.specs.Leaves.{Absence, an_option, of_item, no_absence}

abbrev pub absence_view : absence'.Absence → Absence
absence_view absences.Option = an_option
absence_view (absences.Item n) = of_item n.now
absence_view absences.Nothing = no_absence

abbrev pub newtype_of : BodyModel → Option TypeModel
newtype_of (struct_model newtype_style (f ∷ [])) = Some f.field_type
newtype_of _ = None

-- the type of a transparent newtype
abbrev pub inner_of : ContainerModel → Option TypeModel
inner_of m = if m.transparent then newtype_of m.body else None

-- a missing field that states no default
abbrev pub undefaulted : List ContainerModel → FieldModel → Read Typed
undefaulted ms f = if has_no_helper f.helper then given (absent ms f.field_type) else stopped []
