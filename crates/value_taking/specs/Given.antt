-- Types that may not be there.
use Rattle.std.specs.Prelude.{Option, Some, None}
use Rattle.model_defs.specs.Types.{TypeModel, outside_type}

-- a type, or where there is none one that no reader knows
abbrev pub or_outside : Option TypeModel → TypeModel
or_outside None = outside_type
or_outside (Some t) = t
