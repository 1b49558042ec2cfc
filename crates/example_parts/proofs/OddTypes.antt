-- The types that fields, and those of variants, have.
use Rattle.std.proofs.Common.{List, map}
use Rattle.std.specs.List.{flat_map}
use Rattle.model_defs.specs.Types.{TypeModel}
use Rattle.model_defs.specs.Model.{FieldModel, VariantModel}

abbrev pub of_fields : List FieldModel → List TypeModel
of_fields fs = map (λ f. f.field_type) fs

abbrev pub of_variants : List VariantModel → List TypeModel
of_variants ws = flat_map (λ w. map (λ f. f.field_type) w.fields) ws
