-- Identifiers by the values of their slots.
use Rattle.std.proofs.Common.{◌≡◌, codes, ap, ◌∙◌}
use Rattle.std.specs.Prelude.{Option}
use Rattle.syntax_trees.specs.Item.{BodyD}
use Rattle.attr_defs.specs.Acts.{SettingD, Values}
use Rattle.attr_defs.specs.Container.{identifier_by, identifier_of, identifier_told_by, identifier_told}
use Rattle.attr_defs.specs.Owners.{whole}

pub identifier_at : (body : BodyD) (v : Values) (f w : Option SettingD) → f ≡ v (whole (codes "field_identifier")) → w ≡ v (whole (codes "variant_identifier")) → identifier_by body f w ≡ identifier_of body v
identifier_at body v f w e g = ap (λ x. identifier_by body x w) e ∙ ap (λ y. identifier_by body (v (whole (codes "field_identifier"))) y) g

pub told_at : (body : BodyD) (v : Values) (f w : Option SettingD) → f ≡ v (whole (codes "field_identifier")) → w ≡ v (whole (codes "variant_identifier")) → identifier_told_by body f w ≡ identifier_told body v
told_at body v f w e g = ap (λ x. identifier_told_by body x w) e ∙ ap (λ y. identifier_told_by body (v (whole (codes "field_identifier"))) y) g
