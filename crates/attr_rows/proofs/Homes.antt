-- Where a default may stand.
use Rattle.std.proofs.Common.{◌≡◌, refl, ap, sym, ◌∙◌}
use Rattle.syntax_trees.specs.Item.{ItemD, VariantD, FieldD, FieldsD, named_fields, unnamed_fields, unit_fields, BodyD, struct_body, enum_body, union_body}
use Rattle.attr_defs.specs.Owners.{OwnerD, of_container, of_variant, of_field}
use Rattle.attr_defs.specs.Rows.{default_by, default_on}
use Rattle.attr_rows.specs.declared.defaults.Home.{Home}
use Rattle.attr_rows.specs.declared.defaults.Home.TheVariants as homes

abbrev by : {A : Type 0} → Home → A → A → A → A
by homes.Fields a b c = a
by homes.Unit a b c = b
by homes.Other a b c = c

by_body : {A : Type 0} → (body : BodyD) (a b c : A) → default_by body a b c ≡ by (default_by body homes.Fields homes.Unit homes.Other) a b c
by_body (struct_body (named_fields fs) at) a b c = refl
by_body (struct_body (unnamed_fields fs) at) a b c = refl
by_body (struct_body unit_fields at) a b c = refl
by_body (enum_body vs at) a b c = refl
by_body (union_body fs at) a b c = refl

by_home : {A : Type 0} → (o : OwnerD) (a b c : A) → default_on o a b c ≡ by (default_on o homes.Fields homes.Unit homes.Other) a b c
by_home (of_container i) a b c = by_body i.body a b c
by_home (of_variant v) a b c = refl
by_home (of_field f n) a b c = refl

pub on_fields : {A : Type 0} → (o : OwnerD) (a b c : A) → homes.Fields ≡ default_on o homes.Fields homes.Unit homes.Other → default_on o a b c ≡ a
on_fields o a b c h = by_home o a b c ∙ ap (λ k. by k a b c) (sym h)

pub on_unit : {A : Type 0} → (o : OwnerD) (a b c : A) → homes.Unit ≡ default_on o homes.Fields homes.Unit homes.Other → default_on o a b c ≡ b
on_unit o a b c h = by_home o a b c ∙ ap (λ k. by k a b c) (sym h)

pub on_other : {A : Type 0} → (o : OwnerD) (a b c : A) → homes.Other ≡ default_on o homes.Fields homes.Unit homes.Other → default_on o a b c ≡ c
on_other o a b c h = by_home o a b c ∙ ap (λ k. by k a b c) (sym h)
