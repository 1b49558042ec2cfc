-- What a content asks of a value: the kinds that it reads itself, and the items that it hands the value on to.
use Rattle.std.specs.Prelude.{ℕ, ◌||◌, List, [], Bool, false, option_map}
use Rattle.std.specs.List.{cons_option}
use Rattle.model_defs.specs.Model.{Style, FieldModel, ContainerModel}
use Rattle.model_defs.specs.Layer.{Content, fields_content}
use Rattle.model_defs.specs.Reach.{asked_by_content}
use Rattle.writing_laws.specs.Kinds.{nulls, same_kind, content_may, body_may}
use Rattle.value_kinds.specs.Kinds.{has, kinds_where}
use Rattle.value_kinds.specs.declared.claim.Claim.{Claim}
use Rattle.value_kinds.specs.declared.type_kinds.TypeKinds.{TypeKinds}

pub record ClaimD : Type 0 where
  pub own : TypeKinds
  pub asked : List (List ℕ)

abbrev pub claim_view : Claim → ClaimD
claim_view c = record { own = c.own; asked = cons_option (option_map (λ n. n.now) c.item) [] }

-- where no item reads anything
abbrev pub no_item : List ℕ → Bool
no_item n = false

abbrev pub own_claim : TypeKinds → ClaimD
own_claim own = record { own = own; asked = [] }

abbrev pub claim_of : Content → ClaimD
claim_of c = record { own = kinds_where (λ k. content_may k no_item c); asked = asked_by_content c }

-- the same, or null
abbrev pub or_null : ClaimD → ClaimD
or_null d = record { own = kinds_where (λ k. same_kind k nulls || has d.own k); asked = d.asked }

-- of fields; whether unknown members are refused changes nothing
abbrev pub fields_claim : Style → List FieldModel → ClaimD
fields_claim style fs = claim_of (fields_content false style fs)

-- the kinds that an item's body reads itself, likewise
abbrev pub own_kinds : ContainerModel → TypeKinds
own_kinds m = kinds_where (λ k. body_may k no_item false m.body)
