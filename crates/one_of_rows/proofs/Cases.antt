-- `oneOf` by the shape that its members have.
use Rattle.std.proofs.Common.{◌≡◌, List, ◌++◌, Option, Some, None, option_map, refl, sym, ap, ◌∙◌}
use Rattle.schema_defs.specs.Schema.{Document}
use Rattle.model_defs.specs.Model.{external_tag}
use Rattle.enum_defs.specs.Shapes.{InternalShape, internal_shape, AdjacentShape, adjacent_shape}
use Rattle.convert_defs.specs.Row.{Finding, VariantRow, noted, branching, enum_row, by_contents}
use Rattle.convert_defs.specs.Shapes.{Member, schemas_of, external_members, adjacent_of, adjacent_members, internal_of, internal_members}
use Rattle.convert_defs.specs.Table.{one_of_external, one_of_adjacent, one_of_internal, one_of_only, only_member, open_branches, mixed_notes, adjacent_row, internal_row}
use Rattle.member_rows.specs.Members.{ruled_branches}
use Rattle.member_rows.proofs.OwnVariants.{ruled_seen}
use Rattle.one_of_rows.specs.Tagged.{adjacent_by, internal_by}
use Rattle.one_of_rows.proofs.ClosedMembers.{adjacent-seen, internal-seen}

module _ (d : Document) (ms : List Member) (f : Finding) where
  pub external_case : (ws : List VariantRow) → Some ws ≡ external_members ms
      → f ≡ branching ms (noted (open_branches ms ++ ruled_branches ms) (enum_row external_tag by_contents ws)) → f ≡ one_of_external d ms (external_members ms)
  external_case ws h e =
      e ∙ ap (λ ts. branching ms (noted (open_branches ms ++ ts) (enum_row external_tag by_contents ws))) (sym (ruled_seen ms ws (sym h))) ∙ ap (one_of_external d ms) h

  pub no_external : None ≡ external_members ms → f ≡ one_of_adjacent d ms (adjacent_members ms) → f ≡ one_of_external d ms (external_members ms)
  no_external h e = e ∙ ap (one_of_external d ms) h

  pub adjacent_case : (s : AdjacentShape) → Some s ≡ adjacent_shape (schemas_of ms)
      → f ≡ branching ms (noted (mixed_notes (adjacent_by ms s.tag s.content)) (adjacent_row (adjacent_by ms s.tag s.content))) → f ≡ one_of_adjacent d ms (adjacent_members ms)
  adjacent_case s h e =
      e ∙ ap (λ t. branching ms (noted (mixed_notes t) (adjacent_row t))) (sym (adjacent-seen ms s (sym h))) ∙ ap (λ o. one_of_adjacent d ms (option_map (adjacent_of ms) o)) h

  pub no_adjacent : None ≡ adjacent_shape (schemas_of ms) → f ≡ one_of_internal d ms (internal_members d.setting ms) → f ≡ one_of_adjacent d ms (adjacent_members ms)
  no_adjacent h e = e ∙ ap (λ o. one_of_adjacent d ms (option_map (adjacent_of ms) o)) h

  pub internal_case : (s : InternalShape) → Some s ≡ internal_shape (schemas_of ms)
      → f ≡ branching ms (noted (mixed_notes (internal_by d.setting ms s.tag)) (internal_row (internal_by d.setting ms s.tag))) → f ≡ one_of_internal d ms (internal_members d.setting ms)
  internal_case s h e =
      e ∙ ap (λ t. branching ms (noted (mixed_notes t) (internal_row t))) (sym (internal-seen d.setting ms s (sym h))) ∙ ap (λ o. one_of_internal d ms (option_map (internal_of d.setting ms) o)) h

  pub no_internal : None ≡ internal_shape (schemas_of ms) → f ≡ one_of_only d ms (only_member ms) → f ≡ one_of_internal d ms (internal_members d.setting ms)
  no_internal h e = e ∙ ap (λ o. one_of_internal d ms (option_map (internal_of d.setting ms) o)) h
