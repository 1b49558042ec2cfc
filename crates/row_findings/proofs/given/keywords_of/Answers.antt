-- Keyword by keyword.
use Rattle.std.proofs.Common.{◌≡◌, sym, ◌∙◌}
use Rattle.std.specs.Prelude.{option_map, string_bytes}
use Rattle.schema_defs.specs.Schema.{object}
use Rattle.json_value.specs.View.{kept_view}
use Rattle.schema_types.specs.View.{numbers_view, texts_view, same_of, lists_of, named_of, subschemas_view, array_view, members_view}
use Rattle.schema_types.specs.declared.schema.SchemaObject.{out-SchemaObject}
use Rattle.row_findings.proofs.Objects.{object_seen}
use Rattle.row_findings.proofs.Seen.{seen}
use Rattle.row_findings.proofs.given.keywords_of.Goals as goal

pub returns : goal.returns
returns c =
    let s = out-SchemaObject c.args.schema.now in
    (λ i.
    object (record {
      title = seen string_bytes c.as_ref-title.result s.title c.as_ref-title.ensures.value i;
      description = seen string_bytes c.as_ref-description.result s.description c.as_ref-description.ensures.value i;
      default = seen kept_view c.as_ref-default.result s.default c.as_ref-default.ensures.value i;
      const_value = seen kept_view c.as_ref-const_value.result s.const_value c.as_ref-const_value.ensures.value i;
      types = c.given_types-types.ensures i;
      format = seen string_bytes c.as_ref-format.result s.format c.as_ref-format.ensures.value i;
      enum_values = c.given_values-enum_values.ensures i;
      numbers = option_map numbers_view s.number;
      texts = seen texts_view c.as_ref-texts.result s.string c.as_ref-texts.ensures.value i;
      reference = seen string_bytes c.as_ref-reference.result s.reference c.as_ref-reference.ensures.value i;
      walk = c.as_ref-walk.ensures.value i;
    }) (same_of (seen subschemas_view c.as_ref-subschemas.result s.subschemas c.as_ref-subschemas.ensures.value i))
    (lists_of (seen array_view c.as_ref-lists.result s.array c.as_ref-lists.ensures.value i))
    (named_of (seen members_view c.as_ref-members.result s.object c.as_ref-members.ensures.value i)))
    ∙ sym (object_seen c.args.schema.now)
