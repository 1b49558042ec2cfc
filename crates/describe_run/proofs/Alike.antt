-- A description of items that take what a schema admits admits that.
use Rattle.std.proofs.Common.{◌∙◌}
use Rattle.typify_run.specs.Examine.{as_it_stands}
use Rattle.describe_run.specs.Laws.{DescriptionsAdmitAlike}

pub descriptions_admit_alike : DescriptionsAdmitAlike
descriptions_admit_alike setting texts schema values r text lawful report none d = record {
  value = d.value;
  written = d.written;
  description = d.described.document.document;
  read = d.described.document.read;
  plain = d.described.document.plain;
  document = report.document;
  source = report.is_read;
  alike = λ v small. d.described.document.exact texts v small ∙ report.exact lawful none as_it_stands v small;
}
