-- What a report's items are to whoever reads them again.
use Rattle.std.specs.Prelude.{◌≡◌, List}
use Rattle.serde_json.specs.Data.{Data}
use Rattle.json_value.specs.Value.{Value}
use Rattle.schema_defs.specs.declared.Setting.{Setting}
use Rattle.schema_defs.specs.Texts.{Relations}
use Rattle.schema_tree.specs.Conversions.{conversions_view}
use Rattle.attr_defs.specs.Renames.{Meaning}
use Rattle.derive_model.specs.declared.errors.ModuleError.{ModuleError}
use Rattle.derive_model.specs.declared.errors.ModuleError.TheVariants.{Memory}
use Rattle.derive_model.specs.ModuleView.{IsWhy}
use Rattle.typify_run.specs.Headline.{IsReportOf, items_of}
use Rattle.typify_run.specs.Examine.{CanJudge}
use Rattle.typify_run.specs.declared.report.Report.{Report}

-- why they make no module is want of memory alone
abbrev pub ReportsAreModules : Type 0
ReportsAreModules =
    (setting : Setting) (texts : Relations) (schema : Value) (values : List Data) (report : Report) → IsReportOf setting texts schema values report → CanJudge texts report
    → (variant_name field_name : Meaning) (error : ModuleError) → IsWhy variant_name field_name (conversions_view report.conversions) (items_of report) error → error ≡ Memory
