use Rattle.std.proofs.Common.{◌≡◌, ◌&&◌, Bool, drop, map, option_map}
use Rattle.json_value.specs.Value.{Value}
use Rattle.json_value.specs.View.{kept_view}
use Rattle.model_defs.specs.Types.{TypeModel}
use Rattle.model_defs.specs.Reads.{reads}
use Rattle.value_models.specs.TypeView.{type_view}
use Rattle.value_taking.specs.Given.{or_outside}
use Rattle.example_defs.specs.Built.{first_that, is_small}
use Rattle.example_defs.specs.Enough.{no_texts}
use Rattle.example_parts.specs.SettingView.{conversions_of, models_of}
use Rattle.example_parts.proofs.ruled.first_read.Given as goal

abbrev pub invariant-loop-value : goal.invariant-loop-value
invariant-loop-value l =
    let t : TypeModel = or_outside (option_map (λ u. type_view u.now) l.inner) in
    let test : Value → Bool = λ v. is_small v && reads (models_of l.setting) (conversions_of l.setting) no_texts t v in
    first_that test (map kept_view l.values) ≡ first_that test (map kept_view (drop l.value-index l.values))
