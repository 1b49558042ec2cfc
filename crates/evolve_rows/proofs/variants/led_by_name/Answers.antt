use Rattle.std.proofs.Common.{◌≡◌, Some, None, ap, ◌∙◌, string_bytes}
use Rattle.name_tables.specs.Names.{place_of}
use Rattle.value_models.specs.Names.{variant_names}
use Rattle.value_models.specs.ContainerView.{variants_in}
use Rattle.value_models.specs.VariantView.{variant_view}
use Rattle.evolve_rows.proofs.Leading.{named_led, unnamed_led}
use Rattle.evolve_rows.proofs.variants.led_by_name.Goals as goal

pub returns-in-Some : goal.returns-in-Some
returns-in-Some c =
    let at : Some c.in-Some.place ≡ place_of (string_bytes c.args.old.now.serialize_name) (variant_names 0 (variants_in c.args.new.now)) =
    c.in-Some.ensures ∙ ap (λ n. place_of n (variant_names 0 (variants_in c.args.new.now))) c.deref.ensures in
    named_led c.args.beside c.args.old_home.now c.args.home.now c.args.number (variant_view c.args.old.now) (variants_in c.args.new.now) c.in-Some.place _ at c.led_to.ensures

pub returns-in-None : goal.returns-in-None
returns-in-None c =
    let at : None ≡ place_of (string_bytes c.args.old.now.serialize_name) (variant_names 0 (variants_in c.args.new.now)) =
    c.in-None.ensures ∙ ap (λ n. place_of n (variant_names 0 (variants_in c.args.new.now))) c.deref.ensures in
    unnamed_led c.args.beside c.args.old_home.now c.args.home.now c.args.number (variant_view c.args.old.now) (variants_in c.args.new.now) at
