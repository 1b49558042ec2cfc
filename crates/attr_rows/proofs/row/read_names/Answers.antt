use Rattle.std.proofs.Common.{refl, ◌∷◌, []}
use Rattle.attr_defs.specs.Acts.{offers, adds, is_name}
use Rattle.attr_defs.specs.Owners.{read}
use Rattle.attr_defs.specs.Rows.{literal_name, names_read}
use Rattle.attr_acts.specs.Views.{text_view}
use Rattle.attr_acts.specs.HalfViews.{given_view}
use Rattle.attr_acts.proofs.Loops.{more_acts}
use Rattle.attr_rows.proofs.Items.{mapped_get}
use Rattle.attr_rows.proofs.row.read_names.Goals as goal

pub loop-given-preserved : goal.loop-given-preserved
loop-given-preserved c =
    let l = c.loop-given in
    let n = c.args.name.0.now in
    more_acts (names_read n) (λ x. offers (read n) (is_name (literal_name x.value)) ∷ adds (literal_name x.value) ∷ []) (λ m ms. refl) _ _ _ _ _ _ l.invariant (mapped_get (given_view text_view) c.args.texts.now l.given-index _ c.loop-given-test.true) c.in_ok-read_name.ensures
