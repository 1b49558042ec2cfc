use Rattle.rust_run.proofs.laws.always_a_page.Goals as goal

pub returns : goal.returns
returns c a all before after h = h.1.4
