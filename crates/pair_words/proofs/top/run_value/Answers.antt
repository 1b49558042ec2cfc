use Rattle.std.proofs.Common.{refl, sym}
use Rattle.serde_json.specs.View.{view}
use Rattle.pair_words.proofs.Pairs.{no_pair_of}
use Rattle.pair_words.proofs.top.run_value.Goals as goal

pub returns-in-Some-clause-ends : goal.returns-in-Some-clause-ends
returns-in-Some-clause-ends g c = λ all json. c.run_schemas.ensures.ends all (record { value = view c.args.value.now; json = json; parts = sym c.in-Some.ensures })

pub returns-in-None-clause-ends : goal.returns-in-None-clause-ends
returns-in-None-clause-ends g c = λ all json. (no_pair_of all (view c.args.value.now) json c.in-None.ensures, refl)
