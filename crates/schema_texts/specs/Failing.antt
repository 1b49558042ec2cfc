-- What a judge that fails at given calls answers by, and what it counts.
use Rattle.std.specs.Prelude.{ℕ, List}
use Rattle.schema_defs.specs.Texts.{Relations}
use Rattle.schema_texts.specs.declared.failing.FailingTexts.{FailingTexts}
use Rattle.schema_texts.specs.Table.{plain_relations}

-- the relations of the judge in it
abbrev pub failing_relations : FailingTexts → Relations
failing_relations t = plain_relations t.inner

-- the numbers of the calls that fail, the number of the next call, and how many calls failed
abbrev pub failing_calls : FailingTexts → List ℕ
failing_calls t = t.schedule.failing.items

abbrev pub next_call : FailingTexts → ℕ
next_call t = t.schedule.calls

abbrev pub failing_faults : FailingTexts → ℕ
failing_faults t = t.schedule.faults
