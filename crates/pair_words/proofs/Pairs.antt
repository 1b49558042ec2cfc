-- How a word over two schemas ends whose text was printed, and what each end says of its input.
use Rattle.std.proofs.Common.{◌≡◌, ◌≢◌, ◌⊎◌, inl, inr, ℕ, List, [], ◌++◌, true≢false, Option, sym, ap, subst, ◌∙◌}
use Rattle.std.proofs.lemmas.Option.{none-some, same_Some}
use Rattle.std.specs.Prelude.{None}
use Rattle.serde_json.specs.Data.{Data}
use Rattle.json_value.specs.Value.{Value}
use Rattle.json_value.specs.View.{value_of}
use Rattle.schema_defs.specs.Faults.{Rises}
use Rattle.schema_tree.specs.Fault.{FaultD, memory, fault_line}
use Rattle.typify_run.specs.declared.report.Report.{Report}
use Rattle.typify_run.proofs.Causes.{no_cause}
use Rattle.schema_words.specs.Input.{IsSchema}
use Rattle.schema_words.specs.Words.{Asking}
use Rattle.schema_words.specs.Said.{Said}
use Rattle.schema_words.specs.Outcome.{IsAnswered, IsAside, IsCaused, IsFaultless, IsLinePrinted, IsReportOn}
use Rattle.schema_words.specs.declared.ended.Ended.{Ended}
use Rattle.schema_words.specs.declared.ended.Ended.TheVariants as ended
use Rattle.schema_words.proofs.Endings.{faultless_ends, line_ends, none_ends, one_schema, silent_ends}
use Rattle.pair_words.specs.Input.{Pair, pair_of, IsPair, IsNoPair}
use Rattle.pair_words.specs.Outcome.{AreReportsOn, Ends, EndsWord, IsAnswerToPair, IsCauseInPair, IsFaultlessPair, IsFirstLine, IsLineOfPair, IsUnbuilt}
use Rattle.pair_words.specs.Steps.{IsFaultPrinted}

-- bytes are one pair
pub one_pair : (all : List ℕ) (p q : Pair) → IsPair all p → IsPair all q → p ≡ q
one_pair all p q a b = same_Some p q (sym a.parts ∙ ap pair_of (one_schema all a.value b.value a.json b.json) ∙ b.parts)

-- a value that is no pair is that of no input
pub no_pair_of : (all : List ℕ) (d : Data) → IsSchema all d → None ≡ pair_of d → IsNoPair all
no_pair_of all d json none p q = none-some p (none ∙ ap pair_of (one_schema all d q.value json q.json) ∙ q.parts)

-- no fault has its cause in a schema that has a report
pub reported_faultless : (c : Asking) (schema : Value) (r : Report) → IsReportOn c schema r → IsFaultless c schema
reported_faultless c schema r on f cause = no_cause c.setting c.texts c.depth schema [] f on.built on.accepted cause

-- the line of a fault that isn't want of memory
pub line_printed : (before after : Option (List ℕ)) (front : List ℕ) (f : FaultD) (end : Ended) → f ≢ memory → IsLinePrinted before after (front ++ fault_line f) end → IsFaultPrinted before after front f end
line_printed before after front f end other (inl m) = inl m
line_printed before after front f end other (inr w) = inr (other, w)

module _ (answers : Report → Report → Said → Type 0) (c : Asking) (all : List ℕ) (before after : Option (List ℕ)) where
  pub fault_ends : (front : List ℕ) (f : FaultD) (end : Ended) → (f ≢ memory → IsLineOfPair c all (front ++ fault_line f)) → IsFaultPrinted before after front f end → Ends answers c all before after end
  fault_ends front f end h (inl m) = subst (λ (o : Ended). Ends answers c all before after o) (sym m.0) (inl m.1)
  fault_ends front f end h (inr (other, w)) = line_ends (IsAnswerToPair answers c) (IsLineOfPair c) IsNoPair all before after (front ++ fault_line f) end (h other) (inr w)

  -- ---- what the input says of the end

  pub no_pair : (end : Ended) → EndsWord answers c all before after end → IsNoPair all → (end ≡ ended.NoInput) ⊎ IsAside end
  no_pair end h none = none_ends (IsAnswerToPair answers c) (IsLineOfPair c) IsNoPair all before after (λ said k. none k.0 k.3) (λ text k. none k.0 k.2) end h

  module _ (p : Pair) (input : IsPair all p) where
    -- no two reports stand on schemas of which one has none
    unreported : ((old new : Report) → AreReportsOn c p old new → ⊥) → (end : Ended) → EndsWord answers c all before after end → (end ≡ ended.Fault) ⊎ IsAside end
    unreported none end h =
        silent_ends (IsAnswerToPair answers c) (IsLineOfPair c) IsNoPair all before after (λ k. k p input)
        (λ said k. none k.1 k.2 (subst (λ (q : Pair). AreReportsOn c q k.1 k.2) (one_pair all k.0 p k.3 input) k.4)) end h

    pub not_built : IsUnbuilt c p → (end : Ended) → EndsWord answers c all before after end → (end ≡ ended.Fault) ⊎ IsAside end
    not_built (inl other) end h = unreported (λ old new on. true≢false (sym on.old_report.built ∙ other)) end h
    not_built (inr other) end h = unreported (λ old new on. true≢false (sym on.new_report.built ∙ other)) end h

    pub faulty : (f : FaultD) → IsCauseInPair c p f → (end : Ended) → EndsWord answers c all before after end → (end ≡ ended.Fault) ⊎ IsAside end
    faulty f (inl cause) end h = unreported (λ old new on. reported_faultless c (value_of p.old) old on.old_report f cause) end h
    faulty f (inr cause) end h = unreported (λ old new on. reported_faultless c (value_of p.new) new on.new_report f cause) end h

    module _ (none : IsFaultlessPair c p) (judge : Rises c.before c.after → ⊥) where
      uncaused : (schema : Value) → IsFaultless c schema → (f : FaultD) → IsCaused c schema f → ⊥
      uncaused schema clean f (other, inl t, plain) = judge t.1.2.3
      uncaused schema clean f (other, inr k, plain) = clean f k

      unlined : (f : FaultD) (text : List ℕ) → IsFirstLine c p f text → ⊥
      unlined f text (inl k) = uncaused (value_of p.old) none.0 f k.0
      unlined f text (inr k) = uncaused (value_of p.new) none.1 f k.1

      pub undisturbed : (end : Ended) → EndsWord answers c all before after end → end ≢ ended.OtherWords → end ≢ ended.ReadFault → end ≢ ended.WriteFault → IsAnswered end
      undisturbed end h words reads writes =
          faultless_ends (IsAnswerToPair answers c) (IsLineOfPair c) IsNoPair all before after (λ k. k p input)
          (λ text k. unlined k.1 text (subst (λ (q : Pair). IsFirstLine c q k.1 text) (one_pair all k.0 p k.2 input) k.3)) end h words reads writes
