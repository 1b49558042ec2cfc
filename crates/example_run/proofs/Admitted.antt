-- What is printed is admitted, or nothing is.
use Rattle.std.proofs.Common.{◌≡◌, ◌⊎◌, inl, inr, ℕ, List, [], ◌∷◌, Bool, true, false, Option, Some, None, option_map, option_and_then, codes, refl, sym, ap, ◌∙◌, arith}
use Rattle.std.specs.List.{slice_get}
use Rattle.json_value.specs.View.{value_of}
use Rattle.syntax_trees.specs.Item.{ItemD}
use Rattle.typify_run.specs.Headline.{items_of, report_reads, document_admits}
use Rattle.typify_run.specs.Examine.{as_it_stands}
use Rattle.typify_run.specs.declared.report.Report.{Report}
use Rattle.item_lines.specs.Lines.{named}
use Rattle.example_run.specs.Answers.{IsAnswered, IsNone, IsTold}
use Rattle.example_run.specs.Laws.{ExamplesAreAdmitted, NoneIsAdmitted}

abbrev first_code : List ℕ → ℕ
first_code [] = 0
first_code (c ∷ cs) = c

-- no line that begins with `outside` is `none`
other_line : (o : Option (List ℕ)) → codes "none\n" ≡ named (codes "outside") o → ⊥
other_line None e = let h : 110 ≡ 111 = ap first_code e in absurd (omega (arith, h))
other_line (Some n) e = let h : 110 ≡ 111 = ap first_code e in absurd (omega (arith, h))

none_answered : (r : Report) → IsNone r (codes "none\n") ⊎ IsTold r (codes "none\n") → IsAnswered r None
none_answered r (inl h) = h.answered
none_answered r (inr h) = absurd (other_line (option_and_then (λ i. option_map (λ (d : ItemD). d.name.text) (slice_get (items_of r) i)) h.item) h.told)

unadmitted : (a b : Bool) → (a ≡ true → b ≡ true) → b ≡ false → a ≡ false
unadmitted true b f e = sym (f refl) ∙ e
unadmitted false b f e = refl

pub examples_are_admitted : ExamplesAreAdmitted
examples_are_admitted setting texts schema values r text lawful report none e =
    let x = e.answered.example texts in
    record {
      value = e.value;
      written = e.written;
      small = x.0;
      document = report.document;
      source = report.is_read;
      admitted = report.not_wider lawful none as_it_stands (value_of e.value) x.0 x.1;
    }

pub none_is_admitted : NoneIsAdmitted
none_is_admitted setting texts schema values r lawful report none e = record {
  document = report.document;
  source = report.is_read;
  none = λ v small.
      unadmitted (document_admits texts report.document v) (report_reads texts r as_it_stands v) (report.not_narrower lawful none as_it_stands v small)
      ((none_answered r e).example texts v small);
}
