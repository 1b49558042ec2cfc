use Rattle.std.proofs.Common.{◌≡◌, ℕ, [], List, Bool, true, false, subst, sym, ◌∙◌}
use Rattle.std.specs.Prelude.{Option}
use Rattle.line_reader.specs.Reading.{IsBegun, IsFound, IsPart, IsSpentBy}
use Rattle.line_reader.specs.State.{count_of, held, line_in}
use Rattle.line_reader.specs.declared.found.Found.{Found}
use Rattle.line_reader.proofs.Begun.{more, ended, opened, stopped, overrun, last, found_at, of_fault, none_of}
use Rattle.line_reader.proofs.reader.LineReader.read_on.Goals as goal

pub returns-then-count-eq0-clause-found : goal.returns-then-count-eq0-clause-found
returns-then-count-eq0-clause-found g c = λ old left count b.
    let now = c.args.self.now in
    let new = c.fill.new.self in
    let left' = g.S.Source.left c.args.source.now in
    let left'' = g.S.Source.left c.fill.new.source in
    let nothing : held new ≡ [] = none_of (held new) c.in_ok-count.count c.in_ok-count.ensures.count c.if-count-eq0.true in
    let s = last old (held now) (held new) left left' left'' count (count_of now) (count_of new) (line_in now) b c.requires c.in_ok-count.ensures.read nothing (c.in_ok-count.ensures.end c.if-count-eq0.true) in
    let t = subst (λ (l : Option (List ℕ)). IsSpentBy old (held new) left left'' count (count_of new) l) (sym c.in_ok-count.ensures.line) s in
    subst (λ (f : Found). IsFound old (held new) left left'' count (count_of new) (line_in new) f) (sym c.found_last.ensures) (found_at old (held new) left left'' count (count_of new) (line_in new) t)

pub returns-then-ended-clause-found : goal.returns-then-ended-clause-found
returns-then-ended-clause-found g c = λ old left count b.
    let now = c.args.self.now in
    let mid = c.fill.new.self in
    let new = c.take.new.self in
    let left' = g.S.Source.left c.args.source.now in
    let left'' = g.S.Source.left c.fill.new.source in
    let m = more old (held now) (held mid) left left' left'' count (count_of now) (count_of mid) (line_in now) b c.requires c.in_ok-count.ensures.read in
    let k = subst (λ (l : Option (List ℕ)). IsBegun old (held mid) left left'' count (count_of mid) l) (sym c.in_ok-count.ensures.line) m in
    let n = subst (λ (x : ℕ). IsBegun old (held mid) left left'' count x (line_in mid)) (sym c.in_ok-ended.ensures.count) k in
    ended old (held mid) (held new) left left'' count (count_of new) (line_in mid) (line_in new) n
    (subst (λ (t : Bool). IsPart (held mid) (held new) (line_in mid) (line_in new) t) c.if-ended.true c.in_ok-ended.ensures.part)

pub returns-else-ended-clause-more : goal.returns-else-ended-clause-more
returns-else-ended-clause-more g c = λ old left count b.
    let now = c.args.self.now in
    let mid = c.fill.new.self in
    let new = c.take.new.self in
    let left' = g.S.Source.left c.args.source.now in
    let left'' = g.S.Source.left c.fill.new.source in
    let m = more old (held now) (held mid) left left' left'' count (count_of now) (count_of mid) (line_in now) b c.requires c.in_ok-count.ensures.read in
    let k = subst (λ (l : Option (List ℕ)). IsBegun old (held mid) left left'' count (count_of mid) l) (sym c.in_ok-count.ensures.line) m in
    let n = subst (λ (x : ℕ). IsBegun old (held mid) left left'' count x (line_in mid)) (sym c.in_ok-ended.ensures.count) k in
    opened old (held mid) (held new) left left'' count (count_of new) (line_in mid) (line_in new) n
    (subst (λ (t : Bool). IsPart (held mid) (held new) (line_in mid) (line_in new) t) c.if-ended.false c.in_ok-ended.ensures.part)

pub returns-in_err-count-clause-failed : goal.returns-in_err-count-clause-failed
returns-in_err-count-clause-failed g c = λ old left count b e.
    let now = c.args.self.now in
    let new = c.fill.new.self in
    stopped old (held now) (held new) left (g.S.Source.left c.args.source.now) (g.S.Source.left c.fill.new.source) count (count_of now) (count_of new) (line_in now) b c.requires
    (c.in_err-count.ensures.failed (of_fault _ _ _ c.from_residual.ensures.1 e))

pub returns-in_err-count-clause-too_long : goal.returns-in_err-count-clause-too_long
returns-in_err-count-clause-too_long g c = λ old left count b e.
    let now = c.args.self.now in
    let new = c.fill.new.self in
    overrun old (held now) (held new) left (g.S.Source.left c.args.source.now) (g.S.Source.left c.fill.new.source) count (count_of now) (count_of new) (line_in now) b c.requires
    (c.in_err-count.ensures.too_long (of_fault _ _ _ c.from_residual.ensures.1 e))
