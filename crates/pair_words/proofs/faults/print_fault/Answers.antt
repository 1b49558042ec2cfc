use Rattle.std.proofs.Common.{sym, true≢false}
use Rattle.schema_tree.specs.Fault.{fault_view}
use Rattle.pair_words.proofs.Pairs.{line_printed}
use Rattle.pair_words.proofs.faults.print_fault.Goals as goal

pub returns-else-is_memory-clause-ends : goal.returns-else-is_memory-clause-ends
returns-else-is_memory-clause-ends g c =
    line_printed (g.K.Sink.written c.args.sink.now) (g.K.Sink.written c.print_line.new.sink) c.args.front.now (fault_view c.args.fault.now) c.print_line.result (λ e. absurd (true≢false (sym (c.if-is_memory.ensures.1 e)))) c.print_line.ensures.ends
