use Rattle.covers_run.proofs.comparing.no_of.Goals as goal

pub returns : goal.returns
returns c = record { old_node = c.args.old_node.now; new_node = c.args.new_node.now; rule = c.args.broken; way = c.args.way.now; answer = c.requires; told = c.in_ok-page.ensures }
