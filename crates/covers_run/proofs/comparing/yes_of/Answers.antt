use Rattle.covers_run.proofs.comparing.yes_of.Goals as goal

pub returns : goal.returns
returns c = record { answer = c.requires; told = c.in_ok-page.ensures }
