use Rattle.derive_ast.proofs.Rows.{all_told}
use Rattle.derive_ast.proofs.container.Data.all_fields.Goals as goal

pub returns-clause-told : goal.returns-clause-told
returns-clause-told c = all_told c.args.self.now
