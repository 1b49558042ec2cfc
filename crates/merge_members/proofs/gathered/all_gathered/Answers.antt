use Rattle.std.proofs.Common.{refl}
use Rattle.schema_types.specs.View.{properties_view}
use Rattle.merge_parts.specs.View.{notes_view}
use Rattle.merge_members.specs.Plans.{properties_in}
use Rattle.merge_members.proofs.Endings.{all_there}
use Rattle.merge_members.proofs.gathered.all_gathered.Goals as goal

pub returns : goal.returns
returns c = all_there (λ m. properties_view m.entries) c.args.is_object (properties_in c.args.gathered) c.args.gathered.clashes (notes_view c.args.notes.now.items) c.args.gathered.properties c.if-clashes.false refl
