-- The items of a document that was read have sound defaults, once they are named.
use Rattle.naming_defs.specs.Good.{is_good_name}
use Rattle.convert_walks.specs.Tree.{table_of}
use Rattle.merged_documents.specs.Laws.{plan_of}
use Rattle.merged_documents.proofs.Documents.{read_documents_are_planned}
use Rattle.default_laws.specs.Laws.{EndedIsSound, NamedStillEnd}
use Rattle.default_documents.specs.Laws.{ReadDefaultsAreSound}
use Rattle.default_documents.proofs.Trees.{stated_defaults_end}

pub sound_defaults : NamedStillEnd → EndedIsSound → ReadDefaultsAreSound
sound_defaults stay sound r d most n w f u =
    sound (plan_of r d most n) (read_documents_are_planned r d most n w).sound r (stay is_good_name (table_of r d most n) r (stated_defaults_end r d most n f u))
