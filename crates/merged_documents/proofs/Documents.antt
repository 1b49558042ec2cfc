-- Documents that were read, and their conversion where rows may merge.
use Rattle.std.proofs.Common.{sym}
use Rattle.naming_defs.specs.Good.{is_good_name}
use Rattle.naming_defs.proofs.Good.{numbered_names_are_good}
use Rattle.naming_defs.proofs.Fresh.{names_are_good}
use Rattle.naming_defs.proofs.Sound.{named_tables_are_sound}
use Rattle.naming_defs.proofs.Meaning.{naming_keeps_meaning}
use Rattle.convert_defs.proofs.Keeps.{keep-to}
use Rattle.convert_walks.specs.Tree.{table_of}
use Rattle.conversion_laws.proofs.Conversion.{conversion_agrees_with_merges, root_agrees_with_merges}
use Rattle.document_laws.proofs.Proper.{documents_are_proper}
use Rattle.merged_documents.specs.Laws.{ReadDocumentsAgree, ReadRootsAgree, ReadTablesAreFit, ReadDocumentsArePlanned, ReadPlansAgree}
use Rattle.merged_documents.proofs.Mergeable.{read_documents_may_merge}
use Rattle.merged_documents.proofs.Fit.{is-fit}

pub read_documents_agree : ReadDocumentsAgree
read_documents_agree way r lawful d most n w c v s =
    conversion_agrees_with_merges way r lawful d most n w.read.guarded (read_documents_may_merge d w) (documents_are_proper d w) c.faultless c.noteless v s

pub read_roots_agree : ReadRootsAgree
read_roots_agree way r lawful d most n w c v s =
    root_agrees_with_merges way r lawful d most n w.read.guarded (read_documents_may_merge d w) (documents_are_proper d w) c.faultless c.noteless v s

pub read_tables_are_fit : ReadTablesAreFit
read_tables_are_fit r d most n w = is-fit r d most n (documents_are_proper d w) w.read.guarded

pub read_documents_are_planned : ReadDocumentsArePlanned
read_documents_are_planned r d most n w = record {
  sound = named_tables_are_sound is_good_name (table_of r d most n) (read_tables_are_fit r d most n w);
  named = names_are_good is_good_name (table_of r d most n) numbered_names_are_good;
}

pub read_plans_agree : ReadPlansAgree
read_plans_agree way r lawful d most n w c v s =
    keep-to way _ _ _ (read_roots_agree way r lawful d most n w c v s) (sym (naming_keeps_meaning is_good_name (table_of r d most n) r v))
