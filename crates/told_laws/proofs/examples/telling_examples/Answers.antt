use Rattle.std.proofs.Common.{refl}
use Rattle.schema_defs.specs.Location.{place}
use Rattle.schema_defs.specs.Read.{document_of, definitions_of, schema_of, plain_of, numbers_of, texts_of, same_of, lists_of, named_of}
use Rattle.told_laws.proofs.examples.telling_examples.Goals as goal

pub returns : goal.returns
unfolding place document_of definitions_of schema_of plain_of numbers_of texts_of same_of lists_of named_of
returns c = record {
  without_notes = record { noted = refl; members_say = refl; answer_says = refl };
  without_notes_nothing_else = record { noted = refl; members_say = refl; answer_says = refl };
  a_narrowed_note = record { noted = refl; members_say = refl; answer_says = refl };
  a_widened_note = record { noted = refl; members_say = refl; answer_says = refl };
  as_they_are_found = refl;
  each_once_in_order = refl;
  what_is_left_is_noted_at_the_first = refl;
  a_body_is_noted_at_its_own_place = refl;
  conditionals_are_refused_at_the_first = refl;
}
