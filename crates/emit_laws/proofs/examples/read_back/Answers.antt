use Rattle.std.proofs.Common.{refl}
use Rattle.std.specs.Str.{chars}
use Rattle.std.specs.Fmt.{digits}
use Rattle.syntax_parsers.specs.Grammar.{ty_body, path_ty, expr_path_body, path_body, segments_body, segment_body, arguments_body}
use Rattle.syntax_parsers.specs.Read.{levels}
use Rattle.syntax_parsers.specs.Whole.{expr_path_of, type_of}
use Rattle.schema_defs.specs.Location.{place}
use Rattle.type_spellings.specs.Types.{word_type, plain_path, path_of_one, path_of_two}
use Rattle.emit_laws.specs.Examples.{IsReadBack}
use Rattle.emit_defs.specs.Examples.{row_1, row_3, row_4, row_5, row_18, row_20, chain, enums, rules, leading, alike}
use Rattle.emit_laws.proofs.examples.read_back.Goals as goal

of_row_1 : IsReadBack row_1
unfolding chars digits expr_path_of type_of levels ty_body path_ty expr_path_body path_body segments_body segment_body arguments_body word_type plain_path path_of_one path_of_two lib.Utf8.encode
of_row_1 = record { untold = refl; inside = refl; read = refl }

of_row_3 : IsReadBack row_3
unfolding chars digits expr_path_of type_of levels ty_body path_ty expr_path_body path_body segments_body segment_body arguments_body word_type plain_path path_of_one path_of_two lib.Utf8.encode
of_row_3 = record { untold = refl; inside = refl; read = refl }

of_row_4 : IsReadBack row_4
unfolding chars digits expr_path_of type_of levels ty_body path_ty expr_path_body path_body segments_body segment_body arguments_body word_type plain_path path_of_one path_of_two lib.Utf8.encode
of_row_4 = record { untold = refl; inside = refl; read = refl }

of_row_5 : IsReadBack row_5
unfolding chars digits expr_path_of type_of levels ty_body path_ty expr_path_body path_body segments_body segment_body arguments_body word_type plain_path path_of_one path_of_two lib.Utf8.encode
of_row_5 = record { untold = refl; inside = refl; read = refl }

of_row_18 : IsReadBack row_18
unfolding chars digits expr_path_of type_of levels ty_body path_ty expr_path_body path_body segments_body segment_body arguments_body word_type plain_path path_of_one path_of_two lib.Utf8.encode
of_row_18 = record { untold = refl; inside = refl; read = refl }

of_row_20 : IsReadBack row_20
unfolding chars digits expr_path_of type_of levels ty_body path_ty expr_path_body path_body segments_body segment_body arguments_body word_type plain_path path_of_one path_of_two lib.Utf8.encode
of_row_20 = record { untold = refl; inside = refl; read = refl }

of_chain : IsReadBack chain
unfolding chars digits expr_path_of type_of levels ty_body path_ty expr_path_body path_body segments_body segment_body arguments_body word_type plain_path path_of_one path_of_two lib.Utf8.encode
of_chain = record { untold = refl; inside = refl; read = refl }

of_enums : IsReadBack enums
unfolding chars digits place expr_path_of type_of levels ty_body path_ty expr_path_body path_body segments_body segment_body arguments_body word_type plain_path path_of_one path_of_two lib.Utf8.encode
of_enums = record { untold = refl; inside = refl; read = refl }

of_rules : IsReadBack rules
unfolding chars digits place expr_path_of type_of levels ty_body path_ty expr_path_body path_body segments_body segment_body arguments_body word_type plain_path path_of_one path_of_two lib.Utf8.encode
of_rules = record { untold = refl; inside = refl; read = refl }

of_leading : IsReadBack leading
unfolding chars digits expr_path_of type_of levels ty_body path_ty expr_path_body path_body segments_body segment_body arguments_body word_type plain_path path_of_one path_of_two lib.Utf8.encode
of_leading = record { untold = refl; inside = refl; read = refl }

of_alike : IsReadBack alike
unfolding chars digits expr_path_of type_of levels ty_body path_ty expr_path_body path_body segments_body segment_body arguments_body word_type plain_path path_of_one path_of_two lib.Utf8.encode
of_alike = record { untold = refl; inside = refl; read = refl }

pub returns : goal.returns
returns c = record {
  row_1 = of_row_1;
  row_3 = of_row_3;
  row_4 = of_row_4;
  row_5 = of_row_5;
  row_18 = of_row_18;
  row_20 = of_row_20;
  chain = of_chain;
  enums = of_enums;
  rules = of_rules;
  leading = of_leading;
  alike = of_alike;
}
