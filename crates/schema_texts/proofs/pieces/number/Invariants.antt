-- The text is digits, and the value is the number that those before the index write.
use Rattle.std.proofs.Common.{◌≡◌, ◌^◌, ◌<◌, ◌≤◌, true, length, take}
use Rattle.std.specs.List.{list_all}
use Rattle.std.specs.Char.{is_ascii_digit}
use Rattle.schema_defs.specs.Formats.{number_of}
use Rattle.schema_texts.proofs.pieces.number.Given as goal

abbrev pub invariant-loop-digit : goal.invariant-loop-digit
invariant-loop-digit l = record {
  digits : list_all is_ascii_digit l.text ≡ true;
  few : length l.text ≤ 4;
  value : l.value ≡ number_of (take l.digit-index l.text);
  small : l.value < 10 ^ l.digit-index;
}
