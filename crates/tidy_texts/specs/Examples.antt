-- Small texts, and what they become.
use Rattle.std.specs.Prelude.{◌≡◌, ◌++◌, codes, encode_utf8}
use Rattle.tidy_texts.specs.Tidy.{tidy}
use Rattle.tidy_texts.specs.Comment.{comment, doc_comment}

pub record Texts : Type 0 where
  pub name : tidy (codes "i64") ≡ codes "i64"
  pub path : tidy (codes ":: std :: option :: Option < :: std :: vec :: Vec < u8 > >") ≡ codes "::std::option::Option<::std::vec::Vec<u8>>"
  pub map : tidy (codes ":: std :: collections :: HashMap < :: std :: string :: String , Item >") ≡ codes "::std::collections::HashMap<::std::string::String, Item>"
  pub tuple : tidy (codes "( i64 , :: std :: string :: String , )") ≡ codes "(i64, ::std::string::String,)"
  pub array : tidy (codes "[ Item ; 3 ]") ≡ codes "[Item; 3]"
  pub attribute : tidy (codes "# [ serde ( rename = \"a , \\\" ( b\" , default ) ]") ≡ codes "#[serde(rename = \"a , \\\" ( b\", default)]"
  pub empty_comment : comment (codes "") ≡ codes ""
  pub two_lines : comment (codes "a\nb c\n") ≡ codes "// a\n// b c\n"
  pub escapes : comment (codes "a\r" ++ (encode_utf8 8238 ++ codes "b\n")) ≡ codes "// a\\r\\u{202e}b\n"
  pub empty_doc : doc_comment (codes "") ≡ codes ""
  pub doc_lines : doc_comment (codes "A\n\nb c") ≡ codes "/// A\n///\n/// b c\n"
  pub doc_ended : doc_comment (codes "a\n") ≡ codes "/// a\n"
  pub doc_escapes : doc_comment (codes "a\r\n" ++ encode_utf8 8297) ≡ codes "/// a\\r\n/// \\u{2069}\n"
