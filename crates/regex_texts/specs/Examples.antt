-- Worked examples: texts that have a pattern, and texts that don't.
use Rattle.std.specs.Prelude.{◌≡◌, true, false, codes}
use Rattle.regex_texts.specs.Search.{matches}

pub record SearchExamples : Type 0 where
  pub empty : matches (codes "") (codes "") ≡ true
  pub within : matches (codes "b") (codes "abc") ≡ true
  pub either : matches (codes "a|bc") (codes "bc") ≡ true
  pub neither : matches (codes "a|bc") (codes "cb") ≡ false
  pub twice : matches (codes "a{2}") (codes "aa") ≡ true
  pub once : matches (codes "a{2}") (codes "a") ≡ false
  pub some : matches (codes "ab*c") (codes "abbc") ≡ true
  pub punctuation : matches (codes "\\.") (codes "a") ≡ false
  pub lazy : matches (codes "a+?") (codes "ba") ≡ true
  pub no_capture : matches (codes "(?:a|b)c") (codes "bc") ≡ true
  pub brace : matches (codes "a{,2}") (codes "aa") ≡ false
  pub code : matches (codes "\\x41") (codes "bA") ≡ true
  pub repeated_twice : matches (codes "a**") (codes "a") ≡ false

pub record EndExamples : Type 0 where
  pub whole : matches (codes "^ab$") (codes "ab") ≡ true
  pub front : matches (codes "^ab$") (codes "abc") ≡ false
  pub back : matches (codes "b$") (codes "ab") ≡ true
  pub denied : matches (codes "^(?!ab)a") (codes "ac") ≡ true
  pub denied_there : matches (codes "^(?!ab)a") (codes "ab") ≡ false
  pub own_missing : matches (codes "^(?!ab)a") (codes "ba") ≡ false
  pub asked : matches (codes "^(?=ab|c)(?!ac)a") (codes "ab") ≡ true
  pub second_denied : matches (codes "^(?=a)(?!ac)a") (codes "ac") ≡ false
  pub first_missing : matches (codes "^(?=ab|c)(?!ac)a") (codes "aa") ≡ false
  pub before_the_end : matches (codes "^a*(?<!aa)$") (codes "a") ≡ true
  pub denied_at_the_end : matches (codes "^a*(?<!aa)$") (codes "aa") ≡ false
  pub within : matches (codes "^a(?=b)") (codes "ab") ≡ false
