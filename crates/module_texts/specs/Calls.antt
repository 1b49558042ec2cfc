-- A call of `typify_present` with the value and a literal. Lines are broken as rustfmt does: the arguments stand on lines of their own where both have more than 60 characters, and the
-- literal's line at most 100.
use Rattle.std.specs.Prelude.{ℕ, List, ◌++◌, length, Bool, ◌&&◌, nat_le, nat_lt, chars, codes, if◌then◌else◌}

abbrev pub plain_call : List ℕ → List ℕ → List ℕ
plain_call call literal = codes "        typify_present::" ++ (call ++ (codes "(&value, " ++ (literal ++ codes ")?;\n")))

abbrev pub broken_call : List ℕ → List ℕ → List ℕ
broken_call call literal = codes "        typify_present::" ++ (call ++ (codes "(\n            &value,\n            " ++ (literal ++ codes ",\n        )?;\n")))

-- beside 8 characters of `&value, `; behind 12 blanks and before a comma
abbrev pub is_broken : List ℕ → Bool
is_broken literal = nat_lt 52 (length (chars literal)) && nat_le (length (chars literal)) 87

abbrev pub call_line : List ℕ → List ℕ → List ℕ
call_line call literal = if is_broken literal then broken_call call literal else plain_call call literal
