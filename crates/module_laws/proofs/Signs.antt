-- The signs and words between the parts of an item.
use Rattle.std.proofs.Common.{◌≡◌, ℕ, List, [], ◌∷◌, refl, codes, encode_utf8_all}
use Rattle.unicode_ident.proofs.Computing.{unicode_ident}
use Rattle.token_trees.specs.declared.token.Delimiter.TheVariants.{Parenthesis, Brace, Bracket}
use Rattle.token_trees.specs.declared.token.Spacing.{Spacing}
use Rattle.token_trees.specs.declared.token.Spacing.TheVariants.{Alone}
use Rattle.token_trees.specs.Text.{Piece, name, sign, opens, closes}
use Rattle.rust_tokens.specs.Front.{spacing_of}
use Rattle.tidy_laws.proofs.Classes.{IsStop, words_apart}
use Rattle.module_laws.proofs.Joins.{IsBefore, IsStopping}
use lib.Utf8.{scalars}

pub nothing : IsBefore [] []
nothing = record { codes = []; bytes = refl; scalar_values = refl; reads = λ t. ([], refl, refl) }

line_stops : IsStop 10
unfolding unicode_ident
line_stops = record { word = refl; hash = refl }

blank_stops : IsStop 32
blank_stops = record { word = words_apart.at32; hash = refl }

comma_stops : IsStop 44
comma_stops = record { word = words_apart.at44; hash = refl }

colon_stops : IsStop 58
colon_stops = record { word = words_apart.at58; hash = refl }

semicolon_stops : IsStop 59
semicolon_stops = record { word = words_apart.at59; hash = refl }

opening_stops : IsStop 40
opening_stops = record { word = words_apart.at40; hash = refl }

closing_stops : IsStop 41
closing_stops = record { word = words_apart.at41; hash = refl }

-- ---- white space

pub newline : IsStopping (codes "\n") []
unfolding lib.Utf8.encode
newline = record { before = record { codes = codes "\n"; bytes = refl; scalar_values = refl; reads = λ t. ([], refl, refl) }; stops = λ t. line_stops }

pub space : IsStopping (codes " ") []
unfolding lib.Utf8.encode
space = record { before = record { codes = codes " "; bytes = refl; scalar_values = refl; reads = λ t. ([], refl, refl) }; stops = λ t. blank_stops }

pub four : IsBefore (codes "    ") []
unfolding lib.Utf8.encode
four = record { codes = codes "    "; bytes = refl; scalar_values = refl; reads = λ t. ([], refl, refl) }

pub eight : IsBefore (codes "        ") []
unfolding lib.Utf8.encode
eight = record { codes = codes "        "; bytes = refl; scalar_values = refl; reads = λ t. ([], refl, refl) }

-- ---- words

pub pub_word : IsBefore (codes "pub ") (name (codes "pub") ∷ [])
unfolding lib.Utf8.encode unicode_ident
pub_word = record { codes = codes "pub "; bytes = refl; scalar_values = refl; reads = λ t. (name (codes "pub") ∷ [], (3, refl, refl), refl) }

pub struct_word : IsBefore (codes "struct ") (name (codes "struct") ∷ [])
unfolding lib.Utf8.encode unicode_ident
struct_word = record { codes = codes "struct "; bytes = refl; scalar_values = refl; reads = λ t. (name (codes "struct") ∷ [], (6, refl, refl), refl) }

pub enum_word : IsBefore (codes "enum ") (name (codes "enum") ∷ [])
unfolding lib.Utf8.encode unicode_ident
enum_word = record { codes = codes "enum "; bytes = refl; scalar_values = refl; reads = λ t. (name (codes "enum") ∷ [], (4, refl, refl), refl) }

pub union_word : IsBefore (codes "union ") (name (codes "union") ∷ [])
unfolding lib.Utf8.encode unicode_ident
union_word = record { codes = codes "union "; bytes = refl; scalar_values = refl; reads = λ t. (name (codes "union") ∷ [], (5, refl, refl), refl) }

-- ---- signs

pub comma_line : IsStopping (codes ",\n") (sign 44 Alone ∷ [])
unfolding lib.Utf8.encode unicode_ident
comma_line = record { before = record { codes = codes ",\n"; bytes = refl; scalar_values = refl; reads = λ t. (sign 44 Alone ∷ [], (1, refl, refl), refl) }; stops = λ t. comma_stops }

-- whatever its spacing
pub any_comma_line : (j : Spacing) → IsStopping (codes ",\n") (sign 44 j ∷ [])
unfolding lib.Utf8.encode unicode_ident
any_comma_line j = record { before = record { codes = codes ",\n"; bytes = refl; scalar_values = refl; reads = λ t. (sign 44 Alone ∷ [], (1, refl, refl), refl) }; stops = λ t. comma_stops }

pub comma : IsStopping (codes ", ") (sign 44 Alone ∷ [])
unfolding lib.Utf8.encode unicode_ident
comma = record { before = record { codes = codes ", "; bytes = refl; scalar_values = refl; reads = λ t. (sign 44 Alone ∷ [], (1, refl, refl), refl) }; stops = λ t. comma_stops }

pub colon : IsStopping (codes ": ") (sign 58 Alone ∷ [])
unfolding lib.Utf8.encode unicode_ident
colon = record { before = record { codes = codes ": "; bytes = refl; scalar_values = refl; reads = λ t. (sign 58 Alone ∷ [], (1, refl, refl), refl) }; stops = λ t. colon_stops }

pub colon_line : IsStopping (codes ":\n") (sign 58 Alone ∷ [])
unfolding lib.Utf8.encode unicode_ident
colon_line = record { before = record { codes = codes ":\n"; bytes = refl; scalar_values = refl; reads = λ t. (sign 58 Alone ∷ [], (1, refl, refl), refl) }; stops = λ t. colon_stops }

pub semicolon : IsStopping (codes ";") (sign 59 Alone ∷ [])
unfolding lib.Utf8.encode unicode_ident
semicolon = record { before = record { codes = codes ";"; bytes = refl; scalar_values = refl; reads = λ t. (sign 59 (spacing_of 59 t) ∷ [], (1, refl, refl), refl) }; stops = λ t. semicolon_stops }

-- ---- brackets

pub opening_line : IsStopping (codes " {\n") (opens Brace ∷ [])
unfolding lib.Utf8.encode unicode_ident
opening_line = record { before = record { codes = codes " {\n"; bytes = refl; scalar_values = refl; reads = λ t. (opens Brace ∷ [], (1, refl, refl), refl) }; stops = λ t. blank_stops }

pub closing_brace : IsBefore (codes "}") (closes Brace ∷ [])
unfolding lib.Utf8.encode unicode_ident
closing_brace = record { codes = codes "}"; bytes = refl; scalar_values = refl; reads = λ t. (closes Brace ∷ [], (1, refl, refl), refl) }

pub no_braced : IsStopping (codes " {}") (opens Brace ∷ closes Brace ∷ [])
unfolding lib.Utf8.encode unicode_ident
no_braced = record { before = record { codes = codes " {}"; bytes = refl; scalar_values = refl; reads = λ t. (opens Brace ∷ closes Brace ∷ [], (1, refl, (1, refl, refl)), refl) }; stops = λ t. blank_stops }

pub opening : IsStopping (codes "(") (opens Parenthesis ∷ [])
unfolding lib.Utf8.encode unicode_ident
opening = record { before = record { codes = codes "("; bytes = refl; scalar_values = refl; reads = λ t. (opens Parenthesis ∷ [], (1, refl, refl), refl) }; stops = λ t. opening_stops }

pub closing : IsStopping (codes ")") (closes Parenthesis ∷ [])
unfolding lib.Utf8.encode unicode_ident
closing = record { before = record { codes = codes ")"; bytes = refl; scalar_values = refl; reads = λ t. (closes Parenthesis ∷ [], (1, refl, refl), refl) }; stops = λ t. closing_stops }

pub no_places : IsStopping (codes "()") (opens Parenthesis ∷ closes Parenthesis ∷ [])
unfolding lib.Utf8.encode unicode_ident
no_places = record { before = record { codes = codes "()"; bytes = refl; scalar_values = refl; reads = λ t. (opens Parenthesis ∷ closes Parenthesis ∷ [], (1, refl, (1, refl, refl)), refl) }; stops = λ t. opening_stops }

-- ---- attributes

pub attribute_opening : IsBefore (codes "#[") (sign 35 Alone ∷ opens Bracket ∷ [])
unfolding lib.Utf8.encode unicode_ident
attribute_opening = record { codes = codes "#["; bytes = refl; scalar_values = refl; reads = λ t. (sign 35 Alone ∷ opens Bracket ∷ [], (1, refl, (1, refl, refl)), refl) }

pub arguments_opening : IsStopping (codes "(\n") (opens Parenthesis ∷ [])
unfolding lib.Utf8.encode unicode_ident
arguments_opening = record { before = record { codes = codes "(\n"; bytes = refl; scalar_values = refl; reads = λ t. (opens Parenthesis ∷ [], (1, refl, refl), refl) }; stops = λ t. opening_stops }

pub attribute_closing : IsBefore (codes ")]\n") (closes Parenthesis ∷ closes Bracket ∷ [])
unfolding lib.Utf8.encode unicode_ident
attribute_closing = record { codes = codes ")]\n"; bytes = refl; scalar_values = refl; reads = λ t. (closes Parenthesis ∷ closes Bracket ∷ [], (1, refl, (1, refl, refl)), refl) }
