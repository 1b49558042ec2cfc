-- What the texts in emitted attributes are read as: the paths of functions, and types.
use Rattle.std.specs.Prelude.{◌≡◌, ℕ, ◌++◌, List, [], ◌∷◌, map, Bool, true, false, Ok, ⊤, codes}
use Rattle.token_trees.specs.Token.{site}
use Rattle.token_trees.specs.Text.{text_of}
use Rattle.syntax_trees.specs.Syntax.{LitStrD, TyD, segment, no_arguments, path, ExprPathD, expr_path, no_qself, segments_of}
use Rattle.syntax_printing.specs.Print.{print_ty}
use Rattle.syntax_parsers.specs.Whole as whole
use Rattle.syntax_parsers.specs.Whole.{expr_path_of}
use Rattle.attr_defs.specs.Texts.{lexed, read_text}
use Rattle.schema_defs.specs.Location.{place}
use Rattle.type_spellings.specs.Types as types
use Rattle.entry_defs.specs.Entry.{Target, Entry, option_entry, vec_entry, set_entry, map_entry, tuple_entry, array_entry, reference, item, Entries, no_entries, entry_then, entry_again}
use Rattle.naming_defs.specs.Good.{is_good_name}
use Rattle.emit_defs.specs.Models.{Empty, empty_option, empty_vec, empty_set, empty_map}
use Rattle.emit_defs.specs.Trees.{name_at, entry_ty, empty_path}
use Rattle.emit_defs.specs.Formed.{EntryIsFormed}

-- the literal that an emitted attribute has
abbrev pub literal : List ℕ → LitStrD
literal x = record { text = x; suffix = []; span = site }

-- a path of names, with a first `::` or without
abbrev pub function_at : Bool → List (List ℕ) → ExprPathD
function_at rooted ns = expr_path no_qself (path rooted (segments_of (map (λ n. segment (name_at n) no_arguments) ns)))

abbrev pub some_function : ExprPathD
some_function = function_at false (codes "typify_present" ∷ codes "some" ∷ [])

abbrev pub whole_function : ExprPathD
whole_function = function_at false (codes "typify_present" ∷ codes "whole" ∷ [])

-- of the default at that place
abbrev pub default_function : ℕ → ExprPathD
default_function n = function_at false (codes "typify_defaults" ∷ (codes "d" ++ place n) ∷ [])

abbrev pub empty_function : Empty → ExprPathD
empty_function empty_option = function_at true (codes "std" ∷ codes "option" ∷ codes "Option" ∷ codes "is_none" ∷ [])
empty_function empty_vec = function_at true (codes "std" ∷ codes "vec" ∷ codes "Vec" ∷ codes "is_empty" ∷ [])
empty_function empty_set = function_at true (codes "std" ∷ codes "collections" ∷ codes "HashSet" ∷ codes "is_empty" ∷ [])
empty_function empty_map = function_at true (codes "std" ∷ codes "collections" ∷ codes "HashMap" ∷ codes "is_empty" ∷ [])

abbrev pub IsFunction : List ℕ → ExprPathD → Type 0
IsFunction x p = read_text lexed expr_path_of (literal x) ≡ Ok p

-- the paths of helpers, of defaults, and of what says that a value is empty
pub record FunctionsAreRead : Type 0 where
  pub some : IsFunction (codes "typify_present::some") some_function
  pub whole : IsFunction (codes "typify_present::whole") whole_function
  pub default : (n : ℕ) → IsFunction (codes "typify_defaults::d" ++ place n) (default_function n)
  pub empty : (x : Empty) → IsFunction (empty_path x) (empty_function x)

-- each item that an entry names has a good name
module _ (name : Target → List ℕ) where
  abbrev mutual
    pub NamesAreGood : Entry → Type 0
    NamesAreGood (option_entry e) = NamesAreGood e
    NamesAreGood (vec_entry e) = NamesAreGood e
    NamesAreGood (set_entry e) = NamesAreGood e
    NamesAreGood (map_entry k e) = NamesAreGood k × NamesAreGood e
    NamesAreGood (tuple_entry es) = AllNamesAreGood es
    NamesAreGood (array_entry e n) = NamesAreGood e
    NamesAreGood (reference q) = is_good_name (name q) ≡ true
    NamesAreGood (item n s) = is_good_name n ≡ true
    NamesAreGood _ = ⊤

    pub AllNamesAreGood : Entries → Type 0
    AllNamesAreGood no_entries = ⊤
    AllNamesAreGood (entry_then e es) = NamesAreGood e × AllNamesAreGood es
    AllNamesAreGood (entry_again es) = AllNamesAreGood es

-- the text of a type is read as one that means the same
abbrev pub TypesAreReadAgain : Type 0
TypesAreReadAgain =
    (name : Target → List ℕ) (is_boxed : List ℕ → Bool) (e : Entry) → EntryIsFormed e → NamesAreGood name e
    → (u : TyD) × (read_text lexed whole.type_of (literal (text_of (print_ty (entry_ty name is_boxed e)))) ≡ Ok u) × (types.type_of u ≡ types.type_of (entry_ty name is_boxed e))
