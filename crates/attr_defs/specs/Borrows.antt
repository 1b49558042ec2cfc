-- Lifetimes that are borrowed (serde.rs, field attributes, `borrow`).
use Rattle.std.specs.Prelude.{ℕ, ◌++◌, ◌&&◌, List, [], ◌∷◌, Bool, true, false, not, Option, Some, None, Result, Ok, Err, cond, codes, length, nat_eq}
use Rattle.std.specs.List.{list_any}
use Rattle.std.specs.Str.{bytes_eq, chars}
use Rattle.token_trees.specs.declared.token.Span.{Span}
use Rattle.token_trees.specs.Token.{Tok, Name, span_of, span_of_all}
use Rattle.syntax_trees.specs.declared.cursor.SyntaxError.{SyntaxError}
use Rattle.syntax_trees.specs.Metas.{sign_next, is_sign, is_joint_sign, is_word}
use Rattle.syntax_trees.specs.Syntax.{LitStrD, LifetimeD}
use Rattle.syntax_trees.specs.Item.{VariantD, FieldD, FieldsD, named_fields, unnamed_fields, unit_fields}
use Rattle.syntax_parsers.specs.Lifetimes.{lifetimes_of, name_of}
use Rattle.attr_parts.specs.Diagnostics.{KindD, borrow_place, no_lifetimes, lacks_lifetime, bad_lifetimes, repeated_lifetime, no_lifetime_given}
use Rattle.attr_parts.specs.Lifetimes as types
use Rattle.attr_parts.specs.Places.{place_of, variant_spans, field_spans}
use Rattle.attr_defs.specs.Acts.{ActD, sets, is_flag, are_lifetimes, ValueD}
use Rattle.attr_defs.specs.Steps.{Step, gives, does, notes, ◌>>=◌}
use Rattle.attr_defs.specs.Texts.{Lexing, string_step}
use Rattle.attr_defs.specs.Owners.{OwnerD, of_container, of_variant, of_field, whole, told_at}

-- the lifetimes that are read before the first place where one, or a `+`, is missing
abbrev pub lifetimes_before : List Tok → List LifetimeD
lifetimes_before [] = []
lifetimes_before (t ∷ []) = []
lifetimes_before (t ∷ u ∷ []) = cond (is_joint_sign 39 t && is_word u) (record { name = name_of u; span = span_of t } ∷ []) []
lifetimes_before (t ∷ u ∷ v ∷ ts) =
    cond (is_joint_sign 39 t && is_word u) (record { name = name_of u; span = span_of t } ∷ cond (is_sign 43 v) (lifetimes_before ts) []) []

-- a lifetime as it is written, with its quote
abbrev pub lifetime_text : LifetimeD → List ℕ
lifetime_text l = 39 ∷ l.name.text

abbrev pub has_lifetime : List LifetimeD → LifetimeD → Bool
has_lifetime ls l = list_any (λ m. bytes_eq m.name.text l.name.text) ls

abbrev pub told_where : Bool → KindD → Span → List ActD
told_where true k at = told_at k at
told_where false k at = []

-- each that stands among those before it
abbrev pub repeats_told : Span → List LifetimeD → List LifetimeD → List ActD
repeats_told at before [] = []
repeats_told at before (l ∷ ls) = told_where (has_lifetime before l) (repeated_lifetime (lifetime_text l)) at ++ repeats_told at (before ++ l ∷ []) ls

abbrev pub set_of : List LifetimeD → List LifetimeD
set_of ls = types.added [] ls

abbrev pub lifetimes_by : LitStrD → Result (List LifetimeD) SyntaxError → Step (List LifetimeD)
lifetimes_by l (Ok []) = notes (record { kind = no_lifetime_given; span = l.span }) []
lifetimes_by l (Ok (x ∷ xs)) = gives (set_of (x ∷ xs))
lifetimes_by l (Err e) = notes (record { kind = bad_lifetimes l.text; span = l.span }) []

abbrev pub lifetimes_read : LitStrD → Option (List Tok) → Step (List LifetimeD)
lifetimes_read l None = notes (record { kind = bad_lifetimes l.text; span = l.span }) []
lifetimes_read l (Some ts) = does (repeats_told l.span [] (lifetimes_before ts)) ts >>= λ us. lifetimes_by l (lifetimes_of us)

abbrev pub lifetimes_in : Lexing → Option LitStrD → Step (List LifetimeD)
lifetimes_in lexing None = gives []
lifetimes_in lexing (Some l) = lifetimes_read l (lexing (chars l.text) l.span)

-- a string whose text is lifetimes; any other value is told, and stands for none of them
abbrev pub lifetimes_step : Lexing → List ℕ → Span → List Tok → Step (List LifetimeD)
lifetimes_step lexing name end rest = string_step name name end rest >>= lifetimes_in lexing

abbrev pub is_newtype : FieldsD → Bool
is_newtype (named_fields fs) = false
is_newtype (unnamed_fields fs) = nat_eq (length fs) 1
is_newtype unit_fields = false

-- what is asked for: some lifetimes, or all
abbrev pub borrow_value : Option (List LifetimeD) → ValueD
borrow_value None = is_flag
borrow_value (Some ls) = are_lifetimes ls

-- each that the field lacks is told at the field
abbrev pub lacks_told : FieldD → Name → List LifetimeD → List LifetimeD → List ActD
lacks_told f n held [] = []
lacks_told f n held (l ∷ ls) = told_where (not (has_lifetime held l)) (lacks_lifetime n.text (lifetime_text l)) (place_of (field_spans f)) ++ lacks_told f n held ls

abbrev pub borrow_held : FieldD → Name → Span → List LifetimeD → Option (List LifetimeD) → List ActD
borrow_held f n at [] o = told_at (no_lifetimes n.text) (place_of (field_spans f))
borrow_held f n at (h ∷ hs) None = sets (whole (codes "borrow")) at (are_lifetimes (set_of (h ∷ hs))) ∷ []
borrow_held f n at (h ∷ hs) (Some ls) = lacks_told f n (h ∷ hs) ls ++ sets (whole (codes "borrow")) at (are_lifetimes ls) ∷ []

-- what a field borrows: all the lifetimes of its type, or those that are given
abbrev pub field_borrow : FieldD → Name → Span → Option (List LifetimeD) → List ActD
field_borrow f n at o = borrow_held f n at (types.lifetimes_of f.ty) o

-- the same at a variant, which hands it on to its one field
abbrev pub variant_borrow : VariantD → Span → Option (List LifetimeD) → List ActD
variant_borrow v at o = cond (is_newtype v.fields) (sets (whole (codes "borrow")) at (borrow_value o) ∷ []) (told_at borrow_place (place_of (variant_spans v)))

abbrev pub borrow_set : OwnerD → Span → Option (List LifetimeD) → List ActD
borrow_set (of_container i) at o = []
borrow_set (of_variant v) at o = variant_borrow v at o
borrow_set (of_field f n) at o = field_borrow f n at o

abbrev pub borrow_step : Lexing → OwnerD → List ℕ → List Tok → Span → List Tok → Step (List Tok)
borrow_step lexing o name p end rest =
    cond (sign_next 61 rest) (lifetimes_step lexing name end rest >>= λ ls. does (borrow_set o (span_of_all p) (Some ls)) [])
    (does (borrow_set o (span_of_all p) None) rest)
