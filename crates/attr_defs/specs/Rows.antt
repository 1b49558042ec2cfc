-- What each attribute of a container, a variant or a field does (serde.rs, container, variant and field attributes).
use Rattle.std.specs.Prelude.{ℕ, ◌++◌, ◌&&◌, List, [], ◌∷◌, Bool, true, false, not, Option, Some, None, cond, codes, take, ◌||◌}
use Rattle.std.specs.List.{flat_map}
use Rattle.std.specs.Str.{bytes_eq}
use Rattle.token_trees.specs.declared.token.Span.{Span}
use Rattle.token_trees.specs.Token.{Tok, Name, span_of, span_of_all, site}
use Rattle.syntax_trees.specs.declared.cursor.SyntaxKind.TheVariants.{ExpectedComma}
use Rattle.syntax_trees.specs.Metas.{sign_next}
use Rattle.syntax_trees.specs.Syntax.{LitStrD, PathD, path, ExprPathD, expr_path, SegmentD, segment, Segments, end_segments, more_segments, ArgumentsD, no_arguments, angle, parens, end_generics, more_generics}
use Rattle.syntax_trees.specs.Item.{MetaD, named_fields, unnamed_fields, unit_fields, BodyD, struct_body, enum_body, union_body, PredicateD}
use Rattle.syntax_parsers.specs.Whole.{type_of, path_of, expr_path_of}
use Rattle.attr_parts.specs.declared.rename.RenameRule.{RenameRule}
use Rattle.attr_parts.specs.Diagnostics.{KindD, syntax, bad_syntax, unknown_container, unknown_variant, unknown_field, unknown_rule, rename_fields_place, untagged_place, default_unit, default_place, default_path_unit, default_path_place, tag_place, content_place, bad_path, bad_type}
use Rattle.attr_parts.specs.Rules.{rule_of}
use Rattle.attr_parts.specs.Values.{own_default, path_default}
use Rattle.attr_defs.specs.declared.row.Row.{Row}
use Rattle.attr_defs.specs.declared.row.Row.TheVariants as rows
use Rattle.attr_defs.specs.Metas.{PartD, part, unread, metas_of, is_named, path_text}
use Rattle.attr_defs.specs.Acts.{SlotD, ValueD, is_flag, is_plain, is_name, is_rule, is_default, are_predicates, is_ty, is_path, is_function, ActD, sets, offers, adds}
use Rattle.attr_defs.specs.Steps.{Step, gives, does, ends, ◌>>=◌}
use Rattle.attr_defs.specs.Owners.{OwnerD, of_container, of_variant, of_field, whole, written, read, told_at}
use Rattle.attr_defs.specs.Borrows.{borrow_step}
use Rattle.attr_defs.specs.Texts.{Lexing, string_step, parsed, parsed_step, predicates_step}
use Rattle.attr_defs.specs.Halves.{Given, Both, both_step, many_told, only, Pair, pair_step}

-- an attribute by its name, and the form that it has
pub record LineD : Type 0 where
  pub name : List ℕ
  pub row : Row

abbrev line : List ℕ → Row → LineD
line name row = record { name = name; row = row }

abbrev pub container_lines : List LineD
container_lines =
    line (codes "rename") rows.Names
    ∷ line (codes "rename_all") rows.Rules
    ∷ line (codes "rename_all_fields") rows.FieldsRules
    ∷ line (codes "transparent") rows.Flag
    ∷ line (codes "deny_unknown_fields") rows.Flag
    ∷ line (codes "default") rows.ContainerDefault
    ∷ line (codes "bound") rows.Bounds
    ∷ line (codes "untagged") rows.EnumFlag
    ∷ line (codes "tag") rows.Tag
    ∷ line (codes "content") rows.Content
    ∷ line (codes "from") rows.Ty
    ∷ line (codes "try_from") rows.Ty
    ∷ line (codes "into") rows.Ty
    ∷ line (codes "remote") rows.Remote
    ∷ line (codes "field_identifier") rows.Flag
    ∷ line (codes "variant_identifier") rows.Flag
    ∷ line (codes "crate") rows.Path
    ∷ line (codes "expecting") rows.Text
    ∷ []

abbrev pub variant_lines : List LineD
variant_lines =
    line (codes "rename") rows.ManyNames
    ∷ line (codes "alias") rows.Alias
    ∷ line (codes "rename_all") rows.Rules
    ∷ line (codes "skip") rows.Skip
    ∷ line (codes "skip_deserializing") rows.Flag
    ∷ line (codes "skip_serializing") rows.Flag
    ∷ line (codes "other") rows.Flag
    ∷ line (codes "bound") rows.Bounds
    ∷ line (codes "with") rows.With
    ∷ line (codes "serialize_with") rows.Function
    ∷ line (codes "deserialize_with") rows.Function
    ∷ line (codes "borrow") rows.VariantBorrow
    ∷ line (codes "untagged") rows.Flag
    ∷ []

abbrev pub field_lines : List LineD
field_lines =
    line (codes "rename") rows.ManyNames
    ∷ line (codes "alias") rows.Alias
    ∷ line (codes "default") rows.FieldDefault
    ∷ line (codes "skip_serializing") rows.Flag
    ∷ line (codes "skip_deserializing") rows.Flag
    ∷ line (codes "skip") rows.Skip
    ∷ line (codes "skip_serializing_if") rows.Function
    ∷ line (codes "serialize_with") rows.Function
    ∷ line (codes "deserialize_with") rows.Function
    ∷ line (codes "with") rows.With
    ∷ line (codes "bound") rows.Bounds
    ∷ line (codes "borrow") rows.FieldBorrow
    ∷ line (codes "getter") rows.Function
    ∷ line (codes "flatten") rows.Flag
    ∷ []

abbrev pub lines_of : OwnerD → List LineD
lines_of (of_container i) = container_lines
lines_of (of_variant v) = variant_lines
lines_of (of_field f n) = field_lines

-- the attribute of that path
abbrev pub line_of : List LineD → List Tok → Option LineD
line_of [] p = None
line_of (l ∷ ls) p = cond (is_named l.name p) (Some l) (line_of ls p)

abbrev pub unknown : OwnerD → List ℕ → KindD
unknown (of_container i) p = unknown_container p
unknown (of_variant v) p = unknown_variant p
unknown (of_field f n) p = unknown_field p

-- set to what is there
abbrev pub set_maybe : {A : Type 0} → SlotD → Span → (A → ValueD) → Option A → List ActD
set_maybe s at f None = []
set_maybe s at f (Some x) = sets s at (f x) ∷ []

-- from the beginning of a meta's path to the last of the tokens that were read behind it
abbrev pub from_to : List Tok → List Tok → Span
from_to p [] = span_of_all p
from_to p (t ∷ ts) = record { file = (span_of_all p).file; lo = (span_of_all p).lo; hi = (span_of_all (t ∷ ts)).hi }

-- what is read behind the path: a value, or a group
abbrev pub seen : List Tok → List Tok
seen rest = cond (sign_next 61 rest) rest (take 1 rest)

abbrev pub literal_name : LitStrD → Name
literal_name l = record { text = l.text; span = l.span }

abbrev pub is_enum_body : BodyD → Bool
is_enum_body (struct_body fs at) = false
is_enum_body (enum_body vs at) = true
is_enum_body (union_body fs at) = false

abbrev pub is_enum : OwnerD → Bool
is_enum (of_container i) = is_enum_body i.body
is_enum (of_variant v) = false
is_enum (of_field f n) = false

abbrev pub has_named_fields : BodyD → Bool
has_named_fields (struct_body (named_fields fs) at) = true
has_named_fields (struct_body (unnamed_fields fs) at) = false
has_named_fields (struct_body unit_fields at) = false
has_named_fields (enum_body vs at) = false
has_named_fields (union_body fs at) = false

abbrev pub has_names : OwnerD → Bool
has_names (of_container i) = has_named_fields i.body
has_names (of_variant v) = false
has_names (of_field f n) = false

-- where a default may stand: a struct with fields; not a unit struct; not anything else
abbrev pub default_by : {A : Type 0} → BodyD → A → A → A → A
default_by (struct_body (named_fields fs) at) fine unit other = fine
default_by (struct_body (unnamed_fields fs) at) fine unit other = fine
default_by (struct_body unit_fields at) fine unit other = unit
default_by (enum_body vs at) fine unit other = other
default_by (union_body fs at) fine unit other = other

abbrev pub default_on : {A : Type 0} → OwnerD → A → A → A → A
default_on (of_container i) fine unit other = default_by i.body fine unit other
default_on (of_variant v) fine unit other = fine
default_on (of_field f n) fine unit other = fine

-- a name of its own for each half
abbrev pub names_set : List ℕ → Span → Pair LitStrD → List ActD
names_set name at t =
    set_maybe (written name) at (λ l. is_name (literal_name l)) t.serialize
    ++ set_maybe (read name) at (λ l. is_name (literal_name l)) t.deserialize

-- names that are read: the first of all is the name, each is read
abbrev pub names_read : List ℕ → List (Given LitStrD) → List ActD
names_read name [] = []
names_read name (x ∷ xs) = offers (read name) (is_name (literal_name x.value)) ∷ adds (literal_name x.value) ∷ names_read name xs

abbrev pub many_names : List ℕ → List Tok → Both LitStrD → Step (List Tok)
many_names name p b =
    does (many_told name b.values.serialize ++ set_maybe (written name) (span_of_all p) (λ l. is_name (literal_name l)) (only b.values.serialize) ++ names_read name b.values.deserialize) b.left

abbrev pub alias_added : Option LitStrD → List ActD
alias_added None = []
alias_added (Some l) = adds (literal_name l) ∷ []

abbrev rule_found : SlotD → Span → Bool → LitStrD → Option RenameRule → List ActD
rule_found s at quiet l (Some r) = sets s at (is_rule r) ∷ []
rule_found s at quiet l None = cond quiet [] (told_at (unknown_rule l.text) l.span)

-- the rule that a text names; a text that names none is told, for one value of both halves once
abbrev pub rule_set : SlotD → Span → Bool → Option LitStrD → List ActD
rule_set s at quiet None = []
rule_set s at quiet (Some l) = rule_found s at quiet l (rule_of l.text)

abbrev pub rules_set : List ℕ → Span → Bool → Pair LitStrD → List ActD
rules_set name at once t = rule_set (written name) at false t.serialize ++ rule_set (read name) at once t.deserialize

-- a text that may stand there alone
abbrev pub text_set : Bool → KindD → List ℕ → List Tok → List Tok → Option LitStrD → List ActD
text_set fits fault name p rest None = []
text_set fits fault name p rest (Some l) = cond fits (sets (whole name) (span_of_all p) (is_plain l.text) ∷ []) (told_at fault (from_to p rest))

abbrev pub text_step : Bool → KindD → List ℕ → List Tok → Span → List Tok → Step (List Tok)
text_step fits fault name p end rest = string_step name name end rest >>= λ o. does (text_set fits fault name p rest o) []

-- `Self`, also with an empty list of arguments
abbrev pub lacks_arguments : ArgumentsD → Bool
lacks_arguments no_arguments = true
lacks_arguments (angle t end_generics) = true
lacks_arguments (angle t (more_generics g gs)) = false
lacks_arguments (parens ts o) = false

abbrev pub is_self : PathD → Bool
is_self (path leading end_segments) = false
is_self (path leading (more_segments (segment n args) end_segments)) = not leading && (bytes_eq n.text (codes "Self") && lacks_arguments args)
is_self (path leading (more_segments s (more_segments t ss))) = false

abbrev pub name_path : Name → PathD
name_path n = path false (more_segments (segment n no_arguments) end_segments)

abbrev pub owner_name : OwnerD → Name
owner_name (of_container i) = i.name
owner_name (of_variant v) = v.name
owner_name (of_field f n) = n

abbrev pub remote_path : OwnerD → PathD → PathD
remote_path o p = cond (is_self p) (name_path (owner_name o)) p

-- a default of its own, or what a function answers
abbrev pub own_default_set : OwnerD → List ℕ → List Tok → List ActD
own_default_set o name p =
    default_on o (sets (whole name) (span_of_all p) (is_default own_default) ∷ []) (told_at default_unit site) (told_at default_place (span_of_all p))

abbrev pub path_default_set : OwnerD → List ℕ → List Tok → List Tok → Option ExprPathD → List ActD
path_default_set o name p rest None = []
path_default_set o name p rest (Some f) =
    default_on o (sets (whole name) (span_of_all p) (is_default (path_default f)) ∷ []) (told_at default_path_unit (from_to p rest)) (told_at default_path_place (from_to p rest))

abbrev pub no_path : LitStrD → KindD
no_path l = bad_path l.text

abbrev pub function_step : Lexing → List ℕ → Span → List Tok → Step (Option ExprPathD)
function_step lexing name end rest = parsed_step lexing expr_path_of no_path name end rest

abbrev pub default_step : Lexing → OwnerD → List ℕ → List Tok → Span → List Tok → Step (List Tok)
default_step lexing o name p end rest =
    cond (sign_next 61 rest) (function_step lexing name end rest >>= λ f. does (path_default_set o name p rest f) [])
    (does (own_default_set o name p) rest)

-- a segment more at the end
abbrev pub and_segment : Segments → SegmentD → Segments
and_segment end_segments s = more_segments s end_segments
and_segment (more_segments t ss) s = more_segments t (and_segment ss s)

abbrev pub in_module : ExprPathD → List ℕ → Span → ExprPathD
in_module (expr_path q (path leading ss)) name at = expr_path q (path leading (and_segment ss (segment (record { text = name; span = at }) no_arguments)))

-- the two functions of a module, whose path stands in that literal
abbrev pub module_set : Span → Option LitStrD → Option ExprPathD → List ActD
module_set at None o = []
module_set at (Some l) None = []
module_set at (Some l) (Some m) =
    sets (whole (codes "serialize_with")) at (is_function (in_module m (codes "serialize") l.span))
    ∷ sets (whole (codes "deserialize_with")) at (is_function (in_module m (codes "deserialize") l.span)) ∷ []

abbrev pub module_step : Lexing → List ℕ → List Tok → Span → List Tok → Step (List Tok)
module_step lexing name p end rest = string_step name name end rest >>= λ l. (parsed lexing expr_path_of no_path l >>= λ m. does (module_set (span_of_all p) l m) [])

abbrev pub bounds_set : List ℕ → Span → Pair (List PredicateD) → List ActD
bounds_set name at t = set_maybe (written name) at are_predicates t.serialize ++ set_maybe (read name) at are_predicates t.deserialize

-- What an attribute of the owner does, by its form: its name, its path, the place where the meta ends, and what stands behind
-- the path; and what of that is left.
abbrev pub says : Lexing → OwnerD → Row → List ℕ → List Tok → Span → List Tok → Step (List Tok)
says lexing o rows.Names name p end rest = pair_step name (string_step name) p end rest >>= λ t. does (names_set name (span_of_all p) t) t.left
says lexing o rows.ManyNames name p end rest = both_step name (string_step name) p end rest >>= many_names name p
says lexing o rows.Alias name p end rest = string_step name name end rest >>= λ l. does (alias_added l) []
says lexing o rows.Rules name p end rest = pair_step name (string_step name) p end rest >>= λ t. does (rules_set name (span_of_all p) (sign_next 61 rest) t) t.left
says lexing o rows.FieldsRules name p end rest =
    pair_step name (string_step name) p end rest >>= λ t. does (cond (is_enum o) (rules_set name (span_of_all p) (sign_next 61 rest) t) (told_at rename_fields_place (from_to p (seen rest)))) t.left
says lexing o rows.Flag name p end rest = does (sets (whole name) (span_of_all p) is_flag ∷ []) rest
says lexing o rows.EnumFlag name p end rest = does (cond (is_enum o) (sets (whole name) (span_of_all p) is_flag ∷ []) (told_at untagged_place (span_of_all p))) rest
says lexing o rows.Skip name p end rest =
    does (sets (whole (codes "skip_serializing")) (span_of_all p) is_flag ∷ sets (whole (codes "skip_deserializing")) (span_of_all p) is_flag ∷ []) rest
says lexing o rows.ContainerDefault name p end rest = default_step lexing o name p end rest
says lexing o rows.FieldDefault name p end rest = default_step lexing o name p end rest
says lexing o rows.Bounds name p end rest = pair_step name (predicates_step lexing name) p end rest >>= λ t. does (bounds_set name (span_of_all p) t) t.left
says lexing o rows.Tag name p end rest = text_step (is_enum o || has_names o) tag_place name p end rest
says lexing o rows.Content name p end rest = text_step (is_enum o) content_place name p end rest
says lexing o rows.Text name p end rest = text_step true content_place name p end rest
says lexing o rows.Ty name p end rest = parsed_step lexing type_of (λ l. bad_type name l.text) name end rest >>= λ t. does (set_maybe (whole name) (span_of_all p) is_ty t) []
says lexing o rows.Remote name p end rest = parsed_step lexing path_of no_path name end rest >>= λ t. does (set_maybe (whole name) (span_of_all p) (λ q. is_path (remote_path o q)) t) []
says lexing o rows.Path name p end rest = parsed_step lexing path_of no_path name end rest >>= λ t. does (set_maybe (whole name) (span_of_all p) is_path t) []
says lexing o rows.Function name p end rest = function_step lexing name end rest >>= λ t. does (set_maybe (whole name) (span_of_all p) is_function t) []
says lexing o rows.With name p end rest = module_step lexing name p end rest
says lexing o rows.VariantBorrow name p end rest = borrow_step lexing o name p end rest
says lexing o rows.FieldBorrow name p end rest = borrow_step lexing o name p end rest

-- what stands where a comma should
abbrev pub excess : List Tok → Step (List Tok)
excess [] = gives []
excess (t ∷ ts) = ends (record { kind = bad_syntax ExpectedComma; span = span_of t })

abbrev pub says_by : Lexing → OwnerD → List Tok → Span → List Tok → Option LineD → Step (List Tok)
says_by lexing o p end rest None = ends (record { kind = unknown o (path_text p); span = span_of_all p })
says_by lexing o p end rest (Some l) = says lexing o l.row l.name p end rest >>= excess

-- a meta of the owner
abbrev pub meta_step : Lexing → OwnerD → PartD → Step (List Tok)
meta_step lexing o (unread e) = ends (syntax e)
meta_step lexing o (part p rest end) = says_by lexing o p end rest (line_of (lines_of o) p)

abbrev pub unless_ended : {A : Type 0} → Option A → List ActD → List ActD
unless_ended None acts = []
unless_ended (Some x) acts = acts

-- what metas do in order, up to the one at which reading ends
abbrev pub acts_of : Lexing → OwnerD → List PartD → List ActD
acts_of lexing o [] = []
acts_of lexing o (m ∷ ms) = (meta_step lexing o m).acts ++ unless_ended (meta_step lexing o m).value (acts_of lexing o ms)

-- what all attributes of the owner do, in order
abbrev pub all_acts : Lexing → OwnerD → List MetaD → List ActD
all_acts lexing o attributes = flat_map (λ a. acts_of lexing o (metas_of a)) attributes
