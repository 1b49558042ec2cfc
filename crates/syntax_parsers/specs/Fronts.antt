-- What stands in front of tokens, and the tokens behind it.
use Rattle.std.specs.Prelude.{ℕ, ◌+◌, ◌||◌, List, [], ◌∷◌, Bool, true, false, Option, Some, None, cond, codes, bytes_eq, option_map, is_some}
use Rattle.std.specs.List.{list_any}
use Rattle.token_trees.specs.declared.token.Span.{Span}
use Rattle.token_trees.specs.declared.token.Delimiter.{Delimiter}
use Rattle.token_trees.specs.declared.token.Delimiter.TheVariants.{Parenthesis, Bracket, Brace, None as Bare}
use Rattle.token_trees.specs.Token.{Tok, word, mark, fixed, group, Toks, no_toks, tok, list_of, Fixed, Name, span_of}
use Rattle.syntax_trees.specs.Syntax.{LifetimeD}
use Rattle.syntax_trees.specs.Metas.{is_sign, is_joint_sign, sign_next}

-- how many trees there are, at all levels
abbrev mutual
  pub tree_weight : Tok → ℕ
  tree_weight (word x s) = 1
  tree_weight (mark c j s) = 1
  tree_weight (fixed l s) = 1
  tree_weight (group d ts s) = 1 + toks_weight ts

  pub toks_weight : Toks → ℕ
  toks_weight no_toks = 0
  toks_weight (tok t ts) = tree_weight t + toks_weight ts

abbrev pub weight : List Tok → ℕ
weight [] = 0
weight (t ∷ ts) = tree_weight t + weight ts

abbrev pub sign_front : ℕ → List Tok → Option (List Tok)
sign_front c [] = None
sign_front c (t ∷ ts) = cond (is_sign c t) (Some ts) None

-- two characters, of which the first belongs to the second
abbrev pub pair_front : ℕ → ℕ → List Tok → Option (List Tok)
pair_front c d [] = None
pair_front c d (t ∷ ts) = cond (is_joint_sign c t) (sign_front d ts) None

-- `::`
abbrev pub colons_front : List Tok → Option (List Tok)
colons_front ts = pair_front 58 58 ts

-- `->`
abbrev pub arrow_front : List Tok → Option (List Tok)
arrow_front ts = pair_front 45 62 ts

abbrev pub name_front : List Tok → Option (Name × List Tok)
name_front [] = None
name_front (word x s ∷ ts) = Some (record { text = x; span = s }, ts)
name_front (mark d j s ∷ ts) = None
name_front (fixed l s ∷ ts) = None
name_front (group d us s ∷ ts) = None

-- that word
abbrev pub keyword_front : List ℕ → List Tok → Option (List Tok)
keyword_front k [] = None
keyword_front k (word x s ∷ ts) = cond (bytes_eq x k) (Some ts) None
keyword_front k (mark d j s ∷ ts) = None
keyword_front k (fixed l s ∷ ts) = None
keyword_front k (group d us s ∷ ts) = None

abbrev pub literal_front : List Tok → Option (Fixed × Span × List Tok)
literal_front [] = None
literal_front (word x s ∷ ts) = None
literal_front (mark d j s ∷ ts) = None
literal_front (fixed l s ∷ ts) = Some (l, s, ts)
literal_front (group d us s ∷ ts) = None

abbrev pub is_parens : Delimiter → Bool
is_parens Parenthesis = true
is_parens Brace = false
is_parens Bracket = false
is_parens Bare = false

abbrev pub is_brackets : Delimiter → Bool
is_brackets Parenthesis = false
is_brackets Brace = false
is_brackets Bracket = true
is_brackets Bare = false

abbrev pub is_braces : Delimiter → Bool
is_braces Parenthesis = false
is_braces Brace = true
is_braces Bracket = false
is_braces Bare = false

abbrev pub is_shown : Delimiter → Bool
is_shown Parenthesis = true
is_shown Brace = true
is_shown Bracket = true
is_shown Bare = false

-- a group: its brackets, what it holds, its place
abbrev pub opened : Tok → Option (Delimiter × List Tok × Span)
opened (word x s) = None
opened (mark c j s) = None
opened (fixed l s) = None
opened (group d us s) = Some (d, list_of us, s)

abbrev pub held : (Delimiter → Bool) → List Tok → Option (Delimiter × List Tok × Span) → Option (List Tok × Span × List Tok)
held p ts None = None
held p ts (Some (d, us, s)) = cond (p d) (Some (us, s, ts)) None

-- a group whose delimiter passes the test: what it holds, its place, and what stands behind it
abbrev pub group_front : (Delimiter → Bool) → List Tok → Option (List Tok × Span × List Tok)
group_front p [] = None
group_front p (t ∷ ts) = held p ts (opened t)

abbrev pub kept : Tok → List Tok → Option (Delimiter × List Tok × Span) → Option (Tok × List Tok)
kept t ts None = None
kept t ts (Some (d, us, s)) = cond (is_shown d) (Some (t, ts)) None

-- a group in brackets of any kind, as it stands
abbrev pub tree_front : List Tok → Option (Tok × List Tok)
tree_front [] = None
tree_front (t ∷ ts) = kept t ts (opened t)

abbrev pub quoted : Span → Option (Name × List Tok) → Option (LifetimeD × List Tok)
quoted s None = None
quoted s (Some (x, ts)) = Some (record { name = x; span = s }, ts)

abbrev pub lifetime_front : List Tok → Option (LifetimeD × List Tok)
lifetime_front [] = None
lifetime_front (t ∷ ts) = cond (is_joint_sign 39 t) (quoted (span_of t) (name_front ts)) None

-- the words that name no segment of a path
abbrev pub reserved_words : List (List ℕ)
reserved_words =
    codes "_" ∷ codes "abstract" ∷ codes "as" ∷ codes "async" ∷ codes "await" ∷ codes "become" ∷ codes "box" ∷ codes "break" ∷ codes "const"
    ∷ codes "continue" ∷ codes "do" ∷ codes "dyn" ∷ codes "else" ∷ codes "enum" ∷ codes "extern" ∷ codes "false" ∷ codes "final" ∷ codes "fn"
    ∷ codes "for" ∷ codes "gen" ∷ codes "if" ∷ codes "impl" ∷ codes "in" ∷ codes "let" ∷ codes "loop" ∷ codes "macro" ∷ codes "match"
    ∷ codes "mod" ∷ codes "move" ∷ codes "mut" ∷ codes "override" ∷ codes "priv" ∷ codes "pub" ∷ codes "ref" ∷ codes "return" ∷ codes "static"
    ∷ codes "struct" ∷ codes "trait" ∷ codes "true" ∷ codes "try" ∷ codes "type" ∷ codes "typeof" ∷ codes "unsafe" ∷ codes "unsized"
    ∷ codes "use" ∷ codes "virtual" ∷ codes "where" ∷ codes "while" ∷ codes "yield" ∷ []

abbrev pub is_reserved : List ℕ → Bool
is_reserved x = list_any (bytes_eq x) reserved_words

-- the name of a segment
abbrev pub segment_front : List Tok → Option (Name × List Tok)
segment_front [] = None
segment_front (word x s ∷ ts) = cond (is_reserved x) None (Some (record { text = x; span = s }, ts))
segment_front (mark d j s ∷ ts) = None
segment_front (fixed l s ∷ ts) = None
segment_front (group d us s ∷ ts) = None

-- `::` behind which a path goes on: no third `:` follows
abbrev pub further_front : List Tok → Option (List Tok)
further_front ts = elim (colons_front ts) [ None ↦ None | Some rest ↦ cond (sign_next 58 rest) None (Some rest) ]

-- whether a path can begin here
abbrev pub path_next : List Tok → Bool
path_next ts = is_some (further_front ts) || is_some (segment_front ts)

-- whether a bound can begin here
abbrev pub bound_next : List Tok → Bool
bound_next ts = is_some (lifetime_front ts) || path_next ts

-- a `:` that begins no such `::`
abbrev pub colon_front : List Tok → Option (List Tok)
colon_front ts = cond (is_some (further_front ts)) None (sign_front 58 ts)

-- `<`, or `::<`: whether the `::` stood there
abbrev pub angle_front : List Tok → Option (Bool × List Tok)
angle_front ts = elim (sign_front 60 ts) [ Some rest ↦ Some (false, rest) | None ↦ elim (colons_front ts) [ None ↦ None | Some rest ↦ option_map (λ us. (true, us)) (sign_front 60 rest) ] ]

-- a name with that character behind it
abbrev pub labelled : (List Tok → Option (List Tok)) → Option (Name × List Tok) → Option (Name × List Tok)
labelled f None = None
labelled f (Some (x, ts)) = option_map (λ us. (x, us)) (f ts)
