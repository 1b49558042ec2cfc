-- The metas of an attribute: what stands between the commas of its list (The Rust Reference, meta items).
use Rattle.std.specs.Prelude.{ℕ, ◌&&◌, List, [], ◌∷◌, Bool, false, not, Option, Some, None, cond, take, drop, map, codes}
use Rattle.std.specs.Str.{bytes_eq}
use Rattle.token_trees.specs.declared.token.Span.{Span}
use Rattle.std.specs.List.{flat_map}
use Rattle.std.specs.Char.{encode_utf8}
use Rattle.token_trees.specs.Token.{Tok, word, mark, fixed, group, span_of, site}
use Rattle.syntax_trees.specs.declared.cursor.SyntaxKind.TheVariants.{ExpectedArguments, ExpectedPath}
use Rattle.syntax_trees.specs.declared.cursor.SyntaxError.{SyntaxError}
use Rattle.syntax_trees.specs.Syntax.{PathD, path, SegmentD, segment, Segments, end_segments, more_segments, has_no_arguments, segment_name}
use Rattle.syntax_trees.specs.Item.{MetaD, meta_path, meta_list, meta_value}
use Rattle.syntax_trees.specs.Metas.{is_sign, path_len, no_path, from_comma, place, expected}

-- what stands between two commas, and the place where it ends: the comma's, or the list's where the tokens end
pub record PieceD : Type 0 where
  pub tokens : List Tok
  pub end : Span

-- the token in front of the first piece
abbrev pub with_front : Span → Tok → List PieceD → List PieceD
with_front at t [] = record { tokens = t ∷ []; end = at } ∷ []
with_front at t (p ∷ ps) = record { tokens = t ∷ p.tokens; end = p.end } ∷ ps

-- the pieces in order; after a comma at the end of the tokens none begins
abbrev pub pieces : Span → List Tok → List PieceD
pieces at [] = []
pieces at (t ∷ ts) = cond (is_sign 44 t) (record { tokens = []; end = span_of t } ∷ pieces at ts) (with_front at t (pieces at ts))

-- the place where the first piece ends
abbrev pub piece_end : Span → List Tok → Span
piece_end at ts = place at (from_comma ts)

-- a meta: its path, what follows that up to the comma, and the place where this ends; or what doesn't read as one
pub data PartD : Type 0 where
  part : List Tok → List Tok → Span → PartD
  unread : SyntaxError → PartD

abbrev pub part_by : Option ℕ → PieceD → PartD
part_by (Some n) p = part (take n p.tokens) (drop n p.tokens) p.end
part_by None p = unread (expected ExpectedPath p.end (no_path p.tokens))

abbrev pub part_of : PieceD → PartD
part_of p = part_by (path_len p.tokens) p

-- the metas of a list whose span is `at`
abbrev pub metas_in : Span → List Tok → List PartD
metas_in at ts = map part_of (pieces at ts)

-- no leading `::`, one segment, no arguments, and that name
abbrev pub is_lone : Bool → List ℕ → Segments → Bool
is_lone leading n end_segments = false
is_lone leading n (more_segments s end_segments) = not leading && (has_no_arguments s && bytes_eq (segment_name s) n)
is_lone leading n (more_segments s (more_segments t ss)) = false

abbrev pub is_serde : PathD → Bool
is_serde (path leading ss) = is_lone leading (codes "serde") ss

abbrev pub segment_place : SegmentD → Span
segment_place (segment n rest) = n.span

-- the place of a path that is one name
abbrev pub word_place : PathD → Span
word_place (path leading end_segments) = site
word_place (path leading (more_segments s ss)) = segment_place s

abbrev pub no_list : PathD → PartD
no_list p = unread (record { kind = ExpectedArguments; span = word_place p })

-- the metas of an attribute: those of a list, of `serde` attributes alone
abbrev pub metas_of : MetaD → List PartD
metas_of (meta_path p) = cond (is_serde p) (no_list p ∷ []) []
metas_of (meta_list p ts at) = cond (is_serde p) (metas_in at ts) []
metas_of (meta_value p ts) = cond (is_serde p) (no_list p ∷ []) []

abbrev pub is_text : List ℕ → Tok → Bool
is_text n (word x s) = bytes_eq x n
is_text n (mark c j s) = false
is_text n (fixed l s) = false
is_text n (group d ts s) = false

-- whether the path is that name alone
abbrev pub is_named : List ℕ → List Tok → Bool
is_named n [] = false
is_named n (t ∷ []) = is_text n t
is_named n (t ∷ u ∷ ts) = false

abbrev pub token_text : Tok → List ℕ
token_text (word x s) = x
token_text (mark c j s) = encode_utf8 c
token_text (fixed l s) = []
token_text (group d ts s) = []

-- the path's text without spaces, as `a::b`
abbrev pub path_text : List Tok → List ℕ
path_text ts = flat_map token_text ts
