-- The line of a path, among those of a table.
use Rattle.std.proofs.Common.{◌≡◌, ℕ, ◌+◌, ◌<◌, List, Some, true, false, cond, map, drop, length, get_or, ap, ◌∙◌}
use Rattle.token_trees.specs.Token.{Tok}
use Rattle.attr_defs.specs.Metas.{is_named}
use Rattle.attr_defs.specs.Rows.{line_of}
use Rattle.attr_rows.specs.declared.line.Line.{Line}
use Rattle.attr_rows.specs.OwnerView.{line_view}
use Rattle.attr_rows.proofs.Items.{mapped_get}

-- the line that the path names
pub line_here : (xs : List Line) (i : ℕ) (d : Line) (p : List Tok) → i < length xs → is_named (get_or xs i d).name.0.now p ≡ true → line_of (map line_view (drop i xs)) p ≡ Some (line_view (get_or xs i d))
line_here xs i d p h t =
    ap (λ ls. line_of ls p) (mapped_get line_view xs i d h) ∙ ap (λ b. cond b (Some (line_view (get_or xs i d))) (line_of (map line_view (drop (i + 1) xs)) p)) t

-- one that it doesn't name
pub line_later : (xs : List Line) (i : ℕ) (d : Line) (p : List Tok) → i < length xs → is_named (get_or xs i d).name.0.now p ≡ false → line_of (map line_view (drop i xs)) p ≡ line_of (map line_view (drop (i + 1) xs)) p
line_later xs i d p h t =
    ap (λ ls. line_of ls p) (mapped_get line_view xs i d h) ∙ ap (λ b. cond b (Some (line_view (get_or xs i d))) (line_of (map line_view (drop (i + 1) xs)) p)) t
