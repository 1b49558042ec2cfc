-- Paths of functions, level by level.
use Rattle.std.proofs.Common.{◌≡◌, ℕ, ◌&&◌, List, map, Bool, true, false, not, Option, Some, None, Box, Global, refl, sym, ap, ◌∙◌}
use Rattle.syntax_trees.specs.Syntax.{ExprPathD, expr_path, path, Segments, segments_of}
use Rattle.syntax_trees.specs.View.{expr_path_view, path_view, segment_view, maybe_qself_view}
use Rattle.syntax_trees.specs.declared.tree.QSelf.{QSelf}
use Rattle.syntax_trees.specs.declared.tree.Path.{Path, out-Path}
use Rattle.syntax_trees.specs.declared.tree.ExprPath.{ExprPath, out-ExprPath}
use Rattle.syntax_trees.proofs.Views.{path_out, expr_path_out}
use Rattle.type_spellings.specs.Types.{spells}
use Rattle.container_defs.specs.Reader.{is_local, is_rooted}

abbrev pub leading_of : ExprPath → Bool
leading_of e = (out-Path (out-ExprPath e).path).leading

abbrev pub segments_in : ExprPath → Segments
segments_in e = segments_of (map segment_view (out-Path (out-ExprPath e).path).segments.items)

pub leveled : (e : ExprPath) → expr_path_view e ≡ expr_path (maybe_qself_view (out-ExprPath e).qself) (path (leading_of e) (segments_in e))
leveled e = expr_path_out e ∙ ap (λ p. expr_path (maybe_qself_view (out-ExprPath e).qself) p) (path_out (out-ExprPath e).path)

local_by : (q : Option (Box QSelf Global)) (l : Bool) (ss : Segments) (ns : List (List ℕ)) → q ≡ None → (not l && spells ss ns) ≡ is_local ns (expr_path (maybe_qself_view q) (path l ss))
local_by None true ss ns h = refl
local_by None false ss ns h = refl
local_by (Some q) l ss ns h = cc

rooted_by : (q : Option (Box QSelf Global)) (l : Bool) (ss : Segments) (ns : List (List ℕ)) → q ≡ None → (l && spells ss ns) ≡ is_rooted ns (expr_path (maybe_qself_view q) (path l ss))
rooted_by None true ss ns h = refl
rooted_by None false ss ns h = refl
rooted_by (Some q) l ss ns h = cc

no_local_by : (q : Option (Box QSelf Global)) (b : Box QSelf Global) (l : Bool) (ss : Segments) (ns : List (List ℕ)) → q ≡ Some b → false ≡ is_local ns (expr_path (maybe_qself_view q) (path l ss))
no_local_by None b l ss ns h = cc
no_local_by (Some q) b l ss ns h = refl

no_rooted_by : (q : Option (Box QSelf Global)) (b : Box QSelf Global) (l : Bool) (ss : Segments) (ns : List (List ℕ)) → q ≡ Some b → false ≡ is_rooted ns (expr_path (maybe_qself_view q) (path l ss))
no_rooted_by None b l ss ns h = cc
no_rooted_by (Some q) b l ss ns h = refl

pub local_read : (e : ExprPath) (ns : List (List ℕ)) → (out-ExprPath e).qself ≡ None → (not (leading_of e) && spells (segments_in e) ns) ≡ is_local ns (expr_path_view e)
local_read e ns h = local_by (out-ExprPath e).qself (leading_of e) (segments_in e) ns h ∙ ap (is_local ns) (sym (leveled e))

pub rooted_read : (e : ExprPath) (ns : List (List ℕ)) → (out-ExprPath e).qself ≡ None → (leading_of e && spells (segments_in e) ns) ≡ is_rooted ns (expr_path_view e)
rooted_read e ns h = rooted_by (out-ExprPath e).qself (leading_of e) (segments_in e) ns h ∙ ap (is_rooted ns) (sym (leveled e))

pub no_local : (e : ExprPath) (b : Box QSelf Global) (ns : List (List ℕ)) → (out-ExprPath e).qself ≡ Some b → false ≡ is_local ns (expr_path_view e)
no_local e b ns h = no_local_by (out-ExprPath e).qself b (leading_of e) (segments_in e) ns h ∙ ap (is_local ns) (sym (leveled e))

pub no_rooted : (e : ExprPath) (b : Box QSelf Global) (ns : List (List ℕ)) → (out-ExprPath e).qself ≡ Some b → false ≡ is_rooted ns (expr_path_view e)
no_rooted e b ns h = no_rooted_by (out-ExprPath e).qself b (leading_of e) (segments_in e) ns h ∙ ap (is_rooted ns) (sym (leveled e))
