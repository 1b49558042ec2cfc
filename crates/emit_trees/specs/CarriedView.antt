-- The metas that the program carries.
use Rattle.std.specs.Prelude.{ℕ, List, [], ◌∷◌, map, Bool, true, false, codes, string_bytes}
use Rattle.token_trees.specs.Token.{Tok, site}
use Rattle.syntax_trees.specs.Syntax.{path, segment, no_arguments, segments_of}
use Rattle.syntax_trees.specs.Item.{MetaD, meta_list}
use Rattle.syntax_printing.specs.Print.{sign, when}
use Rattle.emit_defs.specs.Trees.{Carried, flag, valued, name_at}
use Rattle.emit_trees.specs.declared.carried.Carried as program
use Rattle.emit_trees.specs.declared.carried.Carried.TheVariants as metas

abbrev pub carried_view : program.Carried → Carried
carried_view (metas.Flag n) = flag n.0.now
carried_view (metas.Valued n v) = valued n.0.now (string_bytes v)

abbrev pub all_carried : List program.Carried → List Carried
all_carried ms = map carried_view ms

abbrev pub has_any : {A : Type 0} → List A → Bool
has_any [] = false
has_any (x ∷ xs) = true

-- a comma where something stands before
abbrev pub comma : Bool → List Tok
comma between = when between (sign 44 ∷ [])

-- `serde` with those tokens in parentheses
abbrev pub serde_list : List Tok → MetaD
serde_list ts = meta_list (path false (segments_of (segment (name_at (codes "serde")) no_arguments ∷ []))) ts site
