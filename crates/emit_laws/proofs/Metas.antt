-- The metas of an emitted attribute are those that it carries.
use Rattle.std.proofs.Common.{◌≡◌, List, [], ◌∷◌, map, refl, ap, ◌∙◌, append-nil}
use Rattle.token_trees.specs.Token.{fixed, text, site}
use Rattle.syntax_printing.specs.Print.{sign, keyword}
use Rattle.attr_defs.specs.Metas.{PieceD, pieces, PartD, part, part_of}
use Rattle.attr_defs.specs.Owners.{OwnerD}
use Rattle.attr_defs.specs.Rows.{acts_of, all_acts}
use Rattle.attr_defs.specs.Texts.{Lexing}
use Rattle.emit_defs.specs.Trees.{Carried, flag, valued, carried_tokens, with_commas, serde}

abbrev pub as_part : Carried → PartD
as_part (flag n) = part (keyword n ∷ []) [] site
as_part (valued n v) = part (keyword n ∷ []) (sign 61 ∷ fixed (text v []) site ∷ []) site

abbrev as_piece : Carried → PieceD
as_piece m = record { tokens = carried_tokens m; end = site }

cut : (ms : List Carried) → pieces site (with_commas ms) ≡ map as_piece ms
cut [] = refl
cut (flag n ∷ []) = refl
cut (valued n v ∷ []) = refl
cut (flag n ∷ m ∷ ms) = ap (λ z. as_piece (flag n) ∷ z) (cut (m ∷ ms))
cut (valued n v ∷ m ∷ ms) = ap (λ z. as_piece (valued n v) ∷ z) (cut (m ∷ ms))

parted : (ms : List Carried) → map part_of (map as_piece ms) ≡ map as_part ms
parted [] = refl
parted (flag n ∷ ms) = ap (λ z. as_part (flag n) ∷ z) (parted ms)
parted (valued n v ∷ ms) = ap (λ z. as_part (valued n v) ∷ z) (parted ms)

-- so what an attribute does is what its metas do
pub acts_read : (lexing : Lexing) (o : OwnerD) (ms : List Carried) → all_acts lexing o (serde ms) ≡ acts_of lexing o (map as_part ms)
acts_read lexing o [] = refl
acts_read lexing o (m ∷ ms) = append-nil _ ∙ ap (acts_of lexing o) (ap (map part_of) (cut (m ∷ ms)) ∙ parted (m ∷ ms))
