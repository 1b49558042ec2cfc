-- A syntax type is taken for a type.
use Rattle.std.proofs.Common.{◌≡◌, ◌∙◌, Bool, true, [], refl, sym, ap, codes}
use Rattle.syntax_trees.specs.Syntax.{TyD, no_arguments}
use Rattle.type_spellings.specs.Types.{type_of, plain_path}
use Rattle.model_defs.specs.Types.{TypeModel, outside_type}
use Rattle.container_defs.specs.Forms.{same_type}
use Rattle.emit_defs.specs.Trees.{rooted}
use Rattle.evolve_walks.proofs.Sound.{type_is}

nowhere : type_of (rooted [] (codes "Outside") no_arguments) ≡ outside_type
unfolding plain_path
nowhere = refl

pub outside_spelled : (t : TyD) → t ≡ rooted [] (codes "Outside") no_arguments → type_of t ≡ outside_type
outside_spelled t h = ap type_of h ∙ nowhere

pub read_back : (t : TyD) (m n : TypeModel) (b : Bool) → m ≡ type_of t → b ≡ same_type m n → b ≡ true → type_of t ≡ n
read_back t m n b h e f = sym h ∙ type_is m n (sym e ∙ f)
