use Rattle.std.proofs.Common.{[], ◌∷◌, ◌++◌, List, ap, ◌∙◌, append_assoc, codes}
use Rattle.emit_defs.specs.Trees.{Carried, flag, helper_meta}
use Rattle.emit_trees.proofs.manner.add_present.Goals as goal

pub returns : goal.returns
returns c =
    c.in_ok-add_copy.ensures
    ∙ ap (λ (xs : List Carried). xs ++ helper_meta (codes "some") ∷ []) c.in_ok-add_flag.ensures
    ∙ append_assoc _ (flag (codes "default") ∷ []) (helper_meta (codes "some") ∷ [])
