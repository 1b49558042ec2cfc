-- Parts are listed one after another.
use Rattle.std.proofs.Common.{◌≡◌, Bor, List, [], ◌∷◌, ◌++◌, map, sym, ap, ◌∙◌, append_assoc}
use Rattle.std.proofs.lemmas.List.{map_push}
use Rattle.convert_defs.specs.Row.{Part}
use Rattle.row_findings.specs.declared.part.Part.{Part as CodePart}
use Rattle.row_findings.specs.View.{part_view}
use Rattle.document_merges.specs.declared.listed.Listed.{Listed}
use Rattle.document_merges.specs.Listed.{listed_view}

pub listed_turn : (done done' : List Listed) (p : Bor CodePart) (rest left : List (Bor CodePart)) (whole : List Part) → done' ≡ done ++ record { part = p } ∷ [] → rest ≡ p ∷ left
    → listed_view done ++ map (λ p. part_view p.now) rest ≡ whole → listed_view done' ++ map (λ p. part_view p.now) left ≡ whole
listed_turn done done' p rest left whole e g h =
    ap (λ qs. listed_view qs ++ map (λ p. part_view p.now) left) e
    ∙ ap (λ qs. qs ++ map (λ p. part_view p.now) left) (map_push (λ (q : Listed). part_view q.part.now) done (record { part = p }))
    ∙ append_assoc (listed_view done) (part_view p.now ∷ []) (map (λ p. part_view p.now) left)
    ∙ ap (λ qs. listed_view done ++ map (λ p. part_view p.now) qs) (sym g) ∙ h
