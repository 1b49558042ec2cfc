-- A value has one text, and a text one value.
use Rattle.std.proofs.Common.{◌≡◌, ◌≤◌, ℕ, List, [], ◌∷◌, ◌++◌, Some, sym, ap, ◌∙◌}
use Rattle.std.proofs.lemmas.List.{append_cancel_right}
use Rattle.std.proofs.lemmas.Option.{same_Some}
use Rattle.json.specs.Layout.{pretty}
use Rattle.json.specs.Lex.{tokens}
use Rattle.serde_json.specs.Data.{Data, depth}
use Rattle.serde_json.specs.Read.{read, max_depth}
use Rattle.serde_json.specs.Written.{IsInOrder}
use Rattle.serde_json.proofs.Texts.{tokens_from_order}
use Rattle.value_texts.specs.Texts.{IsTextOf, TextsAreExact, TextsDetermineValues}

pub text_of_front : (front text : List ℕ) (d : Data) → front ≡ pretty (tokens front) → IsInOrder front d → (depth d ≤ max_depth → read front ≡ Some d) → text ≡ front ++ 10 ∷ [] → IsTextOf text d
text_of_front front text d layout order back e = record { front = front; ended = e; indented = layout; order = order; reads_back = back }

pub texts_are_exact : TextsAreExact
texts_are_exact text d t whole = t.ended ∙ ap (λ front. front ++ 10 ∷ []) (t.indented ∙ ap pretty (tokens_from_order t.front d t.order whole))

pub texts_determine_values : TextsDetermineValues
texts_determine_values text d e t u below under =
    let same : t.front ≡ u.front = append_cancel_right t.front u.front (10 ∷ []) (sym t.ended ∙ u.ended) in
    same_Some d e (sym (t.reads_back below) ∙ ap read same ∙ u.reads_back under)
