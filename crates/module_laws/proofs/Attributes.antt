-- The lines of an attribute have its tokens.
use Rattle.std.proofs.Common.{◌≡◌, ℕ, Bool, true, false, true≢false, List, [], ◌∷◌, ◌++◌, eqb, inl, inr, codes, refl, ap, sym, subst, ◌∙◌, append_assoc, append-nil}
use Rattle.std.specs.Prelude.{if◌then◌else◌}
use Rattle.std.proofs.lemmas.Bool.Decides.{eqb_tells}
use Rattle.token_trees.specs.declared.token.Delimiter.TheVariants.{Parenthesis, Bracket}
use Rattle.token_trees.specs.declared.token.Spacing.{Spacing}
use Rattle.token_trees.specs.declared.token.Spacing.TheVariants.{Alone}
use Rattle.token_trees.specs.declared.token.Span.{Span}
use Rattle.token_trees.specs.Token.{Tok, word, mark, fixed, group, toks_of}
use Rattle.token_trees.specs.Text.{Piece, sign, opens, closes, pieces, pieces_of}
use Rattle.token_trees.proofs.Texts.{inner_pieces_of, pieces_of_append}
use Rattle.syntax_trees.specs.Syntax.{PathD}
use Rattle.syntax_trees.specs.Item.{MetaD, meta_path, meta_list, meta_value}
use Rattle.syntax_printing.specs.Print.{print_path, within_brackets}
use Rattle.rust_syntax.specs.PrintItem.{print_attribute, print_attributes}
use Rattle.module_texts.specs.Tokens.{tokens_text, attribute_text}
use Rattle.module_texts.specs.Attributes.{is_comma, argument_line, argument_lines, broken_lines, plain_line, is_wide, attribute_line, attribute_lines}
use Rattle.module_laws.proofs.Joins.{IsBefore, IsStopping, before_then, read_then, stopping_then, before_is, Are, are_first, are_last, are_inside, tokens_read}
use Rattle.module_laws.proofs.Signs.{nothing, newline, four, any_comma_line, attribute_opening, arguments_opening, attribute_closing}

abbrev P : List Tok → List Piece
P ts = pieces_of ts

-- ---- groups

parens_are : (ts : List Tok) (at : Span) → P (group Parenthesis (toks_of ts) at ∷ []) ≡ opens Parenthesis ∷ (P ts ++ closes Parenthesis ∷ [])
parens_are ts at = append-nil _ ∙ ap (λ z. opens Parenthesis ∷ (z ++ closes Parenthesis ∷ [])) (inner_pieces_of ts)

brackets_are : (ts : List Tok) → P (within_brackets ts ∷ []) ≡ opens Bracket ∷ (P ts ++ closes Bracket ∷ [])
brackets_are ts = append-nil _ ∙ ap (λ z. opens Bracket ∷ (z ++ closes Bracket ∷ [])) (inner_pieces_of ts)

-- ---- a list

abbrev grouped : List Tok → Span → List Tok
grouped ts at = group Parenthesis (toks_of ts) at ∷ []

abbrev inner_of : PathD → List Tok → Span → List Tok
inner_of p ts at = print_path p ++ grouped ts at

abbrev ends : List Piece
ends = closes Parenthesis ∷ closes Bracket ∷ []

module _ (p : PathD) (ts : List Tok) (at : Span) where
  inner_are : P (inner_of p ts at) ++ closes Bracket ∷ [] ≡ P (print_path p) ++ (opens Parenthesis ∷ (P ts ++ ends))
  inner_are =
      ap (λ z. z ++ closes Bracket ∷ []) (pieces_of_append (print_path p) (grouped ts at) ∙ ap (λ z. P (print_path p) ++ z) (parens_are ts at))
      ∙ append_assoc (P (print_path p)) (opens Parenthesis ∷ (P ts ++ closes Parenthesis ∷ [])) (closes Bracket ∷ [])
      ∙ ap (λ z. P (print_path p) ++ (opens Parenthesis ∷ z)) (append_assoc (P ts) (closes Parenthesis ∷ []) (closes Bracket ∷ []))

  list_is : sign 35 Alone ∷ opens Bracket ∷ (P (print_path p) ++ (opens Parenthesis ∷ (P ts ++ ends))) ≡ P (print_attribute (meta_list p ts at))
  list_is = ap (λ z. sign 35 Alone ∷ opens Bracket ∷ z) (sym inner_are) ∙ ap (λ z. sign 35 Alone ∷ z) (sym (brackets_are (inner_of p ts at)))

  are_inner : Are (print_attribute (meta_list p ts at)) → Are (inner_of p ts at)
  are_inner h = are_inside (opens Bracket) (closes Bracket) (inner_of p ts at) (within_brackets (inner_of p ts at) ∷ []) (brackets_are (inner_of p ts at)) h.1

  are_arguments : Are (inner_of p ts at) → Are ts
  are_arguments h = are_inside (opens Parenthesis) (closes Parenthesis) ts (grouped ts at) (parens_are ts at) (are_last (print_path p) (grouped ts at) h)

-- ---- arguments

comma_case : (c : ℕ) (j : Spacing) → eqb c 44 ≡ true → IsStopping (codes ",\n") (sign c j ∷ [])
comma_case c j e = elim (eqb_tells c 44) [
  | inl same ↦ subst (λ (d : ℕ). IsStopping (codes ",\n") (sign d j ∷ [])) (sym same.1) (any_comma_line j)
  | inr other ↦ absurd (true≢false (sym e ∙ other.0))
]

comma_reads : (t : Tok) → is_comma t ≡ true → IsStopping (codes ",\n") (pieces t)
comma_reads (word x s) e = absurd (true≢false (sym e))
comma_reads (mark c j s) e = comma_case c j e
comma_reads (fixed l s) e = absurd (true≢false (sym e))
comma_reads (group d ts s) e = absurd (true≢false (sym e))

abbrev AreRead : List ℕ → List Tok → Type 0
AreRead indent ts = (begun : List Tok) → Are (begun ++ ts) → IsBefore (argument_lines indent begun ts) (P (begun ++ ts))

module _ (indent : List ℕ) (k : IsBefore indent []) where
  argument_reads : (ts : List Tok) (end : List ℕ) (xs : List Piece) → Are ts → IsStopping end xs → IsBefore (argument_line indent ts end) (P ts ++ xs)
  argument_reads ts end xs h s =
      before_then indent (codes "    " ++ (tokens_text ts ++ end)) [] (P ts ++ xs) k
      (before_then (codes "    ") (tokens_text ts ++ end) [] (P ts ++ xs) four (read_then (tokens_text ts) end (P ts) xs (tokens_read ts h) s))

  arguments_case : (begun : List Tok) (t : Tok) (ts : List Tok) → AreRead indent ts → Are (begun ++ (t ∷ ts)) → (b : Bool) → is_comma t ≡ b
      → IsBefore (if b then argument_line indent begun (codes ",\n") ++ argument_lines indent [] ts else argument_lines indent (begun ++ t ∷ []) ts) (P (begun ++ (t ∷ ts)))
  arguments_case begun t ts rest h true e =
      before_is (argument_line indent begun (codes ",\n") ++ argument_lines indent [] ts) ((P begun ++ pieces t) ++ P ts) (P (begun ++ (t ∷ ts)))
      (append_assoc (P begun) (pieces t) (P ts) ∙ sym (pieces_of_append begun (t ∷ ts)))
      (before_then (argument_line indent begun (codes ",\n")) (argument_lines indent [] ts) (P begun ++ pieces t) (P ts)
      (argument_reads begun (codes ",\n") (pieces t) (are_first begun (t ∷ ts) h) (comma_reads t e))
      (rest [] (are_last (t ∷ []) ts (are_last begun (t ∷ ts) h))))
  arguments_case begun t ts rest h false e =
      let A : List Tok → Type 0 = Are in
      before_is (argument_lines indent (begun ++ t ∷ []) ts) (P ((begun ++ t ∷ []) ++ ts)) (P (begun ++ (t ∷ ts))) (ap (λ us. P us) (append_assoc begun (t ∷ []) ts))
      (rest (begun ++ t ∷ []) (subst A (sym (append_assoc begun (t ∷ []) ts)) h))

  arguments_read : (ts : List Tok) → AreRead indent ts
  arguments_read [] begun h =
      before_is (argument_lines indent begun []) (P begun ++ []) (P (begun ++ [])) (sym (pieces_of_append begun []))
      (argument_reads begun (codes "\n") [] (are_first begun [] h) newline)
  arguments_read (t ∷ ts) begun h = arguments_case begun t ts (arguments_read ts) h (is_comma t) refl

  -- ---- attributes

  plain_reads : (m : MetaD) → Are (print_attribute m) → IsBefore (plain_line indent m) (P (print_attribute m))
  plain_reads m h =
      before_then indent (attribute_text m ++ codes "\n") [] (P (print_attribute m)) k
      (before_is (attribute_text m ++ codes "\n") (P (print_attribute m) ++ []) (P (print_attribute m)) (append-nil (P (print_attribute m)))
      (read_then (attribute_text m) (codes "\n") (P (print_attribute m)) [] (tokens_read (print_attribute m) h) newline))

  broken_reads : (p : PathD) (ts : List Tok) (at : Span) → Are (print_attribute (meta_list p ts at)) → IsBefore (broken_lines indent p ts) (P (print_attribute (meta_list p ts at)))
  broken_reads p ts at h =
      let i = are_inner p ts at h in
      let Z : List Piece = opens Parenthesis ∷ (P ts ++ ends) in
      before_is (broken_lines indent p ts) (sign 35 Alone ∷ opens Bracket ∷ (P (print_path p) ++ Z)) (P (print_attribute (meta_list p ts at))) (list_is p ts at)
      (before_then indent (codes "#[" ++ (tokens_text (print_path p) ++ (codes "(\n" ++ (argument_lines indent [] ts ++ (indent ++ codes ")]\n"))))) [] (sign 35 Alone ∷ opens Bracket ∷ (P (print_path p) ++ Z)) k
      (before_then (codes "#[") (tokens_text (print_path p) ++ (codes "(\n" ++ (argument_lines indent [] ts ++ (indent ++ codes ")]\n")))) (sign 35 Alone ∷ opens Bracket ∷ []) (P (print_path p) ++ Z) attribute_opening
      (read_then (tokens_text (print_path p)) (codes "(\n" ++ (argument_lines indent [] ts ++ (indent ++ codes ")]\n"))) (P (print_path p)) Z (tokens_read (print_path p) (are_first (print_path p) (grouped ts at) i))
      (stopping_then (codes "(\n") (argument_lines indent [] ts ++ (indent ++ codes ")]\n")) (opens Parenthesis ∷ []) (P ts ++ ends) arguments_opening
      (before_then (argument_lines indent [] ts) (indent ++ codes ")]\n") (P ts) ends (arguments_read ts [] (are_arguments p ts at i))
      (before_then indent (codes ")]\n") [] ends k attribute_closing))))))

  list_case : (p : PathD) (ts : List Tok) (at : Span) → Are (print_attribute (meta_list p ts at)) → (b : Bool) → IsBefore (if b then broken_lines indent p ts else plain_line indent (meta_list p ts at)) (P (print_attribute (meta_list p ts at)))
  list_case p ts at h true = broken_reads p ts at h
  list_case p ts at h false = plain_reads (meta_list p ts at) h

  attribute_reads : (m : MetaD) → Are (print_attribute m) → IsBefore (attribute_line indent m) (P (print_attribute m))
  attribute_reads (meta_path p) h = plain_reads (meta_path p) h
  attribute_reads (meta_list p ts at) h = list_case p ts at h (is_wide indent (meta_list p ts at) ts)
  attribute_reads (meta_value p ts) h = plain_reads (meta_value p ts) h

  pub attributes_read : (ms : List MetaD) → Are (print_attributes ms) → IsBefore (attribute_lines indent ms) (P (print_attributes ms))
  attributes_read [] h = nothing
  attributes_read (m ∷ ms) h =
      before_is (attribute_lines indent (m ∷ ms)) (P (print_attribute m) ++ P (print_attributes ms)) (P (print_attributes (m ∷ ms))) (sym (pieces_of_append (print_attribute m) (print_attributes ms)))
      (before_then (attribute_line indent m) (attribute_lines indent ms) (P (print_attribute m)) (P (print_attributes ms))
      (attribute_reads m (are_first (print_attribute m) (print_attributes ms) h)) (attributes_read ms (are_last (print_attribute m) (print_attributes ms) h)))
