use Rattle.std.proofs.Common.{◌≡◌, ◌≢◌, List, ap, sym, subst, inl, inr}
use Rattle.std.specs.Prelude.{◌↔◌, Ok, Err}
use Rattle.token_trees.specs.declared.token.Span.{Span}
use Rattle.token_trees.specs.Token.{Tok}
use Rattle.syntax_trees.specs.Syntax.{LitStrD}
use Rattle.syntax_trees.specs.View.{ty, path_view, expr_path_view}
use Rattle.syntax_trees.specs.declared.cursor.SyntaxKind.TheVariants.{Lex}
use Rattle.syntax_trees.specs.declared.cursor.SyntaxError.{SyntaxError}
use Rattle.syntax_parsers.specs.declared.fault.ParseFault.TheVariants.{Memory, Syntax}
use Rattle.syntax_parsers.specs.Lifetimes.{lifetimes_of}
use Rattle.syntax_parsers.specs.Whole.{type_of, path_of, expr_path_of, predicates_of}
use Rattle.syntax_texts.specs.Texts.{WholeReader, HasNoTokens, IsFaultOf}
use Rattle.syntax_laws.specs.Kinds.{HasTokens, KindTold}
use Rattle.syntax_laws.specs.TextSpelling.{predicate_views, lifetime_views}
use Rattle.syntax_laws.proofs.TextsExact.{no_tokens, answer_no_fault, no_memory, syntax_same}
use Rattle.syntax_laws.proofs.KindsExact.{NoLex, type_told, whole_path_told, whole_expr_path_told, whole_predicates_told, lifetimes_told}
use Rattle.syntax_laws.proofs.texts.kinds_are_told_exactly.Goals as goal

abbrev IsToldAt : LitStrD → SyntaxError → Type 0
IsToldAt l e = ((e.kind ≡ Lex) ↔ HasNoTokens l) × ((e.kind ≢ Lex) ↔ HasTokens l)

fault_told : {A : Type 0} → (read : WholeReader A) → ((at : Span) (ts : List Tok) → NoLex (read at ts)) → (l : LitStrD) (e : SyntaxError) → IsFaultOf read l (Syntax e) → IsToldAt l e
fault_told read n l e (inl k) =
    let d = n l.span k.0 e k.2 in
    ((λ i. absurd (d i), λ h. absurd (no_tokens l k.0 k.1 h)), (λ i. (k.0, k.1), λ h. d))
fault_told read n l e (inr k) =
    let i : e.kind ≡ Lex = ap (λ z. z.kind) k.1 in
    ((λ j. k.0, λ h. i), (λ d. absurd (d i), λ h. absurd (no_tokens l h.0 h.1 k.0)))

told : {X A : Type 0} → (view : X → A) (read : WholeReader A) → ((at : Span) (ts : List Tok) → NoLex (read at ts)) → KindTold view read
told view read n l (Ok y) e m q = absurd (answer_no_fault y (Syntax e) q)
told {X} view read n l (Err Memory) e m q = absurd (no_memory {X = X} e (sym q))
told {X} view read n l (Err (Syntax s)) e m q = subst (IsToldAt l) (syntax_same {X = X} s e q) (fault_told read n l s m.1)

pub returns : goal.returns
returns c = (
  told ty type_of type_told,
  told path_view path_of whole_path_told,
  told expr_path_view expr_path_of whole_expr_path_told,
  told predicate_views predicates_of whole_predicates_told,
  told lifetime_views (λ _. lifetimes_of) lifetimes_told,
)
