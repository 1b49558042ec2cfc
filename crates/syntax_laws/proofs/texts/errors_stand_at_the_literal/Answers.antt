use Rattle.std.proofs.Common.{◌≡◌, ap, sym, subst, inl, inr}
use Rattle.std.specs.Prelude.{Ok, Err}
use Rattle.syntax_trees.specs.Syntax.{LitStrD}
use Rattle.syntax_trees.specs.View.{ty, path_view, expr_path_view}
use Rattle.syntax_trees.specs.declared.cursor.SyntaxError.{SyntaxError}
use Rattle.syntax_parsers.specs.declared.fault.ParseFault.TheVariants.{Memory, Syntax}
use Rattle.syntax_parsers.specs.Lifetimes.{lifetimes_of}
use Rattle.syntax_parsers.specs.Whole.{type_of, path_of, expr_path_of, predicates_of}
use Rattle.syntax_texts.specs.Texts.{WholeReader, IsFaultOf}
use Rattle.syntax_laws.specs.Kinds.{PlaceTold}
use Rattle.syntax_laws.specs.TextSpelling.{predicate_views, lifetime_views}
use Rattle.syntax_laws.proofs.TextsExact.{answer_no_fault, no_memory, syntax_same}
use Rattle.syntax_laws.proofs.PlacesExact.{ErrsThere, type_there, path_there, expr_path_there, predicates_there, lifetimes_there}
use Rattle.syntax_laws.proofs.texts.errors_stand_at_the_literal.Goals as goal

fault_there : {A : Type 0} → (read : WholeReader A) → ErrsThere read → (l : LitStrD) (e : SyntaxError) → IsFaultOf read l (Syntax e) → e.span ≡ l.span
fault_there read n l e (inl k) = n l.span k.0 k.1.written e k.2
fault_there read n l e (inr k) = ap (λ z. z.span) k.1

there : {X A : Type 0} → (view : X → A) (read : WholeReader A) → ErrsThere read → PlaceTold view read
there view read n l (Ok y) e m q = absurd (answer_no_fault y (Syntax e) q)
there {X} view read n l (Err Memory) e m q = absurd (no_memory {X = X} e (sym q))
there {X} view read n l (Err (Syntax f)) e m q = subst (λ z. z.span ≡ l.span) (syntax_same {X = X} f e q) (fault_there read n l f m.1)

pub returns : goal.returns
returns c = (
  there ty type_of type_there,
  there path_view path_of path_there,
  there expr_path_view expr_path_of expr_path_there,
  there predicate_views predicates_of predicates_there,
  there lifetime_views (λ _. lifetimes_of) lifetimes_there,
)
