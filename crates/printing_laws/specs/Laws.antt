-- A tree each identifier, literal and embedded stream of which some text has is printed as tokens that some text has.
use Rattle.std.specs.Prelude.{List, false}
use Rattle.syntax_trees.specs.Syntax.{LifetimeD, TyD, PathD, ExprD, ExprPathD, Bounds}
use Rattle.syntax_trees.specs.Item.{PredicateD}
use Rattle.syntax_printing.specs.Print.{print_ty, print_path, print_expr_path, print_expr, print_bounds}
use Rattle.syntax_printing.specs.PrintPredicates.{print_lifetimes, print_predicates}
use Rattle.syntax_laws.specs.RoundTrip.{AreOfText}
use Rattle.printing_laws.specs.Parts.{TyParts, PathParts, ExprPathParts, ExprParts, BoundsParts, PredicatesParts, LifetimesParts}

pub record PrintingsAreOfText : Type 0 where
  pub types : (t : TyD) → TyParts t → AreOfText (print_ty t)
  pub paths : (p : PathD) → PathParts p → AreOfText (print_path p)
  pub expr_paths : (p : ExprPathD) → ExprPathParts p → AreOfText (print_expr_path p)
  pub exprs : (e : ExprD) → ExprParts e → AreOfText (print_expr e)
  pub bounds : (bs : Bounds) → BoundsParts bs → AreOfText (print_bounds false bs)
  pub predicates : (ps : List PredicateD) → PredicatesParts ps → AreOfText (print_predicates false ps)
  pub lifetimes : (ls : List LifetimeD) → LifetimesParts ls → AreOfText (print_lifetimes false ls)
