use Rattle.std.proofs.Common.{refl}
use Rattle.syntax_parsers.specs.Grammar.{output_body, path_body, trait_body, behind_body, qualified_body, expr_path_body, length_body, bracketed_body, reference_body, pointer_body, signature_body, function_body, some_bounds, path_ty, ty_body, tys_body, bound_body, bounds_body, arguments_body, segment_body, segments_body, generic_body, generics_body}
use Rattle.syntax_parsers.specs.Read.{levels}
use Rattle.syntax_parsers.specs.Where.{some_predicates, predicates_body, predicate_body, lifetime_predicate, type_predicate, behind_predicate, some_lifetimes, lifetimes_body}
use Rattle.syntax_parsers.specs.Whole.{predicates_of}
use Rattle.syntax_laws.specs.PredicateExamples.{spelled_predicates, unspelled_predicates}
use Rattle.syntax_laws.proofs.PredicatesWorked.{AllRead, NoneRead, all_spelled, none_spelled}
use Rattle.syntax_laws.proofs.predicates.worked_predicates_are_spelled.Goals as goal

read : AllRead spelled_predicates
unfolding predicates_of some_predicates predicates_body predicate_body lifetime_predicate type_predicate behind_predicate some_lifetimes lifetimes_body levels output_body path_body trait_body behind_body qualified_body expr_path_body length_body bracketed_body reference_body pointer_body signature_body function_body some_bounds path_ty ty_body tys_body bound_body bounds_body arguments_body segment_body segments_body generic_body generics_body
read = (refl, (refl, (refl, (refl, (refl, (refl, (refl, (refl, (refl, (refl, (refl, (refl, (refl, tt)))))))))))))

unread : NoneRead unspelled_predicates
unfolding predicates_of some_predicates predicates_body predicate_body lifetime_predicate type_predicate behind_predicate some_lifetimes lifetimes_body levels output_body path_body trait_body behind_body qualified_body expr_path_body length_body bracketed_body reference_body pointer_body signature_body function_body some_bounds path_ty ty_body tys_body bound_body bounds_body arguments_body segment_body segments_body generic_body generics_body
unread = ((λ e. absurd (cc)), ((λ e. absurd (cc)), ((λ e. absurd (cc)), ((λ e. absurd (cc)), ((λ e. absurd (cc)), ((λ e. absurd (cc)), ((λ e. absurd (cc)), tt)))))))

pub returns : goal.returns
returns c = (all_spelled spelled_predicates read, none_spelled unspelled_predicates unread)
