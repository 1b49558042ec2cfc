use Rattle.std.proofs.Common.{refl, lit<}
use Rattle.syntax_parsers.specs.Grammar.{output_body, path_body, trait_body, behind_body, qualified_body, expr_path_body, length_body, bracketed_body, reference_body, pointer_body, signature_body, function_body, some_bounds, path_ty, ty_body, tys_body, bound_body, bounds_body, arguments_body, segment_body, segments_body, generic_body, generics_body}
use Rattle.syntax_parsers.specs.Read.{levels}
use Rattle.syntax_parsers.specs.SpellingExamples.{spelled, unspelled}
use Rattle.syntax_parsers.proofs.spelling.Worked.{AllRead, NoneRead, all_spelled, none_spelled}
use Rattle.syntax_parsers.proofs.laws.worked_types_are_spelled.Goals as goal

read : AllRead spelled
unfolding levels output_body path_body trait_body behind_body qualified_body expr_path_body length_body bracketed_body reference_body pointer_body signature_body function_body some_bounds path_ty ty_body tys_body bound_body bounds_body arguments_body segment_body segments_body generic_body generics_body
read = (lit< tt, refl, (lit< tt, refl, (lit< tt, refl, (lit< tt, refl, (lit< tt, refl, (lit< tt, refl, (lit< tt, refl, (lit< tt, refl, (lit< tt, refl, (lit< tt, refl, (lit< tt, refl, (lit< tt, refl, (lit< tt, refl, (lit< tt, refl, (lit< tt, refl, (lit< tt, refl, (lit< tt, refl, (lit< tt, refl, (lit< tt, refl, (lit< tt, refl, (lit< tt, refl, (lit< tt, refl, (lit< tt, refl, (lit< tt, refl, (lit< tt, refl, (lit< tt, refl, (lit< tt, refl, (lit< tt, refl, (lit< tt, refl, (lit< tt, refl, (lit< tt, refl, (lit< tt, refl, (lit< tt, refl, (lit< tt, refl, (lit< tt, refl, (lit< tt, refl, (lit< tt, refl, (lit< tt, refl, (lit< tt, refl, (lit< tt, refl, (lit< tt, refl, (lit< tt, refl, (lit< tt, refl, (lit< tt, refl, (lit< tt, refl, (lit< tt, refl, (lit< tt, refl, (lit< tt, refl, (lit< tt, refl, (lit< tt, refl, (lit< tt, refl, (lit< tt, refl, (lit< tt, refl, tt)))))))))))))))))))))))))))))))))))))))))))))))))))))

unread : NoneRead unspelled
unfolding levels output_body path_body trait_body behind_body qualified_body expr_path_body length_body bracketed_body reference_body pointer_body signature_body function_body some_bounds path_ty ty_body tys_body bound_body bounds_body arguments_body segment_body segments_body generic_body generics_body
unread = (lit< tt, (λ e. absurd (cc)), (lit< tt, (λ e. absurd (cc)), (lit< tt, (λ e. absurd (cc)), (lit< tt, (λ e. absurd (cc)), (lit< tt, (λ e. absurd (cc)), (lit< tt, (λ e. absurd (cc)), (lit< tt, (λ e. absurd (cc)), (lit< tt, (λ e. absurd (cc)), (lit< tt, (λ e. absurd (cc)), (lit< tt, (λ e. absurd (cc)), (lit< tt, (λ e. absurd (cc)), (lit< tt, (λ e. absurd (cc)), (lit< tt, (λ e. absurd (cc)), (lit< tt, (λ e. absurd (cc)), (lit< tt, (λ e. absurd (cc)), (lit< tt, (λ e. absurd (cc)), (lit< tt, (λ e. absurd (cc)), (lit< tt, (λ e. absurd (cc)), tt))))))))))))))))))

pub returns : goal.returns
returns c = (all_spelled spelled read, none_spelled unspelled unread)
