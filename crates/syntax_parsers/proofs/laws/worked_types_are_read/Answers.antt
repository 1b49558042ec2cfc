use Rattle.std.proofs.Common.{refl}
use Rattle.syntax_parsers.specs.Grammar.{output_body, path_body, trait_body, behind_body, qualified_body, expr_path_body, length_body, bracketed_body, reference_body, pointer_body, signature_body, function_body, some_bounds, path_ty, ty_body, tys_body, bound_body, bounds_body, arguments_body, segment_body, segments_body, generic_body, generics_body}
use Rattle.syntax_parsers.specs.Read.{levels}
use Rattle.syntax_parsers.proofs.laws.worked_types_are_read.Goals as goal

pub returns : goal.returns
unfolding levels output_body path_body trait_body behind_body qualified_body expr_path_body length_body bracketed_body reference_body pointer_body signature_body function_body some_bounds path_ty ty_body tys_body bound_body bounds_body arguments_body segment_body segments_body generic_body generics_body
returns c = (refl, refl, refl, refl, refl, refl, refl, refl, refl, refl, refl, refl, refl, refl, refl, refl, refl, refl, refl, refl, refl, refl, refl, refl, refl, refl)
